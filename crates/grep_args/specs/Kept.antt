-- Options that are given one after the other.
use Rattle.std.specs.Prelude.{Bool, true, false}
use Rattle.grep_args.specs.Effects.{◌>>=◌, Effect}
use Rattle.grep_args.specs.declared.options.ValuedOption.{ValuedOption}
use Rattle.grep_args.specs.declared.options.ValuedOption.TheVariants.{Number, Filter, Regex, File, Label}
use Rattle.grep_args.specs.declared.options.ValuedOption.TheVariants.{OmSeparator, BinaryFiles, Newline}

-- the last value counts, but patterns and their files add up
abbrev pub keeps_one : ValuedOption → Bool
keeps_one (Number option) = true
keeps_one (Filter option) = false
keeps_one Regex = false
keeps_one File = false
keeps_one Label = true
keeps_one OmSeparator = true
keeps_one BinaryFiles = true
keeps_one Newline = true

abbrev pub in_turn : Effect → Effect → Effect
in_turn first last plan = first plan >>= last
