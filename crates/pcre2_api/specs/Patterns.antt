-- Patterns as they are searched for: text → what is read → pattern, and with a subject and a start → what a search is
-- about.
use Rattle.std.specs.Prelude.{ℕ, true, List, pos, Option, Some, None, Result, Ok, Err}
use Rattle.uni_text.specs.Sets.{word}
use Rattle.pat_tree.specs.declared.options.Options.{Options}
use Rattle.pat_tree.specs.declared.options.MatchOptions.{MatchOptions}
use Rattle.pat_tree.specs.Pattern.{Pattern}
use Rattle.match_items.specs.Views.{fold_in}
use Rattle.token_parts.specs.declared.fault.Fault.{Fault}
use Rattle.token_parts.specs.Tell.{◌>>=◌}
use Rattle.pat_build.specs.Reading.{Parsed, read}
use Rattle.pat_lengths.specs.Lookbehinds.{lookbehinds, first_refused}
use Rattle.pat_lengths.specs.declared.backs.LengthFault.{LengthFault}
use Rattle.ordered_search.specs.Setting.{Setting, setting_of}

-- What a search of a subject from a place on is about: folding is that of Unicode in UTF and else that of ASCII, and
-- word characters under UCP are those of Unicode. Callouts are passed over.
abbrev pub setting : Pattern → MatchOptions → List ℕ → ℕ → Setting
setting p matching subject start =
    setting_of p matching subject start (fold_in p.options.utf) (word true) (λ block. pos 0)

-- the first lookbehind of what was read that is refused, from left to right (pcre2pattern, "Lookbehind assertions")
abbrev pub fault_behind : Parsed → Option LengthFault
fault_behind parsed =
    first_refused parsed.options.match_unset_backref parsed.tree (lookbehinds parsed.tree parsed.places)

abbrev pub unless_refused : Pattern → Option LengthFault → Result Pattern Fault
unless_refused p None = Ok p
unless_refused p (Some fault) = Err (record { number = fault.number; at = fault.at })

-- A pattern, or the fault for which it is refused: the first of its text, or else that of its lookbehinds.
abbrev pub compiled : Options → List ℕ → Result Pattern Fault
compiled options text = read options text >>= λ parsed. unless_refused parsed.pattern (fault_behind parsed)
