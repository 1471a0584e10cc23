-- What each option does to the plan (pcre2grep, "OPTIONS").
use Rattle.std.specs.Prelude.{ℕ, List, [], ◌∷◌, ◌++◌, Bool, true, false, ◌&&◌, ◌||◌, Option, Some, None, Result, Ok}
use Rattle.std.specs.Prelude.{Err, codes, bytes_eq, nat_le, if◌then◌else◌}
use Rattle.std.specs.Option.{option_or, ok_or}
use Rattle.pat_tree.specs.declared.options.Newline.TheVariants.{Lf}
use Rattle.pat_tree.specs.Newlines.{newline_in_any_case}
use Rattle.grep_args.specs.declared.plan.BinaryMode.{BinaryMode}
use Rattle.grep_args.specs.declared.plan.BinaryMode.TheVariants as binary
use Rattle.grep_args.specs.declared.plan.NameMode.TheVariants.{Auto}
use Rattle.grep_args.specs.declared.plan.OffsetMode.{OffsetMode}
use Rattle.grep_args.specs.declared.plan.OffsetMode.TheVariants.{NoOffsets, Lines, File}
use Rattle.grep_args.specs.declared.plan.GrepPlan.{GrepPlan}
use Rattle.grep_args.specs.declared.usage.UsageKind.{UsageKind}
use Rattle.grep_args.specs.declared.usage.UsageKind.TheVariants.{BadNumber, BadValue, Exclude}
use Rattle.grep_args.specs.declared.options.Flag.{Flag}
use Rattle.grep_args.specs.declared.options.Flag.TheVariants.{Count, TotalCount, FixedStrings, IgnoreCase, Utf}
use Rattle.grep_args.specs.declared.options.Flag.TheVariants.{LineNumber, Quiet, NoMessages, InvertMatch, WordRegex}
use Rattle.grep_args.specs.declared.options.Flag.TheVariants.{LineRegex, Recursive}
use Rattle.grep_args.specs.declared.options.PlainOption.{PlainOption}
use Rattle.grep_args.specs.declared.options.PlainOption.TheVariants.{Switch, Names, Binary, Offsets, Help, NoEffect}
use Rattle.grep_args.specs.declared.options.NumberOption.{NumberOption}
use Rattle.grep_args.specs.declared.options.NumberOption.TheVariants.{AfterContext, BeforeContext, Context}
use Rattle.grep_args.specs.declared.options.NumberOption.TheVariants.{MatchLimit, FrameLimit, BufferSize}
use Rattle.grep_args.specs.declared.options.NumberOption.TheVariants.{MaxBufferSize, MaxCount}
use Rattle.grep_args.specs.declared.options.FilterOption.{FilterOption}
use Rattle.grep_args.specs.declared.options.FilterOption.TheVariants as filter
use Rattle.grep_args.specs.declared.options.ValuedOption.{ValuedOption}
use Rattle.grep_args.specs.declared.options.ValuedOption.TheVariants as valued
use Rattle.grep_args.specs.Numbers.{number_of, greatest}

-- the plan of no options
abbrev pub unset : GrepPlan
unset = record {
  patterns = [];
  pattern_files = [];
  files_from = 0;
  after_context = 0;
  before_context = 0;
  binary = binary.Binary;
  names = Auto;
  label = codes "(standard input)";
  only_matching = [];
  om_separator = [];
  offsets = NoOffsets;
  count = false;
  total_count = false;
  fixed_strings = false;
  ignore_case = false;
  utf = false;
  line_number = false;
  quiet = false;
  no_messages = false;
  invert_match = false;
  word_regex = false;
  line_regex = false;
  match_limit = 10000000;
  frame_limit = 10000000;
  max_buffer_size = 1048576;
  max_count = None;
  newline = Lf;
  help = None;
  recursive = false;
  include = [];
  exclude = [];
  include_dir = [];
  exclude_dir = [];
}

infixl 10 ◌>>=◌
-- what follows a success
abbrev pub ◌>>=◌ : {A B E : Type 0} → Result A E → (A → Result B E) → Result B E
Ok found >>= rest = rest found
Err fault >>= rest = Err fault

-- an option changes the plan or is at fault
abbrev pub Effect : Type 0
Effect = GrepPlan → Result GrepPlan UsageKind

abbrev pub switched : Flag → GrepPlan → GrepPlan
switched Count plan = record plan { count = true }
switched TotalCount plan = record plan { total_count = true }
switched FixedStrings plan = record plan { fixed_strings = true }
switched IgnoreCase plan = record plan { ignore_case = true }
switched Utf plan = record plan { utf = true }
switched LineNumber plan = record plan { line_number = true }
switched Quiet plan = record plan { quiet = true }
switched NoMessages plan = record plan { no_messages = true }
switched InvertMatch plan = record plan { invert_match = true }
switched WordRegex plan = record plan { word_regex = true }
switched LineRegex plan = record plan { line_regex = true }
switched Recursive plan = record plan { recursive = true }

-- more than one of `-o`, `--line-offsets` and `--file-offsets` is a fault
abbrev pub is_empty : List ℕ → Bool
is_empty [] = true
is_empty (n ∷ ns) = false

abbrev pub no_offsets : OffsetMode → Bool
no_offsets NoOffsets = true
no_offsets _ = false

abbrev pub same_offsets : OffsetMode → OffsetMode → Bool
same_offsets NoOffsets NoOffsets = true
same_offsets Lines Lines = true
same_offsets File File = true
same_offsets _ _ = false

abbrev pub offsets_shown : OffsetMode → Effect
offsets_shown mode plan =
    if is_empty plan.only_matching && (no_offsets plan.offsets || same_offsets plan.offsets mode) then Ok
    (record plan { offsets = mode })
    else Err Exclude

abbrev pub group_shown : ℕ → Effect
group_shown n plan =
    if no_offsets plan.offsets then Ok (record plan { only_matching = plan.only_matching ++ n ∷ [] })
    else Err Exclude

-- of `--help` and `-V` the first given decides
abbrev pub plain_effect : PlainOption → Effect
plain_effect (Switch flag) plan = Ok (switched flag plan)
plain_effect (Names mode) plan = Ok (record plan { names = mode })
plain_effect (Binary mode) plan = Ok (record plan { binary = mode })
plain_effect (Offsets mode) plan = offsets_shown mode plan
plain_effect (Help kind) plan = Ok (record plan { help = option_or plan.help (Some kind) })
plain_effect NoEffect plan = Ok plan

-- a value that is a number from `low` to `high`
abbrev pub within : ℕ → ℕ → Option ℕ → Result ℕ UsageKind
within low high None = Err BadNumber
within low high (Some n) = if nat_le low n && nat_le n high then Ok n else Err BadValue

abbrev pub ranged : ℕ → ℕ → List ℕ → Result ℕ UsageKind
ranged low high text = within low high (number_of text)

abbrev pub number_effect : NumberOption → List ℕ → Effect
number_effect AfterContext text plan = ranged 0 greatest text >>= λ n. Ok (record plan { after_context = n })
number_effect BeforeContext text plan = ranged 0 greatest text >>= λ n. Ok (record plan { before_context = n })
number_effect Context text plan = ranged 0 greatest text >>= λ n. Ok
    (record plan { after_context = n; before_context = n })
number_effect MatchLimit text plan = ranged 0 greatest text >>= λ n. Ok (record plan { match_limit = n })
number_effect FrameLimit text plan = ranged 0 greatest text >>= λ n. Ok (record plan { frame_limit = n })
number_effect BufferSize text plan = ranged 0 greatest text >>= λ n. Ok plan
number_effect MaxBufferSize text plan = ranged 1 1073741824 text >>= λ n. Ok (record plan { max_buffer_size = n })
number_effect MaxCount text plan = ranged 1 greatest text >>= λ n. Ok (record plan { max_count = Some n })

-- a value that is one of a list of words
abbrev pub listed : {A : Type 0} → Option A → Result A UsageKind
listed choice = ok_or choice BadValue

abbrev pub binary_of : List ℕ → Option BinaryMode
binary_of word =
    if bytes_eq word (codes "binary") then Some binary.Binary
    else if bytes_eq word (codes "text") then Some binary.Text
    else if bytes_eq word (codes "without-match") then Some binary.WithoutMatch
    else None

-- the patterns for names add up
abbrev pub filter_effect : FilterOption → List ℕ → GrepPlan → GrepPlan
filter_effect filter.Include text plan = record plan { include = plan.include ++ text ∷ [] }
filter_effect filter.Exclude text plan = record plan { exclude = plan.exclude ++ text ∷ [] }
filter_effect filter.IncludeDir text plan = record plan { include_dir = plan.include_dir ++ text ∷ [] }
filter_effect filter.ExcludeDir text plan = record plan { exclude_dir = plan.exclude_dir ++ text ∷ [] }

-- the last value counts; patterns and their files add up
abbrev pub value_effect : ValuedOption → List ℕ → Effect
value_effect (valued.Number option) text plan = number_effect option text plan
value_effect (valued.Filter option) text plan = Ok (filter_effect option text plan)
value_effect valued.Regex text plan = Ok (record plan { patterns = plan.patterns ++ text ∷ [] })
value_effect valued.File text plan = Ok (record plan { pattern_files = plan.pattern_files ++ text ∷ [] })
value_effect valued.Label text plan = Ok (record plan { label = text })
value_effect valued.OmSeparator text plan = Ok (record plan { om_separator = text })
value_effect valued.BinaryFiles text plan = listed (binary_of text) >>= λ mode. Ok (record plan { binary = mode })
value_effect valued.Newline text plan = listed (newline_in_any_case text) >>= λ newline. Ok
    (record plan { newline = newline })

-- the number of a group, joined to `-o`
abbrev pub group_effect : List ℕ → Effect
group_effect text plan = ranged 0 greatest text >>= λ n. group_shown n plan
