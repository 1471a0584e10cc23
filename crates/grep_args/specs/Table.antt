-- How each option is written, and which it is (pcre2grep, "OPTIONS").
use Rattle.std.specs.Prelude.{ℕ, Bool, List, [], ◌∷◌, ◌++◌, Option, codes, bytes_eq, find, nat_eq}
use Rattle.std.specs.List.{list_any}
use Rattle.std.specs.Option.{option_map}
use Rattle.grep_args.specs.declared.plan.BinaryMode.TheVariants as binary
use Rattle.grep_args.specs.declared.plan.NameMode.TheVariants as names
use Rattle.grep_args.specs.declared.plan.OffsetMode.TheVariants as offsets
use Rattle.grep_args.specs.declared.plan.HelpKind.TheVariants as help
use Rattle.grep_args.specs.declared.options.Flag.TheVariants as flag
use Rattle.grep_args.specs.declared.options.NumberOption.TheVariants as number
use Rattle.grep_args.specs.declared.options.FilterOption.TheVariants as filter
use Rattle.grep_args.specs.declared.options.PlainOption.TheVariants.{Switch, Names, Binary, Offsets, Help, NoEffect}
use Rattle.grep_args.specs.declared.options.ValuedOption.TheVariants.{Number, Filter, Regex, File, Label}
use Rattle.grep_args.specs.declared.options.ValuedOption.TheVariants.{OmSeparator, BinaryFiles, Newline}
use Rattle.grep_args.specs.declared.options.GrepOption.{GrepOption}
use Rattle.grep_args.specs.declared.options.GrepOption.TheVariants.{Plain, OnlyMatching, Valued}

-- an option with its letter, if it has one, and its long names
pub record Row : Type 0 where
  pub letters : List ℕ
  pub names : List (List ℕ)
  pub option : GrepOption

abbrev pub row : List ℕ → List (List ℕ) → GrepOption → Row
row letters names option = record { letters = letters; names = names; option = option }

abbrev pub one : List ℕ → List (List ℕ)
one name = name ∷ []

-- the rows before that of `label`, and those from it on
abbrev pub early_rows : List Row
early_rows =
    row (codes "A") (one (codes "after-context")) (Valued (Number number.AfterContext))
    ∷ row (codes "B") (one (codes "before-context")) (Valued (Number number.BeforeContext))
    ∷ row (codes "C") (one (codes "context")) (Valued (Number number.Context))
    ∷ row (codes "a") (one (codes "text")) (Plain (Binary binary.Text))
    ∷ row (codes "I") [] (Plain (Binary binary.WithoutMatch))
    ∷ row [] (one (codes "binary-files")) (Valued BinaryFiles)
    ∷ row (codes "c") (one (codes "count")) (Plain (Switch flag.Count))
    ∷ row (codes "t") (one (codes "total-count")) (Plain (Switch flag.TotalCount))
    ∷ row (codes "e") (codes "regex" ∷ codes "regexp" ∷ []) (Valued Regex)
    ∷ row (codes "f") (one (codes "file")) (Valued File)
    ∷ row (codes "F") (one (codes "fixed-strings")) (Plain (Switch flag.FixedStrings))
    ∷ row (codes "H") (one (codes "with-filename")) (Plain (Names names.With))
    ∷ row (codes "h") (one (codes "no-filename")) (Plain (Names names.Without))
    ∷ row (codes "i") (one (codes "ignore-case")) (Plain (Switch flag.IgnoreCase))
    ∷ row (codes "u") (one (codes "utf")) (Plain (Switch flag.Utf))
    ∷ row (codes "l") (one (codes "files-with-matches")) (Plain (Names names.Matching))
    ∷ row (codes "L") (one (codes "files-without-match")) (Plain (Names names.NotMatching))
    ∷ []

abbrev pub later_rows : List Row
later_rows =
    row [] (one (codes "label")) (Valued Label)
    ∷ row [] (one (codes "line-offsets")) (Plain (Offsets offsets.Lines))
    ∷ row [] (one (codes "file-offsets")) (Plain (Offsets offsets.File))
    ∷ row [] (one (codes "match-limit")) (Valued (Number number.MatchLimit))
    ∷ row [] (one (codes "frame-limit")) (Valued (Number number.FrameLimit))
    ∷ row [] (one (codes "max-buffer-size")) (Valued (Number number.MaxBufferSize))
    ∷ row (codes "m") (one (codes "max-count")) (Valued (Number number.MaxCount))
    ∷ row (codes "N") (one (codes "newline")) (Valued Newline)
    ∷ row (codes "n") (one (codes "line-number")) (Plain (Switch flag.LineNumber))
    ∷ row (codes "o") (one (codes "only-matching")) OnlyMatching
    ∷ row [] (one (codes "om-separator")) (Valued OmSeparator)
    ∷ row (codes "q") (one (codes "quiet")) (Plain (Switch flag.Quiet))
    ∷ row (codes "r") (one (codes "recursive")) (Plain (Switch flag.Recursive))
    ∷ row [] (one (codes "include")) (Valued (Filter filter.Include))
    ∷ row [] (one (codes "exclude")) (Valued (Filter filter.Exclude))
    ∷ row [] (one (codes "include-dir")) (Valued (Filter filter.IncludeDir))
    ∷ row [] (one (codes "exclude-dir")) (Valued (Filter filter.ExcludeDir))
    ∷ row (codes "s") (one (codes "no-messages")) (Plain (Switch flag.NoMessages))
    ∷ row (codes "v") (one (codes "invert-match")) (Plain (Switch flag.InvertMatch))
    ∷ row (codes "w") (codes "word-regex" ∷ codes "word-regexp" ∷ []) (Plain (Switch flag.WordRegex))
    ∷ row (codes "x") (codes "line-regex" ∷ codes "line-regexp" ∷ []) (Plain (Switch flag.LineRegex))
    ∷ row [] (one (codes "buffer-size")) (Valued (Number number.BufferSize))
    ∷ row [] (codes "line-buffered" ∷ codes "no-jit" ∷ []) (Plain NoEffect)
    ∷ row [] (one (codes "help")) (Plain (Help help.Help))
    ∷ row (codes "V") (one (codes "version")) (Plain (Help help.Version))
    ∷ []

abbrev pub table : List Row
table = early_rows ++ later_rows

abbrev pub has_letter : ℕ → Row → Bool
has_letter letter r = list_any (nat_eq letter) r.letters

abbrev pub has_name : List ℕ → Row → Bool
has_name name r = list_any (bytes_eq name) r.names

-- the option of a letter, and that of a long name
abbrev pub by_letter : ℕ → Option GrepOption
by_letter letter = option_map (λ (r : Row). r.option) (find (has_letter letter) table)

abbrev pub by_name : List ℕ → Option GrepOption
by_name name = option_map (λ (r : Row). r.option) (find (has_name name) table)

-- that of a long name of the later rows
abbrev pub by_later_name : List ℕ → Option GrepOption
by_later_name name = option_map (λ (r : Row). r.option) (find (has_name name) later_rows)
