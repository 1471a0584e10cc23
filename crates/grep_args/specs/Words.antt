-- The plan of pcre2grep's words, or the first word at fault (pcre2grep, "OPTIONS" and "OPTIONS WITH DATA").
use Rattle.std.specs.Prelude.{◌≡◌, ⊤, ℕ, ◌+◌, ◌-◌, ◌==◌, List, [], ◌∷◌, Bool, true, false, ◌||◌, Option, Some, None}
use Rattle.std.specs.Prelude.{Result, Ok, Err, bytes_eq, slice_get, if◌then◌else◌}
use Rattle.std.specs.List.{list_any, before_first, after_first}
use Rattle.std.specs.Char.{is_ascii_digit}
use Rattle.grep_args.specs.declared.plan.GrepPlan.{GrepPlan}
use Rattle.grep_args.specs.declared.plan.HelpKind.{HelpKind}
use Rattle.grep_args.specs.declared.usage.ArgError.{ArgError}
use Rattle.grep_args.specs.declared.usage.ArgError.TheVariants.{Usage, Memory}
use Rattle.grep_args.specs.declared.usage.UsageKind.{UsageKind}
use Rattle.grep_args.specs.declared.usage.UsageKind.TheVariants.{UnknownOption, MissingValue, NoPattern}
use Rattle.grep_args.specs.declared.options.ValuedOption.{ValuedOption}
use Rattle.grep_args.specs.declared.options.GrepOption.{GrepOption}
use Rattle.grep_args.specs.declared.options.GrepOption.TheVariants.{Plain, OnlyMatching, Valued}
use Rattle.grep_args.specs.Table.{by_letter, by_name}
use Rattle.grep_args.specs.Effects.{◌>>=◌, unset, plain_effect, value_effect, group_shown, group_effect}

-- a fault, and the word that is told with it, counted from 0
pub record Fault : Type 0 where
  pub kind : UsageKind
  pub word : ℕ

abbrev pub Reads : Type 0 → Type 0
Reads A = Result A Fault

abbrev pub fault : {A : Type 0} → UsageKind → ℕ → Reads A
fault kind word = Err (record { kind = kind; word = word })

-- the fault of an effect is told with this word
abbrev pub told : ℕ → Result GrepPlan UsageKind → Reads GrepPlan
told word (Ok plan) = Ok plan
told word (Err kind) = fault kind word

-- the plan after an option's word, and the option whose value the next word is, if one is left without
abbrev pub Taken : Type 0
Taken = Reads (GrepPlan × Option ValuedOption)

abbrev pub complete : Reads GrepPlan → Taken
complete read = read >>= λ plan. Ok (plan, None)

abbrev pub starts_with_digit : List ℕ → Bool
starts_with_digit [] = false
starts_with_digit (b ∷ bytes) = is_ascii_digit b

-- an option with the rest of its word, where `others` are the letters of that rest
module _ (word : ℕ) (rest : List ℕ) (others : GrepPlan → Taken) where
  abbrev pub valued_letter : ValuedOption → GrepPlan → Taken
  valued_letter option plan = if bytes_eq rest [] then Ok (plan, Some option) else complete
      (told word (value_effect option rest plan))

  abbrev pub letter : Option GrepOption → GrepPlan → Taken
  letter None plan = fault UnknownOption word
  letter (Some (Plain option)) plan = told word (plain_effect option plan) >>= others
  letter (Some OnlyMatching) plan =
      if starts_with_digit rest then complete (told word (group_effect rest plan))
      else told word (group_shown 0 plan) >>= others
  letter (Some (Valued option)) plan = valued_letter option plan

-- the letters after `-`
abbrev pub letters : ℕ → List ℕ → GrepPlan → Taken
letters word [] plan = Ok (plan, None)
letters word (b ∷ rest) plan = letter word rest (letters word rest) (by_letter b) plan

abbrev pub is_equals : ℕ → Bool
is_equals b = b == 61

-- what stands after the first `=`, if there is one
abbrev pub joined_value : List ℕ → Option (List ℕ)
joined_value text = if list_any is_equals text then Some (after_first is_equals text) else None

-- an option by its long name, with the value after `=`
abbrev pub long : ℕ → Option GrepOption → Option (List ℕ) → GrepPlan → Taken
long word None value plan = fault UnknownOption word
long word (Some (Plain option)) None plan = complete (told word (plain_effect option plan))
long word (Some (Plain option)) (Some text) plan = fault UnknownOption word
long word (Some OnlyMatching) None plan = complete (told word (group_shown 0 plan))
long word (Some OnlyMatching) (Some text) plan = complete (told word (group_effect text plan))
long word (Some (Valued option)) None plan = Ok (plan, Some option)
long word (Some (Valued option)) (Some text) plan = complete (told word (value_effect option text plan))

-- the text after `--`
abbrev pub long_option : ℕ → List ℕ → GrepPlan → Taken
long_option word text plan = long word (by_name (before_first is_equals text)) (joined_value text) plan

-- a word in whose place an option may stand
pub data Word : Type 0 where
  -- it is `-` or doesn't begin with `-`
  operand : Word
  -- `--`
  terminator : Word
  -- after `--`
  name : List ℕ → Word
  -- after `-`
  joined : List ℕ → Word

abbrev pub after_hyphens : List ℕ → Word
after_hyphens [] = terminator
after_hyphens (b ∷ text) = name (b ∷ text)

abbrev pub after_hyphen : List ℕ → Word
after_hyphen [] = operand
after_hyphen (b ∷ text) = if b == 45 then after_hyphens text else joined (b ∷ text)

abbrev pub word_of : List ℕ → Word
word_of [] = operand
word_of (b ∷ text) = if b == 45 then after_hyphen text else operand

-- the plan after the options, and how many words they take
abbrev pub Opted : Type 0
Opted = Reads (GrepPlan × ℕ)

-- the options go up to the first operand or through `--`
abbrev pub option_in : ℕ → Word → (ℕ → Option ValuedOption → GrepPlan → Opted) → GrepPlan → Opted
option_in n operand others plan = Ok (plan, n)
option_in n terminator others plan = Ok (plan, n + 1)
option_in n (name text) others plan = long_option n text plan >>= λ (after, awaited). others (n + 1) awaited after
option_in n (joined text) others plan = letters n text plan >>= λ (after, awaited). others (n + 1) awaited after

-- the words from the n-th on; where an option awaits its value, the word is that value
abbrev pub options : List (List ℕ) → ℕ → Option ValuedOption → GrepPlan → Opted
options [] n None plan = Ok (plan, n)
options [] n (Some option) plan = fault MissingValue (n - 1)
options (word ∷ words) n None plan = option_in n (word_of word) (options words) plan
options (word ∷ words) n (Some option) plan = told n (value_effect option word plan) >>= options words (n + 1) None

abbrev pub is_given : List (List ℕ) → Bool
is_given [] = false
is_given (text ∷ texts) = true

abbrev pub has_patterns : GrepPlan → Bool
has_patterns plan = is_given plan.patterns || is_given plan.pattern_files

-- without `-e` and `-f` the first word after the options is the pattern
abbrev pub pattern_word : ℕ → Option (List ℕ) → Option HelpKind → GrepPlan → Reads GrepPlan
pattern_word n (Some pattern) help plan = Ok (record plan { patterns = pattern ∷ []; files_from = n + 1 })
pattern_word n None None plan = fault NoPattern n
pattern_word n None (Some kind) plan = Ok (record plan { files_from = n })

-- the plan after the first n words, which are the options; where no word is left, n is the number of words
abbrev pub completed : List (List ℕ) → ℕ → GrepPlan → Reads GrepPlan
completed words n plan =
    if has_patterns plan then Ok (record plan { files_from = n })
    else pattern_word n (slice_get words n) plan.help plan

-- the plan of the words
unfoldable pub plan_of : List (List ℕ) → Reads GrepPlan
plan_of words = options words 0 None unset >>= λ (plan, n). completed words n plan

-- what a call answers at a fault, where it doesn't want memory
abbrev pub Refuses : {A : Type 0} → Reads A → ArgError → Type 0
Refuses read (Usage kind word) = read ≡ fault kind word
Refuses read Memory = ⊤
