-- What the words of pcre2test ask for (pcre2test, "COMMAND LINE OPTIONS"): words → defaults and a
-- script, or nothing where they are refused.
use Rattle.std.specs.Prelude.{◌≡◌, ⊤, ℕ, ◌==◌, nat_le, Bool, true, false, List, [], ◌∷◌, bytes_eq, codes, Option}
use Rattle.std.specs.Prelude.{Some, None, Ok, Err, if◌then◌else◌}
use Rattle.std.specs.Option.{option_map, option_and_then}
use Rattle.test_modifiers.specs.declared.modifiers.Modifiers.{Modifiers}
use Rattle.test_modifiers.specs.Modifiers.{ungiven, over}
use Rattle.test_modifiers.specs.Lists.{list_of}
use Rattle.test_modifiers.specs.Values.{decimal}
use Rattle.test_modifiers.specs.Refusals.{Reads}
use Rattle.test_script.specs.declared.plan.TestPlan.{TestPlan}
use Rattle.test_main.specs.declared.words.Lists.{Lists}
use Rattle.test_main.specs.declared.words.Lists.TheVariants.{Patterns, Subjects}
use Rattle.test_main.specs.declared.words.Word.{Word}
use Rattle.test_main.specs.declared.words.Word.TheVariants as word
use Rattle.test_main.specs.declared.words.Turn.{Turn}
use Rattle.test_main.specs.declared.words.Script.{Script}
use Rattle.test_main.specs.declared.words.Script.TheVariants.{Standard, File, Generated}
use Rattle.test_main.specs.declared.words.TestWords.{TestWords}
use Rattle.test_main.specs.declared.words.WordsError.{WordsError}
use Rattle.test_main.specs.declared.words.WordsError.TheVariants.{Refused, Memory}

-- `-` and more
abbrev pub is_option : List ℕ → Bool
is_option [] = false
is_option (c ∷ []) = false
is_option (c ∷ d ∷ rest) = c == 45

abbrev pub kind_of : List ℕ → Word
kind_of text =
    if bytes_eq text (codes "-q") then word.Quiet
    else if bytes_eq text (codes "-dfa") then word.Dfa
    else if bytes_eq text (codes "-pattern") then word.List Patterns
    else if bytes_eq text (codes "-subject") then word.List Subjects
    else if is_option text then word.Unknown
    else word.Script

abbrev pub is_of_patterns : Lists → Bool
is_of_patterns Patterns = true
is_of_patterns Subjects = false

abbrev pub turn : TestPlan → Option Lists → Turn
turn plan wanted = record { plan = plan; wanted = wanted }

-- a list is merged over the earlier ones
abbrev pub with_defaults : TestPlan → Reads Modifiers → Option Turn
with_defaults plan (Ok list) =
    Some (turn (record plan { defaults = over list plan.defaults }) None)
with_defaults plan (Err refusal) = None

abbrev pub listed : TestPlan → Lists → List ℕ → Option Turn
listed plan lists list = with_defaults plan (list_of (is_of_patterns lists) list)

-- an option; `-dfa` is the same as `-subject dfa`
abbrev pub option_taken : TestPlan → Word → Option Turn
option_taken plan word.Quiet = Some (turn (record plan { quiet = true }) None)
option_taken plan word.Dfa = listed plan Subjects (codes "dfa")
option_taken plan (word.List lists) = Some (turn plan (Some lists))
option_taken plan word.Unknown = None
option_taken plan word.Script = None

-- a word that isn't the script's name: the list that is wanted, or else an option
abbrev pub taken_by : TestPlan → Option Lists → List ℕ → Option Turn
taken_by plan (Some lists) list = listed plan lists list
taken_by plan None text = option_taken plan (kind_of text)

abbrev pub taken : Turn → List ℕ → Option Turn
taken t text = taken_by t.plan t.wanted text

abbrev pub is_script : Word → Bool
is_script word.Script = true
is_script _ = false

abbrev pub is_name : Option Lists → List ℕ → Bool
is_name (Some lists) text = false
is_name None text = is_script (kind_of text)

-- `-` is standard input
abbrev pub named_script : List ℕ → Script
named_script name = if bytes_eq name (codes "-") then Standard else File name

abbrev pub asks : TestPlan → Script → TestWords
asks plan script = record { plan = plan; script = script }

-- no word follows a script's name
abbrev pub name_alone : TestPlan → List ℕ → List (List ℕ) → Option TestWords
name_alone plan name [] = Some (asks plan (named_script name))
name_alone plan name (text ∷ words) = None

-- `-gen` makes lines in place of running a script
abbrev pub is_generator : Option Lists → List ℕ → Bool
is_generator (Some lists) text = false
is_generator None text = bytes_eq text (codes "-gen")

abbrev pub at_most : ℕ → ℕ → Option ℕ
at_most most n = if nat_le n most then Some n else None

-- how many lines: decimal digits, at most 100,000
abbrev pub line_count : List ℕ → Option ℕ
line_count text = option_and_then (at_most 100000) (decimal text)

-- the number is there, and no word follows it
abbrev pub count_alone : TestPlan → List (List ℕ) → Option TestWords
count_alone plan [] = None
count_alone plan (text ∷ []) = option_map (λ n. asks plan (Generated n)) (line_count text)
count_alone plan (text ∷ other ∷ words) = None

-- without a name the script is standard input; a list mustn't lack
abbrev pub ended_by : TestPlan → Option Lists → Option TestWords
ended_by plan None = Some (asks plan Standard)
ended_by plan (Some lists) = None

abbrev pub ended_words : Turn → Option TestWords
ended_words t = ended_by t.plan t.wanted

-- the words that are left
abbrev pub words_from : Turn → List (List ℕ) → Option TestWords
words_from t [] = ended_words t
words_from t (text ∷ words) =
    if is_name t.wanted text then name_alone t.plan text words
    else if is_generator t.wanted text then count_alone t.plan words
    else option_and_then (λ (next : Turn). words_from next words) (taken t text)

-- the words after the tool's name
abbrev pub words_of : List (List ℕ) → Option TestWords
words_of words = words_from (turn (record { quiet = false; defaults = ungiven }) None) words

-- why words aren't taken; want of memory may come at any time
abbrev pub Refuses : {A : Type 0} → Option A → WordsError → Type 0
Refuses found Refused = found ≡ None
Refuses found Memory = ⊤
