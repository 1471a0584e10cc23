-- Worked rows: what words of pcre2test ask for.
use Rattle.std.specs.Prelude.{◌≡◌, Bool, true, false, List, [], ◌∷◌, codes, map, Option, Some, None}
use Prim.Native.String.{String}
use Rattle.test_modifiers.specs.declared.modifiers.Modifiers.{Modifiers}
use Rattle.test_modifiers.specs.Modifiers.{ungiven}
use Rattle.test_main.specs.declared.words.Script.{Script}
use Rattle.test_main.specs.declared.words.Script.TheVariants.{Standard, File, Generated}
use Rattle.test_main.specs.declared.words.TestWords.{TestWords}
use Rattle.test_main.specs.Words.{words_of}

abbrev pub read : List String → Option TestWords
read words = words_of (map (λ word. codes word) words)

abbrev pub asking : Bool → Modifiers → Script → Option TestWords
asking quiet defaults script =
    Some (record { plan = record { quiet = quiet; defaults = defaults }; script = script })

pub record WorkedWords : Type 0 where
  pub none : read [] ≡ asking false ungiven Standard
  pub quiet : read ("-q" ∷ []) ≡ asking true ungiven Standard
  pub standard : read ("-q" ∷ "-" ∷ []) ≡ asking true ungiven Standard
  pub name : read ("-q" ∷ "s" ∷ []) ≡ asking true ungiven (File (codes "s"))
  pub lists : read ("-pattern" ∷ "i,anchored" ∷ "-subject" ∷ "-anchored" ∷ [])
      ≡ asking false (record ungiven { caseless = Some true; anchored = Some false }) Standard
  pub dfa : read ("-dfa" ∷ "-subject" ∷ "g" ∷ [])
      ≡ asking false (record ungiven { dfa = Some true; global = Some true }) Standard
  pub no_list : read ("-pattern" ∷ []) ≡ None
  pub bad_list : read ("-subject" ∷ "i" ∷ []) ≡ None
  pub generated : read ("-q" ∷ "-gen" ∷ "10" ∷ []) ≡ asking true ungiven (Generated 10)
  pub too_many : read ("-gen" ∷ "100001" ∷ []) ≡ None
  pub no_number : read ("-gen" ∷ []) ≡ None
  pub late_word : read ("-gen" ∷ "1" ∷ "-q" ∷ []) ≡ None
  pub two_scripts : read ("s" ∷ "t" ∷ []) ≡ None
  pub late_option : read ("s" ∷ "-q" ∷ []) ≡ None
