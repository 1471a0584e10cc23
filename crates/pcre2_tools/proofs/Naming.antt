-- The tool that the first word names.
use Rattle.std.proofs.Common.{◌≡◌, ◌≢◌, ℕ, ◌≤◌, ◌<◌, Bool, true, false, List, [], ◌∷◌, codes, ◌-◌, length, take}
use Rattle.std.proofs.Common.{drop, map, get_or, refl, sym, subst}
use Rattle.test_main.proofs.Wording.{first-word, no-word}
use Rattle.pcre_io.specs.Told.{Told}
use Rattle.pcre_io.specs.Files.{Filed}
use Rattle.line_feed.specs.Rows.{Input}
use Rattle.line_feed.specs.Hears.{Hears}
use Rattle.tool_io.specs.declared.target.Target.{Target}
use Rattle.tool_io.specs.Asked.{Asked, StandFor}
use Rattle.tool_io.specs.Absent.{AbsentBy}
use Rattle.tool_io.proofs.Absence.{absent-none}
use Rattle.tool_io.proofs.Taking.{hears-any}
use Rattle.tool_io.specs.Printed.{Printed}
use Rattle.tool_io.specs.Outcomes.{RunOutcome, said, Runs}
use Rattle.grep_main.specs.Asks.{AsksFor}
use Rattle.grep_main.specs.Leaves.{LeavesUnasked}
use Rattle.grep_main.specs.Stages.{Streams, streams}
use Rattle.grep_main.specs.ToolText.{text_of}
use Rattle.test_main.specs.Opens.{AreGiven}
use Rattle.test_main.specs.ToolText as script
use Rattle.pcre2_tools.specs.ToolText.{is_grep, is_test, text_by, tool_text, AsksIf, ToolAsks, TiesIf, ToolTies}

-- words that ask for nothing, and that this is said to
pub record SaysTo {S : Type 0} (tells : S → Told) (words : List (List ℕ)) (text : List ℕ) (status : ℕ) : Type 0 where
  pub asks : (old new : Filed) → ToolAsks old new words []
  pub says : (given : List Asked) → tool_text words given ≡ said text status
  pub ties : (old new : Streams) (answer : ℕ) → ToolTies tells old new words [] answer

pub says-none : {S : Type 0} (tells : S → Told) {A : Type 0} (f : A → List ℕ) (words : List A) → length words < 1
    → SaysTo tells (map f words) (codes "unknown tool") 2
says-none tells f words few =
    subst (λ ws. SaysTo tells ws (codes "unknown tool") 2) (sym (no-word f words few))
    (record { asks = λ old new. refl; says = λ given. refl; ties = λ old new answer. tt })

pub says-other : {S : Type 0} (tells : S → Told) {A : Type 0} (f : A → List ℕ) (words : List A) (tool : A)
    → 1 ≤ length words → tool ≡ get_or words 0 tool → is_grep (f tool) ≡ false → is_test (f tool) ≡ false
    → SaysTo tells (map f words) (codes "unknown tool") 2
says-other tells f words tool some is other test =
    let rest = map f (take (length words - 1) (drop 1 words)) in
    subst (λ ws. SaysTo tells ws (codes "unknown tool") 2) (sym (first-word f words tool some is)) (record {
      asks = λ old new. subst (λ t. AsksIf t (is_test (f tool)) old new rest []) (sym other)
          (subst (λ t. AsksIf false t old new rest []) (sym test) refl);
      says = λ given. (λ i. text_by (other i) (test i) rest given);
      ties = λ old new answer. subst (λ t. TiesIf tells t old new rest [] answer) (sym other)
          (absent-none old.files.contents old.files.faults new.files.faults, λ ran. tt);
    })

-- it was written
pub runs-said : {S : Type 0} (tells : S → Told) (t : Told) (files : Filed) (words : List (List ℕ)) (text : List ℕ)
    (status result : ℕ) (old new : Printed)
    → SaysTo tells words text status → Runs (said text status) result old new
    → (heard : Input) × Hears t t heard × ((asked : List Target) × ToolAsks files files words asked
    × ((given : List Asked) × StandFor files.contents heard asked given × Runs (tool_text words given) result
    old new
    × ToolTies tells (streams files t old) (streams files t new) words given result × LeavesUnasked asked t t))
runs-said tells t files words text status result old new says runs = let any = hears-any t in (
  any.0,
  any.1,
  (
    [],
    says.asks files files,
    (
      [],
      tt,
      subst (λ o. Runs o result old new) (sym (says.says [])) runs,
      says.ties (streams files t old) (streams files t new) result,
      λ none. refl,
    ),
  ),
)

-- The words after the tool's name.
module _ {S : Type 0} (tells : S → Told) {A : Type 0} (f : A → List ℕ) (words : List A) (tool : A)
    (some : 1 ≤ length words) (is : tool ≡ get_or words 0 tool) where
  abbrev after_name : List (List ℕ)
  after_name = map f (take (length words - 1) (drop 1 words))

  whole : f tool ∷ after_name ≡ map f words
  whole = sym (first-word f words tool some is)

  module _ (old new : Streams) (result : ℕ) where
    abbrev Found : (List Target → Type 0) → (List Asked → RunOutcome) → (List Asked → Type 0) → Type 0
    Found asks text ties =
        (heard : Input) × Hears old.input new.input heard × ((asked : List Target) × asks asked
        × ((given : List Asked) × StandFor old.files.contents heard asked given × Runs (text given) result old.printed
        new.printed × ties given × LeavesUnasked asked old.input new.input))

    abbrev ties_of : List (List ℕ) → List Asked → Type 0
    ties_of ws given = ToolTies tells old new ws given result

    abbrev ties_if : Bool → List Asked → Type 0
    ties_if t given = TiesIf tells t old new after_name given result

    found-whole : Found (ToolAsks old.files new.files (f tool ∷ after_name)) (tool_text (f tool ∷ after_name))
        (ties_of (f tool ∷ after_name)) → Found (ToolAsks old.files new.files (map f words)) (tool_text (map f words))
        (ties_of (map f words))
    found-whole found = subst (λ ws. Found (ToolAsks old.files new.files ws) (tool_text ws) (ties_of ws)) whole found

    -- pcre2grep asks for what the words after its name ask for
    pub runs-grep : is_grep (f tool) ≡ true
        → Found (AsksFor old.files.contents old.files.faults new.files.faults after_name) (text_of after_name)
        (ties_if true)
        → Found (ToolAsks old.files new.files (map f words)) (tool_text (map f words)) (ties_of (map f words))
    runs-grep named found =
        found-whole (subst (λ t. Found (AsksIf t (is_test (f tool)) old.files new.files after_name)
        (text_by t (is_test (f tool)) after_name) (ties_if t)) (sym named) found)

    -- so does pcre2test
    pub runs-test : is_grep (f tool) ≡ false → is_test (f tool) ≡ true
        → (heard : Input) × Hears old.input new.input heard
        × ((given : List Asked) × StandFor old.files.contents heard (script.asked_targets after_name) given × Runs
        (script.text_of after_name given) result old.printed new.printed
        × AbsentBy old.files.contents old.files.faults new.files.faults given
        × (result ≢ 3 → AreGiven tells old.files.contents given))
        → LeavesUnasked (script.asked_targets after_name) old.input new.input
        → Found (ToolAsks old.files new.files (map f words)) (tool_text (map f words)) (ties_of (map f words))
    runs-test other named found unused =
        found-whole
        (subst (λ t. Found (AsksIf t (is_test (f tool)) old.files new.files after_name)
        (text_by t (is_test (f tool)) after_name) (ties_if t)) (sym other)
        (subst (λ t. Found (AsksIf false t old.files new.files after_name) (text_by false t after_name)
        (ties_if false)) (sym named) (
          found.0,
          found.1,
          (
            script.asked_targets after_name,
            refl,
            (found.2.0, found.2.1, found.2.2, (found.2.3, found.2.4), unused),
          ),
        )))
