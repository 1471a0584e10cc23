-- Start places that fail with an earlier one (pcre2pattern, "Repetition").
use Rattle.std.specs.Prelude.{◌≡◌, ◌≤◌, ℕ, false, Option, Some, None}
use Rattle.pat_tree.specs.declared.nodes.Item.{Item}
use Rattle.pat_tree.specs.declared.options.PartialMode.TheVariants.{Off}
use Rattle.pat_tree.specs.Nested.{Nested, Row, one_repeat, seq, group, none, more}
use Rattle.match_items.specs.Items.{longest_run}
use Rattle.match_items.specs.Views.{end_of}
use Rattle.ordered_search.specs.Setting.{Setting, notempty, notempty_atstart}
use Rattle.ordered_search.specs.PlaceAnswer.{Exhausted, Failed, answers, place_answer}
use Rattle.ordered_search.specs.Plain.{IsPlain}

-- The item that a pattern begins with where it begins with a greedy repeat of one without a
-- maximum, through sequences and groups of one branch.
abbrev mutual
  pub first_run : Nested → Option Item
  first_run (one_repeat item low None false) = Some item
  first_run (seq ts) = run_of_first ts
  first_run (group number ts) = run_of_only ts
  first_run _ = None

  pub run_of_first : Row → Option Item
  run_of_first none = None
  run_of_first (more t ts) = first_run t

  pub run_of_only : Row → Option Item
  run_of_only (more t none) = first_run t
  run_of_only _ = None

-- A search of bytes whose pattern begins so: matches of the empty text count, and there is no
-- partial matching.
pub record BeginsWithRun (g : Setting) (item : Item) : Type 0 where
  pub plain : IsPlain g.whole
  pub first : first_run g.whole ≡ Some item
  pub bytes : g.options.utf ≡ false
  pub off : g.matching.«partial» ≡ Off
  pub any_length : notempty g ≡ false
  pub any_start : notempty_atstart g ≡ false

-- where the run from p ends
abbrev pub run_end : Setting → Item → ℕ → ℕ
run_end g item p = end_of p (longest_run g.scene item None p)

-- Where p fails, so does each place up to the end of the run from p: what follows the run was tried
-- at each place that the later one offers.
abbrev pub LaterPlacesLaw : Type 0
LaterPlacesLaw =
    (g : Setting) (item : Item) → BeginsWithRun g item → (p q : ℕ) → p ≤ q → q ≤ run_end g item p
    → (place_answer g p).answer ≡ Failed Exhausted → place_answer g q ≡ answers (Failed Exhausted)
