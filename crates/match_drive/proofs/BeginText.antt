-- Places behind which a text doesn't stand at the distance at which every match takes it.
use Rattle.std.proofs.Common.{◌≡◌, ℕ, ◌+◌, ◌<◌, ◌≤◌, Bool, true, List, [], ◌∷◌, length, take, Option, None, Some}
use Rattle.std.proofs.Common.{refl, sym, subst, arith, length-take-le, get_or-take}
use Rattle.std.specs.Prelude.{slice_index, IfSome}
use Rattle.pat_tree.specs.declared.options.Options.{Options}
use Rattle.pat_tree.specs.declared.options.PartialMode.TheVariants.{Off}
use Rattle.pat_tree.specs.Parts.{TreeParts, tree_of}
use Rattle.char_sets.specs.Sets.{class_has}
use Rattle.match_items.specs.declared.view.View.{View}
use Rattle.match_items.specs.Subjects.{IsText, IsTextPlace}
use Rattle.byte_lanes.specs.Places.{IsLeast}
use Rattle.byte_lanes.specs.Sets.{has_byte}
use Rattle.pat_needs.specs.declared.text.ByteText.{ByteText}
use Rattle.pat_needs.specs.declared.needs.BeginText.{BeginText}
use Rattle.pat_needs.specs.declared.needs.Need.{Need}
use Rattle.pat_bounds.specs.Bounds.{at, bound}
use Rattle.pat_needs.specs.Needs.{may_take}
use Rattle.pat_needs.specs.Distances.{NeedsAt}
use Rattle.pat_needs.specs.NeedTables.{IsNeedOf}
use Rattle.pat_needs.specs.Texts.{sets_of, behind_of, Stands}
use Rattle.ordered_search.specs.Setting.{lower_of}
use Rattle.match_starts.proofs.search_needs.Behind.{begin_law}
use Rattle.frame_machine.specs.frame_board.Ready.{setting_for}
use Rattle.match_starts.specs.Asked.{passed_over, replied}
use Rattle.match_drive.specs.BeginText.{IsBegun}
use Rattle.match_starts.proofs.Leads.{class_told}

-- A text in the first bytes of others.

module _ (bytes : List ℕ) (n : ℕ) (within : n ≤ length bytes) where
  -- what stands in the first n bytes stands in all of them
  stands_more : (sets : List (List Bool)) (k : ℕ) → Stands sets (take n bytes) k → Stands sets bytes k
  stands_more [] k h = tt
  stands_more (set ∷ sets) k h =
      let inside : k < n = omega (arith, h.0, length-take-le n bytes within) in (
        omega (arith, inside, within),
        (subst (λ b. has_byte set b ≡ true) (get_or-take n bytes k 0 inside) h.1.0, stands_more sets (k + 1) h.1.1),
      )

  -- and the other way round where the first n bytes go as far as the text may
  stands_less : (sets : List (List Bool)) (k : ℕ) → ((i : ℕ) → i < length bytes → i < k + length sets → i < n)
      → Stands sets bytes k → Stands sets (take n bytes) k
  stands_less [] k far h = tt
  stands_less (set ∷ sets) k far h =
      let inside : k < n = far k h.0 (omega arith) in (
        omega (arith, inside, length-take-le n bytes within),
        (
          subst (λ b. has_byte set b ≡ true) (sym (get_or-take n bytes k 0 inside)) h.1.0,
          stands_less sets (k + 1) (λ i a b. far i a (omega (arith, b))) h.1.1,
        ),
      )

-- a text has three bytes at most
three_sets : (text : ByteText) → length (sets_of text) ≤ 3
three_sets text = by_sets text.second text.third
  where
    by_sets : (second third : Option (List Bool)) → length (text.first ∷ behind_of second third) ≤ 3
    by_sets None third = omega arith
    by_sets (Some second) None = omega arith
    by_sets (Some second) (Some third) = omega arith

-- the first place in the first n bytes is that in all of them
pub least_of_all : (text : ByteText) (bytes : List ℕ) (n from to found : ℕ) → n ≤ length bytes → from ≤ to → to ≤ n
    → ((i : ℕ) → i < length bytes → i < to + 2 → i < n)
    → IsLeast (Stands (sets_of text) (take n bytes)) from (length (take n bytes)) found
    → (r : ℕ) → r ≤ found → r ≤ to → (r < to → r ≡ found) → from ≤ r
    → IsLeast (Stands (sets_of text) bytes) from to r
least_of_all text bytes n from to found within ordered fits far least r low high same begun = record {
  low = begun;
  high = high;
  before = λ k a b h. least.before k a (omega (arith, b, low))
      (stands_less bytes n within (sets_of text) k
      (λ i d e. far i d (let few = three_sets text in omega (arith, e, few, b, high))) h);
  holds = λ l. let e = same l in
      subst (Stands (sets_of text) bytes) (sym e)
      (stands_more bytes n within (sets_of text) found
      (least.holds (omega (arith, e, l, fits, length-take-le n bytes within))));
}

-- A search fails at each place without the text that a finished tree's matches take at a distance from where they
-- begin.

pub begun_told : (tree : TreeParts) (view : View) (need : Need) (told : Option BeginText) → IsNeedOf tree need
    → told ≡ need.begin
    → view.options.now ≡ tree.options → IsText view.options.now view.subject.now
    → IsTextPlace view.options.now view.subject.now view.start → view.matching.now.«partial» ≡ Off
    → at need.bound.steps (length view.subject.now + 1) ≤ lower_of view.options.now.match_limit
    view.matching.now.match_limit
    → at need.bound.units (length view.subject.now + 1) ≤ view.matching.now.frame_limit
    → ((k : ℕ) → k < length view.subject.now → slice_index view.subject.now k < 256)
    → IfSome told (IsBegun (setting_for tree view passed_over))
begun_told tree view need None is known shown text begun off steps units small = tt
begun_told tree view need (Some begin) is known shown text begun off steps units small = λ reply p here missing.
    let may = may_take tree.options.utf (class_has tree) in
    let begins : NeedsAt may tree.options.utf (sets_of begin.text) begin.distance (tree_of tree) =
    subst (λ o. IfSome o (λ (t : BeginText). NeedsAt may tree.options.utf (sets_of t.text) t.distance (tree_of tree)))
    (sym known) is.begin in
    begin_law (replied reply (setting_for tree view passed_over)) (sets_of begin.text) begin.distance need.bound p
    (record {
      needs = subst (λ (has : ℕ → ℕ → Bool). NeedsAt (may_take tree.options.utf has) tree.options.utf
          (sets_of begin.text) begin.distance (tree_of tree)) (class_told tree) begins;
      small = small;
      missing = missing;
      bounded = subst (λ (has : ℕ → ℕ → Bool). bound has (tree_of tree) ≡ Some need.bound) (class_told tree) is.bound;
      folds = refl;
      steps = subst (λ (o : Options). at need.bound.steps (length view.subject.now + 1) ≤ lower_of o.match_limit
          view.matching.now.match_limit) shown steps;
      units = units;
      text = λ utf. subst (λ (o : Options). IsText o view.subject.now) shown text;
      begun = λ utf. subst (λ (o : Options). IsTextPlace o view.subject.now view.start) shown begun;
      here = λ utf. here;
      off = off;
    })
