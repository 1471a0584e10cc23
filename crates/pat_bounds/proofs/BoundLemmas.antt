-- Bounds as they are kept, joined as the definition joins them.
use Rattle.std.proofs.Common.{◌≡◌, ◌<◌, ◌≤◌, ℕ, ◌&&◌, ◌∙◌, ◌+◌, length, drop, get_or, arith, Bool, true, false}
use Rattle.std.proofs.Common.{if◌then◌else◌, List, [], ◌∷◌, map, Option, Some, None, refl, sym, ap, subst}
use Rattle.std.proofs.lemmas.List.{drop_all, at_drop_all, at_drop_more}
use Rattle.pat_tree.specs.declared.nodes.Item.{Item}
use Rattle.pat_tree.specs.Nested.{Nested, Row, look, more, row, tree_at, trees}
use Rattle.pat_tree.specs.Parts.{TreeParts}
use Rattle.char_sets.specs.Sets.{class_has}
use Rattle.pat_bounds.specs.declared.bounds.Bound.{Bound}
use Rattle.pat_bounds.specs.Bounds.{once, never, closed, followed, or_so, both, change, repeated, first_item}
use Rattle.pat_bounds.specs.Bounds.{begins_apart, all_begin_apart, is_alone, bound, bound_before, bound_in_turn}
use Rattle.pat_bounds.specs.Bounds.{bound_of_one, bound_of_choices}
use Rattle.pat_bounds.specs.BoundTables.{Refines, RefinesTurn, RefinesOne, RefinesChoices, IsBefore, is_alone_of}
use Rattle.pat_bounds.specs.BoundTables.{bound_at}

pub refines_on : (x y z : Option Bound) → Refines x y → Refines y z → Refines x z
refines_on None y z h k = tt
refines_on (Some a) y z h k = subst (λ o. Refines o z) h k

both_refines : (f : Bound → Bound → Bound) (x y x' y' : Option Bound) → Refines x x' → Refines y y'
    → Refines (both f x y) (both f x' y')
both_refines f None y x' y' h k = tt
both_refines f (Some a) None x' y' h k = tt
both_refines f (Some a) (Some b) x' y' h k = rw (h, k) refl

pub change_refines : (f : Bound → Bound) (x x' : Option Bound) → Refines x x' → Refines (change f x) (change f x')
change_refines f None x' h = tt
change_refines f (Some a) x' h = rw h refl

refines_same : (x : Option Bound) → Refines x x
refines_same None = tt
refines_same (Some a) = refl

pub repeated_refines : (low : ℕ) (high : Option ℕ) (x x' : Option Bound) → Refines x x'
    → Refines (repeated low high x) (repeated low high x')
repeated_refines low high None x' h = tt
repeated_refines low high (Some a) x' h = subst (λ o. Refines (repeated low high (Some a)) (repeated low high o))
    (sym h) (refines_same (repeated low high (Some a)))

-- The first of the parts, and those behind it.

pub turn_none : (tree : TreeParts) (bounds : List (Option Bound)) (whole : Bound) (ks : List ℕ) → whole ≡ once
    → RefinesTurn tree bounds (Some whole) (drop (length ks) ks)
unfolding bound
turn_none tree bounds whole ks is =
    subst (RefinesTurn tree bounds (Some whole)) (sym (drop_all (length ks) ks (omega arith)))
    (λ kept. ap Some (sym is))

pub turn_more : (has : ℕ → ℕ → Bool) (t : Nested) (ts : Row) (before whole result : Option Bound)
    → Refines before (bound_before has t ts (bound has t))
    → Refines whole (bound_in_turn has ts) → Refines result (both followed before whole)
    → Refines result (bound_in_turn has (more t ts))
unfolding bound
turn_more has t ts before whole result h k is = refines_on result (both followed before whole) _ is
    (both_refines followed before whole _ _ h k)

pub turn_next : (tree : TreeParts) (bounds : List (Option Bound)) (before whole result : Option Bound) (k : ℕ)
    (ks : List ℕ) → k < length bounds → IsBefore tree bounds before (k ∷ ks)
    → RefinesTurn tree bounds whole ks → Refines result (both followed before whole)
    → RefinesTurn tree bounds result (k ∷ ks)
turn_next tree bounds before whole result k ks within is later told kept =
    turn_more (class_has tree) (tree_at (trees tree.nodes) k) (row (map (tree_at (trees tree.nodes)) ks)) before whole
    result (is (kept k within)) (later kept) told

-- Branches.

pub choices_none : (tree : TreeParts) (bounds : List (Option Bound)) (whole : Bound) (ks : List ℕ)
    → whole ≡ never → RefinesChoices tree bounds (Some whole) (drop (length ks) ks)
unfolding bound
choices_none tree bounds whole ks is =
    subst (RefinesChoices tree bounds (Some whole)) (sym (drop_all (length ks) ks (omega arith)))
    (λ kept. ap Some (sym is))

pub choices_next : (tree : TreeParts) (bounds : List (Option Bound)) (whole result : Option Bound) (alone : Bool)
    (k : ℕ) (ks : List ℕ)
    → k < length bounds
    → alone ≡ is_alone_of tree k ks → RefinesChoices tree bounds whole ks
    → Refines result (both (or_so alone) (bound_at bounds k) whole)
    → RefinesChoices tree bounds result (k ∷ ks)
unfolding bound
choices_next tree bounds whole result alone k ks within is later told kept =
    let has = class_has tree in
    let of = tree_at (trees tree.nodes) in
    let first = bound_at bounds k in
    refines_on result (both (or_so alone) first whole) _ told
    (subst (λ b. Refines (both (or_so alone) first whole)
    (both (or_so b) (bound has (of k)) (bound_of_choices has (row (map of ks))))) is
    (both_refines (or_so alone) first whole _ _ (kept k within) (later kept)))

pub one_only : (tree : TreeParts) (bounds : List (Option Bound)) (ks : List ℕ) → length ks ≡ 1
    → get_or ks 0 0 < length bounds → RefinesOne tree bounds (bound_at bounds (get_or ks 0 0)) ks
unfolding bound
one_only tree bounds [] e within kept = absurd (omega (arith, e))
one_only tree bounds (k ∷ []) e within kept = kept k within
one_only tree bounds (k ∷ m ∷ ks) e within kept = absurd (omega (arith, e))

pub one_of_more : (tree : TreeParts) (bounds : List (Option Bound)) (result : Option Bound) (ks : List ℕ)
    → ¬ (length ks ≡ 1) → RefinesChoices tree bounds result ks → RefinesOne tree bounds result ks
unfolding bound
one_of_more tree bounds result [] several told kept = told kept
one_of_more tree bounds result (k ∷ []) several told kept = absurd (several refl)
one_of_more tree bounds result (k ∷ m ∷ ks) several told kept = told kept

-- Whether branches begin apart, one after the other.
module _ (tree : TreeParts) (item : Item) (ks : List ℕ) (i : ℕ) (low : i < length ks) where
  abbrev of : ℕ → Nested
  of = tree_at (trees tree.nodes)

  abbrev from_on : List ℕ → Bool
  from_on l = all_begin_apart (class_has tree) item (row (map of l))

  begins : (b : Bool) → begins_apart (class_has tree) item (first_item (of (get_or ks i 0))) ≡ b
      → from_on (drop i ks) ≡ b && from_on (drop (i + 1) ks)
  begins b e = at_drop_more from_on ks i 0 low ∙ ap (λ c. c && from_on (drop (i + 1) ks)) e

  pub apart_next : begins_apart (class_has tree) item (first_item (of (get_or ks i 0))) ≡ true
      → from_on (drop i ks) ≡ from_on (drop (i + 1) ks)
  apart_next e = begins true e

  pub apart_not : begins_apart (class_has tree) item (first_item (of (get_or ks i 0))) ≡ false
      → from_on (drop i ks) ≡ false
  apart_not e = begins false e

pub alone_told : (tree : TreeParts) (item : Item) (first : ℕ) (ks : List ℕ) (i : ℕ)
    → first_item (tree_at (trees tree.nodes) first) ≡ Some item → length ks ≤ i
    → all_begin_apart (class_has tree) item (row (map (tree_at (trees tree.nodes)) ks)) ≡ all_begin_apart
    (class_has tree) item (row (map (tree_at (trees tree.nodes)) (drop i ks)))
    → true ≡ is_alone_of tree first ks
alone_told tree item first ks i is done same =
    let on : List ℕ → Bool = λ l. all_begin_apart (class_has tree) item (row (map (tree_at (trees tree.nodes)) l)) in
    sym (ap (λ o. is_alone (class_has tree) o (row (map (tree_at (trees tree.nodes)) ks))) is ∙ same
    ∙ at_drop_all on ks i done)

module _ (has : ℕ → ℕ → Bool) where
  pub look_told : (ahead positive atomic : Bool) (ts : Row) (inside result : Option Bound)
      → Refines inside (change closed (bound_of_one has ts)) →
      result ≡ (if ahead && atomic then inside else None) → Refines result (bound has (look ahead positive atomic ts))
  unfolding bound
  look_told true positive true ts inside result h e =
      subst (λ o. Refines o (change closed (bound_of_one has ts))) (sym e) h
  look_told true positive false ts inside result h e = subst (λ o. Refines o None) (sym e) tt
  look_told false positive _ ts inside result h e = subst (λ o. Refines o None) (sym e) tt
