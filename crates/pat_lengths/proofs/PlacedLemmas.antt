-- Where the groups of a table stand.
use Rattle.std.proofs.Common.{◌≡◌, ◌∙◌, ℕ, ◌<◌, ◌==◌, Bool, if◌then◌else◌, List, ◌∷◌, Option, Some, None, inl, inr}
use Rattle.std.proofs.Common.{length, get_or, set, sym, ap}
use Rattle.std.proofs.lemmas.Bool.{cases_eq, eq-eqb, ne_eqb}
use Rattle.std.proofs.lemmas.List.{get_or-set_same, get_or-set_other}
use Rattle.pat_tree.specs.Nested.{Nested, tree_at}
use Rattle.pat_lengths.specs.Nodes.{is_capture_of}
use Rattle.pat_lengths.specs.Passing.{capture_number, group_in, ArePlaced, called_place, place_of}
use Rattle.pat_lengths.proofs.GroupLemmas.{group_of_number}

capture_of : (t : Nested) (m n : ℕ) → Some m ≡ capture_number t → is_capture_of n t ≡ (m == n)
capture_of t m n h = ap (is_capture_of n) (group_of_number t m h).1

abbrev group_if : List Nested → ℕ → ℕ → List ℕ → Bool → Option ℕ
group_if trees n id ids b = if b then Some id else group_in trees n ids

read_set : (places : List (Option ℕ)) (m n : ℕ) (value : Option ℕ) → n ≡ m → m < length places
    → get_or (set places m value) n None ≡ value
read_set places m n value same within = ap (λ k. get_or (set places m value) k None) same
    ∙ get_or-set_same places m value None within

pub placed_put : (trees : List Nested) (id : ℕ) (ids : List ℕ) (places : List (Option ℕ)) (m : ℕ) → m < length places
    → Some m ≡ capture_number (tree_at trees id) →
    ArePlaced trees ids places → ArePlaced trees (id ∷ ids) (set places m (Some id))
placed_put trees id ids places m within h are n =
    elim (cases_eq m n) [
      | inl same ↦
          read_set places m n (Some id) (sym same) within
          ∙ sym (ap (group_if trees n id ids) (capture_of (tree_at trees id) m n h ∙ eq-eqb m n same))
      | inr other ↦
          get_or-set_other places m n (Some id) None (λ e. other (sym e))
          ∙ are n
          ∙ sym (ap (group_if trees n id ids) (capture_of (tree_at trees id) m n h ∙ ne_eqb m n other))
    ]

pub placed_whole : (trees : List Nested) (root : ℕ) (ids : List ℕ) (places : List (Option ℕ)) → 0 < length places
    → ArePlaced trees ids places →
    (n : ℕ) → place_of (set places 0 (Some root)) n ≡ called_place trees root ids n
placed_whole trees root ids places some are n =
    elim (cases_eq n 0) [
      | inl same ↦ read_set places 0 n (Some root) same some
          ∙ sym (ap (λ (b : Bool). if b then Some root else group_in trees n ids) (eq-eqb n 0 same))
      | inr other ↦
          get_or-set_other places 0 n (Some root) None other
          ∙ are n
          ∙ sym (ap (λ (b : Bool). if b then Some root else group_in trees n ids) (ne_eqb n 0 other))
    ]
