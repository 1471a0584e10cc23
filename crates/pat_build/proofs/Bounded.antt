-- The places of a reading stand in its text.
use Rattle.std.proofs.Common.{◌≡◌, ℕ, ◌≤◌, min, Bool, true, false, List, [], ◌∷◌, ◌++◌, map, flat_map, length}
use Rattle.std.proofs.Common.{Option, Some, None, IfSome, Ok, refl, sym, subst, arith, if◌then◌else◌}
use Rattle.std.specs.List.{AllByRecursion}
use Rattle.pat_tree.specs.declared.nodes.Placed.{Placed}
use Rattle.pat_tree.specs.declared.options.Options.{Options}
use Rattle.pat_tree.specs.Nested.{Nested}
use Rattle.pat_tree.specs.Refs.{bad_ref, least_of, has_group, refs}
use Rattle.pat_grammar.specs.State.{State, Known, Reference}
use Rattle.pat_grammar.specs.Groups.{places_named}
use Rattle.pat_grammar.specs.Reading.{reading, state_from}
use Rattle.pat_grammar.proofs.Bounds.{Stands}
use Rattle.pat_grammar.proofs.Depths.{reading_went}
use Rattle.pat_nodes.specs.Nodes.{references_of}

pub ends_stand : (known : Known) (text : List ℕ) (start : ℕ) (options : Options) (tree : Nested) (last : State)
    → reading known text (state_from start options) ≡ Ok (tree, last) → Stands text last
ends_stand known text start options tree last h =
    (reading_went known text (state_from start options) (tree, last) h refl
    (record { references = tt; beyond = tt })).0

module _ (most : ℕ) where
  abbrev IsBefore : ℕ × ℕ → Type 0
  IsBefore r = r.0 ≤ most

  least_before : (at : ℕ) (o : Option ℕ) → at ≤ most → IfSome o (λ b. b ≤ most) → least_of at o ≤ most
  least_before at None h k = h
  least_before at (Some b) h k = omega (arith, h, k)

  bad_before : (f : ℕ → Bool) (rs : List (ℕ × ℕ)) → AllByRecursion IsBefore rs → IfSome (bad_ref f rs) (λ at. at ≤ most)
  bad_before f [] h = tt
  bad_before f (r ∷ rs) h =
      let later = bad_before f rs h.1 in
      elim (f r.1) as (λ b. IfSome (if b then bad_ref f rs else Some (least_of r.0 (bad_ref f rs))) (λ at. at ≤ most)) [
        | true ↦ later
        | false ↦ least_before r.0 (bad_ref f rs) h.0 later
      ]

  groups_before : (at : ℕ) (ns : List ℕ) (rest : List (ℕ × ℕ)) → at ≤ most → AllByRecursion IsBefore rest
      → AllByRecursion IsBefore (map (λ n. (at, n)) ns ++ rest)
  groups_before at [] rest h k = k
  groups_before at (n ∷ ns) rest h k = (h, groups_before at ns rest h k)

  named_before : (rs : List Reference) → AllByRecursion (λ (r : Reference). r.at ≤ most) rs
      → AllByRecursion IsBefore (places_named rs)
  unfolding places_named
  named_before [] h = tt
  named_before (r ∷ rs) h = groups_before r.at r.groups (places_named rs) h.0 (named_before rs h.1)

-- the leftmost reference that names no group
pub bad_stands : (text : List ℕ) (ps : List Placed) (at : ℕ)
    → AllByRecursion (λ (r : Reference). r.at ≤ length text) (references_of ps)
    → refs ps ≡ places_named (references_of ps)
    → bad_ref (has_group ps) (refs ps) ≡ Some at → at ≤ length text
bad_stands text ps at inside are found =
    let all = subst (AllByRecursion (IsBefore (length text))) (sym are)
    (named_before (length text) (references_of ps) inside) in
    subst (λ o. IfSome o (λ at. at ≤ length text)) found (bad_before (length text) (has_group ps) (refs ps) all)
