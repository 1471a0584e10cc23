-- A branch of a group, by its node.
use Rattle.std.proofs.Common.{◌≡◌, ℕ, suc, ◌+◌, ◌-◌, ◌<◌, ◌≤◌, List, ◌∷◌, map, Option, Some, length, All, slice_get}
use Rattle.std.proofs.Common.{get_or, inl, inr, refl, sym, ap, subst, arith, ◌≢◌, true, Bool}
use Rattle.std.proofs.lemmas.Bool.{cases_lt}
use Rattle.pat_tree.specs.declared.nodes.Node.{Node}
use Rattle.pat_tree.specs.declared.nodes.Node.TheVariants as node
use Rattle.pat_tree.specs.Nested.{row, nest, tree_at}
use Rattle.pat_tree.specs.Rules.{kids_of}
use Rattle.frame_store.specs.Captures.{Captures}
use Rattle.frame_store.specs.Entry.{Entry, LaterBranch}
use Rattle.ordered_search.specs.PlaceAnswer.{answers, MatchLimit, FrameLimit}
use Rattle.ordered_search.specs.Moves.{tread}
use Rattle.frame_state.specs.declared.machine.Next.TheVariants.{Branch}
use Rattle.frame_state.specs.declared.machine.Spot.{Spot}
use Rattle.frame_state.specs.Begun.{Begun, is_behind, IsFixedPart, begun_place, begun_next, begun_spot}
use Rattle.frame_state.specs.Branches.{AreBranches, IsBranched}
use Rattle.frame_state.specs.Ground.{Ground, tree_of, IsNode, IsGround, IsPart}
use Rattle.frame_state.specs.Machine.{kept_at, conf, row_length}
use Rattle.frame_state.specs.Frames.{ahead}
use Rattle.frame_state.specs.Validity.{HasBranch, IsValid, Advances}
use Rattle.frame_state.proofs.KidParts.{kid_parts}
use Rattle.std.proofs.Common.{suc}
use Rattle.std.proofs.lemmas.Option.{slice_get-get_or}
use Rattle.frame_state.proofs.PartPaths.{All-at, branched_group, branched_atomic, branched_look}
use Rattle.frame_state.proofs.Turns.{stop_branch, turn_branch_last, stop_branch_units, turn_branch_more, length_row}

module _ (c : Ground) (ok : IsGround c) (q j : ℕ) (spot : Spot) (stack : List Entry) (caps : Captures)
    (v : IsValid c (conf (Branch q j) spot stack caps))
    (ks : List ℕ) (b : AreBranches c q ks) where
  pub branch_inside : j < length ks
  branch_inside =
      let h : j < row_length (row (map (tree_at c.trees) ks)) =
      subst (λ r. j < row_length r) b.branched.rows v.running.2.0.0 in
      omega (arith, h, length_row c ks)

  module _ (p : ℕ) (at : slice_get ks j ≡ Some p) where
    kid_inside : IsPart c p
    kid_inside = All-at c (IsPart c) ks j p b.parts at

    next_branch : suc j < length ks → (x : ℕ) × (slice_get ks (suc j) ≡ Some x)
    next_branch lt = (get_or ks (suc j) 0, slice_get-get_or ks (suc j) 0 lt)

    pub stop_at_branch : spot.left ≡ 0 → tread c.setting spot.left
        (ahead c (conf (Branch q j) spot stack caps)) ≡ answers MatchLimit
    stop_at_branch out =
        elim (cases_lt (suc j) (length ks)) [
          | inl lt ↦ stop_branch c ok q j spot stack caps v ks b.branched p at kid_inside out _ refl
              (inr (next_branch lt))
          | inr ge ↦ stop_branch c ok q j spot stack caps v ks b.branched p at kid_inside out _ refl (inl ge)
        ]

    abbrev behind : Bool
    behind = is_behind (tree_of c q)

    abbrev start : Option Begun
    start = begun_place c p spot.place

    pub turn_last_branch : length ks ≤ suc j → 0 < spot.left →
        Advances c (conf (Branch q j) spot stack caps)
        (conf (begun_next behind start p) (begun_spot behind start (record spot { left = spot.left - 1 })) stack
        caps)
    turn_last_branch ge left = turn_branch_last c ok q j spot stack caps v ks b.branched p at kid_inside ge left

    pub stop_at_branch_units : suc j < length ks → 0 < spot.left → c.setting.matching.frame_limit ≤ spot.units
        → tread c.setting spot.left (ahead c (conf (Branch q j) spot stack caps)) ≡ answers FrameLimit
    stop_at_branch_units lt left full = let z = next_branch lt in
        stop_branch_units c ok q j spot stack caps v ks b.branched p at kid_inside z.0 z.1 left full

    pub turn_next_branch : (j' : ℕ) → j' ≡ suc j → suc j < length ks → 0 < spot.left
        → spot.units < c.setting.matching.frame_limit →
        Advances c (conf (Branch q j) spot stack caps)
        (conf (begun_next behind start p)
        (begun_spot behind start (record spot { left = spot.left - 1; units = spot.units + 1 }))
        (LaterBranch (record { node = q; link = spot.frame }) (kept_at spot) j' ∷ stack) caps)
    turn_next_branch j' same lt left room =
        let z = next_branch lt in
        subst (λ x. Advances c (conf (Branch q j) spot stack caps)
        (conf (begun_next behind start p)
        (begun_spot behind start (record spot { left = spot.left - 1; units = spot.units + 1 }))
        (LaterBranch (record { node = q; link = spot.frame }) (kept_at spot) x ∷ stack) caps)) (sym same)
        (turn_branch_more c ok q j spot stack caps v ks b.branched p at kid_inside z.0 z.1 left lt room)

    -- it begins where it is entered, or so far before as it is long
    pub branch_part : IsPart c p
    branch_part = kid_inside

    pub branch_fixed : behind ≡ true → IsFixedPart c p
    branch_fixed e = All-at c (IsFixedPart c) ks j p (b.branched.fixed e) at

-- the branches of a part, by its node
module _ (c : Ground) (q : ℕ) (inside : IsPart c q) (n : Node) (i : IsNode c q n) where
  branches_by : (ks : List ℕ) → kids_of n ≡ ks → IsBranched c q ks → AreBranches c q ks
  branches_by ks e b = record {
    branched = b;
    parts = subst (All (IsPart c)) e (kid_parts c q n inside i);
    few = subst (λ xs. length xs ≤ 4294967295) e i.few;
  }

  pub group_branches : (number : Option ℕ) (ks : List ℕ) → n ≡ node.Group number ks → AreBranches c q ks
  group_branches number ks e = branches_by ks (ap kids_of e) (branched_group c q n i number ks e)

  pub look_branches : (ahead positive once : Bool) (ks : List ℕ) → n ≡ node.Look ahead positive once ks
      → AreBranches c q ks
  look_branches ahead positive once ks e = branches_by ks (ap kids_of e)
      (branched_look c q n i inside ahead positive once ks e)

  pub atomic_branches : (ks : List ℕ) → n ≡ node.Atomic ks → AreBranches c q ks
  atomic_branches ks e = branches_by ks (ap kids_of e) (branched_atomic c q n i ks e)

-- no other part has branches
pub stray_branches : (c : Ground) (j : ℕ) (n : Node) → HasBranch c (nest c.trees n) j
    → ((number : Option ℕ) (ks : List ℕ) → n ≢ node.Group number ks) →
    ((ks : List ℕ) → n ≢ node.Atomic ks)
    → ((ahead positive once : Bool) (ks : List ℕ) → n ≢ node.Look ahead positive once ks) → ⊥
stray_branches c j (node.Group number ks) h g a l = g number ks refl
stray_branches c j (node.Atomic ks) h g a l = a ks refl
stray_branches c j (node.Look ahead positive once ks) h g a l = l ahead positive once ks refl
stray_branches c j _ h g a l = let none = h.0 in omega (arith, none)
