-- The steps of the machine at an atomic group.
use Rattle.std.proofs.Common.{◌≡◌, ℕ, suc, ◌+◌, ◌<◌, ◌≤◌, List, ◌∷◌, map, reverse, None, Some, length, slice_get}
use Rattle.std.proofs.Common.{refl, sym, ap, arith}
use Rattle.pat_tree.specs.declared.nodes.Node.TheVariants as node
use Rattle.pat_tree.specs.Nested.{row, tree_at}
use Rattle.ordered_search.specs.Paths.{only_many}
use Rattle.frame_store.specs.declared.records.Record.{Record}
use Rattle.frame_store.specs.declared.kinds.TheConstants.{KIND_ATOMIC_OPEN}
use Rattle.frame_store.specs.Captures.{Captures}
use Rattle.frame_store.specs.Entry.{Entry, AtomicOpen, AtomicLeft, entries, site_of, kept_of}
use Rattle.frame_store.proofs.EntryLemmas.{entry_of-atomic_open}
use Rattle.ordered_search.specs.PlaceAnswer.{answers, FrameLimit}
use Rattle.ordered_search.specs.Moves.{pause, tread}
use Rattle.frame_state.specs.declared.machine.Next.TheVariants.{Enter, End}
use Rattle.frame_state.specs.declared.machine.Spot.{Spot}
use Rattle.frame_state.specs.Ground.{Ground, IsNode, IsGround, IsPart}
use Rattle.frame_state.specs.Machine.{kept_at, conf, first_next, onward}
use Rattle.frame_state.specs.Begun.{is_behind}
use Rattle.frame_state.specs.Frames.{beyond_by, hand, fail, ahead, past}
use Rattle.frame_state.specs.Validity.{IsValid, Advances}
use Rattle.frame_state.proofs.PartPaths.{tree_by, branches_by, branched_atomic, enter_atomic}
use Rattle.frame_state.proofs.Advance.{holding_full, over_units}
use Rattle.frame_state.proofs.Frames.{caught_through}
use Rattle.frame_state.proofs.Turns.{deep, opens}
use Rattle.frame_state.proofs.LeaveTurns.{frame_inside, stop_leave, turn_left}
use Rattle.frame_state.proofs.KidParts.{kid_parts}

module _ (c : Ground) (ok : IsGround c) (q : ℕ) (spot : Spot) (stack : List Entry) (caps : Captures)
    (v : IsValid c (conf (Enter q) spot stack caps)) (ks : List ℕ) (i : IsNode c q (node.Atomic ks))
    (none : only_many (row (map (tree_at c.trees) ks)) ≡ None) where
  pub turn_atomic : spot.units < c.setting.matching.frame_limit →
      Advances c (conf (Enter q) spot stack caps)
      (conf (first_next q ks) (record spot { frame = suc (length stack); units = spot.units + 1 })
      (AtomicOpen (record { node = q; link = spot.frame }) (kept_at spot) ∷ stack) caps)
  unfolding fail
  turn_atomic room =
      opens c ok q spot stack caps v (node.Atomic ks) i
      (AtomicOpen (record { node = q; link = spot.frame }) (kept_at spot)) refl refl refl (λ a. refl) room
      q v.running.0 ks (kid_parts c q (node.Atomic ks) v.running.0 i) (branched_atomic c q (node.Atomic ks) i ks refl)
      (λ d k. ap (λ x. beyond_by c x d k q) (sym (tree_by c q (node.Atomic ks) i (node.Atomic ks) refl)))
      (branches_by c q (node.Atomic ks) i (node.Atomic ks) refl) (v.running.0, v.running.1, tt, v.running.2)
      (hand c stack caps spot.frame q)
      (caught_through c (AtomicOpen (record { node = q; link = spot.frame }) (kept_at spot)) stack caps refl refl)
      (pause (fail c stack caps)) (ap is_behind (sym (tree_by c q (node.Atomic ks) i (node.Atomic ks) refl)))
      (enter_atomic c ok q (node.Atomic ks) i _ _ _ _ _ (deep c ok q spot stack caps v (node.Atomic ks) i) ks refl
      none) refl

  pub stop_atomic : c.setting.matching.frame_limit ≤ spot.units
      → tread c.setting spot.left (ahead c (conf (Enter q) spot stack caps)) ≡ answers FrameLimit
  stop_atomic full =
      over_units c spot.left _ _ (enter_atomic c ok q (node.Atomic ks) i _ _ _ _ _
      (deep c ok q spot stack caps v (node.Atomic ks) i) ks refl none) (holding_full c.setting _ _ full)

-- it is left
module _ (c : Ground) (ok : IsGround c) (spot : Spot) (records : List Record) (caps : Captures)
    (v : IsValid c (conf End spot (entries records) caps)) (h : ℕ) (height : spot.frame ≡ h + 1)
    (p : Record) (at : slice_get (reverse records) h ≡ Some p) (kind : p.kind ≡ KIND_ATOMIC_OPEN) where
  at_height : spot.frame ≡ suc h
  at_height = omega (arith, height)

  pub atomic_inside : IsPart c p.node
  atomic_inside = frame_inside c ok spot records caps v h at_height p at (site_of p) (kept_of p)
      (AtomicOpen (site_of p) (kept_of p)) (entry_of-atomic_open p kind) refl refl (λ a. refl) (λ below s. (s.0, s.1))

  pub stop_atomic_left : c.setting.matching.frame_limit ≤ spot.units
      → tread c.setting spot.left (ahead c (conf End spot (entries records) caps)) ≡ answers FrameLimit
  stop_atomic_left full =
      stop_leave c ok spot records caps v h at_height p at (site_of p) (kept_of p)
      (AtomicOpen (site_of p) (kept_of p)) (entry_of-atomic_open p kind) refl refl (λ a. refl)
      (λ below s. (s.0, s.1))
      spot.place spot.keep v.running.here (λ a k. past c a.depth k p.node) (λ a b k x out f. refl) full

  pub turn_atomic_left : spot.units < c.setting.matching.frame_limit →
      Advances c (conf End spot (entries records) caps)
      (conf (onward c p.node) (record spot { passed = p.passed; frame = p.link; units = spot.units + 1 })
      (AtomicLeft (record { node = p.node; link = p.link }) (kept_at (record spot { frame = p.link })) h ∷ entries
      records) caps)
  turn_atomic_left room =
      turn_left c ok spot records caps v h at_height p at (site_of p) (kept_of p) (AtomicOpen (site_of p) (kept_of p))
      (entry_of-atomic_open p kind) refl refl (λ a. refl) (λ below s. (s.0, s.1))
      spot.place spot.keep v.running.here (λ a b k x out f. refl) room
