-- The steps of the machine at a lookaround.
use Rattle.std.proofs.Common.{◌≡◌, ℕ, suc, ◌+◌, ◌<◌, ◌≤◌, ◌∙◌, Bool, true, false, not, List, [], ◌∷◌, reverse, Some}
use Rattle.std.proofs.Common.{length, slice_get, refl, sym, ap, subst, arith}
use Rattle.pat_tree.specs.declared.nodes.Node.{Node}
use Rattle.pat_tree.specs.declared.nodes.Node.TheVariants as node
use Rattle.frame_store.specs.declared.records.Record.{Record}
use Rattle.frame_store.specs.declared.kinds.TheConstants.{KIND_LOOK_OPEN, KIND_LOOK_ALL_OPEN, KIND_DENIAL_OPEN}
use Rattle.frame_store.specs.Captures.{Captures}
use Rattle.frame_store.specs.Entry.{Entry, entry_site, Site, LookOpen, LookAllOpen, DenialOpen, AtomicLeft, entry_of}
use Rattle.frame_store.specs.Entry.{entries, site_of, kept_of}
use Rattle.frame_store.specs.Stack as stack_of
use Rattle.frame_store.specs.Undo.{taken_back, undone}
use Rattle.frame_store.proofs.EntryLemmas.{entry_of-look_open, entry_of-look_all_open, entry_of-denial_open}
use Rattle.ordered_search.specs.Stream.{reached}
use Rattle.ordered_search.specs.PlaceAnswer.{answers, FrameLimit}
use Rattle.ordered_search.specs.Moves.{Moves, Handler, pause, holding, catching, tread}
use Rattle.ordered_search.specs.Paths.{branch_paths, look_path}
use Rattle.frame_state.specs.declared.machine.Next.TheVariants.{Enter, Back, End}
use Rattle.frame_state.specs.declared.machine.Spot.{Spot}
use Rattle.frame_state.specs.Ground.{Ground, tree_of, IsNode, IsGround, IsPart}
use Rattle.frame_state.specs.Machine.{Around, kept_at, entry_kept, conf, onward}
use Rattle.frame_state.specs.Frames.{beyond_by, past, around, frame_around, hand, fail, outside, spot_state, ahead}
use Rattle.frame_state.specs.Frames.{caught}
use Rattle.frame_state.specs.Validity.{IsSound, IsValid, Advances}
use Rattle.frame_looks.specs.Looks.{look_entry, look_kind}
use Rattle.frame_state.specs.Stops.{record_at}
use Rattle.frame_state.proofs.Drops.{past_slots}
use Rattle.frame_store.proofs.StackLemmas.{up_to-map}
use Rattle.frame_store.specs.Undo.{HasSlot}
use Rattle.frame_store.specs.Entry.{entry_in}
use Rattle.std.proofs.Common.{All}
use Rattle.std.proofs.lemmas.List.{length-reverse}
use Rattle.std.proofs.lemmas.Option.{slice_get_within}
use Rattle.frame_state.specs.Begun.{is_behind, IsFixedPart, first_begun, first_spot}
use Rattle.frame_state.specs.Branches.{IsBranched}
use Rattle.frame_state.proofs.PartPaths.{tree_by, kid_paths, branched_look, behind_look, fixed_look, enter_look}
use Rattle.frame_state.proofs.PartPaths.{branches_by}
use Rattle.frame_state.proofs.Frames.{inside_of, caught_at, caught_then}
use Rattle.frame_state.proofs.Advance.{holding_full, over_units}
use Rattle.frame_state.proofs.Turns.{deep, opens_as}
use Rattle.frame_state.proofs.LeaveTurns.{frame_inside, frame_here, stop_leave, turn_left, turn_through, turn_denied}
use Rattle.frame_state.proofs.KidParts.{kid_parts}
use Rattle.frame_state.proofs.PartPaths.{EndsFrame}

module _ (c : Ground) (ok : IsGround c) (q : ℕ) (spot : Spot) (stack : List Entry) (caps : Captures)
    (v : IsValid c (conf (Enter q) spot stack caps)) (ks : List ℕ) where
  abbrev here : Site
  here = record { node = q; link = spot.frame }

  module _ (ahead' positive' once' : Bool) (i : IsNode c q (node.Look ahead' positive' once' ks)) where
    abbrev n : Node
    n = node.Look ahead' positive' once' ks

    parts : All (IsPart c) ks
    parts = kid_parts c q n v.running.0 i

    branches : IsBranched c q ks
    branches = branched_look c q n i v.running.0 ahead' positive' once' ks refl

    none : EndsFrame c q
    none = λ d k. ap (λ x. beyond_by c x d k q) (sym (tree_by c q n i n refl))

    behind : is_behind (tree_of c q) ≡ not ahead'
    behind = behind_look c q n i ahead' positive' once' ks refl

    -- its frame is opened
    module _ (r : Entry) (at : entry_site r ≡ here) (kept : entry_kept r ≡ kept_at spot)
        (plain : taken_back r caps ≡ caps) (same : (a : Around) → frame_around r a ≡ a)
        (room : spot.units < c.setting.matching.frame_limit) (sound : IsSound c spot.left (length caps) stack r)
        (h : Handler) (is : h ≡ caught c (r ∷ stack) caps (suc (length stack))) (z : Moves) where
      look_opens : ahead c (conf (Enter q) spot stack caps)
          ≡ pause (holding c.setting 1 (spot_state c spot stack caps) (λ u.
          branch_paths c.setting (kid_paths c (tree_of c q) (around c stack spot.frame).depth ks) u
          (inside_of c r stack caps).follow z h)) →
          fail c (r ∷ stack) caps ≡ z →
          Advances c (conf (Enter q) spot stack caps)
          (conf (first_begun c (not ahead') q ks spot.place)
          (first_spot c (not ahead') ks (record spot { frame = suc (length stack); units = spot.units + 1 }))
          (r ∷ stack) caps)
      look_opens e f = opens_as c ok q spot stack caps v n i r at kept plain same room q v.running.0 ks parts branches
          none (branches_by c q n i n refl) sound h is z (not ahead') behind e f

    entered : ahead c (conf (Enter q) spot stack caps)
        ≡ look_path c.setting positive' once'
        (branch_paths c.setting (kid_paths c (tree_of c q) (around c stack spot.frame).depth ks))
        (spot_state c spot stack caps) (past c (around c stack spot.frame).depth (outside c stack caps spot.frame)
        q) (fail c stack caps) (hand c stack caps spot.frame q)
    entered = enter_look c ok q n i _ _ _ _ _ (deep c ok q spot stack caps v n i) ahead' positive' once' ks refl

  pub turn_look : (ahead' positive once : Bool) → IsNode c q (node.Look ahead' positive once ks)
      → spot.units < c.setting.matching.frame_limit →
      Advances c (conf (Enter q) spot stack caps)
      (conf (first_begun c (not ahead') q ks spot.place)
      (first_spot c (not ahead') ks (record spot { frame = suc (length stack); units = spot.units + 1 }))
      (look_entry positive once (record { node = q; link = spot.frame }) (kept_at spot) ∷ stack) caps)
  unfolding fail look_path
  turn_look ahead' true true i room =
      look_opens ahead' true true i (LookOpen here (kept_at spot)) refl refl refl (λ a. refl) room
      (v.running.0, v.running.1, tt, v.running.2)
      (catching (pause (fail c stack caps)) (hand c stack caps spot.frame q))
      (caught_then c (LookOpen here (kept_at spot)) stack caps refl refl) (pause (fail c stack caps))
      (entered ahead' true true i) refl
  turn_look ahead' true false i room =
      look_opens ahead' true false i (LookAllOpen here (kept_at spot)) refl refl refl (λ a. refl) room
      (v.running.0, v.running.1, tt, v.running.2)
      (catching (pause (fail c stack caps)) (hand c stack caps spot.frame q))
      (caught_then c (LookAllOpen here (kept_at spot)) stack caps refl refl) (pause (fail c stack caps))
      (entered ahead' true false i) refl
  turn_look ahead' false once i room =
      let passes : Moves = past c (around c stack spot.frame).depth (outside c stack caps spot.frame) q reached
      (spot_state c spot stack caps) (fail c stack caps) in
      look_opens ahead' false once i (DenialOpen here (kept_at spot)) refl refl refl (λ a. refl) room
      (v.running.0, v.running.1, tt, v.running.2)
      (λ w. pause passes) (caught_at c (DenialOpen here (kept_at spot)) stack caps refl refl) (pause passes)
      (entered ahead' false once i) refl

  pub stop_look : (ahead' positive once : Bool) → IsNode c q (node.Look ahead' positive once ks)
      → c.setting.matching.frame_limit ≤ spot.units →
      tread c.setting spot.left (ahead c (conf (Enter q) spot stack caps)) ≡ answers FrameLimit
  unfolding look_path
  stop_look ahead' true true i full = over_units c spot.left _ _ (entered ahead' true true i)
      (holding_full c.setting _ _ full)
  stop_look ahead' true false i full = over_units c spot.left _ _ (entered ahead' true false i)
      (holding_full c.setting _ _ full)
  stop_look ahead' false once i full = over_units c spot.left _ _ (entered ahead' false once i)
      (holding_full c.setting _ _ full)

  -- its branches are parts, and where it looks back none is refused
  pub look_parts : (ahead' positive once : Bool) → IsNode c q (node.Look ahead' positive once ks) → All (IsPart c) ks
  look_parts ahead' positive once i = parts ahead' positive once i

  pub look_fixed : (ahead' positive once : Bool) → IsNode c q (node.Look ahead' positive once ks) → not ahead' ≡ true
      → All (IsFixedPart c) ks
  look_fixed ahead' positive once i e = fixed_look c q (node.Look ahead' positive once ks) i v.running.0 ahead'
      positive once ks refl e

-- it has ended
module _ (c : Ground) (ok : IsGround c) (spot : Spot) (records : List Record) (caps : Captures)
    (v : IsValid c (conf End spot (entries records) caps)) (h : ℕ) (height : spot.frame ≡ h + 1)
    (p : Record) (at : slice_get (reverse records) h ≡ Some p) where
  at_height : spot.frame ≡ suc h
  at_height = omega (arith, height)

  module _ (kind : p.kind ≡ KIND_LOOK_OPEN) where
    pub look_inside : IsPart c p.node
    look_inside = frame_inside c ok spot records caps v h at_height p at (site_of p) (kept_of p)
        (LookOpen (site_of p) (kept_of p)) (entry_of-look_open p kind) refl refl (λ a. refl) (λ below s. (s.0, s.1))

    look_here : c.stands p.place ≡ true
    look_here = frame_here c ok spot records caps v h at_height p at (site_of p) (kept_of p)
        (LookOpen (site_of p) (kept_of p)) (entry_of-look_open p kind) refl refl (λ a. refl) (λ below s. (s.0, s.1))

    pub stop_look_left : c.setting.matching.frame_limit ≤ spot.units
        → tread c.setting spot.left (ahead c (conf End spot (entries records) caps)) ≡ answers FrameLimit
    stop_look_left full =
        stop_leave c ok spot records caps v h at_height p at (site_of p) (kept_of p)
        (LookOpen (site_of p) (kept_of p)) (entry_of-look_open p kind) refl refl (λ a. refl)
        (λ below s. (s.0, s.1))
        p.place p.keep look_here (λ a k. past c a.depth k p.node) (λ a b k x out f. refl) full

    pub turn_look_left : spot.units < c.setting.matching.frame_limit →
        Advances c (conf End spot (entries records) caps)
        (conf (onward c p.node) (record spot {
          place = p.place;
          keep = p.keep;
          passed = p.passed;
          frame = p.link;
          units = spot.units + 1;
        })
        (AtomicLeft (record { node = p.node; link = p.link }) (kept_at (record spot { frame = p.link })) h ∷ entries
        records) caps)
    turn_look_left room =
        turn_left c ok spot records caps v h at_height p at (site_of p) (kept_of p) (LookOpen (site_of p) (kept_of p))
        (entry_of-look_open p kind) refl refl (λ a. refl) (λ below s. (s.0, s.1))
        p.place p.keep look_here (λ a b k x out f. refl) room

  module _ (kind : p.kind ≡ KIND_LOOK_ALL_OPEN) where
    pub through_inside : IsPart c p.node
    through_inside = frame_inside c ok spot records caps v h at_height p at (site_of p) (kept_of p)
        (LookAllOpen (site_of p) (kept_of p)) (entry_of-look_all_open p kind) refl refl (λ a. refl)
        (λ below s. (s.0, s.1))

    through_here : c.stands p.place ≡ true
    through_here = frame_here c ok spot records caps v h at_height p at (site_of p) (kept_of p)
        (LookAllOpen (site_of p) (kept_of p)) (entry_of-look_all_open p kind) refl refl (λ a. refl)
        (λ below s. (s.0, s.1))

    pub turn_look_through : Advances c (conf End spot (entries records) caps)
        (conf (onward c p.node) (record spot { place = p.place; keep = p.keep; frame = p.link })
        (entries records) caps)
    turn_look_through =
        turn_through c ok spot records caps v h at_height p at (site_of p) (kept_of p)
        (LookAllOpen (site_of p) (kept_of p)) (entry_of-look_all_open p kind) refl refl (λ a. refl)
        (λ below s. (s.0, s.1))
        p.place p.keep through_here (λ a b k x out f. refl)

  pub turn_look_denied : p.kind ≡ KIND_DENIAL_OPEN →
      Advances c (conf End spot (entries records) caps)
      (conf Back spot (stack_of.up_to h (entries records)) (undone (stack_of.past h (entries records)) caps))
  turn_look_denied kind =
      turn_denied c ok spot records caps v h at_height p at (site_of p) (kept_of p)
      (DenialOpen (site_of p) (kept_of p)) (entry_of-denial_open p kind) refl refl (λ a. refl)
      (λ below s. (s.0, s.1))
      (λ a k x out s f. refl)

  pub turn_look_down : p.kind ≡ KIND_DENIAL_OPEN → (rest : List Record) → rest ≡ stack_of.up_to h records
      → (after : Captures) → after ≡ undone (stack_of.past h (entries records)) caps →
      Advances c (conf End spot (entries records) caps) (conf Back spot (entries rest) after)
  turn_look_down kind rest cut after put =
      let same : entries rest ≡ stack_of.up_to h (entries records) = ap entries cut
      ∙ sym (up_to-map entry_of h records) in
      subst (λ x. Advances c (conf End spot (entries records) caps) (conf Back spot (entries rest) x)) (sym put)
      (subst (λ st. Advances c (conf End spot (entries records) caps)
      (conf Back spot st (undone (stack_of.past h (entries records)) caps))) (sym same)
      (turn_look_denied kind))

pub denied_height : (records : List Record) (h : ℕ) (p : Record) → slice_get (reverse records) h ≡ Some p
    → h ≤ length records
denied_height records h p at = let within : h < length (reverse records) =
    slice_get_within (reverse records) h p at in omega (arith, within, length-reverse records)

pub denied_slots : (c : Ground) → IsGround c → (spot : Spot) (records : List Record) (caps : Captures)
    → IsValid c (conf End spot (entries records) caps) → (h : ℕ) →
    All (HasSlot caps) (stack_of.past h (entries records))
denied_slots c ok spot records caps v h = past_slots c ok spot.left caps (entries records) h v.records

-- its record
pub look_record : (positive once : Bool) (spot : Spot) (q : ℕ)
    → entry_of (record_at spot (look_kind positive once) q 0 0 0) ≡ look_entry positive once
    (record { node = q; link = spot.frame }) (kept_at spot)
unfolding entry_in
look_record true true spot q = refl
look_record true false spot q = refl
look_record false once spot q = refl
