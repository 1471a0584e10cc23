-- The steps of the machine at a part.
use Rattle.std.proofs.Common.{◌≡◌, ℕ, suc, ◌+◌, ◌-◌, ◌<◌, ◌≤◌, ◌∙◌, Bool, true, false, ◌&&◌, if◌then◌else◌, List, []}
use Rattle.std.proofs.Common.{◌∷◌, map, Option, Some, None, length, All, slice_get, get_or, ◌⊎◌, inl, inr, refl, sym}
use Rattle.std.proofs.Common.{ap, subst, arith, min, option_map}
use Rattle.std.specs.Prelude.{◌==◌, nat_lt}
use Rattle.std.proofs.lemmas.List.Elements.{All-head, All-get_or}
use Rattle.std.proofs.Math.ListN.{get_or-eq_default}
use Rattle.std.proofs.lemmas.Bool.{cases_lt, ltb-false, false≢true}
use Rattle.pat_tree.specs.declared.options.PartialMode.TheVariants.{Off}
use Rattle.pat_tree.specs.declared.nodes.Item.{Item}
use Rattle.pat_tree.specs.declared.nodes.AnchorKind.{AnchorKind}
use Rattle.pat_tree.specs.declared.nodes.Node.{Node}
use Rattle.pat_tree.specs.declared.nodes.Node.TheVariants as node
use Rattle.pat_tree.specs.Nested as tree
use Rattle.pat_tree.specs.Nested.{Nested, row, nest, tree_at}
use Rattle.pat_tree.specs.Rules.{kids_of}
use Rattle.match_items.specs.Items.{after_item, item_reaches, after_break, break_reaches, after_ref, holds}
use Rattle.match_items.specs.Items.{anchor_reaches, earliest, places_back}
use Rattle.frame_store.specs.declared.registers.Span.{Span}
use Rattle.frame_store.specs.Captures.{Captures, capture}
use Rattle.frame_store.specs.Entry.{Entry, GroupOpen, LaterBranch, Site, Kept, entry_site}
use Rattle.ordered_search.specs.Stream.{State, prune, skip, commit, reached}
use Rattle.ordered_search.specs.PlaceAnswer.{answers, MatchLimit, FrameLimit}
use Rattle.pat_lengths.specs.Backs.{lengths_back}
use Rattle.pat_lengths.specs.declared.backs.Back.{Back as Lengths}
use Rattle.pat_lengths.proofs.BackLemmas.{limited}
use Rattle.ordered_search.specs.Setting.{branch_lengths}
use Rattle.ordered_search.specs.Moves.{Moves, pause, stepped, Follow, Path, catching, going, holding, reaching}
use Rattle.ordered_search.specs.Moves.{tread, Handler}
use Rattle.frame_state.specs.declared.machine.Next.{Next}
use Rattle.frame_state.specs.declared.machine.Next.TheVariants.{Enter, Branch, Offer, Back, End}
use Rattle.frame_state.specs.declared.machine.Met.{Met}
use Rattle.frame_state.specs.declared.machine.Spot.{Spot}
use Rattle.frame_state.specs.declared.machine.Stop.{Stop}
use Rattle.frame_state.specs.Behind.{place_back}
use Rattle.frame_state.specs.Begun.{Begun, placed, tried, is_behind, IsFixedPart, begun_within, begun_by, begun_place}
use Rattle.frame_state.specs.Begun.{begun_next, begun_spot, first_begun, first_spot}
use Rattle.frame_state.specs.Branches.{IsBranched, branch_look}
use Rattle.frame_state.specs.Ground.{Ground, tree_of, IsNode, StandsIf, IsGround, IsPart}
use Rattle.frame_state.specs.Machine.{Around, Outside, kept_at, conf, first_set, first_next, row_length, onward}
use Rattle.frame_state.specs.Machine.{entry_kept, state_at, heard, place_at}
use Rattle.frame_state.specs.Frames.{past, branch_rest, beyond_by, beyond, branch_path, around, around_at, outside}
use Rattle.frame_state.specs.Frames.{cont}
use Rattle.frame_state.specs.Frames.{caught}
use Rattle.frame_state.specs.Frames.{fail, focus, spot_state, ahead, frame_around, hand}
use Rattle.frame_state.specs.Over.{GoesBy}
use Rattle.frame_state.specs.Validity.{IsLater, StandsAt, IsRepeat, IsCapture, SpanStands, AreSpans, IsRunning}
use Rattle.frame_state.specs.Validity.{IsValid, Advances, IsSound, IsTried}
use Rattle.frame_state.specs.Stops.{moved_next, moved_spot, held_next, held_early, part_next, tells, IsStop}
use Rattle.frame_state.specs.Reach.{asks, IsNoted, IsHardStop, IsTested, IsAnchored, referred_reaches}
use Rattle.frame_state.proofs.ReachTurns.{noted_off, noted_asked, stop_asked, advance_noted, stop_noted}
use Rattle.node_flow.specs.Branches.{branch_if}
use Rattle.node_flow.proofs.Branching.{branch_own}
use Rattle.frame_state.proofs.KidParts.{kid_parts, kid_ranks}
use Rattle.frame_state.proofs.PartPaths.{enter_empty, enter_keep, enter_one, enter_break, enter_anchor, enter_ref}
use Rattle.frame_state.proofs.PartPaths.{enter_seq_none, enter_seq, enter_group, enter_capture, enter_repeat}
use Rattle.frame_state.proofs.PartPaths.{branch_begun, branch_last, branch_more, Alike, Alone, IsAgreed}
use Rattle.frame_state.proofs.PartPaths.{catching_same, branches_by, tree_by, EndsFrame, All-at, part_paths}
use Rattle.frame_state.proofs.PartPaths.{kid_paths, plain_kids}
use Rattle.frame_state.proofs.PartPaths.{begun_state, first_state, first_plain, branched_group, branches_in}
use Rattle.frame_state.proofs.Frames.{focus_towards, running_towards, around_here, around_push, heard_push}
use Rattle.frame_state.proofs.Frames.{focus_framed, sound_less, caught_push, hand_same, hand_frame, hand_begun}
use Rattle.frame_state.proofs.Frames.{caught_through, around_with, inside_of, outside_push, beyond_agrees, place_here}
use Rattle.frame_state.proofs.BehindLemmas.{some_back, back_room}
use Rattle.frame_state.proofs.Frames.{place_push, later_more, later_push, later_none, contained_push, contained_none}
use Rattle.frame_state.proofs.Advance.{goes_pause, advance_from, holding_room, holding_full, advance_pause}
use Rattle.frame_state.proofs.Advance.{advance_step, over_steps, over_units, over_units_step, goes_on, stays}
use Rattle.frame_store.specs.Undo.{taken_back}
use Rattle.ordered_search.specs.Paths.{branch_paths}

module _ (c : Ground) (ok : IsGround c) where
  stands_item : (item : Item) (p : ℕ) (o : Option ℕ) → c.stands p ≡ true → after_item c.setting.scene item p ≡ o
      → StandsIf c o
  stands_item item p None h e = tt
  stands_item item p (Some r) h e = (ok.forward item p r h e).1

  pub stands_capture : (xs : Captures) (k : ℕ) → AreSpans c xs → SpanStands c (get_or xs k None)
  stands_capture xs k a =
      elim (cases_lt k (length xs)) [
        | inl within ↦ All-get_or (SpanStands c) xs k None within a
        | inr past_end ↦ subst (SpanStands c) (sym (get_or-eq_default xs None past_end)) tt
      ]

  pub stands_set : (caps : Captures) (ns : List ℕ) → AreSpans c caps → SpanStands c (first_set caps ns)
  stands_set caps [] a = tt
  stands_set caps (n ∷ ns) a =
      (elim (capture caps n) as (λ o. SpanStands c o → SpanStands c
      (let z : Option Span = elim o [ None ↦ first_set caps ns | Some span ↦ Some span ] in z)) [
        | None ↦ λ h. stands_set caps ns a
        | Some span ↦ λ h. h
      ]) (stands_capture caps (n - 1) a)

  stands_refer : (o : Option Span) (b caseless : Bool) (p : ℕ) → c.stands p ≡ true → SpanStands c o → (r : Option ℕ) →
      r ≡ elim o [
        | None ↦ if b then Some p else None
        | Some span ↦
            after_ref c.setting.scene span.from span.to caseless p
      ] → StandsIf c r
  stands_refer None true caseless p h a r e = subst (StandsIf c) (sym e) h
  stands_refer None false caseless p h a r e = subst (StandsIf c) (sym e) tt
  stands_refer (Some span) b caseless p h a r e = subst (StandsIf c) (sym e)
      (ok.refers span.from span.to p caseless a.0 a.1 h)

-- what verbs lead to is the same in the parts of a sequence
pub alike : (c : Ground) (stack : List Entry) (caps : Captures) (l q : ℕ) (ks : List ℕ)
    → All (λ k. c.branch k ≡ c.branch q) ks → Alike c (outside c stack caps l) q ks
alike c stack caps l q ks same = λ i d h. hand_same c stack caps l (get_or ks i d) q (same i d h)

-- and in a branch that is alone
pub alone : (c : Ground) (stack : List Entry) (caps : Captures) (l : ℕ) (k : Follow) (place : ℕ) (ks : List ℕ)
    (o : Option ℕ) (h : Handler) → All (λ p. c.branch p ≡ branch_if ks o p) ks →
    ((p : ℕ) → c.branch p ≡ o → hand c stack caps l p ≡ h) → Alone c (around_with c k place (hand c stack caps l)) ks h
alone c stack caps l k place [] o h own same = tt
alone c stack caps l k place (p ∷ []) o h own same = same p (All-head (λ x. c.branch x ≡ o) p [] own)
alone c stack caps l k place (p ∷ p' ∷ ps) o h own same = tt

-- What verbs lead to but for THEN is the frame's in each part.

pub agreed_frame : (c : Ground) (stack : List Entry) (caps : Captures) (l p : ℕ) (h : Handler)
    → h ≡ caught c stack caps l → IsAgreed c h (hand c stack caps l p)
agreed_frame c stack caps l p h e =
    record {
      prune = ap (λ (z : Handler). z prune) e;
      skip = λ n. ap (λ (z : Handler). z (skip n)) e;
      commit = ap (λ (z : Handler). z commit) e;
    }

agreed_hands : (c : Ground) (stack other : List Entry) (caps now : Captures) (l p : ℕ)
    → caught c stack caps l ≡ caught c other now l →
    IsAgreed c (hand c stack caps l p) (hand c other now l p)
agreed_hands c stack other caps now l p e =
    record {
      prune = ap (λ (z : Handler). z prune) e;
      skip = λ n. ap (λ (z : Handler). z (skip n)) e;
      commit = ap (λ (z : Handler). z commit) e;
    }

-- A branch is begun: where it begins stands.

module _ (c : Ground) (ok : IsGround c) where
  -- what holds of it
  abbrev pub IsBegun : (p place at : ℕ) → Option Begun → Type 0
  IsBegun p place at None = Unit {0}
  IsBegun p place at (Some (placed q)) = c.stands q ≡ true
  IsBegun p place at (Some (tried n)) = IsTried c p n place at

  is_placed : (p place at : ℕ) (o : Option ℕ) → StandsIf c o → IsBegun p place at (option_map placed o)
  is_placed p place at None h = tt
  is_placed p place at (Some q) h = h

  module _ (p place at : ℕ) (here : c.stands place ≡ true) (fixed : IsFixedPart c p) (own : c.look_branch p ≡ Some p)
      (alone : c.rest p ≡ []) (framed : place ≡ at) where
    is_tried : (b : Lengths) → branch_lengths c.setting (tree_of c p) ≡ lengths_back b → (b.least == b.most) ≡ false
        → (few : Bool) → nat_lt (length (places_back c.setting.scene b.most place) - 1) b.least ≡ few
        → IsBegun p place at (if few then None
        else Some (tried (length (places_back c.setting.scene b.most place) - 1)))
    is_tried b lengths differs true e = tt
    is_tried b lengths differs false e =
        let n : ℕ = length (places_back c.setting.scene b.most place) - 1 in
        let some = some_back c.setting.scene b.most place in
        let same : length (places_back c.setting.scene b.most place) ≡ length (places_back c.setting.scene n place) =
        ap length (back_room c.setting.scene b.most place) in
        record {
          fixed = fixed;
          own = own;
          alone = alone;
          back = b;
          lengths = lengths;
          differ = differs;
          least = ltb-false n b.least e;
          room = omega (arith, some, same);
          framed = framed;
        }

    is_within : (b : Lengths) → branch_lengths c.setting (tree_of c p) ≡ lengths_back b → (same : Bool)
        → (b.least == b.most) ≡ same → IsBegun p place at (begun_within c same b.least b.most place)
    is_within b lengths true e =
        is_placed p place at (place_back c.setting.scene b.most place) (ok.steps_back b.most place here)
    is_within b lengths false e =
        is_tried b lengths e (nat_lt (length (places_back c.setting.scene b.most place) - 1) b.least) refl

    pub begun_so : IsBegun p place at (begun_place c p place)
    begun_so =
        let l = limited (branch_lengths c.setting (tree_of c p)) fixed in
        let b : Lengths = l.0 in
        subst (λ x. IsBegun p place at (begun_by c x place)) (sym l.1) (is_within b l.1 (b.least == b.most) refl)

  begun_ahead : (b : Bool) (to : Option Begun) (p : ℕ) (spot : Spot) (stack : List Entry) (caps : Captures) →
      ahead c (conf (begun_next b to p) (begun_spot b to spot) stack caps)
      ≡ focus c (begun_next b to p) (around c stack spot.frame).depth (outside c stack caps spot.frame)
      (state_at (around_at c stack spot.frame spot.passed) (kept_at (begun_spot b to spot)) caps)
      (fail c stack caps)
  begun_ahead false to p spot stack caps = refl
  begun_ahead true None p spot stack caps = refl
  begun_ahead true (Some (placed place)) p spot stack caps = refl
  begun_ahead true (Some (tried n)) p spot stack caps = refl

  begun_kept : (b : Bool) (to : Option Begun) (a : Around) (spot : Spot) (caps : Captures)
      → state_at a (kept_at (begun_spot b to spot)) caps ≡ begun_state c b to (state_at a (kept_at spot) caps)
  begun_kept false to a spot caps = refl
  begun_kept true None a spot caps = refl
  begun_kept true (Some (placed place)) a spot caps = refl
  begun_kept true (Some (tried n)) a spot caps = refl

  begun_left : (b : Bool) (to : Option Begun) (spot : Spot) → (begun_spot b to spot).left ≡ spot.left
  begun_left false to spot = refl
  begun_left true None spot = refl
  begun_left true (Some (placed place)) spot = refl
  begun_left true (Some (tried n)) spot = refl

  begun_last : (b : Bool) (to : Option Begun) (spot : Spot) → (begun_spot b to spot).last ≡ spot.last
  begun_last false to spot = refl
  begun_last true None spot = refl
  begun_last true (Some (placed place)) spot = refl
  begun_last true (Some (tried n)) spot = refl

  begun_told : (b : Bool) (to : Option Begun) (spot : Spot) → stays (begun_spot b to spot) ≡ stays spot
  begun_told false to spot = refl
  begun_told true None spot = refl
  begun_told true (Some (placed place)) spot = refl
  begun_told true (Some (tried n)) spot = refl

  -- a branch is run from a place
  pub placed_valid : (p place : ℕ) → c.stands place ≡ true → (spot : Spot) (stack : List Entry) (caps : Captures)
      → IsValid c (conf (Enter p) spot stack caps)
      → IsValid c (conf (Enter p) (record spot { place = place; early = min spot.early place }) stack caps)
  placed_valid p place h spot stack caps v =
      let w = v.running.1 in
      record {
        running = (
          v.running.0,
          record {
            inside = w.inside;
            deep = w.deep;
            counted = w.counted;
            few = w.few;
            here = h;
            marked = w.marked;
            contained = w.contained;
          },
          v.running.2,
        );
        records = v.records;
        spans = v.spans;
        slots = v.slots;
      }

  begun_valid : (b : Bool) (to : Option Begun) (p : ℕ) (spot : Spot) (stack : List Entry) (caps : Captures)
      → (b ≡ true → IsBegun p spot.place (place_at stack spot.frame) to) →
      IsValid c (conf (Enter p) spot stack caps)
      → IsValid c (conf (begun_next b to p) (begun_spot b to spot) stack caps)
  begun_valid false to p spot stack caps h v = v
  begun_valid true None p spot stack caps h v = record {
    running = tt;
    records = v.records;
    spans = v.spans;
    slots = v.slots;
  }
  begun_valid true (Some (placed place)) p spot stack caps h v = placed_valid p place (h refl) spot stack caps v
  begun_valid true (Some (tried n)) p spot stack caps h v = record {
    running = (v.running.0, v.running.1, h refl, v.running.2);
    records = v.records;
    spans = v.spans;
    slots = v.slots;
  }

  -- the branches of a lookbehind
  look_own : (t : Nested) (o : Option ℕ) (x : ℕ) → is_behind t ≡ true → branch_look t o x ≡ Some x
  look_own (tree.look false positive once ts) o x e = refl
  look_own (tree.look true positive once ts) o x e = absurd (false≢true e)
  look_own _ o x e = absurd (false≢true e)

  look_alone : (t : Nested) (qs : List ℕ) → is_behind t ≡ true → branch_rest c t qs ≡ []
  look_alone (tree.look ahead positive once ts) qs e = refl
  look_alone _ qs e = absurd (false≢true e)

  pub branch_begins : (q : ℕ) (ks : List ℕ) → IsBranched c q ks → is_behind (tree_of c q) ≡ true → (place at : ℕ)
      → c.stands place ≡ true → place ≡ at → All (λ p. IsBegun p place at (begun_place c p place)) ks
  branch_begins q ks b back place at here framed = λ i d m.
      let p : ℕ = get_or ks i d in
      begun_so p place at here (b.fixed back i d m)
      (b.looked i d m ∙ look_own (tree_of c q) (c.look_branch q) p back)
      (b.linked i d m ∙ look_alone (tree_of c q) (c.rest q) back) framed

-- a part is run
module _ (c : Ground) (ok : IsGround c) (q : ℕ) (spot : Spot) (stack : List Entry) (caps : Captures)
    (v : IsValid c (conf (Enter q) spot stack caps)) (n : Node) (i : IsNode c q n) where
  pub deep : (around c stack spot.frame).depth ≡ suc ((around c stack spot.frame).depth - 1)
  deep = omega (arith, v.running.1.deep)

  -- at another place
  moved_standing : (p : ℕ) → c.stands p ≡ true → IsRunning c (record spot { place = p }) stack End
  moved_standing p h = let w = v.running.1 in record {
    inside = w.inside;
    deep = w.deep;
    counted = w.counted;
    few = w.few;
    here = h;
    marked = w.marked;
    contained = w.contained;
  }

  -- what follows a test, which led to a place
  abbrev gone : Option ℕ → Moves
  gone o = going o (spot_state c spot stack caps)
      (past c (around c stack spot.frame).depth (outside c stack caps spot.frame) q) (fail c stack caps)

  turn_going : (b : Bool) (o : Option ℕ) (met : Met) → StandsIf c o → IsNoted c b spot.early spot.last met →
      ahead c (conf (Enter q) spot stack caps) ≡ pause (reaching c.setting b (spot_state c spot stack caps) (gone o)) →
      Advances c (conf (Enter q) spot stack caps)
      (conf (moved_next c q o) (moved_spot (record spot { last = met }) o) stack caps)
  turn_going b None met h w e =
      advance_noted c _ (conf Back (record spot { last = met }) stack caps) b spot.early
      (spot_state c spot stack caps) _ e refl w refl refl
      (record { running = tt; records = v.records; spans = v.spans; slots = v.slots })
  turn_going b (Some p) met h w e =
      let to : Spot = record spot { place = p; last = met } in
      advance_noted c _ (conf (onward c q) to stack caps) b spot.early (spot_state c spot stack caps) _ e
      refl w
      (focus_towards c ok q v.running.0 _ _ _ _) refl
      (record {
        running = running_towards c ok q v.running.0 to stack v.running.2 (moved_standing p h);
        records = v.records;
        spans = v.spans;
        slots = v.slots;
      })

  -- a test that was made, asked for the end only where partial matches are looked for
  module _ (b r : Bool) (asked : r ≡ (asks c.setting && b)) (o : Option ℕ)
      (e : ahead c (conf (Enter q) spot stack caps) ≡ pause
      (reaching c.setting b (spot_state c spot stack caps) (gone o))) where
    tested : StandsIf c o → (to : Option ℕ) → to ≡ o → (next : Next) (new : Spot) → IsTested c q r to spot next new →
        Advances c (conf (Enter q) spot stack caps) (conf next new stack caps)
    tested h to same next new t =
        subst (λ x. Advances c (conf (Enter q) spot stack caps) (conf x new stack caps))
        (sym (t.goes ∙ ap (moved_next c q) same))
        (subst (λ x. Advances c (conf (Enter q) spot stack caps) (conf (moved_next c q o) x stack caps))
        (sym (t.moves ∙ ap (moved_spot (record spot { last = t.met })) same))
        (turn_going b o t.met h (noted_asked c b r asked spot.early spot.last t.met t.noted) e))

    test_stops : (new : Spot) (s : Stop) → IsHardStop c r spot.early spot.last new.last s
        → IsStop s new caps (tells c.setting spot (ahead c (conf (Enter q) spot stack caps)))
    test_stops new s h =
        stop_noted c (conf (Enter q) spot stack caps) b spot.early (spot_state c spot stack caps) (gone o) e refl new
        caps s
        (stop_asked c b r asked spot.early spot.last new.last s h)

  module _ (item : Item) (e : n ≡ node.One item) where
    entered_one : ahead c (conf (Enter q) spot stack caps)
        ≡ pause (reaching c.setting (item_reaches c.setting.scene item spot.place) (spot_state c spot stack caps)
        (gone (after_item c.setting.scene item spot.place)))
    entered_one = enter_one c ok q n i _ _ _ _ _ deep item e

    -- where partial matches are not looked for
    pub turn_one_off : c.setting.matching.«partial» ≡ Off →
        Advances c (conf (Enter q) spot stack caps)
        (conf (moved_next c q (after_item c.setting.scene item spot.place))
        (moved_spot spot (after_item c.setting.scene item spot.place)) stack caps)
    turn_one_off off =
        turn_going _ _ spot.last (stands_item c ok item spot.place _ v.running.1.here refl)
        (noted_off c off _ spot.early spot.last) entered_one

    module _ (r : Bool) (asked : r ≡ (asks c.setting && item_reaches c.setting.scene item spot.place)) where
      pub turn_one : (to : Option ℕ) → to ≡ after_item c.setting.scene item spot.place → (next : Next) (new : Spot)
          → IsTested c q r to spot next new →
          Advances c (conf (Enter q) spot stack caps) (conf next new stack caps)
      turn_one = tested _ r asked _ entered_one (stands_item c ok item spot.place _ v.running.1.here refl)

      pub stop_one : (new : Spot) (s : Stop) → IsHardStop c r spot.early spot.last new.last s
          → IsStop s new caps (tells c.setting spot (ahead c (conf (Enter q) spot stack caps)))
      stop_one = test_stops _ r asked _ entered_one

  module _ (e : n ≡ node.Break) (r : Bool)
      (asked : r ≡ (asks c.setting && break_reaches c.setting.scene spot.place)) where
    entered_break : ahead c (conf (Enter q) spot stack caps)
        ≡ pause (reaching c.setting (break_reaches c.setting.scene spot.place) (spot_state c spot stack caps)
        (gone (after_break c.setting.scene spot.place)))
    entered_break = enter_break c ok q n i _ _ _ _ _ deep e

    pub turn_break : (to : Option ℕ) → to ≡ after_break c.setting.scene spot.place → (next : Next) (new : Spot)
        → IsTested c q r to spot next new →
        Advances c (conf (Enter q) spot stack caps) (conf next new stack caps)
    turn_break = tested _ r asked _ entered_break (ok.breaks spot.place v.running.1.here)

    pub stop_break : (new : Spot) (s : Stop) → IsHardStop c r spot.early spot.last new.last s
        → IsStop s new caps (tells c.setting spot (ahead c (conf (Enter q) spot stack caps)))
    stop_break = test_stops _ r asked _ entered_break

  -- where a reference leads to
  abbrev pub referred : Option Span → Bool → Option ℕ
  referred None caseless = if c.setting.options.match_unset_backref then Some spot.place else None
  referred (Some span) caseless = after_ref c.setting.scene span.from span.to caseless spot.place

  ref_going : (o : Option Span) (caseless b : Bool) (s : State) (k : Follow) (f : Moves)
      → c.setting.options.match_unset_backref ≡ b → s.place ≡ spot.place → record s { place = spot.place } ≡ s →
      elim o [
        | None ↦ elim b [ true ↦ k reached s f | false ↦ f ]
        | Some span ↦ going (after_ref c.setting.scene span.from span.to caseless s.place) s k f
      ] ≡ going (referred o caseless) s k f
  ref_going None caseless true s k f e here same = ap (λ t. k reached t f) (sym same)
      ∙ ap (λ (x : Bool). going (if x then Some spot.place else None) s k f) (sym e)
  ref_going None caseless false s k f e here same =
      ap (λ (x : Bool). going (if x then Some spot.place else None) s k f) (sym e)
  ref_going (Some span) caseless b s k f e here same =
      ap (λ p. going (after_ref c.setting.scene span.from span.to caseless p) s k f) here

  referred_stands : (o : Option Span) (caseless b : Bool) → c.setting.options.match_unset_backref ≡ b → SpanStands c o
      → StandsIf c (referred o caseless)
  referred_stands None caseless true e a = subst (λ (x : Bool). StandsIf c (if x then Some spot.place else None))
      (sym e) v.running.1.here
  referred_stands None caseless false e a = subst (λ (x : Bool). StandsIf c (if x then Some spot.place else None))
      (sym e) tt
  referred_stands (Some span) caseless b e a = ok.refers span.from span.to spot.place caseless a.0 a.1 v.running.1.here

  module _ (ns : List ℕ) (caseless : Bool) (e : n ≡ node.Ref ns caseless) where
    entered_ref : ahead c (conf (Enter q) spot stack caps)
        ≡ pause (reaching c.setting (referred_reaches c spot.place (first_set caps ns) caseless)
        (spot_state c spot stack caps) (gone (referred (first_set caps ns) caseless)))
    entered_ref =
        enter_ref c ok q n i _ _ _ _ _ deep ns caseless e
        ∙ ap (λ (x : Moves). pause (reaching c.setting (referred_reaches c spot.place (first_set caps ns) caseless)
        (spot_state c spot stack caps) x))
        (ref_going (first_set caps ns) caseless c.setting.options.match_unset_backref _ _ _ refl refl refl)

    pub turn_ref : (next : Next) (new : Spot) →
        IsTested c q (asks c.setting && referred_reaches c spot.place (first_set caps ns) caseless)
        (referred (first_set caps ns) caseless) spot next new →
        Advances c (conf (Enter q) spot stack caps) (conf next new stack caps)
    turn_ref = tested _ _ refl _ entered_ref
        (referred_stands (first_set caps ns) caseless _ refl (stands_set c ok caps ns v.spans)) _ refl

    pub stop_ref : (new : Spot) (s : Stop)
        → IsHardStop c (asks c.setting && referred_reaches c spot.place (first_set caps ns) caseless) spot.early
        spot.last new.last s →
        IsStop s new caps (tells c.setting spot (ahead c (conf (Enter q) spot stack caps)))
    stop_ref = test_stops _ _ refl _ entered_ref

  module _ (kind : AnchorKind) (e : n ≡ node.Anchor kind) where
    abbrev looked : State
    looked = record (spot_state c spot stack caps) { early = earliest c.setting.scene kind spot.place spot.early }

    abbrev held : Bool → Moves
    held b =
        elim b [
          | true ↦ past c (around c stack spot.frame).depth (outside c stack caps spot.frame) q reached looked
              (fail c stack caps)
          | false ↦ fail c stack caps
        ]

    entered_anchor : ahead c (conf (Enter q) spot stack caps)
        ≡ pause (reaching c.setting (anchor_reaches c.setting.scene kind spot.place) looked
        (held (holds c.setting.scene kind spot.place)))
    entered_anchor = enter_anchor c ok q n i _ _ _ _ _ deep kind e

    turn_held : (met : Met) → IsNoted c (anchor_reaches c.setting.scene kind spot.place) looked.early spot.last met →
        (b : Bool) → holds c.setting.scene kind spot.place ≡ b →
        Advances c (conf (Enter q) spot stack caps)
        (conf (held_next c q b) (held_early c kind (record spot { last = met }) b) stack caps)
    turn_held met w true h =
        let to : Spot = record spot { early = earliest c.setting.scene kind spot.place spot.early; last = met } in
        let stands = v.running.1 in
        advance_noted c _ (conf (onward c q) to stack caps) _ _ looked _
        (entered_anchor
        ∙ ap (λ b. pause (reaching c.setting (anchor_reaches c.setting.scene kind spot.place) looked (held b)))
        h) refl w
        (focus_towards c ok q v.running.0 _ _ _ _) refl
        (record {
          running = running_towards c ok q v.running.0 to stack v.running.2
              (record {
                inside = stands.inside;
                deep = stands.deep;
                counted = stands.counted;
                few = stands.few;
                here = stands.here;
                marked = stands.marked;
                contained = stands.contained;
              });
          records = v.records;
          spans = v.spans;
          slots = v.slots;
        })
    turn_held met w false h =
        advance_noted c _ (conf Back (record spot { last = met }) stack caps) _ _ looked _
        (entered_anchor
        ∙ ap (λ b. pause (reaching c.setting (anchor_reaches c.setting.scene kind spot.place) looked (held b)))
        h) refl w refl refl
        (record { running = tt; records = v.records; spans = v.spans; slots = v.slots })

    pub turn_anchor : (next : Next) (new : Spot) → IsAnchored c q kind spot next new
        → Advances c (conf (Enter q) spot stack caps) (conf next new stack caps)
    turn_anchor next new t =
        subst (λ x. Advances c (conf (Enter q) spot stack caps) (conf x new stack caps)) (sym t.goes)
        (subst (λ x. Advances c (conf (Enter q) spot stack caps)
        (conf (held_next c q (holds c.setting.scene kind spot.place)) x stack caps)) (sym t.moves)
        (turn_held t.met (noted_asked c (anchor_reaches c.setting.scene kind spot.place) _ refl _ spot.last t.met
        t.noted) _ refl))

    pub stop_anchor : (new : Spot) (s : Stop) →
        IsHardStop c (asks c.setting && anchor_reaches c.setting.scene kind spot.place)
        (earliest c.setting.scene kind spot.place spot.early) spot.last new.last s →
        IsStop s new caps (tells c.setting spot (ahead c (conf (Enter q) spot stack caps)))
    stop_anchor new s h =
        stop_noted c (conf (Enter q) spot stack caps) _ _ looked _ entered_anchor refl new caps s
        (stop_asked c (anchor_reaches c.setting.scene kind spot.place) _ refl _ spot.last new.last s h)

  pub turn_empty : n ≡ node.Empty → Advances c (conf (Enter q) spot stack caps)
      (conf (onward c q) spot stack caps)
  turn_empty e = goes_on c _ spot stack caps v.records v.spans v.slots ok q v.running.0 v.running.2 v.running.1 refl
      (enter_empty c ok q n i _ _ _ _ _ deep e)

  pub turn_keep : n ≡ node.KeepOut → Advances c (conf (Enter q) spot stack caps)
      (conf (onward c q) (record spot { keep = spot.place }) stack caps)
  turn_keep e =
      let w = v.running.1 in
      goes_on c _ (record spot { keep = spot.place }) stack caps v.records v.spans v.slots ok q v.running.0 v.running.2
      (record {
        inside = w.inside;
        deep = w.deep;
        counted = w.counted;
        few = w.few;
        here = w.here;
        marked = w.marked;
        contained = w.contained;
      }) refl (enter_keep c ok q n i _ _ _ _ _ deep e)

  kids_are : (ks : List ℕ) → kids_of n ≡ ks → All (IsPart c) ks
  kids_are ks e = subst (All (IsPart c)) e (kid_parts c q n v.running.0 i)

  kid_inside : (ks : List ℕ) (p : ℕ) → kids_of n ≡ p ∷ ks → IsPart c p
  kid_inside ks p e = All-head (IsPart c) p ks (subst (All (IsPart c)) e (kid_parts c q n v.running.0 i))

  kid_later : (ks : List ℕ) (p : ℕ) → kids_of n ≡ p ∷ ks → IsLater c spot.frame p stack
  kid_later ks p e =
      let first : c.rank q < c.rank p = All-head (λ k. c.rank q < c.rank k) p ks
      (subst (All (λ k. c.rank q < c.rank k)) e (kid_ranks c q n i)) in
      later_more c spot.frame q p stack (omega (arith, first)) v.running.2

  pub turn_seq_none : n ≡ node.Seq [] → Advances c (conf (Enter q) spot stack caps)
      (conf (onward c q) spot stack caps)
  turn_seq_none e = goes_on c _ spot stack caps v.records v.spans v.slots ok q v.running.0 v.running.2 v.running.1
      refl (enter_seq_none c q n i _ _ _ _ _ deep e)

  pub turn_seq : (p : ℕ) (ps : List ℕ) → n ≡ node.Seq (p ∷ ps)
      → Advances c (conf (Enter q) spot stack caps) (conf (Enter p) spot stack caps)
  turn_seq p ps e =
      advance_pause c _ _ _ (enter_seq c q n i _ _ _ _ _ deep p ps
      (alike c stack caps spot.frame q (p ∷ ps) (branches_by c q n i (node.Seq (p ∷ ps)) e)) e) refl refl
      (record {
        running = (kid_inside ps p (ap kids_of e), v.running.1, kid_later ps p (ap kids_of e));
        records = v.records;
        spans = v.spans;
        slots = v.slots;
      })

  pub turn_parts : (ks : List ℕ) → n ≡ node.Seq ks → Advances c (conf (Enter q) spot stack caps)
      (conf (part_next c q ks) spot stack caps)
  turn_parts [] e = turn_seq_none e
  turn_parts (p ∷ ps) e = turn_seq p ps e

  -- where branches begin
  first_running : (p : ℕ) (ks : List ℕ) → IsPart c p → All (IsPart c) ks → IsBranched c p ks
      → (spot' : Spot) (stack' : List Entry) → StandsAt c spot' stack' (around c stack' spot'.frame).depth →
      IsLater c spot'.frame p stack'
      → (is_behind (tree_of c p) ≡ true → spot'.place ≡ place_at stack' spot'.frame)
      → IsRunning c spot' stack' (first_next p ks)
  first_running p [] inside parts b spot' stack' w l at = tt
  first_running p (x ∷ []) inside parts b spot' stack' w l at =
      let lt : c.rank p < c.rank x = All-head (λ k. c.rank p < c.rank k) x [] b.behind in
      (All-head (IsPart c) x [] parts, w, later_more c spot'.frame p x stack' (omega (arith, lt)) l)
  first_running p (x ∷ y ∷ ps) inside parts b spot' stack' w l at = (
    inside,
    w,
    (
      (
        subst (λ r. 0 < row_length r) (sym b.rows) (omega arith),
        subst (λ r. 1 < row_length r) (sym b.rows) (omega arith),
      ),
      at,
    ),
    l,
  )

  first_valid : (b : Bool) (p : ℕ) (ks : List ℕ) (spot' : Spot) (stack' : List Entry) (caps' : Captures)
      → (b ≡ true → All (λ x. IsBegun c ok x spot'.place (place_at stack' spot'.frame)
      (begun_place c x spot'.place)) ks) →
      IsValid c (conf (first_next p ks) spot' stack' caps')
      → IsValid c (conf (first_begun c b p ks spot'.place) (first_spot c b ks spot') stack' caps')
  first_valid b p [] spot' stack' caps' h w = w
  first_valid b p (x ∷ []) spot' stack' caps' h w = begun_valid c ok b (begun_place c x spot'.place) x spot' stack'
      caps' (λ e. All-head (λ y. IsBegun c ok y spot'.place (place_at stack' spot'.frame)
      (begun_place c y spot'.place)) x [] (h e)) w
  first_valid b p (x ∷ y ∷ ps) spot' stack' caps' h w = w

  first_ahead : (b : Bool) (p : ℕ) (ks : List ℕ) (spot' : Spot) (stack' : List Entry) (caps' : Captures) →
      ahead c (conf (first_begun c b p ks spot'.place) (first_spot c b ks spot') stack' caps')
      ≡ focus c (first_begun c b p ks spot'.place) (around c stack' spot'.frame).depth
      (outside c stack' caps' spot'.frame) (state_at (around_at c stack' spot'.frame spot'.passed)
      (kept_at (first_spot c b ks spot')) caps') (fail c stack' caps')
  first_ahead b p [] spot' stack' caps' = refl
  first_ahead b p (x ∷ []) spot' stack' caps' = begun_ahead c ok b (begun_place c x spot'.place) x spot' stack' caps'
  first_ahead b p (x ∷ y ∷ ps) spot' stack' caps' = refl

  first_kept : (b : Bool) (ks : List ℕ) (a : Around) (spot' : Spot) (caps' : Captures)
      → state_at a (kept_at (first_spot c b ks spot')) caps' ≡ first_state c b ks (state_at a (kept_at spot') caps')
  first_kept b [] a spot' caps' = refl
  first_kept b (x ∷ []) a spot' caps' = begun_kept c ok b (begun_place c x spot'.place) a spot' caps'
  first_kept b (x ∷ y ∷ ps) a spot' caps' = refl

  first_told : (b : Bool) (ks : List ℕ) (spot' : Spot) → stays (first_spot c b ks spot') ≡ stays spot'
  first_told b [] spot' = refl
  first_told b (x ∷ []) spot' = begun_told c ok b (begun_place c x spot'.place) spot'
  first_told b (x ∷ y ∷ ps) spot' = refl

  spot_plain : (ks : List ℕ) (spot' : Spot) → first_spot c false ks spot' ≡ spot'
  spot_plain [] spot' = refl
  spot_plain (x ∷ []) spot' = refl
  spot_plain (x ∷ y ∷ ps) spot' = refl

  alone_here : (ks : List ℕ) → n ≡ node.Group None ks
      → Alone c (outside c stack caps spot.frame) ks (hand c stack caps spot.frame q)
  alone_here ks e =
      alone c stack caps spot.frame (cont c stack caps spot.frame) (place_at stack spot.frame) ks (c.branch q)
      (hand c stack caps spot.frame q)
      (branches_by c q n i (node.Group None ks) e)
      (λ p same. hand_same c stack caps spot.frame p q same)

  pub turn_group : (ks : List ℕ) → n ≡ node.Group None ks
      → Advances c (conf (Enter q) spot stack caps) (conf (first_next q ks) spot stack caps)
  turn_group ks e =
      advance_pause c _ _ _ (enter_group c ok q n i _ _ _ _ _ deep ks (alone_here ks e) e) refl refl
      (record {
        running = first_running q ks v.running.0 (kids_are ks (ap kids_of e))
            (branched_group c q n i None ks e) spot stack v.running.1 v.running.2
            (λ back. absurd (false≢true (ap is_behind (tree_by c q n i (node.Group None ks) e) ∙ back)));
        records = v.records;
        spans = v.spans;
        slots = v.slots;
      })

  -- A frame is opened around branches, those of the part or of its test: they run in it, and it ends as its record
  -- says.
  module _ (r : Entry) (at : entry_site r ≡ record { node = q; link = spot.frame })
      (kept : entry_kept r ≡ kept_at spot) (plain : taken_back r caps ≡ caps)
      (same : (a : Around) → frame_around r a ≡ a) (room : spot.units < c.setting.matching.frame_limit) where
    abbrev pub opened : Spot
    opened = record spot { frame = suc (length stack); units = spot.units + 1 }

    in_frame : around c (r ∷ stack) (suc (length stack)) ≡ around c stack spot.frame
    in_frame = around_here c r stack _ refl ∙ same _ ∙ ap (around c stack) (ap (λ (x : Site). x.link) at)

    opened_standing : StandsAt c opened (r ∷ stack) (around c (r ∷ stack) (suc (length stack))).depth
    opened_standing =
        let w = v.running.1 in
        record {
          inside = omega arith;
          deep = omega (arith, w.deep, ap (λ (a : Around). a.depth) in_frame);
          counted = omega (arith, w.counted);
          few = omega (arith, room);
          here = w.here;
          marked = omega (arith, w.marked);
          contained = contained_none c (suc (length stack)) (r ∷ stack) (omega arith);
        }

    module _ (p : ℕ) (inside : IsPart c p) (ks : List ℕ) (parts : All (IsPart c) ks) (b : IsBranched c p ks)
        (none : EndsFrame c p)
        (framed : All (λ k. c.branch k ≡ branch_if ks None k) ks) (sound : IsSound c spot.left (length caps) stack r)
        (h : Handler)
        (is : h ≡ caught c (r ∷ stack) caps (suc (length stack))) (z : Moves) where
      abbrev backward : Bool
      backward = is_behind (tree_of c p)

      framed_here : spot.place ≡ place_at (r ∷ stack) (suc (length stack))
      framed_here = sym (place_here r stack _ refl ∙ ap (λ (k : Kept). k.place) kept)

      abbrev level : ℕ
      level = (around c stack spot.frame).depth

      opens_behind : (x : Moves) → x
          ≡ pause (holding c.setting 1 (spot_state c spot stack caps) (λ u.
          branch_paths c.setting (kid_paths c (tree_of c p) level ks) u (inside_of c r stack caps).follow z h)) →
          fail c (r ∷ stack) caps ≡ z →
          GoesBy c spot x (conf (first_begun c backward p ks spot.place) (first_spot c backward ks opened) (r ∷ stack)
          caps)
      opens_behind x e f =
          let next : Next = first_begun c backward p ks spot.place in
          let kept : Kept = kept_at (first_spot c backward ks opened) in
          goes_pause c spot x _ _
          (e ∙ ap pause (holding_room c.setting _ _ room))
          (first_ahead backward p ks opened (r ∷ stack) caps
          ∙ focus_framed c r stack caps next spot.passed kept caps (fail c (r ∷ stack) caps) v.running.1.marked
          ∙ ap (λ (a : Around). focus c next a.depth (inside_of c r stack caps)
          (state_at (record a { passed = heard stack spot.passed }) kept caps) (fail c (r ∷ stack) caps))
          (same _ ∙ ap (around c stack) (ap (λ (x : Site). x.link) at))
          ∙ ap (focus c next level (inside_of c r stack caps)
          (state_at (around_at c stack spot.frame spot.passed) kept caps)) f
          ∙ ap (λ (u : State). focus c next level (inside_of c r stack caps) u z)
          (first_kept backward ks (around_at c stack spot.frame spot.passed) opened caps)
          ∙ sym (branches_in c p level ks b none (inside_of c r stack caps) h
          (alone c (r ∷ stack) caps (suc (length stack)) (inside_of c r stack caps).follow (entry_kept r).place ks
          None h
          framed
          (λ x none. hand_frame c (r ∷ stack) caps (suc (length stack)) x none ∙ sym is))
          (agreed_frame c (r ∷ stack) caps (suc (length stack)) p h is)
          (state_at (around_at c stack spot.frame spot.passed) (kept_at opened) caps) z))
          (first_told backward ks opened)
          (first_valid backward p ks opened (r ∷ stack) caps
          (λ back. branch_begins c ok p ks b back spot.place (place_at (r ∷ stack) (suc (length stack)))
          v.running.1.here framed_here)
          (record {
            running = first_running p ks inside parts b opened (r ∷ stack) opened_standing
                (later_none c spot.left (length caps) (suc (length stack)) p (r ∷ stack) (sound, v.records)
                (omega arith)) (λ back. framed_here);
            records = (sound, v.records);
            spans = v.spans;
            slots = v.slots;
          }))

      -- those of a lookaround, forward or back
      pub opens_by : (behind' : Bool) → is_behind (tree_of c p) ≡ behind' → (x : Moves) → x
          ≡ pause (holding c.setting 1 (spot_state c spot stack caps) (λ u.
          branch_paths c.setting (kid_paths c (tree_of c p) level ks) u (inside_of c r stack caps).follow z h)) →
          fail c (r ∷ stack) caps ≡ z →
          GoesBy c spot x (conf (first_begun c behind' p ks spot.place) (first_spot c behind' ks opened) (r ∷ stack)
          caps)
      opens_by behind' is x e f =
          subst (λ b. GoesBy c spot x (conf (first_begun c b p ks spot.place) (first_spot c b ks opened) (r ∷ stack)
          caps)) is (opens_behind x e f)

      pub opens_as : (behind' : Bool) → is_behind (tree_of c p) ≡ behind' → ahead c (conf (Enter q) spot stack caps)
          ≡ pause (holding c.setting 1 (spot_state c spot stack caps) (λ u.
          branch_paths c.setting (kid_paths c (tree_of c p) level ks) u (inside_of c r stack caps).follow z h)) →
          fail c (r ∷ stack) caps ≡ z →
          Advances c (conf (Enter q) spot stack caps)
          (conf (first_begun c behind' p ks spot.place) (first_spot c behind' ks opened) (r ∷ stack) caps)
      opens_as behind' is e f = advance_from c _ _ _ refl (opens_by behind' is _ e f)

      -- those that begin at the place itself
      pub opens : is_behind (tree_of c p) ≡ false → ahead c (conf (Enter q) spot stack caps)
          ≡ pause (holding c.setting 1 (spot_state c spot stack caps) (λ u.
          branch_paths c.setting (part_paths c level ks) u (inside_of c r stack caps).follow z h)) →
          fail c (r ∷ stack) caps ≡ z →
          Advances c (conf (Enter q) spot stack caps) (conf (first_next p ks) opened (r ∷ stack) caps)
      opens plain e f =
          let kids : List Path = kid_paths c (tree_of c p) level ks in
          subst (λ x. Advances c (conf (Enter q) spot stack caps) (conf x opened (r ∷ stack) caps))
          (first_plain c p ks spot.place)
          (subst (λ x. Advances c (conf (Enter q) spot stack caps)
          (conf (first_begun c false p ks spot.place) x (r ∷ stack) caps)) (spot_plain ks opened)
          (opens_as false plain
          (e ∙ ap (λ (xs : List Path). pause (holding c.setting 1 (spot_state c spot stack caps)
          (λ u. branch_paths c.setting xs u (inside_of c r stack caps).follow z h)))
          (sym (plain_kids c (tree_of c p) plain level ks)))
          f))

  pub turn_capture : (m : ℕ) (ks : List ℕ) → n ≡ node.Group (Some m) ks → spot.units < c.setting.matching.frame_limit →
      Advances c (conf (Enter q) spot stack caps)
      (conf (first_next q ks) (record spot { frame = suc (length stack); units = spot.units + 1 })
      (GroupOpen (record { node = q; link = spot.frame }) (kept_at spot) ∷ stack) caps)
  unfolding fail
  turn_capture m ks e room =
      let t : nest c.trees (node.Group (Some m) ks) ≡ tree_of c q = subst (λ z. nest c.trees z ≡ tree_of c q) e i.is in
      opens (GroupOpen (record { node = q; link = spot.frame }) (kept_at spot)) refl refl refl (λ a. refl) room
      q v.running.0 ks (kids_are ks (ap kids_of e)) (branched_group c q n i (Some m) ks e)
      (λ d k. ap (λ x. beyond_by c x d k q) (sym t))
      (branches_by c q n i (node.Group (Some m) ks) e)
      (v.running.0, v.running.1, subst (IsCapture c) t tt, v.running.2)
      (hand c stack caps spot.frame q)
      (caught_through c (GroupOpen (record { node = q; link = spot.frame }) (kept_at spot)) stack caps refl refl)
      (pause (fail c stack caps)) (ap is_behind (sym t))
      (enter_capture c ok q n i _ _ _ _ _ deep m ks e) refl

  pub stop_capture : (m : ℕ) (ks : List ℕ) → n ≡ node.Group (Some m) ks → c.setting.matching.frame_limit ≤ spot.units →
      tread c.setting spot.left (ahead c (conf (Enter q) spot stack caps)) ≡ answers FrameLimit
  stop_capture m ks e full = over_units c spot.left _ _ (enter_capture c ok q n i _ _ _ _ _ deep m ks e)
      (holding_full c.setting _ _ full)

  pub turn_capture_of : (number : Option ℕ) (ks : List ℕ) → n ≡ node.Group number ks → (m : ℕ) → number ≡ Some m
      → spot.units < c.setting.matching.frame_limit →
      Advances c (conf (Enter q) spot stack caps)
      (conf (first_next q ks) (record spot { frame = suc (length stack); units = spot.units + 1 })
      (GroupOpen (record { node = q; link = spot.frame }) (kept_at spot) ∷ stack) caps)
  turn_capture_of number ks e m is room = turn_capture m ks (e ∙ ap (λ x. node.Group x ks) is) room

  pub stop_capture_of : (number : Option ℕ) (ks : List ℕ) → n ≡ node.Group number ks → (m : ℕ) → number ≡ Some m
      → c.setting.matching.frame_limit ≤ spot.units →
      tread c.setting spot.left (ahead c (conf (Enter q) spot stack caps)) ≡ answers FrameLimit
  stop_capture_of number ks e m is full = stop_capture m ks (e ∙ ap (λ x. node.Group x ks) is) full

  pub turn_group_of : (number : Option ℕ) (ks : List ℕ) → n ≡ node.Group number ks → ((m : ℕ) → number ≡ Some m → ⊥)
      → Advances c (conf (Enter q) spot stack caps) (conf (first_next q ks) spot stack caps)
  turn_group_of None ks e not = turn_group ks e
  turn_group_of (Some m) ks e not = absurd (not m refl)

  pub ahead_repeat : (body low : ℕ) (high : Option ℕ) (lazily : Bool) → n ≡ node.Repeat body low high lazily →
      ahead c (conf (Enter q) spot stack caps) ≡ ahead c (conf (Offer q 0) spot stack caps)
  ahead_repeat body low high lazily e = enter_repeat c ok q n i _ _ _ _ _ deep body low high lazily e

  pub valid_repeat : (body low : ℕ) (high : Option ℕ) (lazily : Bool) → n ≡ node.Repeat body low high lazily
      → IsValid c (conf (Offer q 0) spot stack caps)
  valid_repeat body low high lazily e =
      let w = v.running.1 in
      record {
        running = (
          v.running.0,
          record {
            inside = w.inside;
            deep = omega (arith, w.deep);
            counted = w.counted;
            few = w.few;
            here = w.here;
            marked = w.marked;
            contained = w.contained;
          },
          subst (IsRepeat c) (subst (λ z. nest c.trees z ≡ tree_of c q) e i.is) tt,
          v.running.2,
        );
        records = v.records;
        spans = v.spans;
        slots = v.slots;
      }

pub length_row : (c : Ground) (xs : List ℕ) → row_length (row (map (tree_at c.trees) xs)) ≡ length xs
length_row c [] = refl
length_row c (x ∷ xs) = ap suc (length_row c xs)

-- a branch of a group is tried
module _ (c : Ground) (ok : IsGround c) (q j : ℕ) (spot : Spot) (stack : List Entry) (caps : Captures)
    (v : IsValid c (conf (Branch q j) spot stack caps))
    (ks : List ℕ) (b : IsBranched c q ks) (p : ℕ) (at : slice_get ks j ≡ Some p) (inside : IsPart c p) where
  abbrev behind : Bool
  behind = is_behind (tree_of c q)

  abbrev start : Option Begun
  start = begun_place c p spot.place

  abbrev K : Outside
  K = outside c stack caps spot.frame

  abbrev depth_now : ℕ
  depth_now = (around c stack spot.frame).depth

  abbrev now : State
  now = spot_state c spot stack caps

  -- of two branches or more each is its own
  own_branch : c.branch p ≡ Some p
  own_branch =
      let counts : row_length (row (map (tree_at c.trees) ks)) ≡ length ks = length_row c ks in
      let two : 1 < row_length (row (map (tree_at c.trees) ks)) =
      subst (λ r. 1 < row_length r) b.rows v.running.2.0.1 in
      All-at c (λ k. c.branch k ≡ branch_if ks b.outer k) ks j p b.own at
      ∙ branch_own ks b.outer p (omega (arith, two, counts))

  stands_behind : c.rank q < c.rank p
  stands_behind = All-at c (λ k. c.rank q < c.rank k) ks j p b.behind at

  -- where it begins, under these records
  begun_under : (st : List Entry) → (is_behind (tree_of c q) ≡ true → spot.place ≡ place_at st spot.frame)
      → behind ≡ true → IsBegun c ok p spot.place (place_at st spot.frame) start
  begun_under st framed back =
      All-at c (λ x. IsBegun c ok x spot.place (place_at st spot.frame) (begun_place c x spot.place)) ks j p
      (branch_begins c ok q ks b back spot.place (place_at st spot.frame) v.running.1.here (framed back)) at

  pub stop_branch : spot.left ≡ 0 → (p' : Option ℕ) → slice_get ks (suc j) ≡ p'
      → length ks ≤ suc j ⊎ ((x : ℕ) × (slice_get ks (suc j) ≡ Some x)) →
      tread c.setting spot.left (ahead c (conf (Branch q j) spot stack caps)) ≡ answers MatchLimit
  stop_branch out p' e (inl last) = over_steps c spot.left _ _
      (branch_last c q j depth_now ks b p at now K (fail c stack caps) last) out
  stop_branch out p' e (inr more) = over_steps c spot.left _ _
      (branch_more c q j depth_now ks b p at now K (fail c stack caps) more.0 more.1) out

  pub turn_branch_last : length ks ≤ suc j → 0 < spot.left →
      Advances c (conf (Branch q j) spot stack caps)
      (conf (begun_next behind start p) (begun_spot behind start (record spot { left = spot.left - 1 })) stack
      caps)
  turn_branch_last last left =
      let w = v.running.1 in
      let to : Spot = record spot { left = spot.left - 1 } in
      let f : Moves = fail c stack caps in
      advance_step c _ _ _
      (branch_last c q j depth_now ks b p at now K f last
      ∙ ap stepped (branch_begun c q j depth_now ks b p at now K f K refl now f
      (hand_begun c stack caps spot.frame q p own_branch v.running.3 stands_behind)))
      (begun_ahead c ok behind start p to stack caps
      ∙ ap (λ (u : State). focus c (begun_next behind start p) depth_now K u f)
      (begun_kept c ok behind start (around_at c stack spot.frame spot.passed) to caps))
      (omega (arith, begun_left c ok behind start to, left)) (begun_last c ok behind start to)
      (begun_valid c ok behind start p to stack caps (begun_under stack v.running.2.1)
      (record {
        running = (
          inside,
          record {
            inside = w.inside;
            deep = omega (arith, w.deep);
            counted = w.counted;
            few = w.few;
            here = w.here;
            marked = w.marked;
            contained = w.contained;
          },
          later_more c spot.frame q p stack (omega (arith, stands_behind)) v.running.3,
        );
        records = sound_less c spot.left (spot.left - 1) (length caps) stack (omega arith) v.records;
        spans = v.spans;
        slots = v.slots;
      }))

  module _ (p' : ℕ) (at' : slice_get ks (suc j) ≡ Some p') (left : 0 < spot.left) where
    -- what is left where the branch fails
    abbrev other : Moves
    other = pause (focus c (Branch q (suc j)) depth_now K now (fail c stack caps))

    choosing : ahead c (conf (Branch q j) spot stack caps)
        ≡ stepped (holding c.setting 1 now (λ u. branch_path c (tree_of c q) depth_now (tree_of c p) u
        (beyond c depth_now K q) other (catching other (K.hand q))))
    choosing = branch_more c q j depth_now ks b p at now K (fail c stack caps) p' at'

    pub stop_branch_units : c.setting.matching.frame_limit ≤ spot.units
        → tread c.setting spot.left (ahead c (conf (Branch q j) spot stack caps)) ≡ answers FrameLimit
    stop_branch_units full = over_units_step c spot.left _ _ choosing (holding_full c.setting _ _ full) left

    -- the record of the later branches
    abbrev r : Entry
    r = LaterBranch (record { node = q; link = spot.frame }) (kept_at spot) (suc j)

    abbrev over : Outside
    over = outside c (r ∷ stack) caps spot.frame

    beyond_same : beyond c depth_now over q ≡ beyond c depth_now K q
    beyond_same =
        beyond_agrees c q depth_now over K (outside_push c r stack caps spot.frame v.running.1.inside refl) now other
        (tree_of c q) q v.running.0.begun

    branch_hand : over.hand p ≡ catching other (K.hand q)
    unfolding fail
    branch_hand =
        let passes : caught c (r ∷ stack) caps spot.frame ≡ caught c stack caps spot.frame =
        caught_push c r stack caps spot.frame v.running.1.inside in
        hand_begun c (r ∷ stack) caps spot.frame q p own_branch
        (later_push c spot.frame q r stack (omega arith) v.running.3) stands_behind
        ∙ catching_same c other (hand c (r ∷ stack) caps spot.frame q) (hand c stack caps spot.frame q)
        (agreed_hands c (r ∷ stack) stack caps caps spot.frame q passes)

    pub turn_branch_more : suc j < length ks → spot.units < c.setting.matching.frame_limit →
        Advances c (conf (Branch q j) spot stack caps)
        (conf (begun_next behind start p)
        (begun_spot behind start (record spot { left = spot.left - 1; units = spot.units + 1 }))
        (LaterBranch (record { node = q; link = spot.frame }) (kept_at spot) (suc j) ∷ stack) caps)
    unfolding fail
    turn_branch_more lt room =
        let w = v.running.1 in
        let to : Spot = record spot { left = spot.left - 1; units = spot.units + 1 } in
        let counts : row_length (row (map (tree_at c.trees) ks)) ≡ length ks = length_row c ks in
        let held : State = record now { units = spot.units + 1 } in
        advance_step c _ _ _
        (choosing ∙ ap stepped (holding_room c.setting _ _ room
        ∙ branch_begun c q j depth_now ks b p at now K (fail c stack caps) over beyond_same held other
        branch_hand))
        (begun_ahead c ok behind start p to (r ∷ stack) caps
        ∙ ap (λ (a : Around). focus c (begun_next behind start p) a.depth over
        (state_at (record a { passed = heard (r ∷ stack) spot.passed }) (kept_at (begun_spot behind start to))
        caps) other)
        (around_push c r stack spot.frame w.inside)
        ∙ ap (λ (names : List (ℕ × ℕ)). focus c (begun_next behind start p) depth_now over
        (state_at (record (around c stack spot.frame) { passed = names }) (kept_at (begun_spot behind start to))
        caps) other)
        (heard_push c r stack spot.passed w.marked)
        ∙ ap (λ (u : State). focus c (begun_next behind start p) depth_now over u other)
        (begun_kept c ok behind start (around_at c stack spot.frame spot.passed) to caps))
        (omega (arith, begun_left c ok behind start to, left)) (begun_last c ok behind start to)
        (begun_valid c ok behind start p to (r ∷ stack) caps
        (begun_under (r ∷ stack) (λ back. v.running.2.1 back ∙ sym (place_push r stack spot.frame w.inside)))
        (record {
          running = (
            inside,
            record {
              inside = omega (arith, w.inside);
              deep = omega (arith, w.deep, ap (λ (a : Around). a.depth) (around_push c r stack spot.frame w.inside));
              counted = omega (arith, w.counted);
              few = omega (arith, room);
              here = w.here;
              marked = omega (arith, w.marked);
              contained = contained_push c spot.frame r stack refl w.contained;
            },
            later_push c spot.frame p r stack (omega (arith, stands_behind))
                (later_more c spot.frame q p stack (omega (arith, stands_behind)) v.running.3),
          );
          records = (
            (
              v.running.0,
              record {
                inside = w.inside;
                deep = omega (arith, w.deep);
                counted = w.counted;
                few = w.few;
                here = w.here;
                marked = w.marked;
                contained = w.contained;
              },
              (
                (subst (λ x. suc j < row_length x) (sym b.rows) (omega (arith, lt, counts)), v.running.2.0.1),
                v.running.2.1,
              ),
              v.running.3,
            ),
            sound_less c spot.left (spot.left - 1) (length caps) stack (omega arith) v.records,
          );
          spans = v.spans;
          slots = v.slots;
        }))
