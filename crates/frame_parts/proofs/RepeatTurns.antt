-- The steps of the machine at a repeat of a group.
use Rattle.std.proofs.Common.{◌≡◌, ℕ, suc, ◌+◌, ◌-◌, ◌<◌, ◌≤◌, ◌∙◌, Bool, true, false, if◌then◌else◌, List, [], ◌∷◌}
use Rattle.std.proofs.Common.{Option, None, length, refl, sym, ap, arith}
use Rattle.std.proofs.lemmas.Bool.{cond-true, cond-false}
use Rattle.pat_tree.specs.Nested as tree
use Rattle.match_items.specs.Items.{is_none_left}
use Rattle.frame_store.specs.Captures.{Captures}
use Rattle.frame_store.specs.Entry.{Entry, TurnOpen, TurnOrExit, LaterTurn}
use Rattle.ordered_search.specs.Stream.{State, reached}
use Rattle.ordered_search.specs.PlaceAnswer.{answers, MatchLimit, FrameLimit}
use Rattle.ordered_search.specs.Moves.{Moves, pause, stepped, Follow, tread, Handler}
use Rattle.ordered_search.specs.Paths.{paths}
use Rattle.frame_state.specs.declared.machine.Next.TheVariants.{Enter, Offer, Begin, End}
use Rattle.frame_state.specs.declared.machine.Spot.{Spot}
use Rattle.frame_state.specs.Ground.{Ground, tree_of, IsGround, IsPart}
use Rattle.frame_state.specs.Machine.{Around, less, link_of, kept_at, conf, onward, Outside}
use Rattle.frame_state.specs.Frames.{past, enter, turned_from, around, outside, fail, spot_state, ahead, hand}
use Rattle.frame_state.specs.Validity.{IsStanding, AreSound, IsRunning, IsValid, Advances}
use Rattle.frame_state.specs.Stops.{turn_entry}
use Rattle.frame_state.proofs.PartPaths.{offer_below, offer_full, offer_greedy, offer_lazy, begin_step}
use Rattle.frame_state.proofs.Frames.{around_here, around_push, focus_kept, focus_framed, sound_less, focus_towards}
use Rattle.frame_state.proofs.Frames.{running_towards, begun_towards, caught_through, hand_frame, later_push}
use Rattle.frame_state.proofs.Frames.{later_none, contained_push, contained_none, inside_of}
use Rattle.frame_state.proofs.Advance.{holding_room, holding_full, advance_pause, advance_step, over_steps}
use Rattle.frame_state.proofs.Advance.{over_units, over_units_step, goes_on}
use Rattle.frame_state.proofs.PartPaths.{past_end}
use Rattle.frame_state.specs.Ground.{settles_by}

module _ (c : Ground) (ok : IsGround c) (q i : ℕ) (spot : Spot) (stack : List Entry) (caps : Captures) (body : ℕ)
    (low : ℕ) (high : Option ℕ) (lazily : Bool)
    (t : tree.repeat (tree_of c body) low high lazily ≡ tree_of c q) where
  -- a further turn and the exit are offered
  module _ (v : IsValid c (conf (Offer q i) spot stack caps)) where
    deep : i < (around c stack spot.frame).depth
    deep = omega (arith, v.running.1.deep)

    standing_exit : IsRunning c spot stack End
    standing_exit = let w = v.running.1 in record {
      inside = w.inside;
      deep = omega (arith, w.deep);
      counted = w.counted;
      few = w.few;
      here = w.here;
      marked = w.marked;
      contained = w.contained;
    }

    begins : (b : Bool) → IsValid c (conf (Begin q i b) spot stack caps)
    begins b = record { running = v.running; records = v.records; spans = v.spans; slots = v.slots }

    pub turn_below : i < low → Advances c (conf (Offer q i) spot stack caps) (conf (Begin q i false) spot stack caps)
    turn_below lt = advance_pause c _ _ _ (offer_below c q i _ (tree_of c body) low high lazily t _ _ _ deep lt) refl
        refl (begins false)

    pub turn_full : low ≤ i → is_none_left (less i high) ≡ true
        → Advances c (conf (Offer q i) spot stack caps) (conf (onward c q) spot stack caps)
    turn_full ge e =
        goes_on c _ spot stack caps v.records v.spans v.slots ok q v.running.0 v.running.3 standing_exit refl
        (offer_full c q i _ (tree_of c body) low high lazily t _ _ _ deep ge e)

    pub turn_greedy : low ≤ i → is_none_left (less i high) ≡ false → lazily ≡ false
        → Advances c (conf (Offer q i) spot stack caps) (conf (Begin q i true) spot stack caps)
    turn_greedy ge e is = advance_pause c _ _ _
        (offer_greedy c q i _ (tree_of c body) low high lazily t _ _ _ deep ge e is) refl refl (begins true)

    pub turn_lazy : low ≤ i → is_none_left (less i high) ≡ false → lazily ≡ true
        → spot.units < c.setting.matching.frame_limit →
        Advances c (conf (Offer q i) spot stack caps)
        (conf (onward c q) (record spot { units = spot.units + 1 })
        (LaterTurn (record { node = q; link = spot.frame }) (kept_at spot) i ∷ stack) caps)
    unfolding fail
    turn_lazy ge e is room =
        let r : Entry = LaterTurn (record { node = q; link = spot.frame }) (kept_at spot) i in
        let to : Spot = record spot { units = spot.units + 1 } in
        let w = v.running.1 in
        advance_pause c _ _ _
        (offer_lazy c q i _ (tree_of c body) low high lazily t _ _ _ deep ge e is
        ∙ ap pause (holding_room c.setting _ _ room))
        (focus_kept c r stack caps (onward c q) spot.frame spot.passed (kept_at to) caps
        (fail c (r ∷ stack) caps) w.inside w.marked refl (begun_towards c ok q v.running.0)
        ∙ focus_towards c ok q v.running.0 _ _ _ _)
        refl
        (record {
          running = running_towards c ok q v.running.0 to (r ∷ stack)
              (later_push c spot.frame q r stack (omega arith) v.running.3) (record {
                inside = omega (arith, w.inside);
                deep = omega (arith, w.deep, ap (λ (a : Around). a.depth) (around_push c r stack spot.frame w.inside));
                counted = omega (arith, w.counted);
                few = omega (arith, room);
                here = w.here;
                marked = omega (arith, w.marked);
                contained = contained_push c spot.frame r stack refl w.contained;
              });
          records = (v.running, v.records);
          spans = v.spans;
          slots = v.slots;
        })

    pub stop_lazy : low ≤ i → is_none_left (less i high) ≡ false → lazily ≡ true
        → c.setting.matching.frame_limit ≤ spot.units →
        tread c.setting spot.left (ahead c (conf (Offer q i) spot stack caps)) ≡ answers FrameLimit
    stop_lazy ge e is full =
        over_units c spot.left _ _ (offer_lazy c q i _ (tree_of c body) low high lazily t _ _ _ deep ge e is)
        (holding_full c.setting _ _ full)

  -- a turn begins
  module _ (b : Bool) (v : IsValid c (conf (Begin q i b) spot stack caps)) where
    deep_begin : i < (around c stack spot.frame).depth
    deep_begin = omega (arith, v.running.1.deep)

    pub stop_begin : spot.left ≡ 0 → tread c.setting spot.left (ahead c (conf (Begin q i b) spot stack caps))
        ≡ answers MatchLimit
    stop_begin out = over_steps c spot.left _ _
        (begin_step c q i _ (tree_of c body) low high lazily t _ _ _ deep_begin b) out

    pub stop_begin_units : 0 < spot.left → c.setting.matching.frame_limit ≤ spot.units →
        tread c.setting spot.left (ahead c (conf (Begin q i b) spot stack caps)) ≡ answers FrameLimit
    stop_begin_units left full =
        over_units_step c spot.left _ _ (begin_step c q i _ (tree_of c body) low high lazily t _ _ _ deep_begin b)
        (holding_full c.setting _ _ full) left

    module _ (inside : IsPart c body) (alone : (c.rest body ≡ []) × (c.look_branch body ≡ None)) (left : 0 < spot.left)
        (room : spot.units < c.setting.matching.frame_limit) where
      entered : (K : Outside) (u : State) (f : Moves) (h : Handler) → h ≡ K.hand body →
          paths c.setting ((around c stack spot.frame).depth - suc i) (tree_of c body) u K.follow f h ≡ enter c
          ((around c stack spot.frame).depth - suc i) K body u f
      entered K u f h e =
          ap (λ (z : Handler). paths c.setting ((around c stack spot.frame).depth - suc i) (tree_of c body) u K.follow
          f z) e
          ∙ ap (λ (z : Follow). paths c.setting ((around c stack spot.frame).depth - suc i) (tree_of c body) u z f
          (K.hand body))
          (sym (past_end c body alone.0 false (ap (settles_by c) alone.1) _ K))

      abbrev to : Spot
      to = record spot { left = spot.left - 1; units = spot.units + 1; frame = suc (length stack) }

      running : (r : Entry) → link_of r ≤ length stack → around c (r ∷ stack)
          (suc (length stack)) ≡ record (around c stack spot.frame)
          { depth = (around c stack spot.frame).depth - suc i } →
          IsRunning c to (r ∷ stack) (Enter body)
      running r low same =
          let w = v.running.1 in (
            inside,
            record {
              inside = omega arith;
              deep = omega (arith, w.deep, ap (λ (a : Around). a.depth) same);
              counted = omega (arith, w.counted);
              few = omega (arith, room);
              here = w.here;
              marked = omega (arith, w.marked);
              contained = contained_none c (suc (length stack)) (r ∷ stack) (omega arith);
            },
            (
              λ at. absurd (omega (arith, at, low)),
              later_none c spot.left (length caps) (suc (length stack)) body
                  stack v.records (omega arith),
            ),
          )

      under : AreSound c (spot.left - 1) (length caps) stack
      under = sound_less c spot.left (spot.left - 1) (length caps) stack (omega arith) v.records

      standing : IsStanding c (spot.left - 1) spot.frame (kept_at spot) (around c stack spot.frame).depth stack
      standing = let w = v.running.1 in record {
        inside = w.inside;
        deep = omega (arith, w.deep);
        counted = w.counted;
        few = w.few;
        here = w.here;
        marked = w.marked;
        contained = w.contained;
      }

    -- where m is left for when the turn fails
    begins_with : (m : Moves) →
        (if b then past c (around c stack spot.frame).depth (outside c stack caps spot.frame) q reached
        (spot_state c spot stack caps) (fail c stack caps) else fail c stack caps) ≡ m →
        spot.units < c.setting.matching.frame_limit →
        ahead c (conf (Begin q i b) spot stack caps)
        ≡ stepped (paths c.setting ((around c stack spot.frame).depth - suc i) (tree_of c body)
        (record (spot_state c spot stack caps) { units = spot.units + 1 })
        (turned_from c (tree_of c q) i (around c stack spot.frame).depth (spot_state c spot stack caps)
        (past c (around c stack spot.frame).depth (outside c stack caps spot.frame) q)
        (hand c stack caps spot.frame q))
        (pause m) (hand c stack caps spot.frame q))
    begins_with m e room =
        begin_step c q i _ (tree_of c body) low high lazily t _ _ _ deep_begin b
        ∙ ap stepped (holding_room c.setting _ _ room)
        ∙ ap (λ x. stepped (paths c.setting ((around c stack spot.frame).depth - suc i) (tree_of c body)
        (record (spot_state c spot stack caps) { units = spot.units + 1 })
        (turned_from c (tree_of c q) i (around c stack spot.frame).depth (spot_state c spot stack caps)
        (past c (around c stack spot.frame).depth (outside c stack caps spot.frame) q)
        (hand c stack caps spot.frame q))
        (pause x) (hand c stack caps spot.frame q))) e

    pub turn_begin_exits : b ≡ true → IsPart c body → (c.rest body ≡ []) × (c.look_branch body ≡ None)
        → c.branch body ≡ None → 0 < spot.left
        → spot.units < c.setting.matching.frame_limit →
        Advances c (conf (Begin q i b) spot stack caps)
        (conf (Enter body) (record spot { left = spot.left - 1; units = spot.units + 1; frame = suc (length stack) })
        (TurnOrExit (record { node = q; link = spot.frame }) (kept_at spot) i ∷ stack) caps)
    unfolding fail
    turn_begin_exits is inside alone framed left room =
        let r : Entry = TurnOrExit (record { node = q; link = spot.frame }) (kept_at spot) i in
        advance_step c _ _ _
        (begins_with _ (cond-true b _ _ is) room)
        (focus_framed c r stack caps (Enter body) spot.passed (kept_at (to inside alone left room)) caps
        (fail c (r ∷ stack) caps) v.running.1.marked
        ∙ sym (entered inside alone left room (inside_of c r stack caps) _ _ _
        (caught_through c r stack caps refl refl
        ∙ sym (hand_frame c (r ∷ stack) caps (suc (length stack)) body framed))))
        (omega arith) refl
        (record {
          running = running inside alone left room r v.running.1.inside (around_here c r stack _ refl);
          records = (
            (v.running.0, standing inside alone left room, v.running.2, v.running.3),
            under inside alone left room,
          );
          spans = v.spans;
          slots = v.slots;
        })

    pub turn_begin_open : b ≡ false → IsPart c body → (c.rest body ≡ []) × (c.look_branch body ≡ None)
        → c.branch body ≡ None → 0 < spot.left
        → spot.units < c.setting.matching.frame_limit →
        Advances c (conf (Begin q i b) spot stack caps)
        (conf (Enter body) (record spot { left = spot.left - 1; units = spot.units + 1; frame = suc (length stack) })
        (TurnOpen (record { node = q; link = spot.frame }) (kept_at spot) i ∷ stack) caps)
    unfolding fail
    turn_begin_open is inside alone framed left room =
        let r : Entry = TurnOpen (record { node = q; link = spot.frame }) (kept_at spot) i in
        advance_step c _ _ _
        (begins_with _ (cond-false b _ _ is) room)
        (focus_framed c r stack caps (Enter body) spot.passed (kept_at (to inside alone left room)) caps
        (fail c (r ∷ stack) caps) v.running.1.marked
        ∙ sym (entered inside alone left room (inside_of c r stack caps) _ _ _
        (caught_through c r stack caps refl refl
        ∙ sym (hand_frame c (r ∷ stack) caps (suc (length stack)) body framed))))
        (omega arith) refl
        (record {
          running = running inside alone left room r v.running.1.inside (around_here c r stack _ refl);
          records = (
            (v.running.0, standing inside alone left room, v.running.2, v.running.3),
            under inside alone left room,
          );
          spans = v.spans;
          slots = v.slots;
        })

pub turn_begin : (c : Ground) (ok : IsGround c) (q i : ℕ) (spot : Spot) (stack : List Entry) (caps : Captures)
    (body : ℕ) (low : ℕ) (high : Option ℕ) (lazily : Bool)
    (t : tree.repeat (tree_of c body) low high lazily ≡ tree_of c q) (b : Bool)
    (v : IsValid c (conf (Begin q i b) spot stack caps)) →
    IsPart c body → (c.rest body ≡ []) × (c.look_branch body ≡ None) → c.branch body ≡ None → 0 < spot.left
    → spot.units < c.setting.matching.frame_limit →
    Advances c (conf (Begin q i b) spot stack caps)
    (conf (Enter body) (record spot { left = spot.left - 1; units = spot.units + 1; frame = suc (length stack) })
    (turn_entry spot q i b ∷ stack) caps)
turn_begin c ok q i spot stack caps body low high lazily t true v inside alone framed left room =
    turn_begin_exits c ok q i spot stack caps body low high lazily t true v refl inside alone framed left room
turn_begin c ok q i spot stack caps body low high lazily t false v inside alone framed left room =
    turn_begin_open c ok q i spot stack caps body low high lazily t false v refl inside alone framed left room
