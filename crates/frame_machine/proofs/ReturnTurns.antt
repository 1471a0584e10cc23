-- The steps of the machine where a called group ends, and where its call is left.
use Rattle.std.proofs.Common.{◌≡◌, ℕ, suc, ◌+◌, ◌-◌, ◌<◌, ◌≤◌, ◌∙◌, true, false, List, ◌∷◌, reverse, Some, None}
use Rattle.std.proofs.Common.{length, All, slice_get, refl, sym, ap, subst, arith}
use Rattle.std.proofs.lemmas.Bool.{le-leb, lt-leb}
use Rattle.std.proofs.lemmas.List.{length-set, set-set, set-get_or}
use Rattle.std.proofs.lemmas.List.Elements.{All-nil, All-set}
use Rattle.pat_tree.specs.Nested as tree
use Rattle.pat_tree.specs.Nested.{Nested, Row}
use Rattle.frame_store.specs.declared.records.Record.{Record}
use Rattle.frame_store.specs.declared.kinds.TheConstants.{KIND_CALLED_GROUP, KIND_CALL_OPEN}
use Rattle.frame_store.specs.Captures.{Captures, capture, with_capture}
use Rattle.frame_store.specs.Entry.{Entry, Undo, CalledGroup, CallOpen, entries, site_of, kept_of}
use Rattle.frame_store.specs.Stack as stack_of
use Rattle.frame_store.specs.Undo.{taken_back, undone, HasSlot}
use Rattle.frame_store.proofs.EntryLemmas.{entry_of-called_group, entry_of-call_open}
use Rattle.frame_store.proofs.UndoLemmas.{length-undone}
use Rattle.ordered_search.specs.Stream.{State, reached, captured, changes, by_halt, too_many_units}
use Rattle.ordered_search.specs.Setting.{Setting}
use Rattle.ordered_search.specs.PlaceAnswer.{answers, FrameLimit}
use Rattle.ordered_search.specs.Moves.{Moves, stops, pause, Follow, holding, tread}
use Rattle.ordered_search.specs.Paths.{returned, pauses}
use Rattle.frame_state.specs.declared.machine.Next.TheVariants.{End}
use Rattle.frame_state.specs.declared.machine.Spot.{Spot}
use Rattle.frame_state.specs.Ground.{Ground, tree_of, BeginsBy, IsGround, IsPart}
use Rattle.frame_state.specs.Machine.{Around, Outside, state_at, kept_at, conf, onward}
use Rattle.frame_state.specs.Frames.{past, close_from, around, around_at, cont, outside, fail, spot_state, ahead, focus}
use Rattle.frame_state.specs.Validity.{IsLater, IsCapture, SpanStands, AreSpans, AreSound, IsValid, Advances}
use Rattle.frame_state.specs.Stops.{IsNumber}
use Rattle.frame_state.specs.Calls.{AreRestored, trail}
use Rattle.frame_state.proofs.Frames.{around_push, focus_kept, focus_towards, focus_agrees, running_towards}
use Rattle.frame_state.proofs.Frames.{begun_towards, contained_push, within_frame, Framed, framed}
use Rattle.frame_state.proofs.Drops.{dropped, past_slots}
use Rattle.frame_state.proofs.Advance.{holding_room, holding_full, advance_pause, over_units}
use Rattle.frame_state.proofs.Turns.{stands_capture}
use Rattle.frame_looks.proofs.LookTurns.{denied_height}

numbered : (m : ℕ) (x : Nested) → IsNumber x m → (ts : Row) × (tree.group (Some m) ts ≡ x)
numbered m (tree.group (Some n) ts) e = (ts, ap (λ k. tree.group (Some k) ts) (sym e))
numbered m _ e = absurd e

-- room for some units, or none
module _ (g : Setting) (n : ℕ) (s : State) (x : State → Moves) where
  pub holding_some : s.units + n ≤ g.matching.frame_limit → holding g n s x ≡ x (record s { units = s.units + n })
  unfolding holding
  holding_some h =
      ap (λ b. elim b [ true ↦ x (record s { units = s.units + n }) | false ↦ stops (by_halt too_many_units) ])
      (le-leb _ _ h)

  pub holding_over : g.matching.frame_limit < s.units + n → holding g n s x ≡ stops (by_halt too_many_units)
  unfolding holding
  holding_over h =
      ap (λ b. elim b [ true ↦ x (record s { units = s.units + n }) | false ↦ stops (by_halt too_many_units) ])
      (lt-leb _ _ h)

-- a frame of a call has ended
module _ (c : Ground) (ok : IsGround c) (spot : Spot) (records : List Record) (caps : Captures)
    (v : IsValid c (conf End spot (entries records) caps)) (h : ℕ) (height : spot.frame ≡ h + 1)
    (p : Record) (at : slice_get (reverse records) h ≡ Some p) where
  abbrev stack : List Entry
  stack = entries records

  at_height : spot.frame ≡ suc h
  at_height = omega (arith, height)

  abbrev outer : Around
  outer = around_at c stack p.link spot.passed

  abbrev K : Outside
  K = outside c stack caps p.link

  -- a called group
  module _ (kind : p.kind ≡ KIND_CALLED_GROUP) where
    abbrev group : Entry
    group = CalledGroup (site_of p) (kept_of p)

    group_frame : Framed c spot.left (length caps) stack caps (suc h) group
    group_frame = framed c spot.left (length caps) records caps h p group (entry_of-called_group p kind) v.records
        (within_frame c _ _ _ at_height v.running.contained) at

    pub called_sound : IsPart c p.node × IsCapture c (tree_of c p.node)
    called_sound = (group_frame.sound.0, group_frame.sound.2)

    group_around : around_at c stack spot.frame spot.passed ≡ outer
    group_around = ap (λ l. around_at c stack l spot.passed) at_height ∙ group_frame.path spot.passed

    module _ (m : ℕ) (is : IsNumber (tree_of c p.node) m) where
      closing : ahead c (conf End spot stack caps)
          ≡ pause (holding c.setting 1 (captured m p.place (state_at outer (kept_at spot) caps))
          (λ u. K.follow reached u (pause (fail c stack caps))))
      closing =
          let z = numbered m (tree_of c p.node) is in
          ap (λ (a : Around). cont c stack caps spot.frame reached (state_at a (kept_at spot) caps)
          (fail c stack caps)) group_around
          ∙ ap (λ (k : Follow). k reached (state_at outer (kept_at spot) caps) (fail c stack caps))
          (ap (cont c stack caps) at_height ∙ group_frame.ends)
          ∙ ap (λ x. close_from c x p.place K.follow reached (state_at outer (kept_at spot) caps) (fail c stack caps))
          (sym z.1)

      pub stop_closed : c.setting.matching.frame_limit ≤ spot.units
          → tread c.setting spot.left (ahead c (conf End spot stack caps)) ≡ answers FrameLimit
      stop_closed full = over_units c spot.left _ _ closing (holding_full c.setting _ _ full)

      pub turn_closed : 0 < m → m ≤ c.setting.groups → spot.units < c.setting.matching.frame_limit →
          Advances c (conf End spot stack caps)
          (conf End (record spot { frame = p.link; units = spot.units + 1 })
          (Undo (record { node = p.node; link = p.link }) m (capture caps m) ∷ stack)
          (with_capture caps m (Some (record { from = p.place; to = spot.place }))))
      unfolding fail
      turn_closed some few room =
          let w = v.running in
          let g = group_frame in
          let to : Spot = record spot { frame = p.link; units = spot.units + 1 } in
          let new : Captures = with_capture caps m (Some (record { from = p.place; to = spot.place })) in
          let r : Entry = Undo (record { node = p.node; link = p.link }) m (capture caps m) in
          let len : length new ≡ length caps = length-set caps (m - 1) _ in
          let back : taken_back r new ≡ caps = set-set caps (m - 1) _ (capture caps m) ∙ set-get_or caps (m - 1) None in
          advance_pause c _ _ _
          (closing ∙ ap pause (holding_room c.setting _ _ room))
          (focus_kept c r stack new End p.link spot.passed (kept_at to) new (fail c (r ∷ stack) new) g.link w.marked
          refl (All-nil (BeginsBy c p.node))
          ∙ ap (λ (x : Captures). (outside c stack x p.link).follow reached (state_at outer (kept_at to) new)
          (pause (fail c stack x))) back)
          refl
          (record {
            running = record {
              inside = omega (arith, g.link);
              deep = omega (
                arith,
                w.deep,
                ap (λ (a : Around). a.depth) group_around,
                ap (λ (a : Around). a.depth) (around_push c r stack p.link g.link),
              );
              counted = omega (arith, w.counted);
              few = omega (arith, room);
              here = w.here;
              marked = omega (arith, w.marked);
              contained = contained_push c p.link r stack refl g.outer;
            };
            records = (
              (
                some,
                omega (arith, few, len, v.slots),
                stands_capture c ok caps (m - 1) v.spans,
                g.link,
                g.sound.0,
                g.outer,
                g.later p.node (omega arith),
              ),
              subst (λ n. AreSound c spot.left n stack) (sym len) v.records,
            );
            spans = All-set (SpanStands c) caps (m - 1) _ (g.sound.1.here, w.here) v.spans;
            slots = len ∙ v.slots;
          })

  -- a call
  module _ (kind : p.kind ≡ KIND_CALL_OPEN) where
    abbrev call : Entry
    call = CallOpen (site_of p) (kept_of p) p.slot p.from

    call_frame : Framed c spot.left (length caps) stack caps (suc h) call
    call_frame = framed c spot.left (length caps) records caps h p call (entry_of-call_open p kind) v.records
        (within_frame c _ _ _ at_height v.running.contained) at

    pub call_inside : IsPart c p.node
    call_inside = call_frame.sound.0

    call_later : IsLater c p.link p.node stack
    call_later = call_frame.later p.node (omega arith)

    -- the captures at its begin
    module _ (entry : Captures) (is : entry ≡ undone (stack_of.past h stack) caps) where
      first_is : call_frame.inner ≡ entry
      first_is = sym (call_frame.given_up h refl).1 ∙ sym is

      abbrev count : ℕ
      count = changes caps entry

      abbrev left_state : State
      left_state = state_at outer (kept_at spot) entry

      abbrev on : Follow
      on = past c outer.depth K p.node

      leaving : ahead c (conf End spot stack caps) ≡ pause
          (holding c.setting count left_state (λ t. on reached t (pauses count (fail c stack caps))))
      leaving =
          ap (λ (k : Follow). k reached (spot_state c spot stack caps) (fail c stack caps))
          (ap (cont c stack caps) at_height ∙ call_frame.ends)
          ∙ ap (λ (x : Captures). returned c.setting (state_at (around_at c stack p.link p.passed) (kept_of p) x) on
          reached (spot_state c spot stack caps) (fail c stack caps)) first_is

      pub stop_left : c.setting.matching.frame_limit < spot.units + count
          → tread c.setting spot.left (ahead c (conf End spot stack caps)) ≡ answers FrameLimit
      stop_left over = over_units c spot.left _ _ leaving (holding_over c.setting count left_state _ over)

      entry_length : length entry ≡ length caps
      entry_length = ap length is ∙ length-undone (stack_of.past h stack) caps

      entry_spans : AreSpans c entry
      entry_spans = subst (AreSpans c) (sym is) (dropped c ok spot stack caps h v.records v.spans v.slots).spans

      pub turn_left : (now : List Entry) → AreRestored (site_of p) entry 0 (trail caps stack) (trail entry now)
          → spot.units + count ≤ c.setting.matching.frame_limit →
          Advances c (conf End spot stack caps) (conf (onward c p.node)
          (record spot { frame = p.link; units = spot.units + count }) now entry)
      turn_left now r room =
          let w = v.running in
          let to : Spot = record spot { frame = p.link; units = spot.units + count } in
          advance_pause c _ _ _
          (leaving ∙ ap pause (holding_some c.setting count left_state _ room))
          (ap (λ (a : Around). focus c (onward c p.node) a.depth (outside c now entry p.link)
          (state_at a (kept_at to) entry) (fail c now entry))
          (r.arounds c p.link spot.passed call_frame.link w.marked)
          ∙ focus_agrees c p.node outer.depth (outside c now entry p.link) K (r.outsides c call_frame.link)
          (state_at outer (kept_at to) entry) (fail c now entry) (onward c p.node)
          (begun_towards c ok p.node call_inside)
          ∙ ap (focus c (onward c p.node) outer.depth K (state_at outer (kept_at to) entry)) (r.failing c)
          ∙ focus_towards c ok p.node call_inside outer.depth K (state_at outer (kept_at to) entry)
          (pauses count (fail c stack caps)))
          refl
          (record {
            running = running_towards c ok p.node call_inside to now (r.later c call_later) (record {
              inside = omega (arith, call_frame.link, r.counted);
              deep = omega (
                arith,
                w.deep,
                ap (λ (a : Around). a.depth)
                    (ap (around c stack) at_height ∙ call_frame.deep),
                ap (λ (a : Around). a.depth) (r.arounds c p.link spot.passed call_frame.link w.marked),
              );
              counted = omega (arith, w.counted, r.counted);
              few = room;
              here = w.here;
              marked = omega (arith, w.marked, r.counted);
              contained = r.contained call_frame.outer;
            });
            records = subst (λ n. AreSound c spot.left n now) (sym entry_length)
                (r.sound c spot.left call_frame.link call_inside call_frame.outer call_later v.spans entry_spans
                v.records);
            spans = entry_spans;
            slots = entry_length ∙ v.slots;
          })

      pub turn_given : (now : List Entry) (held : Captures)
          → AreRestored (site_of p) entry 0 (trail caps stack) (trail held now)
          → spot.units + count ≤ c.setting.matching.frame_limit →
          Advances c (conf End spot stack caps) (conf (onward c p.node)
          (record spot { frame = p.link; units = spot.units + count }) now held)
      turn_given now held r room =
          subst (λ (x : Captures). Advances c (conf End spot stack caps)
          (conf (onward c p.node) (record spot { frame = p.link; units = spot.units + count }) now
          x)) (sym r.done)
          (turn_left now (subst (λ (x : Captures). AreRestored (site_of p) entry 0 (trail caps stack) (trail x now))
          r.done r) room)

    pub bank_height : h ≤ length records
    bank_height = denied_height records h p at

    pub bank_slots : All (HasSlot caps) (stack_of.past h stack)
    bank_slots = past_slots c ok spot.left caps stack h v.records

    pub bank_length : (entry : Captures) → entry ≡ undone (stack_of.past h stack) caps → length caps ≡ length entry
    bank_length entry is = sym (ap length is ∙ length-undone (stack_of.past h stack) caps)
