-- An atomic part is left by its first outcome.
use Rattle.std.proofs.Common.{◌≡◌, ℕ, All, suc, ◌+◌, ◌<◌, ◌≤◌, ◌∙◌, true, List, ◌∷◌, reverse, Some, length}
use Rattle.std.proofs.Common.{slice_get, refl, sym, ap, subst, arith}
use Rattle.std.proofs.lemmas.Option.{slice_get_within}
use Rattle.std.proofs.lemmas.List.{length-reverse, length-map}
use Rattle.frame_store.specs.declared.records.Record.{Record}
use Rattle.frame_store.specs.Captures.{Captures}
use Rattle.frame_store.specs.Entry.{Site, Kept, Entry, AtomicLeft, entry_site, entry_of, entries}
use Rattle.frame_store.specs.Stack as stack_of
use Rattle.frame_store.specs.Undo.{undone}
use Rattle.ordered_search.specs.Stream.{State, reached}
use Rattle.ordered_search.specs.PlaceAnswer.{answers, FrameLimit}
use Rattle.ordered_search.specs.Moves.{Moves, pause, Follow, holding, tread}
use Rattle.ordered_search.specs.Paths.{leave}
use Rattle.frame_state.specs.declared.machine.Next.TheVariants.{Back, End}
use Rattle.frame_state.specs.declared.machine.Spot.{Spot}
use Rattle.frame_state.specs.Ground.{Ground, BeginsBy, IsGround, IsPart}
use Rattle.frame_state.specs.Machine.{Around, Outside, state_at, kept_at, link_of, entry_kept, conf, onward}
use Rattle.frame_state.specs.Frames.{frame_around, past, around, around_at, frame_end, cont, fail, outside}
use Rattle.frame_state.specs.Frames.{spot_state, ahead, focus, parts_of}
use Rattle.frame_state.specs.Validity.{IsContained, IsLater, IsStanding, IsSound, IsValid, Advances, IsRunning}
use Rattle.frame_state.proofs.Frames.{around_push, focus_kept, focus_towards, running_towards, Framed, framed}
use Rattle.frame_state.proofs.Frames.{begun_towards, later_push, contained_push, within_frame}
use Rattle.frame_state.proofs.Drops.{fail_to_is, dropped}
use Rattle.frame_state.proofs.Advance.{holding_room, holding_full, advance_pause, over_units, goes_on}
use Rattle.frame_state.specs.declared.machine.Next.{Next}

-- a frame around branches has ended, of which a record tells where the path came from
module _ (c : Ground) (ok : IsGround c) (spot : Spot) (records : List Record) (caps : Captures)
    (v : IsValid c (conf End spot (entries records) caps)) (h : ℕ) (height : spot.frame ≡ suc h)
    (p : Record) (at : slice_get (reverse records) h ≡ Some p) (site : Site) (kept : Kept) (r : Entry)
    (is : entry_of p ≡ r) (site_is : entry_site r ≡ site) (keeps : entry_kept r ≡ kept)
    (same : (a : Around) → frame_around r a ≡ a)
    (sound : (below : List Entry) → IsSound c spot.left (length caps) below r
    → IsPart c site.node × IsStanding c spot.left site.link kept (around c below site.link).depth below) where
  link : link_of r ≡ site.link
  link = ap (λ (x : Site). x.link) site_is

  frame : Framed c spot.left (length caps) (entries records) caps (suc h) r
  frame = framed c spot.left (length caps) records caps h p r is v.records
      (within_frame c _ _ _ height v.running.contained) at

  -- what is around the frame for a path that passed names up to a height
  abbrev outer : ℕ → Around
  outer names = around_at c (entries records) site.link names

  frame_outer : (names : ℕ) → around_at c (entries records) spot.frame names ≡ outer names
  frame_outer names =
      ap (λ l. around_at c (entries records) l names) height ∙ frame.path names ∙ same _
      ∙ ap (λ l. around_at c (entries records) l names) link

  frame_names : kept.passed ≤ length (entries records)
  frame_names = subst (λ (k : Kept). k.passed ≤ length (entries records)) keeps frame.marked

  pub frame_inside : IsPart c site.node
  frame_inside = (sound frame.below frame.sound).0

  frame_contained : IsContained site.link (entries records)
  frame_contained = within_frame c _ _ _ link frame.outer

  frame_later : IsLater c site.link site.node (entries records)
  frame_later = subst (λ l. IsLater c l site.node (entries records)) link
      (frame.later site.node (omega (arith, ap (λ (x : Site). c.rank x.node) site_is)))

  pub frame_here : c.stands kept.place ≡ true
  frame_here = (sound frame.below frame.sound).1.here

  frame_link : site.link ≤ length (entries records)
  frame_link = subst (λ n. n ≤ length (entries records)) link frame.link

  frame_height : h ≤ length (entries records)
  frame_height =
      let within : h < length (reverse records) = slice_get_within (reverse records) h p at in
      omega (arith, within, length-reverse records, length-map records entry_of)

  -- where the frame ends so, with the path at this place
  module _ (place keep : ℕ) (here : c.stands place ≡ true) where
    -- its names are those before the part, or all
    abbrev to : Spot
    to = record spot { place = place; keep = keep; passed = kept.passed; frame = site.link }

    abbrev through : Spot
    through = record spot { place = place; keep = keep; frame = site.link }

    stands_through : IsStanding c spot.left site.link (kept_at through) (outer spot.passed).depth (entries records)
    stands_through =
        let w = v.running in
        record {
          inside = frame_link;
          deep = omega (arith, w.deep, ap (λ (a : Around). a.depth) (frame_outer spot.passed));
          counted = w.counted;
          few = w.few;
          here = here;
          marked = w.marked;
          contained = frame_contained;
        }

    -- and what follows goes on after it
    module _ (goes : Around → Outside → Follow)
        (ends : (a b : Around) (k : Outside) (x : Captures) (out : Moves) (f : Moves) →
        frame_end c r a k x out reached (state_at b (kept_at spot) caps) f ≡ leave c.setting (state_at a kept x)
        reached (state_at b (kept_at to) caps) (goes a k) out) where
      -- the records that are given up
      abbrev lower : Moves
      lower = fail c (stack_of.up_to h (entries records)) (undone (stack_of.past h (entries records)) caps)

      abbrev further : Follow
      further = goes (outer kept.passed) (outside c (entries records) caps site.link)

      leaving : ahead c (conf End spot (entries records) caps) ≡ pause
          (holding c.setting 1 (state_at (outer kept.passed) (kept_at to) caps)
          (λ u. further reached u (pause lower)))
      leaving =
          let g = frame.given_up h refl in
          let out : fail c frame.below frame.inner ≡ lower = ap (λ st. fail c st frame.inner) (sym g.0)
          ∙ ap (fail c (stack_of.up_to h (entries records))) (sym g.1) in
          let ended : State = state_at (outer spot.passed) (kept_at spot) caps in
          let f : Moves = fail c (entries records) caps in
          ap (λ (a : Around). cont c (entries records) caps spot.frame reached (state_at a (kept_at spot) caps) f)
          (frame_outer spot.passed)
          ∙ ap (λ (k : Follow). k reached ended f) (ap (cont c (entries records) caps) height ∙ frame.ends)
          ∙ ap (λ (k : Kept). frame_end c r (around_at c (entries records) (link_of r) k.passed)
          (outside c (entries records) caps (link_of r)) frame.inner (fail c frame.below frame.inner) reached
          ended f) keeps
          ∙ ap (λ l. frame_end c r (around_at c (entries records) l kept.passed) (outside c (entries records) caps l)
          frame.inner (fail c frame.below frame.inner) reached ended f) link
          ∙ ends (outer kept.passed) (outer spot.passed) (outside c (entries records) caps site.link) frame.inner
          (fail c frame.below frame.inner) f
          ∙ ap (λ m. leave c.setting (state_at (outer kept.passed) kept frame.inner) reached
          (state_at (outer spot.passed) (kept_at to) caps) further m) out

      pub stop_leave : c.setting.matching.frame_limit ≤ spot.units
          → tread c.setting spot.left (ahead c (conf End spot (entries records) caps)) ≡ answers FrameLimit
      stop_leave full = over_units c spot.left _ _ leaving (holding_full c.setting _ _ full)

      pub turn_leave : (next : Next)
          → ((s : State) (m : Moves) → focus c next (outer kept.passed).depth
          (outside c (entries records) caps site.link) s m ≡ further reached s m) →
          ((spot' : Spot) (stack' : List Entry) → IsLater c spot'.frame site.node stack'
          → IsRunning c spot' stack' End → IsRunning c spot' stack' next) →
          All (BeginsBy c site.node) (parts_of c next) → spot.units < c.setting.matching.frame_limit →
          Advances c (conf End spot (entries records) caps)
          (conf next (record to { units = spot.units + 1 })
          (AtomicLeft (record { node = site.node; link = site.link })
          (kept_at (record spot { frame = site.link })) h ∷ entries records) caps)
      unfolding fail
      turn_leave next focused runs begun room =
          let w = v.running in
          let stack : List Entry = entries records in
          let event : Kept = kept_at (record spot { frame = site.link }) in
          let left : Entry = AtomicLeft (record { node = site.node; link = site.link }) event h in
          let after : Spot = record to { units = spot.units + 1 } in
          advance_pause c _ _ _
          (leaving ∙ ap pause (holding_room c.setting _ _ room))
          (focus_kept c left stack caps next site.link kept.passed (kept_at after) caps (fail c (left ∷ stack) caps)
          frame_link frame_names refl begun
          ∙ focused _ _
          ∙ ap (λ m. further reached (state_at (outer kept.passed) (kept_at after) caps) (pause m))
          (fail_to_is c stack caps h frame_height))
          refl
          (record {
            running = runs after (left ∷ stack) (later_push c site.link site.node left stack (omega arith)
                frame_later) (record {
                  inside = omega (arith, frame_link);
                  deep = omega (
                    arith,
                    stands_through.deep,
                    ap (λ (a : Around). a.depth)
                        (around_push c left stack site.link frame_link),
                  );
                  counted = omega (arith, w.counted);
                  few = omega (arith, room);
                  here = here;
                  marked = omega (arith, frame_names);
                  contained = contained_push c site.link left stack refl frame_contained;
                });
            records = (
              (
                frame_inside,
                record {
                  inside = stands_through.inside;
                  deep = stands_through.deep;
                  counted = w.counted;
                  few = w.few;
                  here = w.here;
                  marked = w.marked;
                  contained = frame_contained;
                },
                frame_height,
                frame_later,
              ),
              v.records,
            );
            spans = v.spans;
            slots = v.slots;
          })

    -- it goes on after its part
    pub turn_left : ((a b : Around) (k : Outside) (x : Captures) (out : Moves) (f : Moves) →
        frame_end c r a k x out reached (state_at b (kept_at spot) caps) f ≡ leave c.setting (state_at a kept x)
        reached (state_at b (kept_at to) caps) (past c a.depth k site.node) out) →
        spot.units < c.setting.matching.frame_limit →
        Advances c (conf End spot (entries records) caps)
        (conf (onward c site.node) (record to { units = spot.units + 1 })
        (AtomicLeft (record { node = site.node; link = site.link }) (kept_at (record spot { frame = site.link }))
        h ∷ entries records) caps)
    turn_left ends room =
        turn_leave (λ a k. past c a.depth k site.node) ends (onward c site.node)
        (λ s m. focus_towards c ok site.node frame_inside _ _ s m) (running_towards c ok site.node frame_inside)
        (begun_towards c ok site.node frame_inside) room

    -- all outcomes are kept
    pub turn_through : ((a b : Around) (k : Outside) (x : Captures) (out f : Moves) →
        frame_end c r a k x out reached (state_at b (kept_at spot) caps) f ≡ pause
        (past c a.depth k site.node reached (state_at b (kept_at through) caps) f)) →
        Advances c (conf End spot (entries records) caps)
        (conf (onward c site.node) through (entries records) caps)
    turn_through ends =
        let ended : State = state_at (outer spot.passed) (kept_at spot) caps in
        let f : Moves = fail c (entries records) caps in
        goes_on c _ through (entries records) caps v.records v.spans v.slots ok site.node frame_inside frame_later
        stands_through refl
        (ap (λ (a : Around). cont c (entries records) caps spot.frame reached (state_at a (kept_at spot) caps) f)
        (frame_outer spot.passed)
        ∙ ap (λ (k : Follow). k reached ended f) (ap (cont c (entries records) caps) height ∙ frame.ends)
        ∙ ap (λ l. frame_end c r (around_at c (entries records) l (entry_kept r).passed)
        (outside c (entries records) caps l) frame.inner (fail c frame.below frame.inner) reached ended f) link
        ∙ ends (outer (entry_kept r).passed) (outer spot.passed) (outside c (entries records) caps site.link)
        frame.inner (fail c frame.below frame.inner) f)

  -- no outcome may be: the part fails
  pub turn_denied : ((a : Around) (k : Outside) (x : Captures) (out : Moves) (s : State) (f : Moves) → frame_end c r a
      k x out reached s f ≡ pause out) →
      Advances c (conf End spot (entries records) caps)
      (conf Back spot (stack_of.up_to h (entries records)) (undone (stack_of.past h (entries records)) caps))
  turn_denied ends =
      let g = frame.given_up h refl in
      advance_pause c _ _ _
      (ap (λ (k : Follow). k reached (spot_state c spot (entries records) caps) (fail c (entries records) caps))
      (ap (cont c (entries records) caps) height ∙ frame.ends)
      ∙ ends _ _ _ _ _ _)
      (ap (λ st. fail c st (undone (stack_of.past h (entries records)) caps)) g.0 ∙ ap (fail c frame.below) g.1)
      refl
      (dropped c ok spot (entries records) caps h v.records v.spans v.slots)
