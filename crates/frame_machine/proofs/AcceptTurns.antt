-- The steps of the machine where ACCEPT has ended a frame or the pattern.
use Rattle.std.proofs.Common.{◌≡◌, ◌≢◌, ◌⊎◌, ℕ, suc, ◌+◌, ◌-◌, ◌<◌, ◌≤◌, ◌∙◌, Bool, true, false, List, ◌∷◌, reverse}
use Rattle.std.proofs.Common.{Option, Some, None, length, slice_get, inl, inr, refl, sym, ap, subst, arith}
use Rattle.std.proofs.lemmas.List.{length-map, length-set, set-set, set-get_or}
use Rattle.std.proofs.lemmas.List.Elements.{All-set, All-nil}
use Rattle.pat_tree.specs.Nested as tree
use Rattle.pat_tree.specs.Nested.{Nested, Row}
use Rattle.frame_store.specs.declared.records.Record.{Record}
use Rattle.frame_store.specs.declared.kinds.TheConstants.{KIND_GROUP_OPEN, KIND_CALLED_GROUP, KIND_TURN_OPEN}
use Rattle.frame_store.specs.declared.kinds.TheConstants.{KIND_TURN_OR_EXIT, KIND_ATOMIC_OPEN}
use Rattle.frame_store.specs.Captures.{Captures, capture, with_capture}
use Rattle.frame_store.specs.Entry.{Site, Kept, Entry, Undo, GroupOpen, CalledGroup, TurnOpen, TurnOrExit}
use Rattle.frame_store.specs.Entry.{AtomicOpen, AtomicLeft, entry_of, entries, entry_kind, site_of, kept_of}
use Rattle.frame_store.specs.Entry.{entry_site}
use Rattle.frame_store.specs.Stack as stack_of
use Rattle.frame_store.specs.Undo.{taken_back, undone}
use Rattle.frame_store.proofs.EntryLemmas.{entry_of-group_open, entry_of-called_group, entry_of-turn_open}
use Rattle.frame_store.proofs.EntryLemmas.{entry_of-turn_or_exit, entry_of-atomic_open, entry_kind-not}
use Rattle.ordered_search.specs.Stream.{State, reached, accepted, captured}
use Rattle.ordered_search.specs.PlaceAnswer.{PlaceAnswer, Matched, Failed, Exhausted, FrameLimit, answers, decision}
use Rattle.ordered_search.specs.PlaceAnswer.{outcome, is_refused_as_empty, is_refused_by_end}
use Rattle.ordered_search.specs.Moves.{Moves, pause, found, Follow, holding, tread, size}
use Rattle.ordered_search.specs.Paths.{leave, turned}
use Rattle.ordered_search.proofs.Same.{holding_same}
use Rattle.frame_state.specs.declared.machine.Next.TheVariants.{End, Back, Accept}
use Rattle.frame_state.specs.declared.machine.Spot.{Spot}
use Rattle.frame_state.specs.Ground.{Ground, tree_of, IsGround, IsPart, BeginsBy}
use Rattle.frame_state.specs.Machine.{Around, Outside, state_at, kept_at, link_of, entry_kept, conf}
use Rattle.frame_state.specs.Frames.{frame_around, past, close_from, turned_from, around, around_at, frame_end, cont}
use Rattle.frame_state.specs.Frames.{fail, outside, spot_state, ahead}
use Rattle.frame_state.specs.Validity.{IsCapture, IsRepeat, SpanStands, AreSound, IsValid, Advances, IsContained}
use Rattle.frame_state.specs.Validity.{IsLater}
use Rattle.frame_state.specs.Stops.{IsNumber, told}
use Rattle.frame_state.proofs.PartPaths.{past_accepted}
use Rattle.frame_state.proofs.Frames.{around_push, cont_whole, focus_kept, Framed, framed, within_frame, contained_push}
use Rattle.frame_state.proofs.Drops.{fail_to_is}
use Rattle.frame_state.proofs.Advance.{holding_room, holding_full, advance_pause, over_units}
use Rattle.frame_state.proofs.Turns.{stands_capture}
use Rattle.frame_looks.proofs.LookTurns.{denied_height}

-- the pattern's own end
module _ (c : Ground) (spot : Spot) (stack : List Entry) (caps : Captures)
    (v : IsValid c (conf Accept spot stack caps)) (whole : spot.frame ≡ 0) where
  abbrev last : State
  last = spot_state c spot stack caps

  at_whole : ahead c (conf Accept spot stack caps) ≡ found accepted last (fail c stack caps)
  at_whole = ap (λ (k : Follow). k accepted last (fail c stack caps))
      (ap (cont c stack caps) whole ∙ cont_whole c stack caps)

  abbrev deciding : Bool → Bool → Option PlaceAnswer
  deciding empty by_end =
      elim empty [
        | true ↦ None
        | false ↦ elim by_end [
          | false ↦ Some (Matched (outcome last))
          | true ↦
              Some (Failed Exhausted)
        ]
      ]

  decided : (empty by_end : Bool) → is_refused_as_empty c.setting last ≡ empty
      → is_refused_by_end c.setting last ≡ by_end → decision c.setting accepted last ≡ deciding empty by_end
  decided empty by_end a b = ap (λ x. deciding x (is_refused_by_end c.setting last)) a ∙ ap (deciding empty) b

  answered : (o : Option PlaceAnswer) → decision c.setting accepted last ≡ o →
      tread c.setting spot.left (ahead c (conf Accept spot stack caps)) ≡ elim o
      [ None ↦ tread c.setting spot.left (fail c stack caps) | Some a ↦ answers a ]
  unfolding tread
  answered o e =
      ap (tread c.setting spot.left) at_whole
      ∙ ap (λ (x : Option PlaceAnswer). elim x [
        | None ↦ tread c.setting spot.left (fail c stack caps)
        | Some a ↦
            answers a
      ]) e

  pub turn_accept_empty : is_refused_as_empty c.setting last ≡ true
      → Advances c (conf Accept spot stack caps) (conf Back spot stack caps)
  unfolding size
  turn_accept_empty e = record {
    answer = ap (told spot.last) (answered None (decided true (is_refused_by_end c.setting last) e refl));
    shorter = omega (arith, ap size at_whole);
    valid = record { running = tt; records = v.records; spans = v.spans; slots = v.slots };
  }

  pub stop_accept_end : is_refused_as_empty c.setting last ≡ false → is_refused_by_end c.setting last ≡ true →
      tread c.setting spot.left (ahead c (conf Accept spot stack caps)) ≡ answers (Failed Exhausted)
  stop_accept_end a b = answered (Some (Failed Exhausted)) (decided false true a b)

  pub stop_accept_found : is_refused_as_empty c.setting last ≡ false → is_refused_by_end c.setting last ≡ false →
      tread c.setting spot.left (ahead c (conf Accept spot stack caps)) ≡ answers (Matched (outcome last))
  stop_accept_found a b = answered (Some (Matched (outcome last))) (decided false false a b)

numbered : (m : ℕ) (x : Nested) → IsNumber x m → (ts : Row) × (tree.group (Some m) ts ≡ x)
numbered m (tree.group (Some n) ts) e = (ts, ap (λ k. tree.group (Some k) ts) (sym e))
numbered m _ e = absurd e

repeated : (c : Ground) (x : Nested) → IsRepeat c x → (body : Nested) × (low : ℕ) × (high : Option ℕ)
    × (lazily : Bool) × (tree.repeat body low high lazily ≡ x)
repeated c (tree.repeat body low high lazily) e = (body, low, high, lazily, refl)
repeated c _ e = absurd e

-- a frame has ended
module _ (c : Ground) (ok : IsGround c) (spot : Spot) (records : List Record) (caps : Captures)
    (v : IsValid c (conf Accept spot (entries records) caps)) (h : ℕ) (height : spot.frame ≡ h + 1)
    (p : Record) (at : slice_get (reverse records) h ≡ Some p) where
  abbrev stack : List Entry
  stack = entries records

  at_height : spot.frame ≡ suc h
  at_height = omega (arith, height)

  -- a path that passed names up to a height, in the frame around this one
  abbrev outer : ℕ → Around
  outer names = around_at c stack p.link names

  abbrev K : Outside
  K = outside c stack caps p.link

  abbrev to : Spot
  to = record spot { frame = p.link }

  -- of a kind of frame
  module _ (r : Entry) (is : entry_of p ≡ r) (site_is : entry_site r ≡ site_of p)
      (keeps : entry_kept r ≡ kept_of p) where
    link : link_of r ≡ p.link
    link = ap (λ (x : Site). x.link) site_is

    frame : Framed c spot.left (length caps) stack caps (suc h) r
    frame = framed c spot.left (length caps) records caps h p r is v.records
        (within_frame c _ _ _ at_height v.running.contained) at

    frame_link : p.link ≤ length stack
    frame_link = subst (λ n. n ≤ length stack) link frame.link

    frame_contained : IsContained p.link stack
    frame_contained = within_frame c _ _ _ link frame.outer

    frame_later : IsLater c p.link p.node stack
    frame_later = subst (λ l. IsLater c l p.node stack) link
        (frame.later p.node (omega (arith, ap (λ (x : Site). c.rank x.node) site_is)))

    abbrev ended : State
    ended = spot_state c spot stack caps

    -- what follows in it
    follows : ahead c (conf Accept spot stack caps)
        ≡ frame_end c r (outer p.passed) K frame.inner (fail c frame.below frame.inner) accepted ended
        (fail c stack caps)
    follows =
        ap (λ (k : Follow). k accepted ended (fail c stack caps)) (ap (cont c stack caps) at_height ∙ frame.ends)
        ∙ ap (λ (k : Kept). frame_end c r (around_at c stack (link_of r) k.passed) (outside c stack caps (link_of r))
        frame.inner (fail c frame.below frame.inner) accepted ended (fail c stack caps)) keeps
        ∙ ap (λ l. frame_end c r (around_at c stack l p.passed) (outside c stack caps l) frame.inner
        (fail c frame.below frame.inner) accepted ended (fail c stack caps)) link

    -- a frame whose parts see what its own place sees
    module _ (same : (a : Around) → frame_around r a ≡ a) where
      frame_outer : around_at c stack spot.frame spot.passed ≡ outer spot.passed
      frame_outer = ap (λ l. around_at c stack l spot.passed) at_height ∙ frame.path spot.passed ∙ same _
          ∙ ap (λ l. around_at c stack l spot.passed) link

      ended_is : ended ≡ state_at (outer spot.passed) (kept_at spot) caps
      ended_is = ap (λ (a : Around). state_at a (kept_at spot) caps) frame_outer

      depth_is : spot.left < (around c stack p.link).depth
      depth_is = omega (arith, v.running.deep, ap (λ (a : Around). a.depth) frame_outer)

      -- a group
      module _ (m : ℕ) (closes : (a : Around) (k : Outside) (x : Captures) (out : Moves) (s : State) (f : Moves) →
          frame_end c r a k x out accepted s f ≡ pause
          (holding c.setting 1 (captured m p.place s) (λ t. k.follow accepted t (pause f))))
          (here : c.stands p.place ≡ true) (part : IsPart c p.node) where
        closing : ahead c (conf Accept spot stack caps)
            ≡ pause (holding c.setting 1 (captured m p.place (state_at (outer spot.passed) (kept_at spot) caps))
            (λ t. K.follow accepted t (pause (fail c stack caps))))
        closing =
            follows ∙ closes _ _ _ _ _ _
            ∙ ap (λ (s : State). pause (holding c.setting 1 (captured m p.place s)
            (λ t. K.follow accepted t (pause (fail c stack caps))))) ended_is

        stop_closes : c.setting.matching.frame_limit ≤ spot.units
            → tread c.setting spot.left (ahead c (conf Accept spot stack caps)) ≡ answers FrameLimit
        stop_closes full = over_units c spot.left _ _ closing (holding_full c.setting _ _ full)

        turn_closes : 0 < m → m ≤ c.setting.groups → spot.units < c.setting.matching.frame_limit →
            Advances c (conf Accept spot stack caps)
            (conf Accept (record spot { frame = p.link; units = spot.units + 1 })
            (Undo (record { node = p.node; link = p.link }) m (capture caps m) ∷ stack)
            (with_capture caps m (Some (record { from = p.place; to = spot.place }))))
        unfolding fail
        turn_closes some few room =
            let w = v.running in
            let next : Spot = record spot { frame = p.link; units = spot.units + 1 } in
            let new : Captures = with_capture caps m (Some (record { from = p.place; to = spot.place })) in
            let u : Entry = Undo (record { node = p.node; link = p.link }) m (capture caps m) in
            let len : length new ≡ length caps = length-set caps (m - 1) _ in
            let back : taken_back u new ≡ caps = set-set caps (m - 1) _ (capture caps m)
            ∙ set-get_or caps (m - 1) None in
            advance_pause c _ _ _
            (closing ∙ ap pause (holding_room c.setting _ _ room))
            (focus_kept c u stack new Accept p.link spot.passed (kept_at next) new (fail c (u ∷ stack) new) frame_link
            w.marked refl (All-nil (BeginsBy c p.node))
            ∙ ap (λ (x : Captures). (outside c stack x p.link).follow accepted
            (state_at (outer spot.passed) (kept_at next) new) (pause (fail c stack x))) back)
            refl
            (record {
              running = record {
                inside = omega (arith, frame_link);
                deep = omega (arith, depth_is, ap (λ (a : Around). a.depth) (around_push c u stack p.link frame_link));
                counted = omega (arith, w.counted);
                few = omega (arith, room);
                here = w.here;
                marked = omega (arith, w.marked);
                contained = contained_push c p.link u stack refl frame_contained;
              };
              records = (
                (
                  some,
                  omega (arith, few, len, v.slots),
                  stands_capture c ok caps (m - 1) v.spans,
                  frame_link,
                  part,
                  frame_contained,
                  frame_later,
                ),
                subst (λ n. AreSound c spot.left n stack) (sym len) v.records,
              );
              spans = All-set (SpanStands c) caps (m - 1) _ (here, w.here) v.spans;
              slots = len ∙ v.slots;
            })

  -- A group, be it called or not.

  closes_open : (m : ℕ) → IsNumber (tree_of c p.node) m
      → (a : Around) (k : Outside) (x : Captures) (out : Moves) (s : State) (f : Moves) →
      frame_end c (GroupOpen (site_of p) (kept_of p)) a k x out accepted s f ≡ pause
      (holding c.setting 1 (captured m p.place s) (λ t. k.follow accepted t (pause f)))
  closes_open m number a k x out s f =
      let z = numbered m (tree_of c p.node) number in
      ap (λ t. close_from c t p.place (past c a.depth k p.node) accepted s f) (sym z.1)
      ∙ ap pause
      (holding_same c.setting 1 (captured m p.place s) (λ t. past c a.depth k p.node accepted t (pause f))
      (λ t. k.follow accepted t (pause f))
      (λ t. past_accepted c a.depth k p.node t (pause f)))

  closes_called : (m : ℕ) → IsNumber (tree_of c p.node) m
      → (a : Around) (k : Outside) (x : Captures) (out : Moves) (s : State) (f : Moves) →
      frame_end c (CalledGroup (site_of p) (kept_of p)) a k x out accepted s f ≡ pause
      (holding c.setting 1 (captured m p.place s) (λ t. k.follow accepted t (pause f)))
  closes_called m number a k x out s f =
      let z = numbered m (tree_of c p.node) number in
      ap (λ t. close_from c t p.place k.follow accepted s f) (sym z.1)

  module _ (kind : (p.kind ≡ KIND_GROUP_OPEN) ⊎ (p.kind ≡ KIND_CALLED_GROUP)) where
    pub group_sound : IsPart c p.node × IsCapture c (tree_of c p.node) × (c.stands p.place ≡ true)
    group_sound =
        elim kind [
          | inl k ↦ let g = framed c spot.left (length caps) records caps h p (GroupOpen (site_of p) (kept_of p))
              (entry_of-group_open p k) v.records (within_frame c _ _ _ at_height v.running.contained) at in
              (g.sound.0, g.sound.2, g.sound.1.here)
          | inr k ↦ let g = framed c spot.left (length caps) records caps h p (CalledGroup (site_of p) (kept_of p))
              (entry_of-called_group p k) v.records (within_frame c _ _ _ at_height v.running.contained) at in
              (g.sound.0, g.sound.2, g.sound.1.here)
        ]

    module _ (m : ℕ) (number : IsNumber (tree_of c p.node) m) where
      pub stop_accept_group : c.setting.matching.frame_limit ≤ spot.units
          → tread c.setting spot.left (ahead c (conf Accept spot stack caps)) ≡ answers FrameLimit
      stop_accept_group full =
          elim kind [
            | inl k ↦ stop_closes (GroupOpen (site_of p) (kept_of p)) (entry_of-group_open p k) refl refl (λ a. refl)
                m (closes_open m number) group_sound.2 group_sound.0 full
            | inr k ↦ stop_closes (CalledGroup (site_of p) (kept_of p)) (entry_of-called_group p k) refl refl
                (λ a. refl) m (closes_called m number) group_sound.2 group_sound.0 full
          ]

      pub turn_accept_group : 0 < m → m ≤ c.setting.groups → spot.units < c.setting.matching.frame_limit →
          Advances c (conf Accept spot stack caps)
          (conf Accept (record spot { frame = p.link; units = spot.units + 1 })
          (Undo (record { node = p.node; link = p.link }) m (capture caps m) ∷ stack)
          (with_capture caps m (Some (record { from = p.place; to = spot.place }))))
      turn_accept_group some few room =
          elim kind [
            | inl k ↦ turn_closes (GroupOpen (site_of p) (kept_of p)) (entry_of-group_open p k) refl refl (λ a. refl)
                m (closes_open m number) group_sound.2 group_sound.0 some few room
            | inr k ↦ turn_closes (CalledGroup (site_of p) (kept_of p)) (entry_of-called_group p k) refl refl
                (λ a. refl) m (closes_called m number) group_sound.2 group_sound.0 some few room
          ]

  -- A turn of a repeat.

  module _ (r : Entry) (is : entry_of p ≡ r) (site_is : entry_site r ≡ site_of p) (keeps : entry_kept r ≡ kept_of p)
      (inner : (a : Around) → frame_around r a ≡ record a { depth = a.depth - suc p.count })
      (turns : (a : Around) (k : Outside) (x : Captures) (out : Moves)
      → frame_end c r a k x out ≡ turned_from c (tree_of c p.node) p.count a.depth (state_at a (kept_of p) x)
      (past c a.depth k p.node) (k.hand p.node))
      (repeats : IsRepeat c (tree_of c p.node)) where
    turn_link : link_of r ≡ p.link
    turn_link = ap (λ (x : Site). x.link) site_is

    turn_frame : Framed c spot.left (length caps) stack caps (suc h) r
    turn_frame = frame r is site_is keeps

    turn_around : around_at c stack spot.frame spot.passed ≡ record (around_at c stack (link_of r) spot.passed)
        { depth = (around c stack (link_of r)).depth - suc p.count }
    turn_around = ap (λ l. around_at c stack l spot.passed) at_height ∙ turn_frame.path spot.passed ∙ inner _

    turn_state : spot_state c spot stack caps ≡ state_at (outer spot.passed) (kept_at spot) caps
    turn_state =
        ap (λ (a : Around). state_at a (kept_at spot) caps) turn_around
        ∙ ap (λ l. state_at (around_at c stack l spot.passed) (kept_at spot) caps) turn_link

    over_turn : ahead c (conf Accept spot stack caps) ≡ pause
        (K.follow accepted (state_at (outer spot.passed) (kept_at spot) caps) (fail c stack caps))
    unfolding turned frame turn_frame
    over_turn =
        let z = repeated c (tree_of c p.node) repeats in
        let a : Around = outer p.passed in
        let f : Moves = fail c stack caps in
        let s : State = spot_state c spot stack caps in
        follows r is site_is keeps
        ∙ ap (λ (k : Follow). k accepted s f) (turns a K turn_frame.inner (fail c turn_frame.below turn_frame.inner))
        ∙ ap (λ t. turned_from c t p.count a.depth (state_at a (kept_of p) turn_frame.inner) (past c a.depth K p.node)
        (K.hand p.node) accepted s f) (sym z.4)
        ∙ ap pause (past_accepted c a.depth K p.node s f)
        ∙ ap (λ (u : State). pause (K.follow accepted u f)) turn_state

    turn_depth : spot.left < (around c stack p.link).depth
    turn_depth = omega (
      arith,
      v.running.deep,
      ap (λ (a : Around). a.depth) turn_around,
      ap (λ l. (around c stack l).depth) turn_link,
    )

    turn_over : Advances c (conf Accept spot stack caps) (conf Accept to stack caps)
    turn_over =
        let w = v.running in
        advance_pause c _ _ _ over_turn refl refl
        (record {
          running = record {
            inside = frame_link r is site_is keeps;
            deep = turn_depth;
            counted = w.counted;
            few = w.few;
            here = w.here;
            marked = w.marked;
            contained = frame_contained r is site_is keeps;
          };
          records = v.records;
          spans = v.spans;
          slots = v.slots;
        })

  pub turn_accept_turn : (p.kind ≡ KIND_TURN_OPEN) ⊎ (p.kind ≡ KIND_TURN_OR_EXIT)
      → Advances c (conf Accept spot stack caps) (conf Accept to stack caps)
  turn_accept_turn kind =
      elim kind [
        | inl k ↦
            let g = framed c spot.left (length caps) records caps h p (TurnOpen (site_of p) (kept_of p) p.count)
            (entry_of-turn_open p k) v.records (within_frame c _ _ _ at_height v.running.contained) at in
            turn_over (TurnOpen (site_of p) (kept_of p) p.count) (entry_of-turn_open p k) refl refl (λ a. refl)
            (λ a z x out. refl) g.sound.2
        | inr k ↦
            let g = framed c spot.left (length caps) records caps h p (TurnOrExit (site_of p) (kept_of p) p.count)
            (entry_of-turn_or_exit p k) v.records (within_frame c _ _ _ at_height v.running.contained) at in
            turn_over (TurnOrExit (site_of p) (kept_of p) p.count) (entry_of-turn_or_exit p k) refl refl (λ a. refl)
            (λ a z x out. refl) g.sound.2
      ]

  -- An atomic group is left by its first outcome.

  module _ (kind : p.kind ≡ KIND_ATOMIC_OPEN) where
    abbrev group : Entry
    group = AtomicOpen (site_of p) (kept_of p)

    group_frame : Framed c spot.left (length caps) stack caps (suc h) group
    group_frame = frame group (entry_of-atomic_open p kind) refl refl

    low : h ≤ length stack
    low = let within = denied_height records h p at in omega (arith, within, length-map records entry_of)

    abbrev lower : Moves
    lower = fail c (stack_of.up_to h stack) (undone (stack_of.past h stack) caps)

    leaving : ahead c (conf Accept spot stack caps)
        ≡ pause (holding c.setting 1 (state_at (outer p.passed) (kept_at spot) caps)
        (λ t. K.follow accepted t (pause lower)))
    unfolding frame group_frame
    leaving =
        let g = group_frame.given_up h refl in
        let a : Around = outer p.passed in
        let P : Follow = past c a.depth K p.node in
        let x : Captures = group_frame.inner in
        let out : fail c group_frame.below x ≡ lower = ap (λ st. fail c st x) (sym g.0)
        ∙ ap (fail c (stack_of.up_to h stack)) (sym g.1) in
        follows group (entry_of-atomic_open p kind) refl refl
        ∙ ap (λ (s : State). leave c.setting (state_at a (kept_of p) x) accepted s P (fail c group_frame.below x))
        (ended_is group (entry_of-atomic_open p kind) refl refl (λ b. refl))
        ∙ ap (λ m. leave c.setting (state_at a (kept_of p) x) accepted
        (state_at (outer spot.passed) (kept_at spot) caps) P m) out
        ∙ ap pause
        (holding_same c.setting 1 (state_at a (kept_at spot) caps) (λ t. P accepted t (pause lower))
        (λ t. K.follow accepted t (pause lower))
        (λ t. past_accepted c a.depth K p.node t (pause lower)))

    pub stop_accept_atomic : c.setting.matching.frame_limit ≤ spot.units
        → tread c.setting spot.left (ahead c (conf Accept spot stack caps)) ≡ answers FrameLimit
    stop_accept_atomic full = over_units c spot.left _ _ leaving (holding_full c.setting _ _ full)

    pub turn_accept_atomic : spot.units < c.setting.matching.frame_limit →
        Advances c (conf Accept spot stack caps)
        (conf Accept (record spot { passed = p.passed; frame = p.link; units = spot.units + 1 })
        (AtomicLeft (record { node = p.node; link = p.link }) (kept_at to) h ∷ stack) caps)
    unfolding fail
    turn_accept_atomic room =
        let w = v.running in
        let left : Entry = AtomicLeft (record { node = p.node; link = p.link }) (kept_at to) h in
        let next : Spot = record spot { passed = p.passed; frame = p.link; units = spot.units + 1 } in
        let inside : p.link ≤ length stack = frame_link group (entry_of-atomic_open p kind) refl refl in
        let outer_contained : IsContained p.link stack =
        frame_contained group (entry_of-atomic_open p kind) refl refl in
        let outer_later : IsLater c p.link p.node stack = frame_later group (entry_of-atomic_open p kind) refl refl in
        let deep : spot.left < (around c stack p.link).depth =
        depth_is group (entry_of-atomic_open p kind) refl refl (λ b. refl) in
        advance_pause c _ _ _
        (leaving ∙ ap pause (holding_room c.setting _ _ room))
        (focus_kept c left stack caps Accept p.link p.passed (kept_at next) caps (fail c (left ∷ stack) caps) inside
        group_frame.marked refl (All-nil (BeginsBy c p.node))
        ∙ ap (λ m. K.follow accepted (state_at (outer p.passed) (kept_at next) caps) (pause m))
        (fail_to_is c stack caps h low))
        refl
        (record {
          running = record {
            inside = omega (arith, inside);
            deep = omega (arith, deep, ap (λ (a : Around). a.depth) (around_push c left stack p.link inside));
            counted = omega (arith, w.counted);
            few = omega (arith, room);
            here = w.here;
            marked = omega (arith, group_frame.marked);
            contained = contained_push c p.link left stack refl outer_contained;
          };
          records = (
            (
              group_frame.sound.0,
              record {
                inside = inside;
                deep = deep;
                counted = w.counted;
                few = w.few;
                here = w.here;
                marked = w.marked;
                contained = outer_contained;
              },
              low,
              outer_later,
            ),
            v.records,
          );
          spans = v.spans;
          slots = v.slots;
        })

  -- Any other frame ends as it does without ACCEPT.

  same_end : (r : Entry) → entry_kind r ≢ KIND_GROUP_OPEN → entry_kind r ≢ KIND_CALLED_GROUP
      → entry_kind r ≢ KIND_TURN_OPEN → entry_kind r ≢ KIND_TURN_OR_EXIT → entry_kind r ≢ KIND_ATOMIC_OPEN →
      (a : Around) (k : Outside) (x : Captures) (out : Moves) (s : State) (f : Moves)
      → frame_end c r a k x out accepted s f ≡ frame_end c r a k x out reached s f
  same_end (GroupOpen at' kept) n1 n2 n3 n4 n5 a k x out s f = absurd (n1 refl)
  same_end (CalledGroup at' kept) n1 n2 n3 n4 n5 a k x out s f = absurd (n2 refl)
  same_end (TurnOpen at' kept count) n1 n2 n3 n4 n5 a k x out s f = absurd (n3 refl)
  same_end (TurnOrExit at' kept count) n1 n2 n3 n4 n5 a k x out s f = absurd (n4 refl)
  same_end (AtomicOpen at' kept) n1 n2 n3 n4 n5 a k x out s f = absurd (n5 refl)
  same_end _ n1 n2 n3 n4 n5 a k x out s f = refl

  module _ (n1 : p.kind ≢ KIND_GROUP_OPEN) (n2 : p.kind ≢ KIND_CALLED_GROUP) (n3 : p.kind ≢ KIND_TURN_OPEN)
      (n4 : p.kind ≢ KIND_TURN_OR_EXIT) (n5 : p.kind ≢ KIND_ATOMIC_OPEN) where
    pub as_end : ahead c (conf Accept spot stack caps) ≡ ahead c (conf End spot stack caps)
    as_end =
        let g = framed c spot.left (length caps) records caps h p (entry_of p) refl v.records
        (within_frame c _ _ _ at_height v.running.contained) at in
        let s : State = spot_state c spot stack caps in
        let f : Moves = fail c stack caps in
        ap (λ (k : Follow). k accepted s f) (ap (cont c stack caps) at_height ∙ g.ends)
        ∙ same_end (entry_of p) (entry_kind-not p KIND_GROUP_OPEN (omega arith) n1)
        (entry_kind-not p KIND_CALLED_GROUP (omega arith) n2)
        (entry_kind-not p KIND_TURN_OPEN (omega arith) n3) (entry_kind-not p KIND_TURN_OR_EXIT (omega arith) n4)
        (entry_kind-not p KIND_ATOMIC_OPEN (omega arith) n5) _ _ _ _ _ _
        ∙ sym (ap (λ (k : Follow). k reached s f) (ap (cont c stack caps) at_height ∙ g.ends))

  pub valid_end : IsValid c (conf End spot stack caps)
  valid_end = record { running = v.running; records = v.records; spans = v.spans; slots = v.slots }
