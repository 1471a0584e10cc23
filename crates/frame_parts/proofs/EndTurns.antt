-- The steps of the machine at the end of a frame, and back to the newest record.
use Rattle.std.proofs.Common.{◌≡◌, ℕ, suc, ◌+◌, ◌-◌, ◌<◌, ◌≤◌, ◌∙◌, Bool, true, false, List, [], ◌∷◌, Option, Some}
use Rattle.std.proofs.Common.{None, length, reverse, slice_get, inl, inr, refl, sym, ap, subst, arith}
use Rattle.pat_tree.specs.Nested as tree
use Rattle.pat_tree.specs.Nested.{Nested, Row}
use Rattle.match_items.specs.Items.{one_less}
use Rattle.frame_store.specs.declared.records.Record.{Record}
use Rattle.frame_store.specs.Captures.{Captures, capture, with_capture}
use Rattle.frame_store.specs.Entry.{Site, Kept, Entry, Undo, GroupOpen, CalledGroup, TurnOpen, TurnOrExit}
use Rattle.frame_store.specs.Entry.{AtomicOpen, LookOpen, LookAllOpen, LookTest, DenialOpen, DenialTest, CallOpen}
use Rattle.frame_store.specs.Entry.{entry_site, entry_of, entries}
use Rattle.ordered_search.specs.Stream.{State, reached, captured}
use Rattle.ordered_search.specs.Parts.{is_over}
use Rattle.ordered_search.specs.PlaceAnswer.{answers, FrameLimit, PlaceAnswer, Matched, decision, outcome}
use Rattle.ordered_search.specs.Moves.{Moves, pause, found, Follow, holding, tread, size}
use Rattle.ordered_search.specs.Paths.{paths, turned}
use Rattle.frame_state.specs.declared.machine.Next.TheVariants.{Offer, Back, End}
use Rattle.frame_state.specs.declared.machine.Spot.{Spot}
use Rattle.frame_state.specs.Ground.{Ground, tree_of, IsGround, IsPart}
use Rattle.frame_state.specs.Machine.{Around, Outside, less, state_at, kept_at, link_of, entry_kept, conf, onward}
use Rattle.frame_state.specs.Frames.{frame_around, around_at, past, offer_from, turned_from, close_from, around}
use Rattle.frame_state.specs.Frames.{frame_end, cont, outside, fail, spot_state, ahead, hand}
use Rattle.frame_state.specs.Validity.{IsContained, IsLater, IsRepeat, IsCapture, SpanStands, IsSound, AreSound}
use Rattle.frame_state.specs.Validity.{IsValid, Advances}
use Rattle.frame_state.proofs.Frames.{around_here, around_push, focus_kept, focus_towards, running_towards, Framed}
use Rattle.frame_state.proofs.Frames.{framed, begun_towards, later_push, contained_push, within_frame}
use Rattle.frame_state.proofs.Advance.{holding_room, holding_full, advance_pause, over_units, goes_back, goes_on}
use Rattle.std.proofs.lemmas.List.{length-set, set-set, set-get_or}
use Rattle.std.proofs.lemmas.List.Elements.{All-set}
use Rattle.frame_store.specs.Undo.{taken_back}
use Rattle.std.proofs.Common.{◌≢◌, ◌⊎◌, ◌&&◌, not}
use Rattle.frame_store.specs.declared.kinds.TheConstants.{KIND_GROUP_OPEN, KIND_TURN_OPEN, KIND_TURN_OR_EXIT}
use Rattle.frame_store.specs.declared.kinds.TheConstants.{KIND_ATOMIC_OPEN, KIND_LOOK_OPEN, KIND_LOOK_ALL_OPEN}
use Rattle.frame_store.specs.declared.kinds.TheConstants.{KIND_DENIAL_OPEN, KIND_LOOK_TEST, KIND_DENIAL_TEST}
use Rattle.frame_store.specs.declared.kinds.TheConstants.{KIND_CALLED_GROUP, KIND_CALL_OPEN}
use Rattle.frame_store.specs.Entry.{site_of, kept_of, entry_kind}
use Rattle.frame_store.proofs.EntryLemmas.{entry_of-group_open, entry_of-turn_open, entry_of-turn_or_exit}
use Rattle.frame_store.proofs.EntryLemmas.{entry_kind-not}
use Rattle.frame_state.specs.Stops.{spot_outcome, took_nothing, IsNumber, admitted, told}
use Rattle.std.proofs.lemmas.Bool.{cases_eq, false≢true}
use Rattle.ordered_search.specs.Setting.{Setting, match_limit}
use Rattle.frame_state.proofs.Frames.{around_below, cont_whole, begun_towards, later_push, contained_push}
use Rattle.frame_state.proofs.Turns.{stands_capture}

elim_true : (b : Bool) (x y : Moves) → b ≡ true → elim b [ true ↦ x | false ↦ y ] ≡ x
elim_true true x y e = refl
elim_true false x y e = absurd (false≢true e)

elim_false : (b : Bool) (x y : Moves) → b ≡ false → elim b [ true ↦ x | false ↦ y ] ≡ y
elim_false true x y e = absurd (false≢true (sym e))
elim_false false x y e = refl

pub less_more : (count j : ℕ) → j ≡ suc count → (high : Option ℕ) → one_less (less count high) ≡ less j high
less_more count j e None = refl
less_more count j e (Some n) = let same : n - count - 1 ≡ n - j = omega (arith, e) in ap Some same

-- no depth is greater than that of the whole pattern
frame_less : (r : Entry) (a : Around) → (frame_around r a).depth ≤ a.depth
frame_less (TurnOpen at kept count) a = omega arith
frame_less (TurnOrExit at kept count) a = omega arith
frame_less (CallOpen at kept group last) a = omega arith
frame_less _ a = omega arith

around_le : (c : Ground) (stack : List Entry) (l : ℕ) → (around c stack l).depth ≤ match_limit c.setting + 1
unfolding around
around_le c [] l = omega arith
around_le c (r ∷ below) l =
    elim (cases_eq l (suc (length below))) [
      | inl here ↦
          let h = around_le c below (link_of r) in
          omega (
            arith,
            h,
            frame_less r (around c below (link_of r)),
            ap (λ (a : Around). a.depth) (around_here c r below l here),
          )
      | inr not ↦ let h = around_le c below l in
          omega (arith, h, ap (λ (a : Around). a.depth) (around_below c r below l not))
    ]

-- the pattern's own end
module _ (c : Ground) (spot : Spot) (stack : List Entry) (caps : Captures) (v : IsValid c (conf End spot stack caps))
    (whole : spot.frame ≡ 0) where
  at_whole : ahead c (conf End spot stack caps) ≡ found reached (spot_state c spot stack caps) (fail c stack caps)
  at_whole =
      ap (λ (k : Follow). k reached (spot_state c spot stack caps) (fail c stack caps))
      (ap (cont c stack caps) whole ∙ cont_whole c stack caps)

  pub stop_found : decision c.setting reached (spot_state c spot stack caps) ≡ Some
      (Matched (outcome (spot_state c spot stack caps))) →
      tread c.setting spot.left (ahead c (conf End spot stack caps)) ≡ answers (Matched (spot_outcome spot caps))
  unfolding tread
  stop_found e =
      ap (tread c.setting spot.left) at_whole
      ∙ ap (λ o. elim o [ None ↦ tread c.setting spot.left (fail c stack caps) | Some a ↦ answers a ]) e

  pub turn_refused : decision c.setting reached (spot_state c spot stack caps) ≡ None
      → Advances c (conf End spot stack caps) (conf Back spot stack caps)
  unfolding tread size
  turn_refused e = record {
    answer =
        ap (told spot.last)
        (ap (tread c.setting spot.left) at_whole
        ∙ ap (λ o. elim o [ None ↦ tread c.setting spot.left (fail c stack caps) | Some a ↦ answers a ]) e);
    shorter = omega (arith, ap size at_whole);
    valid = record { running = tt; records = v.records; spans = v.spans; slots = v.slots };
  }

-- a frame has ended
module _ (c : Ground) (ok : IsGround c) (spot : Spot) (records : List Record) (caps : Captures)
    (v : IsValid c (conf End spot (entries records) caps)) (h : ℕ) (height : spot.frame ≡ suc h)
    (p : Record) (at : slice_get (reverse records) h ≡ Some p) where
  -- a record that is no frame
  stray_end : (r : Entry) → entry_kind r ≢ KIND_GROUP_OPEN → entry_kind r ≢ KIND_TURN_OPEN
      → entry_kind r ≢ KIND_TURN_OR_EXIT → entry_kind r ≢ KIND_ATOMIC_OPEN →
      entry_kind r ≢ KIND_LOOK_OPEN → entry_kind r ≢ KIND_LOOK_ALL_OPEN → entry_kind r ≢ KIND_DENIAL_OPEN →
      entry_kind r ≢ KIND_LOOK_TEST → entry_kind r ≢ KIND_DENIAL_TEST → entry_kind r ≢ KIND_CALLED_GROUP
      → entry_kind r ≢ KIND_CALL_OPEN → (a : Around) (k : Outside) (x : Captures) (out : Moves) (s : State)
      (f : Moves) →
      frame_end c r a k x out reached s f ≡ pause f
  stray_end (GroupOpen at' kept) o t e y l m d u w g j a k x out s f = absurd (o refl)
  stray_end (TurnOpen at' kept count) o t e y l m d u w g j a k x out s f = absurd (t refl)
  stray_end (TurnOrExit at' kept count) o t e y l m d u w g j a k x out s f = absurd (e refl)
  stray_end (AtomicOpen at' kept) o t e y l m d u w g j a k x out s f = absurd (y refl)
  stray_end (LookOpen at' kept) o t e y l m d u w g j a k x out s f = absurd (l refl)
  stray_end (LookAllOpen at' kept) o t e y l m d u w g j a k x out s f = absurd (m refl)
  stray_end (DenialOpen at' kept) o t e y l m d u w g j a k x out s f = absurd (d refl)
  stray_end (LookTest at' kept) o t e y l m d u w g j a k x out s f = absurd (u refl)
  stray_end (DenialTest at' kept) o t e y l m d u w g j a k x out s f = absurd (w refl)
  stray_end (CalledGroup at' kept) o t e y l m d u w g j a k x out s f = absurd (g refl)
  stray_end (CallOpen at' kept group last) o t e y l m d u w g j a k x out s f = absurd (j refl)
  stray_end _ o t e y l m d u w g j a k x out s f = refl

  pub turn_stray : p.kind ≢ KIND_GROUP_OPEN → p.kind ≢ KIND_TURN_OPEN → p.kind ≢ KIND_TURN_OR_EXIT
      → p.kind ≢ KIND_ATOMIC_OPEN → p.kind ≢ KIND_LOOK_OPEN →
      p.kind ≢ KIND_LOOK_ALL_OPEN → p.kind ≢ KIND_DENIAL_OPEN → p.kind ≢ KIND_LOOK_TEST → p.kind ≢ KIND_DENIAL_TEST
      → p.kind ≢ KIND_CALLED_GROUP → p.kind ≢ KIND_CALL_OPEN
      → Advances c (conf End spot (entries records) caps) (conf Back spot (entries records) caps)
  turn_stray o t e y l m d u w x j =
      let g = framed c spot.left (length caps) records caps h p (entry_of p) refl v.records
      (within_frame c _ _ _ height v.running.contained) at in
      goes_back c _ spot (entries records) caps v.records v.spans v.slots refl
      (ap (λ (k : Follow). k reached (spot_state c spot (entries records) caps) (fail c (entries records) caps))
      (ap (cont c (entries records) caps) height ∙ g.ends)
      ∙ stray_end (entry_of p) (entry_kind-not p KIND_GROUP_OPEN (omega arith) o)
      (entry_kind-not p KIND_TURN_OPEN (omega arith) t) (entry_kind-not p KIND_TURN_OR_EXIT (omega arith) e)
      (entry_kind-not p KIND_ATOMIC_OPEN (omega arith) y) (entry_kind-not p KIND_LOOK_OPEN (omega arith) l)
      (entry_kind-not p KIND_LOOK_ALL_OPEN (omega arith) m) (entry_kind-not p KIND_DENIAL_OPEN (omega arith) d)
      (entry_kind-not p KIND_LOOK_TEST (omega arith) u) (entry_kind-not p KIND_DENIAL_TEST (omega arith) w)
      (entry_kind-not p KIND_CALLED_GROUP (omega arith) x) (entry_kind-not p KIND_CALL_OPEN (omega arith) j) _ _ _ _ _
      _)

  -- a capturing group
  module _ (site : Site) (kept : Kept) (is : entry_of p ≡ GroupOpen site kept) where
    group_frame : Framed c spot.left (length caps) (entries records) caps (suc h) (GroupOpen site kept)
    group_frame = framed c spot.left (length caps) records caps h p (GroupOpen site kept) is v.records
        (within_frame c _ _ _ height v.running.contained) at

    group_around : around_at c (entries records) spot.frame spot.passed ≡ around_at c (entries records) site.link
        spot.passed
    group_around = ap (λ l. around_at c (entries records) l spot.passed) height ∙ group_frame.path spot.passed

    module _ (m : ℕ) (ts : Row) (t : tree.group (Some m) ts ≡ tree_of c site.node) where
      closing : ahead c (conf End spot (entries records) caps)
          ≡ pause (holding c.setting 1
          (captured m kept.place (state_at (around_at c (entries records) site.link spot.passed) (kept_at spot)
          caps))
          (λ u. past c (around c (entries records) site.link).depth (outside c (entries records) caps site.link)
          site.node reached u (pause (fail c (entries records) caps))))
      closing =
          ap (λ (a : Around). cont c (entries records) caps spot.frame reached (state_at a (kept_at spot) caps)
          (fail c (entries records) caps)) group_around
          ∙ ap (λ (k : Follow). k reached (state_at (around_at c (entries records) site.link spot.passed)
          (kept_at spot) caps) (fail c (entries records) caps))
          (ap (cont c (entries records) caps) height ∙ group_frame.ends)
          ∙ ap (λ x. close_from c x kept.place (past c (around c (entries records) site.link).depth
          (outside c (entries records) caps site.link) site.node) reached
          (state_at (around_at c (entries records) site.link spot.passed) (kept_at spot) caps)
          (fail c (entries records) caps)) (sym t)

      pub stop_close : c.setting.matching.frame_limit ≤ spot.units
          → tread c.setting spot.left (ahead c (conf End spot (entries records) caps)) ≡ answers FrameLimit
      stop_close full = over_units c spot.left _ _ closing (holding_full c.setting _ _ full)

      pub turn_close : 0 < m → m ≤ length caps → spot.units < c.setting.matching.frame_limit →
          Advances c (conf End spot (entries records) caps)
          (conf (onward c site.node) (record spot { frame = site.link; units = spot.units + 1 })
          (Undo (record { node = site.node; link = site.link }) m (capture caps m) ∷ entries records)
          (with_capture caps m (Some (record { from = kept.place; to = spot.place }))))
      unfolding fail
      turn_close some few room =
          let w = v.running in
          let g = group_frame in
          let stack : List Entry = entries records in
          let to : Spot = record spot { frame = site.link; units = spot.units + 1 } in
          let new : Captures = with_capture caps m (Some (record { from = kept.place; to = spot.place })) in
          let r : Entry = Undo (record { node = site.node; link = site.link }) m (capture caps m) in
          let len : length new ≡ length caps = length-set caps (m - 1) _ in
          let back : taken_back r new ≡ caps = set-set caps (m - 1) _ (capture caps m) ∙ set-get_or caps (m - 1) None in
          let inside : IsPart c site.node = g.sound.0 in
          advance_pause c _ _ _
          (closing ∙ ap pause (holding_room c.setting _ _ room))
          (focus_kept c r stack new (onward c site.node) site.link spot.passed (kept_at to) new
          (fail c (r ∷ stack) new) g.link w.marked refl (begun_towards c ok site.node inside)
          ∙ focus_towards c ok site.node inside _ _ _ _
          ∙ ap (λ (x : Captures). past c (around c stack site.link).depth (outside c stack x site.link) site.node
          reached (state_at (around_at c stack site.link spot.passed) (kept_at to) new)
          (pause (fail c stack x))) back)
          refl
          (record {
            running = running_towards c ok site.node inside to (r ∷ stack)
                (later_push c site.link site.node r stack (omega arith) (g.later site.node (omega arith))) (record {
                  inside = omega (arith, g.link);
                  deep = omega (
                    arith,
                    w.deep,
                    ap (λ (a : Around). a.depth) group_around,
                    ap (λ (a : Around). a.depth) (around_push c r stack site.link g.link),
                  );
                  counted = omega (arith, w.counted);
                  few = omega (arith, room);
                  here = w.here;
                  marked = omega (arith, w.marked);
                  contained = contained_push c site.link r stack refl g.outer;
                });
            records = (
              (
                some,
                omega (arith, few, len),
                stands_capture c ok caps (m - 1) v.spans,
                g.link,
                inside,
                g.outer,
                g.later site.node (omega arith),
              ),
              subst (λ n. AreSound c spot.left n stack) (sym len)
                  v.records,
            );
            spans = All-set (SpanStands c) caps (m - 1) _ (g.sound.1.here, w.here) v.spans;
            slots = len ∙ v.slots;
          })

  -- a turn of a repeat
  module _ (site : Site) (kept : Kept) (count : ℕ) (body low : ℕ) (high : Option ℕ) (lazily : Bool)
      (t : tree.repeat (tree_of c body) low high lazily ≡ tree_of c site.node)
      (r : Entry) (is : entry_of p ≡ r) (site_is : entry_site r ≡ site)
      (ends : (a : Around) (k : Outside) (x : Captures) (out : Moves)
      → frame_end c r a k x out ≡ turned_from c (tree_of c site.node) count a.depth (state_at a kept x)
      (past c a.depth k site.node) (k.hand site.node))
      (inner : (a : Around) → frame_around r a ≡ record a { depth = a.depth - suc count })
      (sound : (below : List Entry) → IsSound c spot.left (length caps) below r
      → IsPart c site.node × (site.link ≤ length below) × IsRepeat c (tree_of c site.node)) where
    link : link_of r ≡ site.link
    link = ap (λ (x : Site). x.link) site_is

    turn_frame : Framed c spot.left (length caps) (entries records) caps (suc h) r
    turn_frame = framed c spot.left (length caps) records caps h p r is v.records
        (within_frame c _ _ _ height v.running.contained) at

    turn_around : around_at c (entries records) spot.frame spot.passed
        ≡ record (around_at c (entries records) site.link spot.passed)
        { depth = (around c (entries records) site.link).depth - suc count }
    turn_around =
        ap (λ l. around_at c (entries records) l spot.passed) height ∙ turn_frame.path spot.passed ∙ inner _
        ∙ ap (λ l. record (around_at c (entries records) l spot.passed)
        { depth = (around c (entries records) l).depth - suc count }) link

    ended : ahead c (conf End spot (entries records) caps)
        ≡ pause (elim (is_over (low - count) (less count high)
        (state_at (around_at c (entries records) site.link (entry_kept r).passed) kept turn_frame.inner)
        (state_at (around_at c (entries records) site.link spot.passed) (kept_at spot) caps)) [
          | true ↦ past c (around c (entries records) site.link).depth (outside c (entries records) caps site.link)
              site.node reached (state_at (around_at c (entries records) site.link spot.passed) (kept_at spot) caps)
              (fail c (entries records) caps)
          | false ↦ paths c.setting ((around c (entries records) site.link).depth - suc count)
              (tree.repeat (tree_of c body) (low - count - 1) (one_less (less count high)) lazily)
              (state_at (around_at c (entries records) site.link spot.passed) (kept_at spot) caps)
              (past c (around c (entries records) site.link).depth (outside c (entries records) caps site.link)
              site.node) (fail c (entries records) caps) (hand c (entries records) caps site.link site.node)
        ])
    unfolding turned
    ended =
        ap (λ (a : Around). cont c (entries records) caps spot.frame reached (state_at a (kept_at spot) caps)
        (fail c (entries records) caps)) turn_around
        ∙ ap (λ (k : Follow). k reached (state_at (around_at c (entries records) site.link spot.passed) (kept_at spot)
        caps) (fail c (entries records) caps))
        (ap (cont c (entries records) caps) height ∙ turn_frame.ends ∙ ends _ _ _ _
        ∙ ap (λ l. turned_from c (tree_of c site.node) count (around c (entries records) l).depth
        (state_at (around_at c (entries records) l (entry_kept r).passed) kept turn_frame.inner)
        (past c (around c (entries records) l).depth (outside c (entries records) caps l) site.node)
        (hand c (entries records) caps l site.node)) link)
        ∙ ap (λ x. turned_from c x count (around c (entries records) site.link).depth
        (state_at (around_at c (entries records) site.link (entry_kept r).passed) kept turn_frame.inner)
        (past c (around c (entries records) site.link).depth (outside c (entries records) caps site.link)
        site.node) (hand c (entries records) caps site.link site.node) reached
        (state_at (around_at c (entries records) site.link spot.passed) (kept_at spot) caps)
        (fail c (entries records) caps)) (sym t)

    depth_left : spot.left < (around c (entries records) site.link).depth - suc count
    depth_left = omega (arith, v.running.deep, ap (λ (a : Around). a.depth) turn_around)

    link_inside : site.link ≤ length (entries records)
    link_inside = subst (λ n. n ≤ length (entries records)) link turn_frame.link

    turn_contained : IsContained site.link (entries records)
    turn_contained = subst (λ l. IsContained l (entries records)) link turn_frame.outer

    turn_later : IsLater c site.link site.node (entries records)
    turn_later =
        subst (λ l. IsLater c l site.node (entries records)) link
        (turn_frame.later site.node (omega (arith, ap (λ (x : Site). c.rank x.node) site_is)))

    node_inside : IsPart c site.node
    node_inside = (sound turn_frame.below turn_frame.sound).0

    over_is : (hi : Option ℕ) (a b : State) → is_over (low - count) (less count hi) a b ≡ took_nothing low hi count
        a.place b.place
    over_is None a b = refl
    over_is (Some n) a b = refl

    pub turn_over : took_nothing low high count kept.place spot.place ≡ true →
        Advances c (conf End spot (entries records) caps)
        (conf (onward c site.node) (record spot { frame = site.link }) (entries records) caps)
    turn_over e =
        let w = v.running in
        goes_on c _ (record spot { frame = site.link }) (entries records) caps v.records v.spans v.slots ok site.node
        node_inside turn_later
        (record {
          inside = link_inside;
          deep = omega (arith, depth_left);
          counted = w.counted;
          few = w.few;
          here = w.here;
          marked = w.marked;
          contained = turn_contained;
        }) refl
        (ended ∙ ap pause (elim_true _ _ _ (over_is high _ _ ∙ e)))

    pub turn_again : (j : ℕ) → j ≡ suc count → took_nothing low high count kept.place spot.place ≡ false →
        Advances c (conf End spot (entries records) caps)
        (conf (Offer site.node j) (record spot { frame = site.link }) (entries records) caps)
    turn_again j same e =
        let w = v.running in
        let a : Around = around_at c (entries records) site.link spot.passed in
        let s : State = state_at a (kept_at spot) caps in
        let K : Follow = past c a.depth (outside c (entries records) caps site.link) site.node in
        let f : Moves = fail c (entries records) caps in
        let lower : low - count - 1 ≡ low - j = omega (arith, same) in
        let deeper : a.depth - suc count ≡ a.depth - j = omega (arith, same) in
        advance_pause c _ _ _
        (ended ∙ ap pause (elim_false _ _ _ (over_is high _ _ ∙ e)))
        (sym
        (ap (λ d. paths c.setting d (tree.repeat (tree_of c body) (low - count - 1) (one_less (less count high))
        lazily) s K f (hand c (entries records) caps site.link site.node)) deeper
        ∙ ap (λ x. paths c.setting (a.depth - j) (tree.repeat (tree_of c body) x (one_less (less count high)) lazily)
        s K f (hand c (entries records) caps site.link site.node)) lower
        ∙ ap (λ x. paths c.setting (a.depth - j) (tree.repeat (tree_of c body) (low - j) x lazily) s K f
        (hand c (entries records) caps site.link site.node)) (less_more count j same high)
        ∙ ap (λ x. offer_from c x j a.depth s K f (hand c (entries records) caps site.link site.node)) t))
        refl
        (record {
          running = (
            node_inside,
            record {
              inside = link_inside;
              deep = omega (arith, depth_left, same);
              counted = w.counted;
              few = w.few;
              here = w.here;
              marked = w.marked;
              contained = turn_contained;
            },
            (sound turn_frame.below turn_frame.sound).2,
            turn_later,
          );
          records = v.records;
          spans = v.spans;
          slots = v.slots;
        })

    pub turns_few : suc count ≤ match_limit c.setting
    turns_few = omega (arith, depth_left, around_le c (entries records) site.link)

-- the same, of the record
module _ (c : Ground) (ok : IsGround c) (spot : Spot) (records : List Record) (caps : Captures)
    (v : IsValid c (conf End spot (entries records) caps)) (h : ℕ) (height : spot.frame ≡ h + 1)
    (p : Record) (at : slice_get (reverse records) h ≡ Some p) where
  at_height : spot.frame ≡ suc h
  at_height = omega (arith, height)

  pub turn_no_frame : p.kind ≢ KIND_GROUP_OPEN → p.kind ≢ KIND_TURN_OPEN → p.kind ≢ KIND_TURN_OR_EXIT
      → p.kind ≢ KIND_ATOMIC_OPEN → p.kind ≢ KIND_LOOK_OPEN →
      p.kind ≢ KIND_LOOK_ALL_OPEN → p.kind ≢ KIND_DENIAL_OPEN → p.kind ≢ KIND_LOOK_TEST → p.kind ≢ KIND_DENIAL_TEST
      → p.kind ≢ KIND_CALLED_GROUP → p.kind ≢ KIND_CALL_OPEN
      → Advances c (conf End spot (entries records) caps) (conf Back spot (entries records) caps)
  turn_no_frame o t e y l m d u w x j = turn_stray c ok spot records caps v h at_height p at o t e y l m d u w x j

  module _ (kind : p.kind ≡ KIND_GROUP_OPEN) where
    is_open : entry_of p ≡ GroupOpen (site_of p) (kept_of p)
    is_open = entry_of-group_open p kind

    pub open_sound : IsPart c p.node × IsCapture c (tree_of c p.node)
    open_sound = let g = group_frame c ok spot records caps v h at_height p at (site_of p) (kept_of p) is_open in
        (g.sound.0, g.sound.2)

    module _ (m : ℕ) (t : IsNumber (tree_of c p.node) m) where
      numbered : (x : Nested) → IsNumber x m → (ts : Row) × (tree.group (Some m) ts ≡ x)
      numbered (tree.group (Some n) ts) e = (ts, ap (λ k. tree.group (Some k) ts) (sym e))
      numbered _ e = absurd e

      pub stop_open : c.setting.matching.frame_limit ≤ spot.units
          → tread c.setting spot.left (ahead c (conf End spot (entries records) caps)) ≡ answers FrameLimit
      stop_open full = let z = numbered (tree_of c p.node) t in
          stop_close c ok spot records caps v h at_height p at (site_of p) (kept_of p) is_open m z.0 z.1 full

      pub turn_open : 0 < m → m ≤ c.setting.groups → spot.units < c.setting.matching.frame_limit →
          Advances c (conf End spot (entries records) caps)
          (conf (onward c p.node) (record spot { frame = p.link; units = spot.units + 1 })
          (Undo (record { node = p.node; link = p.link }) m (capture caps m) ∷ entries records)
          (with_capture caps m (Some (record { from = p.place; to = spot.place }))))
      turn_open some few room =
          let z = numbered (tree_of c p.node) t in
          turn_close c ok spot records caps v h at_height p at (site_of p) (kept_of p) is_open m z.0 z.1 some
          (omega (arith, few, v.slots)) room

  module _ (kind : (p.kind ≡ KIND_TURN_OPEN) ⊎ (p.kind ≡ KIND_TURN_OR_EXIT)) where
    pub turn_sound : IsPart c p.node × IsRepeat c (tree_of c p.node)
    turn_sound =
        elim kind [
          | inl k ↦ let g = framed c spot.left (length caps) records caps h p
              (TurnOpen (site_of p) (kept_of p) p.count) (entry_of-turn_open p k) v.records
              (within_frame c _ _ _ at_height v.running.contained) at in (g.sound.0, g.sound.2)
          | inr k ↦ let g = framed c spot.left (length caps) records caps h p
              (TurnOrExit (site_of p) (kept_of p) p.count) (entry_of-turn_or_exit p k) v.records
              (within_frame c _ _ _ at_height v.running.contained) at in (g.sound.0, g.sound.2)
        ]

    module _ (body low : ℕ) (high : Option ℕ) (lazily : Bool)
        (t : tree.repeat (tree_of c body) low high lazily ≡ tree_of c p.node) where
      pub turn_ended : took_nothing low high p.count p.place spot.place ≡ true →
          Advances c (conf End spot (entries records) caps)
          (conf (onward c p.node) (record spot { frame = p.link }) (entries records) caps)
      turn_ended e =
          elim kind [
            | inl k ↦ turn_over c ok spot records caps v h at_height p at (site_of p) (kept_of p) p.count body low
                high lazily t (TurnOpen (site_of p) (kept_of p) p.count) (entry_of-turn_open p k) refl
                (λ a z x out. refl) (λ a. refl) (λ below s. (s.0, s.1.inside, s.2)) e
            | inr k ↦ turn_over c ok spot records caps v h at_height p at (site_of p) (kept_of p) p.count body low
                high lazily t (TurnOrExit (site_of p) (kept_of p) p.count) (entry_of-turn_or_exit p k) refl
                (λ a z x out. refl) (λ a. refl) (λ below s. (s.0, s.1.inside, s.2)) e
          ]

      pub turn_goes_on : (j : ℕ) → j ≡ suc p.count → took_nothing low high p.count p.place spot.place ≡ false →
          Advances c (conf End spot (entries records) caps)
          (conf (Offer p.node j) (record spot { frame = p.link }) (entries records) caps)
      turn_goes_on j same e =
          elim kind [
            | inl k ↦ turn_again c ok spot records caps v h at_height p at (site_of p) (kept_of p) p.count body low
                high lazily t (TurnOpen (site_of p) (kept_of p) p.count) (entry_of-turn_open p k) refl
                (λ a z x out. refl) (λ a. refl) (λ below s. (s.0, s.1.inside, s.2)) j same e
            | inr k ↦ turn_again c ok spot records caps v h at_height p at (site_of p) (kept_of p) p.count body low
                high lazily t (TurnOrExit (site_of p) (kept_of p) p.count) (entry_of-turn_or_exit p k) refl
                (λ a z x out. refl) (λ a. refl) (λ below s. (s.0, s.1.inside, s.2)) j same e
          ]

      pub count_few : suc p.count ≤ 4294967295
      count_few =
          elim kind [
            | inl k ↦ let z = turns_few c ok spot records caps v h at_height p at (site_of p) (kept_of p) p.count body
                low high lazily t (TurnOpen (site_of p) (kept_of p) p.count) (entry_of-turn_open p k) refl
                (λ a z x out. refl) (λ a. refl) (λ below s. (s.0, s.1.inside, s.2)) in omega (arith, z, ok.few)
            | inr k ↦ let z = turns_few c ok spot records caps v h at_height p at (site_of p) (kept_of p) p.count body
                low high lazily t (TurnOrExit (site_of p) (kept_of p) p.count) (entry_of-turn_or_exit p k) refl
                (λ a z x out. refl) (λ a. refl) (λ below s. (s.0, s.1.inside, s.2)) in omega (arith, z, ok.few)
          ]

-- what is admitted is an answer
admitted_as : (a b : Bool) (x : PlaceAnswer) → not a && not b ≡ true
    → elim a [ true ↦ None | false ↦ elim b [ false ↦ Some x | true ↦ None ] ] ≡ Some x
admitted_as true b x e = absurd (false≢true e)
admitted_as false true x e = absurd (false≢true e)
admitted_as false false x e = refl

refused_as : (a b : Bool) (x : PlaceAnswer) → not a && not b ≡ false
    → ◌≡◌ {A = Option PlaceAnswer} (elim a [ true ↦ None | false ↦ elim b [ false ↦ Some x | true ↦ None ] ]) None
refused_as true b x e = refl
refused_as false true x e = refl
refused_as false false x e = absurd (false≢true (sym e))

pub admits : (g : Setting) (s : State) → admitted g s.keep s.place ≡ true
    → decision g reached s ≡ Some (Matched (outcome s))
admits g s e = admitted_as _ _ (Matched (outcome s)) e

pub refuses : (g : Setting) (s : State) → admitted g s.keep s.place ≡ false → decision g reached s ≡ None
refuses g s e = refused_as _ _ (Matched (outcome s)) e
