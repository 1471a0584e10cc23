-- The steps of the machine at a call.
use Rattle.std.proofs.Common.{◌≡◌, ℕ, suc, ◌+◌, ◌-◌, ◌<◌, ◌≤◌, ◌∙◌, Bool, true, false, List, [], ◌∷◌, map, Option}
use Rattle.std.proofs.Common.{Some, None, length, All, refl, sym, ap, subst, arith}
use Rattle.std.proofs.lemmas.List.Elements.{All-cons, All-head}
use Rattle.pat_tree.specs.declared.nodes.Node.{Node}
use Rattle.pat_tree.specs.declared.nodes.Node.TheVariants as node
use Rattle.pat_tree.specs.Nested as tree
use Rattle.pat_tree.specs.Nested.{Nested, row, nest, tree_at}
use Rattle.pat_tree.specs.Groups.{group_of}
use Rattle.frame_store.specs.Captures.{Captures}
use Rattle.frame_store.specs.Entry.{Entry, CalledGroup}
use Rattle.ordered_search.specs.Stream.{State, loop, by_halt}
use Rattle.ordered_search.specs.Parts.{is_active}
use Rattle.ordered_search.specs.PlaceAnswer.{answers, MatchLimit, FrameLimit, Loop}
use Rattle.ordered_search.specs.Moves.{Moves, stops, pause, stepped, holding, tread, size, Follow, Handler, Path}
use Rattle.ordered_search.specs.Paths.{returned, called_path, call_path, paths, path, branch_paths, close}
use Rattle.ordered_search.proofs.Same.{holding_same}
use Rattle.frame_state.specs.declared.machine.Next.TheVariants.{Enter, Back}
use Rattle.frame_state.specs.declared.machine.Spot.{Spot}
use Rattle.frame_state.specs.Ground.{Ground, tree_of, IsNode, IsGround, IsPart}
use Rattle.frame_state.specs.Machine.{Around, Outside, heard, kept_at, conf, Conf, first_next, row_length, state_at}
use Rattle.frame_state.specs.Stops.{told, tells}
use Rattle.frame_state.specs.Begun.{is_behind}
use Rattle.frame_state.specs.Frames.{past, beyond_by, close_from, frame_around, around, around_at, outside}
use Rattle.frame_state.specs.Frames.{hand, fail, spot_state, ahead, caught}
use Rattle.frame_state.specs.Branches.{IsBranched}
use Rattle.frame_state.specs.Validity.{IsCapture, StandsAt, IsRunning, IsValid, Advances, IsLater, IsSound}
use Rattle.frame_state.specs.Calls.{AreWithin, calls_at, EndsAlone, IsCallee, call_entry, call_spot, called_ahead}
use Rattle.frame_state.specs.Calls.{IsCalling, GoesOn}
use Rattle.frame_state.proofs.KidParts.{kid_parts}
use Rattle.frame_state.proofs.PartPaths.{enter_call, branched_group, part_paths, row_deep, first_here}
use Rattle.frame_state.proofs.PartPaths.{branches_by}
use Rattle.frame_state.proofs.Frames.{around_here, heard_push, cont_here, caught_through, focus_framed, inside_of}
use Rattle.frame_state.proofs.Frames.{sound_less, hand_fresh, fresh_sound, hand_frame, later_more, later_none}
use Rattle.frame_state.proofs.Frames.{contained_none}
use Rattle.frame_state.proofs.Advance.{holding_room, holding_full, over_steps, over_units, over_units_step}
use Rattle.frame_state.proofs.Turns.{deep, alone, agreed_frame}
use Rattle.frame_state.proofs.CallFrames.{around_calls}
use Rattle.frame_state.proofs.PartPaths.{past_end}
use Rattle.frame_state.specs.Ground.{settles_by}
use Rattle.std.proofs.lemmas.Bool.{false≢true}

-- a call is entered
module _ (c : Ground) (ok : IsGround c) (q m : ℕ) (spot : Spot) (stack : List Entry) (caps : Captures)
    (v : IsValid c (conf (Enter q) spot stack caps)) (i : IsNode c q (node.Call m)) where
  abbrev here : Around
  here = around_at c stack spot.frame spot.passed

  abbrev s : State
  s = spot_state c spot stack caps

  abbrev f : Moves
  f = fail c stack caps

  abbrev K : Follow
  K = past c here.depth (outside c stack caps spot.frame) q

  abbrev inner : State → Moves
  inner t =
      called_path (group_of c.setting.whole m) (paths c.setting (here.depth - 1))
      (record t { calls = (m, s.place) ∷ s.calls })
      (returned c.setting s K) (pause f) (λ w. pause f)

  calling : ahead c (conf (Enter q) spot stack caps)
      ≡ stepped (elim (is_active m s.place s.calls) [
        | true ↦ stops (by_halt loop)
        | false ↦
            holding c.setting 1 s inner
      ])
  unfolding call_path
  calling = enter_call c ok q (node.Call m) i _ _ _ _ _ (deep c ok q spot stack caps v (node.Call m) i) m refl

  calls_as : (b : Bool) → is_active m spot.place (calls_at stack spot.frame) ≡ b → is_active m s.place s.calls ≡ b
  calls_as b e = ap (is_active m spot.place) (around_calls c stack spot.frame) ∙ e

  pub stop_call_steps : spot.left ≡ 0 → tread c.setting spot.left (ahead c (conf (Enter q) spot stack caps)) ≡ answers
      MatchLimit
  stop_call_steps out = over_steps c spot.left _ _ calling out

  pub stop_call_loop : 0 < spot.left → is_active m spot.place (calls_at stack spot.frame) ≡ true
      → tread c.setting spot.left (ahead c (conf (Enter q) spot stack caps)) ≡ answers Loop
  unfolding tread
  stop_call_loop some active =
      let one : spot.left ≡ suc (spot.left - 1) = omega (arith, some) in
      ap (tread c.setting spot.left) calling
      ∙ ap (λ (b : Bool). tread c.setting spot.left
      (stepped (elim b [ true ↦ stops (by_halt loop) | false ↦ holding c.setting 1 s inner ])))
      (calls_as true active)
      ∙ ap (λ l. tread c.setting l (stepped (stops (by_halt loop)))) one

  module _ (some : 0 < spot.left) (idle : is_active m spot.place (calls_at stack spot.frame) ≡ false) where
    opening : ahead c (conf (Enter q) spot stack caps) ≡ stepped (holding c.setting 1 s inner)
    opening = calling
        ∙ ap (λ (b : Bool). stepped (elim b [ true ↦ stops (by_halt loop) | false ↦ holding c.setting 1 s inner ]))
        (calls_as false idle)

    pub stop_call_units : c.setting.matching.frame_limit ≤ spot.units
        → tread c.setting spot.left (ahead c (conf (Enter q) spot stack caps)) ≡ answers FrameLimit
    stop_call_units full = over_units_step c spot.left _ _ opening (holding_full c.setting _ _ full) some

    -- the call is open
    module _ (last : ℕ) (place : spot.place ≤ last) (within : AreWithin last (calls_at stack spot.frame))
        (room : spot.units < c.setting.matching.frame_limit) where
      abbrev event : Entry
      event = call_entry spot q m last

      abbrev to : Spot
      to = call_spot spot (length stack)

      abbrev deeper : Around
      deeper = frame_around event here

      in_call : around_at c (event ∷ stack) (suc (length stack)) spot.passed ≡ deeper
      in_call =
          ap (λ (a : Around). record a { passed = heard (event ∷ stack) spot.passed })
          (around_here c event stack _ refl)
          ∙ ap (λ (names : List (ℕ × ℕ)). record (frame_around event (around c stack spot.frame)) { passed = names })
          (heard_push c event stack spot.passed v.running.1.marked)

      opened : ahead c (conf (Enter q) spot stack caps) ≡ stepped (inner (record s { units = spot.units + 1 }))
      opened = opening ∙ ap stepped (holding_room c.setting _ _ room)

      pub call_open : IsCalling c to (event ∷ stack) caps
      call_open =
          let w = v.running.1 in
          record {
            standing = record {
              inside = omega arith;
              deep = omega (arith, w.deep, some, ap (λ (a : Around). a.depth) in_call);
              counted = omega (arith, w.counted);
              few = omega (arith, room);
              here = w.here;
              marked = omega (arith, w.marked);
              contained = contained_none c (suc (length stack)) (event ∷ stack) (omega arith);
            };
            records = (
              (
                v.running.0,
                record {
                  inside = w.inside;
                  deep = omega (arith, w.deep);
                  counted = w.counted;
                  few = w.few;
                  here = w.here;
                  marked = w.marked;
                  contained = w.contained;
                },
                All-cons (λ (x : ℕ × ℕ). x.1 ≤ last) (m, spot.place) here.calls place
                    (subst (λ (xs : List (ℕ × ℕ)). AreWithin last xs) (sym (around_calls c stack spot.frame)) within),
                v.running.2,
              ),
              sound_less c spot.left (spot.left - 1) (length caps) stack (omega arith) v.records,
            );
            spans = v.spans;
            slots = v.slots;
            fresh = refl;
          }

      -- there is no such group
      pub turn_call_none : group_of c.setting.whole m ≡ None
          → Advances c (conf (Enter q) spot stack caps) (conf Back to (event ∷ stack) caps)
      unfolding fail tread size
      turn_call_none none =
          let e : ahead c (conf (Enter q) spot stack caps) ≡ stepped (pause f) =
          opened ∙ ap (λ (o : Option Nested). stepped
          (called_path o (paths c.setting (here.depth - 1)) (record s {
            units = spot.units + 1;
            calls = (m, s.place) ∷ s.calls;
          }) (returned c.setting s K) (pause f) (λ w. pause f))) none in
          let one : spot.left ≡ suc (spot.left - 1) = omega (arith, some) in
          record {
            answer = ap (told spot.last) (ap (tread c.setting spot.left) e
                ∙ ap (λ l. tread c.setting l (stepped (pause f))) one);
            shorter = omega (arith, ap size e);
            valid = record {
              running = tt;
              records = call_open.records;
              spans = call_open.spans;
              slots = call_open.slots;
            };
          }

      -- the part that is called is run
      module _ (p : ℕ) (is : group_of c.setting.whole m ≡ Some (tree_of c p)) (callee : IsCallee c p) where
        abbrev inside_state : State
        inside_state = record s { units = spot.units + 1; calls = (m, s.place) ∷ s.calls }

        -- what verbs in the call lead to
        abbrev given_up : Handler
        given_up = hand c (event ∷ stack) caps (suc (length stack)) p

        called_in : called_ahead c p to (event ∷ stack) caps
            ≡ paths c.setting (here.depth - 1) (tree_of c p) inside_state (returned c.setting s K) (pause f)
            (λ w. pause f)
        unfolding fail
        called_in =
            ap (λ (a : Around). paths c.setting a.depth (tree_of c p) (state_at a (kept_at to) caps)
            (outside c (event ∷ stack) caps (suc (length stack))).follow (fail c (event ∷ stack) caps) given_up)
            in_call
            ∙ ap (λ (k : Follow). paths c.setting deeper.depth (tree_of c p) (state_at deeper (kept_at to) caps) k
            (fail c (event ∷ stack) caps) given_up)
            (cont_here c event stack caps _ refl)
            ∙ ap (λ (h : Handler). paths c.setting deeper.depth (tree_of c p) inside_state (returned c.setting s K)
            (pause f) h) (sym (hand_fresh c event stack caps p refl refl
            (fresh_sound c (spot.left - 1) (length caps) (suc (length stack)) (event ∷ stack)
            call_open.records (omega arith))))

        called_is : called_ahead c p to (event ∷ stack) caps ≡ inner (record s { units = spot.units + 1 })
        called_is =
            called_in
            ∙ ap (λ (o : Option Nested). called_path o (paths c.setting (here.depth - 1)) inside_state
            (returned c.setting s K) (pause f) (λ w. pause f)) (sym is)

        pub turn_called : (n : Conf) → GoesOn c to (called_ahead c p to (event ∷ stack) caps) n
            → Advances c (conf (Enter q) spot stack caps) n
        unfolding tread size
        turn_called n g =
            let e : ahead c (conf (Enter q) spot stack caps) ≡ stepped (called_ahead c p to (event ∷ stack) caps) =
            opened ∙ ap stepped (sym called_is) in
            let one : spot.left ≡ suc (spot.left - 1) = omega (arith, some) in
            record {
              answer =
                  ap (told spot.last)
                  (ap (tread c.setting spot.left) e
                  ∙ ap (λ l. tread c.setting l (stepped (called_ahead c p to (event ∷ stack) caps))) one)
                  ∙ g.answer;
              shorter = omega (arith, ap size e, g.shorter);
              valid = g.valid;
            }

        pub stop_called : tread c.setting spot.left (ahead c (conf (Enter q) spot stack caps)) ≡ tread c.setting
            (spot.left - 1) (called_ahead c p to (event ∷ stack) caps)
        unfolding tread
        stop_called =
            let one : spot.left ≡ suc (spot.left - 1) = omega (arith, some) in
            ap (tread c.setting spot.left) (opened ∙ ap stepped (sym called_is))
            ∙ ap (λ l. tread c.setting l (stepped (called_ahead c p to (event ∷ stack) caps))) one

-- where the branches of a part begin that doesn't look back
running_first : (c : Ground) (p : ℕ) (ks : List ℕ) → IsPart c p → All (IsPart c) ks → IsBranched c p ks
    → is_behind (tree_of c p) ≡ false → (spot : Spot) (stack : List Entry) →
    StandsAt c spot stack (around c stack spot.frame).depth → IsLater c spot.frame p stack
    → IsRunning c spot stack (first_next p ks)
running_first c p [] inside parts b plain spot stack w l = tt
running_first c p (x ∷ []) inside parts b plain spot stack w l =
    let lt : c.rank p < c.rank x = All-head (λ k. c.rank p < c.rank k) x [] b.behind in
    (All-head (IsPart c) x [] parts, w, later_more c spot.frame p x stack (omega (arith, lt)) l)
running_first c p (x ∷ y ∷ ps) inside parts b plain spot stack w l = (
  inside,
  w,
  (
    (
      subst (λ r. 0 < row_length r) (sym b.rows) (omega arith),
      subst (λ r. 1 < row_length r) (sym b.rows) (omega arith),
    ),
    λ back. absurd (false≢true (sym plain ∙ back)),
  ),
  l,
)

-- the part that is called
module _ (c : Ground) (ok : IsGround c) (p : ℕ) (spot : Spot) (stack : List Entry) (caps : Captures)
    (w : IsCalling c spot stack caps) (callee : IsCallee c p) where
  abbrev around_it : Around
  around_it = around c stack spot.frame

  abbrev k : Outside
  k = outside c stack caps spot.frame

  abbrev u : State
  u = spot_state c spot stack caps

  abbrev lower : Moves
  lower = fail c stack caps

  -- what verbs in it lead to
  abbrev h0 : Handler
  h0 = k.hand p

  level_deep : around_it.depth ≡ suc (around_it.depth - 1)
  level_deep = omega (arith, w.standing.deep)

  -- a capturing group
  module _ (m : ℕ) (ks : List ℕ) (i : IsNode c p (node.Group (Some m) ks)) where
    is_group : tree.group (Some m) (row (map (tree_at c.trees) ks)) ≡ tree_of c p
    is_group = i.is

    abbrev close_it : Follow
    close_it = close_from c (tree_of c p) u.place k.follow

    group_ahead : called_ahead c p spot stack caps
        ≡ pause (holding c.setting 1 u (λ t. branch_paths c.setting (part_paths c around_it.depth ks) t close_it
        (pause lower) h0))
    unfolding path paths
    group_ahead =
        let e : ℕ = around_it.depth - 1 in
        let closes : (λ how t x. close c.setting m u.place how t k.follow x) ≡ close_it =
        ap (λ z. close_from c z u.place k.follow) is_group in
        ap (λ x. paths c.setting x (tree_of c p) u k.follow lower h0) level_deep
        ∙ ap (λ z. paths c.setting (suc e) z u k.follow lower h0) (sym is_group)
        ∙ ap pause
        (holding_same c.setting 1 u _ _
        (λ t.
        ap (λ (xs : List Path). branch_paths c.setting xs t (λ how v x. close c.setting m u.place how v k.follow x)
        (pause lower) h0) (row_deep c around_it.depth e ks level_deep)
        ∙ ap (λ (z : Follow). branch_paths c.setting (part_paths c around_it.depth ks) t z (pause lower) h0) closes))

    pub stop_group : c.setting.matching.frame_limit ≤ spot.units
        → tread c.setting spot.left (called_ahead c p spot stack caps) ≡ answers FrameLimit
    stop_group full = over_units c spot.left _ _ group_ahead (holding_full c.setting _ _ full)

    abbrev group_entry : Entry
    group_entry = CalledGroup (record { node = p; link = spot.frame }) (kept_at spot)

    abbrev group_spot : Spot
    group_spot = record spot { frame = suc (length stack); units = spot.units + 1 }

    group_hand : h0 ≡ caught c (group_entry ∷ stack) caps (suc (length stack))
    group_hand = caught_through c group_entry stack caps refl refl

    branches_ahead : ahead c (conf (first_next p ks) group_spot (group_entry ∷ stack) caps)
        ≡ branch_paths c.setting (part_paths c around_it.depth ks) (record u { units = spot.units + 1 }) close_it
        (pause lower) h0
    unfolding fail
    branches_ahead =
        let inner : Outside = inside_of c group_entry stack caps in
        let now : State = record u { units = spot.units + 1 } in
        focus_framed c group_entry stack caps (first_next p ks) spot.passed (kept_at group_spot) caps
        (fail c (group_entry ∷ stack) caps) w.standing.marked
        ∙ first_here c p around_it.depth ks (branched_group c p (node.Group (Some m) ks) i (Some m) ks refl) inner h0
        (alone c (group_entry ∷ stack) caps (suc (length stack)) inner.follow spot.place ks None h0
        (branches_by c p (node.Group (Some m) ks) i (node.Group (Some m) ks) refl)
        (λ x none. hand_frame c (group_entry ∷ stack) caps (suc (length stack)) x none ∙ sym group_hand))
        (agreed_frame c (group_entry ∷ stack) caps (suc (length stack)) p h0 group_hand) now (pause lower)
        (ap is_behind (sym is_group))
        ∙ ap (λ (z : Follow). branch_paths c.setting (part_paths c around_it.depth ks) now z (pause lower) h0)
        (ap (λ x. beyond_by c x around_it.depth inner p) (sym is_group))

    -- none of the call's own records stands yet
    group_later : IsLater c spot.frame p stack
    group_later = later_none c spot.left (length caps) spot.frame p stack w.records (omega (arith, w.fresh))

    group_sound : IsSound c spot.left (length caps) stack group_entry
    group_sound = (callee.inside, w.standing, subst (IsCapture c) is_group tt, group_later)

    pub turn_called_group : spot.units < c.setting.matching.frame_limit
        → GoesOn c spot (called_ahead c p spot stack caps)
        (conf (first_next p ks) group_spot (group_entry ∷ stack) caps)
    unfolding tread size
    turn_called_group room =
        let s = w.standing in
        let e : called_ahead c p spot stack caps ≡ pause
        (branch_paths c.setting (part_paths c around_it.depth ks) (record u { units = spot.units + 1 }) close_it
        (pause lower) h0) =
        group_ahead ∙ ap pause (holding_room c.setting _ _ room) in
        record {
          answer = ap (tells c.setting spot) e ∙ sym (ap (tells c.setting spot) branches_ahead);
          shorter = omega (arith, ap size e, ap size branches_ahead);
          valid = record {
            running =
                running_first c p ks callee.inside (kid_parts c p (node.Group (Some m) ks) callee.inside i)
                (branched_group c p (node.Group (Some m) ks) i (Some m) ks refl) (ap is_behind (sym is_group))
                group_spot (group_entry ∷ stack)
                (record {
                  inside = omega arith;
                  deep = omega (arith, s.deep, ap (λ (a : Around). a.depth) (around_here c group_entry stack _ refl));
                  counted = omega (arith, s.counted);
                  few = omega (arith, room);
                  here = s.here;
                  marked = omega (arith, s.marked);
                  contained = contained_none c (suc (length stack)) (group_entry ∷ stack) (omega arith);
                })
                (later_none c spot.left (length caps) (suc (length stack)) p (group_entry ∷ stack)
                (group_sound, w.records) (omega arith));
            records = (group_sound, w.records);
            spans = w.spans;
            slots = w.slots;
          };
        }

  -- nothing follows any other
  alone_rest : (n : Node) → ((m : ℕ) (ks : List ℕ) → n ≡ node.Group (Some m) ks → ⊥) → EndsAlone c p (nest c.trees n)
      → (c.rest p ≡ []) × (c.look_branch p ≡ None)
  alone_rest (node.Group (Some m) ks) stray h = absurd (stray m ks refl)
  alone_rest (node.Group None ks) stray h = h
  alone_rest _ stray h = h

  pub turn_called_whole : (n : Node) → IsNode c p n → ((m : ℕ) (ks : List ℕ) → n ≡ node.Group (Some m) ks → ⊥)
      → GoesOn c spot (called_ahead c p spot stack caps) (conf (Enter p) spot stack caps)
  turn_called_whole n i stray =
      let none = alone_rest n stray (subst (EndsAlone c p) (sym i.is) callee.alone) in
      let same : k.follow ≡ past c around_it.depth k p =
      sym (past_end c p none.0 false (ap (settles_by c) none.1) around_it.depth k) in
      let e : called_ahead c p spot stack caps ≡ ahead c (conf (Enter p) spot stack caps) =
      ap (λ (z : Follow). paths c.setting around_it.depth (tree_of c p) u z lower h0) same in
      record {
        answer = ap (tells c.setting spot) e;
        shorter = omega (arith, ap size e);
        valid = record {
          running = (
            callee.inside,
            w.standing,
            later_none c spot.left (length caps) spot.frame p stack w.records (omega (arith, w.fresh)),
          );
          records = w.records;
          spans = w.spans;
          slots = w.slots;
        };
      }

  pub turn_called_group_of : (number : Option ℕ) (ks : List ℕ) → IsNode c p (node.Group number ks) → (m : ℕ)
      → number ≡ Some m → spot.units < c.setting.matching.frame_limit →
      GoesOn c spot (called_ahead c p spot stack caps)
      (conf (first_next p ks) (record spot { frame = suc (length stack); units = spot.units + 1 })
      (CalledGroup (record { node = p; link = spot.frame }) (kept_at spot) ∷ stack) caps)
  turn_called_group_of number ks i m is room = turn_called_group m ks (subst (λ x. IsNode c p (node.Group x ks)) is i)
      room

  pub stop_group_of : (number : Option ℕ) (ks : List ℕ) → IsNode c p (node.Group number ks) → (m : ℕ)
      → number ≡ Some m → c.setting.matching.frame_limit ≤ spot.units →
      tread c.setting spot.left (called_ahead c p spot stack caps) ≡ answers FrameLimit
  stop_group_of number ks i m is full = stop_group m ks (subst (λ x. IsNode c p (node.Group x ks)) is i) full

-- a group without a number
pub stray_group : (number : Option ℕ) (xs : List ℕ) → ((m : ℕ) → number ≡ Some m → ⊥) → (m : ℕ) (ks : List ℕ)
    → node.Group number xs ≡ node.Group (Some m) ks → ⊥
stray_group None xs stray m ks e = cc
stray_group (Some k) xs stray m ks e = stray k refl
