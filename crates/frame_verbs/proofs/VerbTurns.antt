-- The steps of the machine at a verb.
use Rattle.std.proofs.Common.{subst, ◌≡◌, ◌≢◌, ℕ, suc, ◌+◌, ◌-◌, ◌<◌, ◌≤◌, ◌∙◌, Bool, ◌||◌, List, [], ◌∷◌, All}
use Rattle.std.proofs.Common.{Option, Some, None, length, refl, sym, ap, arith}
use Rattle.std.specs.Prelude.{IfSome}
use Rattle.std.proofs.lemmas.List.Elements.{All-head, All-nil}
use Rattle.std.specs.Option.{option_or}
use Rattle.pat_tree.specs.Rules.{number_in}
use Rattle.pat_tree.specs.declared.nodes.Node.TheVariants as node
use Rattle.pat_tree.specs.declared.nodes.Verb.{Verb}
use Rattle.pat_tree.specs.declared.nodes.Verb.TheVariants as verb
use Rattle.frame_store.specs.Captures.{Captures}
use Rattle.frame_store.specs.declared.records.Record.{Record}
use Rattle.frame_store.specs.declared.kinds.TheConstants.{KIND_MARK_PASSED, KIND_COMMIT_PASSED, KIND_PRUNE_PASSED}
use Rattle.frame_store.specs.declared.kinds.TheConstants.{KIND_SKIP_PASSED, KIND_THEN_PASSED}
use Rattle.frame_store.specs.Entry.{Site, Kept, Entry, CommitPassed, PrunePassed, SkipPassed, ThenPassed, entry_site}
use Rattle.frame_store.specs.Entry.{entry_in, entry_of, entries}
use Rattle.frame_store.specs.Undo.{taken_back}
use Rattle.ordered_search.specs.Stream.{State, next_branch, prune, skip, commit, name, reached, accepted}
use Rattle.ordered_search.specs.PlaceAnswer.{Walked, with_note, answers, FrameLimit, last_name, has_hit, blocks}
use Rattle.ordered_search.specs.Moves.{Moves, pause, noted, Follow, holding, tread, size}
use Rattle.ordered_search.specs.Paths.{verb_path}
use Rattle.frame_state.specs.declared.machine.Next.{Next}
use Rattle.frame_state.specs.declared.machine.Next.TheVariants.{Enter, End, Back, Accept}
use Rattle.frame_state.specs.declared.machine.Met.{Met}
use Rattle.frame_state.specs.declared.machine.Spot.{Spot}
use Rattle.frame_state.specs.declared.machine.Stop.{Stop}
use Rattle.frame_state.specs.declared.machine.Stop.TheVariants as stop
use Rattle.frame_state.specs.Ground.{Ground, BeginsBy, IsNode, IsGround}
use Rattle.frame_state.specs.Machine.{Around, Conf, conf, kept_at, state_at, mark_of, link_of, onward}
use Rattle.frame_state.specs.Frames.{past, around, around_at, outside, hand, fail, focus, spot_state, ahead, parts_of}
use Rattle.frame_state.specs.Validity.{IsContained, IsLater, IsStanding, IsSound, IsRunning, IsValid, Advances}
use Rattle.frame_state.specs.Stops.{Told, told, tells, IsStop, IsHeldStop, held_spot, record_at}
use Rattle.frame_verbs.specs.Acting.{Leaves, IsActing}
use Rattle.frame_verbs.specs.Names.{met, named_last, named_entry, named_spot}
use Rattle.frame_state.proofs.PartPaths.{enter_verb, past_accepted}
use Rattle.frame_state.proofs.Frames.{around_push, focus_kept, focus_named, focus_towards, running_towards}
use Rattle.frame_state.proofs.Frames.{begun_towards, later_push, contained_push}
use Rattle.frame_state.proofs.Advance.{holding_room, holding_full, advance_pause, over_units, goes_back}
use Rattle.frame_state.proofs.Turns.{deep}

-- A name that is told is the last one.

or_or : (o : Option ℕ) (n : ℕ) (old : Option ℕ) → option_or (option_or o (Some n)) old ≡ option_or o (Some n)
or_or None n old = refl
or_or (Some m) n old = refl

mark_one : (n : ℕ) → mark_of (n + 1) ≡ Some n
mark_one n = let one : n + 1 ≡ suc n = omega arith in ap mark_of one

telling : Walked → Bool → Option ℕ → Told
telling w hit o = record { answer = w.answer; last = o; hit = has_hit w.notes || hit; blocks = blocks w.notes }

told_name : (old : Met) (n : ℕ) (w : Walked) → told old (with_note (name n) w) ≡ told (record old { name = n + 1 }) w
unfolding told telling
told_name old n w =
    ap (telling w old.hit) (or_or (last_name w.notes) n (mark_of old.name)
    ∙ ap (option_or (last_name w.notes)) (sym (mark_one n)))

less_one : (n : ℕ) → n + 1 - 1 ≡ n
less_one n = omega arith

none_some : (n : ℕ) → None ≡ Some n → ⊥
none_some n e = cc

pub none_of : (o : Option ℕ) → ((n : ℕ) → o ≢ Some n) → o ≡ None
none_of None h = refl
none_of (Some n) h = absurd (h n refl)

-- the record of a name
pub unnamed_pushed : (spot : Spot) (q : ℕ) (o : Option ℕ) → ((n : ℕ) → o ≢ Some n) → (records : List Record) →
    entries (record_at spot KIND_MARK_PASSED q 0 0 0 ∷ records) ≡ named_entry spot q o ∷ entries records
unfolding entry_in
unnamed_pushed spot q o none records = ap (λ x. named_entry spot q x ∷ entries records) (sym (none_of o none))

pub named_pushed : (spot : Spot) (q : ℕ) (o : Option ℕ) (n : ℕ) → o ≡ Some n → (records : List Record) →
    entries (record_at (record spot { mark = n + 1; last = record spot.last { name = n + 1 } }) KIND_MARK_PASSED q 0 0
    0 ∷ records) ≡ named_entry spot q o ∷ entries records
unfolding entry_in
named_pushed spot q o n e records = ap (λ x. named_entry spot q x ∷ entries records) (sym e)

pub name_few : (o : Option ℕ) → All (λ k. k < 4294967295) (number_in o) → IfSome o (λ n. n < 4294967295)
name_few None a = tt
name_few (Some n) a = All-head (λ k. k < 4294967295) n [] a

module _ (c : Ground) where
  advance_named : (m n : Conf) (k : ℕ) (z : Moves) → ahead c m ≡ pause (noted (name k) z) → ahead c n ≡ z
      → n.spot.left ≡ m.spot.left → n.spot.last ≡ record m.spot.last { name = k + 1 } → IsValid c n → Advances c m n
  unfolding tread size
  advance_named m n k z e w same met v = record {
    answer =
        ap (tells c.setting m.spot) e
        ∙ told_name m.spot.last k (tread c.setting m.spot.left z)
        ∙ ap (λ (l : Met). told l (tread c.setting m.spot.left z)) (sym met)
        ∙ ap (λ l. told n.spot.last (tread c.setting l z)) (sym same)
        ∙ sym (ap (tells c.setting n.spot) w);
    shorter = omega (arith, ap size e, ap size w);
    valid = v;
  }

  -- no unit is left after a name
  over_named : (left : ℕ) (old : Met) (k : ℕ) (x z : Moves) → x ≡ pause (noted (name k) z)
      → tread c.setting left z ≡ answers FrameLimit →
      told old (tread c.setting left x) ≡ told (record old { name = k + 1 }) (answers FrameLimit)
  unfolding tread
  over_named left old k x z e over =
      ap (λ (y : Moves). told old (tread c.setting left y)) e
      ∙ told_name old k (tread c.setting left z)
      ∙ ap (told (record old { name = k + 1 })) over

-- The machine comes to a verb.

module _ (c : Ground) (ok : IsGround c) (q : ℕ) (spot : Spot) (stack : List Entry) (caps : Captures)
    (v : IsValid c (conf (Enter q) spot stack caps)) where
  abbrev s : State
  s = spot_state c spot stack caps

  abbrev K : Follow
  K = past c (around c stack spot.frame).depth (outside c stack caps spot.frame) q

  abbrev f : Moves
  f = fail c stack caps

  pub at_verb : (x : Verb) → IsNode c q (node.VerbNode x)
      → ahead c (conf (Enter q) spot stack caps) ≡ pause
      (verb_path c.setting x s K f (hand c stack caps spot.frame q))
  at_verb x i = enter_verb c ok q (node.VerbNode x) i _ _ _ _ _ (deep c ok q spot stack caps v (node.VerbNode x) i) x
      refl

  -- a state after a name
  abbrev named_state : Option ℕ → ℕ → State
  named_state mark n = record s { mark = mark; passed = (n, spot.place) ∷ s.passed; units = spot.units + 1 }

  named_same : (n : ℕ) → named_state (mark_of (n + 1)) (n + 1 - 1) ≡ named_state (Some n) n
  named_same n = ap (λ (m : Option ℕ). named_state m (n + 1 - 1)) (mark_one n) ∙ ap (named_state (Some n)) (less_one n)

  -- the path after it stands
  named_standing : (o : Option ℕ) → spot.units < c.setting.matching.frame_limit →
      IsRunning c (named_spot spot (length stack) o) (named_entry spot q o ∷ stack) End
  named_standing None room =
      let w = v.running.1 in
      record {
        inside = omega (arith, w.inside);
        deep = omega (
          arith,
          w.deep,
          ap (λ (a : Around). a.depth)
              (around_push c (named_entry spot q None) stack spot.frame w.inside),
        );
        counted = omega (arith, w.counted);
        few = omega (arith, room);
        here = w.here;
        marked = omega (arith, w.marked);
        contained = contained_push c spot.frame (named_entry spot q None) stack refl w.contained;
      }
  named_standing (Some n) room =
      let w = v.running.1 in
      record {
        inside = omega (arith, w.inside);
        deep = omega (
          arith,
          w.deep,
          ap (λ (a : Around). a.depth)
              (around_push c (named_entry spot q (Some n)) stack spot.frame w.inside),
        );
        counted = omega (arith, w.counted);
        few = omega (arith, room);
        here = w.here;
        marked = omega arith;
        contained = contained_push c spot.frame (named_entry spot q (Some n)) stack refl w.contained;
      }

  -- and its record stands where it is, as the others do
  named_later : (o : Option ℕ) → IsLater c (named_spot spot (length stack) o).frame q (named_entry spot q o ∷ stack)
  named_later None = later_push c spot.frame q (named_entry spot q None) stack (omega arith) v.running.2
  named_later (Some n) = later_push c spot.frame q (named_entry spot q (Some n)) stack (omega arith) v.running.2

  module _ (next : Next) (inside : (o : Option ℕ) → spot.units < c.setting.matching.frame_limit → IsRunning c
      (named_spot spot (length stack) o) (named_entry spot q o ∷ stack) next)
      (by : All (BeginsBy c q) (parts_of c next)) where
    named_valid : (o : Option ℕ) → spot.units < c.setting.matching.frame_limit
        → IsValid c (conf next (named_spot spot (length stack) o) (named_entry spot q o ∷ stack) caps)
    named_valid None room = let w = v.running.1 in record {
      running = inside None room;
      records = ((v.running.0, w, tt, v.running.2), v.records);
      spans = v.spans;
      slots = v.slots;
    }
    named_valid (Some n) room =
        let w = v.running.1 in
        record {
          running = inside (Some n) room;
          records = (
            (
              v.running.0,
              record {
                inside = w.inside;
                deep = w.deep;
                counted = w.counted;
                few = w.few;
                here = w.here;
                marked = w.marked;
                contained = w.contained;
              },
              tt,
              v.running.2,
            ),
            v.records,
          );
          spans = v.spans;
          slots = v.slots;
        }

    -- what goes on after a name
    module _ (goes : State → Moves → Moves) (ends : (u : State) (m : Moves) → focus c next
        (around c stack spot.frame).depth (outside c stack caps spot.frame) u m ≡ goes u m) where
      turn_named : (n : ℕ) → spot.units < c.setting.matching.frame_limit →
          ahead c (conf (Enter q) spot stack caps)
          ≡ pause (noted (name n) (holding c.setting 1 (record s {
            mark = Some n;
            passed = (n, spot.place) ∷ s.passed;
          }) (λ u. goes u (pause f)))) →
          Advances c (conf (Enter q) spot stack caps)
          (conf next (named_spot spot (length stack) (Some n)) (named_entry spot q (Some n) ∷ stack) caps)
      unfolding fail
      turn_named n room e =
          let w = v.running.1 in
          let r : Entry = named_entry spot q (Some n) in
          let to : Spot = named_spot spot (length stack) (Some n) in
          advance_named c _ _ n _
          (e ∙ ap (λ (m : Moves). pause (noted (name n) m)) (holding_room c.setting _ _ room))
          (focus_named c r stack caps next spot.frame (kept_at to) caps (fail c (r ∷ stack) caps) w.inside refl by
          ∙ ends (named_state (mark_of (n + 1)) (n + 1 - 1)) (pause f)
          ∙ ap (λ (u : State). goes u (pause f)) (named_same n))
          refl refl (named_valid (Some n) room)

      turn_unnamed : spot.units < c.setting.matching.frame_limit →
          ahead c (conf (Enter q) spot stack caps) ≡ pause (holding c.setting 1 s (λ u. goes u (pause f))) →
          Advances c (conf (Enter q) spot stack caps)
          (conf next (named_spot spot (length stack) None) (named_entry spot q None ∷ stack) caps)
      unfolding fail
      turn_unnamed room e =
          let w = v.running.1 in
          let r : Entry = named_entry spot q None in
          let to : Spot = named_spot spot (length stack) None in
          advance_pause c _ _ _
          (e ∙ ap pause (holding_room c.setting _ _ room))
          (focus_kept c r stack caps next spot.frame spot.passed (kept_at to) caps (fail c (r ∷ stack) caps) w.inside
          w.marked refl by
          ∙ ends (record s { units = spot.units + 1 }) (pause f))
          refl (named_valid None room)

  -- MARK

  pub turn_mark : (o : Option ℕ) → IsNode c q (node.VerbNode (verb.Mark o))
      → spot.units < c.setting.matching.frame_limit →
      Advances c (conf (Enter q) spot stack caps)
      (conf (onward c q) (named_spot spot (length stack) o) (named_entry spot q o ∷ stack) caps)
  turn_mark None i room =
      turn_unnamed (onward c q) (λ o room'. running_towards c ok q v.running.0
      (named_spot spot (length stack) o) (named_entry spot q o ∷ stack) (named_later o)
      (named_standing o room')) (begun_towards c ok q v.running.0) (K reached)
      (λ u m. focus_towards c ok q v.running.0 _ _ u m) room (at_verb (verb.Mark None) i)
  turn_mark (Some n) i room =
      turn_named (onward c q) (λ o room'. running_towards c ok q v.running.0
      (named_spot spot (length stack) o) (named_entry spot q o ∷ stack) (named_later o)
      (named_standing o room')) (begun_towards c ok q v.running.0) (K reached)
      (λ u m. focus_towards c ok q v.running.0 _ _ u m) n room (at_verb (verb.Mark (Some n)) i)

  pub stop_mark : (o : Option ℕ) → IsNode c q (node.VerbNode (verb.Mark o))
      → c.setting.matching.frame_limit ≤ spot.units →
      tells c.setting spot (ahead c (conf (Enter q) spot stack caps)) ≡ told (named_last spot.last o)
      (answers FrameLimit)
  unfolding tread
  stop_mark None i full = ap (told spot.last)
      (over_units c spot.left _ _ (at_verb (verb.Mark None) i) (holding_full c.setting _ _ full))
  stop_mark (Some n) i full = over_named c spot.left spot.last n _ _ (at_verb (verb.Mark (Some n)) i)
      (ap (tread c.setting spot.left) (holding_full c.setting _ _ full))

  -- ACCEPT

  accepts : (u : State) (m : Moves) → focus c Accept (around c stack spot.frame).depth
      (outside c stack caps spot.frame) u m ≡ K accepted u m
  accepts u m = sym (past_accepted c (around c stack spot.frame).depth (outside c stack caps spot.frame) q u
      m)

  pub turn_accept : IsNode c q (node.VerbNode (verb.Accept None))
      → Advances c (conf (Enter q) spot stack caps) (conf Accept spot stack caps)
  turn_accept i =
      advance_pause c _ _ _ (at_verb (verb.Accept None) i) (accepts s f) refl
      (record { running = v.running.1; records = v.records; spans = v.spans; slots = v.slots })

  pub turn_accept_named : (n : ℕ) → IsNode c q (node.VerbNode (verb.Accept (Some n)))
      → spot.units < c.setting.matching.frame_limit →
      Advances c (conf (Enter q) spot stack caps)
      (conf Accept (named_spot spot (length stack) (Some n)) (named_entry spot q (Some n) ∷ stack) caps)
  turn_accept_named n i room = turn_named Accept named_standing (All-nil (BeginsBy c q)) (K accepted) accepts n room
      (at_verb (verb.Accept (Some n)) i)

  pub stop_accept : (n : ℕ) → IsNode c q (node.VerbNode (verb.Accept (Some n)))
      → c.setting.matching.frame_limit ≤ spot.units →
      tells c.setting spot (ahead c (conf (Enter q) spot stack caps)) ≡ told (record spot.last { name = n + 1 })
      (answers FrameLimit)
  unfolding tread
  stop_accept n i full = over_named c spot.left spot.last n _ _ (at_verb (verb.Accept (Some n)) i)
      (ap (tread c.setting spot.left) (holding_full c.setting _ _ full))

  pub accept_named : (o : Option ℕ) → IsNode c q (node.VerbNode (verb.Accept o)) → (n : ℕ) → o ≡ Some n
      → spot.units < c.setting.matching.frame_limit →
      Advances c (conf (Enter q) spot stack caps)
      (conf Accept (named_spot spot (length stack) o) (named_entry spot q o ∷ stack) caps)
  accept_named None i n e room = absurd (none_some n e)
  accept_named (Some m) i n e room = turn_accept_named m i room

  pub stop_accept_of : (o : Option ℕ) → IsNode c q (node.VerbNode (verb.Accept o)) → (n : ℕ) → o ≡ Some n
      → c.setting.matching.frame_limit ≤ spot.units →
      tells c.setting spot (ahead c (conf (Enter q) spot stack caps)) ≡ told (named_last spot.last o)
      (answers FrameLimit)
  stop_accept_of None i n e full = absurd (none_some n e)
  stop_accept_of (Some m) i n e full = stop_accept m i full

  -- FAIL

  pub turn_fail : IsNode c q (node.VerbNode (verb.Fail None))
      → Advances c (conf (Enter q) spot stack caps) (conf Back spot stack caps)
  turn_fail i = goes_back c _ spot stack caps v.records v.spans v.slots refl (at_verb (verb.Fail None) i)

  pub turn_fail_named : (n : ℕ) → IsNode c q (node.VerbNode (verb.Fail (Some n)))
      → spot.units < c.setting.matching.frame_limit →
      Advances c (conf (Enter q) spot stack caps)
      (conf Back (record spot { last = record spot.last { name = n + 1 } }) stack caps)
  turn_fail_named n i room =
      advance_named c _ _ n _
      (at_verb (verb.Fail (Some n)) i ∙ ap (λ (m : Moves). pause (noted (name n) m))
      (holding_room c.setting _ (λ u. f) room))
      refl refl refl (record { running = tt; records = v.records; spans = v.spans; slots = v.slots })

  pub stop_fail : (n : ℕ) → IsNode c q (node.VerbNode (verb.Fail (Some n)))
      → c.setting.matching.frame_limit ≤ spot.units →
      tells c.setting spot (ahead c (conf (Enter q) spot stack caps)) ≡ told (record spot.last { name = n + 1 })
      (answers FrameLimit)
  unfolding tread
  stop_fail n i full = over_named c spot.left spot.last n _ _ (at_verb (verb.Fail (Some n)) i)
      (ap (tread c.setting spot.left) (holding_full c.setting _ (λ u. f) full))

  -- COMMIT, PRUNE and SKIP

  module _ (r : Entry) (z : Moves) (site_is : entry_site r ≡ record { node = q; link = spot.frame })
      (plain : taken_back r caps ≡ caps) (failing : fail c (r ∷ stack) caps ≡ pause (pause z))
      (sound : IsSound c spot.left (length caps) stack r) where
    at_link : link_of r ≡ spot.frame
    at_link = ap (λ (x : Site). x.link) site_is

    at_node : (entry_site r).node ≡ q
    at_node = ap (λ (x : Site). x.node) site_is

    acting_later : IsLater c spot.frame q (r ∷ stack)
    acting_later = later_push c spot.frame q r stack (omega (arith, ap c.rank at_node)) v.running.2

    acting_begun : All (BeginsBy c (entry_site r).node) (parts_of c (onward c q))
    acting_begun = subst (λ x. All (BeginsBy c x) (parts_of c (onward c q))) (sym at_node)
        (begun_towards c ok q v.running.0)

    acting_standing : (to : Spot) → to.frame ≡ spot.frame → to.left ≡ spot.left → to.place ≡ spot.place
        → to.passed ≡ spot.passed → to.units ≡ spot.units + 1 → spot.units < c.setting.matching.frame_limit →
        IsRunning c to (r ∷ stack) End
    acting_standing to frame left place passed units room =
        let w = v.running.1 in
        record {
          inside = omega (arith, w.inside, frame);
          deep = omega (
            arith,
            w.deep,
            left,
            ap (λ l. (around c (r ∷ stack) l).depth) frame,
            ap (λ (a : Around). a.depth) (around_push c r stack spot.frame w.inside),
          );
          counted = omega (arith, w.counted, units);
          few = omega (arith, room, units);
          here = ap c.stands place ∙ w.here;
          marked = omega (arith, w.marked, passed);
          contained = subst (λ l. IsContained l (r ∷ stack)) (sym frame)
              (contained_push c spot.frame r stack at_link w.contained);
        }

    -- what goes on with the path as it is kept
    acting_ahead : (kept : Kept) → focus c (onward c q) (around c (r ∷ stack) spot.frame).depth
        (outside c (r ∷ stack) caps spot.frame) (state_at (around_at c (r ∷ stack) spot.frame spot.passed) kept caps)
        (fail c (r ∷ stack) caps)
        ≡ K reached (state_at (around_at c stack spot.frame spot.passed) kept caps) (pause (pause z))
    acting_ahead kept =
        let w = v.running.1 in
        let t : State = state_at (around_at c stack spot.frame spot.passed) kept caps in
        focus_kept c r stack caps (onward c q) spot.frame spot.passed kept caps (fail c (r ∷ stack) caps)
        w.inside w.marked at_link acting_begun
        ∙ focus_towards c ok q v.running.0 _ _ _ _
        ∙ ap (λ (x : Captures). past c (around c stack spot.frame).depth (outside c stack x spot.frame) q reached t
        (fail c (r ∷ stack) caps)) plain
        ∙ ap (K reached t) failing

    pub turn_acting : spot.units < c.setting.matching.frame_limit →
        ahead c (conf (Enter q) spot stack caps) ≡ pause (holding c.setting 1 s (λ t. K reached t (pause (pause z)))) →
        Advances c (conf (Enter q) spot stack caps)
        (conf (onward c q) (record spot { units = spot.units + 1 }) (r ∷ stack) caps)
    turn_acting room x =
        let to : Spot = record spot { units = spot.units + 1 } in
        advance_pause c _ _ _
        (x ∙ ap pause (holding_room c.setting _ _ room))
        (acting_ahead (kept_at to)) refl
        (record {
          running = running_towards c ok q v.running.0 to (r ∷ stack) acting_later
              (acting_standing to refl refl refl refl refl room);
          records = (sound, v.records);
          spans = v.spans;
          slots = v.slots;
        })

    turn_acting_named : (n : ℕ) → spot.units < c.setting.matching.frame_limit →
        ahead c (conf (Enter q) spot stack caps) ≡ pause
        (noted (name n) (holding c.setting 1 (record s { mark = Some n }) (λ t. K reached t (pause (pause z))))) →
        Advances c (conf (Enter q) spot stack caps)
        (conf (onward c q) (record spot {
          mark = n + 1;
          last = record spot.last { name = n + 1 };
          units = spot.units + 1;
        }) (r ∷ stack) caps)
    turn_acting_named n room x =
        let to : Spot = record spot {
          mark = n + 1;
          last = record spot.last { name = n + 1 };
          units = spot.units + 1;
        } in
        advance_named c _ _ n _
        (x ∙ ap (λ (m : Moves). pause (noted (name n) m)) (holding_room c.setting _ _ room))
        (acting_ahead (kept_at to)
        ∙ ap (λ (o : Option ℕ). K reached (record s { mark = o; units = spot.units + 1 }) (pause (pause z)))
        (mark_one n))
        refl refl
        (record {
          running = running_towards c ok q v.running.0 to (r ∷ stack) acting_later
              (acting_standing to refl refl refl refl refl room);
          records = (sound, v.records);
          spans = v.spans;
          slots = v.slots;
        })

  abbrev site : Site
  site = record { node = q; link = spot.frame }

  -- the path as it is kept at a name
  met_standing : (n : ℕ) → IsStanding c spot.left spot.frame
      (kept_at (record spot { mark = n + 1; last = record spot.last { name = n + 1 } }))
      (around c stack spot.frame).depth stack
  met_standing n = let w = v.running.1 in record {
    inside = w.inside;
    deep = w.deep;
    counted = w.counted;
    few = w.few;
    here = w.here;
    marked = w.marked;
    contained = w.contained;
  }

  turn_commit : (o : Option ℕ) → IsNode c q (node.VerbNode (verb.Commit o))
      → spot.units < c.setting.matching.frame_limit →
      Advances c (conf (Enter q) spot stack caps)
      (conf (onward c q) (held_spot (met spot o)) (CommitPassed site (kept_at (met spot o)) 0 ∷ stack)
      caps)
  unfolding fail
  turn_commit None i room = turn_acting (CommitPassed site (kept_at spot) 0) (hand c stack caps spot.frame q commit)
      refl refl refl (v.running.0, v.running.1, tt, v.running.2) room (at_verb (verb.Commit None) i)
  turn_commit (Some n) i room =
      turn_acting_named (CommitPassed site (kept_at (met spot (Some n))) 0) (hand c stack caps spot.frame q commit)
      refl refl refl (v.running.0, met_standing n, tt, v.running.2) n room (at_verb (verb.Commit (Some n)) i)

  turn_prune : (o : Option ℕ) → IsNode c q (node.VerbNode (verb.Prune o))
      → spot.units < c.setting.matching.frame_limit →
      Advances c (conf (Enter q) spot stack caps)
      (conf (onward c q) (held_spot (met spot o)) (PrunePassed site (kept_at (met spot o)) 0 ∷ stack)
      caps)
  unfolding fail
  turn_prune None i room = turn_acting (PrunePassed site (kept_at spot) 0) (hand c stack caps spot.frame q prune) refl
      refl refl (v.running.0, v.running.1, tt, v.running.2) room (at_verb (verb.Prune None) i)
  turn_prune (Some n) i room =
      turn_acting_named (PrunePassed site (kept_at (met spot (Some n))) 0) (hand c stack caps spot.frame q prune) refl
      refl refl (v.running.0, met_standing n, tt, v.running.2) n room (at_verb (verb.Prune (Some n)) i)

  turn_then : (o : Option ℕ) → IsNode c q (node.VerbNode (verb.Then o)) → spot.units < c.setting.matching.frame_limit →
      Advances c (conf (Enter q) spot stack caps)
      (conf (onward c q) (held_spot (met spot o)) (ThenPassed site (kept_at (met spot o)) ∷ stack)
      caps)
  unfolding fail
  turn_then None i room = turn_acting (ThenPassed site (kept_at spot)) (hand c stack caps spot.frame q next_branch)
      refl refl refl (v.running.0, v.running.1, tt, v.running.2) room (at_verb (verb.Then None) i)
  turn_then (Some n) i room =
      turn_acting_named (ThenPassed site (kept_at (met spot (Some n)))) (hand c stack caps spot.frame q next_branch)
      refl refl refl (v.running.0, met_standing n, tt, v.running.2) n room (at_verb (verb.Then (Some n)) i)

  turn_skip : IsNode c q (node.VerbNode (verb.Skip None)) → spot.units < c.setting.matching.frame_limit →
      Advances c (conf (Enter q) spot stack caps)
      (conf (onward c q) (held_spot spot) (SkipPassed site (kept_at spot) 0 spot.place ∷ stack) caps)
  unfolding fail
  turn_skip i room = turn_acting (SkipPassed site (kept_at spot) 0 spot.place)
      (hand c stack caps spot.frame q (skip spot.place)) refl refl refl
      (v.running.0, v.running.1, v.running.1.here, v.running.2) room (at_verb (verb.Skip None) i)

  stop_commit : (o : Option ℕ) → IsNode c q (node.VerbNode (verb.Commit o))
      → c.setting.matching.frame_limit ≤ spot.units →
      tells c.setting spot (ahead c (conf (Enter q) spot stack caps)) ≡ told (named_last spot.last o)
      (answers FrameLimit)
  unfolding tread
  stop_commit None i full = ap (told spot.last)
      (over_units c spot.left _ _ (at_verb (verb.Commit None) i) (holding_full c.setting _ _ full))
  stop_commit (Some n) i full = over_named c spot.left spot.last n _ _ (at_verb (verb.Commit (Some n)) i)
      (ap (tread c.setting spot.left) (holding_full c.setting _ _ full))

  stop_prune : (o : Option ℕ) → IsNode c q (node.VerbNode (verb.Prune o))
      → c.setting.matching.frame_limit ≤ spot.units →
      tells c.setting spot (ahead c (conf (Enter q) spot stack caps)) ≡ told (named_last spot.last o)
      (answers FrameLimit)
  unfolding tread
  stop_prune None i full = ap (told spot.last)
      (over_units c spot.left _ _ (at_verb (verb.Prune None) i) (holding_full c.setting _ _ full))
  stop_prune (Some n) i full = over_named c spot.left spot.last n _ _ (at_verb (verb.Prune (Some n)) i)
      (ap (tread c.setting spot.left) (holding_full c.setting _ _ full))

  stop_then : (o : Option ℕ) → IsNode c q (node.VerbNode (verb.Then o)) → c.setting.matching.frame_limit ≤ spot.units →
      tells c.setting spot (ahead c (conf (Enter q) spot stack caps)) ≡ told (named_last spot.last o)
      (answers FrameLimit)
  unfolding tread
  stop_then None i full = ap (told spot.last)
      (over_units c spot.left _ _ (at_verb (verb.Then None) i) (holding_full c.setting _ _ full))
  stop_then (Some n) i full = over_named c spot.left spot.last n _ _ (at_verb (verb.Then (Some n)) i)
      (ap (tread c.setting spot.left) (holding_full c.setting _ _ full))

  stop_skip : IsNode c q (node.VerbNode (verb.Skip None)) → c.setting.matching.frame_limit ≤ spot.units →
      tells c.setting spot (ahead c (conf (Enter q) spot stack caps)) ≡ told spot.last (answers FrameLimit)
  stop_skip i full = ap (told spot.last) (over_units c spot.left _ _ (at_verb (verb.Skip None) i)
      (holding_full c.setting _ _ full))

-- their records
commit_record : (spot : Spot) (o : Option ℕ) (q : ℕ)
    → entry_of (record_at (met spot o) KIND_COMMIT_PASSED q 0 0 0) ≡ CommitPassed
    (record { node = q; link = spot.frame }) (kept_at (met spot o)) 0
unfolding entry_in
commit_record spot None q = refl
commit_record spot (Some n) q = refl

prune_record : (spot : Spot) (o : Option ℕ) (q : ℕ)
    → entry_of (record_at (met spot o) KIND_PRUNE_PASSED q 0 0 0) ≡ PrunePassed
    (record { node = q; link = spot.frame }) (kept_at (met spot o)) 0
unfolding entry_in
prune_record spot None q = refl
prune_record spot (Some n) q = refl

then_record : (spot : Spot) (o : Option ℕ) (q : ℕ)
    → entry_of (record_at (met spot o) KIND_THEN_PASSED q 0 0 0) ≡ ThenPassed (record { node = q; link = spot.frame })
    (kept_at (met spot o))
unfolding entry_in
then_record spot None q = refl
then_record spot (Some n) q = refl

skip_record : (spot : Spot) (q next : ℕ) → entry_of (record_at spot KIND_SKIP_PASSED q 0 0 next) ≡ SkipPassed
    (record { node = q; link = spot.frame }) (kept_at spot) 0 next
unfolding entry_in
skip_record spot q next = refl

-- what one of them leaves, and why it stops
module _ (c : Ground) (ok : IsGround c) (q : ℕ) (spot : Spot) (stack : List Entry) (caps : Captures)
    (v : IsValid c (conf (Enter q) spot stack caps)) where
  abbrev Goes : ℕ × Option ℕ × ℕ → Type 0
  Goes x =
      Advances c (conf (Enter q) spot stack caps)
      (conf (onward c q) (held_spot (met spot x.1))
      (entry_of (record_at (met spot x.1) x.0 q 0 0 x.2) ∷ stack) caps)

  abbrev goes_with : Option ℕ → Entry → Type 0
  goes_with o r = Advances c (conf (Enter q) spot stack caps)
      (conf (onward c q) (held_spot (met spot o)) (r ∷ stack) caps)

  leaves_turn : (x : Verb) (left : ℕ × Option ℕ × ℕ) → IsNode c q (node.VerbNode x) → Leaves x spot.place left
      → spot.units < c.setting.matching.frame_limit → Goes left
  leaves_turn (verb.Commit o) left i e room =
      subst Goes (sym e) (subst (goes_with o) (sym (commit_record spot o q))
      (turn_commit c ok q spot stack caps v o i room))
  leaves_turn (verb.Prune o) left i e room =
      subst Goes (sym e) (subst (goes_with o) (sym (prune_record spot o q))
      (turn_prune c ok q spot stack caps v o i room))
  leaves_turn (verb.Then o) left i e room =
      subst Goes (sym e) (subst (goes_with o) (sym (then_record spot o q))
      (turn_then c ok q spot stack caps v o i room))
  leaves_turn (verb.Skip None) left i e room =
      subst Goes (sym e) (subst (goes_with None) (sym (skip_record spot q spot.place))
      (turn_skip c ok q spot stack caps v i room))
  leaves_turn (verb.Skip (Some n)) left i e room = absurd e
  leaves_turn (verb.Mark o) left i e room = absurd e
  leaves_turn (verb.Accept o) left i e room = absurd e
  leaves_turn (verb.Fail o) left i e room = absurd e

  abbrev Ends : ℕ × Option ℕ × ℕ → Type 0
  Ends x = tells c.setting spot (ahead c (conf (Enter q) spot stack caps)) ≡ told (named_last spot.last x.1)
      (answers FrameLimit)

  leaves_stop : (x : Verb) (left : ℕ × Option ℕ × ℕ) → IsNode c q (node.VerbNode x) → Leaves x spot.place left
      → c.setting.matching.frame_limit ≤ spot.units → Ends left
  leaves_stop (verb.Commit o) left i e full = subst Ends (sym e) (stop_commit c ok q spot stack caps v o i full)
  leaves_stop (verb.Prune o) left i e full = subst Ends (sym e) (stop_prune c ok q spot stack caps v o i full)
  leaves_stop (verb.Then o) left i e full = subst Ends (sym e) (stop_then c ok q spot stack caps v o i full)
  leaves_stop (verb.Skip None) left i e full = subst Ends (sym e) (stop_skip c ok q spot stack caps v i full)
  leaves_stop (verb.Skip (Some n)) left i e full = absurd e
  leaves_stop (verb.Mark o) left i e full = absurd e
  leaves_stop (verb.Accept o) left i e full = absurd e
  leaves_stop (verb.Fail o) left i e full = absurd e

  module _ (kind : ℕ) (name : Option ℕ) (next : ℕ) (a : IsActing c q spot.place kind name next) where
    pub turn_of : spot.units < c.setting.matching.frame_limit → Goes (kind, name, next)
    turn_of room = leaves_turn a.of (kind, name, next) a.is a.leaves room

    pub stop_of : c.setting.matching.frame_limit ≤ spot.units → Ends (kind, name, next)
    stop_of full = leaves_stop a.of (kind, name, next) a.is a.leaves full

-- what stops the machine where no unit more is held after a name
module _ (limit units : ℕ) (spot : Spot) (last : Met) (caps : Captures) (t : Told) (met : spot.last ≡ last) where
  pub named_stop : (s : Stop) → IsHeldStop s limit units → (limit ≤ units → t ≡ told last (answers FrameLimit))
      → IsStop s spot caps t
  named_stop stop.Match h k = absurd h
  named_stop stop.NoMatch h k = absurd h
  named_stop (stop.Verb a) h k = absurd h
  named_stop stop.MatchLimit h k = absurd h
  named_stop stop.Partial h k = absurd h
  named_stop stop.Loop h k = absurd h
  named_stop (stop.Abort n) h k = absurd h
  named_stop stop.FrameLimit h k = k h ∙ ap (λ (l : Met). told l (answers FrameLimit)) (sym met)
  named_stop stop.Memory h k = tt
