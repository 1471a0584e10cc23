-- The steps of the machine back to the newest record.
use Rattle.std.proofs.Common.{◌≡◌, ℕ, suc, ◌+◌, ◌-◌, ◌<◌, ◌∙◌, Bool, true, false, List, [], ◌∷◌, Option, Some, None}
use Rattle.std.proofs.Common.{length, refl, sym, ap, subst, arith}
use Rattle.pat_tree.specs.Nested as tree
use Rattle.pat_tree.specs.Nested.{Nested}
use Rattle.match_items.specs.Items.{one_less, is_none_left, after_item, item_reaches, place_before}
use Rattle.frame_store.specs.declared.records.Record.{Record}
use Rattle.frame_store.specs.Captures.{Captures}
use Rattle.frame_store.specs.Entry.{Site, Kept, Entry, LaterBranch, TurnOrExit, LaterTurn, FewerItems, MoreItems}
use Rattle.frame_store.specs.Entry.{AtomicLeft, DenialOpen, LookTest, DenialTest, CommitPassed, PrunePassed}
use Rattle.frame_store.specs.Entry.{SkipPassed, entry_of, entries, ThenPassed, LaterTry}
use Rattle.ordered_search.specs.Stream.{State}
use Rattle.ordered_search.specs.PlaceAnswer.{answers, Failed, Exhausted}
use Rattle.ordered_search.specs.Moves.{Moves, pause, Follow, reaching, tread, size}
use Rattle.ordered_search.specs.Paths.{offer_paths, lazy_paths}
use Rattle.frame_state.specs.declared.machine.Next.TheVariants.{Branch, Try, Begin, Fewer, More, Back, Act, Leave}
use Rattle.frame_state.specs.declared.machine.Acting.TheVariants as acting
use Rattle.frame_state.specs.declared.machine.Spot.{Spot}
use Rattle.frame_state.specs.Ground.{Ground, tree_of, IsGround, IsPart}
use Rattle.frame_state.specs.Machine.{Around, Outside, less, state_at, Conf, conf, onward}
use Rattle.frame_state.specs.Frames.{past, around, around_at, more_from, further_from, on_fail, outside, fail, ahead}
use Rattle.frame_state.specs.Validity.{IsMany, HasFurther, IsSound, AreSound, IsValid, Advances, IsCondition}
use Rattle.frame_state.specs.declared.machine.Met.{Met}
use Rattle.frame_state.specs.declared.machine.Stop.{Stop}
use Rattle.frame_state.specs.Reach.{further_reaches, IsNoted, IsHardStop, IsFurtherTaken, IsFurtherStop}
use Rattle.frame_state.proofs.ReachTurns.{noted_asked, stop_asked, advance_noted, stop_noted}
use Rattle.frame_state.proofs.Advance.{advance_pause, goes_on}
use Rattle.std.proofs.Common.{◌≢◌}
use Rattle.pat_tree.specs.declared.nodes.Item.{Item}
use Rattle.frame_store.specs.declared.kinds.TheConstants.{KIND_LATER_BRANCH, KIND_TURN_OR_EXIT, KIND_LATER_TURN}
use Rattle.frame_store.specs.declared.kinds.TheConstants.{KIND_FEWER_ITEMS, KIND_MORE_ITEMS, KIND_ATOMIC_LEFT}
use Rattle.frame_store.specs.declared.kinds.TheConstants.{KIND_DENIAL_OPEN, KIND_LOOK_TEST, KIND_DENIAL_TEST}
use Rattle.frame_store.specs.declared.kinds.TheConstants.{KIND_COMMIT_PASSED, KIND_PRUNE_PASSED, KIND_SKIP_PASSED}
use Rattle.frame_store.specs.declared.kinds.TheConstants.{KIND_THEN_PASSED, KIND_LATER_TRY}
use Rattle.frame_store.specs.Entry.{site_of, kept_of, entry_kind}
use Rattle.std.proofs.lemmas.List.{length-map}
use Rattle.frame_store.specs.Stack as stack_of
use Rattle.frame_store.specs.Undo.{taken_back, undone}
use Rattle.frame_store.proofs.StackLemmas.{past-more, past-all, up_to-map}
use Rattle.frame_state.proofs.Drops.{fail_to_is, dropped, past_slots}
use Rattle.frame_store.specs.Undo.{HasSlot}
use Rattle.std.proofs.Common.{All, ◌≤◌}
use Rattle.frame_store.proofs.EntryLemmas.{entry_of-later_branch, entry_of-turn_or_exit, entry_of-later_turn}
use Rattle.frame_store.proofs.EntryLemmas.{entry_of-fewer_items, entry_of-more_items, entry_of-atomic_left}
use Rattle.frame_store.proofs.EntryLemmas.{entry_of-denial_open, entry_of-look_test, entry_of-denial_test}
use Rattle.frame_store.proofs.EntryLemmas.{entry_of-commit_passed, entry_of-prune_passed, entry_of-skip_passed}
use Rattle.frame_store.proofs.EntryLemmas.{entry_kind-not, entry_of-then_passed, entry_of-later_try}
use Rattle.frame_store.proofs.UndoLemmas.{length-taken_back, undone-cons, undone-nil}
use Rattle.frame_state.specs.Stops.{restored, IsFurther, more_next, tells, IsStop}
use Rattle.frame_state.proofs.Frames.{spans_back}
use Rattle.frame_parts.proofs.EndTurns.{less_more}
use Rattle.frame_parts.proofs.Runs.{run_at, longest_some, longest_none, fewer_step}
use Rattle.frame_state.specs.declared.machine.Next.{Next}

module _ (c : Ground) (ok : IsGround c) (spot : Spot) (stack : List Entry) (caps : Captures) where
  pub back_branch : (site : Site) (kept : Kept) (next : ℕ)
      → IsValid c (conf Back spot (LaterBranch site kept next ∷ stack) caps) →
      Advances c (conf Back spot (LaterBranch site kept next ∷ stack) caps)
      (conf (Branch site.node next) (restored spot site kept) stack caps)
  unfolding fail
  back_branch site kept next v = advance_pause c _ _ _ refl refl refl
      (record { running = v.records.0; records = v.records.1; spans = v.spans; slots = v.slots })

  back_try : (site : Site) (kept : Kept) (n : ℕ)
      → IsValid c (conf Back spot (LaterTry site kept n ∷ stack) caps) →
      Advances c (conf Back spot (LaterTry site kept n ∷ stack) caps)
      (conf (Try site.node n) (restored spot site kept) stack caps)
  unfolding fail
  back_try site kept n v = advance_pause c _ _ _ refl refl refl
      (record { running = v.records.0; records = v.records.1; spans = v.spans; slots = v.slots })

  back_exit : (site : Site) (kept : Kept) (count : ℕ)
      → IsValid c (conf Back spot (TurnOrExit site kept count ∷ stack) caps) →
      Advances c (conf Back spot (TurnOrExit site kept count ∷ stack) caps)
      (conf (onward c site.node) (restored spot site kept) stack caps)
  unfolding fail
  back_exit site kept count v = goes_on c _ (restored spot site kept) stack caps v.records.1 v.spans v.slots ok
      site.node v.records.0.0 v.records.0.3 v.records.0.1 refl refl

  back_later : (site : Site) (kept : Kept) (count : ℕ)
      → IsValid c (conf Back spot (LaterTurn site kept count ∷ stack) caps) →
      Advances c (conf Back spot (LaterTurn site kept count ∷ stack) caps)
      (conf (Begin site.node count false) (restored spot site kept) stack caps)
  unfolding fail
  back_later site kept count v = advance_pause c _ _ _ refl refl refl
      (record { running = v.records.0; records = v.records.1; spans = v.spans; slots = v.slots })

  pub back_fewer : (site : Site) (kept : Kept) (from to : ℕ)
      → IsValid c (conf Back spot (FewerItems site kept from to ∷ stack) caps) →
      Advances c (conf Back spot (FewerItems site kept from to ∷ stack) caps)
      (conf (Fewer site.node from (place_before c.setting.scene to)) (restored spot site kept) stack caps)
  unfolding fail
  back_fewer site kept from to v =
      let s = v.records.0 in
      advance_pause c _ _ _
      (ap (λ l. pause (offer_paths c.setting l (state_at (around_at c stack site.link kept.passed) kept caps)
      (past c (around c stack site.link).depth (outside c stack caps site.link) site.node)
      (fail c stack caps))) (fewer_step c ok from to s.2.1 s.2.0))
      refl refl
      (record {
        running = (s.0, s.1, (ok.backward to s.2.1 (omega (arith, s.2.0))).1, s.3);
        records = v.records.1;
        spans = v.spans;
        slots = v.slots;
      })

  -- a lazy repeat takes a further item
  module _ (site : Site) (kept : Kept) (count to : ℕ) (item : Item) (low : ℕ) (high : Option ℕ) (lazily : Bool)
      (t : tree.one_repeat item low high lazily ≡ tree_of c site.node) where
    abbrev S : State
    S = state_at (around_at c stack site.link kept.passed) kept caps

    abbrev K : Follow
    K = past c (around c stack site.link).depth (outside c stack caps site.link) site.node

    abbrev left_of : List ℕ → Moves
    left_of l = lazy_paths c.setting item (one_less (less count high)) l S K (fail c stack caps)

    further_is : ahead c (conf Back spot (MoreItems site kept count to ∷ stack) caps)
        ≡ pause (reaching c.setting (item_reaches c.setting.scene item to) S
        (left_of (run_at c ok item (less count high) to)))
    unfolding fail
    further_is = ap (λ x. pause (further_from c x count to S K (fail c stack caps))) (sym t)

    further_stops : (new : Spot) (s : Stop) (now : Captures)
        → IsHardStop c (item_reaches c.setting.scene item to) kept.early spot.last new.last s →
        IsStop s new now (tells c.setting spot (ahead c (conf Back spot (MoreItems site kept count to ∷ stack) caps)))
    further_stops new s now h = stop_noted c (conf Back spot (MoreItems site kept count to ∷ stack) caps) _ kept.early
        S _ further_is refl new now s h

    module _ (v : IsValid c (conf Back spot (MoreItems site kept count to ∷ stack) caps)) (met : Met)
        (noted : IsNoted c (item_reaches c.setting.scene item to) kept.early spot.last met) where
      abbrev to_spot : Spot
      to_spot = record (restored spot site kept) { last = met }

      back_further_none : after_item c.setting.scene item to ≡ None
          → Advances c (conf Back spot (MoreItems site kept count to ∷ stack) caps) (conf Back to_spot stack caps)
      unfolding lazy_paths
      back_further_none e =
          advance_noted c _ (conf Back to_spot stack caps) _ kept.early S _ further_is refl noted
          (sym (ap left_of (longest_none c ok item (less count high) to e))) refl
          (record { running = tt; records = v.records.1; spans = v.spans; slots = v.slots })

      pub back_further_some : (p j : ℕ) → j ≡ suc count → after_item c.setting.scene item to ≡ Some p →
          Advances c (conf Back spot (MoreItems site kept count to ∷ stack) caps)
          (conf (More site.node j p) to_spot stack caps)
      back_further_some p j same e =
          let s = v.records.0 in
          let w = ok.forward item to p s.2.1 e in
          let left : is_none_left (less count high) ≡ false = subst (λ x. HasFurther c x count) (sym t) s.2.2 in
          let f : Moves = fail c stack caps in
          advance_noted c _ (conf (More site.node j p) to_spot stack caps) _ kept.early S _ further_is refl noted
          (sym
          (ap left_of (longest_some c ok item (less count high) to p s.2.1 left e)
          ∙ ap (λ (o : Option ℕ). lazy_paths c.setting item o (p ∷ run_at c ok item o p) S K f)
          (less_more count j same high)
          ∙ ap (λ x. more_from c x j p S K f) t))
          refl
          (record {
            running = (
              s.0,
              record {
                inside = s.1.inside;
                deep = s.1.deep;
                counted = s.1.counted;
                few = s.1.few;
                here = s.1.here;
                marked = s.1.marked;
                contained = s.1.contained;
              },
              omega (arith, s.2.0, w.0, same),
              w.1,
              subst (IsMany c) t tt,
              s.3,
            );
            records = v.records.1;
            spans = v.spans;
            slots = v.slots;
          })

  -- a negative lookaround has failed
  back_denial : (site : Site) (kept : Kept) → IsValid c (conf Back spot (DenialOpen site kept ∷ stack) caps) →
      Advances c (conf Back spot (DenialOpen site kept ∷ stack) caps)
      (conf (onward c site.node) (restored spot site kept) stack caps)
  unfolding fail
  back_denial site kept v = goes_on c _ (restored spot site kept) stack caps v.records.1 v.spans v.slots ok site.node
      v.records.0.0 v.records.0.3 v.records.0.1 refl refl

  -- a verb acts
  back_commit : (site : Site) (kept : Kept) (h : ℕ)
      → IsValid c (conf Back spot (CommitPassed site kept h ∷ stack) caps) →
      Advances c (conf Back spot (CommitPassed site kept h ∷ stack) caps)
      (conf (Act acting.Commit) (restored spot site kept) stack caps)
  unfolding fail
  back_commit site kept h v = advance_pause c _ _ _ refl refl refl
      (record { running = (v.records.0.1, tt); records = v.records.1; spans = v.spans; slots = v.slots })

  back_prune : (site : Site) (kept : Kept) (h : ℕ) → IsValid c (conf Back spot (PrunePassed site kept h ∷ stack) caps) →
      Advances c (conf Back spot (PrunePassed site kept h ∷ stack) caps)
      (conf (Act acting.Prune) (restored spot site kept) stack caps)
  unfolding fail
  back_prune site kept h v = advance_pause c _ _ _ refl refl refl
      (record { running = (v.records.0.1, tt); records = v.records.1; spans = v.spans; slots = v.slots })

  back_skip : (site : Site) (kept : Kept) (to : ℕ)
      → IsValid c (conf Back spot (SkipPassed site kept 0 to ∷ stack) caps) →
      Advances c (conf Back spot (SkipPassed site kept 0 to ∷ stack) caps)
      (conf (Act (acting.Skip to)) (restored spot site kept) stack caps)
  unfolding fail
  back_skip site kept to v =
      advance_pause c _ _ _ refl refl refl (record {
        running = (v.records.0.1, v.records.0.2);
        records = v.records.1;
        spans = v.spans;
        slots = v.slots;
      })

  back_then : (site : Site) (kept : Kept) → IsValid c (conf Back spot (ThenPassed site kept ∷ stack) caps) →
      Advances c (conf Back spot (ThenPassed site kept ∷ stack) caps)
      (conf (Leave site.node) (restored spot site kept) stack caps)
  unfolding fail
  back_then site kept v =
      advance_pause c _ _ _ refl refl refl (record {
        running = (v.records.0.0, v.records.0.1);
        records = v.records.1;
        spans = v.spans;
        slots = v.slots;
      })

  -- or not, where its name was not passed
  back_unskipped : (site : Site) (kept : Kept) (h to : ℕ)
      → IsValid c (conf Back spot (SkipPassed site kept (suc h) to ∷ stack) caps) →
      Advances c (conf Back spot (SkipPassed site kept (suc h) to ∷ stack) caps) (conf Back spot stack caps)
  unfolding fail tread size
  back_unskipped site kept h to v = record {
    answer = refl;
    shorter = omega arith;
    valid = record { running = tt; records = v.records.1; spans = v.spans; slots = v.slots };
  }

  -- an atomic part that was left is given up
  back_left : (site : Site) (kept : Kept) (h : ℕ) → IsValid c (conf Back spot (AtomicLeft site kept h ∷ stack) caps) →
      Advances c (conf Back spot (AtomicLeft site kept h ∷ stack) caps)
      (conf Back spot (stack_of.up_to h stack) (undone (stack_of.past h stack) caps))
  unfolding fail
  back_left site kept h v =
      advance_pause c _ _ _ refl (sym (fail_to_is c stack caps h v.records.0.2)) refl
      (dropped c ok spot stack caps h v.records.1 v.spans v.slots)

  -- a record that leaves nothing
  pub back_plain : (r : Entry)
      → ((a : Around) (k : Outside) (x : Captures) (out : Moves) (to : ℕ → Moves) → on_fail c r a k x out to ≡ out)
      → IsValid c (conf Back spot (r ∷ stack) caps) →
      Advances c (conf Back spot (r ∷ stack) caps) (conf Back spot stack (taken_back r caps))
  unfolding fail
  back_plain r plain v =
      let len : length (taken_back r caps) ≡ length caps = length-taken_back r caps in
      advance_pause c _ _ _ (ap pause (plain _ _ _ _ _)) refl refl
      (record {
        running = tt;
        records = subst (λ n. AreSound c spot.left n stack) (sym len) v.records.1;
        spans = spans_back c spot.left caps stack r v.records.0 v.spans;
        slots = len ∙ v.slots;
      })

leaves_nothing : (c : Ground) (r : Entry) → entry_kind r ≢ KIND_LATER_BRANCH → entry_kind r ≢ KIND_TURN_OR_EXIT
    → entry_kind r ≢ KIND_LATER_TURN → entry_kind r ≢ KIND_FEWER_ITEMS → entry_kind r ≢ KIND_MORE_ITEMS
    → entry_kind r ≢ KIND_ATOMIC_LEFT → entry_kind r ≢ KIND_DENIAL_OPEN → entry_kind r ≢ KIND_LOOK_TEST →
    entry_kind r ≢ KIND_DENIAL_TEST → entry_kind r ≢ KIND_COMMIT_PASSED → entry_kind r ≢ KIND_PRUNE_PASSED
    → entry_kind r ≢ KIND_SKIP_PASSED → entry_kind r ≢ KIND_THEN_PASSED → entry_kind r ≢ KIND_LATER_TRY →
    (a : Around) (k : Outside) (x : Captures) (out : Moves) (to : ℕ → Moves) → on_fail c r a k x out to ≡ out
leaves_nothing c (LaterBranch at kept next) b e l f m g d t w z y u h j a k x out to = absurd (b refl)
leaves_nothing c (TurnOrExit at kept count) b e l f m g d t w z y u h j a k x out to = absurd (e refl)
leaves_nothing c (LaterTurn at kept count) b e l f m g d t w z y u h j a k x out to = absurd (l refl)
leaves_nothing c (FewerItems at kept least last) b e l f m g d t w z y u h j a k x out to = absurd (f refl)
leaves_nothing c (MoreItems at kept count last) b e l f m g d t w z y u h j a k x out to = absurd (m refl)
leaves_nothing c (AtomicLeft at kept height) b e l f m g d t w z y u h j a k x out to = absurd (g refl)
leaves_nothing c (DenialOpen at kept) b e l f m g d t w z y u h j a k x out to = absurd (d refl)
leaves_nothing c (LookTest at kept) b e l f m g d t w z y u h j a k x out to = absurd (t refl)
leaves_nothing c (DenialTest at kept) b e l f m g d t w z y u h j a k x out to = absurd (w refl)
leaves_nothing c (CommitPassed at kept height) b e l f m g d t w z y u h j a k x out to = absurd (z refl)
leaves_nothing c (PrunePassed at kept height) b e l f m g d t w z y u h j a k x out to = absurd (y refl)
leaves_nothing c (SkipPassed at kept height next) b e l f m g d t w z y u h j a k x out to = absurd (u refl)
leaves_nothing c (ThenPassed at kept) b e l f m g d t w z y u h j a k x out to = absurd (h refl)
leaves_nothing c (LaterTry at kept n) b e l f m g d t w z y u h j a k x out to = absurd (j refl)
leaves_nothing c _ b e l f m g d t w z y u h j a k x out to = refl

-- the same, of the records
module _ (c : Ground) (ok : IsGround c) (spot : Spot) (old older : List Record) (r : Record) (caps now : Captures)
    (v : IsValid c (conf Back spot (entries old) caps))
    (popped : old ≡ r ∷ older) (back : now ≡ taken_back (entry_of r) caps) where
  pub pop_as : (e : Entry) → entry_of r ≡ e → (n : Captures → Conf) →
      (IsValid c (conf Back spot (e ∷ entries older) caps)
      → Advances c (conf Back spot (e ∷ entries older) caps) (n (taken_back e caps))) →
      Advances c (conf Back spot (entries old) caps) (n now)
  pop_as e is n h =
      let stack : entries old ≡ e ∷ entries older = ap entries popped ∙ ap (λ x. x ∷ entries older) is in
      let same : now ≡ taken_back e caps = back ∙ ap (λ x. taken_back x caps) is in
      subst (λ x. Advances c (conf Back spot (entries old) caps) (n x)) (sym same)
      (subst (λ st. Advances c (conf Back spot st caps) (n (taken_back e caps))) (sym stack)
      (h (subst (λ st. IsValid c (conf Back spot st caps)) stack v)))

  pub pop_branch : r.kind ≡ KIND_LATER_BRANCH → Advances c (conf Back spot (entries old) caps)
      (conf (Branch r.node r.count) (restored spot (site_of r) (kept_of r)) (entries older) now)
  pop_branch e = pop_as _ (entry_of-later_branch r e)
      (λ x. conf (Branch r.node r.count) (restored spot (site_of r) (kept_of r)) (entries older) x)
      (back_branch c ok spot (entries older) caps (site_of r) (kept_of r) r.count)

  pub pop_try : r.kind ≡ KIND_LATER_TRY → Advances c (conf Back spot (entries old) caps)
      (conf (Try r.node r.count) (restored spot (site_of r) (kept_of r)) (entries older) now)
  pop_try e = pop_as _ (entry_of-later_try r e)
      (λ x. conf (Try r.node r.count) (restored spot (site_of r) (kept_of r)) (entries older) x)
      (back_try c ok spot (entries older) caps (site_of r) (kept_of r) r.count)

  pub pop_exit : r.kind ≡ KIND_TURN_OR_EXIT → Advances c (conf Back spot (entries old) caps)
      (conf (onward c r.node) (restored spot (site_of r) (kept_of r)) (entries older) now)
  pop_exit e = pop_as _ (entry_of-turn_or_exit r e)
      (λ x. conf (onward c r.node) (restored spot (site_of r) (kept_of r)) (entries older) x)
      (back_exit c ok spot (entries older) caps (site_of r) (kept_of r) r.count)

  pub pop_later : r.kind ≡ KIND_LATER_TURN → Advances c (conf Back spot (entries old) caps)
      (conf (Begin r.node r.count false) (restored spot (site_of r) (kept_of r)) (entries older) now)
  pop_later e = pop_as _ (entry_of-later_turn r e)
      (λ x. conf (Begin r.node r.count false) (restored spot (site_of r) (kept_of r)) (entries older) x)
      (back_later c ok spot (entries older) caps (site_of r) (kept_of r) r.count)

  pub pop_fewer : r.kind ≡ KIND_FEWER_ITEMS → Advances c (conf Back spot (entries old) caps)
      (conf (Fewer r.node r.from (place_before c.setting.scene r.to)) (restored spot (site_of r) (kept_of r))
      (entries older) now)
  pop_fewer e =
      pop_as _ (entry_of-fewer_items r e) (λ x. conf (Fewer r.node r.from (place_before c.setting.scene r.to))
      (restored spot (site_of r) (kept_of r)) (entries older) x)
      (back_fewer c ok spot (entries older) caps (site_of r) (kept_of r) r.from r.to)

  pub pop_denial : r.kind ≡ KIND_DENIAL_OPEN → Advances c (conf Back spot (entries old) caps)
      (conf (onward c r.node) (restored spot (site_of r) (kept_of r)) (entries older) now)
  pop_denial e = pop_as _ (entry_of-denial_open r e)
      (λ x. conf (onward c r.node) (restored spot (site_of r) (kept_of r)) (entries older) x)
      (back_denial c ok spot (entries older) caps (site_of r) (kept_of r))

  pub pop_then : r.kind ≡ KIND_THEN_PASSED → Advances c (conf Back spot (entries old) caps)
      (conf (Leave r.node) (restored spot (site_of r) (kept_of r)) (entries older) now)
  pop_then e = pop_as _ (entry_of-then_passed r e)
      (λ x. conf (Leave r.node) (restored spot (site_of r) (kept_of r)) (entries older) x)
      (back_then c ok spot (entries older) caps (site_of r) (kept_of r))

  pub pop_commit : r.kind ≡ KIND_COMMIT_PASSED → Advances c (conf Back spot (entries old) caps)
      (conf (Act acting.Commit) (restored spot (site_of r) (kept_of r)) (entries older) now)
  pop_commit e = pop_as _ (entry_of-commit_passed r e)
      (λ x. conf (Act acting.Commit) (restored spot (site_of r) (kept_of r)) (entries older) x)
      (back_commit c ok spot (entries older) caps (site_of r) (kept_of r) r.from)

  pub pop_prune : r.kind ≡ KIND_PRUNE_PASSED → Advances c (conf Back spot (entries old) caps)
      (conf (Act acting.Prune) (restored spot (site_of r) (kept_of r)) (entries older) now)
  pop_prune e = pop_as _ (entry_of-prune_passed r e)
      (λ x. conf (Act acting.Prune) (restored spot (site_of r) (kept_of r)) (entries older) x)
      (back_prune c ok spot (entries older) caps (site_of r) (kept_of r) r.from)

  -- the record of SKIP, of this height
  skip_of : r.kind ≡ KIND_SKIP_PASSED → (h : ℕ) → r.from ≡ h → entry_of r ≡ SkipPassed (site_of r) (kept_of r) h r.to
  skip_of e h is = entry_of-skip_passed r e ∙ ap (λ x. SkipPassed (site_of r) (kept_of r) x r.to) is

  pub pop_skip : r.kind ≡ KIND_SKIP_PASSED → (r.from ≤ 0)
      → Advances c (conf Back spot (entries old) caps)
      (conf (Act (acting.Skip r.to)) (restored spot (site_of r) (kept_of r)) (entries older) now)
  pop_skip e none =
      pop_as _ (skip_of e 0 (omega (arith, none)))
      (λ x. conf (Act (acting.Skip r.to)) (restored spot (site_of r) (kept_of r)) (entries older) x)
      (back_skip c ok spot (entries older) caps (site_of r) (kept_of r) r.to)

  pub pop_unskipped : r.kind ≡ KIND_SKIP_PASSED → 0 < r.from
      → Advances c (conf Back spot (entries old) caps) (conf Back spot (entries older) now)
  pop_unskipped e some =
      let one : r.from ≡ suc (r.from - 1) = omega (arith, some) in
      pop_as _ (skip_of e (suc (r.from - 1)) one) (λ x. conf Back spot (entries older) x)
      (back_unskipped c ok spot (entries older) caps (site_of r) (kept_of r) (r.from - 1) r.to)

  pub pop_left : r.kind ≡ KIND_ATOMIC_LEFT → (rest : List Record) → rest ≡ stack_of.up_to r.from older
      → (after : Captures) → after ≡ undone (stack_of.past r.from (entries older)) now →
      Advances c (conf Back spot (entries old) caps) (conf Back spot (entries rest) after)
  pop_left e rest cut after put =
      let same : entries rest ≡ stack_of.up_to r.from (entries older) = ap entries cut
      ∙ sym (up_to-map entry_of r.from older) in
      subst (λ x. Advances c (conf Back spot (entries old) caps) (conf Back spot (entries rest) x)) (sym put)
      (subst (λ st. Advances c (conf Back spot (entries old) caps)
      (conf Back spot st (undone (stack_of.past r.from (entries older)) now))) (sym same)
      (pop_as _ (entry_of-atomic_left r e) (λ x. conf Back spot (stack_of.up_to r.from (entries older))
      (undone (stack_of.past r.from (entries older)) x))
      (back_left c ok spot (entries older) caps (site_of r) (kept_of r) r.from)))

  abbrev back_spot : Spot
  back_spot = restored spot (site_of r) (kept_of r)

  module _ (e : r.kind ≡ KIND_MORE_ITEMS) (item : Item) (low : ℕ) (high : Option ℕ) (lazily : Bool)
      (t : tree.one_repeat item low high lazily ≡ tree_of c r.node)
      (met : Met) (noted : IsNoted c (item_reaches c.setting.scene item r.to) r.early spot.last met) where
    pop_further_none : after_item c.setting.scene item r.to ≡ None
        → Advances c (conf Back spot (entries old) caps)
        (conf Back (record back_spot { last = met }) (entries older) now)
    pop_further_none none =
        pop_as _ (entry_of-more_items r e) (λ x. conf Back (record back_spot { last = met }) (entries older) x)
        (λ w. back_further_none c ok spot (entries older) caps (site_of r) (kept_of r) r.count r.to item low high
        lazily t w met noted none)

    pop_further_some : (p j : ℕ) → j ≡ suc r.count → after_item c.setting.scene item r.to ≡ Some p →
        Advances c (conf Back spot (entries old) caps)
        (conf (More r.node j p) (record back_spot { last = met }) (entries older) now)
    pop_further_some p j same some =
        pop_as _ (entry_of-more_items r e) (λ x. conf (More r.node j p) (record back_spot { last = met })
        (entries older) x)
        (λ w. back_further_some c ok spot (entries older) caps (site_of r) (kept_of r) r.count r.to item low high
        lazily t w met noted p j same some)

  -- what holds of the record
  pub sound_old : IsSound c spot.left (length caps) (entries older) (entry_of r)
  sound_old = let stack : entries old ≡ entry_of r ∷ entries older = ap entries popped in
      (subst (λ st. AreSound c spot.left (length caps) st) stack v.records).0

  -- of each kind, what holds of the record
  pub exit_inside : r.kind ≡ KIND_TURN_OR_EXIT → IsPart c r.node
  exit_inside e = (subst (IsSound c spot.left (length caps) (entries older)) (entry_of-turn_or_exit r e) sound_old).0

  pub denial_inside : r.kind ≡ KIND_DENIAL_OPEN → IsPart c r.node
  denial_inside e = (subst (IsSound c spot.left (length caps) (entries older)) (entry_of-denial_open r e) sound_old).0

  pub look_test_sound : r.kind ≡ KIND_LOOK_TEST → IsPart c r.node × IsCondition c (tree_of c r.node)
  look_test_sound e = let z = subst (IsSound c spot.left (length caps) (entries older)) (entry_of-look_test r e)
      sound_old in (z.0, z.2)

  pub denial_test_sound : r.kind ≡ KIND_DENIAL_TEST → IsPart c r.node × IsCondition c (tree_of c r.node)
  denial_test_sound e = let z = subst (IsSound c spot.left (length caps) (entries older)) (entry_of-denial_test r e)
      sound_old in (z.0, z.2)

  -- of what was left below an atomic part
  pub left_within : r.kind ≡ KIND_ATOMIC_LEFT → r.from ≤ length older
  left_within e =
      let h : r.from ≤ length (entries older) =
      (subst (IsSound c spot.left (length caps) (entries older)) (entry_of-atomic_left r e) sound_old).2 in
      omega (arith, h, length-map older entry_of)

  pub left_slots : All (HasSlot now) (stack_of.past r.from (entries older))
  left_slots =
      let len : length now ≡ length caps = ap length back ∙ length-taken_back (entry_of r) caps in
      let stack : entries old ≡ entry_of r ∷ entries older = ap entries popped in
      let sound : AreSound c spot.left (length caps) (entries older) =
      (subst (λ st. AreSound c spot.left (length caps) st) stack v.records).1 in
      past_slots c ok spot.left now (entries older) r.from
      (subst (λ n. AreSound c spot.left n (entries older)) (sym len) sound)

  pub fewer_stands : r.kind ≡ KIND_FEWER_ITEMS → c.stands r.to ≡ true
  fewer_stands e = (subst (IsSound c spot.left (length caps) (entries older)) (entry_of-fewer_items r e) sound_old).2.1

  module _ (e : r.kind ≡ KIND_MORE_ITEMS) where
    more_sound : IsSound c spot.left (length caps) (entries older) (MoreItems (site_of r) (kept_of r) r.count r.to)
    more_sound = subst (IsSound c spot.left (length caps) (entries older)) (entry_of-more_items r e) sound_old

    is_many : (t : Nested) → HasFurther c t r.count → IsMany c t
    is_many (tree.one_repeat item low high lazily) h = tt
    is_many _ h = absurd h

    pub more_inside : IsPart c r.node
    more_inside = more_sound.0

    pub more_stands : c.stands r.to ≡ true
    more_stands = more_sound.2.1

    pub more_many : IsMany c (tree_of c r.node)
    more_many = is_many (tree_of c r.node) more_sound.2.2

    pub more_few : r.count < 4294967295
    more_few = let within = ok.within r.to more_sound.2.1 in omega (arith, more_sound.2.0, within, ok.short)

    further_one : (t : Nested) (o : Option ℕ) → IsFurther c t r.to o →
        (item : Item) × (low : ℕ) × (high : Option ℕ) × (lazily : Bool) × (tree.one_repeat item low high lazily ≡ t)
        × (o ≡ after_item c.setting.scene item r.to)
        × (item_reaches c.setting.scene item r.to ≡ further_reaches c t r.to)
    further_one (tree.one_repeat item low high lazily) o h = (item, low, high, lazily, refl, h, refl)
    further_one _ o h = absurd h

    module _ (met : Met) (noted : IsNoted c (further_reaches c (tree_of c r.node) r.to) r.early spot.last met) where
      noted_one : (b : Bool) → b ≡ further_reaches c (tree_of c r.node) r.to → IsNoted c b r.early spot.last met
      noted_one b is = subst (λ x. IsNoted c x r.early spot.last met) (sym is) noted

      pop_taken : (o : Option ℕ) → IsFurther c (tree_of c r.node) r.to o →
          Advances c (conf Back spot (entries old) caps)
          (conf (more_next r o) (record back_spot { last = met }) (entries older) now)
      pop_taken None h = let z = further_one (tree_of c r.node) None h in
          pop_further_none e z.0 z.1 z.2 z.3 z.4 met (noted_one _ z.6) (sym z.5)
      pop_taken (Some p) h = let z = further_one (tree_of c r.node) (Some p) h in
          pop_further_some e z.0 z.1 z.2 z.3 z.4 met (noted_one _ z.6) p (r.count + 1) (omega arith) (sym z.5)

    pub pop_more : (next : Next) (new : Spot) → IsFurtherTaken c r back_spot next new
        → Advances c (conf Back spot (entries old) caps) (conf next new (entries older) now)
    pop_more next new h =
        subst (λ x. Advances c (conf Back spot (entries old) caps) (conf x new (entries older) now)) (sym h.goes)
        (subst (λ x. Advances c (conf Back spot (entries old) caps) (conf (more_next r h.to) x (entries older) now))
        (sym h.moves)
        (pop_taken h.met (noted_asked c (further_reaches c (tree_of c r.node) r.to) _ refl r.early spot.last h.met
        h.noted) h.to h.takes))

    pub pop_more_stops : (new : Spot) (s : Stop) → IsFurtherStop c r back_spot new.last s
        → IsStop s new now (tells c.setting spot (ahead c (conf Back spot (entries old) caps)))
    pop_more_stops new s h =
        let same : entries old ≡ MoreItems (site_of r) (kept_of r) r.count r.to ∷ entries older = ap entries popped
        ∙ ap (λ x. x ∷ entries older) (entry_of-more_items r e) in
        subst (λ st. IsStop s new now (tells c.setting spot (ahead c (conf Back spot st caps)))) (sym same)
        (stops_one (tree_of c r.node) refl more_many
        (stop_asked c (further_reaches c (tree_of c r.node) r.to) _ refl r.early spot.last new.last s h))
      where
        stops_one : (t : Nested) → t ≡ tree_of c r.node → IsMany c t
            → IsHardStop c (further_reaches c (tree_of c r.node) r.to) r.early spot.last new.last s →
            IsStop s new now
            (tells c.setting spot
            (ahead c (conf Back spot (MoreItems (site_of r) (kept_of r) r.count r.to ∷ entries older) caps)))
        stops_one (tree.one_repeat item low high lazily) is many h =
            further_stops c ok spot (entries older) caps (site_of r) (kept_of r) r.count r.to item low high lazily is
            new s now
            (subst (λ x. IsHardStop c (further_reaches c x r.to) r.early spot.last new.last s) (sym is) h)
        stops_one _ is many h = absurd many

  pub pop_plain : r.kind ≢ KIND_LATER_BRANCH → r.kind ≢ KIND_TURN_OR_EXIT → r.kind ≢ KIND_LATER_TURN
      → r.kind ≢ KIND_FEWER_ITEMS → r.kind ≢ KIND_MORE_ITEMS → r.kind ≢ KIND_ATOMIC_LEFT → r.kind ≢ KIND_DENIAL_OPEN
      → r.kind ≢ KIND_LOOK_TEST →
      r.kind ≢ KIND_DENIAL_TEST → r.kind ≢ KIND_COMMIT_PASSED → r.kind ≢ KIND_PRUNE_PASSED → r.kind ≢ KIND_SKIP_PASSED
      → r.kind ≢ KIND_THEN_PASSED → r.kind ≢ KIND_LATER_TRY → Advances c (conf Back spot (entries old) caps)
      (conf Back spot (entries older) now)
  pop_plain b x l f m g d t w z y u h j =
      pop_as (entry_of r) refl (λ z. conf Back spot (entries older) z)
      (back_plain c ok spot (entries older) caps (entry_of r)
      (leaves_nothing c (entry_of r) (entry_kind-not r KIND_LATER_BRANCH (omega arith) b)
      (entry_kind-not r KIND_TURN_OR_EXIT (omega arith) x) (entry_kind-not r KIND_LATER_TURN (omega arith) l)
      (entry_kind-not r KIND_FEWER_ITEMS (omega arith) f) (entry_kind-not r KIND_MORE_ITEMS (omega arith) m)
      (entry_kind-not r KIND_ATOMIC_LEFT (omega arith) g) (entry_kind-not r KIND_DENIAL_OPEN (omega arith) d)
      (entry_kind-not r KIND_LOOK_TEST (omega arith) t) (entry_kind-not r KIND_DENIAL_TEST (omega arith) w)
      (entry_kind-not r KIND_COMMIT_PASSED (omega arith) z) (entry_kind-not r KIND_PRUNE_PASSED (omega arith) y)
      (entry_kind-not r KIND_SKIP_PASSED (omega arith) u) (entry_kind-not r KIND_THEN_PASSED (omega arith) h)
      (entry_kind-not r KIND_LATER_TRY (omega arith) j)))

-- nothing is left
pub stop_none : (c : Ground) (spot : Spot) (old : List Record) (caps : Captures) → old ≡ []
    → tread c.setting spot.left (ahead c (conf Back spot (entries old) caps)) ≡ answers (Failed Exhausted)
unfolding tread fail
stop_none c spot old caps e = ap (λ (l : List Record). tread c.setting spot.left (fail c (entries l) caps)) e

-- the newest record is taken off
pub pop_back : (old older : List Record) (r : Record) (h : ℕ) (caps : Captures) → old ≡ r ∷ older → h ≡ length old - 1
    → undone (stack_of.past h (entries old)) caps ≡ taken_back (entry_of r) caps
pop_back old older r h caps e at =
    let len : length old ≡ suc (length older) = ap length e in
    let map : length (entries older) ≡ length older = length-map older entry_of in
    ap (λ (l : List Record). undone (stack_of.past h (entries l)) caps) e
    ∙ ap (λ es. undone es caps) (past-more h (entry_of r) (entries older) (omega (arith, len, map, at))
    ∙ ap (λ es. entry_of r ∷ es) (past-all h (entries older) (omega (arith, len, map, at))))
    ∙ undone-cons (entry_of r) [] caps ∙ undone-nil (taken_back (entry_of r) caps)
