-- The steps of the machine at a condition.
use Rattle.pat_tree.specs.Refs.{is_in}
use Rattle.node_flow.specs.Branches.{branch_child}
use Rattle.std.proofs.Math.Bool.{or-true}
use Rattle.node_flow.proofs.Members.{of_member, in_at, in_append}
use Rattle.std.proofs.Common.{◌≡◌, ℕ, suc, ◌+◌, ◌<◌, ◌≤◌, ◌∙◌, Bool, true, false, not, List, [], ◌∷◌, reverse}
use Rattle.std.proofs.Common.{Option, Some, None, length, map, All, slice_get, refl, sym, ap, subst, arith}
use Rattle.std.proofs.Common.{if◌then◌else◌, IfSome, get_or}
use Rattle.std.proofs.lemmas.List.Elements.{All-head, All-tail, All-cons}
use Rattle.std.specs.Prelude.{slice_index}
use Rattle.std.proofs.lemmas.Bool.{false≢true}
use Rattle.pat_tree.specs.declared.nodes.Cond.{Cond}
use Rattle.pat_tree.specs.declared.nodes.Cond.TheVariants as cond
use Rattle.pat_tree.specs.declared.nodes.Node.{Node}
use Rattle.pat_tree.specs.declared.nodes.Node.TheVariants as node
use Rattle.pat_tree.specs.Nested as tree
use Rattle.pat_tree.specs.Nested.{Nested, Row, Callout, row, tree_at, other_of, nest}
use Rattle.pat_tree.specs.Rules.{kids_of, number_in, is_test, tests_of}
use Rattle.node_flow.specs.Linked.{IsLinked}
use Rattle.frame_store.specs.declared.registers.Span.{Span}
use Rattle.frame_store.specs.declared.records.Record.{Record}
use Rattle.frame_store.specs.Captures.{Captures, HasGroup, capture}
use Rattle.frame_store.specs.Entry.{Site, Entry, LookTest, DenialTest, AtomicLeft, entry_site, entry_in, entry_of}
use Rattle.frame_store.specs.Entry.{entries, site_of, kept_of}
use Rattle.frame_store.proofs.EntryLemmas.{entry_of-look_test, entry_of-denial_test}
use Rattle.ordered_search.specs.Stream.{State, shown}
use Rattle.ordered_search.specs.Parts.{some_set, is_called, is_called_of}
use Rattle.ordered_search.specs.PlaceAnswer.{answers, FrameLimit}
use Rattle.ordered_search.specs.Moves.{Moves, pause, noted, holding, Follow, Handler, tread}
use Rattle.frame_store.specs.Undo.{taken_back}
use Rattle.ordered_search.specs.Paths.{branch_paths, answered, paths}
use Rattle.frame_state.specs.declared.machine.Next.{Next}
use Rattle.frame_state.specs.declared.machine.Next.TheVariants.{Enter, End}
use Rattle.frame_state.specs.declared.machine.Spot.{Spot}
use Rattle.frame_state.specs.Ground.{Ground, tree_of, IsNode, IsGround, IsPart, BeginsBy}
use Rattle.frame_state.specs.Begun.{IsFixedPart, first_begun, first_spot}
use Rattle.frame_state.specs.Machine.{Around, Outside, entry_kept, kept_at, conf, first_set, onward}
use Rattle.frame_state.specs.Frames.{beyond_by, past, around, frame_around, hand, chosen_from, fail, focus}
use Rattle.frame_state.specs.Frames.{outside, spot_state, ahead, caught}
use Rattle.frame_state.specs.Validity.{IsCondition, IsSound, IsValid, Advances, IsLater, IsRunning}
use Rattle.frame_looks.specs.Conditions.{IsAsserted, IsChoice, IsTest, IsLook, test_entry, test_kind}
use Rattle.frame_state.specs.Over.{GoesBy, tested_ahead}
use Rattle.frame_state.specs.Shown.{block_at}
use Rattle.frame_state.specs.Stops.{record_at}
use Rattle.frame_state.proofs.KidParts.{kid_parts, kid_ranks}
use Rattle.frame_state.proofs.PartPaths.{tree_by, kid_paths, branched_look, behind_look, fixed_look, enter_any_set}
use Rattle.frame_state.proofs.PartPaths.{enter_never, enter_in_call, enter_in_call_of, enter_test, enter_called}
use Rattle.frame_state.proofs.PartPaths.{branches_by}
use Rattle.frame_state.proofs.Frames.{hand_same, caught_at, inside_of, focus_towards, running_towards, framed}
use Rattle.frame_state.proofs.Frames.{begun_towards, later_more, within_frame}
use Rattle.frame_state.proofs.Advance.{holding_full, advance_pause, over_units}
use Rattle.frame_state.specs.Calls.{calls_at}
use Rattle.frame_state.proofs.CallFrames.{around_calls}
use Rattle.frame_state.proofs.Turns.{deep, opens_by}
use Rattle.frame_state.proofs.LeaveTurns.{stop_leave, turn_leave}
use Rattle.frame_state.proofs.PartPaths.{past_same}
use Rattle.node_flow.specs.LookBranches.{look_branch_child}

-- the branches of a condition
module _ (c : Ground) (ok : IsGround c) (q : ℕ) (inside : IsPart c q) (n : Node) (i : IsNode c q n) (test : Cond)
    (yes' : ℕ) (no' : Option ℕ) (e : n ≡ node.Cond test yes' no') where
  linked : IsLinked c.rest (c.rest q) (node.Cond test yes' no')
  linked = subst (IsLinked c.rest (c.rest q)) e i.linked

  kids : All (IsPart c) (kids_of (node.Cond test yes' no'))
  kids = subst (λ m. All (IsPart c) (kids_of m)) e (kid_parts c q n inside i)

  branch_parts : (t : Cond) → All (IsPart c) (kids_of (node.Cond t yes' no')) → All (IsPart c) (yes' ∷ number_in no')
  branch_parts (cond.AnySet groups) a = a
  branch_parts cond.InCall a = a
  branch_parts (cond.InCallOf groups) a = a
  branch_parts cond.Never a = a
  branch_parts (cond.Assert p) a = All-tail (IsPart c) p (yes' ∷ number_in no') a

  is_condition : tree.condition (tree.cond_of c.trees test) (tree_of c yes') (other_of c.trees no') ≡ tree_of c q
  is_condition = tree_by c q n i (node.Cond test yes' no') e

  entered : (p : ℕ) (d : ℕ) (k : Outside) (s : State) (f : Moves) → c.rest p ≡ c.rest q
      → c.look_branch p ≡ c.look_branch q → k.hand p ≡ k.hand q →
      focus c (Enter p) d k s f ≡ paths c.setting d (tree_of c p) s (past c d k q) f (k.hand q)
  entered p d k s f rest looked same =
      ap (λ (z : Follow). paths c.setting d (tree_of c p) s z f (k.hand p)) (past_same c p q rest looked d k)
      ∙ ap (λ (h : Handler). paths c.setting d (tree_of c p) s (past c d k q) f h) same

  of_branch : (t : Cond) → All (λ k. c.branch k ≡ branch_child (node.Cond t yes' no') (c.branch q) k)
      (kids_of (node.Cond t yes' no')) → (p : ℕ) → is_in p (yes' ∷ number_in no') ≡ true → c.branch p ≡ c.branch q
  of_branch t a p m =
      of_member (λ k. c.branch k ≡ branch_child (node.Cond t yes' no') (c.branch q) k)
      (kids_of (node.Cond t yes' no')) p a (in_append p (tests_of t) (yes' ∷ number_in no')
      ∙ rw (m, or-true) refl)
      ∙ ap (λ (b : Bool). if b then c.branch q else None) m

  -- the branch around them is that around the condition
  alike : All (λ p. c.branch p ≡ c.branch q) (yes' ∷ number_in no')
  alike = λ j d m.
      let p : ℕ = get_or (yes' ∷ number_in no') j d in
      let all : All (λ k. c.branch k ≡ branch_child (node.Cond test yes' no') (c.branch q) k)
      (kids_of (node.Cond test yes' no')) = branches_by c q n i (node.Cond test yes' no') e in
      of_branch test all p (in_at (yes' ∷ number_in no') j d m)

  -- and so is the branch of a lookbehind
  look_of : (t : Cond) → All (λ k. c.look_branch k ≡ look_branch_child (node.Cond t yes' no') (c.look_branch q) k)
      (kids_of (node.Cond t yes' no')) → (p : ℕ) → is_in p (yes' ∷ number_in no') ≡ true
      → c.look_branch p ≡ c.look_branch q
  look_of t a p m =
      of_member (λ k. c.look_branch k ≡ look_branch_child (node.Cond t yes' no') (c.look_branch q) k)
      (kids_of (node.Cond t yes' no')) p a (in_append p (tests_of t) (yes' ∷ number_in no')
      ∙ rw (m, or-true) refl)
      ∙ ap (λ (b : Bool). if b then c.look_branch q else None) m

  looks : All (λ p. c.look_branch p ≡ c.look_branch q) (yes' ∷ number_in no')
  looks = λ j d m.
      let p : ℕ = get_or (yes' ∷ number_in no') j d in
      let all : All (λ k. c.look_branch k ≡ look_branch_child (node.Cond test yes' no') (c.look_branch q) k)
      (kids_of (node.Cond test yes' no')) =
      subst (λ m. All (λ k. c.look_branch k ≡ look_branch_child m (c.look_branch q) k) (kids_of m)) e i.looked in
      look_of test all p (in_at (yes' ∷ number_in no') j d m)

  behind_test : (t : Cond) → All (λ p. c.rank q < c.rank p) (kids_of (node.Cond t yes' no'))
      → All (λ p. c.rank q < c.rank p) (yes' ∷ number_in no')
  behind_test (cond.Assert p) a = All-tail (λ x. c.rank q < c.rank x) p (yes' ∷ number_in no') a
  behind_test (cond.AnySet groups) a = a
  behind_test cond.InCall a = a
  behind_test (cond.InCallOf groups) a = a
  behind_test cond.Never a = a

  stands_behind : All (λ p. c.rank q < c.rank p) (yes' ∷ number_in no')
  stands_behind = behind_test test (subst (λ m. All (λ p. c.rank q < c.rank p) (kids_of m)) e (kid_ranks c q n i))

  -- one of them runs
  runs_branch : (p : ℕ) → IsPart c p → c.rank q < c.rank p → (spot : Spot) (stack : List Entry)
      → IsLater c spot.frame q stack → IsRunning c spot stack End → IsRunning c spot stack (Enter p)
  runs_branch p part lt spot stack later w = (part, w, later_more c spot.frame q p stack (omega (arith, lt)) later)

  begun_branch : (p : ℕ) → c.branch p ≡ c.branch q → c.rest p ≡ c.rest q → All (BeginsBy c q) (p ∷ c.rest p)
  begun_branch p same rest =
      All-cons (BeginsBy c q) p (c.rest p)
      (subst (λ (o : Option ℕ). IfSome o (λ b. c.rank b ≤ c.rank q)) (sym same)
      (All-head (BeginsBy c q) q (c.rest q) inside.begun))
      (subst (All (BeginsBy c q)) (sym rest) (All-tail (BeginsBy c q) q (c.rest q) inside.begun))

  pub choice_yes : IsChoice c q true (Enter yes')
  choice_yes = record {
    goes = λ d k s f same.
        entered yes' d k s f (All-head (λ p. c.rest p ≡ c.rest q) yes' (number_in no') linked.1)
        (All-head (λ p. c.look_branch p ≡ c.look_branch q) yes' (number_in no') looks)
        (same yes' (All-head (λ p. c.branch p ≡ c.branch q) yes' (number_in no') alike))
        ∙ ap (λ t. chosen_from c t true d s (past c d k q) f (k.hand q)) is_condition;
    runs = runs_branch yes' (All-head (IsPart c) yes' (number_in no') (branch_parts test kids))
        (All-head (λ p. c.rank q < c.rank p) yes' (number_in no') stands_behind);
    begun = begun_branch yes' (All-head (λ p. c.branch p ≡ c.branch q) yes' (number_in no') alike)
        (All-head (λ p. c.rest p ≡ c.rest q) yes' (number_in no') linked.1);
  }

  pub choice_some : (p : ℕ) → no' ≡ Some p → IsChoice c q false (Enter p)
  choice_some p is =
      let rests : All (λ x. c.rest x ≡ c.rest q) (p ∷ []) =
      subst (λ o. All (λ x. c.rest x ≡ c.rest q) (number_in o)) is
      (All-tail (λ x. c.rest x ≡ c.rest q) yes' (number_in no') linked.1) in
      let likes : All (λ x. c.branch x ≡ c.branch q) (p ∷ []) =
      subst (λ o. All (λ x. c.branch x ≡ c.branch q) (number_in o)) is
      (All-tail (λ x. c.branch x ≡ c.branch q) yes' (number_in no') alike) in
      let looked : All (λ x. c.look_branch x ≡ c.look_branch q) (p ∷ []) =
      subst (λ o. All (λ x. c.look_branch x ≡ c.look_branch q) (number_in o)) is
      (All-tail (λ x. c.look_branch x ≡ c.look_branch q) yes' (number_in no') looks) in
      let later : All (λ x. c.rank q < c.rank x) (p ∷ []) =
      subst (λ o. All (λ x. c.rank q < c.rank x) (number_in o)) is
      (All-tail (λ x. c.rank q < c.rank x) yes' (number_in no') stands_behind) in
      let parts : All (IsPart c) (p ∷ []) = subst (λ o. All (IsPart c) (number_in o)) is
      (All-tail (IsPart c) yes' (number_in no') (branch_parts test kids)) in
      record {
        goes = λ d k s f same.
            entered p d k s f (All-head (λ x. c.rest x ≡ c.rest q) p [] rests)
            (All-head (λ x. c.look_branch x ≡ c.look_branch q) p [] looked)
            (same p (All-head (λ x. c.branch x ≡ c.branch q) p [] likes))
            ∙ ap (λ t. chosen_from c t false d s (past c d k q) f (k.hand q))
            (ap (λ o. tree.condition (tree.cond_of c.trees test) (tree_of c yes') (other_of c.trees o)) (sym is)
            ∙ is_condition);
        runs = runs_branch p (All-head (IsPart c) p [] parts) (All-head (λ x. c.rank q < c.rank x) p [] later);
        begun = begun_branch p (All-head (λ x. c.branch x ≡ c.branch q) p [] likes)
            (All-head (λ x. c.rest x ≡ c.rest q) p [] rests);
      }

  pub choice_none : no' ≡ None → IsChoice c q false (onward c q)
  choice_none is = record {
    goes = λ d k s f same.
        focus_towards c ok q inside d k s f
        ∙ ap (λ t. chosen_from c t false d s (past c d k q) f (k.hand q))
        (ap (λ o. tree.condition (tree.cond_of c.trees test) (tree_of c yes') (other_of c.trees o)) (sym is)
        ∙ is_condition);
    runs = running_towards c ok q inside;
    begun = begun_towards c ok q inside;
  }

  pub condition_here : IsCondition c (tree_of c q)
  condition_here = subst (IsCondition c) is_condition tt

-- no other part is a condition
pub stray_condition : (c : Ground) (n : Node) → IsCondition c (nest c.trees n)
    → ((test : Cond) (yes' : ℕ) (no' : Option ℕ) → n ≡ node.Cond test yes' no' → ⊥) → ⊥
stray_condition c (node.Cond test yes' no') h x = x test yes' no' refl
stray_condition c _ h x = h

none_some : (a : Span) → None ≡ Some a → ⊥
none_some a e = cc

-- a group is set where there is a first one that is
pub set_some : (caps : Captures) (ns : List ℕ) (x : Span) → first_set caps ns ≡ Some x → some_set caps ns ≡ true
set_some caps [] x e = absurd (none_some x e)
set_some caps (n ∷ ns) x e =
    (elim (capture caps n)
    as (λ o. (let z : Option Span = elim o [ None ↦ first_set caps ns | Some y ↦ Some y ] in z ≡ Some x)
    → (let b : Bool = elim o [ None ↦ some_set caps ns | Some y ↦ true ] in b ≡ true)) [
      | None ↦ λ h. set_some caps ns x h
      | Some y ↦ λ h. refl
    ]) e

pub set_none : (caps : Captures) (ns : List ℕ) → first_set caps ns ≡ None → some_set caps ns ≡ false
set_none caps [] e = refl
set_none caps (n ∷ ns) e =
    (elim (capture caps n)
    as (λ o. (let z : Option Span = elim o [ None ↦ first_set caps ns | Some y ↦ Some y ] in z ≡ None)
    → (let b : Bool = elim o [ None ↦ some_set caps ns | Some y ↦ true ] in b ≡ false)) [
      | None ↦ λ h. set_none caps ns h
      | Some y ↦ λ h. absurd (none_some y (sym h))
    ]) e

-- the groups that a condition names have registers
pub set_slots : (c : Ground) (q : ℕ) (test : Cond) (yes' : ℕ) (no' : Option ℕ) (ns : List ℕ) (caps : Captures)
    → IsNode c q (node.Cond test yes' no') → test ≡ cond.AnySet ns →
    length caps ≡ c.setting.groups → All (HasGroup caps) ns
set_slots c q test yes' no' ns caps i e same =
    let named : All (λ k. (0 < k) × (k ≤ c.setting.groups)) ns =
    (subst (λ t. IsNode c q (node.Cond t yes' no')) e i).named in
    λ j d l. let z = named j d l in (z.0, omega (arith, z.1, same))

-- a condition is entered
module _ (c : Ground) (ok : IsGround c) (q : ℕ) (spot : Spot) (stack : List Entry) (caps : Captures)
    (v : IsValid c (conf (Enter q) spot stack caps)) where
  calls_are : calls_at stack spot.frame ≡ (spot_state c spot stack caps).calls
  calls_are = sym (around_calls c stack spot.frame)

  module _ (holds : Bool) (next : Next) (choice : IsChoice c q holds next) where
    chosen : ahead c (conf (Enter q) spot stack caps)
        ≡ pause (chosen_from c (tree_of c q) holds (around c stack spot.frame).depth (spot_state c spot stack caps)
        (past c (around c stack spot.frame).depth (outside c stack caps spot.frame) q) (fail c stack caps)
        (hand c stack caps spot.frame q)) →
        Advances c (conf (Enter q) spot stack caps) (conf next spot stack caps)
    chosen e =
        advance_pause c _ _ _ e (choice.goes _ (outside c stack caps spot.frame) _ _
        (λ p same. hand_same c stack caps spot.frame p q same)) refl
        (record {
          running = choice.runs spot stack v.running.2 v.running.1;
          records = v.records;
          spans = v.spans;
          slots = v.slots;
        })

  pub turn_any_set : (test : Cond) (ns : List ℕ) (yes' : ℕ) (no' : Option ℕ) → IsNode c q (node.Cond test yes' no')
      → test ≡ cond.AnySet ns → (next : Next) → IsChoice c q (some_set caps ns) next →
      Advances c (conf (Enter q) spot stack caps) (conf next spot stack caps)
  turn_any_set test ns yes' no' i e next choice =
      let n : Node = node.Cond test yes' no' in
      chosen (some_set caps ns) next choice (enter_any_set c ok q n i _ _ _ _ _ (deep c ok q spot stack caps v n i) ns
      yes' no' (ap (λ t. node.Cond t yes' no') e))

  -- a test of the active calls
  pub turn_in_call : (test : Cond) (yes' : ℕ) (no' : Option ℕ) → IsNode c q (node.Cond test yes' no')
      → test ≡ cond.InCall →
      (next : Next) → IsChoice c q (is_called (calls_at stack spot.frame)) next
      → Advances c (conf (Enter q) spot stack caps) (conf next spot stack caps)
  turn_in_call test yes' no' i e next choice =
      let n : Node = node.Cond test yes' no' in
      chosen (is_called (spot_state c spot stack caps).calls) next
      (subst (λ l. IsChoice c q (is_called l) next) calls_are choice)
      (enter_in_call c ok q n i _ _ _ _ _ (deep c ok q spot stack caps v n i) yes' no'
      (ap (λ t. node.Cond t yes' no') e))

  pub turn_in_call_of : (test : Cond) (ns : List ℕ) (yes' : ℕ) (no' : Option ℕ) → IsNode c q (node.Cond test yes' no')
      → test ≡ cond.InCallOf ns →
      (next : Next) → IsChoice c q (is_called_of (calls_at stack spot.frame) ns) next
      → Advances c (conf (Enter q) spot stack caps) (conf next spot stack caps)
  turn_in_call_of test ns yes' no' i e next choice =
      let n : Node = node.Cond test yes' no' in
      chosen (is_called_of (spot_state c spot stack caps).calls ns) next
      (subst (λ l. IsChoice c q (is_called_of l ns) next) calls_are choice)
      (enter_in_call_of c ok q n i _ _ _ _ _ (deep c ok q spot stack caps v n i) ns yes' no'
      (ap (λ t. node.Cond t yes' no') e))

  -- a definition
  pub turn_never : (test : Cond) (yes' : ℕ) (no' : Option ℕ) → IsNode c q (node.Cond test yes' no')
      → test ≡ cond.Never →
      (next : Next) → IsChoice c q false next → Advances c (conf (Enter q) spot stack caps) (conf next spot stack caps)
  turn_never test yes' no' i e next choice =
      let n : Node = node.Cond test yes' no' in
      chosen false next choice (enter_never c ok q n i _ _ _ _ _ (deep c ok q spot stack caps v n i) yes' no'
      (ap (λ t. node.Cond t yes' no') e))

  -- what stands as its test
  module _ (p : ℕ) (asserted : IsAsserted c q p) where
    pub asserted_inside : IsPart c p
    asserted_inside = All-head (IsPart c) p (asserted.first ∷ number_in asserted.second)
        (kid_parts c q (node.Cond (cond.Assert p) asserted.first asserted.second) v.running.0 asserted.node)

    pub is_tested : is_test (tree_of c p) ≡ true
    is_tested = All-head (λ x. is_test (tree_of c x) ≡ true) p [] asserted.node.tests

    pub looks_first : (ks : List ℕ) (forward positive' : Bool) (l : IsLook c p forward positive' ks) →
        ahead c (conf (Enter q) spot stack caps) ≡ tested_ahead c q p positive' ks spot stack caps
    looks_first ks forward positive' l =
        let n : Node = node.Cond (cond.Assert p) asserted.first asserted.second in
        enter_test c ok q n asserted.node _ _ _ _ _ (deep c ok q spot stack caps v n asserted.node) p asserted.first
        asserted.second refl forward positive' l.once ks
        (sym (tree_by c p (node.Look forward positive' l.once ks) l.node (node.Look forward positive' l.once ks)
        refl))

    -- a callout stands before it
    pub calls_first : (x : Callout) (r : ℕ) (ks : List ℕ) (forward positive' : Bool)
        (l : IsLook c r forward positive' ks) →
        tree_of c p ≡ tree.seq (tree.more (tree.callout x) (tree.more (tree_of c r) tree.none)) →
        ahead c (conf (Enter q) spot stack caps)
        ≡ pause (noted (shown (block_at x spot))
        (answered (c.setting.reply (block_at x spot)) (tested_ahead c q r positive' ks spot stack caps)
        (fail c stack caps)))
    calls_first x r ks forward positive' l e =
        let n : Node = node.Cond (cond.Assert p) asserted.first asserted.second in
        let t : tree_of c r ≡ tree.look forward positive' l.once (row (map (tree_at c.trees) ks)) =
        sym (tree_by c r (node.Look forward positive' l.once ks) l.node (node.Look forward positive' l.once ks)
        refl) in
        enter_called c ok q n asserted.node _ _ _ _ _ (deep c ok q spot stack caps v n asserted.node) p asserted.first
        asserted.second refl x r forward positive' l.once ks
        (e ∙ ap (λ y. tree.seq (tree.more (tree.callout x) (tree.more y tree.none))) t) t

  -- a lookaround as a test
  module _ (p : ℕ) (test : IsTest c q p) where
    abbrev n : Node
    n = node.Cond (cond.Assert test.part) test.asserted.first test.asserted.second

    abbrev here : Site
    here = record { node = q; link = spot.frame }

    otherwise : Bool → Moves
    otherwise b = chosen_from c (tree_of c q) b (around c stack spot.frame).depth (spot_state c spot stack caps)
        (past c (around c stack spot.frame).depth (outside c stack caps spot.frame) q) (fail c stack caps)
        (hand c stack caps spot.frame q)

    module _ (ks : List ℕ) (forward positive' : Bool) (l : IsLook c p forward positive' ks) where
      abbrev m : Node
      m = node.Look forward positive' l.once ks

      pub test_parts : All (IsPart c) ks
      test_parts = kid_parts c p m test.inside l.node

      pub test_fixed : not forward ≡ true → All (IsFixedPart c) ks
      test_fixed behind = fixed_look c p m l.node test.inside forward positive' l.once ks refl behind

      -- the frame of the condition is opened around the branches of its test
      module _ (r : Entry) (at : entry_site r ≡ here) (kept : entry_kept r ≡ kept_at spot)
          (plain : taken_back r caps ≡ caps) (same : (a : Around) → frame_around r a ≡ a)
          (room : spot.units < c.setting.matching.frame_limit) (sound : IsSound c spot.left (length caps) stack r)
          (h : Handler) (is : h ≡ caught c (r ∷ stack) caps (suc (length stack))) (z : Moves) where
        test_opens : tested_ahead c q p positive' ks spot stack caps
            ≡ pause (holding c.setting 1 (spot_state c spot stack caps) (λ u.
            branch_paths c.setting (kid_paths c (tree_of c p) (around c stack spot.frame).depth ks) u
            (inside_of c r stack caps).follow z h)) →
            fail c (r ∷ stack) caps ≡ z →
            GoesBy c spot (tested_ahead c q p positive' ks spot stack caps)
            (conf (first_begun c (not forward) p ks spot.place)
            (first_spot c (not forward) ks (record spot { frame = suc (length stack); units = spot.units + 1 }))
            (r ∷ stack) caps)
        test_opens e f =
            opens_by c ok q spot stack caps v n test.asserted.node r at kept plain same room
            p test.inside ks test_parts (branched_look c p m l.node test.inside forward positive' l.once ks refl)
            (λ d k. ap (λ x. beyond_by c x d k p) (sym (tree_by c p m l.node m refl)))
            (branches_by c p m l.node m refl) sound h is z (not forward)
            (behind_look c p m l.node forward positive' l.once ks refl) _ e f

      pub stop_test : c.setting.matching.frame_limit ≤ spot.units
          → tread c.setting spot.left (tested_ahead c q p positive' ks spot stack caps) ≡ answers FrameLimit
      stop_test full = over_units c spot.left _ _ refl (holding_full c.setting _ _ full)

    pub turn_test : (ks : List ℕ) (forward positive : Bool) → IsLook c p forward positive ks
        → spot.units < c.setting.matching.frame_limit →
        GoesBy c spot (tested_ahead c q p positive ks spot stack caps)
        (conf (first_begun c (not forward) p ks spot.place)
        (first_spot c (not forward) ks (record spot { frame = suc (length stack); units = spot.units + 1 }))
        (test_entry positive (record { node = q; link = spot.frame }) (kept_at spot) ∷ stack) caps)
    unfolding fail otherwise
    turn_test ks forward true l room =
        test_opens ks forward true l (LookTest here (kept_at spot)) refl refl refl (λ a. refl) room (
          v.running.0,
          v.running.1,
          condition_here c ok q v.running.0 n test.asserted.node (cond.Assert test.part)
              test.asserted.first test.asserted.second refl,
          v.running.2,
        ) (λ w. pause (otherwise false))
        (caught_at c (LookTest here (kept_at spot)) stack caps refl refl) (pause (otherwise false))
        refl refl
    turn_test ks forward false l room =
        test_opens ks forward false l (DenialTest here (kept_at spot)) refl refl refl (λ a. refl) room (
          v.running.0,
          v.running.1,
          condition_here c ok q v.running.0 n test.asserted.node (cond.Assert test.part)
              test.asserted.first test.asserted.second refl,
          v.running.2,
        ) (λ w. pause (otherwise true))
        (caught_at c (DenialTest here (kept_at spot)) stack caps refl refl) (pause (otherwise true))
        refl refl

-- A test is a lookaround, or a callout and a lookaround after it.

stray_nested : (ts : List Nested) (n : Node) → is_test (nest ts n) ≡ true →
    ((a b o : Bool) (ks : List ℕ) → n ≡ node.Look a b o ks → ⊥) → ((ks : List ℕ) → n ≡ node.Seq ks → ⊥) → ⊥
stray_nested ts (node.Look a b o ks) e x y = x a b o ks refl
stray_nested ts (node.Seq ks) e x y = y ks refl
stray_nested ts (node.Group number ks) e x y = false≢true e
stray_nested ts _ e x y = false≢true e

pub stray_test : (c : Ground) (p : ℕ) (n : Node) → IsNode c p n → is_test (tree_of c p) ≡ true →
    ((a b o : Bool) (ks : List ℕ) → n ≡ node.Look a b o ks → ⊥) → ((ks : List ℕ) → n ≡ node.Seq ks → ⊥) → ⊥
stray_test c p n i e x y = stray_nested c.trees n (subst (λ t. is_test t ≡ true) (sym i.is) e) x y

look_node : (ts : List Nested) (n : Node) (ahead' positive once : Bool) (rs : Row)
    → nest ts n ≡ tree.look ahead' positive once rs → ((a p o : Bool) (ks : List ℕ) → n ≡ node.Look a p o ks → ⊥) → ⊥
look_node ts (node.Look a p o ks) ahead' positive once rs e x = x a p o ks refl
look_node ts _ ahead' positive once rs e x = cc

callout_node : (ts : List Nested) (n : Node) (x : Callout) → nest ts n ≡ tree.callout x
    → ((number from to at len : ℕ) → n ≡ node.Callout number from to at len → ⊥) → ⊥
callout_node ts (node.Callout number from to at len) x e y = y number from to at len refl
callout_node ts _ x e y = cc

-- the parts of the second
pub record IsCalledLook (a b : Nested) : Type 0 where
  pub callout : Callout
  pub forward : Bool
  pub positive : Bool
  pub once : Bool
  pub branches : Row
  pub first : a ≡ tree.callout callout
  pub second : b ≡ tree.look forward positive once branches

called_look : (a b : Nested) → is_test (tree.seq (tree.more a (tree.more b tree.none))) ≡ true → IsCalledLook a b
called_look (tree.callout x) (tree.look forward positive once ts) e =
    record {
      callout = x;
      forward = forward;
      positive = positive;
      once = once;
      branches = ts;
      first = refl;
      second = refl;
    }
called_look _ _ e = absurd (false≢true e)

one_is_none : (a : Nested) → is_test (tree.seq (tree.more a tree.none)) ≡ true → ⊥
one_is_none (tree.callout x) e = false≢true e
one_is_none _ e = false≢true e

three_are_none : (a b d : Nested) (ts : Row) → is_test (tree.seq (tree.more a (tree.more b (tree.more d ts)))) ≡ true
    → ⊥
three_are_none (tree.callout x) (tree.look forward positive once rs) d ts e = false≢true e
three_are_none _ _ d ts e = false≢true e

parts_of_test : (trees : List Nested) (ks : List ℕ) → is_test (tree.seq (row (map (tree_at trees) ks))) ≡ true
    → ks ≡ slice_index ks 0 ∷ slice_index ks 1 ∷ []
parts_of_test trees [] e = absurd (false≢true e)
parts_of_test trees (a ∷ []) e = absurd (one_is_none (tree_at trees a) e)
parts_of_test trees (a ∷ b ∷ []) e = refl
parts_of_test trees (a ∷ b ∷ d ∷ ks) e =
    absurd (three_are_none (tree_at trees a) (tree_at trees b) (tree_at trees d) (row (map (tree_at trees) ks)) e)

module _ (c : Ground) (p : ℕ) (ks : List ℕ) (i : IsNode c p (node.Seq ks)) (tested : is_test (tree_of c p) ≡ true) where
  pub two_parts : ks ≡ slice_index ks 0 ∷ slice_index ks 1 ∷ []
  two_parts = parts_of_test c.trees ks (subst (λ t. is_test t ≡ true) (sym i.is) tested)

  pub two_long : length ks ≡ 2
  two_long = ap length two_parts

  module _ (a b : ℕ) (is : ks ≡ a ∷ b ∷ []) where
    pub called_is : tree_of c p ≡ tree.seq (tree.more (tree_of c a) (tree.more (tree_of c b) tree.none))
    called_is = sym i.is ∙ ap (λ (xs : List ℕ). tree.seq (row (map (tree_at c.trees) xs))) is

    look_called : IsCalledLook (tree_of c a) (tree_of c b)
    look_called = called_look (tree_of c a) (tree_of c b) (subst (λ t. is_test t ≡ true) called_is tested)

    pub called_parts : IsPart c p → IsPart c a × IsPart c b
    called_parts inside =
        let all : All (IsPart c) (a ∷ b ∷ []) = subst (All (IsPart c)) is (kid_parts c p (node.Seq ks) inside i) in
        (All-head (IsPart c) a (b ∷ []) all, All-head (IsPart c) b [] (All-tail (IsPart c) a (b ∷ []) all))

    pub stray_callout : (n : Node) → IsNode c a n
        → ((number from to at len : ℕ) → n ≡ node.Callout number from to at len → ⊥) → ⊥
    stray_callout n j x = callout_node c.trees n look_called.callout (j.is ∙ look_called.first) x

    pub stray_look : (n : Node) → IsNode c b n → ((a' p' o : Bool) (ns : List ℕ) → n ≡ node.Look a' p' o ns → ⊥) → ⊥
    stray_look n j x = look_node c.trees n look_called.forward look_called.positive look_called.once
        look_called.branches (j.is ∙ look_called.second) x

pub look_is : (c : Ground) (p : ℕ) (n : Node) → IsNode c p n → (a b o : Bool) (ks : List ℕ) → n ≡ node.Look a b o ks
    → IsLook c p a b ks
look_is c p n i a b o ks e = record { once = o; node = subst (IsNode c p) e i }

pub test_is : (c : Ground) (q : ℕ) (t : Cond) (yes' : ℕ) (no' : Option ℕ) → IsNode c q (node.Cond t yes' no')
    → (p : ℕ) → t ≡ cond.Assert p → IsAsserted c q p
test_is c q t yes' no' i p e = record {
  first = yes';
  second = no';
  node = subst (λ x. IsNode c q (node.Cond x yes' no')) e i;
}

-- a lookaround that is a test has an outcome
module _ (c : Ground) (ok : IsGround c) (spot : Spot) (records : List Record) (caps : Captures)
    (v : IsValid c (conf End spot (entries records) caps)) (h : ℕ) (height : spot.frame ≡ h + 1)
    (p : Record) (at : slice_get (reverse records) h ≡ Some p) where
  at_height : spot.frame ≡ suc h
  at_height = omega (arith, height)

  -- what is run then
  abbrev further : Bool → Around → Outside → Follow
  further holds a k how u m = chosen_from c (tree_of c p.node) holds a.depth u (past c a.depth k p.node) m
      (k.hand p.node)

  pub test_sound : (holds : Bool) → p.kind ≡ test_kind holds → IsPart c p.node × IsCondition c (tree_of c p.node)
  test_sound true kind = let g = framed c spot.left (length caps) records caps h p (LookTest (site_of p) (kept_of p))
      (entry_of-look_test p kind) v.records (within_frame c _ _ _ at_height v.running.contained) at in
      (g.sound.0, g.sound.2)
  test_sound false kind = let g = framed c spot.left (length caps) records caps h p
      (DenialTest (site_of p) (kept_of p)) (entry_of-denial_test p kind) v.records
      (within_frame c _ _ _ at_height v.running.contained) at in (g.sound.0, g.sound.2)

  test_here : (holds : Bool) → p.kind ≡ test_kind holds → c.stands p.place ≡ true
  test_here true kind = let g = framed c spot.left (length caps) records caps h p (LookTest (site_of p) (kept_of p))
      (entry_of-look_test p kind) v.records (within_frame c _ _ _ at_height v.running.contained) at in g.sound.1.here
  test_here false kind = let g = framed c spot.left (length caps) records caps h p
      (DenialTest (site_of p) (kept_of p)) (entry_of-denial_test p kind) v.records
      (within_frame c _ _ _ at_height v.running.contained) at in g.sound.1.here

  pub stop_test_left : (holds : Bool) → p.kind ≡ test_kind holds → c.setting.matching.frame_limit ≤ spot.units
      → tread c.setting spot.left (ahead c (conf End spot (entries records) caps)) ≡ answers FrameLimit
  stop_test_left true kind full =
      stop_leave c ok spot records caps v h at_height p at (site_of p) (kept_of p) (LookTest (site_of p) (kept_of p))
      (entry_of-look_test p kind) refl refl (λ a. refl) (λ below s. (s.0, s.1))
      p.place p.keep (test_here true kind) (further true) (λ a b k x out f. refl) full
  stop_test_left false kind full =
      stop_leave c ok spot records caps v h at_height p at (site_of p) (kept_of p)
      (DenialTest (site_of p) (kept_of p)) (entry_of-denial_test p kind) refl refl (λ a. refl)
      (λ below s. (s.0, s.1))
      p.place p.keep (test_here false kind) (further false) (λ a b k x out f. refl) full

  pub turn_test_left : (holds : Bool) → p.kind ≡ test_kind holds → (next : Next) → IsChoice c p.node holds next
      → spot.units < c.setting.matching.frame_limit →
      Advances c (conf End spot (entries records) caps)
      (conf next (record spot {
        place = p.place;
        keep = p.keep;
        passed = p.passed;
        frame = p.link;
        units = spot.units + 1;
      })
      (AtomicLeft (record { node = p.node; link = p.link }) (kept_at (record spot { frame = p.link })) h ∷ entries
      records) caps)
  turn_test_left true kind next choice room =
      turn_leave c ok spot records caps v h at_height p at (site_of p) (kept_of p) (LookTest (site_of p) (kept_of p))
      (entry_of-look_test p kind) refl refl (λ a. refl) (λ below s. (s.0, s.1))
      p.place p.keep (test_here true kind) (further true) (λ a b k x out f. refl)
      next (λ s m. choice.goes _ (outside c (entries records) caps p.link) s m
      (λ x same. hand_same c (entries records) caps p.link x p.node same)) choice.runs choice.begun room
  turn_test_left false kind next choice room =
      turn_leave c ok spot records caps v h at_height p at (site_of p) (kept_of p)
      (DenialTest (site_of p) (kept_of p)) (entry_of-denial_test p kind) refl refl (λ a. refl)
      (λ below s. (s.0, s.1))
      p.place p.keep (test_here false kind) (further false) (λ a b k x out f. refl)
      next (λ s m. choice.goes _ (outside c (entries records) caps p.link) s m
      (λ x same. hand_same c (entries records) caps p.link x p.node same)) choice.runs choice.begun room

pub test_record : (positive : Bool) (spot : Spot) (q : ℕ)
    → entry_of (record_at spot (test_kind positive) q 0 0 0) ≡ test_entry positive
    (record { node = q; link = spot.frame }) (kept_at spot)
unfolding entry_in
test_record true spot q = refl
test_record false spot q = refl
