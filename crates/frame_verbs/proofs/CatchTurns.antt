-- The steps of the machine where a verb was backtracked onto.
use Rattle.std.proofs.Common.{◌≡◌, ◌≢◌, ℕ, zero, suc, ◌≤◌, ◌∙◌, Bool, true, false, List, [], ◌∷◌, ◌++◌, reverse}
use Rattle.std.proofs.Common.{Some, length, slice_get, inl, inr, refl, sym, ap, subst, arith, length-append, Option}
use Rattle.std.proofs.Common.{None, IfSome, option_map, if◌then◌else◌, nat_eq}
use Rattle.std.proofs.lemmas.Bool.{cases_eq, cond-true, cond-false, eq-eqb, ne_eqb}
use Rattle.std.proofs.Common.{All}
use Rattle.frame_store.specs.declared.records.Record.{Record}
use Rattle.frame_store.specs.declared.kinds.TheConstants.{KIND_DENIAL_OPEN, KIND_LOOK_TEST, KIND_DENIAL_TEST}
use Rattle.frame_store.specs.declared.kinds.TheConstants.{KIND_CALL_OPEN}
use Rattle.frame_store.specs.Captures.{Captures}
use Rattle.frame_store.specs.Entry.{Entry, LookTest, DenialOpen, DenialTest, CallOpen, entry_of, entries, entry_kind}
use Rattle.frame_store.specs.Entry.{entry_site}
use Rattle.frame_store.specs.Stack as stack_of
use Rattle.frame_store.specs.Undo.{HasSlot, taken_back, undone}
use Rattle.frame_store.proofs.EntryLemmas.{entry_of-look_test, entry_of-denial_open, entry_of-denial_test}
use Rattle.frame_store.proofs.EntryLemmas.{entry_of-call_open, entry_kind-not}
use Rattle.frame_store.proofs.StackLemmas.{up_to-map}
use Rattle.ordered_search.specs.Stream.{VerbEnding, next_branch, prune}
use Rattle.ordered_search.specs.PlaceAnswer.{Failed, answers, at_verb}
use Rattle.ordered_search.specs.Moves.{Moves, pause, Handler, at_verbs, tread}
use Rattle.frame_state.specs.declared.machine.Acting.{Acting}
use Rattle.frame_state.specs.declared.machine.Acting.TheVariants as acting
use Rattle.frame_state.specs.declared.machine.Next.TheVariants.{Back, Act, Leave}
use Rattle.frame_state.specs.declared.machine.Spot.{Spot}
use Rattle.frame_state.specs.Ground.{Ground, IsGround}
use Rattle.frame_state.specs.Machine.{link_of, ending_of, conf}
use Rattle.frame_state.specs.Frames.{is_catching, caught, fail, fail_to, ahead, hand, frame_hand, began}
use Rattle.frame_state.specs.Frames.{is_catching_then}
use Rattle.frame_verbs.specs.Catching.{AreSoundParts, catcher, left_height}
use Rattle.frame_state.specs.Calls.{AreNested}
use Rattle.frame_state.specs.Validity.{AreSound, IsValid, Advances}
use Rattle.frame_state.proofs.Frames.{caught_here, caught_below, hand_of, part_sound, link_sound, contained_sound}
use Rattle.frame_state.proofs.Frames.{began_low, fail_to_here, fail_to_below}
use Rattle.frame_state.proofs.Splits.{split}
use Rattle.frame_state.proofs.Drops.{fail_to_is, dropped, past_slots}
use Rattle.frame_state.proofs.CallFrames.{link_is, nested, nested_deep}
use Rattle.frame_state.proofs.Advance.{advance_pause}

-- The innermost frame that catches.

catcher_here : (r : Entry) (below : List Entry) (l : ℕ) → l ≡ suc (length below) →
    catcher (r ∷ below) l ≡ elim (is_catching r) [ true ↦ l | false ↦ catcher below (link_of r) ]
unfolding catcher
catcher_here r below l e = cond-true _ _ _ (eq-eqb _ _ e)

catcher_below : (r : Entry) (below : List Entry) (l : ℕ) → (l ≡ suc (length below) → ⊥)
    → catcher (r ∷ below) l ≡ catcher below l
unfolding catcher
catcher_below r below l n = cond-false _ _ _ (ne_eqb _ _ n)

catcher_none : (l : ℕ) → catcher [] l ≡ 0
unfolding catcher
catcher_none l = refl

pub catcher_whole : (stack : List Entry) → catcher stack 0 ≡ 0
catcher_whole [] = catcher_none 0
catcher_whole (r ∷ below) = catcher_below r below 0 (λ e. omega (arith, e)) ∙ catcher_whole below

catcher_deep : (above base : List Entry) (l : ℕ) → l ≤ length base → catcher (above ++ base) l ≡ catcher base l
catcher_deep [] base l h = refl
catcher_deep (p ∷ above) base l h =
    catcher_below p (above ++ base) l (λ e. omega (arith, e, h, length-append above base)) ∙ catcher_deep above base l h

-- it lies at or below the height
catcher_low : (stack : List Entry) → AreNested stack → (l : ℕ) → l ≤ length stack → catcher stack l ≤ l
catcher_low [] n l le = let none = catcher_none l in omega (arith, none)
catcher_low (r ∷ below) n l le =
    elim (cases_eq l (suc (length below))) [
      | inl here ↦
          let outer : catcher below (link_of r) ≤ link_of r = catcher_low below n.2 (link_of r) n.0 in
          let either : (b : Bool) → elim b [ true ↦ l | false ↦ catcher below (link_of r) ] ≤ l =
          elim [ true ↦ omega arith | false ↦ omega (arith, outer, n.0, here) ] in
          subst (λ k. k ≤ l) (sym (catcher_here r below l here)) (either (is_catching r))
      | inr not ↦
          let low : l ≤ length below = omega (arith, le, not) in
          subst (λ k. k ≤ l) (sym (catcher_below r below l not)) (catcher_low below n.2 l low)
    ]

-- of the records
module _ (records : List Record) (n : AreNested (entries records)) (i : ℕ) (p : Record)
    (at : slice_get (reverse records) i ≡ Some p) where
  frame_catcher : catcher (entries records) (suc i) ≡ elim (is_catching (entry_of p))
      [ true ↦ suc i | false ↦ catcher (entries records) p.link ]
  frame_catcher =
      let z = split records i p at in
      let r : Entry = entry_of p in
      let inner : AreNested (r ∷ z.below) = nested_deep z.above (r ∷ z.below) (subst AreNested z.is n) in
      let low : link_of r ≤ length z.below = inner.0 in
      let same : catcher (entries records) (link_of r) ≡ catcher z.below (link_of r) =
      ap (λ (es : List Entry). catcher es (link_of r)) z.is
      ∙ catcher_deep z.above (r ∷ z.below) (link_of r) (omega (arith, low))
      ∙ catcher_below r z.below (link_of r) (λ e. omega (arith, e, low)) in
      let there : catcher z.below (link_of r) ≡ catcher (entries records) p.link = sym same
      ∙ ap (catcher (entries records)) (link_is p) in
      ap (λ (es : List Entry). catcher es (suc i)) z.is
      ∙ catcher_deep z.above (r ∷ z.below) (suc i) (omega (arith, z.height))
      ∙ catcher_here r z.below (suc i) z.height
      ∙ ap (λ k. elim (is_catching r) [ true ↦ suc i | false ↦ k ]) there

  module _ (height : ℕ) (is : height ≡ suc i) where
    pub catcher_found : is_catching (entry_of p) ≡ true → catcher (entries records) height ≡ height
    catcher_found yes' =
        ap (catcher (entries records)) is ∙ frame_catcher
        ∙ ap (λ (b : Bool). elim b [ true ↦ suc i | false ↦ catcher (entries records) p.link ]) yes' ∙ sym is

    pub catcher_outer : is_catching (entry_of p) ≡ false
        → catcher (entries records) height ≡ catcher (entries records) p.link
    catcher_outer no' =
        ap (catcher (entries records)) is ∙ frame_catcher
        ∙ ap (λ (b : Bool). elim b [ true ↦ suc i | false ↦ catcher (entries records) p.link ]) no'

-- which frames do
pub catches_denial : (p : Record) → p.kind ≡ KIND_DENIAL_OPEN → true ≡ is_catching (entry_of p)
catches_denial p e = sym (ap is_catching (entry_of-denial_open p e))

pub catches_look_test : (p : Record) → p.kind ≡ KIND_LOOK_TEST → true ≡ is_catching (entry_of p)
catches_look_test p e = sym (ap is_catching (entry_of-look_test p e))

pub catches_denial_test : (p : Record) → p.kind ≡ KIND_DENIAL_TEST → true ≡ is_catching (entry_of p)
catches_denial_test p e = sym (ap is_catching (entry_of-denial_test p e))

pub catches_call : (p : Record) → p.kind ≡ KIND_CALL_OPEN → true ≡ is_catching (entry_of p)
catches_call p e = sym (ap is_catching (entry_of-call_open p e))

passes_on : (r : Entry) → entry_kind r ≢ KIND_DENIAL_OPEN → entry_kind r ≢ KIND_LOOK_TEST
    → entry_kind r ≢ KIND_DENIAL_TEST → entry_kind r ≢ KIND_CALL_OPEN → false ≡ is_catching r
passes_on (DenialOpen at kept) n1 n2 n3 n4 = absurd (n1 refl)
passes_on (LookTest at kept) n1 n2 n3 n4 = absurd (n2 refl)
passes_on (DenialTest at kept) n1 n2 n3 n4 = absurd (n3 refl)
passes_on (CallOpen at kept group last) n1 n2 n3 n4 = absurd (n4 refl)
passes_on _ n1 n2 n3 n4 = refl

pub catches_not : (p : Record) → p.kind ≢ KIND_DENIAL_OPEN → p.kind ≢ KIND_LOOK_TEST → p.kind ≢ KIND_DENIAL_TEST
    → p.kind ≢ KIND_CALL_OPEN → false ≡ is_catching (entry_of p)
catches_not p n1 n2 n3 n4 =
    passes_on (entry_of p) (entry_kind-not p KIND_DENIAL_OPEN (omega arith) n1)
    (entry_kind-not p KIND_LOOK_TEST (omega arith) n2)
    (entry_kind-not p KIND_DENIAL_TEST (omega arith) n3) (entry_kind-not p KIND_CALL_OPEN (omega arith) n4)

-- Where verbs lead.

module _ (c : Ground) where
  -- with the catching frame at a height
  caught_to : List Entry → Captures → VerbEnding → ℕ → Moves
  caught_to stack caps v zero = at_verbs v
  caught_to stack caps v (suc h) = fail_to c stack caps (suc h)

  caught_to_push : (r : Entry) (below : List Entry) (caps : Captures) (v : VerbEnding) (h : ℕ) → h ≤ length below →
      caught_to (r ∷ below) caps v h ≡ caught_to below (taken_back r caps) v h
  unfolding caught_to
  caught_to_push r below caps v zero le = refl
  caught_to_push r below caps v (suc h) le = fail_to_below c r below caps (suc h) (λ e. omega (arith, e, le))

  caught_to_here : (r : Entry) (below : List Entry) (caps : Captures) (v : VerbEnding) (l : ℕ)
      → l ≡ suc (length below) →
      fail c (r ∷ below) caps ≡ caught_to (r ∷ below) caps v l
  unfolding caught_to
  caught_to_here r below caps v l here =
      sym (fail_to_here c r below caps (suc (length below)) refl) ∙ ap (caught_to (r ∷ below) caps v) (sym here)

  -- a verb but THEN leads to the same in all parts, and is handed on by frames that don't catch it
  hand_acting : (stack : List Entry) (caps : Captures) (l q : ℕ) (a : Acting)
      → hand c stack caps l q (ending_of a) ≡ caught c stack caps l (ending_of a)
  hand_acting stack caps l q acting.Prune = refl
  hand_acting stack caps l q (acting.Skip p) = refl
  hand_acting stack caps l q acting.Commit = refl

  frame_acting : (r : Entry) (below : List Entry) (caps : Captures) (l : ℕ) (x : Moves) (a : Acting) →
      frame_hand r (hand c below caps l) x (ending_of a) ≡ elim (is_catching r)
      [ true ↦ x | false ↦ caught c below caps l (ending_of a) ]
  frame_acting r below caps l x acting.Prune = refl
  frame_acting r below caps l x (acting.Skip p) = refl
  frame_acting r below caps l x acting.Commit = refl

  caught_none : (caps : Captures) (v : VerbEnding) (l : ℕ) → caught c [] caps l v ≡ caught_to [] caps v (catcher [] l)
  unfolding fail catcher caught_to
  caught_none caps v l = refl

  caught_is : (stack : List Entry) (caps : Captures) (a : Acting) (l : ℕ) → AreNested stack → l ≤ length stack →
      caught c stack caps l (ending_of a) ≡ caught_to stack caps (ending_of a) (catcher stack l)
  caught_is [] caps a l n le = caught_none caps (ending_of a) l
  caught_is (r ∷ below) caps a l n le =
      let v : VerbEnding = ending_of a in
      elim (cases_eq l (suc (length below))) [
        | inl here ↦
            let outer : caught c below (taken_back r caps) (link_of r) v ≡ caught_to below (taken_back r caps) v
            (catcher below (link_of r)) =
            caught_is below (taken_back r caps) a (link_of r) n.2 n.0 in
            let low : catcher below (link_of r) ≤ length below = let z = catcher_low below n.2 (link_of r) n.0 in
            omega (arith, z, n.0) in
            let either : (b : Bool) → ◌≡◌ {A = Moves}
            (elim b [ true ↦ fail c (r ∷ below) caps | false ↦ caught c below (taken_back r caps) (link_of r) v ])
            (caught_to (r ∷ below) caps v (elim b [ true ↦ l | false ↦ catcher below (link_of r) ])) =
            elim [
              | true ↦ caught_to_here r below caps v l here
              | false ↦ outer ∙ sym (caught_to_push r below caps v (catcher below (link_of r)) low)
            ] in
            ap (λ (z : Handler). z v) (caught_here c r below caps l here)
            ∙ frame_acting r below (taken_back r caps) (link_of r) (fail c (r ∷ below) caps) a
            ∙ either (is_catching r)
            ∙ ap (caught_to (r ∷ below) caps v) (sym (catcher_here r below l here))
        | inr not ↦
            let low : l ≤ length below = omega (arith, le, not) in
            let lower : catcher below l ≤ length below = let z = catcher_low below n.2 l low in omega (arith, z, low) in
            ap (λ (z : Handler). z v) (caught_below c r below caps l not)
            ∙ caught_is below (taken_back r caps) a l n.2 low
            ∙ sym (caught_to_push r below caps v (catcher below l) lower)
            ∙ ap (caught_to (r ∷ below) caps v) (sym (catcher_below r below l not))
      ]

  -- THEN.

  -- the parts of sound records are the pattern's
  pub sound_parts : (left slots : ℕ) (stack : List Entry) → AreSound c left slots stack → AreSoundParts c stack
  sound_parts left slots [] s = tt
  sound_parts left slots (r ∷ below) s = (
    part_sound c left slots below r s.0,
    link_sound c left slots below r s.0,
    contained_sound c left slots below r s.0,
    sound_parts left slots below s.1,
  )

  -- with the height down to which it gives up
  left_to : List Entry → Captures → Option ℕ → Moves
  left_to stack caps None = at_verbs next_branch
  left_to stack caps (Some h) = fail_to c stack caps h

  abbrev Within : ℕ → Option ℕ → Type 0
  Within n o = IfSome o (λ h. h ≤ n)

  within_more : (n : ℕ) (o : Option ℕ) → Within n o → Within (suc n) o
  within_more n None h = tt
  within_more n (Some k) h = omega (arith, h)

  left_to_push : (r : Entry) (below : List Entry) (caps : Captures) (o : Option ℕ) → Within (length below) o
      → left_to (r ∷ below) caps o ≡ left_to below (taken_back r caps) o
  unfolding left_to
  left_to_push r below caps None h = refl
  left_to_push r below caps (Some k) h = fail_to_below c r below caps k (λ e. omega (arith, e, h))

  -- by the branch around the part
  unfoldable pub left_by : List Entry → ℕ → ℕ → Option ℕ → Option ℕ
  left_by [] l q o = option_map (λ b. 0) o
  left_by (r ∷ below) l q (Some b) = Some (began c (r ∷ below) l b (length (r ∷ below)))
  left_by (r ∷ below) l q None =
      if nat_eq l (suc (length below))
      then elim (is_catching_then r) [ true ↦ Some l | false ↦ left_height c below (link_of r) (entry_site r).node ]
      else left_height c below l q

  pub left_is : (stack : List Entry) (l q : ℕ) (o : Option ℕ) → c.branch q ≡ o
      → left_height c stack l q ≡ left_by stack l q o
  unfolding left_height left_by
  left_is [] l q o e = ap (λ (x : Option ℕ). option_map (λ b. 0) x) e
  left_is (r ∷ below) l q None e = ap (λ (x : Option ℕ). left_by (r ∷ below) l q x) e
  left_is (r ∷ below) l q (Some b) e = ap (λ (x : Option ℕ). left_by (r ∷ below) l q x) e

  pub left_here : (r : Entry) (below : List Entry) (l q : ℕ) → c.branch q ≡ None → l ≡ suc (length below) →
      left_height c (r ∷ below) l q ≡ elim (is_catching_then r) [
        | true ↦ Some l
        | false ↦
            left_height c below (link_of r) (entry_site r).node
      ]
  unfolding left_by
  left_here r below l q none e = left_is (r ∷ below) l q None none ∙ cond-true _ _ _ (eq-eqb _ _ e)

  pub left_below : (r : Entry) (below : List Entry) (l q : ℕ) → c.branch q ≡ None → (l ≡ suc (length below) → ⊥)
      → left_height c (r ∷ below) l q ≡ left_height c below l q
  unfolding left_by
  left_below r below l q none n = left_is (r ∷ below) l q None none ∙ cond-false _ _ _ (ne_eqb _ _ n)

  -- it lies in the stack
  left_low : (stack : List Entry) → AreNested stack → (l q : ℕ) → l ≤ length stack → (o : Option ℕ) → c.branch q ≡ o
      → Within (length stack) (left_height c stack l q)
  unfolding left_by
  left_low [] n l q le None e = subst (Within 0) (sym (left_is [] l q None e)) tt
  left_low [] n l q le (Some b) e = subst (Within 0) (sym (left_is [] l q (Some b) e)) (omega arith)
  left_low (r ∷ below) n l q le (Some b) e =
      subst (Within (length (r ∷ below))) (sym (left_is (r ∷ below) l q (Some b) e))
      (began_low c (r ∷ below) l b (length (r ∷ below)) (omega arith))
  left_low (r ∷ below) n l q le None e =
      elim (cases_eq l (suc (length below))) [
        | inl here ↦
            let outer : Within (length below) (left_height c below (link_of r) (entry_site r).node) =
            left_low below n.2 (link_of r) (entry_site r).node n.0 (c.branch (entry_site r).node) refl in
            let either : (b : Bool) → Within (length (r ∷ below))
            (elim b as (λ x. Option ℕ) [
              | true ↦ Some l
              | false ↦
                  left_height c below (link_of r) (entry_site r).node
            ]) =
            elim [
              | true ↦ le
              | false ↦ within_more (length below)
                  (left_height c below (link_of r) (entry_site r).node) outer
            ] in
            subst (Within (length (r ∷ below))) (sym (left_here r below l q e here)) (either (is_catching_then r))
        | inr not ↦
            subst (Within (length (r ∷ below))) (sym (left_below r below l q e not))
            (within_more (length below) (left_height c below l q)
            (left_low below n.2 l q (omega (arith, le, not)) None e))
      ]

  then_is : (stack : List Entry) (caps : Captures) (l q : ℕ) → AreNested stack → l ≤ length stack → (o : Option ℕ)
      → c.branch q ≡ o →
      hand c stack caps l q next_branch ≡ left_to stack caps (left_height c stack l q)
  unfolding left_to left_by fail
  then_is [] caps l q n le None e = hand_of c [] caps l q None e ∙ ap (left_to [] caps) (sym (left_is [] l q None e))
  then_is [] caps l q n le (Some b) e = hand_of c [] caps l q (Some b) e
      ∙ ap (left_to [] caps) (sym (left_is [] l q (Some b) e))
  then_is (r ∷ below) caps l q n le (Some b) e =
      hand_of c (r ∷ below) caps l q (Some b) e ∙ ap (left_to (r ∷ below) caps)
      (sym (left_is (r ∷ below) l q (Some b) e))
  then_is (r ∷ below) caps l q n le None e =
      elim (cases_eq l (suc (length below))) [
        | inl here ↦
            let p : ℕ = (entry_site r).node in
            let outer : hand c below (taken_back r caps) (link_of r) p next_branch ≡ left_to below (taken_back r caps)
            (left_height c below (link_of r) p) =
            then_is below (taken_back r caps) (link_of r) p n.2 n.0 (c.branch p) refl in
            let low : Within (length below) (left_height c below (link_of r) p) =
            left_low below n.2 (link_of r) p n.0 (c.branch p) refl in
            let either : (b : Bool) → ◌≡◌ {A = Moves}
            (elim b [
              | true ↦ fail c (r ∷ below) caps
              | false ↦
                  hand c below (taken_back r caps) (link_of r) p next_branch
            ])
            (left_to (r ∷ below) caps (elim b as (λ x. Option ℕ) [
              | true ↦ Some l
              | false ↦
                  left_height c below (link_of r) p
            ])) =
            elim [
              | true ↦ sym (fail_to_here c r below caps l here)
              | false ↦ outer ∙ sym (left_to_push r below caps (left_height c below (link_of r) p) low)
            ] in
            hand_of c (r ∷ below) caps l q None e
            ∙ ap (λ (z : Handler). z next_branch) (caught_here c r below caps l here)
            ∙ either (is_catching_then r)
            ∙ ap (left_to (r ∷ below) caps) (sym (left_here r below l q e here))
        | inr not ↦
            let low : l ≤ length below = omega (arith, le, not) in
            hand_of c (r ∷ below) caps l q None e
            ∙ ap (λ (z : Handler). z next_branch) (caught_below c r below caps l not)
            ∙ sym (hand_of c below (taken_back r caps) l q None e)
            ∙ then_is below (taken_back r caps) l q n.2 low None e
            ∙ sym (left_to_push r below caps (left_height c below l q) (left_low below n.2 l q low None e))
            ∙ ap (left_to (r ∷ below) caps) (sym (left_below r below l q e not))
      ]

  module _ (ok : IsGround c) (q : ℕ) (spot : Spot) (stack : List Entry) (caps : Captures)
      (v : IsValid c (conf (Leave q) spot stack caps)) where
    leave_nested : AreNested stack
    leave_nested = nested c spot.left (length caps) stack v.records

    at_leave : ahead c (conf (Leave q) spot stack caps) ≡ pause (left_to stack caps (left_height c stack spot.frame q))
    at_leave = ap pause (then_is stack caps spot.frame q leave_nested v.running.1.inside (c.branch q) refl)

    pub stop_leave : left_height c stack spot.frame q ≡ None
        → tread c.setting spot.left (ahead c (conf (Leave q) spot stack caps)) ≡ answers (Failed (at_verb prune))
    unfolding tread left_to
    stop_leave none = ap (tread c.setting spot.left) (at_leave ∙ ap (λ o. pause (left_to stack caps o)) none)

    pub leave_low : (h : ℕ) → left_height c stack spot.frame q ≡ Some h → h ≤ length stack
    leave_low h e = subst (Within (length stack)) e
        (left_low stack leave_nested spot.frame q v.running.1.inside (c.branch q) refl)

    pub turn_leave : (h : ℕ) → left_height c stack spot.frame q ≡ Some h →
        Advances c (conf (Leave q) spot stack caps)
        (conf Back spot (stack_of.up_to h stack) (undone (stack_of.past h stack) caps))
    unfolding left_to
    turn_leave h e =
        advance_pause c _ _ _
        (at_leave ∙ ap (λ o. pause (left_to stack caps o)) e)
        (sym (fail_to_is c stack caps h (leave_low h e))) refl
        (dropped c ok spot stack caps h v.records v.spans v.slots)

  module _ (ok : IsGround c) (a : Acting) (spot : Spot) (stack : List Entry) (caps : Captures)
      (v : IsValid c (conf (Act a) spot stack caps)) where
    pub act_nested : AreNested stack
    act_nested = nested c spot.left (length caps) stack v.records

    at_act : ahead c (conf (Act a) spot stack caps) ≡ pause
        (caught_to stack caps (ending_of a) (catcher stack spot.frame))
    at_act = ap pause (hand_acting stack caps spot.frame 0 a
        ∙ caught_is stack caps a spot.frame act_nested v.running.0.inside)

    pub stop_act : catcher stack spot.frame ≡ 0 → tread c.setting spot.left
        (ahead c (conf (Act a) spot stack caps)) ≡ answers (Failed (at_verb (ending_of a)))
    unfolding tread caught_to
    stop_act none = ap (tread c.setting spot.left)
        (at_act ∙ ap (λ h. pause (caught_to stack caps (ending_of a) h)) none)

    act_low : catcher stack spot.frame ≤ length stack
    act_low = let z = catcher_low stack act_nested spot.frame v.running.0.inside in omega (arith, z, v.running.0.inside)

    turn_act : (h : ℕ) → catcher stack spot.frame ≡ suc h →
        Advances c (conf (Act a) spot stack caps)
        (conf Back spot (stack_of.up_to (suc h) stack) (undone (stack_of.past (suc h) stack) caps))
    unfolding caught_to
    turn_act h e =
        let low : suc h ≤ length stack = omega (arith, e, act_low) in
        advance_pause c _ _ _
        (at_act ∙ ap (λ k. pause (caught_to stack caps (ending_of a) k)) e)
        (sym (fail_to_is c stack caps (suc h) low)) refl
        (dropped c ok spot stack caps (suc h) v.records v.spans v.slots)

  -- of the records
  module _ (ok : IsGround c) (a : Acting) (spot : Spot) (records : List Record) (caps : Captures)
      (v : IsValid c (conf (Act a) spot (entries records) caps)) (height : ℕ)
      (is : height ≡ catcher (entries records) spot.frame) where
    pub act_within : height ≤ length (entries records)
    act_within = let z = act_low ok a spot (entries records) caps v in omega (arith, z, is)

    pub act_slots : All (HasSlot caps) (stack_of.past height (entries records))
    act_slots = past_slots c ok spot.left caps (entries records) height v.records

    acts : (h : ℕ) → height ≡ h → (h ≡ 0 → ⊥) → Advances c (conf (Act a) spot (entries records) caps)
        (conf Back spot (stack_of.up_to h (entries records)) (undone (stack_of.past h (entries records)) caps))
    acts zero e some = absurd (some refl)
    acts (suc h) e some = turn_act ok a spot (entries records) caps v h (sym is ∙ e)

    pub turn_acts : (height ≡ 0 → ⊥) → (rest : List Record) → rest ≡ stack_of.up_to height records
        → (after : Captures) → after ≡ undone (stack_of.past height (entries records)) caps →
        Advances c (conf (Act a) spot (entries records) caps) (conf Back spot (entries rest) after)
    turn_acts some rest cut after put =
        let same : entries rest ≡ stack_of.up_to height (entries records) = ap entries cut
        ∙ sym (up_to-map entry_of height records) in
        subst (λ x. Advances c (conf (Act a) spot (entries records) caps) (conf Back spot (entries rest) x)) (sym put)
        (subst (λ st. Advances c (conf (Act a) spot (entries records) caps)
        (conf Back spot st (undone (stack_of.past height (entries records)) caps))) (sym same)
        (acts height refl some))

  -- a THEN, of the records
  module _ (ok : IsGround c) (q : ℕ) (spot : Spot) (records : List Record) (caps : Captures)
      (v : IsValid c (conf (Leave q) spot (entries records) caps)) (height : ℕ)
      (is : left_height c (entries records) spot.frame q ≡ Some height) where
    pub leave_within : height ≤ length (entries records)
    leave_within = leave_low ok q spot (entries records) caps v height is

    pub leave_slots : All (HasSlot caps) (stack_of.past height (entries records))
    leave_slots = past_slots c ok spot.left caps (entries records) height v.records

    pub turn_leaves : (rest : List Record) → rest ≡ stack_of.up_to height records → (after : Captures)
        → after ≡ undone (stack_of.past height (entries records)) caps →
        Advances c (conf (Leave q) spot (entries records) caps) (conf Back spot (entries rest) after)
    turn_leaves rest cut after put =
        let same : entries rest ≡ stack_of.up_to height (entries records) = ap entries cut
        ∙ sym (up_to-map entry_of height records) in
        subst (λ x. Advances c (conf (Leave q) spot (entries records) caps) (conf Back spot (entries rest) x)) (sym put)
        (subst (λ st. Advances c (conf (Leave q) spot (entries records) caps)
        (conf Back spot st (undone (stack_of.past height (entries records)) caps))) (sym same)
        (turn_leave ok q spot (entries records) caps v height is))
