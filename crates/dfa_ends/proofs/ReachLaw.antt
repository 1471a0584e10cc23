-- The test of reaching the end computes the relation.
use Rattle.std.proofs.Common.{◌≡◌, ℕ, zero, suc, ◌≤◌, ◌⊎◌, Bool, true, false, List, [], ◌∷◌, length, Option, Some}
use Rattle.std.proofs.Common.{None, refl, sym, subst, ◌∙◌, inl, inr, arith}
use Rattle.std.specs.Prelude.{◌&&◌, ◌||◌, cond, IsTrue}
use Rattle.pat_tree.specs.declared.nodes.Item.{Item}
use Rattle.pat_tree.specs.Nested as tree
use Rattle.pat_tree.specs.Nested.{Nested, Row, Test, Other}
use Rattle.ordered_search.specs.Setting.{Setting, branch_lengths}
use Rattle.dfa_ends.specs.Ends.{Spot, Spots, Way, HasOne, HasNone, Among, Times, Below, begun, tries, ItemEnds, Ends}
use Rattle.dfa_ends.specs.Ends.{IsSo, IsNot, ItemReaches, Reaches, AllReach, AnyReaches, AnyReachesBehind}
use Rattle.dfa_ends.specs.Ends.{TestReaches, OtherReaches}
use Rattle.dfa_ends.specs.EndList.{In, further, most_turns, begun_at, ends_list, item_ends}
use Rattle.dfa_ends.specs.DfaAnswer.{some_spot, some_is, item_reaches_at, some_turn, reach_test, all_reach}
use Rattle.dfa_ends.specs.DfaAnswer.{any_reaches, behind_reaches, test_reaches, other_reaches, ReachLaw}
use Rattle.dfa_ends.proofs.ListLemmas.{Lists, further_sound, further_full, both_true, and_true}
use Rattle.dfa_ends.proofs.ListLaw.{Onward, onward, onward_item, left, fewer, single, lists, lists_any, lists_behind}
use Rattle.dfa_ends.proofs.ListLaw.{lists_item, begun_sound, begun_full}

never : false ≡ true → ⊥
never e = cc

-- the test is true where the claim holds
record Tells (b : Bool) (A : Type 0) : Type 0 where
  so : b ≡ true → A
  by : A → b ≡ true

tells_false : (A : Type 0) → (A → ⊥) → Tells false A
tells_false A n = record { so = λ e. cc; by = λ a. absurd (n a) }

tells_same : (b : Bool) (A B : Type 0) → (A → B) → (B → A) → Tells b A → Tells b B
tells_same b A B to from h = record { so = λ e. to (h.so e); by = λ y. h.by (from y) }

tells_or : (a b : Bool) (A B : Type 0) → Tells a A → Tells b B → Tells (a || b) (A ⊎ B)
tells_or true b A B h k = record { so = λ e. inl (h.so refl); by = λ i. refl }
tells_or false b A B h k =
    record {
      so = λ e. inr (k.so e);
      by =
          λ i. (elim i [ inl x ↦ absurd (never (h.by x)) | inr y ↦ k.by y ]);
    }

tells_and : (a b : Bool) (A B : Type 0) → Tells a A → Tells b B → Tells (a && b) (A × B)
tells_and a b A B h k =
    record {
      so = λ e. (let r = both_true a b e in (h.so r.0, k.so r.1));
      by =
          λ i. and_true a b (h.by i.0) (k.by i.1);
    }

tells_itself : (b : Bool) → Tells b (IsTrue b)
tells_itself b = record { so = λ e. e; by = λ e. e }

spot_case : (p : Spot → Bool) (x : Spot) (xs : List Spot) (b : Bool) → p x ≡ b →
    elim b [ true ↦ true | false ↦ some_spot p xs ] ≡ true →
    (some_spot p xs ≡ true → (y : Spot) × In y xs × (p y ≡ true)) →
    (y : Spot) × In y (x ∷ xs) × (p y ≡ true)
unfolding In
spot_case p x xs true e h f = (x, inl refl, e)
spot_case p x xs false e h f = let r = f h in (r.0, inr r.1, r.2)

spot_of : (p : Spot → Bool) (xs : List Spot) → some_spot p xs ≡ true →
    (y : Spot) × In y xs × (p y ≡ true)
unfolding some_spot
spot_of p [] h = cc
spot_of p (x ∷ xs) h = spot_case p x xs (p x) refl h (spot_of p xs)

of_case : (p : Spot → Bool) (x : Spot) (xs : List Spot) (b : Bool) → p x ≡ b →
    (p x ≡ true) ⊎ (some_spot p xs ≡ true) →
    elim b [ true ↦ true | false ↦ some_spot p xs ] ≡ true
of_case p x xs true e h = refl
of_case p x xs false e h = elim h [ inl a ↦ absurd (never (sym e ∙ a)) | inr b ↦ b ]

of_spot : (p : Spot → Bool) (xs : List Spot) (y : Spot) → In y xs → p y ≡ true →
    some_spot p xs ≡ true
unfolding some_spot In
of_spot p [] y i h = absurd i
of_spot p (x ∷ xs) y i h =
    of_case p x xs (p x) refl
    (elim i [ inl a ↦ inl (subst (λ z. p z ≡ true) a h) | inr b ↦ inr (of_spot p xs y b h) ])

tells_some : (p : Spot → Bool) (xs : List Spot) (Y P : Spots) → Lists xs Y →
    ((y : Spot) → Tells (p y) (P y)) →
    Tells (some_spot p xs) (HasOne (λ y. Y y × P y))
tells_some p xs Y P h k = record {
  so = λ e. (let r = spot_of p xs e in (r.0, (h.sound r.0 r.1, (k r.0).so r.2)));
  by = λ i. of_spot p xs i.0 (h.full i.0 i.1.0) ((k i.0).by i.1.1);
}

module _ (g : Setting) where
  module _ (f : Spot → List Spot) (w : Way) (h : (x : Spot) → Lists (f x) (w x))
      (on : (x y : Spot) → w x y → Onward (length g.subject) x y)
      (p : Spot → Bool) (P : Spots) (k : (y : Spot) → Tells (p y) (P y)) where
    turns_of : (m : ℕ) (x y : Spot) → In y (further f m (x ∷ [])) →
        (n : ℕ) × (n ≤ m) × Times w n x y
    turns_of m x y i =
        let r = further_sound f w h m (x ∷ []) y i in
        (r.2, r.3, subst (λ v. Times w r.2 v y) (single r.0 x r.1) r.4)

    of_turns : (m n : ℕ) (x y : Spot) → (n ≤ m) ⊎ (left g x ≤ m) → Times w n x y →
        In y (further f m (x ∷ []))
    unfolding In
    of_turns m n x y l t =
        further_full f w h (left g) (λ a b j ne. fewer g a b (on a b j) ne) n m (x ∷ []) x y
        (inl refl) l t

    tells_turn : (high : Option ℕ) (x : Spot) →
        Tells (some_turn g f p high x) ((n : ℕ) × (z : Spot) × Below high n × Times w n x z × P z)
    unfolding some_turn
    tells_turn None x = record {
      so = λ e. (
          let r = spot_of p (further f (most_turns g 0 None x) (x ∷ [])) e in
          let t = turns_of (most_turns g 0 None x) x r.0 r.1 in
          (t.0, r.0, tt, t.2, (k r.0).so r.2));
      by = λ i. of_spot p _ i.1
          (of_turns (most_turns g 0 None x) i.0 x i.1 (inr (omega arith)) i.3) ((k i.1).by i.4);
    }
    tells_turn (Some zero) x = tells_false _ (λ i. omega (arith, i.2))
    tells_turn (Some (suc m)) x = record {
      so = λ e. (let r = spot_of p (further f m (x ∷ [])) e in let t = turns_of m x r.0 r.1 in
          (t.0, r.0, omega (arith, t.1), t.2, (k r.0).so r.2));
      by = λ i. of_spot p _ i.1 (of_turns m i.0 x i.1 (inl (omega (arith, i.2))) i.3)
          ((k i.1).by i.4);
    }

  tells_item : (item : Item) (x : Spot) → Tells (item_reaches_at g item x) (ItemReaches g item x)
  tells_item item x = tells_and _ _ _ _ (tells_itself _) (tells_itself _)

  tells_tries : (ps : List ℕ) (x : Spot) (p : Spot → Bool) (P : Spots) →
      ((y : Spot) → Tells (p y) (P y)) →
      Tells (some_spot p (begun_at ps x)) ((q : ℕ) × Among q ps × P (begun q x))
  tells_tries ps x p P k = record {
    so = λ e. (
        let r = spot_of p (begun_at ps x) e in
        let b = begun_sound g ps x r.0 r.1 in
        (b.0, b.1, subst P b.2 ((k r.0).so r.2)));
    by = λ i. of_spot p (begun_at ps x) (begun i.0 x) (begun_full g ps x i.0 i.1)
        ((k (begun i.0 x)).by i.2);
  }

  -- what a test chooses, from the list that decides it
  tells_chosen : (zs : List Spot) (U : Spots) (r a b : Bool) (R A B : Type 0) → Lists zs U →
      Tells r R → Tells a A → Tells b B →
      Tells (r || cond (some_is zs) a b) (R ⊎ (HasOne U × A) ⊎ (HasNone U × B))
  unfolding In
  tells_chosen [] U r a b R A B u h i j =
      tells_same _ (R ⊎ B) _ (λ k. (elim k [ inl x ↦ inl x | inr y ↦ inr (inr (u.full, y)) ]))
      (λ k. (elim k [
        | inl x ↦ inl x
        | inr y ↦ elim y
            [ inl v ↦ absurd (u.full v.0.0 v.0.1) | inr w ↦ inr w.1 ]
      ])) (tells_or r b R B h j)
  tells_chosen (z ∷ zs) U r a b R A B u h i j =
      tells_same _ (R ⊎ A) _
      (λ k. (elim k [ inl x ↦ inl x | inr y ↦ inr (inl ((z, u.sound z (inl refl)), y)) ]))
      (λ k. (elim k [
        | inl x ↦ inl x
        | inr y ↦ elim y
            [ inl v ↦ inr v.1 | inr w ↦ absurd (w.0 z (u.sound z (inl refl))) ]
      ]))
      (tells_or r a R A h i)

  swapped : {A B C : Type 0} → A ⊎ B ⊎ C → A ⊎ C ⊎ B
  swapped h = elim h [
    | inl a ↦ inl a
    | inr b ↦ elim b
        [ inl c ↦ inr (inr c) | inr d ↦ inr (inl d) ]
  ]

  only_last : (b : Bool) (A B C : Type 0) → Tells b C → Tells b (⊥ ⊎ (⊥ × A) ⊎ (Unit {0} × C))
  only_last b A B C h =
      tells_same b C _ (λ i. inr (inr (tt, i)))
      (λ i. (elim i [
        | inl x ↦ absurd x
        | inr y ↦ elim y [ inl v ↦ absurd v.0 | inr w ↦ w.1 ]
      ])) h

  mutual
    unfolding reach_test Reaches Ends

    tells : (t : Nested) (x : Spot) → Tells (reach_test g t x) (Reaches g t x)
    tells (tree.one item) x = tells_item item x
    tells tree.line_break x = tells_and _ _ _ _ (tells_itself _) (tells_itself _)
    tells (tree.seq ts) x = tells_all ts x
    tells (tree.group number ts) x = tells_any ts x
    tells (tree.repeat body low high lazily) x =
        tells_turn (ends_list g body) (Ends g body) (lists g body) (onward g body)
        (reach_test g body) (Reaches g body) (tells body) high x
    tells (tree.one_repeat item low high lazily) x =
        tells_turn (item_ends g item) (ItemEnds g item) (lists_item g item) (onward_item g item)
        (item_reaches_at g item) (ItemReaches g item) (tells_item item) high x
    tells (tree.atomic ts) x = tells_any ts x
    tells (tree.look true positive once ts) x = tells_any ts x
    tells (tree.look false positive once ts) x = tells_behind ts x
    tells (tree.condition test first second) x =
        tells_test test first second x (tells first x) (tells_other second x)
    tells (tree.anchor kind) x = tells_and _ _ _ _ (tells_itself _) (tells_itself _)
    tells tree.empty x = tells_false _ (λ i. i)
    tells (tree.call n) x = tells_false _ (λ i. i)
    tells (tree.ref ns caseless) x = tells_false _ (λ i. i)
    tells tree.keep_out x = tells_false _ (λ i. i)
    tells (tree.verb v) x = tells_false _ (λ i. i)
    tells (tree.callout c) x = tells_false _ (λ i. i)

    tells_all : (ts : Row) (x : Spot) → Tells (all_reach g ts x) (AllReach g ts x)
    tells_all tree.none x = tells_false _ (λ i. i)
    tells_all (tree.more t ts) x =
        tells_or _ _ _ _ (tells t x)
        (tells_some (all_reach g ts) _ (Ends g t x) (AllReach g ts) (lists g t x) (tells_all ts))

    tells_any : (ts : Row) (x : Spot) → Tells (any_reaches g ts x) (AnyReaches g ts x)
    tells_any tree.none x = tells_false _ (λ i. i)
    tells_any (tree.more t ts) x = tells_or _ _ _ _ (tells t x) (tells_any ts x)

    tells_behind : (ts : Row) (x : Spot) → Tells (behind_reaches g ts x) (AnyReachesBehind g ts x)
    tells_behind tree.none x = tells_false _ (λ i. i)
    tells_behind (tree.more t ts) x =
        tells_or _ _ _ _ (tells_tries (tries g (branch_lengths g t) x.place) x (reach_test g t)
        (Reaches g t) (tells t))
        (tells_behind ts x)

    tells_test : (test : Test) (c : Nested) (d : Other) (x : Spot) →
        Tells (reach_test g c x) (Reaches g c x) →
        Tells (other_reaches g d x) (OtherReaches g d x) →
        Tells (test_reaches g test x (reach_test g c x) (other_reaches g d x))
        (TestReaches g test x ⊎ (IsSo g test x × Reaches g c x) ⊎
        (IsNot g test x × OtherReaches g d x))
    tells_test (tree.assert true true once ts) c d x h k =
        tells_chosen _ _ _ _ _ _ _ _ (lists_any g ts x) (tells_any ts x) h k
    tells_test (tree.assert true false once ts) c d x h k =
        tells_same _ _ _ swapped swapped
        (tells_chosen _ _ _ _ _ _ _ _ (lists_any g ts x) (tells_any ts x) k h)
    tells_test (tree.assert false true once ts) c d x h k =
        tells_chosen _ _ _ _ _ _ _ _ (lists_behind g ts x) (tells_behind ts x) h k
    tells_test (tree.assert false false once ts) c d x h k =
        tells_same _ _ _ swapped swapped
        (tells_chosen _ _ _ _ _ _ _ _ (lists_behind g ts x) (tells_behind ts x) k h)
    tells_test (tree.called o test) c d x h k = tells_test test c d x h k
    tells_test tree.never c d x h k = only_last _ _ (OtherReaches g d x) _ k
    tells_test tree.in_call c d x h k = only_last _ _ (OtherReaches g d x) _ k
    tells_test (tree.any_set ns) c d x h k =
        tells_false _ (λ i. (elim i [ inl u ↦ u | inr v ↦ elim v [ inl y ↦ y.0 | inr z ↦ z.0 ] ]))
    tells_test (tree.in_call_of ns) c d x h k =
        tells_false _ (λ i. (elim i [ inl u ↦ u | inr v ↦ elim v [ inl y ↦ y.0 | inr z ↦ z.0 ] ]))

    tells_other : (o : Other) (x : Spot) → Tells (other_reaches g o x) (OtherReaches g o x)
    tells_other tree.no_other x = tells_false _ (λ i. i)
    tells_other (tree.other t) x = tells t x

pub reach_law : ReachLaw
reach_law g t x = let h = tells g t x in (h.so, h.by)
