-- The list of the ends is the relation.
use Rattle.std.proofs.Common.{◌≡◌, ℕ, zero, suc, ◌+◌, ◌-◌, ◌<◌, ◌≤◌, ◌⊎◌, Bool, true, false, List, [], ◌∷◌, length}
use Rattle.std.proofs.Common.{Option, Some, None, refl, sym, ap, ap₂, subst, inl, inr, arith, leb-true, leb-false}
use Rattle.std.proofs.Common.{eqb-true, eq-eqb}
use Rattle.std.specs.Prelude.{◌==◌, IsTrue, min}
use Rattle.pat_tree.specs.declared.nodes.Item.{Item}
use Rattle.pat_tree.specs.declared.nodes.Item.TheVariants.{AnyAll}
use Rattle.pat_tree.specs.declared.nodes.AnchorKind.{AnchorKind}
use Rattle.pat_tree.specs.declared.nodes.AnchorKind.TheVariants.{Caret, Dollar, SubjectStart, SubjectEnd}
use Rattle.pat_tree.specs.declared.nodes.AnchorKind.TheVariants.{EndOrNewline, StartGiven, Word, NotWord}
use Rattle.pat_tree.specs.Nested as tree
use Rattle.pat_tree.specs.Nested.{Nested, Row, Test, Other}
use Rattle.pat_lengths.specs.Lengths.{SomeLengths}
use Rattle.match_items.specs.Items.{after_item, after_break, holds, place_before}
use Rattle.ordered_search.specs.Setting.{Setting, branch_lengths}
use Rattle.dfa_ends.specs.Ends.{Spot, spot, Spots, Way, HasOne, HasNone, Among, GoesTo, Times, Within, begun}
use Rattle.dfa_ends.specs.Ends.{has_one_length, Counted, seen, tries, TryEnds, ItemEnds, Ends, AllEnd, AnyEnds}
use Rattle.dfa_ends.specs.Ends.{AnyEndsBehind, IsSo, IsNot, OtherEnds}
use Rattle.dfa_ends.specs.EndList.{In, after_turns, further, if_any, most_turns, bounds_meet, going_to, begun_at}
use Rattle.dfa_ends.specs.EndList.{counted, repeated, item_ends, try_list, ends_list, all_list, any_list}
use Rattle.dfa_ends.specs.EndList.{behind_list, test_list, other_list, ListLaw}
use Rattle.dfa_ends.proofs.ListLemmas.{Lists, lists_same, lists_one, lists_none, lists_union, lists_every}
use Rattle.dfa_ends.proofs.ListLemmas.{lists_if_any, lists_longest, in_keep, keep_in, after_sound, after_full}
use Rattle.dfa_ends.proofs.ListLemmas.{further_sound, further_full}
use Rattle.dfa_ends.proofs.Steps.{item_steps, break_steps}

-- The places of a way rise, from before the n-th place alone, and the earliest places fall.
pub record Onward (n : ℕ) (x y : Spot) : Type 0 where
  pub rises : x.place ≤ y.place
  pub moves : (x.place < n) ⊎ (y.place ≡ x.place)
  pub falls : y.early ≤ x.early

onward_self : (n : ℕ) (x y : Spot) → y ≡ x → Onward n x y
onward_self n x y e =
    let p = ap (λ z. z.place) e in
    let q = ap (λ z. z.early) e in
    record { rises = omega (arith, p); moves = inr p; falls = omega (arith, q) }

onward_trans : (n : ℕ) (x y z : Spot) → Onward n x y → Onward n y z → Onward n x z
onward_trans n x y z h k = record {
  rises = omega (arith, h.rises, k.rises);
  moves = elim h.moves [
    | inl a ↦ inl a
    | inr b ↦ elim k.moves [ inl c ↦ inl (omega (arith, b, c)) | inr d ↦ inr (omega (arith, b, d)) ]
  ];
  falls = omega (arith, h.falls, k.falls);
}

pub onward_times : (w : Way) (n : ℕ) → ((x y : Spot) → w x y → Onward n x y) →
    (k : ℕ) (x y : Spot) → Times w k x y → Onward n x y
unfolding Times
onward_times w n h zero x y t = onward_self n x y t
onward_times w n h (suc k) x y t =
    onward_trans n x t.0 y (h x t.0 t.1) (onward_times w n h k t.0 y t.2)

onward_to : (n : ℕ) (o : Option ℕ) (x y : Spot) →
    ((q : ℕ) → o ≡ Some q → (x.place < q) × (x.place < n)) →
    GoesTo o x y → Onward n x y
onward_to n None x y f h = absurd h
onward_to n (Some q) x y f h =
    let far = f q refl in
    let p = ap (λ z. z.place) h in
    let e = ap (λ z. z.early) h in
    record { rises = omega (arith, p, far.0); moves = inl far.1; falls = omega (arith, e) }

by_eq : (a b : ℕ) (t : Bool) → (a == b) ≡ t → a ≤ b → (a ≡ b) ⊎ (a < b)
by_eq a b true e l = inl (eqb-true a b e)
by_eq a b false e l = inr (grind (arith, e, l))

le_case : (a b : ℕ) → a ≤ b → (a ≡ b) ⊎ (a < b)
le_case a b l = by_eq a b (a == b) refl l

swap_cases : {A B : Type 0} → A ⊎ B → B ⊎ A
swap_cases h = elim h [ inl a ↦ inr a | inr b ↦ inl b ]

pub single : (y x : Spot) → In y (x ∷ []) → y ≡ x
unfolding In
single y x h = elim h [ inl a ↦ a | inr b ↦ absurd b ]

no_less : (n : ℕ) → n ≡ n - 0
no_less n = omega arith

less_less : (n low : ℕ) → n - low ≡ suc n - suc low
less_less n low = omega arith

zero_more : (n : ℕ) → n ≡ 0 + n
zero_more n = omega arith

suc_more : (low n : ℕ) → suc (low + n) ≡ suc low + n
suc_more low n = omega arith

module _ (g : Setting) where
  pub onward_item : (item : Item) (x y : Spot) → ItemEnds g item x y → Onward (length g.subject) x y
  onward_item item x y h =
      onward_to (length g.subject) (after_item g.scene item x.place) x y
      (item_steps g.scene item x.place) h

  onward_break : (x y : Spot) → GoesTo (after_break g.scene x.place) x y →
      Onward (length g.subject) x y
  onward_break x y h =
      onward_to (length g.subject) (after_break g.scene x.place) x y
      (λ q. break_steps g.scene (AnyAll) x.place q) h

  onward_seen : (x y : Spot) → y ≡ record x { early = min x.early (place_before g.scene x.place) } →
      Onward (length g.subject) x y
  onward_seen x y e =
      let p = ap (λ z. z.place) e in
      let q = ap (λ z. z.early) e in
      record { rises = omega (arith, p); moves = inr p; falls = omega (arith, q) }

  onward_anchor : (kind : AnchorKind) (x y : Spot) → y ≡ seen g kind x →
      Onward (length g.subject) x y
  onward_anchor (Caret m) x y e = onward_self _ x y e
  onward_anchor (Dollar m n) x y e = onward_self _ x y e
  onward_anchor SubjectStart x y e = onward_self _ x y e
  onward_anchor SubjectEnd x y e = onward_self _ x y e
  onward_anchor EndOrNewline x y e = onward_self _ x y e
  onward_anchor StartGiven x y e = onward_self _ x y e
  onward_anchor (Word ucp) x y e = onward_seen x y e
  onward_anchor (NotWord ucp) x y e = onward_seen x y e

  mutual
    unfolding Ends

    pub onward : (t : Nested) (x y : Spot) → Ends g t x y → Onward (length g.subject) x y
    onward tree.empty x y h = onward_self _ x y h
    onward (tree.one item) x y h = onward_item item x y h
    onward tree.line_break x y h = onward_break x y h
    onward (tree.seq ts) x y h = onward_all ts x y h
    onward (tree.group number ts) x y h = onward_any ts x y h
    onward (tree.repeat body low high lazily) x y h =
        onward_times (Ends g body) (length g.subject) (onward body) h.0 x y h.2
    onward (tree.one_repeat item low high lazily) x y h =
        onward_times (ItemEnds g item) (length g.subject) (onward_item item) h.0 x y h.2
    onward (tree.atomic ts) x y h = onward_any ts x y h.0
    onward (tree.look true true once ts) x y h = onward_self _ x y h.1
    onward (tree.look true false once ts) x y h = onward_self _ x y h.1
    onward (tree.look false true once ts) x y h = onward_self _ x y h.1
    onward (tree.look false false once ts) x y h = onward_self _ x y h.1
    onward (tree.condition test first second) x y h =
        elim h [ inl a ↦ onward first x y a.1 | inr b ↦ onward_other second x y b.1 ]
    onward (tree.anchor kind) x y h = onward_anchor kind x y h.1
    onward (tree.callout c) x y h = onward_self _ x y h
    onward (tree.call n) x y h = absurd h
    onward (tree.ref ns caseless) x y h = absurd h
    onward tree.keep_out x y h = absurd h
    onward (tree.verb v) x y h = absurd h

    onward_all : (ts : Row) (x y : Spot) → AllEnd g ts x y → Onward (length g.subject) x y
    onward_all tree.none x y h = onward_self _ x y h
    onward_all (tree.more t ts) x y h =
        onward_trans _ x h.0 y (onward t x h.0 h.1) (onward_all ts h.0 y h.2)

    onward_any : (ts : Row) (x y : Spot) → AnyEnds g ts x y → Onward (length g.subject) x y
    onward_any tree.none x y h = absurd h
    onward_any (tree.more t ts) x y h =
        elim h [ inl a ↦ onward t x y a | inr b ↦ onward_any ts x y b ]

    onward_other : (o : Other) (x y : Spot) → OtherEnds g o x y → Onward (length g.subject) x y
    onward_other tree.no_other x y h = onward_self _ x y h
    onward_other (tree.other t) x y h = onward t x y h

  -- what is left: characters, and how far the earliest place can fall
  abbrev pub left : Spot → ℕ
  left x = length g.subject - x.place + x.early

  fewer_early : (x y : Spot) → Onward (length g.subject) x y → x.place ≡ y.place →
      (x.early ≡ y.early → ⊥) → left y < left x
  fewer_early x y h same ne =
      elim (le_case y.early x.early h.falls) [
        | inl e ↦ absurd (ne (sym e))
        | inr l ↦ omega (arith, same, l)
      ]

  fewer_place : (x y : Spot) → Onward (length g.subject) x y → x.place < y.place → left y < left x
  fewer_place x y h l =
      elim h.moves [
        | inl a ↦ omega (arith, h.falls, l, a)
        | inr b ↦ absurd (omega (arith, l, b))
      ]

  pub fewer : (x y : Spot) → Onward (length g.subject) x y → (x ≡ y → ⊥) → left y < left x
  fewer x y h ne =
      elim (le_case x.place y.place h.rises) [
        | inl same ↦ fewer_early x y h same (λ e. ne (ap₂ (λ p q. spot p q) same e))
        | inr less ↦ fewer_place x y h less
      ]

  most_left : (low : ℕ) (x y : Spot) → Onward (length g.subject) x y →
      left y ≤ most_turns g low None x
  most_left low x y h = omega (arith, h.rises, h.falls)

  module _ (f : Spot → List Spot) (w : Way) (h : (x : Spot) → Lists (f x) (w x))
      (on : (x y : Spot) → w x y → Onward (length g.subject) x y) where
    -- splitting a path of turns after the first ones
    split : (low n : ℕ) (x y : Spot) → low ≤ n → Times w n x y →
        (z : Spot) × Times w low x z × Times w (n - low) z y
    unfolding Times
    split zero n x y l t = (x, refl, subst (λ k. Times w k x y) (no_less n) t)
    split (suc low) zero x y l t = absurd (omega (arith, l))
    split (suc low) (suc n) x y l t =
        let r = split low n t.0 y (omega (arith, l)) t.2 in
        (r.0, (t.0, t.1, r.1), subst (λ k. Times w k r.0 y) (less_less n low) r.2)

    join : (low n : ℕ) (x z y : Spot) → Times w low x z → Times w n z y → Times w (low + n) x y
    unfolding Times
    join zero n x z y t u =
        subst (λ k. Times w k x y) (zero_more n) (subst (λ v. Times w n v y) t u)
    join (suc low) n x z y t u =
        subst (λ k. Times w k x y) (suc_more low n) (t.0, t.1, join low n t.0 z y t.2 u)

    repeat_case : (low : ℕ) (high : Option ℕ) (b : Bool) → bounds_meet low high ≡ b → (x : Spot) →
        Lists (elim b [
          | true ↦ further f (most_turns g low high x) (after_turns f low (x ∷ []))
          | false ↦ []
        ])
        (λ y. (n : ℕ) × Within low high n × Times w n x y)
    unfolding In
    repeat_case low None false e x = cc
    repeat_case low (Some k) false e x = lists_none _ (λ y i. (
        let l = leb-false low k e in omega (arith, l, i.1.0, i.1.1)))
    repeat_case low None true e x = record {
      sound = λ y i. (
          let r = further_sound f w h (most_turns g low None x) _ y i in
          let q = after_sound f w h low (x ∷ []) r.0 r.1 in (
            low + r.2,
            omega arith,
            join low r.2 x r.0 y
                (subst (λ v. Times w low v r.0) (single q.0 x q.1) q.2) r.4,
          ));
      full = λ y i. (
          let s = split low i.0 x y i.1 i.2 in
          further_full f w h left (λ a b j ne. fewer a b (on a b j) ne) (i.0 - low)
          (most_turns g low None x) _ s.0 y
          (after_full f w h low (x ∷ []) x s.0 (inl refl) s.1)
          (inr (most_left low x s.0 (onward_times w _ on low x s.0 s.1))) s.2);
    }
    repeat_case low (Some k) true e x = record {
      sound = λ y i. (
          let l = leb-true low k e in
          let r = further_sound f w h (k - low) _ y i in
          let q = after_sound f w h low (x ∷ []) r.0 r.1 in (
            low + r.2,
            (omega arith, omega (arith, l, r.3)),
            join low r.2 x r.0 y
                (subst (λ v. Times w low v r.0) (single q.0 x q.1) q.2) r.4,
          ));
      full = λ y i. (
          let s = split low i.0 x y i.1.0 i.2 in
          further_full f w h left (λ a b j ne. fewer a b (on a b j) ne) (i.0 - low) (k - low) _
          s.0 y
          (after_full f w h low (x ∷ []) x s.0 (inl refl) s.1)
          (inl (omega (arith, i.1.1))) s.2);
    }

    lists_repeat : (low : ℕ) (high : Option ℕ) (x : Spot) →
        Lists (repeated g f low high x) (λ y. (n : ℕ) × Within low high n × Times w n x y)
    unfolding repeated
    lists_repeat low high x = repeat_case low high (bounds_meet low high) refl x

  lists_if : (b : Bool) (z : Spot) →
      Lists (elim b [ true ↦ z ∷ [] | false ↦ [] ]) (λ y. IsTrue b × (y ≡ z))
  lists_if true z = lists_same _ (λ y. y ≡ z) _ (λ y i. (refl, i)) (λ y i. i.1) (lists_one z)
  lists_if false z = lists_none _ (λ y i. cc)

  lists_goes : (o : Option ℕ) (x : Spot) → Lists (going_to o x) (GoesTo o x)
  lists_goes None x = lists_none _ (λ y i. i)
  lists_goes (Some p) x = lists_one (record x { place = p })

  pub lists_item : (item : Item) (x : Spot) → Lists (item_ends g item x) (ItemEnds g item x)
  unfolding item_ends
  lists_item item x = lists_goes (after_item g.scene item x.place) x

  -- the spots of the tries of a branch
  pub begun_sound : (ps : List ℕ) (x z : Spot) → In z (begun_at ps x) →
      (p : ℕ) × Among p ps × (z ≡ begun p x)
  unfolding In Among
  begun_sound [] x z i = absurd i
  begun_sound (p ∷ ps) x z i =
      elim i [
        | inl a ↦ (p, inl refl, a)
        | inr b ↦ let r = begun_sound ps x z b in (r.0, inr r.1, r.2)
      ]

  pub begun_full : (ps : List ℕ) (x : Spot) (p : ℕ) → Among p ps → In (begun p x) (begun_at ps x)
  unfolding In Among
  begun_full [] x p i = absurd i
  begun_full (q ∷ ps) x p i =
      elim i [
        | inl a ↦ inl (ap (λ q. begun q x) a)
        | inr b ↦ inr (begun_full ps x p b)
      ]

  lists_counted : (b : Bool) (x : Spot) (ys : List Spot) (Y : Spots) → Lists ys Y →
      Lists (counted b x ys) (λ y. Y y × Counted b x y)
  lists_counted true x ys Y h = lists_same _ Y _ (λ y i. (i, tt)) (λ y i. i.0) h
  lists_counted false x ys Y h = record {
    sound = λ y i. (let r = in_keep (λ y. y.place == x.place) ys y i in
        (h.sound y r.0, eqb-true y.place x.place r.1));
    full = λ y i. keep_in (λ y. y.place == x.place) ys y (h.full y i.0)
        (eq-eqb y.place x.place i.1);
  }

  lists_begun : (ps : List ℕ) (x : Spot) →
      Lists (begun_at ps x) (λ z. (p : ℕ) × Among p ps × (z ≡ begun p x))
  lists_begun ps x = record {
    sound = begun_sound ps x;
    full = λ z i. subst (λ w. In w (begun_at ps x)) (sym i.2) (begun_full ps x i.0 i.1);
  }

  lists_tries : (lengths : SomeLengths) (f : Spot → List Spot) (w : Way) →
      ((x : Spot) → Lists (f x) (w x)) →
      (x : Spot) → Lists (try_list g lengths f x) (TryEnds g lengths w x)
  unfolding try_list
  lists_tries lengths f w h x =
      lists_same _ (λ y. ((z : Spot) ×
      ((p : ℕ) × Among p (tries g lengths x.place) × (z ≡ begun p x)) × w z y)
      × Counted (has_one_length lengths) x y) _
      (λ y i. (i.0.1.0, i.0.1.1, subst (λ z. w z y) i.0.1.2 i.0.2, i.1))
      (λ y i. ((begun i.0 x, (i.0, i.1, refl), i.2), i.3))
      (lists_counted (has_one_length lengths) x _ _
      (lists_every f (begun_at (tries g lengths x.place) x) _ w
      (lists_begun (tries g lengths x.place) x) h))

  -- a lookaround, from the lists of its branches
  lists_look : (zs : List Spot) (U : Spots) (x : Spot) → Lists zs U →
      Lists (if_any zs (x ∷ []) []) (λ y. HasOne U × (y ≡ x))
  lists_look zs U x h =
      lists_same _ (λ y. (HasOne U × (y ≡ x)) ⊎ (HasNone U × ⊥)) _
      (λ y i. elim i [ inl a ↦ a | inr b ↦ absurd b.1 ])
      (λ y i. inl i) (lists_if_any zs _ _ U (λ y. y ≡ x) (λ y. ⊥) h (lists_one x)
      (lists_none _ (λ y i. i)))

  lists_not_look : (zs : List Spot) (U : Spots) (x : Spot) → Lists zs U →
      Lists (if_any zs [] (x ∷ [])) (λ y. HasNone U × (y ≡ x))
  lists_not_look zs U x h =
      lists_same _ (λ y. (HasOne U × ⊥) ⊎ (HasNone U × (y ≡ x))) _
      (λ y i. elim i [ inl a ↦ absurd a.1 | inr b ↦ b ])
      (λ y i. inr i) (lists_if_any zs _ _ U (λ y. ⊥) (λ y. y ≡ x) h (lists_none _ (λ y i. i))
      (lists_one x))

  mutual
    unfolding ends_list Ends

    pub lists : (t : Nested) (x : Spot) → Lists (ends_list g t x) (Ends g t x)
    lists tree.empty x = lists_one x
    lists (tree.one item) x = lists_item item x
    lists tree.line_break x = lists_goes (after_break g.scene x.place) x
    lists (tree.seq ts) x = lists_all ts x
    lists (tree.group number ts) x = lists_any ts x
    lists (tree.repeat body low high lazily) x =
        lists_repeat (ends_list g body) (Ends g body) (lists body) (onward body) low high x
    lists (tree.one_repeat item low high lazily) x =
        lists_repeat (item_ends g item) (ItemEnds g item) (lists_item item) (onward_item item) low
        high x
    lists (tree.atomic ts) x = lists_longest _ _ (lists_any ts x)
    lists (tree.look true true once ts) x = lists_look _ _ x (lists_any ts x)
    lists (tree.look true false once ts) x = lists_not_look _ _ x (lists_any ts x)
    lists (tree.look false true once ts) x = lists_look _ _ x (lists_behind ts x)
    lists (tree.look false false once ts) x = lists_not_look _ _ x (lists_behind ts x)
    lists (tree.condition test first second) x =
        lists_test test first second x (lists first x) (lists_other second x)
    lists (tree.anchor kind) x = lists_if (holds g.scene kind x.place) (seen g kind x)
    lists (tree.callout c) x = lists_one x
    lists (tree.call n) x = lists_none _ (λ y i. i)
    lists (tree.ref ns caseless) x = lists_none _ (λ y i. i)
    lists tree.keep_out x = lists_none _ (λ y i. i)
    lists (tree.verb v) x = lists_none _ (λ y i. i)

    lists_all : (ts : Row) (x : Spot) → Lists (all_list g ts x) (AllEnd g ts x)
    lists_all tree.none x = lists_one x
    lists_all (tree.more t ts) x =
        lists_every (all_list g ts) _ _ (AllEnd g ts) (lists t x) (lists_all ts)

    pub lists_any : (ts : Row) (x : Spot) → Lists (any_list g ts x) (AnyEnds g ts x)
    lists_any tree.none x = lists_none _ (λ y i. i)
    lists_any (tree.more t ts) x = lists_union _ _ _ _ (lists t x) (lists_any ts x)

    pub lists_behind : (ts : Row) (x : Spot) → Lists (behind_list g ts x) (AnyEndsBehind g ts x)
    lists_behind tree.none x = lists_none _ (λ y i. i)
    lists_behind (tree.more t ts) x =
        lists_union _ _ _ _ (lists_tries (branch_lengths g t) (ends_list g t) (Ends g t) (lists t)
        x) (lists_behind ts x)

    lists_test : (test : Test) (a : Nested) (b : Other) (x : Spot) →
        Lists (ends_list g a x) (Ends g a x) →
        Lists (other_list g b x) (OtherEnds g b x) →
        Lists (test_list g test x (ends_list g a x) (other_list g b x))
        (λ y. (IsSo g test x × Ends g a x y) ⊎ (IsNot g test x × OtherEnds g b x y))
    lists_test (tree.assert true true once ts) a b x h k =
        lists_if_any _ _ _ _ _ _ (lists_any ts x) h k
    lists_test (tree.assert true false once ts) a b x h k =
        lists_same _ _ _ (λ y i. swap_cases i) (λ y i. swap_cases i)
        (lists_if_any _ _ _ _ _ _ (lists_any ts x) k h)
    lists_test (tree.assert false true once ts) a b x h k =
        lists_if_any _ _ _ _ _ _ (lists_behind ts x) h k
    lists_test (tree.assert false false once ts) a b x h k =
        lists_same _ _ _ (λ y i. swap_cases i) (λ y i. swap_cases i)
        (lists_if_any _ _ _ _ _ _ (lists_behind ts x) k h)
    lists_test (tree.called c test) a b x h k = lists_test test a b x h k
    lists_test tree.never a b x h k =
        lists_same _ (OtherEnds g b x) _ (λ y i. inr (tt, i))
        (λ y i. elim i [ inl u ↦ absurd u.0 | inr v ↦ v.1 ]) k
    lists_test tree.in_call a b x h k =
        lists_same _ (OtherEnds g b x) _ (λ y i. inr (tt, i))
        (λ y i. elim i [ inl u ↦ absurd u.0 | inr v ↦ v.1 ]) k
    lists_test (tree.any_set ns) a b x h k =
        lists_none _ (λ y i. elim i [ inl u ↦ u.0 | inr v ↦ v.0 ])
    lists_test (tree.in_call_of ns) a b x h k =
        lists_none _ (λ y i. elim i [ inl u ↦ u.0 | inr v ↦ v.0 ])

    lists_other : (o : Other) (x : Spot) → Lists (other_list g o x) (OtherEnds g o x)
    lists_other tree.no_other x = lists_one x
    lists_other (tree.other t) x = lists t x

pub list_law : ListLaw
list_law g t x y = let l = lists g t x in (l.sound y, l.full y)
