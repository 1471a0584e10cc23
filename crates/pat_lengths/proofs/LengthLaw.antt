-- The least and the greatest of the lengths that a tree can match.
use Rattle.std.proofs.Common.{◌≡◌, ◌≤◌, ◌⊎◌, inl, inr, ℕ, zero, suc, ◌+◌, ◌*◌, Bool, true, false, List, [], ◌∷◌}
use Rattle.std.proofs.Common.{Option, Some, None, refl, sym, subst, arith}
use Rattle.std.specs.List.{list_any}
use Rattle.std.specs.Prelude.{◌<◌, nat_le, min, max, ◌||◌}
use Rattle.std.proofs.Math.Nat.{min-eq_left, min-eq_right, max-eq_left, max-eq_right, min-le_left, min-le_right}
use Rattle.std.proofs.Math.Nat.{le-max_left, le-max_right, mul-le-mul_left}
use Rattle.std.proofs.lemmas.Bool.{cases_lt, leb-true, leb-false}
use Rattle.pat_tree.specs.Nested as tree
use Rattle.pat_tree.specs.Nested.{Nested, Row, Test, Other}
use Rattle.pat_tree.specs.Groups.{group_of}
use Rattle.pat_lengths.specs.Nodes.{captures, has_shared_number, nodes_outside_lookarounds, is_accept}
use Rattle.pat_lengths.specs.Lengths.{Lengths, SomeLengths, between, only, any_length, both, in_turn, either}
use Rattle.pat_lengths.specs.Lengths.{most_in_turns, in_some_turns, in_turns, of_ref, lengths, lengths_in_turn}
use Rattle.pat_lengths.specs.Lengths.{lengths_of_one, lengths_of_other, of_test, lengths_of_group, by_calls}
use Rattle.pat_lengths.specs.Lengths.{leads_back, behind, least_lengths, branch_lengths}
use Rattle.pat_lengths.specs.HasLength.{Within, Sum, Turns, AnyOr, RefHas, HasLength, InTurn, OneOf, OfOther, OfTest}
use Rattle.pat_lengths.specs.HasLength.{IsMost, AreLengths, AreSomeLengths, OfFound, ByCalls, Behind, BranchHas}

just : (c : ℕ) → AreSomeLengths (λ k. k ≡ c) (only c)
just c = record { least = refl; low = λ k e. omega (arith, e); most = (refl, λ k e. omega (arith, e)) }

anything : AreSomeLengths (λ k. Unit {0}) any_length
anything = record { least = tt; low = λ k u. omega arith; most = λ m. (m, omega arith, tt) }

-- One after the other.

sum_most : (P Q : ℕ → Type 0) (a b : Lengths) → AreLengths P a → AreLengths Q b → (x y : Option ℕ) → IsMost P x
    → IsMost Q y →
    IsMost (Sum P Q) (both ◌+◌ x y)
sum_most P Q a b p q (Some x) (Some y) m n =
    ((x, y, m.0, n.0, refl), λ k h. let i = m.1 h.0 h.2 in let j = n.1 h.1 h.3 in let e = h.4 in omega (arith, e))
sum_most P Q a b p q None y m n =
    λ k. let h = m k in (h.0 + b.least, omega (arith, h.1), (h.0, b.least, h.2, q.least, refl))
sum_most P Q a b p q (Some x) None m n =
    λ k. let h = n k in (a.least + h.0, omega (arith, h.1), (a.least, h.0, p.least, h.2, refl))

sums : (P Q : ℕ → Type 0) (x y : SomeLengths) → AreSomeLengths P x → AreSomeLengths Q y
    → AreSomeLengths (Sum P Q) (in_turn x y)
sums P Q (Some a) (Some b) p q = record {
  least = (a.least, b.least, p.least, q.least, refl);
  low = λ k h. let i = p.low h.0 h.2 in let j = q.low h.1 h.3 in let e = h.4 in omega (arith, e);
  most = sum_most P Q a b p q a.most b.most p.most q.most;
}
sums P Q None y p q = λ k h. p h.0 h.2
sums P Q (Some a) None p q = λ k h. q h.1 h.3

-- One or the other.

least_of : (P Q : ℕ → Type 0) (i j : ℕ) → P i → Q j → (i < j) ⊎ (j ≤ i) → P (min i j) ⊎ Q (min i j)
least_of P Q i j p q (inl h) = let l : i ≤ j = omega (arith, h) in let e : i ≡ min i j = sym (min-eq_left l) in
    inl (subst P e p)
least_of P Q i j p q (inr h) = let e : j ≡ min i j = sym (min-eq_right h) in inr (subst Q e q)

greatest_of : (P Q : ℕ → Type 0) (i j : ℕ) → P i → Q j → (i < j) ⊎ (j ≤ i) → P (max i j) ⊎ Q (max i j)
greatest_of P Q i j p q (inl h) = let l : i ≤ j = omega (arith, h) in let e : j ≡ max i j = sym (max-eq_right l) in
    inr (subst Q e q)
greatest_of P Q i j p q (inr h) = let e : i ≡ max i j = sym (max-eq_left h) in inl (subst P e p)

either_most : (P Q : ℕ → Type 0) (x y : Option ℕ) → IsMost P x → IsMost Q y → IsMost (λ k. P k ⊎ Q k) (both max x y)
either_most P Q (Some x) (Some y) m n = (
  greatest_of P Q x y m.0 n.0 (cases_lt x y),
  λ k. elim [
    | inl h ↦ let l = m.1 k h in let o = le-max_left x y in omega (arith, l, o)
    | inr h ↦ let l = n.1 k h in let o = le-max_right x y in omega (arith, l, o)
  ],
)
either_most P Q None y m n = λ k. let h = m k in (h.0, h.1, inl h.2)
either_most P Q (Some x) None m n = λ k. let h = n k in (h.0, h.1, inr h.2)

with_left : (P Q : ℕ → Type 0) (x : Option ℕ) → ((k : ℕ) → Q k → ⊥) → IsMost P x → IsMost (λ k. P k ⊎ Q k) x
with_left P Q None q m = λ k. let h = m k in (h.0, h.1, inl h.2)
with_left P Q (Some b) q m = (inl m.0, λ k. elim [ inl h ↦ m.1 k h | inr h ↦ absurd (q k h) ])

with_right : (P Q : ℕ → Type 0) (y : Option ℕ) → ((k : ℕ) → P k → ⊥) → IsMost Q y → IsMost (λ k. P k ⊎ Q k) y
with_right P Q None p m = λ k. let h = m k in (h.0, h.1, inr h.2)
with_right P Q (Some b) p m = (inr m.0, λ k. elim [ inl h ↦ absurd (p k h) | inr h ↦ m.1 k h ])

unions : (P Q : ℕ → Type 0) (x y : SomeLengths) → AreSomeLengths P x → AreSomeLengths Q y →
    AreSomeLengths (λ k. P k ⊎ Q k) (either x y)
unions P Q None None p q = λ k. elim [ inl h ↦ p k h | inr h ↦ q k h ]
unions P Q None (Some b) p q = record {
  least = inr q.least;
  low = λ k. elim [ inl h ↦ absurd (p k h) | inr h ↦ q.low k h ];
  most = with_right P Q b.most p q.most;
}
unions P Q (Some a) None p q = record {
  least = inl p.least;
  low = λ k. elim [ inl h ↦ p.low k h | inr h ↦ absurd (q k h) ];
  most = with_left P Q a.most q p.most;
}
unions P Q (Some a) (Some b) p q = record {
  least = least_of P Q a.least b.least p.least q.least (cases_lt a.least b.least);
  low = λ k. elim [
    | inl h ↦ let l = p.low k h in let o = min-le_left a.least b.least in omega (arith, l, o)
    | inr h ↦ let l = q.low k h in let o = min-le_right a.least b.least in omega (arith, l, o)
  ];
  most = either_most P Q a.most b.most p.most q.most;
}

-- Turns.

turns_of : (P : ℕ → Type 0) (i : ℕ) → P i → (n : ℕ) → Turns P n (n * i)
unfolding Turns
turns_of P i p zero = omega arith
turns_of P i p (suc n) = (i, n * i, p, turns_of P i p n, omega arith)

turns_low : (P : ℕ → Type 0) (i : ℕ) → ((k : ℕ) → P k → i ≤ k) → (n k : ℕ) → Turns P n k → n * i ≤ k
unfolding Turns
turns_low P i low zero k h = omega arith
turns_low P i low (suc n) k h =
    let a = low h.0 h.2 in let b = turns_low P i low n h.1 h.3 in let e = h.4 in omega (arith, a, b, e)

turns_high : (P : ℕ → Type 0) (b : ℕ) → ((k : ℕ) → P k → k ≤ b) → (n k : ℕ) → Turns P n k → k ≤ n * b
unfolding Turns
turns_high P b high zero k h = omega (arith, h)
turns_high P b high (suc n) k h =
    let a = high h.0 h.2 in let c = turns_high P b high n h.1 h.3 in let e = h.4 in omega (arith, a, c, e)

no_turn : (P : ℕ → Type 0) → ((k : ℕ) → P k → ⊥) → (n k : ℕ) → Turns P n k → (n ≡ 0) × (k ≡ 0)
unfolding Turns
no_turn P none zero k h = (refl, h)
no_turn P none (suc n) k h = absurd (none h.0 h.2)

abbrev Repeated : (ℕ → Type 0) → ℕ → Option ℕ → ℕ → Type 0
Repeated P low high k = (n : ℕ) × Within low high n × Turns P n k

-- the minimum is within the bounds
abbrev Meets : ℕ → Option ℕ → Type 0
Meets low None = Unit {0}
Meets low (Some high) = low ≤ high

lowest : (low : ℕ) (high : Option ℕ) → Meets low high → Within low high low
lowest low None m = omega arith
lowest low (Some high) m = (omega arith, m)

above : (low : ℕ) (high : Option ℕ) (n : ℕ) → Within low high n → low ≤ n
above low None n w = w
above low (Some high) n w = w.0

few_turns : (P : ℕ → Type 0) (n k : ℕ) → n ≤ 0 → Turns P n k → k ≤ 0
unfolding Turns
few_turns P zero k l h = omega (arith, h)
few_turns P (suc n) k l h = absurd (omega (arith, l))

no_turns : (P : ℕ → Type 0) → Turns P 0 0
unfolding Turns
no_turns P = refl

empty_turns : (P : ℕ → Type 0) → P 0 → (n : ℕ) → Turns P n 0
empty_turns P p n = let e : n * 0 ≡ 0 = omega arith in subst (Turns P n) e (turns_of P 0 p n)

grown : (n m b : ℕ) → n ≤ m → n * b ≤ m * b
grown n m b l = let h = mul-le-mul_left b l in omega (arith, h)

one_more : (P : ℕ → Type 0) (a : Lengths) → AreLengths P a → (n k : ℕ) → P k → Turns P (suc n) (k + n * a.least)
unfolding Turns
one_more P a p n k h = (k, n * a.least, h, turns_of P a.least p.least n, refl)

repeated_most : (P : ℕ → Type 0) (a : Lengths) → AreLengths P a → (low : ℕ) (high : Option ℕ) → Meets low high →
    (x : Option ℕ) → IsMost P x → IsMost (Repeated P low high) (most_in_turns high x)
repeated_most P a p low (Some zero) m None x = ((0, (m, omega arith), no_turns P), λ k r. few_turns P r.0 k r.1.1 r.2)
repeated_most P a p low (Some zero) m (Some b) x =
    ((0, (m, omega arith), no_turns P), λ k r. few_turns P r.0 k r.1.1 r.2)
repeated_most P a p low None m (Some zero) x =
    ((low, omega arith, empty_turns P x.0 low), λ k r. let l = turns_high P 0 x.1 r.0 k r.2 in omega (arith, l))
repeated_most P a p low (Some (suc h)) m (Some zero) x =
    ((low, (omega arith, m), empty_turns P x.0 low), λ k r. let l = turns_high P 0 x.1 r.0 k r.2 in omega (arith, l))
repeated_most P a p low (Some (suc h)) m (Some (suc b)) x = (
  (suc h, (m, omega arith), turns_of P (suc b) x.0 (suc h)),
  λ k r.
      let l = turns_high P (suc b) x.1 r.0 k r.2 in let g = grown r.0 (suc h) (suc b) r.1.1 in omega (arith, l, g),
)
repeated_most P a p low None m (Some (suc b)) x =
    λ c. ((low + c) * suc b, omega arith, (low + c, omega arith, turns_of P (suc b) x.0 (low + c)))
repeated_most P a p low (Some (suc h)) m None x =
    λ c. let f = x c in (f.0 + h * a.least, omega (arith, f.1), (suc h, (m, omega arith), one_more P a p h f.0 f.2))
repeated_most P a p low None m None x =
    λ c. let f = x c in (f.0 + low * a.least, omega (arith, f.1), (suc low, omega arith, one_more P a p low f.0 f.2))

repeated_some : (P : ℕ → Type 0) (low : ℕ) (high : Option ℕ) → Meets low high → (x : SomeLengths) → AreSomeLengths P x →
    AreSomeLengths (Repeated P low high) (in_some_turns low high x)
repeated_some P zero high m None p = record {
  least = (0, lowest 0 high m, no_turns P);
  low = λ k r. omega arith;
  most = ((0, lowest 0 high m, no_turns P), λ k r. let e = (no_turn P p r.0 k r.2).1 in omega (arith, e));
}
repeated_some P (suc low) high m None p = λ k r.
    let e = (no_turn P p r.0 k r.2).0 in let l = above (suc low) high r.0 r.1 in omega (arith, e, l)
repeated_some P low high m (Some a) p = record {
  least = (low, lowest low high m, turns_of P a.least p.least low);
  low = λ k r.
      let l = turns_low P a.least p.low r.0 k r.2 in
      let g = grown low r.0 a.least (above low high r.0 r.1) in
      omega (arith, l, g);
  most = repeated_most P a p low high m a.most p.most;
}

repeated_up_to : (P : ℕ → Type 0) (low high : ℕ) (x : SomeLengths) → AreSomeLengths P x → (b : Bool)
    → nat_le low high ≡ b →
    AreSomeLengths (Repeated P low (Some high)) (elim b [ true ↦ in_some_turns low (Some high) x | false ↦ None ])
repeated_up_to P low high x p true e = repeated_some P low (Some high) (leb-true low high e) x p
repeated_up_to P low high x p false e = λ k r.
    let l = leb-false low high e in let a = r.1.0 in let b = r.1.1 in omega (arith, l, a, b)

repeats : (P : ℕ → Type 0) (low : ℕ) (high : Option ℕ) (x : SomeLengths) → AreSomeLengths P x →
    AreSomeLengths (Repeated P low high) (in_turns low high x)
repeats P low None x p = repeated_some P low None tt x p
repeats P low (Some high) x p = repeated_up_to P low high x p (nat_le low high) refl

one_or_two : AreSomeLengths (λ k. (k ≡ 1) ⊎ (k ≡ 2)) (between 1 (Some 2))
one_or_two = record {
  least = inl refl;
  low = λ k. elim [ inl e ↦ omega (arith, e) | inr e ↦ omega (arith, e) ];
  most = (inr refl, λ k. elim [ inl e ↦ omega (arith, e) | inr e ↦ omega (arith, e) ]);
}

any_or : (b : Bool) (P : ℕ → Type 0) (x : SomeLengths) → AreSomeLengths P x →
    AreSomeLengths (λ k. AnyOr b (P k)) (elim b [ true ↦ any_length | false ↦ x ])
any_or true P x p = anything
any_or false P x p = p

module _ (unset_matches : Bool) (whole : Nested) (OfGroup : ℕ → ℕ → Type 0) (of_group : ℕ → SomeLengths)
    (groups : (n : ℕ) → AreSomeLengths (OfGroup n) (of_group n)) where
  refs : (ns : List ℕ) → AreSomeLengths (RefHas unset_matches whole OfGroup ns) (of_ref unset_matches whole of_group ns)
  refs [] = anything
  refs (n ∷ []) = any_or (unset_matches || has_shared_number whole) (OfGroup n) (of_group n) (groups n)
  refs (n ∷ m ∷ ns) = anything

  tests : (test : Test) (P : ℕ → Type 0) (x : SomeLengths) → AreSomeLengths P x →
      AreSomeLengths (OfTest unset_matches whole OfGroup test P) (of_test unset_matches whole of_group test x)
  unfolding HasLength lengths
  tests tree.never P x p = just 0
  tests (tree.any_set ns) P x p = p
  tests tree.in_call P x p = p
  tests (tree.in_call_of ns) P x p = p
  tests (tree.assert ahead positive once ts) P x p = p
  tests (tree.called c test) P x p = p

  mutual
    unfolding HasLength lengths

    trees : (t : Nested) → AreSomeLengths (HasLength unset_matches whole OfGroup t)
        (lengths unset_matches whole of_group t)
    trees tree.empty = just 0
    trees (tree.one item) = just 1
    trees tree.line_break = one_or_two
    trees (tree.seq ts) = rows ts
    trees (tree.group number ts) = branches ts
    trees (tree.repeat t low high lazily) = repeats _ low high _ (trees t)
    trees (tree.one_repeat item low high lazily) = repeats _ low high _ (just 1)
    trees (tree.atomic ts) = branches ts
    trees (tree.look ahead positive once ts) = just 0
    trees (tree.condition test first second) = tests test _ _ (unions _ _ _ _ (trees first) (others second))
    trees (tree.call n) = groups n
    trees (tree.ref ns caseless) = refs ns
    trees (tree.anchor a) = just 0
    trees tree.keep_out = just 0
    trees (tree.verb v) = just 0
    trees (tree.callout c) = just 0

    rows : (ts : Row) → AreSomeLengths (InTurn unset_matches whole OfGroup ts)
        (lengths_in_turn unset_matches whole of_group ts)
    rows tree.none = just 0
    rows (tree.more t ts) = sums _ _ _ _ (trees t) (rows ts)

    branches : (ts : Row) → AreSomeLengths (OneOf unset_matches whole OfGroup ts)
        (lengths_of_one unset_matches whole of_group ts)
    branches tree.none = λ k h. h
    branches (tree.more t ts) = unions _ _ _ _ (trees t) (branches ts)

    others : (o : Other) → AreSomeLengths (OfOther unset_matches whole OfGroup o)
        (lengths_of_other unset_matches whole of_group o)
    others tree.no_other = just 0
    others (tree.other t) = trees t

found : (P : Nested → ℕ → Type 0) (f : Nested → SomeLengths) → ((t : Nested) → AreSomeLengths (P t) (f t))
    → (o : Option Nested) →
    AreSomeLengths (OfFound P o) (lengths_of_group f o)
found P f h None = λ k e. e
found P f h (Some t) = h t

module _ (unset_matches : Bool) (whole : Nested) where
  pub by_calls_law : (d n : ℕ) → AreSomeLengths (ByCalls unset_matches whole d n) (by_calls unset_matches whole d n)
  unfolding ByCalls by_calls
  by_calls_law zero n = λ k e. e
  by_calls_law (suc d) n = found _ _ (trees unset_matches whole _ _ (by_calls_law d)) (group_of whole n)

  behind_law : (d n : ℕ) → AreSomeLengths (Behind unset_matches whole d n) (behind unset_matches whole d n)
  unfolding Behind behind
  behind_law zero n = λ k e. e
  behind_law (suc d) n =
      any_or (leads_back whole n) _ _ (found _ _ (trees unset_matches whole _ _ (behind_law d)) (group_of whole n))

module _ (unset_matches : Bool) (whole : Nested) where
  pub calls_bounds : (t : Nested)
      → AreSomeLengths (HasLength unset_matches whole (ByCalls unset_matches whole (suc (captures whole))) t)
      (least_lengths unset_matches whole t)
  calls_bounds t = trees unset_matches whole _ _ (by_calls_law unset_matches whole (suc (captures whole))) t

  pub branch_bounds : (t : Nested) → AreSomeLengths (BranchHas unset_matches whole t)
      (branch_lengths unset_matches whole t)
  branch_bounds t =
      any_or (list_any is_accept (nodes_outside_lookarounds t)) _ _
      (trees unset_matches whole _ _ (behind_law unset_matches whole (suc (captures whole))) t)
