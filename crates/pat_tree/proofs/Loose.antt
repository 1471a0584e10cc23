-- Loose numbers rise, and the last of them can be taken.
use Rattle.std.proofs.Common.{Bool, true, false, ◌||◌, ◌==◌, ◌≡◌, ℕ, suc, ◌+◌, ◌<◌, ◌≤◌, List, [], ◌∷◌, ◌++◌, length}
use Rattle.std.proofs.Common.{refl, sym, ap, ◌∙◌, append_assoc, append-nil, subst, arith, if◌then◌else◌}
use Rattle.std.proofs.lemmas.Bool.Decides.{nat_tests}
use Rattle.pat_tree.specs.declared.nodes.Placed.{Placed}
use Rattle.pat_tree.specs.Rules.{kids_of}
use Rattle.pat_tree.specs.Refs.{is_in}
use Rattle.pat_tree.specs.Growing.{without, loose_after, loose, is_fresh, EndsIn, Replaces}

-- each is at least b and below n, and above the one before
Rises : ℕ → List ℕ → ℕ → Type 0
Rises b [] n = b ≤ n
Rises b (x ∷ xs) n = (b ≤ x) × Rises (x + 1) xs n

or_true : (a : Bool) → (a || true) ≡ true
or_true true = refl
or_true false = refl

module _ where
  from : (b c : ℕ) (xs : List ℕ) (n : ℕ) → b ≤ c → Rises c xs n → Rises b xs n
  unfolding Rises
  from b c [] n h r = omega (arith, h, r)
  from b c (x ∷ xs) n h r = (omega (arith, h, r.0), r.1)

  ends : (b : ℕ) (xs : List ℕ) (n : ℕ) → Rises b xs n → b ≤ n
  unfolding Rises
  ends b [] n r = r
  ends b (x ∷ xs) n r = omega (arith, r.0, ends (x + 1) xs n r.1)

  rises_push : (b : ℕ) (xs : List ℕ) (n : ℕ) → Rises b xs n → Rises b (xs ++ n ∷ []) (n + 1)
  unfolding Rises
  rises_push b [] n r = (r, omega arith)
  rises_push b (x ∷ xs) n r = (r.0, rises_push (x + 1) xs n r.1)

  rises_without : (ks : List ℕ) (b : ℕ) (xs : List ℕ) (n : ℕ) → Rises b xs n → Rises b (without ks xs) n
  unfolding Rises
  rises_without ks b [] n r = r
  rises_without ks b (x ∷ xs) n r =
      elim (is_in x ks) as (λ t. Rises b (if t then without ks xs else x ∷ without ks xs) n) [
        | true ↦ from b (x + 1) (without ks xs) n (omega (arith, r.0)) (rises_without ks (x + 1) xs n r.1)
        | false ↦ (r.0, rises_without ks (x + 1) xs n r.1)
      ]

  loose_rises : (n : ℕ) (before : List ℕ) (ps : List Placed) → Rises 0 before n
      → Rises 0 (loose_after n before ps) (n + length ps)
  unfolding loose_after
  loose_rises n before [] r = let e : n ≡ n + 0 = omega arith in subst (Rises 0 before) e r
  loose_rises n before (p ∷ ps) r =
      let e : (n + 1) + length ps ≡ n + suc (length ps) = omega arith in
      let now : Rises 0 (without (kids_of p.node) before ++ n ∷ []) (n + 1) =
      rises_push 0 (without (kids_of p.node) before) n (rises_without (kids_of p.node) 0 before n r) in
      subst (Rises 0 (loose_after (n + 1) (without (kids_of p.node) before ++ n ∷ []) ps)) e
      (loose_rises (n + 1) (without (kids_of p.node) before ++ n ∷ []) ps now)

  all_rise : (ps : List Placed) → Rises 0 (loose ps) (length ps)
  unfolding loose Rises
  all_rise ps = let e : 0 + length ps ≡ length ps = omega arith in
      subst (Rises 0 (loose_after 0 [] ps)) e (loose_rises 0 [] ps (omega arith))

  -- what stands behind rises, and is above what stands before
  behind : (b : ℕ) (xs ys : List ℕ) (n : ℕ) → Rises b (xs ++ ys) n → Rises b ys n
  unfolding Rises
  behind b [] ys n r = r
  behind b (x ∷ xs) ys n r = from b (x + 1) ys n (omega (arith, r.0)) (behind (x + 1) xs ys n r.1)

  not_in : (x b : ℕ) (ks : List ℕ) (n : ℕ) → x < b → Rises b ks n → is_in x ks ≡ false
  unfolding Rises
  not_in x b [] n h r = refl
  not_in x b (k ∷ ks) n h r =
      let other : (k == x) ≡ false = grind (arith, nat_tests, r.0) in
      rw (other, not_in x (k + 1) ks n (omega (arith, r.0)) r.1) refl

  before_stays : (b : ℕ) (xs ks : List ℕ) (n : ℕ) → Rises b (xs ++ ks) n → without ks xs ≡ xs
  unfolding Rises
  before_stays b [] ks n r = refl
  before_stays b (x ∷ xs) ks n r = rw (not_in x (x + 1) ks n (omega arith) (behind (x + 1) xs ks n r.1))
      (ap (λ l. x ∷ l) (before_stays (x + 1) xs ks n r.1))

  without-append : (ks xs ys : List ℕ) → without ks (xs ++ ys) ≡ without ks xs ++ without ks ys
  without-append ks [] ys = refl
  without-append ks (x ∷ xs) ys =
      elim (is_in x ks) as (λ t. (if t then without ks (xs ++ ys) else x ∷ without ks (xs ++ ys))
      ≡ (if t then without ks xs else x ∷ without ks xs) ++ without ks ys) [
        | true ↦ without-append ks xs ys
        | false ↦ ap (λ l. x ∷ l) (without-append ks xs ys)
      ]

  in_middle : (pre : List ℕ) (x : ℕ) (xs : List ℕ) → is_in x (pre ++ x ∷ xs) ≡ true
  in_middle [] x xs = let e : (x == x) ≡ true = grind (arith, nat_tests) in rw e refl
  in_middle (y ∷ pre) x xs = rw (in_middle pre x xs) (or_true (y == x))

  all_taken : (pre sub : List ℕ) → without (pre ++ sub) sub ≡ []
  all_taken pre [] = refl
  all_taken pre (x ∷ sub) = rw (in_middle pre x sub) (ap (λ l. without l sub) (sym (append_assoc pre (x ∷ []) sub))
      ∙ all_taken (pre ++ x ∷ []) sub)

  fresh_in : (pre sub : List ℕ) (b n : ℕ) → Rises b sub n → is_fresh (pre ++ sub) sub ≡ true
  unfolding Rises
  fresh_in pre [] b n r = refl
  fresh_in pre (x ∷ sub) b n r =
      rw (in_middle pre x sub, not_in x (x + 1) sub n (omega arith) r.1)
      (ap (λ l. is_fresh l sub) (sym (append_assoc pre (x ∷ []) sub)) ∙ fresh_in (pre ++ x ∷ []) sub (x + 1) n r.1)

-- the last of the loose nodes can be taken, and the others stay
pub last_fresh : (ps : List Placed) (front ks : List ℕ) → loose ps ≡ front ++ ks → is_fresh (loose ps) ks ≡ true
last_fresh ps front ks e =
    rw e (fresh_in front ks 0 (length ps) (behind 0 front ks (length ps) (rw e at (all_rise ps))))

pub last_taken : (ps : List Placed) (front ks : List ℕ) → loose ps ≡ front ++ ks → without ks (loose ps) ≡ front
last_taken ps front ks e =
    rw e (without-append ks front ks ∙ ap (λ l. l ++ without ks ks)
    (before_stays 0 front ks (length ps) (rw e at (all_rise ps)))
    ∙ ap (λ l. front ++ l) (all_taken [] ks) ∙ append-nil front)

loose_after_push : (n : ℕ) (before : List ℕ) (ps : List Placed) (p : Placed) →
    loose_after n before (ps ++ p ∷ []) ≡ without (kids_of p.node) (loose_after n before ps) ++ (n + length ps) ∷ []
unfolding loose_after
loose_after_push n before [] p = let e : n ≡ n + 0 = omega arith in
    ap (λ k. without (kids_of p.node) before ++ k ∷ []) e
loose_after_push n before (q ∷ ps) p =
    let e : (n + 1) + length ps ≡ n + suc (length ps) = omega arith in
    loose_after_push (n + 1) (without (kids_of q.node) before ++ n ∷ []) ps p
    ∙ ap (λ k. without (kids_of p.node) (loose_after (n + 1) (without (kids_of q.node) before ++ n ∷ []) ps)
    ++ k ∷ []) e

pub loose_push : (ps : List Placed) (p : Placed) → loose (ps ++ p ∷ []) ≡ without (kids_of p.node) (loose ps)
    ++ length ps ∷ []
unfolding loose
loose_push ps p = let e : 0 + length ps ≡ length ps = omega arith in loose_after_push 0 [] ps p
    ∙ ap (λ k. without (kids_of p.node) (loose_after 0 [] ps) ++ k ∷ []) e

pub fresh_at_end : {ps : List Placed} {ks : List ℕ} → EndsIn ps ks → is_fresh (loose ps) ks ≡ true
fresh_at_end {ps} {ks} e = last_fresh ps e.front ks e.is

pub replaces_push : (ps : List Placed) (p : Placed) → Replaces ps (kids_of p.node) (ps ++ p ∷ []) (length ps)
replaces_push ps p front e = loose_push ps p ∙ ap (λ l. l ++ length ps ∷ []) (last_taken ps front (kids_of p.node) e)
