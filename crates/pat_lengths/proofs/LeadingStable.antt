-- Whether a group leads to another is known after as many calls and references as there are groups.
use Rattle.std.proofs.Common.{◌≡◌, ◌∙◌, ℕ, zero, suc, ◌+◌, ◌-◌, ◌<◌, ◌≤◌, ◌||◌, ◌==◌, Bool, true, false, List, []}
use Rattle.std.proofs.Common.{◌∷◌, ◌++◌, ◌⊎◌, All, length, filter, is_some, Option, Some, None, if◌then◌else◌, inl}
use Rattle.std.proofs.Common.{inr, refl, sym, ap, subst, arith}
use Rattle.std.proofs.Math.Path.{fun_ext}
use Rattle.std.specs.List.{list_any, Contains}
use Rattle.std.proofs.lemmas.Bool.{false≢true, eqb-true, or_cases, or_left, or_right}
use Rattle.std.proofs.lemmas.List.Elements.{All-nil, All-cons, All-contains, Contains-append_left}
use Rattle.std.proofs.lemmas.List.Elements.{Contains-append_right, Contains-push}
use Rattle.pat_tree.specs.Groups.{group_of, find_group}
use Rattle.pat_tree.specs.Nested as tree
use Rattle.pat_tree.specs.Nested.{Nested}
use Rattle.pat_tree.specs.Rules.{number_in}
use Rattle.pat_lengths.specs.Lengths.{names_of_group, lead_to}
use Rattle.pat_lengths.specs.Nodes.{all_nodes, is_capture, captures}
use Rattle.pat_lengths.specs.Passing.{capture_number, first_of}
use Rattle.pat_lengths.proofs.GroupLemmas.{first_is}
use Rattle.pat_lengths.proofs.RoundLemmas.{some_lead, lost}

-- How many of these have a property.

abbrev pub one_if : Bool → ℕ
one_if b = if b then 1 else 0

abbrev pub tally : (ℕ → Bool) → List ℕ → ℕ
tally p [] = 0
tally p (x ∷ xs) = one_if (p x) + tally p xs

one_most : (b : Bool) → one_if b ≤ 1
one_most true = omega arith
one_most false = omega arith

one_more : (a b : Bool) → (a ≡ true → b ≡ true) → one_if a ≤ one_if b
one_more true b h = let e : one_if b ≡ 1 = ap one_if (h refl) in omega (arith, e)
one_more false b h = omega arith

tally_most : (p : ℕ → Bool) (xs : List ℕ) → tally p xs ≤ length xs
tally_most p [] = omega arith
tally_most p (x ∷ xs) = let one = one_most (p x) in let rest = tally_most p xs in omega (arith, one, rest)

tally_more : (p q : ℕ → Bool) → ((x : ℕ) → p x ≡ true → q x ≡ true) → (xs : List ℕ) → tally p xs ≤ tally q xs
tally_more p q more [] = omega arith
tally_more p q more (x ∷ xs) = let one = one_more (p x) (q x) (more x) in let rest = tally_more p q more xs in
    omega (arith, one, rest)

pub compare : (p q : ℕ → Bool) → ((x : ℕ) → p x ≡ true → q x ≡ true) → (xs : List ℕ)
    → (tally p xs < tally q xs) ⊎ All (λ x. q x ≡ p x) xs
compare p q more [] = inr (All-nil (λ x. q x ≡ p x))
compare p q more (x ∷ xs) = at (p x) refl (q x) refl (compare p q more xs)
  where
    at : (a : Bool) → p x ≡ a → (b : Bool) → q x ≡ b → (tally p xs < tally q xs) ⊎ All (λ x. q x ≡ p x) xs
        → (tally p (x ∷ xs) < tally q (x ∷ xs)) ⊎ All (λ x. q x ≡ p x) (x ∷ xs)
    at true e false f r = absurd (false≢true (sym f ∙ more x e))
    at false e true f r =
        let none : one_if (p x) ≡ 0 = ap one_if e in
        let one : one_if (q x) ≡ 1 = ap one_if f in
        let rest = tally_more p q more xs in
        inl (omega (arith, none, one, rest))
    at true e true f (inl lt) = let one = one_more (p x) (q x) (more x) in inl (omega (arith, one, lt))
    at true e true f (inr all) = inr (All-cons (λ x. q x ≡ p x) x xs (f ∙ sym e) all)
    at false e false f (inl lt) = let one = one_more (p x) (q x) (more x) in inl (omega (arith, one, lt))
    at false e false f (inr all) = inr (All-cons (λ x. q x ≡ p x) x xs (f ∙ sym e) all)

pub full : (p : ℕ → Bool) (xs : List ℕ) → length xs ≤ tally p xs → All (λ x. p x ≡ true) xs
full p [] h = All-nil (λ x. p x ≡ true)
full p (x ∷ xs) h = at (p x) refl (λ l. full p xs l)
  where
    at : (b : Bool) → p x ≡ b → (length xs ≤ tally p xs → All (λ x. p x ≡ true) xs) → All (λ x. p x ≡ true) (x ∷ xs)
    at true e later =
        let one = one_most (p x) in
        All-cons (λ x. p x ≡ true) x xs e (later (omega (arith, h, one)))
    at false e later =
        let none : one_if (p x) ≡ 0 = ap one_if e in
        let rest = tally_most p xs in
        absurd (omega (arith, h, none, rest))

-- The numbers of the groups.

abbrev numbers : List Nested → List ℕ
numbers [] = []
numbers (t ∷ ts) = number_in (capture_number t) ++ numbers ts

numbers_count : (ts : List Nested) → length (numbers ts) ≡ length (filter is_capture ts)
numbers_count [] = refl
numbers_count (tree.group (Some m) us ∷ ts) = ap suc (numbers_count ts)
numbers_count (tree.group None us ∷ ts) = numbers_count ts
numbers_count (_ ∷ ts) = numbers_count ts

pub any_more : (p q : ℕ → Bool) → ((x : ℕ) → p x ≡ true → q x ≡ true) → (ns : List ℕ) → list_any p ns ≡ true
    → list_any q ns ≡ true
any_more p q more [] h = absurd (false≢true h)
any_more p q more (x ∷ xs) h = elim (or_cases (p x) (list_any p xs) h) [
  | inl a ↦ or_left (q x) (list_any q xs) (more x a)
  | inr b ↦ or_right (q x) (list_any q xs) (any_more p q more xs b)
]

named_there : (n : ℕ) (ts : List Nested) → is_some (first_of n ts) ≡ true → Contains (numbers ts) n
named_there n [] h = absurd (false≢true h)
named_there n (tree.group (Some k) us ∷ ts) h = at (k == n) refl (λ l. named_there n ts l) h
  where
    at : (b : Bool) → (k == n) ≡ b → (is_some (first_of n ts) ≡ true → Contains (numbers ts) n) →
        is_some (if b then Some (tree.group (Some k) us) else first_of n ts) ≡ true → Contains (k ∷ numbers ts) n
    at true e later h = subst (λ x. Contains (x ∷ numbers ts) n) (sym (eqb-true k n e))
        (Contains-append_left (n ∷ []) (numbers ts) n (Contains-push [] n))
    at false e later h = Contains-append_right (k ∷ []) (numbers ts) n (later h)
named_there n (tree.group None us ∷ ts) h = named_there n ts h
named_there n (_ ∷ ts) h = named_there n ts h

-- 0 is the whole pattern
abbrev pub numbers_of_groups : Nested → List ℕ
numbers_of_groups whole = 0 ∷ numbers (all_nodes whole)

pub so_many : (whole : Nested) → length (numbers_of_groups whole) ≡ suc (captures whole)
so_many whole = ap suc (numbers_count (all_nodes whole))

module _ (whole : Nested) (m : ℕ) where
  abbrev pub leads : ℕ → ℕ → Bool
  leads d n = lead_to whole d (names_of_group whole n) m

  pub next : (d : ℕ) (ns : List ℕ) → lead_to whole (suc d) ns m ≡ list_any (λ x. x == m || leads d x) ns
  unfolding lead_to
  next d ns = sym (some_lead whole d m ns)

  never_yet : (n : ℕ) → leads 0 n ≡ false
  unfolding lead_to
  never_yet n = refl

  one_on : (d n : ℕ) → leads d n ≡ true → leads (suc d) n ≡ true
  one_on zero n h = absurd (false≢true (sym (never_yet n) ∙ h))
  one_on (suc d) n h =
      next (suc d) (names_of_group whole n)
      ∙ any_more (λ x. x == m || leads d x) (λ x. x == m || leads (suc d) x)
      (λ x e. elim (or_cases (x == m) (leads d x) e) [
        | inl a ↦ or_left (x == m) (leads (suc d) x) a
        | inr b ↦ or_right (x == m) (leads (suc d) x) (one_on d x b)
      ]) (names_of_group whole n) (sym (next d (names_of_group whole n)) ∙ h)

  many_on : (e d x n : ℕ) → x ≡ e + d → leads d n ≡ true → leads x n ≡ true
  many_on zero d x n is h = let same : x ≡ d = omega (arith, is) in ap (λ y. leads y n) same ∙ h
  many_on (suc e) d x n is h =
      let same : x ≡ suc (e + d) = omega (arith, is) in
      ap (λ y. leads y n) same ∙ one_on (e + d) n (many_on e d (e + d) n refl h)

  stay : (d : ℕ) → ((n : ℕ) → leads (suc d) n ≡ leads d n) → (e x n : ℕ) → x ≡ e + d → leads x n ≡ leads d n
  stay d h zero x n is = let same : x ≡ d = omega (arith, is) in ap (λ y. leads y n) same
  stay d h (suc e) x n is =
      let same : x ≡ suc (e + d) = omega (arith, is) in
      ap (λ y. leads y n) same ∙ next (e + d) (names_of_group whole n)
      ∙ ap (λ (f : ℕ → Bool). list_any (λ y. y == m || f y) (names_of_group whole n))
      (fun_ext (λ y. stay d h e (e + d) y refl))
      ∙ sym (next d (names_of_group whole n)) ∙ h n

  abbrev groups : List ℕ
  groups = numbers_of_groups whole

  pub there : (n : ℕ) → (group_of whole n ≡ None) ⊎ Contains groups n
  there n = at (n == 0) refl
    where
      found : (o : Option Nested) → find_group n whole ≡ o → (find_group n whole ≡ None) ⊎ Contains groups n
      found None e = inl e
      found (Some t) e = inr (Contains-append_right (0 ∷ []) (numbers (all_nodes whole)) n
          (named_there n (all_nodes whole) (ap is_some (first_is n whole ∙ e))))

      at : (b : Bool) → (n == 0) ≡ b → ((if b then Some whole else find_group n whole) ≡ None) ⊎ Contains groups n
      at true e = inr (subst (λ x. Contains (x ∷ numbers (all_nodes whole)) n) (eqb-true n 0 e)
          (Contains-append_left (n ∷ []) (numbers (all_nodes whole)) n (Contains-push [] n)))
      at false e = found (find_group n whole) refl

  settled : (d : ℕ) → All (λ x. leads (suc d) x ≡ leads d x) groups → (n : ℕ) → leads (suc d) n ≡ leads d n
  settled d all n = elim (there n) [
    | inl none ↦ lost whole m (suc d) n none ∙ sym (lost whole m d n none)
    | inr at ↦ All-contains (λ x. leads (suc d) x ≡ leads d x) groups n all at
  ]

  record Settled (d : ℕ) : Type 0 where
    at : ℕ
    below : at ≤ d
    same : (n : ℕ) → leads (suc at) n ≡ leads at n

  reach : (d : ℕ) → Settled d ⊎ (d ≤ tally (leads d) groups)
  reach zero = inr (omega arith)
  reach (suc d) = elim (reach d) [
    | inl s ↦ inl (record { at = s.at; below = omega (arith, s.below); same = s.same })
    | inr le ↦ elim (compare (leads d) (leads (suc d)) (one_on d) groups) [
      | inl lt ↦ inr (omega (arith, le, lt))
      | inr all ↦ inl (record { at = d; below = omega arith; same = settled d all })
    ]
  ]

  -- a group that leads to another does so within as many calls and references as there are groups
  pub reaches : (x n : ℕ) → leads x n ≡ true → leads (suc (captures whole)) n ≡ true
  reaches x n h = elim (reach (suc (captures whole))) [
    | inl s ↦
        let here : s.at + x ≡ x + s.at = omega arith in
        let long : suc (captures whole) ≡ (suc (captures whole) - s.at) + s.at = omega (arith, s.below) in
        let told : leads s.at n ≡ true = sym (stay s.at s.same x (s.at + x) n here)
        ∙ many_on s.at x (s.at + x) n refl h in
        stay s.at s.same (suc (captures whole) - s.at) (suc (captures whole)) n long ∙ told
    | inr le ↦
        let count : length groups ≡ suc (captures whole) = ap suc (numbers_count (all_nodes whole)) in
        elim (there n) [
          | inl none ↦ absurd (false≢true (sym (lost whole m x n none) ∙ h))
          | inr at ↦ All-contains (λ y. leads (suc (captures whole)) y ≡ true) groups n
              (full (leads (suc (captures whole))) groups (omega (arith, le, count))) at
        ]
  ]

  pub comes_back : (x : ℕ) → leads x m ≡ true → leads (suc (captures whole)) m ≡ true
  comes_back x h = reaches x m h
