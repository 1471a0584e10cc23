-- The place that closes a pattern, from the front on.
use Rattle.std.proofs.Common.{◌≡◌, ℕ, ◌+◌, ◌<◌, true, false, cond, eqb, List, [], ◌∷◌, length, drop, get_or, Option}
use Rattle.std.proofs.Common.{Some, None, refl, ap, sym, ◌∙◌, arith, add-zero, zero-add}
use Rattle.std.specs.Option.{option_map}
use Rattle.std.proofs.lemmas.List.{drop-drop, get_or-drop, length-drop}
use Rattle.test_script.specs.Script.{closing_place}

pub plus_map : (o : Option ℕ) (a b : ℕ) → option_map (λ n. n + b) (option_map (λ n. n + a) o) ≡ option_map
    (λ n. n + (b + a)) o
plus_map None a b = refl
plus_map (Some n) a b = let e : n + a + b ≡ n + (b + a) = omega arith in ap Some e

pub closes_here : (d : ℕ) (line : List ℕ) → 0 < length line → eqb (get_or line 0 0) d ≡ true
    → closing_place d line ≡ Some 0
closes_here d [] some here = absurd (omega arith)
closes_here d (c ∷ []) some here = ap (λ b. cond b (Some 0) None) here
closes_here d (c ∷ e ∷ rest) some here =
    ap (λ b. cond b (Some 0) (cond (eqb c 92) (option_map (λ n. n + 2) (closing_place d rest))
    (option_map (λ n. n + 1) (closing_place d (e ∷ rest))))) here

pub closes_after_pair : (d : ℕ) (line : List ℕ) → 0 < length line → eqb (get_or line 0 0) d ≡ false
    → eqb (get_or line 0 0) 92 ≡ true → closing_place d line ≡ option_map (λ n. n + 2) (closing_place d (drop 2 line))
closes_after_pair d [] some here pair = absurd (omega arith)
closes_after_pair d (c ∷ []) some here pair = ap (λ b. cond b (Some 0) None) here
closes_after_pair d (c ∷ e ∷ rest) some here pair =
    ap (λ b. cond b (Some 0) (cond (eqb c 92) (option_map (λ n. n + 2) (closing_place d rest))
    (option_map (λ n. n + 1) (closing_place d (e ∷ rest))))) here
    ∙ ap (λ b. cond b (option_map (λ n. n + 2) (closing_place d rest))
    (option_map (λ n. n + 1) (closing_place d (e ∷ rest)))) pair

pub closes_after_one : (d : ℕ) (line : List ℕ) → 0 < length line → eqb (get_or line 0 0) d ≡ false
    → eqb (get_or line 0 0) 92 ≡ false → closing_place d line ≡ option_map (λ n. n + 1)
    (closing_place d (drop 1 line))
closes_after_one d [] some here pair = absurd (omega arith)
closes_after_one d (c ∷ []) some here pair = ap (λ b. cond b (Some 0) None) here
closes_after_one d (c ∷ e ∷ rest) some here pair =
    ap (λ b. cond b (Some 0) (cond (eqb c 92) (option_map (λ n. n + 2) (closing_place d rest))
    (option_map (λ n. n + 1) (closing_place d (e ∷ rest))))) here
    ∙ ap (λ b. cond b (option_map (λ n. n + 2) (closing_place d rest))
    (option_map (λ n. n + 1) (closing_place d (e ∷ rest)))) pair

-- one character further in the line
pub closes_on : (d : ℕ) (line : List ℕ) (at n : ℕ) (whole : Option ℕ)
    → closing_place d (drop at line) ≡ option_map (λ k. k + n) (closing_place d (drop n (drop at line)))
    → option_map (λ k. k + at) (closing_place d (drop at line)) ≡ whole
    → option_map (λ k. k + (at + n)) (closing_place d (drop (at + n) line)) ≡ whole
closes_on d line at n whole step so_far =
    ap (λ rest. option_map (λ k. k + (at + n)) (closing_place d rest)) (sym (drop-drop n at line))
    ∙ sym (plus_map (closing_place d (drop n (drop at line))) n at)
    ∙ ap (option_map (λ k. k + at)) (sym step) ∙ so_far

pub plus_nothing : (o : Option ℕ) → option_map (λ n. n + 0) o ≡ o
plus_nothing None = refl
plus_nothing (Some n) = let e : n + 0 ≡ n = omega arith in ap Some e

first_left : (line : List ℕ) (at : ℕ) → get_or (drop at line) 0 0 ≡ get_or line at 0
first_left line at = get_or-drop at line 0 0 ∙ ap (λ i. get_or line i 0) (add-zero at)

pub closed_at : (d : ℕ) (line : List ℕ) (at : ℕ) → at < length line → eqb (get_or line at 0) d ≡ true
    → option_map (λ k. k + at) (closing_place d (drop at line)) ≡ Some at
closed_at d line at within here =
    ap (option_map (λ k. k + at)) (closes_here d (drop at line) (rw length-drop (omega arith))
    (ap (λ c. eqb c d) (first_left line at) ∙ here)) ∙ ap Some (zero-add at)

pub closed_after_pair : (d : ℕ) (line : List ℕ) (at : ℕ) (whole : Option ℕ) → at < length line
    → eqb (get_or line at 0) d ≡ false → eqb (get_or line at 0) 92 ≡ true
    → option_map (λ k. k + at) (closing_place d (drop at line)) ≡ whole
    → option_map (λ k. k + (at + 2)) (closing_place d (drop (at + 2) line)) ≡ whole
closed_after_pair d line at whole within here pair so_far =
    closes_on d line at 2 whole (closes_after_pair d (drop at line) (rw length-drop (omega arith))
    (ap (λ c. eqb c d) (first_left line at) ∙ here) (ap (λ c. eqb c 92) (first_left line at) ∙ pair)) so_far

pub closed_after_one : (d : ℕ) (line : List ℕ) (at : ℕ) (whole : Option ℕ) → at < length line
    → eqb (get_or line at 0) d ≡ false → eqb (get_or line at 0) 92 ≡ false
    → option_map (λ k. k + at) (closing_place d (drop at line)) ≡ whole
    → option_map (λ k. k + (at + 1)) (closing_place d (drop (at + 1) line)) ≡ whole
closed_after_one d line at whole within here pair so_far =
    closes_on d line at 1 whole (closes_after_one d (drop at line) (rw length-drop (omega arith))
    (ap (λ c. eqb c d) (first_left line at) ∙ here) (ap (λ c. eqb c 92) (first_left line at) ∙ pair)) so_far
