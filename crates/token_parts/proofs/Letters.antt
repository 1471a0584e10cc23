-- Two x side by side, a letter at a time.
use Rattle.std.proofs.Common.{◌≡◌, ℕ, ◌+◌, ◌<◌, ◌≤◌, ◌&&◌, ◌||◌, false, List, ◌∷◌, length, get_or, drop, refl, inl}
use Rattle.std.proofs.Common.{inr, ap, ◌∙◌, arith}
use Rattle.std.proofs.lemmas.List.{drop_more, at_drop_all}
use Rattle.std.proofs.lemmas.Bool.{cases_lt}
use Rattle.token_parts.specs.Bytes.{◌∈◌}
use Rattle.token_parts.specs.Settings.{has_xx}
use Rattle.token_parts.proofs.Pairs.{two_more}

pub xx_more : (letters : List ℕ) (i : ℕ) → i + 1 < length letters
    → has_xx (drop i letters) ≡ ((get_or letters i 0 ∈ "x" && get_or letters (i + 1) 0 ∈ "x") || has_xx
    (drop (i + 1) letters))
xx_more letters i more =
    let e : i + 1 + 1 ≡ i + 2 = omega arith in
    let later = drop_more letters (i + 1) 0 more ∙ ap (λ k. get_or letters (i + 1) 0 ∷ drop k letters) e in
    rw (two_more letters i more, later) refl

pub xx_all : (letters : List ℕ) (i : ℕ) → length letters ≤ i + 1 → has_xx (drop i letters) ≡ false
xx_all letters i past = elim (cases_lt i (length letters)) [
  | inl more ↦ rw (drop_more letters i 0 more, at_drop_all (λ rest. rest) letters (i + 1) past) refl
  | inr none ↦ at_drop_all has_xx letters i none
]
