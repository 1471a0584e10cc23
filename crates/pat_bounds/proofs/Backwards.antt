-- A list taken from its end.
use Rattle.std.proofs.Common.{◌≡◌, ◌∙◌, ℕ, suc, ◌-◌, ◌<◌, ◌≤◌, List, ◌∷◌, length, drop, get_or, ap, arith, drop-cons}

pub back : (xs : List ℕ) (i : ℕ) → 0 < i → i ≤ length xs → drop (i - 1) xs ≡ get_or xs (i - 1) 0 ∷ drop i xs
back xs i p l =
    let within : i - 1 < length xs = omega (arith, p, l) in
    let one : suc (i - 1) ≡ i = omega (arith, p) in
    drop-cons xs (i - 1) 0 within ∙ ap (λ j. get_or xs (i - 1) 0 ∷ drop j xs) one
