-- Two bytes side by side.
use Rattle.std.proofs.Common.{◌≡◌, ℕ, ◌+◌, ◌<◌, List, ◌∷◌, length, get_or, drop, ap, ◌∙◌, arith}
use Rattle.std.proofs.lemmas.List.{drop_more}

pub two_more : (text : List ℕ) (i : ℕ) → i + 1 < length text
    → drop i text ≡ get_or text i 0 ∷ get_or text (i + 1) 0 ∷ drop (i + 2) text
two_more text i more =
    let e : i + 1 + 1 ≡ i + 2 = omega arith in
    let later = drop_more text (i + 1) 0 more ∙ ap (λ k. get_or text (i + 1) 0 ∷ drop k text) e in
    drop_more text i 0 (omega arith) ∙ ap (λ rest. get_or text i 0 ∷ rest) later
