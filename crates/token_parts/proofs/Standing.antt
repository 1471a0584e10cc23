-- A byte that passes a test stands within the text.
use Rattle.std.proofs.Common.{◌≡◌, ℕ, zero, suc, ◌<◌, ◌≤◌, ◌==◌, Bool, true, false, List, [], ◌∷◌, length, get_or}
use Rattle.std.proofs.Common.{refl, arith}
use Rattle.token_parts.specs.Bytes.{passes_at, stands}

pub passes_within : (text : List ℕ) (test : ℕ → Bool) (i : ℕ) → passes_at text test i ≡ true → i < length text
passes_within [] test i here = cc
passes_within (c ∷ text) test zero here = omega arith
passes_within (c ∷ text) test (suc i) here = omega (arith, passes_within text test i here)

pub stands_within : (text : List ℕ) (c i : ℕ) → stands text c i ≡ true → i < length text
stands_within text c i here = passes_within text (λ d. d == c) i here

pub passes_is : (text : List ℕ) (test : ℕ → Bool) (i : ℕ) → i < length text
    → passes_at text test i ≡ test (get_or text i 0)
passes_is [] test i within = absurd (omega arith)
passes_is (c ∷ text) test zero within = refl
passes_is (c ∷ text) test (suc i) within = passes_is text test i (omega arith)

pub passes_past : (text : List ℕ) (test : ℕ → Bool) (i : ℕ) → length text ≤ i → passes_at text test i ≡ false
passes_past [] test i past = refl
passes_past (c ∷ text) test zero past = absurd (omega arith)
passes_past (c ∷ text) test (suc i) past = passes_past text test i (omega arith)
