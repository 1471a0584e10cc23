-- A pattern over several lines is closed where the lines joined by line feeds are.
use Rattle.std.proofs.Common.{◌≡◌, ◌≢◌, ℕ, ◌+◌, Bool, true, false, cond, eqb, List, [], ◌∷◌, ◌++◌, length, Option}
use Rattle.std.proofs.Common.{Some, None, refl, ap, sym, ◌∙◌, arith, ne_eqb}
use Rattle.std.specs.Option.{option_map}
use Rattle.test_script.specs.Script.{closing_place}
use Rattle.test_script.proofs.Closings.{plus_map}

-- after a line feed the next line begins anew
after_feed : (d : ℕ) (second : List ℕ) → d ≢ 10 → closing_place d (10 ∷ second) ≡ option_map (λ n. n + 1)
    (closing_place d second)
after_feed d [] other = rw (ne_eqb 10 d (λ same. other (sym same))) refl
after_feed d (c ∷ rest) other = rw (ne_eqb 10 d (λ same. other (sym same))) refl

one_byte : (d c : ℕ) (second : List ℕ) → d ≢ 10 → (here pair : Bool) → eqb c d ≡ here → eqb c 92 ≡ pair
    → cond {A = Option ℕ} here (Some 0) None ≡ None → closing_place d (c ∷ 10 ∷ second) ≡ option_map (λ n. n + 2)
    (closing_place d second)
one_byte d c second other true pair e p none = cc
one_byte d c second other false true e p none = rw (e, p) refl
one_byte d c second other false false e p none =
    rw (e, p) (ap (option_map (λ n. n + 1)) (after_feed d second other) ∙ plus_map (closing_place d second) 1 1)

none_of : (o : Option ℕ) (k : ℕ) → option_map (λ n. n + k) o ≡ None → o ≡ None
none_of None k h = refl
none_of (Some n) k h = cc

further : (o : Option ℕ) (a b k : ℕ) → b + a ≡ k → option_map (λ n. n + b) (option_map (λ n. n + a) o) ≡ option_map
    (λ n. n + k) o
further o a b k e = plus_map o a b ∙ ap (λ k. option_map (λ n. n + k) o) e

more_bytes : (d c e : ℕ) (rest second : List ℕ) (here pair : Bool) → eqb c d ≡ here → eqb c 92 ≡ pair
    → cond {A = Option ℕ} here (Some 0) (cond pair (option_map (λ n. n + 2) (closing_place d rest))
    (option_map (λ n. n + 1) (closing_place d (e ∷ rest)))) ≡ None
    → (closing_place d rest ≡ None → closing_place d (rest ++ 10 ∷ second) ≡ option_map (λ n. n + (length rest + 1))
    (closing_place d second))
    → (closing_place d (e ∷ rest) ≡ None → closing_place d (e ∷ rest ++ 10 ∷ second) ≡ option_map
    (λ n. n + (length (e ∷ rest) + 1)) (closing_place d second))
    → closing_place d (c ∷ e ∷ (rest ++ 10 ∷ second)) ≡ option_map (λ n. n + (length (c ∷ e ∷ rest) + 1))
    (closing_place d second)
more_bytes d c e rest second true pair h p none two one = cc
more_bytes d c e rest second false true h p none two one =
    rw (h, p) (ap (option_map (λ n. n + 2)) (two (none_of (closing_place d rest) 2 none))
    ∙ further (closing_place d second) (length rest + 1) 2 (length (c ∷ e ∷ rest) + 1) (omega arith))
more_bytes d c e rest second false false h p none two one =
    rw (h, p) (ap (option_map (λ n. n + 1)) (one (none_of (closing_place d (e ∷ rest)) 1 none))
    ∙ further (closing_place d second) (length (e ∷ rest) + 1) 1 (length (c ∷ e ∷ rest) + 1) (omega arith))

pub lines_joined : (d : ℕ) (first second : List ℕ) → d ≢ 10 → closing_place d first ≡ None
    → closing_place d (first ++ 10 ∷ second) ≡ option_map (λ n. n + (length first + 1)) (closing_place d second)
lines_joined d [] second other none = after_feed d second other
lines_joined d (c ∷ []) second other none = one_byte d c second other (eqb c d) (eqb c 92) refl refl none
lines_joined d (c ∷ e ∷ rest) second other none =
    more_bytes d c e rest second (eqb c d) (eqb c 92) refl refl none (lines_joined d rest second other)
    (lines_joined d (e ∷ rest) second other)
