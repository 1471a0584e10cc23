-- The rounds that the kit's repeats match.
use Rattle.std.proofs.Common.{ℕ, zero, suc, ◌+◌, ◌-◌, ◌<◌, ◌≤◌, true, List, Option, Some, None, inl, inr, refl}
use Rattle.std.proofs.Common.{subst, arith}
use Rattle.regex_hir.specs.Re.{Re, plus}
use Rattle.regex_hir.specs.Matches.{Matches, Rounds, one_round, next_round}
use Rattle.regex_hir.specs.Meaning.{copies, up_to, at_least, repeat}
use Rattle.regex_hir.proofs.MatchesLemmas.{Matches-IsSpan}
use Rattle.pat_shape.specs.Exact.{IsSolid}
use Rattle.pat_shape.specs.IsShape.{IsUpTo}
use Rattle.pat_shape.proofs.Turns.{Turns, turns_more}
use Rattle.pat_shape.proofs.WideSearch.{Counted}

module _ (R : ℕ → ℕ → Type 0) where
  turns_both : (m n i l j : ℕ) → Turns R m i l → Turns R n l j → Turns R (m + n) i j
  turns_both zero n i l j t u = subst (λ k. Turns R k i j) {x = n} {y = 0 + n} (omega arith)
      (subst (λ k. Turns R n k j) t u)
  turns_both (suc m) n i l j t u = subst (λ k. Turns R k i j) {x = suc (m + n)} {y = suc m + n} (omega arith)
      (t.0, t.1, turns_both m n t.0 l j t.2 u)

  rounds_split : (i j : ℕ) → Rounds R i j → (n : ℕ) × Turns R (suc n) i j
  rounds_split i _ (one_round j r) = (0, (j, r, refl))
  rounds_split i _ (next_round l j rs r) = let t = rounds_split i l rs in (suc t.0, turns_more R (suc t.0) i l j t.1 r)

module _ (hay : List ℕ) (a : Re) where
  abbrev R : ℕ → ℕ → Type 0
  R = Matches hay a

  copies_split : (low : ℕ) (b : Re) (i j : ℕ) → Matches hay (copies low a b) i j
      → (l : ℕ) × Turns R low i l × Matches hay b l j
  copies_split zero b i j m = (i, refl, m)
  copies_split (suc low) b i j m = let rest = copies_split low b m.0 j m.2 in (rest.0, (m.0, m.1, rest.1), rest.2)

  up_to_split : (most i j : ℕ) → Matches hay (up_to true most a) i j → (n : ℕ) × (n ≤ most) × Turns R n i j
  up_to_split zero i j m = (0, omega arith, m)
  up_to_split (suc most) i j (inl m) = let rest = up_to_split most m.0 j m.2 in let le = rest.1 in
      (suc rest.0, omega (arith, le), (m.0, m.1, rest.2))
  up_to_split (suc most) i j (inr m) = (0, omega arith, m)

  at_least_split : (low i j : ℕ) → Matches hay (at_least true low a) i j → (n : ℕ) × (low ≤ n) × Turns R n i j
  at_least_split zero i j (inl m) = let t = rounds_split R i j m in (suc t.0, omega arith, t.1)
  at_least_split zero i j (inr m) = (0, omega arith, m)
  at_least_split (suc low) i j m =
      let c = copies_split low (plus true a) i j m in
      let t = rounds_split R c.0 j c.2 in
      (low + suc t.0, omega arith, turns_both R low (suc t.0) i c.0 j c.1 t.1)

  pub repeat_counted : (low : ℕ) (high : Option ℕ) → IsUpTo high low → (i j : ℕ)
      → Matches hay (repeat low high true a) i j → Counted R low high i j
  unfolding repeat
  repeat_counted low None le i j m = let c = at_least_split low i j m in (c.0, c.1, (c.2, tt))
  repeat_counted low (Some most) le i j m =
      let c = copies_split low (up_to true (most - low) a) i j m in
      let u = up_to_split (most - low) c.0 j c.2 in
      let few = u.1 in
      (low + u.0, omega arith, (turns_both R low u.0 i c.0 j c.1 u.2, omega (arith, le, few)))

-- Rounds that take something.

rounds_further : (R : ℕ → ℕ → Type 0) → ((i j : ℕ) → R i j → i < j) → (i j : ℕ) → Rounds R i j → i < j
rounds_further R on i _ (one_round j r) = on i j r
rounds_further R on i _ (next_round l j rs r) = let first = rounds_further R on i l rs in let last = on l j r in
    omega (arith, first, last)

copies_further : (a : Re) → IsSolid a → (n : ℕ) (b : Re) (hay : List ℕ) (i j : ℕ)
    → Matches hay (copies (suc n) a b) i j → i < j
copies_further a solid n b hay i j m =
    let first = solid hay i m.0 m.1 in
    let rest = (Matches-IsSpan hay (copies n a b) m.0 j m.2).0 in omega (arith, first, rest)

pub repeat_solid : (low : ℕ) (high : Option ℕ) (a : Re) → 0 < low → IsSolid a → IsSolid (repeat low high true a)
unfolding repeat
repeat_solid zero high a some solid hay i j m = absurd (omega (arith, some))
repeat_solid (suc zero) None a some solid hay i j m = rounds_further (Matches hay a) (solid hay) i j m
repeat_solid (suc (suc n)) None a some solid hay i j m = copies_further a solid n (plus true a) hay i j m
repeat_solid (suc n) (Some most) a some solid hay i j m =
    copies_further a solid n (up_to true (most - suc n) a) hay i j m
