-- So many rounds in turn, as the kit's repeats match them.
use Rattle.std.proofs.Common.{◌≡◌, ℕ, zero, suc, ◌+◌, ◌-◌, ◌≤◌, true, Option, Some, None, inl, inr, refl, sym, subst}
use Rattle.std.proofs.Common.{arith}
use Rattle.std.specs.Prelude.{List}
use Rattle.regex_hir.specs.Re.{Re, plus}
use Rattle.regex_hir.specs.Matches.{Matches, Rounds, one_round, next_round}
use Rattle.regex_hir.specs.Meaning.{copies, up_to, at_least, repeat}
use Rattle.pat_shape.specs.Looks.{SeesLines, TakesNoLf}
use Rattle.pat_shape.specs.IsShape.{IsUpTo}

-- n rounds of R lead from i to j
abbrev pub Turns : (ℕ → ℕ → Type 0) → ℕ → ℕ → ℕ → Type 0
Turns R zero i j = j ≡ i
Turns R (suc n) i j = (l : ℕ) × R i l × Turns R n l j

module _ (R : ℕ → ℕ → Type 0) where
  both_rounds : (i j k : ℕ) → Rounds R i j → Rounds R j k → Rounds R i k
  both_rounds i j _ p (one_round k r) = next_round j k p r
  both_rounds i j _ p (next_round l k q r) = next_round l k (both_rounds i j l p q) r

  -- one more at the end
  pub turns_more : (n i j k : ℕ) → Turns R n i j → R j k → Turns R (suc n) i k
  turns_more zero i j k e r = (k, subst (λ l. R l k) e r, refl)
  turns_more (suc n) i j k t r = (t.0, t.1, turns_more n t.0 j k t.2 r)

  turns_rounds : (n i j : ℕ) → Turns R (suc n) i j → Rounds R i j
  turns_rounds zero i j t = subst (Rounds R i) (sym t.2) (one_round t.0 t.1)
  turns_rounds (suc n) i j t = both_rounds i t.0 j (one_round t.0 t.1) (turns_rounds n t.0 j t.2)

module _ (hay : List ℕ) (a : Re) where
  abbrev M : Re → ℕ → ℕ → Type 0
  M = Matches hay

  copies_turns : (low n : ℕ) (b : Re) → ((m l k : ℕ) → m + low ≡ n → Turns (M a) m l k → M b l k) → low ≤ n
      → (i j : ℕ) → Turns (M a) n i j → M (copies low a b) i j
  copies_turns zero n b k le i j t = k n i j (omega arith) t
  copies_turns (suc low) zero b k le i j t = absurd (omega (arith, le))
  copies_turns (suc low) (suc n) b k le i j t =
      (t.0, t.1, copies_turns low n b (λ m l o e. k m l o (omega (arith, e))) (omega (arith, le)) t.0 j t.2)

  at_least_turns : (low n : ℕ) → low ≤ n → (i j : ℕ) → Turns (M a) n i j → M (at_least true low a) i j
  at_least_turns zero zero le i j t = inr t
  at_least_turns zero (suc n) le i j t = inl (turns_rounds (M a) n i j t)
  at_least_turns (suc low) n le i j t = copies_turns low n (plus true a) some (omega (arith, le)) i j t
    where
      some : (m l k : ℕ) → m + low ≡ n → Turns (M a) m l k → M (plus true a) l k
      some zero l k e t = absurd (omega (arith, e, le))
      some (suc m) l k e t = turns_rounds (M a) m l k t

  up_to_turns : (most n : ℕ) → n ≤ most → (i j : ℕ) → Turns (M a) n i j → M (up_to true most a) i j
  up_to_turns zero zero le i j t = t
  up_to_turns zero (suc n) le i j t = absurd (omega (arith, le))
  up_to_turns (suc most) zero le i j t = inr t
  up_to_turns (suc most) (suc n) le i j t = inl (t.0, t.1, up_to_turns most n (omega (arith, le)) t.0 j t.2)

  pub repeat_turns : (low : ℕ) (high : Option ℕ) (n : ℕ) → low ≤ n → IsUpTo high n → (i j : ℕ) → Turns (M a) n i j
      → M (repeat low high true a) i j
  unfolding repeat
  repeat_turns low None n le to i j t = at_least_turns low n le i j t
  repeat_turns low (Some most) n le to i j t =
      copies_turns low n (up_to true (most - low) a)
      (λ m l k e s. up_to_turns (most - low) m (omega (arith, e, to)) l k s) le i j t

-- Rounds see lines as one does.

copies_see : (low : ℕ) (a b : Re) → SeesLines a → SeesLines b → SeesLines (copies low a b)
copies_see zero a b h k = k
copies_see (suc low) a b h k = (h, copies_see low a b h k)

up_to_see : (most : ℕ) (a : Re) → SeesLines a → SeesLines (up_to true most a)
up_to_see zero a h = tt
up_to_see (suc most) a h = ((h, up_to_see most a h), tt)

at_least_see : (low : ℕ) (a : Re) → SeesLines a → SeesLines (at_least true low a)
at_least_see zero a h = (h, tt)
at_least_see (suc low) a h = copies_see low a (plus true a) h h

pub repeat_sees : (low : ℕ) (high : Option ℕ) (a : Re) → SeesLines a → SeesLines (repeat low high true a)
unfolding repeat
repeat_sees low None a h = at_least_see low a h
repeat_sees low (Some most) a h = copies_see low a (up_to true (most - low) a) h (up_to_see (most - low) a h)

-- Rounds take no LF where one takes none.

copies_dry : (low : ℕ) (a b : Re) → TakesNoLf a → TakesNoLf b → TakesNoLf (copies low a b)
copies_dry zero a b h k = k
copies_dry (suc low) a b h k = (h, copies_dry low a b h k)

up_to_dry : (most : ℕ) (a : Re) → TakesNoLf a → TakesNoLf (up_to true most a)
up_to_dry zero a h = tt
up_to_dry (suc most) a h = ((h, up_to_dry most a h), tt)

at_least_dry : (low : ℕ) (a : Re) → TakesNoLf a → TakesNoLf (at_least true low a)
at_least_dry zero a h = (h, tt)
at_least_dry (suc low) a h = copies_dry low a (plus true a) h h

pub repeat_dry : (low : ℕ) (high : Option ℕ) (a : Re) → TakesNoLf a → TakesNoLf (repeat low high true a)
unfolding repeat
repeat_dry low None a h = at_least_dry low a h
repeat_dry low (Some most) a h = copies_dry low a (up_to true (most - low) a) h (up_to_dry (most - low) a h)
