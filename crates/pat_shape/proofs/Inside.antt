-- What takes no LF and matches from a place of a line on matches in the line.
use Rattle.std.proofs.Common.{◌≡◌, ◌∙◌, ℕ, ◌+◌, ◌<◌, ◌≤◌, false, List, ◌++◌, length, Some, None, ◌⊎◌, inl, inr}
use Rattle.std.proofs.Common.{refl, sym, ap, subst, arith}
use Rattle.std.specs.Prelude.{slice_get}
use Rattle.std.proofs.lemmas.Bool.{cases_lt, true≢false}
use Rattle.std.proofs.lemmas.Option.{none-some, slice_get-get_or}
use Rattle.regex_class.specs.Ranges.{in_ranges}
use Rattle.regex_hir.specs.Re.{Re, empty, literal, byte_in, char_in, look, cat, alt, group, plus}
use Rattle.regex_hir.specs.Matches.{Matches, Rounds, one_round, next_round}
use Rattle.pat_shape.specs.Looks.{IsLine, InsideLaw, TakesNoLf}
use Rattle.pat_shape.proofs.Looks.{look_back, byte_there}

some_same : (a b : ℕ) → Some a ≡ Some b → a ≡ b
some_same a b e = cc

module _ (before line after : List ℕ) (at : IsLine before line after) where
  abbrev held : List ℕ
  held = before ++ (line ++ after)

  abbrev n : ℕ
  n = length before

  -- a place in the line up to which R matches there
  abbrev Ends : (ℕ → ℕ → Type 0) → ℕ → ℕ → Type 0
  Ends R i j = (k : ℕ) × (j ≡ n + k) × (k ≤ length line) × R i k

  one_back : (rs : List (ℕ × ℕ)) → in_ranges rs 10 ≡ false → (i j : ℕ) → i ≤ length line
      → Matches held (byte_in rs) (n + i) j → Ends (Matches line (byte_in rs)) i j
  one_back rs none i j le m = by_place (cases_lt i (length line))
    where
      b : ℕ
      b = m.0

      no_lf : b ≡ 10 → ⊥
      no_lf e = true≢false (sym m.2 ∙ ap (in_ranges rs) e ∙ none)

      by_edge : (slice_get held (n + length line) ≡ None) ⊎ (slice_get held (n + length line) ≡ Some 10)
          → i ≡ length line → ⊥
      by_edge (inl none) e = none-some b (sym none ∙ ap (λ k. slice_get held (n + k)) (sym e) ∙ m.1)
      by_edge (inr lf) e = no_lf (some_same b 10 (sym m.1 ∙ ap (λ k. slice_get held (n + k)) e ∙ lf))

      by_place : (i < length line) ⊎ (length line ≤ i) → Ends (Matches line (byte_in rs)) i j
      by_place (inl inside) =
          let here = slice_get-get_or line i 0 inside in
          let same = sym (byte_there before line after i _ here) ∙ m.1 in
          let end = m.3 in
          (i + 1, omega (arith, end), omega (arith, inside), (b, here ∙ same, m.2, refl))
      by_place (inr past) = absurd (by_edge at.back (omega (arith, le, past)))

  back : (re : Re) → TakesNoLf re → (i j : ℕ) → i ≤ length line → Matches held re (n + i) j → Ends (Matches line re) i j
  back empty dry i j le m = (i, m, le, refl)
  back (literal bs) dry i j le m = absurd dry
  back (byte_in rs) dry i j le m = one_back rs dry i j le m
  back (char_in rs) dry i j le m = absurd dry
  back (look l) dry i j le m = (i, m.1, le, (look_back before line after at l dry i le m.0, refl))
  back (cat a b) dry i j le m =
      let first = back a dry.0 i m.0 le m.1 in
      let rest = back b dry.1 first.0 j first.2 (subst (λ l. Matches held b l j) first.1 m.2) in
      (rest.0, rest.1, rest.2, (first.0, first.3, rest.3))
  back (alt a b) dry i j le (inl m) = let e = back a dry.0 i j le m in (e.0, e.1, e.2, inl e.3)
  back (alt a b) dry i j le (inr m) = let e = back b dry.1 i j le m in (e.0, e.1, e.2, inr e.3)
  back (group k a) dry i j le m = back a dry i j le m
  back (plus greedy a) dry i j le m = rounds_back (Matches held a) (Matches line a)
      (λ k l le' r. back a dry k l le' r) i le j m
    where
      rounds_back : (R S : ℕ → ℕ → Type 0) → ((k l : ℕ) → k ≤ length line → R (n + k) l → Ends S k l) → (i : ℕ)
          → i ≤ length line → (j : ℕ) → Rounds R (n + i) j → Ends (Rounds S) i j
      rounds_back R S to i le _ (one_round j r) = let e = to i j le r in (e.0, e.1, e.2, one_round e.0 e.3)
      rounds_back R S to i le _ (next_round l j rs r) =
          let first = rounds_back R S to i le l rs in
          let last = to first.0 j first.2 (subst (λ p. R p j) first.1 r) in
          (last.0, last.1, last.2, next_round first.0 last.0 first.3 last.3)

pub inside_law : InsideLaw
inside_law re dry before line after at i j le m = let e = back before line after at re dry i j le m in (e.0, e.3)
