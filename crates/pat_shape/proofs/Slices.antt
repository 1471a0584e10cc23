-- What matches in a line matches in the text that holds it.
use Rattle.std.proofs.Common.{◌≡◌, ◌∙◌, ℕ, ◌+◌, ◌≤◌, max, List, ◌++◌, length, append_assoc, drop, inl, inr, ap}
use Rattle.std.proofs.Common.{⊎_elim, arith}
use Rattle.std.specs.Prelude.{encode_utf8}
use Rattle.std.specs.Char.{len_utf8}
use Rattle.std.proofs.lemmas.List.{drop-append-le}
use Rattle.std.proofs.Math.Seq.{drop-append-add}
use Rattle.regex_hir.specs.Re.{Re, empty, literal, byte_in, char_in, look, cat, alt, group, plus}
use Rattle.regex_hir.specs.Matches.{Matches, Rounds, one_round, next_round}
use Rattle.regex_hir.proofs.TextLemmas.{has_bytes_at_parts, has_bytes_at_from, char_at_parts, char_at_from}
use Rattle.regex_hir.proofs.MatchesLemmas.{Matches-IsSpan}
use Rattle.pat_shape.specs.Looks.{IsLine, SeesLines, SliceLaw}
use Rattle.pat_shape.proofs.Looks.{look_there, byte_there}

module _ (before line after : List ℕ) (at : IsLine before line after) where
  abbrev held : List ℕ
  held = before ++ (line ++ after)

  abbrev n : ℕ
  n = length before

  from_there : (i : ℕ) → i ≤ length line → drop (n + i) held ≡ drop i line ++ after
  from_there i le = drop-append-add before (line ++ after) i ∙ drop-append-le i line after le

  texts : (i : ℕ) (bs rest : List ℕ) → i ≤ length line → drop i line ≡ bs ++ rest
      → drop (n + i) held ≡ bs ++ (rest ++ after)
  texts i bs rest le e = from_there i le ∙ ap (λ (xs : List ℕ). xs ++ after) e ∙ append_assoc bs rest after

  moved : (re : Re) → SeesLines re → (i j : ℕ) → i ≤ length line → Matches line re i j → Matches held re (n + i) (n + j)
  moved empty sees i j le m = ap (λ k. n + k) m
  moved (literal bs) sees i j le m = (
    has_bytes_at_from held (n + i) bs _ (texts i bs (drop (i + length bs) line) le (has_bytes_at_parts line i bs m.0)),
    let e = m.1 in omega (arith, e),
  )
  moved (byte_in rs) sees i j le m = (m.0, byte_there before line after i m.0 m.1, m.2, let e = m.3 in omega (arith, e))
  moved (char_in rs) sees i j le m =
      let c = char_at_parts line i m.0 m.1 in (
        m.0,
        char_at_from held (n + i) m.0 _ c.0 (texts i (encode_utf8 m.0) (drop (i + len_utf8 m.0) line) le c.1),
        m.2,
        let e = m.3 in omega (arith, e),
      )
  moved (look l) sees i j le m = (look_there before line after at l sees i le m.0, ap (λ k. n + k) m.1)
  moved (cat a b) sees i j le m =
      let span = Matches-IsSpan line a i m.0 m.1 in
      (n + m.0, moved a sees.0 i m.0 le m.1, moved b sees.1 m.0 j (omega (arith, span, le)) m.2)
  moved (alt a b) sees i j le m = ⊎_elim (λ l. inl (moved a sees.0 i j le l)) (λ r. inr (moved b sees.1 i j le r)) m
  moved (group k a) sees i j le m = moved a sees i j le m
  moved (plus greedy a) sees i j le m =
      (rounds_moved (Matches line a) (Matches held a) (λ k l le' r. moved a sees k l le' r)
      (λ k l r. Matches-IsSpan line a k l r) i le j m).0
    where
      rounds_moved : (R S : ℕ → ℕ → Type 0) → ((k l : ℕ) → k ≤ length line → R k l → S (n + k) (n + l))
          → ((k l : ℕ) → R k l → (k ≤ l) × (l ≤ max k (length line)))
          → (i : ℕ) → i ≤ length line → (j : ℕ) → Rounds R i j → Rounds S (n + i) (n + j) × (j ≤ length line)
      rounds_moved R S to span i le _ (one_round j r) = let s = span i j r in
          (one_round (n + j) (to i j le r), omega (arith, s, le))
      rounds_moved R S to span i le _ (next_round l j rs r) =
          let first = rounds_moved R S to span i le l rs in
          let s = span l j r in
          let mid = first.1 in
          (next_round (n + l) (n + j) first.0 (to l j first.1 r), omega (arith, s, mid))

pub slice_law : SliceLaw
slice_law re sees before line after at i j le m = moved before line after at re sees i j le m
