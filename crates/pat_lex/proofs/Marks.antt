-- The second mark of a POSIX item, a byte at a time.
use Rattle.std.proofs.Common.{◌≡◌, ℕ, ◌+◌, ◌<◌, ◌≤◌, ◌&&◌, ◌||◌, ◌==◌, List, ◌∷◌, length, get_or, drop, None, Some}
use Rattle.std.proofs.Common.{if◌then◌else◌, refl, inl, inr, ap, ◌∙◌, arith}
use Rattle.std.proofs.lemmas.List.{drop_more, at_drop_all}
use Rattle.std.proofs.lemmas.Bool.{cases_lt}
use Rattle.token_parts.specs.Bytes.{◌∈◌}
use Rattle.token_parts.proofs.Pairs.{two_more}
use Rattle.pat_lex.specs.Classes.{mark_again}

pub mark_more : (text : List ℕ) (mark i : ℕ) → i + 1 < length text → mark_again mark i (drop i text) ≡
    (if get_or text i 0 ∈ "\\" && get_or text (i + 1) 0 ∈ "]\\" then mark_again mark (i + 2) (drop (i + 2) text)
    else if get_or text i 0 ∈ "]" || (get_or text i 0 ∈ "[" && get_or text (i + 1) 0 == mark) then None
    else if get_or text i 0 == mark && get_or text (i + 1) 0 ∈ "]" then Some i
    else mark_again mark (i + 1) (drop (i + 1) text))
mark_more text mark i more =
    let e : i + 1 + 1 ≡ i + 2 = omega arith in
    let later = drop_more text (i + 1) 0 more ∙ ap (λ k. get_or text (i + 1) 0 ∷ drop k text) e in
    rw (two_more text i more, later) refl

pub mark_all : (text : List ℕ) (mark i : ℕ) → length text ≤ i + 1 → mark_again mark i (drop i text) ≡ None
mark_all text mark i past = elim (cases_lt i (length text)) [
  | inl more ↦ rw (drop_more text i 0 more, at_drop_all (λ rest. rest) text (i + 1) past) refl
  | inr none ↦ at_drop_all (mark_again mark i) text i none
]
