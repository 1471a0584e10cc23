-- The end of a callout's string, a byte at a time.
use Rattle.std.proofs.Common.{◌≡◌, ℕ, ◌+◌, ◌<◌, ◌≤◌, ◌==◌, List, length, get_or, drop, None, Some, if◌then◌else◌}
use Rattle.std.proofs.Common.{refl, inl, inr, arith}
use Rattle.std.proofs.lemmas.List.{drop_more, at_drop_all}
use Rattle.std.proofs.lemmas.Bool.{cases_lt}
use Rattle.token_parts.specs.Bytes.{stands}
use Rattle.token_parts.proofs.Standing.{passes_is, passes_past}
use Rattle.token_parts.proofs.Pairs.{two_more}
use Rattle.token_parts.specs.Callouts.{string_end}

add_one_twice : (i : ℕ) → i + 1 + 1 ≡ i + 2
add_one_twice i = omega arith

pub string_more : (text : List ℕ) (close i : ℕ) → i < length text → string_end close i (drop i text) ≡
    (if get_or text i 0 == close then (if stands text close (i + 1) then string_end close (i + 2) (drop (i + 2) text)
    else Some i)
    else string_end close (i + 1) (drop (i + 1) text))
string_more text close i more = elim (cases_lt (i + 1) (length text)) [
  | inl later ↦ rw (
    two_more text i later,
    drop_more text (i + 1) 0 later,
    passes_is text (λ d. d == close) (i + 1) later,
    add_one_twice i,
  ) refl
  | inr none ↦ rw (
    drop_more text i 0 more,
    at_drop_all (λ rest. rest) text (i + 1) none,
    passes_past text (λ d. d == close) (i + 1) none,
  ) refl
]

pub string_all : (text : List ℕ) (close i : ℕ) → length text ≤ i → string_end close i (drop i text) ≡ None
string_all text close i past = at_drop_all (string_end close i) text i past
