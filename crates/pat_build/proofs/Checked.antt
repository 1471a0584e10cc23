-- Whether a text is UTF-8, where it has to be.
use Rattle.std.proofs.Common.{◌≡◌, true, false, not, ℕ, List, refl, ap}
use Rattle.std.proofs.lemmas.Str.{IsUtf8-from_is_utf8, is_utf8-from_IsUtf8}
use Rattle.std.specs.Str.{IsUtf8, is_utf8}

pub is_checked : (text : List ℕ) → IsUtf8 text → not (is_utf8 text) ≡ false
is_checked text h = ap not (is_utf8-from_IsUtf8 text h)

pub is_refused : (text : List ℕ) → (IsUtf8 text → ⊥) → not (is_utf8 text) ≡ true
is_refused text h = elim (is_utf8 text) as (λ b. is_utf8 text ≡ b → not b ≡ true) [
  | true ↦ λ e. absurd (h (IsUtf8-from_is_utf8 text e))
  | false ↦ λ e. refl
] refl
