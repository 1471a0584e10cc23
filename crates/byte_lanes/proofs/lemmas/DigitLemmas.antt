-- The number that digits write, one digit after another.
use Rattle.std.proofs.Common.{◌≡◌, ℕ, ◌+◌, ◌*◌, ◌<◌, ◌≤◌, List, length, take, get_or, take_all, Some, None, refl}
use Rattle.std.proofs.Common.{sym, ap, ◌∙◌, arith, le-leb, inl, inr}
use Rattle.std.proofs.lemmas.Bool.{cases_lt, lt-leb}
use Rattle.std.proofs.lemmas.Int.Digits.{digits_value_more}
use Rattle.std.proofs.lemmas.Str.Parse.{digits_value-take-le}
use Rattle.std.specs.Char.{digit_value}
use Rattle.std.specs.Str.Parse.{digits_value}
use Rattle.byte_lanes.specs.Digits.{number_of, within_u32}

within : (n : ℕ) → n ≤ 4294967295 → within_u32 n ≡ Some n
within n h = rw (le-leb n 4294967295 h) refl

pub past : (n : ℕ) → 4294967295 < n → within_u32 n ≡ None
past n h = rw (lt-leb n 4294967295 h) refl

-- what an answer says of the number
pub is_past : (n : ℕ) → None ≡ within_u32 n → 4294967295 < n
is_past n e = elim (cases_lt 4294967295 n) [
  | inl h ↦ h
  | inr h ↦ (let some = within n (omega arith) in cc)
]

pub is_within : (n m : ℕ) → Some m ≡ within_u32 n → (m ≡ n) × (m ≤ 4294967295)
is_within n m e = elim (cases_lt 4294967295 n) [
  | inl h ↦ (let none = past n h in cc)
  | inr h ↦ (
      let some = within n (omega arith) in
      let same : m ≡ n = cc in
      (same, omega arith)
      )
]

module _ (radix : ℕ) (digits : List ℕ) (i n : ℕ) (read : n ≡ digits_value radix (take i digits)) where
  longer : i < length digits → n * radix + digit_value (get_or digits i 0) ≡ digits_value radix (take (i + 1) digits)
  longer inside = ap (λ m. m * radix + digit_value (get_or digits i 0)) read
      ∙ sym (digits_value_more radix digits i inside)

  pub one_more : i < length digits → (m : ℕ) → Some m ≡ within_u32 (n * radix + digit_value (get_or digits i 0))
      → (m ≡ digits_value radix (take (i + 1) digits)) × (m ≤ 4294967295)
  one_more inside m e = let (same, small) = is_within _ m e in (same ∙ longer inside, small)

  -- further digits only make the number greater
  pub too_much : i < length digits → 1 ≤ radix → None ≡ within_u32 (n * radix + digit_value (get_or digits i 0))
      → None ≡ number_of radix digits
  too_much inside some e =
      let large = is_past _ e in
      let same = longer inside in
      let least = digits_value-take-le radix digits (i + 1) some in
      sym (past (digits_value radix digits) (omega arith))

  pub all_read : length digits ≤ i → n ≤ 4294967295 → Some n ≡ number_of radix digits
  all_read end few =
      let whole : n ≡ digits_value radix digits = read ∙ ap (digits_value radix) (take_all i digits end) in
      sym (ap within_u32 (sym whole) ∙ within n few)
