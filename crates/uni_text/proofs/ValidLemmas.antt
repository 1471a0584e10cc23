-- The longest part of a text that is UTF-8.
use Rattle.std.proofs.Common.{◌≡◌, ℕ, zero, suc, ◌≤◌, Bool, true, false, List, length, take, refl, subst, arith, inl}
use Rattle.std.proofs.Common.{inr, if◌then◌else◌}
use Rattle.std.proofs.lemmas.Bool.{cases_lt}
use Rattle.std.proofs.lemmas.Str.{IsUtf8-nil, IsUtf8-from_is_utf8, is_utf8-from_IsUtf8}
use Rattle.std.specs.Str.{IsUtf8, is_utf8}
use Rattle.std.specs.Str.Lossy.{utf8_valid_len, valid_len_up_to}
use Rattle.uni_text.specs.Laws.{IsLongestPart}

-- of the lengths up to n the longest whose part is UTF-8
record IsLongestUpTo (bytes : List ℕ) (n k : ℕ) : Type 0 where
  within : k ≤ n
  valid : IsUtf8 (take k bytes)
  longest : (m : ℕ) → m ≤ n → IsUtf8 (take m bytes) → m ≤ k

longest-none : (bytes : List ℕ) → IsLongestUpTo bytes 0 0
longest-none bytes = record { within = omega arith; valid = IsUtf8-nil; longest = λ m le h. le }

longest-more : (bytes : List ℕ) (n k : ℕ) (b : Bool) → is_utf8 (take (suc n) bytes) ≡ b → IsLongestUpTo bytes n k
    → IsLongestUpTo bytes (suc n) (if b then suc n else k)
longest-more bytes n k true is below = record {
  within = omega arith;
  valid = IsUtf8-from_is_utf8 (take (suc n) bytes) is;
  longest = λ m le h. le;
}
longest-more bytes n k false is below = record {
  within = omega (arith, below.within);
  valid = below.valid;
  longest = λ m le h. elim (cases_lt m (suc n)) [
    | inl less ↦ below.longest m (omega arith) h
    | inr more ↦
        let at : m ≡ suc n = omega arith in
        let valid : is_utf8 (take (suc n) bytes) ≡ true =
        is_utf8-from_IsUtf8 (take (suc n) bytes) (subst (λ k. IsUtf8 (take k bytes)) at h) in
        cc
  ];
}

longest_up_to : (bytes : List ℕ) (n : ℕ) → IsLongestUpTo bytes n (valid_len_up_to bytes n)
longest_up_to bytes zero = longest-none bytes
longest_up_to bytes (suc n) = longest-more bytes n (valid_len_up_to bytes n) (is_utf8 (take (suc n) bytes)) refl
    (longest_up_to bytes n)

pub utf8_valid_len-longest : (bytes : List ℕ) → IsLongestPart bytes (utf8_valid_len bytes)
unfolding utf8_valid_len
utf8_valid_len-longest bytes = let all = longest_up_to bytes (length bytes) in record {
  within = all.within;
  valid = all.valid;
  longest = all.longest;
}
