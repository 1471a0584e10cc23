-- Lanes that are set at each byte that is no character of ASCII within a line.
use Rattle.std.proofs.Common.{◌≡◌, ℕ, ◌+◌, ◌≤◌, ◌||◌, Bool, true, false, cond, leb, List, get_or, lit≤, bit_or, arith}
use Rattle.std.proofs.lemmas.Bool.Decides.{nat_tests}
use Rattle.byte_lanes.specs.Lanes.{HasLanes, Covers}
use Rattle.byte_lanes.specs.Plain.{is_plain, IsOther}

abbrev lane_of : ℕ → ℕ
lane_of x = bit_or (cond (leb x 13) 255 0) (cond (leb 128 x) 255 0)

either_set : (low high : Bool) → (low || high) ≡ true → 128 ≤ bit_or (cond low 255 0) (cond high 255 0)
either_set true true h = lit≤ tt
either_set true false h = lit≤ tt
either_set false true h = lit≤ tt
either_set false false h = absurd cc

either_test : (x : ℕ) → is_plain x ≡ false → (leb x 13 || leb 128 x) ≡ true
either_test x other = grind (arith, nat_tests)

pub Covers-others : (bytes : List ℕ) (i : ℕ) {v : List ℕ} → HasLanes v (λ k. lane_of (get_or bytes (i + k) 0))
    → Covers (IsOther bytes) i v
Covers-others bytes i {v} h = record {
  long = h.long;
  each = λ k l other.
      let b = get_or bytes (i + k) 0 in
      let e = h.each k l in
      let set : 128 ≤ lane_of b = either_set (leb b 13) (leb 128 b) (either_test b other) in
      omega (arith, e, set);
}
