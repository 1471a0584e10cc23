-- A newline that begins within a text ends within it.
use Rattle.std.proofs.Common.{◌≡◌, ℕ, ◌+◌, ◌<◌, ◌≤◌, Bool, true, false, cond, ◌&&◌, ◌==◌, nat_lt, slice_index}
use Rattle.std.proofs.Common.{ltb-true, List, [], ◌∷◌, length, refl, arith}
use Rattle.byte_lanes.specs.Newlines.{stands, longest}

both : (a b : Bool) → (a && b) ≡ true → (a ≡ true) × (b ≡ true)
both true b holds = (refl, holds)
both false b holds = cc

stands_within : (word bytes : List ℕ) (at : ℕ) → at ≤ length bytes → stands word bytes at ≡ true
    → at + length word ≤ length bytes
unfolding stands
stands_within [] bytes at within here = omega arith
stands_within (b ∷ word) bytes at within here =
    let first = both (nat_lt at (length bytes)) (slice_index bytes at == b && stands word bytes (at + 1)) here in
    let later = both (slice_index bytes at == b) (stands word bytes (at + 1)) first.1 in
    let more : at < length bytes = ltb-true at (length bytes) first.0 in
    let rest = stands_within word bytes (at + 1) (omega arith) later.1 in
    omega (arith, rest)

either : (b : Bool) (n m at : ℕ) → at ≤ m → (b ≡ true → at + n ≤ m) → at + cond b n 0 ≤ m
either true n m at within fits = fits refl
either false n m at within fits = omega arith

one_within : (word bytes : List ℕ) (at : ℕ) → at ≤ length bytes
    → at + cond (stands word bytes at) (length word) 0 ≤ length bytes
one_within word bytes at within = either (stands word bytes at) (length word) (length bytes) at within
    (stands_within word bytes at within)

pub longest_within : (words : List (List ℕ)) (bytes : List ℕ) (at : ℕ) → at ≤ length bytes
    → at + longest words bytes at ≤ length bytes
longest_within [] bytes at within = omega arith
longest_within (word ∷ words) bytes at within =
    let rest = longest_within words bytes at within in
    let here : at + cond (stands word bytes at) (length word) 0 ≤ length bytes = one_within word bytes at within in
    omega (arith, rest, here)
