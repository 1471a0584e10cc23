-- The bytes of sets and of letters in both cases, as they are gathered.
use Rattle.std.proofs.Common.{◌≡◌, ℕ, ◌+◌, ◌≤◌, ◌⊎◌, inl, inr, Bool, true, false, ◌||◌, ◌&&◌, ◌==◌, nat_lt, nat_le}
use Rattle.std.proofs.Common.{arith}
use Rattle.std.specs.Int.{is_in_range}
use Rattle.std.proofs.lemmas.Bool.Decides.{nat_tests}
use Rattle.uni_text.specs.Ascii.{is_digit}
use Rattle.pat_tree.specs.declared.nodes.SetName.TheVariants.{Word}
use Rattle.char_sets.specs.Sets.{set_has}

pub word_is : (k : ℕ) → (((is_digit k || is_in_range 65 90 k) || k == 95) || is_in_range 97 122 k) ≡ set_has false
    Word k
word_is k = grind (arith, nat_tests)

-- the bytes of a range, where the last of them was added
pub range_done : (first last b k : ℕ) → first ≤ b → (b ≤ last + 1) ⊎ (b ≡ first) → last + 1 ≤ b
    → (nat_le first k && nat_lt k b) ≡ is_in_range first last k
range_done first last b k from (inl within) done = grind (arith, nat_tests)
range_done first last b k from (inr none) done = grind (arith, nat_tests)

-- one more byte is tested
pub one_more : (test : ℕ → Bool) (b k : ℕ) → test b ≡ true
    → ((nat_lt k b && test k) || k == b) ≡ (nat_lt k (b + 1) && test k)
one_more test b k is = grind (arith, nat_tests)

pub none_more : (test : ℕ → Bool) (b k : ℕ) → test b ≡ false → (nat_lt k b && test k) ≡ (nat_lt k (b + 1) && test k)
none_more test b k is = grind (arith, nat_tests)
