-- Which bytes are digits, spaces and of words with UCP: each byte is asked of the tables.
use Rattle.std.proofs.Common.{◌≡◌, ℕ, zero, suc, ◌<◌, Bool, true, false, ◌||◌, ◌&&◌, ◌==◌, refl, sym, subst, arith}
use Rattle.std.proofs.Common.{eqb-true}
use Rattle.std.proofs.Math.Bool.{beq}
use Rattle.std.proofs.lemmas.Bool.{and_parts}
use Rattle.std.proofs.lemmas.Bool.Decides.{nat_tests}
use Rattle.std.specs.Int.{is_in_range}
use Rattle.ucd_category.proofs.Computing.{ucd_category}
use Rattle.pat_tree.specs.declared.nodes.SetName.TheVariants.{Digit, Space, Word}
use Rattle.char_sets.specs.Sets.{set_has}

same_below : (ℕ → Bool) → (ℕ → Bool) → ℕ → Bool
same_below f g zero = true
same_below f g (suc n) = beq (f n) (g n) && same_below f g n

same_bool : (a b : Bool) → beq a b ≡ true → a ≡ b
same_bool true true h = refl
same_bool false false h = refl
same_bool true false h = sym h
same_bool false true h = h

last_or_before : (k n : ℕ) → k < suc n → (k == n) ≡ false → k < n
last_or_before k n l other = grind (arith, nat_tests)

same_at : (f g : ℕ → Bool) (n k : ℕ) → same_below f g n ≡ true → k < n → f k ≡ g k
unfolding same_below
same_at f g zero k h l = absurd (omega (arith, l))
same_at f g (suc n) k h l =
    let parts = and_parts (beq (f n) (g n)) (same_below f g n) h in
    elim (k == n) as (λ b. (k == n) ≡ b → f k ≡ g k) [
      | true ↦ λ is. subst (λ x. f x ≡ g x) (sym (eqb-true k n is)) (same_bool (f n) (g n) parts.0)
      | false ↦ λ other. same_at f g n k parts.1 (last_or_before k n l other)
    ] refl

abbrev space_below : ℕ → Bool
space_below k = (set_has false Space k || k == 0x85) || k == 0xA0

abbrev word_below : ℕ → Bool
word_below k =
    (((((((set_has false Word k || k == 0xAA) || is_in_range 0xB2 0xB3 k) || k == 0xB5) || is_in_range 0xB9 0xBA k)
    || is_in_range 0xBC 0xBE k) || is_in_range 0xC0 0xD6 k)
    || is_in_range 0xD8 0xF6 k) || is_in_range 0xF8 0xFF k

digits_below : same_below (set_has false Digit) (set_has true Digit) 256 ≡ true
unfolding ucd_category same_below
digits_below = refl

spaces_below : same_below space_below (set_has true Space) 256 ≡ true
unfolding ucd_category same_below
spaces_below = refl

words_below : same_below word_below (set_has true Word) 256 ≡ true
unfolding ucd_category same_below
words_below = refl

pub digit_is : (k : ℕ) → k < 256 → set_has false Digit k ≡ set_has true Digit k
digit_is k l = same_at (set_has false Digit) (set_has true Digit) 256 k digits_below l

pub space_is : (k : ℕ) → k < 256 → ((set_has false Space k || k == 0x85) || k == 0xA0) ≡ set_has true Space k
space_is k l = same_at space_below (set_has true Space) 256 k spaces_below l

pub word_is : (k : ℕ) → k < 256 →
    ((((((((set_has false Word k || k == 0xAA) || is_in_range 0xB2 0xB3 k) || k == 0xB5) || is_in_range 0xB9 0xBA k)
    || is_in_range 0xBC 0xBE k) || is_in_range 0xC0 0xD6 k)
    || is_in_range 0xD8 0xF6 k) || is_in_range 0xF8 0xFF k) ≡ set_has true Word k
word_is k l = same_at word_below (set_has true Word) 256 k words_below l
