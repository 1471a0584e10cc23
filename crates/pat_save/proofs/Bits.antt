-- Bools and the number that has them as bits.
use Rattle.std.proofs.Common.{◌≡◌, ℕ, zero, suc, ◌+◌, ◌*◌, ◌/◌, ◌%◌, ◌^◌, ◌<◌, ◌≤◌, Bool, true, false, ◌==◌, List, []}
use Rattle.std.proofs.Common.{◌∷◌}
use Rattle.std.proofs.Common.{length, get_or, refl, sym, ap, ◌∙◌, arith, Option}
use Rattle.std.proofs.Math.Nat.{div-div-eq-div-mul, pow-suc, pow-succ'}
use Rattle.std.proofs.lemmas.Bool.Decides.{nat_tests}
use Rattle.pat_tree.specs.declared.options.Options.{Options}
use Rattle.pat_tree.specs.declared.options.Newline.{Newline}
use Rattle.pat_tree.specs.declared.options.Bsr.{Bsr}
use Rattle.pat_save.specs.Fields.{bit, number_of}
use Rattle.pat_save.specs.Image.{flags_of}
use Rattle.pat_save.specs.ReadTables.{bit_of, options_of}

abbrev bits : ℕ → ℕ → List Bool
bits zero n = []
bits (suc k) n = (n % 2 == 1) ∷ bits k (n / 2)

bit_small : (r : ℕ) → r < 2 → bit (r == 1) ≡ r
bit_small zero lt = refl
bit_small (suc zero) lt = refl
bit_small (suc (suc r)) lt = absurd (omega arith)

bit_rem : (n : ℕ) → bit (n % 2 == 1) ≡ n % 2
bit_rem n = bit_small (n % 2) (omega arith)

number_of_bits : (k n : ℕ) → n < 2 ^ k → number_of (bits k n) ≡ n
number_of_bits zero n lt = omega arith
number_of_bits (suc k) n lt =
    let half : n / 2 < 2 ^ k = omega (arith, rw pow-suc at lt) in
    omega (arith, bit_rem n, number_of_bits k (n / 2) half)

-- the bools of options that are made of a number are its bits
pub flags_back : (n : ℕ) (newline : Newline) (bsr : Bsr) (limit : Option ℕ) → n < 2097152
    → number_of (flags_of (options_of n newline bsr limit)) ≡ n
unfolding bit_of
flags_back n newline bsr limit lt = number_of_bits 21 n (omega arith)

rem_bit : (b : Bool) (m : ℕ) → ((bit b + 2 * m) % 2 == 1) ≡ b
rem_bit false m = let e : (0 + 2 * m) % 2 ≡ 0 = omega arith in rw e refl
rem_bit true m = let e : (1 + 2 * m) % 2 ≡ 1 = omega arith in rw e refl

half_bit : (b : Bool) (m : ℕ) → (bit b + 2 * m) / 2 ≡ m
half_bit false m = omega arith
half_bit true m = omega arith

bit_at : (bs : List Bool) (i : ℕ) → i < length bs → bit_of (number_of bs) i ≡ get_or bs i false
unfolding bit_of
bit_at [] i lt = absurd (omega arith)
bit_at (b ∷ bs) zero lt = rem_bit b (number_of bs)
bit_at (b ∷ bs) (suc i) lt = ap (λ n. bit_of n i) (half_bit b (number_of bs)) ∙ bit_at bs i (omega arith)

made_of_bits : (o : Options) (n : ℕ) → ((i : ℕ) → i < 21 → bit_of n i ≡ get_or (flags_of o) i false)
    → options_of n o.newline o.bsr o.match_limit ≡ o
made_of_bits o n h = rw (
  h 0 (omega arith),
  h 1 (omega arith),
  h 2 (omega arith),
  h 3 (omega arith),
  h 4 (omega arith),
  h 5 (omega arith),
  h 6 (omega arith),
  h 7 (omega arith),
  h 8 (omega arith),
  h 9 (omega arith),
  h 10 (omega arith),
  h 11 (omega arith),
  h 12 (omega arith),
  h 13 (omega arith),
  h 14 (omega arith),
  h 15 (omega arith),
  h 16 (omega arith),
  h 17 (omega arith),
  h 18 (omega arith),
  h 19 (omega arith),
  h 20 (omega arith),
) refl

pub options_back : (o : Options) → options_of (number_of (flags_of o)) o.newline o.bsr o.match_limit ≡ o
options_back o = made_of_bits o (number_of (flags_of o)) (λ i lt. bit_at (flags_of o) i lt)

-- a bit by a shift
pub bit_is : (n i : ℕ) → ((n / 2 ^ i) % 2 == 1) ≡ bit_of n i
unfolding bit_of
bit_is n zero = let e : n / 2 ^ 0 ≡ n = omega arith in ap (λ (m : ℕ). m % 2 == 1) e
bit_is n (suc i) =
    ap (λ (m : ℕ). (n / m) % 2 == 1) (pow-succ' 2 i)
    ∙ ap (λ (m : ℕ). m % 2 == 1) (sym (div-div-eq-div-mul n 2 (2 ^ i))) ∙ bit_is (n / 2) i
