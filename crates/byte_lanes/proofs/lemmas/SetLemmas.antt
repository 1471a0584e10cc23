-- The two tables of a set of bytes.
use Rattle.std.proofs.Common.{zero, suc, max, replicate, ◌≢◌, ◌⊎◌, inl, inr, ◌||◌, set, bit_or, w8, ◌≡◌, ℕ, ◌-◌, ◌*◌}
use Rattle.std.proofs.Common.{◌/◌, ◌%◌, ◌^◌, ◌<◌, ◌≤◌, Bool, true, false, cond, eqb, leb, List, [], ◌∷◌, length}
use Rattle.std.proofs.Common.{get_or, map, refl, sym, ap, ◌∙◌, arith, ⊎_elim, bit_and, pow_pos}
use Rattle.std.specs.Int.{bit_at}
use Rattle.std.specs.List.{range_with_len}
use Rattle.std.proofs.lemmas.List.FromFn.{get_or-map-range_with_len, length-range_with_len}
use Rattle.std.proofs.lemmas.Simd.{get_or-replicate}
use Rattle.std.proofs.lemmas.Nat.Bits.{and_pow, bit_at-lt, bit_at_or, bit_at-zero, bit_at_set_same, bit_at_set_other}
use Rattle.std.proofs.lemmas.List.{get_or-set_same, get_or-set_other, get_or_past, length-map}
use Rattle.std.proofs.lemmas.Bool.{cases_Bool, cases_lt, cases_eq, eq-eqb, ne_eqb, lt-ltb, le-ltb, leb-false, leb-true}
use Rattle.byte_lanes.specs.Sets.{member, flags}

at_below : (f : ℕ → Bool) (n b : ℕ) → b < n → get_or (map f (range_with_len 0 n)) b false ≡ f b
at_below f n b l = get_or-map-range_with_len f 0 n b b false l (omega arith)

past_all : (f : ℕ → Bool) (n b : ℕ) → n ≤ b → get_or (map f (range_with_len 0 n)) b false ≡ false
past_all f n b h = get_or_past _ b false (omega (arith, length-map (range_with_len 0 n) f, length-range_with_len 0 n))

pub flags-member : (low high : List ℕ) (b : ℕ) → b < 256 → get_or (flags low high) b false ≡ member low high b
unfolding flags
flags-member low high b l = at_below (member low high) 256 b l

pub member-low : (low high : List ℕ) (b : ℕ) → b < 128
    → member low high b ≡ eqb (bit_at (get_or low (b % 16) 0) (b / 16)) 1
member-low low high b l =
    ap (λ q. cond q (eqb (bit_at (get_or low (b % 16) 0) (b / 16)) 1)
    (eqb (bit_at (get_or high (b % 16) 0) (b / 16 - 8)) 1)) (lt-ltb b 128 l)

pub member-high : (low high : List ℕ) (b : ℕ) → 128 ≤ b
    → member low high b ≡ eqb (bit_at (get_or high (b % 16) 0) (b / 16 - 8)) 1
member-high low high b l =
    ap (λ q. cond q (eqb (bit_at (get_or low (b % 16) 0) (b / 16)) 1)
    (eqb (bit_at (get_or high (b % 16) 0) (b / 16 - 8)) 1)) (le-ltb b 128 l)

-- the bits of a table that single out one row each
abbrev pub row_bits : List ℕ
row_bits = 1 ∷ 2 ∷ 4 ∷ 8 ∷ 16 ∷ 32 ∷ 64 ∷ 128 ∷ 1 ∷ 2 ∷ 4 ∷ 8 ∷ 16 ∷ 32 ∷ 64 ∷ 128 ∷ []

row_bits-are : row_bits ≡ map (λ h. 2 ^ (h % 8)) (range_with_len 0 16)
row_bits-are = refl

pub row_bit : (h : ℕ) → h < 16 → get_or row_bits h 0 ≡ 2 ^ (h % 8)
row_bit h l = ap (λ xs. get_or xs h 0) row_bits-are ∙ get_or-map-range_with_len (λ h. 2 ^ (h % 8)) 0 16 h h 0 l
    (omega arith)

-- a row has the bit exactly where the mask keeps it
pub masked : (r j : ℕ) → eqb (bit_and r (2 ^ j)) (2 ^ j) ≡ eqb (bit_at r j) 1
masked r j =
    let p = pow_pos j in
    let e = and_pow r j in
    let two = bit_at-lt r j in
    ⊎_elim (λ one. eq-eqb _ _ (e ∙ ap (λ x. x * 2 ^ j) one ∙ omega arith) ∙ sym (eq-eqb _ _ one))
    (λ other.
    let zero : bit_at r j ≡ 0 = omega arith in
    let gone : bit_and r (2 ^ j) ≡ 0 = e ∙ ap (λ x. x * 2 ^ j) zero ∙ omega arith in
    ne_eqb _ _ (λ q. omega arith) ∙ sym (ne_eqb _ _ other))
    (cases_eq (bit_at r j) 1)

-- what the lanes of a set compute at one byte
abbrev pub looked_up : List ℕ → List ℕ → ℕ → Bool
looked_up low high x =
    eqb (bit_and (cond (leb 128 x) (get_or high (x % 16) 0) (get_or low (x % 16) 0)) (get_or row_bits (x / 16) 0))
    (get_or row_bits (x / 16) 0)

pub looked_up-member : (low high : List ℕ) (x : ℕ) → x < 256 → looked_up low high x ≡ member low high x
looked_up-member low high x small =
    let b = get_or row_bits (x / 16) 0 in
    ⊎_elim (λ below.
    let is_bit : b ≡ 2 ^ (x / 16) = row_bit (x / 16) (omega arith) ∙ ap (λ n. 2 ^ n) (omega arith) in
    let no_is : leb 128 x ≡ false = ⊎_elim (λ t. absurd (omega (arith, leb-true 128 x t))) (λ f. f)
    (cases_Bool (leb 128 x)) in
    (λ i. eqb (bit_and (cond (no_is i) (get_or high (x % 16) 0) (get_or low (x % 16) 0)) (is_bit i)) (is_bit i))
    ∙ masked (get_or low (x % 16) 0) (x / 16) ∙ sym (member-low low high x below))
    (λ above.
    let is_bit : b ≡ 2 ^ (x / 16 - 8) = row_bit (x / 16) (omega arith) ∙ ap (λ n. 2 ^ n) (omega arith) in
    let yes_is : leb 128 x ≡ true = ⊎_elim (λ t. t) (λ f. absurd (omega (arith, leb-false 128 x f)))
    (cases_Bool (leb 128 x)) in
    (λ i. eqb (bit_and (cond (yes_is i) (get_or high (x % 16) 0) (get_or low (x % 16) 0)) (is_bit i)) (is_bit i))
    ∙ masked (get_or high (x % 16) 0) (x / 16 - 8) ∙ sym (member-high low high x above))
    (cases_lt x 128)

or-true : (b : Bool) → (b || true) ≡ true
or-true true = refl
or-true false = refl

or-false : (b : Bool) → (b || false) ≡ b
or-false true = refl
or-false false = refl

-- a row with one more bit
abbrev pub with_bit : List ℕ → ℕ → ℕ → List ℕ
with_bit row i j = set row i (bit_or (get_or row i 0) (1 * 2 ^ j % 256))

row_same : (row : List ℕ) (i j : ℕ) → i < length row → j < 8 → bit_at (get_or (with_bit row i j) i 0) j ≡ 1
row_same row i j l k = ap (λ n. bit_at n j) (get_or-set_same row i _ 0 l) ∙ bit_at_set_same w8 (get_or row i 0) j k

row_other : (row : List ℕ) (i j i2 j2 : ℕ) → i < length row → j < 8 → (i2 ≢ i) ⊎ (j2 ≢ j)
    → bit_at (get_or (with_bit row i j) i2 0) j2 ≡ bit_at (get_or row i2 0) j2
row_other row i j i2 j2 l k (inl ne) = ap (λ n. bit_at n j2) (get_or-set_other row i i2 _ 0 ne)
row_other row i j i2 j2 l k (inr ne) =
    ⊎_elim (λ e.
    let same : get_or (with_bit row i j) i2 0 ≡ bit_or (get_or row i2 0) (1 * 2 ^ j % 256) =
    ap (λ q. get_or (with_bit row i j) q 0) e ∙ get_or-set_same row i _ 0 l
    ∙ ap (λ q. bit_or (get_or row q 0) (1 * 2 ^ j % 256)) (sym e) in
    ap (λ n. bit_at n j2) same ∙ bit_at_set_other w8 (get_or row i2 0) j k j2 ne)
    (λ apart. ap (λ n. bit_at n j2) (get_or-set_other row i i2 _ 0 apart)) (cases_eq i2 i)

apart_parts : (a b : ℕ) → a ≢ b → (a % 16 ≢ b % 16) ⊎ (a / 16 ≢ b / 16)
apart_parts a b ne = ⊎_elim (λ e. inr (λ q. ne (omega arith))) (λ d. inl d) (cases_eq (a % 16) (b % 16))

flags_past : (low high : List ℕ) (k : ℕ) → 256 ≤ k → get_or (flags low high) k false ≡ false
unfolding flags
flags_past low high k h = past_all (member low high) 256 k h

-- no byte is 256 or more
no_byte : (low high rows tops : List ℕ) (b : ℕ) → b < 256 → (k : ℕ) → 256 ≤ k
    → get_or (flags rows tops) k false ≡ (get_or (flags low high) k false || eqb k b)
no_byte low high rows tops b small k h =
    flags_past rows tops k h ∙ sym (ap (λ q. q || eqb k b) (flags_past low high k h) ∙ ne_eqb k b (λ e. omega arith))

byte_inserted-low : (low high : List ℕ) (b : ℕ) → length low ≡ 16 → b < 128 → (k : ℕ) → k < 256
    → get_or (flags (with_bit low (b % 16) (b / 16)) high) k false ≡ (get_or (flags low high) k false || eqb k b)
byte_inserted-low low high b long small k l =
    let rows = with_bit low (b % 16) (b / 16) in
    let r : b % 16 < length low = omega arith in
    let j : b / 16 < 8 = omega arith in
    flags-member rows high k l
    ∙ ⊎_elim (λ e.
    let s : member rows high k ≡ true = ap (member rows high) e ∙ member-low rows high b small
    ∙ eq-eqb _ _ (row_same low (b % 16) (b / 16) r j) in
    s ∙ sym (ap (λ q. get_or (flags low high) k false || q) (eq-eqb k b e) ∙ or-true _))
    (λ ne.
    let s : member rows high k ≡ member low high k =
    ⊎_elim (λ below. member-low rows high k below ∙ ap (λ n. eqb n 1)
    (row_other low (b % 16) (b / 16) (k % 16) (k / 16) r j (apart_parts k b ne))
    ∙ sym (member-low low high k below))
    (λ above. member-high rows high k above ∙ sym (member-high low high k above)) (cases_lt k 128) in
    s ∙ sym (ap (λ q. get_or (flags low high) k false || q) (ne_eqb k b ne) ∙ or-false _ ∙ flags-member low high k l))
    (cases_eq k b)

apart_high : (a b : ℕ) → 128 ≤ a → 128 ≤ b → a ≢ b → (a % 16 ≢ b % 16) ⊎ (a / 16 - 8 ≢ b / 16 - 8)
apart_high a b p q ne = ⊎_elim (λ e. inr (λ d. ne (omega arith))) (λ d. inl d) (cases_eq (a % 16) (b % 16))

byte_inserted-high : (low high : List ℕ) (b : ℕ) → length high ≡ 16 → 128 ≤ b → b < 256 → (k : ℕ) → k < 256
    → get_or (flags low (with_bit high (b % 16) (b / 16 - 8))) k false ≡ (get_or (flags low high) k false || eqb k b)
byte_inserted-high low high b long large small k l =
    let rows = with_bit high (b % 16) (b / 16 - 8) in
    let r : b % 16 < length high = omega arith in
    let j : b / 16 - 8 < 8 = omega arith in
    flags-member low rows k l
    ∙ ⊎_elim (λ e.
    let s : member low rows k ≡ true = ap (member low rows) e ∙ member-high low rows b large
    ∙ eq-eqb _ _ (row_same high (b % 16) (b / 16 - 8) r j) in
    s ∙ sym (ap (λ q. get_or (flags low high) k false || q) (eq-eqb k b e) ∙ or-true _))
    (λ ne.
    let s : member low rows k ≡ member low high k =
    ⊎_elim (λ below. member-low low rows k below ∙ sym (member-low low high k below))
    (λ above. member-high low rows k above ∙ ap (λ n. eqb n 1)
    (row_other high (b % 16) (b / 16 - 8) (k % 16) (k / 16 - 8) r j (apart_high k b above large ne))
    ∙ sym (member-high low high k above)) (cases_lt k 128) in
    s ∙ sym (ap (λ q. get_or (flags low high) k false || q) (ne_eqb k b ne) ∙ or-false _ ∙ flags-member low high k l))
    (cases_eq k b)

none_in : (b : ℕ) → b < 256 → member (replicate 16 0) (replicate 16 0) b ≡ false
none_in b l =
    let z : get_or (replicate 16 0) (b % 16) 0 ≡ 0 = get_or-replicate 16 (b % 16) 0 0 (omega arith) in
    ⊎_elim (λ below. member-low (replicate 16 0) (replicate 16 0) b below ∙ ap (λ n. eqb (bit_at n (b / 16)) 1) z
    ∙ ap (λ n. eqb n 1) (bit_at-zero (b / 16)))
    (λ above. member-high (replicate 16 0) (replicate 16 0) b above ∙ ap (λ n. eqb (bit_at n (b / 16 - 8)) 1) z
    ∙ ap (λ n. eqb n 1) (bit_at-zero (b / 16 - 8)))
    (cases_lt b 128)

flags-past : (low high : List ℕ) (b : ℕ) → 256 ≤ b → get_or (flags low high) b false ≡ false
unfolding flags
flags-past low high b h = past_all (member low high) 256 b h

pub flags-none : (b : ℕ) → get_or (flags (replicate 16 0) (replicate 16 0)) b false ≡ false
flags-none b = ⊎_elim (λ l. flags-member _ _ b l ∙ none_in b l) (λ past. flags-past _ _ b past) (cases_lt b 256)

pub inserted-low : (low high : List ℕ) (b : ℕ) → length low ≡ 16 → b < 128 → (k : ℕ)
    → get_or (flags (with_bit low (b % 16) (b / 16)) high) k false ≡ (get_or (flags low high) k false || eqb k b)
inserted-low low high b long small k =
    ⊎_elim (λ l. byte_inserted-low low high b long small k l)
    (λ h. no_byte low high (with_bit low (b % 16) (b / 16)) high b (omega arith) k h) (cases_lt k 256)

pub inserted-high : (low high : List ℕ) (b : ℕ) → length high ≡ 16 → 128 ≤ b → b < 256 → (k : ℕ)
    → get_or (flags low (with_bit high (b % 16) (b / 16 - 8))) k false ≡ (get_or (flags low high) k false || eqb k b)
inserted-high low high b long large small k =
    ⊎_elim (λ l. byte_inserted-high low high b long large small k l)
    (λ h. no_byte low high low (with_bit high (b % 16) (b / 16 - 8)) b small k h) (cases_lt k 256)

-- The rows of two sets together.

one_of : (x y : ℕ) → x < 2 → y < 2 → eqb (max x y) 1 ≡ (eqb x 1 || eqb y 1)
one_of zero zero l m = refl
one_of zero (suc zero) l m = refl
one_of (suc zero) zero l m = refl
one_of (suc zero) (suc zero) l m = refl
one_of (suc (suc x)) y l m = absurd (omega arith)
one_of zero (suc (suc y)) l m = absurd (omega arith)
one_of (suc zero) (suc (suc y)) l m = absurd (omega arith)

bit_of_both : (r a b j : ℕ) → r ≡ bit_or a b → eqb (bit_at r j) 1 ≡ (eqb (bit_at a j) 1 || eqb (bit_at b j) 1)
bit_of_both r a b j e = ap (λ n. eqb (bit_at n j) 1) e ∙ ap (λ n. eqb n 1) (bit_at_or a b j)
    ∙ one_of (bit_at a j) (bit_at b j) (bit_at-lt a j) (bit_at-lt b j)

abbrev pub AreJoined : List ℕ → List ℕ → List ℕ → Type 0
AreJoined rows one other = (i : ℕ) → i < 16 → get_or rows i 0 ≡ bit_or (get_or one i 0) (get_or other i 0)

module _ (low high low1 high1 low2 high2 : List ℕ) (lows : AreJoined low low1 low2)
    (highs : AreJoined high high1 high2) where
  byte_joined : (k : ℕ) → k < 256 → get_or (flags low high) k
      false ≡ (get_or (flags low1 high1) k false || get_or (flags low2 high2) k false)
  byte_joined k l =
      flags-member low high k l
      ∙ ⊎_elim
      (λ below.
      member-low low high k below ∙ bit_of_both _ _ _ (k / 16) (lows (k % 16) (omega arith))
      ∙ sym ((λ i. (member-low low1 high1 k below i || member-low low2 high2 k below i))))
      (λ above.
      member-high low high k above ∙ bit_of_both _ _ _ (k / 16 - 8) (highs (k % 16) (omega arith))
      ∙ sym ((λ i. (member-high low1 high1 k above i || member-high low2 high2 k above i))))
      (cases_lt k 128)
      ∙ sym (λ i. (flags-member low1 high1 k l i || flags-member low2 high2 k l i))

  pub joined-flags : (k : ℕ) → get_or (flags low high) k
      false ≡ (get_or (flags low1 high1) k false || get_or (flags low2 high2) k false)
  joined-flags k =
      ⊎_elim (λ l. byte_joined k l)
      (λ past. flags-past low high k past
      ∙ sym (λ i. (flags-past low1 high1 k past i || flags-past low2 high2 k past i)))
      (cases_lt k 256)

-- Members of one set behind those of another.

pub two_more : (p q r : Bool) → (p || (q || r)) ≡ ((p || q) || r)
two_more true q r = refl
two_more false q r = refl

pub three_more : (p q r s : Bool) → (p || (q || r || s)) ≡ (((p || q) || r) || s)
three_more true q r s = refl
three_more false true r s = refl
three_more false false true s = refl
three_more false false false s = refl
