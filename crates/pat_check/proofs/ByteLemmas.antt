-- First bytes of characters, and their folding to ASCII.
use Rattle.std.proofs.Common.{◌≡◌, ◌⊎◌, inl, inr, ℕ, ◌+◌, ◌/◌, ◌%◌, ◌<◌, ◌≤◌, ◌||◌, ◌==◌, nat_lt, Bool, true, false}
use Rattle.std.proofs.Common.{◌∙◌, ◌&&◌, if◌then◌else◌, max, cond, [], ◌∷◌, refl, sym, ap, subst, arith}
use Rattle.std.specs.Char.{encode_utf8}
use Rattle.std.specs.Int.{is_in_range}
use Rattle.std.proofs.Math.Bool.{or-true}
use Rattle.std.proofs.lemmas.Bool.{eqb-true, eqb-false}
use Rattle.std.proofs.lemmas.Bool.Decides.{nat_tests}
use Rattle.byte_lanes.specs.Newlines.{newline_len, stands}
use Rattle.byte_lanes.specs.declared.line_end.EndKind.TheVariants as kind
use Rattle.pat_check.specs.Lead.{begins_with}
use Rattle.pat_check.specs.Starts.{char_lead}

-- the first byte in UTF by the tests of the encoding
lead_by : (low high one two three : Bool) → ℕ → ℕ → Bool
lead_by low high one two three c b =
    begins_with true kind.Lf kind.Lf (λ n d. false) (λ d. d) b
    (elim (low || high) [
      | true ↦
          cond one (c ∷ [])
          (cond two ((192 + c / 64) ∷ (128 + c % 64) ∷ [])
          (cond three ((224 + c / 4096) ∷ (128 + c / 64 % 64) ∷ (128 + c % 64) ∷ [])
          ((240 + c / 262144) ∷ (128 + c / 4096 % 64) ∷ (128 + c / 64 % 64) ∷ (128 + c % 64) ∷ [])))
      | false ↦ []
    ])

lead_is : (c b : ℕ) → lead_by (nat_lt c 0xD800) (is_in_range 0xE000 0x10_FFFF c) (nat_lt c 128) (nat_lt c 2048)
    (nat_lt c 65536) c b ≡ char_lead true c b
unfolding lead_by encode_utf8
lead_is c b = refl

at_tests : (low high one two three : Bool) (c b : ℕ) → nat_lt c 0xD800 ≡ low → is_in_range 0xE000 0x10_FFFF c ≡ high
    → nat_lt c 128 ≡ one → nat_lt c 2048 ≡ two → nat_lt c 65536 ≡ three →
    lead_by low high one two three c b ≡ char_lead true c b
at_tests low high one two three c b h i j k l = rw (← h, ← i, ← j, ← k, ← l) (lead_is c b)

pub two_lead : (c b : ℕ) → 128 ≤ c → c < 2048 → (192 + c / 64 == b) ≡ char_lead true c b
unfolding lead_by
two_lead c b l m =
    at_tests true (is_in_range 0xE000 0x10_FFFF c) false true (nat_lt c 65536) c b (grind (arith, nat_tests)) refl
    (grind (arith, nat_tests)) (grind (arith, nat_tests)) refl

pub three_lead : (c b : ℕ) → 2048 ≤ c → (c < 0xD800) ⊎ (0xE000 ≤ c) → c < 65536
    → (224 + c / 4096 == b) ≡ char_lead true c b
unfolding lead_by
three_lead c b l (inl m) k =
    at_tests true (is_in_range 0xE000 0x10_FFFF c) false false true c b (grind (arith, nat_tests)) refl
    (grind (arith, nat_tests)) (grind (arith, nat_tests)) (grind (arith, nat_tests))
three_lead c b l (inr m) k =
    at_tests false true false false true c b (grind (arith, nat_tests)) (grind (arith, nat_tests))
    (grind (arith, nat_tests)) (grind (arith, nat_tests)) (grind (arith, nat_tests))

pub four_lead : (c b : ℕ) → 65536 ≤ c → c ≤ 0x10_FFFF → (240 + c / 262144 == b) ≡ char_lead true c b
unfolding lead_by
four_lead c b l m =
    at_tests false true false false false c b (grind (arith, nat_tests)) (grind (arith, nat_tests))
    (grind (arith, nat_tests)) (grind (arith, nat_tests)) (grind (arith, nat_tests))

-- `\R` in UTF

flip : (a b : ℕ) → (a == b) ≡ (b == a)
flip a b = grind (arith, nat_tests)

reordered : (s r e n v f : Bool) →
    ((((((false || r) || n) || v) || f) || e) || s) ≡ (s || (s || (r || (e || (n || (v || (f || (r || false))))))))
reordered true r e n v f = or-true _
reordered false true e n v f = refl
reordered false false true n v f = rw or-true refl
reordered false false false true v f = refl
reordered false false false false true f = refl
reordered false false false false false true = refl
reordered false false false false false false = refl

pub break_bytes : (b : ℕ) →
    ((((((false || b == 13) || b == 10) || b == 11) || b == 12) || b == 194) || b == 226)
    ≡ (226 == b || (226 == b || (13 == b || (194 == b || (10 == b || (11 == b || (12 == b || (13 == b || false))))))))
break_bytes b =
    rw (flip b 13, flip b 10, flip b 11, flip b 12, flip b 194, flip b 226)
    (reordered (226 == b) (13 == b) (194 == b) (10 == b) (11 == b) (12 == b))

-- all bytes but LF are no newline where LF is
pub no_lf : (b : ℕ) → b < 256
    → ((false || is_in_range 0 9 b) || is_in_range 11 255 b) ≡ (newline_len kind.Lf (b ∷ []) 0 == 0)
unfolding stands
no_lf b l = by_test (b == 10) refl
  where
    by_test : (t : Bool) → (b == 10) ≡ t
        → ((false || is_in_range 0 9 b) || is_in_range 11 255 b) ≡ (newline_len kind.Lf (b ∷ []) 0 == 0)
    by_test true e =
        subst (λ x. ((false || is_in_range 0 9 x) || is_in_range 11 255 x) ≡ (newline_len kind.Lf (x ∷ []) 0 == 0))
        (sym (eqb-true b 10 e)) refl
    by_test false e =
        let other = eqb-false b 10 e in
        let inside : ((false || is_in_range 0 9 b) || is_in_range 11 255 b) ≡ true = grind (arith, nat_tests) in
        inside ∙ sym (ap (λ t. max (if t && true then 1 else 0) 0 == 0) e)
