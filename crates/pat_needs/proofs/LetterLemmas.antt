-- With which bytes a letter may begin in UTF, without regard to case.
use Rattle.std.proofs.Common.{◌≡◌, ℕ, ◌<◌, ◌≤◌, Bool, true, false, ◌||◌, ◌==◌, nat_lt, List, Option, Some, None, sym}
use Rattle.std.proofs.Common.{subst, inl, inr, arith, eqb-true, eq-eqb}
use Rattle.std.specs.Prelude.{IfSome}
use Rattle.std.proofs.lemmas.Bool.{cases_lt, or_left, or_right}
use Rattle.std.proofs.lemmas.Bool.Decides.{nat_tests}
use Rattle.uni_text.specs.Ascii.{ascii_fold}
use Rattle.uni_text.specs.Folding.{fold, begins_past_ascii}
use Rattle.uni_text.proofs.FoldLemmas.{ascii_alike, into_ascii}
use Rattle.pat_needs.specs.Needs.{may_begin}
use Rattle.pat_needs.specs.declared.needs.Taken.{Taken}

below : (c b : ℕ) → b < 128 → may_begin true c b ≡ true → fold c ≡ fold b
below c b small h = let test : nat_lt b 128 ≡ true = grind (arith, nat_tests) in
    eqb-true (fold c) (fold b) (rw test at h)

beyond : (c b : ℕ) → 128 ≤ b → may_begin true c b ≡ true → begins_past_ascii c b ≡ true
beyond c b large h = let test : nat_lt b 128 ≡ false = grind (arith, nat_tests) in rw test at h

clash : (b : Bool) → b ≡ true → b ≡ false → ⊥
clash b h k = cc

alone_past : (c b : ℕ) → c < 128 → (ascii_fold c == 107 || ascii_fold c == 115) ≡ false → begins_past_ascii c b ≡ false
alone_past c b low alone = grind (arith, nat_tests)

-- a letter of ASCII with which no character past it agrees
pub none_past : (c b : ℕ) → c < 128 → (ascii_fold c == 107 || ascii_fold c == 115) ≡ false → 128 ≤ b
    → may_begin true c b ≡ false
none_past c b low alone large = let test : nat_lt b 128 ≡ false = grind (arith, nat_tests) in
    rw test (alone_past c b low alone)

pub two_cases : (c b : ℕ) → c < 128 → (ascii_fold c == 107 || ascii_fold c == 115) ≡ false → may_begin true c b ≡ true
    → (ascii_fold c == ascii_fold b) ≡ true
two_cases c b low alone h = elim (cases_lt b 128) [
  | inl small ↦ eq-eqb (ascii_fold c) (ascii_fold b) (ascii_alike c b low small (below c b small h))
  | inr large ↦ absurd (clash (begins_past_ascii c b) (beyond c b (omega (arith, large)) h) (alone_past c b low alone))
]

-- one with which one character past ASCII agrees
pub or_byte : (c b first : ℕ) → c < 128 → (begins_past_ascii c b ≡ true → (b == first) ≡ true)
    → may_begin true c b ≡ true → (ascii_fold c == ascii_fold b || b == first) ≡ true
or_byte c b first low past h = elim (cases_lt b 128) [
  | inl small ↦ or_left (ascii_fold c == ascii_fold b) (b == first)
      (eq-eqb (ascii_fold c) (ascii_fold b) (ascii_alike c b low small (below c b small h)))
  | inr large ↦ or_right (ascii_fold c == ascii_fold b) (b == first) (past (beyond c b (omega (arith, large)) h))
]

pub kelvin_past : (c b : ℕ) → c < 128 → ascii_fold c ≡ 107 → begins_past_ascii c b ≡ true → (b == 0xE2) ≡ true
kelvin_past c b low is h = grind (arith, nat_tests)

pub long_s_past : (c b : ℕ) → c < 128 → ascii_fold c ≡ 115 → begins_past_ascii c b ≡ true → (b == 0xC5) ≡ true
long_s_past c b low is h = grind (arith, nat_tests)

-- a character of ASCII in its own case
pub caseful_short : (c b : ℕ) → c < 128 → 128 ≤ b → may_begin false c b ≡ false
caseful_short c b low large = grind (arith, nat_tests)

-- a character past ASCII with which none of ASCII agrees
pub past_both : (c b : ℕ) → 128 ≤ c → (c == 0x212A || c == 0x17F) ≡ false → may_begin true c b ≡ true → 128 ≤ b
past_both c b past alone h = elim (cases_lt b 128) [
  | inl small ↦ absurd (clash (c == 0x212A || c == 0x17F) (into_ascii c b past small (below c b small h)) alone)
  | inr large ↦ omega (arith, large)
]

-- what holds of a set holds of the one that is told
pub rare_serves : (set : List Bool) (told : Option Taken) → IfSome told (λ taken. taken.bytes ≡ set)
    → (P : List Bool → Type 0) → P set → IfSome told (λ taken. P taken.bytes)
rare_serves set None e P h = tt
rare_serves set (Some taken) e P h = subst P (sym e) h
