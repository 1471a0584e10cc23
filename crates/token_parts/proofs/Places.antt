-- The first place that passes a test, a place at a time.
use Rattle.std.proofs.Common.{◌≡◌, ℕ, suc, ◌+◌, ◌-◌, ◌<◌, ◌≤◌, Bool, true, false, ltb, eq-eqb, ne_eqb, ◌≢◌, List}
use Rattle.std.proofs.Common.{length, ap, arith}
use Rattle.std.proofs.lemmas.Bool.{lt-ltb}
use Rattle.token_parts.specs.declared.token.LexFlags.{LexFlags}
use Rattle.token_parts.specs.Comments.{first_place, newline_at, first_newline, skip}

one_more : (n i : ℕ) → i < n → n - i ≡ suc (n - (i + 1))
one_more n i more = omega arith

first_here : (n i : ℕ) (test : ℕ → Bool) → i < n → test i ≡ true → first_place (n - i) test i ≡ i
first_here n i test more passes = rw (one_more n i more, passes)

first_later : (n i : ℕ) (test : ℕ → Bool) → i < n → test i ≡ false
    → first_place (n - i) test i ≡ first_place (n - (i + 1)) test (i + 1)
first_later n i test more fails = rw (one_more n i more, fails)

first_nowhere : (n i : ℕ) (test : ℕ → Bool) → n ≤ i → first_place (n - i) test i ≡ i
first_nowhere n i test past = let e : n - i ≡ 0 = omega arith in rw e

pub newline_here : (text : List ℕ) (flags : LexFlags) (i : ℕ) → i < length text → 0 < newline_at text flags i
    → first_newline text flags i ≡ i
unfolding first_newline
newline_here text flags i more begins = first_here (length text) i (λ j. ltb 0 (newline_at text flags j)) more
    (lt-ltb 0 (newline_at text flags i) begins)

pub newline_later : (text : List ℕ) (flags : LexFlags) (i : ℕ) → i < length text → newline_at text flags i ≡ 0
    → first_newline text flags i ≡ first_newline text flags (i + 1)
unfolding first_newline
newline_later text flags i more none = first_later (length text) i (λ j. ltb 0 (newline_at text flags j)) more
    (ap (ltb 0) none)

pub newline_nowhere : (text : List ℕ) (flags : LexFlags) (i : ℕ) → length text ≤ i → first_newline text flags i ≡ i
unfolding first_newline
newline_nowhere text flags i past = first_nowhere (length text) i (λ j. ltb 0 (newline_at text flags j)) past

pub skip_here : (step : ℕ → ℕ) (n turn i : ℕ) → turn < n → step i ≡ i → skip step (n - turn) i ≡ i
skip_here step n turn i more stays = rw (one_more n turn more, eq-eqb (step i) i stays)

pub skip_later : (step : ℕ → ℕ) (n turn i : ℕ) → turn < n → step i ≢ i
    → skip step (n - turn) i ≡ skip step (n - (turn + 1)) (step i)
skip_later step n turn i more goes = rw (one_more n turn more, ne_eqb (step i) i goes)

pub skip_all : (step : ℕ → ℕ) (n turn i : ℕ) → n ≤ turn → skip step (n - turn) i ≡ i
skip_all step n turn i past = let e : n - turn ≡ 0 = omega arith in rw e
