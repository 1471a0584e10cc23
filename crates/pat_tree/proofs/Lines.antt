-- Newlines as slices tell them.
use Rattle.std.proofs.Common.{Bool, true, false, ◌||◌, ◌&&◌, ◌==◌, ◌≡◌, ℕ, suc, ◌+◌, ◌-◌, ◌<◌, ◌≤◌, List, [], ◌∷◌}
use Rattle.std.proofs.Common.{length, take, drop, get_or, drop-cons, max, nat_lt, nat_le, eqb, refl, sym, ap, ◌∙◌}
use Rattle.std.proofs.Common.{arith, if◌then◌else◌}
use lib.Pointwise.{pointwise}
use Rattle.std.specs.List.{ends_with}
use Rattle.std.proofs.Math.Bool.{and-false}
use Rattle.std.proofs.Math.ListN.{drop_of_length-le}
use Rattle.std.proofs.lemmas.List.{drop-take}
use Rattle.std.proofs.lemmas.Bool.{cases_lt}
use Rattle.std.proofs.Common.{inl, inr, length-take}
use Rattle.std.proofs.lemmas.Bool.Decides.{nat_tests}
use Rattle.byte_lanes.specs.Newlines.{longest_before, any_utf_texts, stands, stands_before}
use Rattle.pat_tree.specs.Newlines.{longest_of}

pub stands_is : (text bytes : List ℕ) (at : ℕ) → stands text bytes at ≡ pointwise eqb text
    (take (length text) (drop at bytes))
unfolding stands
stands_is [] bytes at = refl
stands_is (b ∷ text) bytes at = elim (cases_lt at (length bytes)) [
  | inl h ↦ (
      let here : nat_lt at (length bytes) ≡ true = grind (arith, nat_tests) in
      let same : (get_or bytes at 0 == b) ≡ eqb b (get_or bytes at 0) = grind (arith, nat_tests) in
      let next : suc at ≡ at + 1 = omega arith in
      rw (here, drop-cons bytes at 0 h, next) (ap (λ t. t && stands text bytes (at + 1)) same
      ∙ ap (λ t. eqb b (get_or bytes at 0) && t) (stands_is text bytes (at + 1)))
      )
  | inr h ↦ (
      let past : nat_lt at (length bytes) ≡ false = grind (arith, nat_tests) in
      rw (past, drop_of_length-le bytes h) refl
      )
]

-- a text that is longer is no part
too_long : (text bytes : List ℕ) → length bytes < length text → pointwise eqb text bytes ≡ false
too_long [] bytes h = absurd (omega (arith, h))
too_long (b ∷ text) [] h = refl
too_long (b ∷ text) (x ∷ bytes) h = rw (too_long text bytes (omega (arith, h))) (and-false (eqb b x))

pub ends_is : (text bytes : List ℕ) (at : ℕ) → at ≤ length bytes
    → ends_with eqb (take at bytes) text ≡ stands_before text bytes at
ends_is text bytes at h = elim (cases_lt at (length text)) [
  | inl short ↦ (
      let no' : nat_le (length text) at ≡ false = grind (arith, nat_tests) in
      let size : length (take at bytes) ≡ at = omega (arith, length-take at bytes, h) in
      let none : length (take at bytes) - length text ≡ 0 = omega (arith, size, short) in
      rw (no', none) (too_long text (take at bytes) (omega (arith, size, short)))
      )
  | inr long ↦ (
      let yes' : nat_le (length text) at ≡ true = grind (arith, nat_tests) in
      let size : length (take at bytes) ≡ at = omega (arith, length-take at bytes, h) in
      let back : (at - length text) + length text ≡ at = omega (arith, long) in
      let part : drop (at - length text) (take at bytes) ≡ take (length text) (drop (at - length text) bytes) =
      ap (λ n. drop (at - length text) (take n bytes)) (sym back) ∙ drop-take (at - length text) (length text) bytes in
      rw (yes', size) (ap (pointwise eqb text) part ∙ sym (stands_is text bytes (at - length text)))
      )
]

-- of two texts of one length either will do
merged : (n : ℕ) (a b : Bool) (r : ℕ) → max (if a then n else 0) (max (if b then n else 0) r) ≡ max
    (if a || b then n else 0) r
merged n true true r = omega arith
merged n true false r = omega arith
merged n false true r = omega arith
merged n false false r = omega arith

stacked : (a b c : Bool) → max (if a then 3 else 0) (max (if b then 2 else 0) (max (if c then 1 else 0) 0))
    ≡ longest_of a b c
stacked true true true = refl
stacked true true false = refl
stacked true false true = refl
stacked true false false = refl
stacked false true true = refl
stacked false true false = refl
stacked false false true = refl
stacked false false false = refl

-- two texts of three bytes, two of two and four of one
utf_lines : (a b c d e f g h : Bool) →
    max (if a then 3 else 0) (max (if b then 3 else 0) (max (if c then 2 else 0) (max (if d then 2 else 0)
    (max (if e then 1 else 0) (max (if f then 1 else 0) (max (if g then 1 else 0) (max (if h then 1 else 0) 0)))))))
    ≡ longest_of (a || b) (c || d) (((e || f) || g) || h)
utf_lines a b c d e f g h =
    merged 3 a b (max (if c then 2 else 0)
    (max (if d then 2 else 0)
    (max (if e then 1 else 0)
    (max (if f then 1 else 0) (max (if g then 1 else 0) (max (if h then 1 else 0) 0))))))
    ∙ ap (max (if a || b then 3 else 0))
    (merged 2 c d
    (max (if e then 1 else 0)
    (max (if f then 1 else 0) (max (if g then 1 else 0) (max (if h then 1 else 0) 0))))
    ∙ ap (max (if c || d then 2 else 0)) (merged 1 e f (max (if g then 1 else 0) (max (if h then 1 else 0) 0))
    ∙ merged 1 (e || f) g (max (if h then 1 else 0) 0) ∙ merged 1 ((e || f) || g) h 0))
    ∙ stacked (a || b) (c || d) (((e || f) || g) || h)

pub utf_before : (bytes : List ℕ) (at : ℕ) → longest_before any_utf_texts bytes at ≡ longest_of
    (stands_before (226 ∷ 128 ∷ 168 ∷ []) bytes at || stands_before (226 ∷ 128 ∷ 169 ∷ []) bytes at)
    (stands_before (13 ∷ 10 ∷ []) bytes at || stands_before (194 ∷ 133 ∷ []) bytes at)
    (stands_before (10 ∷ []) bytes at || stands_before (11 ∷ []) bytes at || stands_before (12 ∷ []) bytes at
    || stands_before (13 ∷ []) bytes at)
utf_before bytes at = utf_lines (stands_before (226 ∷ 128 ∷ 168 ∷ []) bytes at)
    (stands_before (226 ∷ 128 ∷ 169 ∷ []) bytes at) (stands_before (13 ∷ 10 ∷ []) bytes at)
    (stands_before (194 ∷ 133 ∷ []) bytes at) (stands_before (10 ∷ []) bytes at) (stands_before (11 ∷ []) bytes at)
    (stands_before (12 ∷ []) bytes at) (stands_before (13 ∷ []) bytes at)
