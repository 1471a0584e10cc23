-- Characters that stand for themselves.
use Rattle.std.proofs.Common.{◌≡◌, ◌∙◌, ℕ, ◌+◌, ◌*◌, ◌%◌, ◌<◌, ◌≤◌, Bool, true, false, ◌&&◌, List, length, drop}
use Rattle.std.proofs.Common.{get_or, nat_lt, nat_le, refl, sym, ap, arith, inl, inr, length-drop}
use Rattle.std.proofs.Math.Seq.{get_or-drop}
use Rattle.std.proofs.iter.FirstChar.{wide as wide_parts, in_one, in_two, in_three, in_four}
use Rattle.std.proofs.lemmas.Bool.{cases_lt}
use Rattle.std.proofs.lemmas.Bool.Decides.{nat_tests}
use Rattle.std.proofs.lemmas.Str.{IsUtf8-drop}
use Rattle.std.specs.Char.{len_utf8}
use Rattle.std.specs.Str.{IsUtf8, IsCharBoundary}
use Rattle.std.specs.Str.Pattern.{StartsWithChar}
use Rattle.uni_text.specs.Characters.{first_char, char_at}
use Rattle.uni_text.proofs.CharLemmas.{first_char-stands, len-stands}
use Rattle.token_parts.specs.Characters.{are_there, wide, character}

-- without UTF and in ASCII it is the byte
pub alone : (text : List ℕ) (utf : Bool) (c at : ℕ) → (utf && nat_le 128 c) ≡ false
    → character text utf c at ≡ (c, at + 1)
unfolding wide
alone text false c at h = refl
alone text true c at h = let low : nat_lt c 0x80 ≡ true = grind (arith, nat_tests) in rw low refl

-- the character that a text from a place on begins with
char_from : (text : List ℕ) (at c n : ℕ) → IsUtf8 (drop at text) → StartsWithChar (drop at text) c n
    → (c, at + n) ≡ char_at true text at
char_from text at c n u stands =
    let is : first_char (drop at text) ≡ c = first_char-stands (drop at text) c n u stands in
    let len : n ≡ len_utf8 c = len-stands (drop at text) c n stands in
    ap (λ k. (c, at + k)) len ∙ sym (ap (λ d. (d, at + len_utf8 d)) is)

module _ (text : List ℕ) (at c : ℕ) (u : IsUtf8 text) (place : IsCharBoundary text at) (inside : at < length text)
    (here : get_or text at 0 ≡ c) where
  rest : List ℕ
  rest = drop at text

  checked : IsUtf8 (drop at text)
  checked = IsUtf8-drop text at u place

  some : 0 < length (drop at text)
  some = omega (arith, length-drop at text)

  byte : (i : ℕ) → get_or (drop at text) i 0 ≡ get_or text (at + i) 0
  byte i = get_or-drop at text i 0

  first : get_or (drop at text) 0 0 ≡ c
  first = byte 0 ∙ ap (λ k. get_or text k 0) (let none : at + 0 ≡ at = omega arith in none) ∙ here

  there : (n : ℕ) → n ≤ length (drop at text) → are_there text n at ≡ true
  there n h = let size = length-drop at text in let fits : at + n ≤ length text = omega (arith, size, h) in
      grind (arith, nat_tests)

  -- in checked text it is the character there
  pub wide_is : wide text c at ≡ char_at true text at
  unfolding wide
  wide_is = elim (cases_lt c 0x80) [
    | inl one ↦
        let low : nat_lt c 0x80 ≡ true = grind (arith, nat_tests) in
        let read = in_one (drop at text) checked some (omega (arith, first)) in
        rw low (ap (λ k. (k, at + 1)) (sym first) ∙ char_from text at _ 1 checked read.1)
    | inr past_one ↦
        let high : nat_lt c 0x80 ≡ false = grind (arith, nat_tests) in
        let parts = wide_parts (drop at text) checked some in
        elim (cases_lt c 0xE0) [
          | inl two ↦
              let low : nat_lt c 0xE0 ≡ true = grind (arith, nat_tests) in
              let all : are_there text 2 at ≡ true =
              there 2 (let more = parts.0 (omega (arith, first)) in omega (arith, more)) in
              let read = in_two (drop at text) checked some (omega (arith, first)) (omega (arith, first)) in
              rw (high, low, all) (ap (λ k. (k % 32 * 64 + get_or text (at + 1) 0 % 64, at + 2)) (sym first)
              ∙ ap (λ k. (get_or (drop at text) 0 0 % 32 * 64 + k % 64, at + 2)) (sym (byte 1))
              ∙ char_from text at _ 2 checked read.1)
          | inr past_two ↦
              let higher : nat_lt c 0xE0 ≡ false = grind (arith, nat_tests) in
              elim (cases_lt c 0xF0) [
                | inl three ↦
                    let low : nat_lt c 0xF0 ≡ true = grind (arith, nat_tests) in
                    let all : are_there text 3 at ≡ true =
                    there 3 (let more = parts.1 (omega (arith, first)) in omega (arith, more)) in
                    let read = in_three (drop at text) checked some (omega (arith, first)) (omega (arith, first)) in
                    rw (high, higher, low, all) (
                    ap (λ k. (k % 16 * 4096 + get_or text (at + 1) 0 % 64 * 64 + get_or text (at + 2) 0 % 64, at + 3))
                    (sym first)
                    ∙ ap (λ k. (
                      get_or (drop at text) 0 0 % 16 * 4096 + k % 64 * 64 + get_or text (at + 2) 0 % 64,
                      at + 3,
                    )) (sym (byte 1))
                    ∙ ap (λ k. (
                      get_or (drop at text) 0 0 % 16 * 4096 + get_or (drop at text) 1 0 % 64 * 64 + k % 64,
                      at + 3,
                    )) (sym (byte 2))
                    ∙ char_from text at _ 3 checked read.1)
                | inr past_three ↦
                    let highest : nat_lt c 0xF0 ≡ false = grind (arith, nat_tests) in
                    let all : are_there text 4 at ≡ true =
                    there 4 (let more = parts.2 (omega (arith, first)) in omega (arith, more)) in
                    let read = in_four (drop at text) checked some (omega (arith, first)) in
                    rw (high, higher, highest, all) (
                    ap (λ k. (
                      k % 8 * 262144 + get_or text (at + 1) 0 % 64 * 4096 + get_or text (at + 2) 0 % 64 *
                          64 + get_or text (at + 3) 0 % 64,
                      at + 4,
                    )) (sym first)
                    ∙ ap (λ k. (
                      get_or (drop at text) 0 0 % 8 * 262144 + k % 64 * 4096 + get_or text (at + 2) 0 % 64 *
                          64 + get_or text (at + 3) 0 % 64,
                      at + 4,
                    )) (sym (byte 1))
                    ∙ ap (λ k. (
                      get_or (drop at text) 0 0 % 8 * 262144 + get_or (drop at text) 1 0 % 64 * 4096 + k %
                          64 * 64 + get_or text (at + 3) 0 % 64,
                      at + 4,
                    )) (sym (byte 2))
                    ∙ ap (λ k. (
                      get_or (drop at text) 0 0 % 8 * 262144 + get_or (drop at text) 1 0 % 64 *
                          4096 + get_or (drop at text) 2 0 % 64 * 64 + k % 64,
                      at + 4,
                    )) (sym (byte 3))
                    ∙ char_from text at _ 4 checked read.1)
              ]
        ]
  ]
