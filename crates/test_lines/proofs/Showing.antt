-- Groups as they are shown.
use Rattle.std.proofs.Common.{◌≡◌, ◌∙◌, ℕ, suc, ◌+◌, ◌-◌, ◌/◌, ◌%◌, ◌<◌, true, List, [], ◌∷◌, ◌++◌, drop, flat_map}
use Rattle.std.proofs.Common.{nat_lt, codes, decimal, sym, ap, arith, append_assoc, append-nil, take-append-drop}
use Rattle.std.proofs.Math.Utf8.{encode}
use Rattle.std.proofs.lemmas.List.{drop-drop}
use Rattle.std.proofs.lemmas.Str.{IsUtf8-drop, chars_past_char}
use Rattle.std.specs.Str.{IsUtf8, IsCharBoundary}
use Rattle.uni_text.specs.Characters.{IsCharSpan}
use Rattle.std.specs.List.{range_with_len}
use Rattle.tool_io.specs.Texts.{text_if}
use Rattle.test_lines.specs.Shown.{number_before, hex_digit, char_code_of, shown_char, shown_chars}

-- the numbers from one on, one more
pub range-step : (i n : ℕ) → i < n → range_with_len i (n - i) ≡ i ∷ range_with_len (i + 1) (n - (i + 1))
range-step i n less = let e : n - i ≡ suc (n - (i + 1)) = omega arith in ap (range_with_len i) e

pub flat-range : (f : ℕ → List ℕ) (i n : ℕ) → i < n → flat_map f (range_with_len i (n - i)) ≡ f i ++ flat_map f
    (range_with_len (i + 1) (n - (i + 1)))
flat-range f i n less = ap (flat_map f) (range-step i n less)

pub flat-range-last : (f : ℕ → List ℕ) (i n : ℕ) → n ≡ i + 1 → flat_map f (range_with_len i (n - i)) ≡ f i
flat-range-last f i n last =
    flat-range f i n (omega arith) ∙ (let e : n - (i + 1) ≡ 0 = omega arith in
    ap (λ m. f i ++ flat_map f (range_with_len (i + 1) m)) e) ∙ append-nil (f i)

-- the characters from a place on are the one there, and those behind it
pub next-shown : (text : List ℕ) (at c n : ℕ) → IsUtf8 text → IsCharBoundary text at → at < n
    → IsCharSpan true text c at n → shown_chars (drop at text) ≡ shown_char c ++ shown_chars (drop n text)
next-shown text at c n valid place goes span =
    let whole : at + (n - at) ≡ n = omega arith in
    let parted : drop at text ≡ encode c ++ drop n text =
    sym (take-append-drop (n - at) (drop at text)) ∙ ap (λ l. l ++ drop (n - at) (drop at text)) span.stands
    ∙ ap (λ l. encode c ++ l) (drop-drop (n - at) at text ∙ ap (λ k. drop k text) whole) in
    ap (flat_map shown_char) (chars_past_char (drop at text) (drop n text) c (IsUtf8-drop text at valid place) parted)

joined : (x a b d e y : List ℕ) → x ++ (a ++ (b ++ (d ++ (e ++ y)))) ≡ x ++ a ++ b ++ d ++ e ++ y
joined x a b d e y = simp append_assoc

-- the code of a character, as it is written piece by piece
pub code-text : (c : ℕ) (a b d e : List ℕ) (f g : ℕ)
    → a ≡ text_if (nat_lt 1048575 c) (hex_digit (c / 1048576 % 16) ∷ [])
    → b ≡ text_if (nat_lt 65535 c) (hex_digit (c / 65536 % 16) ∷ [])
    → d ≡ text_if (nat_lt 4095 c) (hex_digit (c / 4096 % 16) ∷ [])
    → e ≡ text_if (nat_lt 255 c) (hex_digit (c / 256 % 16) ∷ []) → f ≡ hex_digit (c / 16 % 16)
    → g ≡ hex_digit (c % 16)
    → codes "\\x{" ++ (a ++ (b ++ (d ++ (e ++ (f ∷ g ∷ (codes "}" ++ [])))))) ≡ char_code_of c
code-text c a b d e f g p q r s t u =
    (λ i. codes "\\x{" ++ (p i ++ (q i ++ (r i ++ (s i ++ (t i ∷ u i ∷ codes "}"))))))
    ∙ joined (codes "\\x{") (text_if (nat_lt 1048575 c) (hex_digit (c / 1048576 % 16) ∷ []))
    (text_if (nat_lt 65535 c) (hex_digit (c / 65536 % 16) ∷ []))
    (text_if (nat_lt 4095 c) (hex_digit (c / 4096 % 16) ∷ []))
    (text_if (nat_lt 255 c) (hex_digit (c / 256 % 16) ∷ []))
    (hex_digit (c / 16 % 16) ∷ hex_digit (c % 16) ∷ codes "}")

-- the number of a group, as it is written piece by piece
pub number-text : (n : ℕ) (pad number : List ℕ) → pad ≡ text_if (nat_lt n 10) (codes " ") → number ≡ decimal n
    → pad ++ (number ++ (codes ": " ++ [])) ≡ number_before n
number-text n pad number p d = (λ i. p i ++ (d i ++ (codes ": " ++ [])))
    ∙ sym (append_assoc (text_if (nat_lt n 10) (codes " ")) (decimal n) (codes ": "))
