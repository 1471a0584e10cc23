-- The first and the last character of a text.
use Rattle.std.proofs.Common.{◌≡◌, ℕ, ◌+◌, ◌-◌, ◌≤◌, true, List, [], ◌∷◌, ◌++◌, length, take, drop, get_or, sym, ◌∙◌}
use Rattle.std.proofs.Common.{ap, subst, arith, length-append, length-drop, take-append-drop, append-nil}
use Rattle.std.proofs.Math.Seq.{get_or-append_seam}
use Rattle.std.proofs.Math.Utf8.{encode}
use Rattle.std.proofs.lemmas.List.{length-take-le, take-take, drop-take}
use Rattle.std.proofs.lemmas.Slice.{between_to_end}
use Rattle.std.proofs.lemmas.Str.{chars_past_char, chars-append, chars-nil, length-encode, IsUtf8-encode}
use Rattle.std.proofs.lemmas.Str.{IsUtf8-drop, IsCharBoundary-past_char, IsCharBoundary-from_take}
use Rattle.std.proofs.iter.FirstChar.{only, one_char}
use Rattle.std.specs.List.{slice_range}
use Rattle.std.specs.Str.{IsUtf8, IsCharBoundary, chars}
use Rattle.std.specs.Str.Pattern.{StartsWithChar, EndsWithCharOfLen}
use Rattle.std.specs.Char.{IsScalar, len_utf8}
use Rattle.uni_text.specs.Characters.{first_char, last_char, char_at, char_before}

-- a text that begins with c has c as its first character
pub first_char-stands : (text : List ℕ) (c n : ℕ) → IsUtf8 text → StartsWithChar text c n → first_char text ≡ c
first_char-stands text c n checked stands = ap (λ cs. get_or cs 0 0)
    (chars_past_char text (drop n text) c checked stands.0)

pub len-stands : (text : List ℕ) (c n : ℕ) → StartsWithChar text c n → n ≡ len_utf8 c
len-stands text c n stands = stands.1 ∙ length-encode c

-- what a text of one character is, once a character is found at its start
pub ends_with : (text : List ℕ) (n c m : ℕ) → EndsWithCharOfLen text n → IsScalar c
    → StartsWithChar (drop (length text - n) text) c m → drop (length text - n) text ≡ encode c
ends_with text n c m ends scalar stands = only (drop (length text - n) text) (drop m (drop (length text - n) text))
    ends.3.0 c ends.3.1 scalar ends.3.2 stands.0

chars-one : (c : ℕ) → IsUtf8 (encode c) → chars (encode c) ≡ c ∷ []
chars-one c checked = chars_past_char (encode c) [] c checked (sym (append-nil (encode c)))
    ∙ ap (λ cs. c ∷ cs) chars-nil

at_end : (front : List ℕ) (c : ℕ) → get_or (front ++ c ∷ []) (length (front ++ c ∷ []) - 1) 0 ≡ c
at_end front c =
    let n : length (front ++ c ∷ []) - 1 ≡ length front = omega (arith, length-append front (c ∷ [])) in
    ap (λ k. get_or (front ++ c ∷ []) k 0) n ∙ get_or-append_seam front c [] 0

-- a text that is some characters and then c has c as its last character
pub last_char-append : (front : List ℕ) (c : ℕ) → IsUtf8 front → IsUtf8 (encode c) → last_char (front ++ encode c) ≡ c
last_char-append front c checked one =
    let e : chars (front ++ encode c) ≡ chars front ++ c ∷ [] = chars-append front (encode c) checked
    ∙ ap (λ cs. chars front ++ cs) (chars-one c one) in
    ap (λ cs. get_or cs (length cs - 1) 0) e ∙ at_end (chars front) c

pub last_char-ends : (text : List ℕ) (n c : ℕ) → EndsWithCharOfLen text n → IsUtf8 (encode c)
    → drop (length text - n) text ≡ encode c → last_char text ≡ c
last_char-ends text n c ends one e =
    let k : ℕ = length text - n in
    let split : take k text ++ encode c ≡ text = ap (λ l. take k text ++ l) (sym e) ∙ take-append-drop k text in
    ap last_char (sym split) ∙ last_char-append (take k text) c ends.2 one

-- the text from a place on, as a slice of the bytes
pub IsUtf8-from : (bytes : List ℕ) (at : ℕ) → IsUtf8 bytes → IsCharBoundary bytes at
    → IsUtf8 (slice_range bytes at (length bytes))
IsUtf8-from bytes at checked place = subst IsUtf8 (sym (between_to_end bytes at (length bytes) (omega arith)))
    (IsUtf8-drop bytes at checked place)

-- what `char_at` owes in UTF, of the character that the rest of the text begins with
pub char_at-stands : (bytes : List ℕ) (at c n : ℕ) → IsUtf8 bytes → IsCharBoundary bytes at
    → StartsWithChar (slice_range bytes at (length bytes)) c n
    → ((c, at + n) ≡ char_at true bytes at) × IsCharBoundary bytes (at + n)
char_at-stands bytes at c n checked place found =
    let stands : StartsWithChar (drop at bytes) c n = subst (λ text. StartsWithChar text c n)
    (between_to_end bytes at (length bytes) (omega arith)) found in
    let tail : IsUtf8 (drop at bytes) = IsUtf8-drop bytes at checked place in
    let is : first_char (drop at bytes) ≡ c = first_char-stands (drop at bytes) c n tail stands in
    let len : n ≡ len_utf8 c = len-stands (drop at bytes) c n stands in (
      ap (λ k. (c, at + k)) len ∙ sym (ap (λ d. (d, at + len_utf8 d)) is),
      subst (λ k. IsCharBoundary bytes (at + k)) (sym len)
          (IsCharBoundary-past_char bytes (drop n (drop at bytes)) at c place.0 tail stands.0),
    )

-- the last n bytes before a place, as the end of the text before it and as a slice of the bytes
last_slice : (bytes : List ℕ) (at n : ℕ) → at ≤ length bytes
    → drop (length (take at bytes) - n) (take at bytes) ≡ slice_range bytes (at - n) at
last_slice bytes at n within =
    let whole : at ≡ (at - n) + (at - (at - n)) = omega arith in
    ap (λ k. drop (k - n) (take at bytes)) (length-take-le at bytes within)
    ∙ ap (λ k. drop (at - n) (take k bytes)) whole ∙ drop-take (at - n) (at - (at - n)) bytes

-- the text from the start of its last character, as a slice of the bytes
pub IsUtf8-last : (bytes : List ℕ) (at n : ℕ) → at ≤ length bytes → EndsWithCharOfLen (take at bytes) n
    → IsUtf8 (slice_range bytes (at - n) at)
IsUtf8-last bytes at n within ends =
    subst IsUtf8 (last_slice bytes at n within)
    (one_char (drop (length (take at bytes) - n) (take at bytes)) ends.3.0 ends.3.1 ends.3.2)

-- what `char_before` owes in UTF, of the character that begins the last n bytes before the place
pub char_before-stands : (bytes : List ℕ) (at c n m : ℕ) → IsUtf8 bytes → at ≤ length bytes
    → EndsWithCharOfLen (take at bytes) n → IsScalar c → StartsWithChar (slice_range bytes (at - n) at) c m
    → ((c, at - n) ≡ char_before true bytes at) × (slice_range bytes (at - n) at ≡ encode c) × IsCharBoundary bytes
    (at - n)
char_before-stands bytes at c n m checked within ends scalar found =
    let text : List ℕ = take at bytes in
    let stands : StartsWithChar (drop (length text - n) text) c m =
    subst (λ t. StartsWithChar t c m) (sym (last_slice bytes at n within)) found in
    let is : drop (length text - n) text ≡ encode c = ends_with text n c m ends scalar stands in
    let last : last_char text ≡ c = last_char-ends text n c ends (IsUtf8-encode c scalar) is in
    let long : length text ≡ at = length-take-le at bytes within in
    let len : n ≡ len_utf8 c = omega (
      arith,
      ap length is,
      length-drop (length text - n) text,
      length-encode c,
      ends.1,
    ) in (
      ap (λ k. (c, at - k)) len ∙ sym (ap (λ d. (d, at - len_utf8 d)) last),
      sym (last_slice bytes at n within) ∙ is,
      IsCharBoundary-from_take bytes (at - n) checked (omega arith)
          (subst IsUtf8 (ap (λ k. take (k - n) text) long ∙ take-take (at - n) at bytes (omega arith)) ends.2),
    )
