-- The texts that end a line, and the longest that begins at a place or ends there.
-- pcre2pattern, "Newline conventions", has the conventions, and pcre2api, "Newlines", the Unicode newlines.
use Rattle.std.specs.Prelude.{ℕ, ◌+◌, ◌-◌, ◌==◌, nat_lt, nat_le, Bool, true, false, ◌&&◌, List, [], ◌∷◌, length}
use Rattle.std.specs.Prelude.{slice_index, max, if◌then◌else◌}
use Rattle.byte_lanes.specs.declared.line_end.EndKind.{EndKind}
use Rattle.byte_lanes.specs.declared.line_end.EndKind.TheVariants.{Cr, Lf, CrLf, AnyCrLf, Any, AnyUtf, Nul}

-- whether the bytes of the text stand in bytes from the place on
unfoldable pub stands : List ℕ → List ℕ → ℕ → Bool
stands [] bytes at = true
stands (b ∷ text) bytes at = nat_lt at (length bytes) && (slice_index bytes at == b && stands text bytes (at + 1))

-- whether the bytes of the text stand in bytes just before the place
abbrev pub stands_before : List ℕ → List ℕ → ℕ → Bool
stands_before text bytes at = nat_le (length text) at && stands text bytes (at - length text)

-- the length of the longest of the texts that begins at the place, or 0
abbrev pub longest : List (List ℕ) → List ℕ → ℕ → ℕ
longest [] bytes at = 0
longest (text ∷ texts) bytes at = max (if stands text bytes at then length text else 0) (longest texts bytes at)

-- the length of the longest of the texts that ends just before the place, or 0
abbrev pub longest_before : List (List ℕ) → List ℕ → ℕ → ℕ
longest_before [] bytes at = 0
longest_before (text ∷ texts) bytes at =
    max (if stands_before text bytes at then length text else 0) (longest_before texts bytes at)

-- CR LF
abbrev pub crlf_texts : List (List ℕ)
crlf_texts = (13 ∷ (10 ∷ [])) ∷ []

-- CR LF, CR, LF
abbrev pub any_crlf_texts : List (List ℕ)
any_crlf_texts = (13 ∷ (10 ∷ [])) ∷ ((13 ∷ []) ∷ ((10 ∷ []) ∷ []))

-- CR LF, LF, VT, FF, CR, and of U+0085, U+2028, U+2029 the one that is a single byte
abbrev pub any_texts : List (List ℕ)
any_texts = (13 ∷ (10 ∷ [])) ∷ ((10 ∷ []) ∷ ((11 ∷ []) ∷ ((12 ∷ []) ∷ ((13 ∷ []) ∷ ((133 ∷ []) ∷ [])))))

-- U+2028, U+2029, CR LF, U+0085, LF, VT, FF, CR in UTF-8
abbrev pub any_utf_texts : List (List ℕ)
any_utf_texts =
    (226 ∷ (128 ∷ (168 ∷ []))) ∷ ((226 ∷ (128 ∷ (169 ∷ [])))
    ∷ ((13 ∷ (10 ∷ [])) ∷ ((194 ∷ (133 ∷ [])) ∷ ((10 ∷ []) ∷ ((11 ∷ []) ∷ ((12 ∷ []) ∷ ((13 ∷ []) ∷ [])))))))

-- the newlines of a kind
abbrev pub newline_texts : EndKind → List (List ℕ)
newline_texts Cr = (13 ∷ []) ∷ []
newline_texts Lf = (10 ∷ []) ∷ []
newline_texts CrLf = crlf_texts
newline_texts AnyCrLf = any_crlf_texts
newline_texts Any = any_texts
newline_texts AnyUtf = any_utf_texts
newline_texts Nul = (0 ∷ []) ∷ []

-- CR LF is one of the newlines of the kind
abbrev pub has_crlf : EndKind → Bool
has_crlf Cr = false
has_crlf Lf = false
has_crlf CrLf = true
has_crlf AnyCrLf = true
has_crlf Any = true
has_crlf AnyUtf = true
has_crlf Nul = false

-- the length of the newline that begins at the place, or 0
abbrev pub newline_len : EndKind → List ℕ → ℕ → ℕ
newline_len kind bytes at = longest (newline_texts kind) bytes at

-- the length of the newline that ends just before the place, or 0
abbrev pub newline_before_len : EndKind → List ℕ → ℕ → ℕ
newline_before_len kind bytes at = longest_before (newline_texts kind) bytes at
