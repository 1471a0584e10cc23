-- The token that begins at a place of a pattern, and the place after it (pcre2pattern).
use Rattle.std.specs.Prelude.{ℕ, ◌+◌, Bool, ◌&&◌, nat_lt, List, Some, None, Ok, slice_get, if◌then◌else◌}
use Rattle.token_parts.specs.declared.token.LexFlags.{LexFlags}
use Rattle.token_parts.specs.declared.token.Token.TheVariants.{End, Dot, Caret, Dollar, Bar, Close, QuoteOff, Passed}
use Rattle.token_parts.specs.Bytes.{◌∈◌, is_at}
use Rattle.token_parts.specs.Tell.{Lexed}
use Rattle.token_parts.specs.Comments.{is_extended, blank_end}
use Rattle.pat_lex.specs.Characters.{literal}
use Rattle.pat_lex.specs.Quantifiers.{braces, with_mode, counted}
use Rattle.pat_lex.specs.Escapes.{escape}
use Rattle.pat_lex.specs.Classes.{class_start, in_class}
use Rattle.pat_lex.specs.Groups.{group}

-- between `\Q` and `\E` ("Backslash")
unfoldable pub quoted : List ℕ → Bool → ℕ → ℕ → Lexed
quoted text utf c at =
    if c ∈ "\\" && is_at text "E" (at + 1) then Ok (QuoteOff, at + 2) else literal text utf c at

module _ (text : List ℕ) (flags : LexFlags) where
  -- a quantifier, a blank or a character
  unfoldable pub rest : ℕ → ℕ → Lexed
  rest c at =
      if c ∈ "*" then with_mode text flags 0 None (at + 1)
      else if c ∈ "+" then with_mode text flags 1 None (at + 1)
      else if c ∈ "?" then with_mode text flags 0 (Some 1) (at + 1)
      else if c ∈ "{" then (elim (braces text at) [
        | Some found ↦ counted text flags found at
        | None ↦
            literal text flags.utf c at
      ])
      else if is_extended flags && nat_lt at (blank_end text flags at) then Ok (Passed, blank_end text flags at)
      else literal text flags.utf c at

  -- outside classes ("Characters and metacharacters")
  unfoldable pub plain : ℕ → ℕ → Lexed
  plain c at =
      if c ∈ "\\" then escape text flags at
      else if c ∈ "(" then group text flags.utf at
      else if c ∈ ")" then Ok (Close, at + 1)
      else if c ∈ "|" then Ok (Bar, at + 1)
      else if c ∈ "[" then class_start text flags at
      else if c ∈ "." then Ok (Dot, at + 1)
      else if c ∈ "^" then Ok (Caret, at + 1)
      else if c ∈ "$" then Ok (Dollar, at + 1)
      else rest c at

  unfoldable pub token_at : ℕ → Lexed
  token_at at = elim (slice_get text at) [
    | None ↦ Ok (End, at)
    | Some c ↦
        if flags.quoting then quoted text flags.utf c at
        else if flags.in_class then in_class text flags c at
        else plain c at
  ]
