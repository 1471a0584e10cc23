-- What follows a backslash (pcre2pattern, "Backslash").
use Rattle.std.specs.Prelude.{ℕ, ◌+◌, Bool, true, false, not, ◌&&◌, List, Option, Some, None, Ok, slice_get}
use Rattle.std.specs.Prelude.{if◌then◌else◌}
use Rattle.std.specs.Char.{is_ascii_digit, is_ascii_alphabetic}
use Rattle.pat_tree.specs.declared.nodes.SetName.TheVariants.{Digit, Space, Word, H, V}
use Rattle.token_parts.specs.declared.token.LexFlags.{LexFlags}
use Rattle.token_parts.specs.declared.token.Token.{Token}
use Rattle.token_parts.specs.declared.token.Token.TheVariants.{Literal, Set, QuoteOn, QuoteOff, Boundary}
use Rattle.token_parts.specs.declared.token.Token.TheVariants.{SubjectStart, SubjectEnd, EndOrNewline, StartGiven}
use Rattle.token_parts.specs.declared.token.Token.TheVariants.{KeepOut, LineBreak, NotNewline, Property}
use Rattle.token_parts.specs.Bytes.{◌∈◌, passes_at, is_at, run_end}
use Rattle.token_parts.specs.Tell.{Lexed, fault}
use Rattle.token_parts.specs.Targets.{group_escape, name_escape, numbered_escape}
use Rattle.token_parts.specs.Codes.{octal, coded}
use Rattle.pat_lex.specs.Characters.{literal}
use Rattle.pat_lex.specs.Quantifiers.{is_counted}

-- the escapes of one letter that mean the same in a class
unfoldable pub everywhere : ℕ → Option Token
everywhere c =
    -- "Non-printing characters"
    if c ∈ "a" then Some (Literal 0x07)
    else if c ∈ "e" then Some (Literal 0x1B)
    else if c ∈ "f" then Some (Literal 0x0C)
    else if c ∈ "n" then Some (Literal 0x0A)
    else if c ∈ "r" then Some (Literal 0x0D)
    else if c ∈ "t" then Some (Literal 0x09)
    -- "Generic character types"
    else if c ∈ "d" then Some (Set Digit false)
    else if c ∈ "D" then Some (Set Digit true)
    else if c ∈ "s" then Some (Set Space false)
    else if c ∈ "S" then Some (Set Space true)
    else if c ∈ "w" then Some (Set Word false)
    else if c ∈ "W" then Some (Set Word true)
    else if c ∈ "h" then Some (Set H false)
    else if c ∈ "H" then Some (Set H true)
    else if c ∈ "v" then Some (Set V false)
    else if c ∈ "V" then Some (Set V true)
    -- "Backslash"
    else if c ∈ "Q" then Some QuoteOn
    else if c ∈ "E" then Some QuoteOff
    else None

-- those that have another meaning in a class, or none
unfoldable pub outside : ℕ → Option Token
outside c =
    -- "Simple assertions"
    if c ∈ "b" then Some (Boundary false)
    else if c ∈ "B" then Some (Boundary true)
    else if c ∈ "A" then Some SubjectStart
    else if c ∈ "Z" then Some EndOrNewline
    else if c ∈ "z" then Some SubjectEnd
    else if c ∈ "G" then Some StartGiven
    -- "Resetting the match start"
    else if c ∈ "K" then Some KeepOut
    -- "Newline sequences"
    else if c ∈ "R" then Some LineBreak
    else None

-- the token of a table and the place after it, or else the answer that follows
abbrev pub listed : Option Token → ℕ → Lexed → Lexed
listed (Some token) after rest = Ok (token, after)
listed None after rest = rest

module _ (text : List ℕ) where
  -- a property whose name begins at a place and goes to a brace
  unfoldable pub property_named : ℕ → ℕ → Bool → Lexed
  property_named at from is_outside =
      let to = run_end text (λ c. not (c ∈ "}")) from in
      if is_at text "}" to then Ok (Property from to is_outside, to + 1) else fault 146 at

  -- `\p`, or `\P` for the characters outside: one letter, or a name in braces, which a `^` before it turns round
  -- ("Unicode character properties")
  unfoldable pub property : Bool → ℕ → Lexed
  property is_outside at =
      if is_at text "{" (at + 2)
      then (if is_at text "^" (at + 3) then property_named at (at + 4) (not is_outside) else property_named at
      (at + 3) is_outside)
      else if passes_at text is_ascii_alphabetic (at + 2) then Ok (Property (at + 2) (at + 3) is_outside, at + 3)
      else fault 146 at

  -- a newline's opposite; a brace after it must begin a quantifier
  unfoldable pub not_newline : ℕ → Lexed
  not_newline at =
      if is_at text "{" (at + 2) && not (is_counted text (at + 2)) then fault 195 at else Ok (NotNewline, at + 2)

  module _ (flags : LexFlags) where
    -- the escapes that go on after their letter
    unfoldable pub longer : ℕ → ℕ → Lexed
    longer c at =
        if c ∈ "cox" then coded text flags c at
        else if c ∈ "0" then octal text flags at (at + 1)
        else if is_ascii_digit c then numbered_escape text flags at
        else if c ∈ "p" then property false at
        else if c ∈ "P" then property true at
        else if c ∈ "g" then group_escape text flags.utf at
        else if c ∈ "k" then name_escape text flags.utf at
        else if c ∈ "N" then not_newline at
        else if c ∈ "CXLlUu" then fault 195 at
        else if is_ascii_alphabetic c then fault 103 at
        else literal text flags.utf c (at + 1)

    unfoldable pub escape : ℕ → Lexed
    escape at = elim (slice_get text (at + 1)) [
      | None ↦ fault 101 at
      | Some c ↦ listed (everywhere c) (at + 2) (listed (outside c) (at + 2) (longer c at))
    ]
