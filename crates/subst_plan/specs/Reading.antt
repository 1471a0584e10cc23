-- The pieces of a replacement (pcre2api, "Creating a new string with substitutions"). A place is a
-- number of bytes from the replacement's begin. Each form is refused at its first byte, but a
-- missing `}` where it is missing.
use Rattle.std.specs.Prelude.{ℕ, suc, ◌+◌, ◌-◌, min, Bool, false, not, ◌&&◌, ◌||◌, ◌==◌, nat_lt, nat_le, List, []}
use Rattle.std.specs.Prelude.{◌∷◌, length, drop, Option, Some, None, Result, Ok, Err, slice_get, if◌then◌else◌}
use Rattle.std.specs.Option.{option_and_then}
use Rattle.std.specs.Int.{is_in_range}
use Rattle.std.specs.Char.{is_ascii_alphanumeric}
use Rattle.token_parts.specs.declared.token.Token.{Token}
use Rattle.token_parts.specs.declared.token.Token.TheVariants.{Literal}
use Rattle.token_parts.specs.declared.token.LexFlags.{LexFlags}
use Rattle.pat_tree.specs.declared.options.Newline.TheVariants.{Lf}
use Rattle.token_parts.specs.Bytes.{◌∈◌, is_at, begins, run_end, digits_end, numeral}
use Rattle.token_parts.specs.Names.{word_end}
use Rattle.token_parts.specs.Codes.{coded}
use Rattle.token_parts.specs.Tell.{Lexed, longest_name}
use Rattle.subst_plan.specs.declared.faults.PlanError.{PlanError}
use Rattle.subst_plan.specs.declared.faults.PlanError.TheVariants.{BadReplacement, BadEscape, MissingBrace, BadSyntax}
use Rattle.subst_plan.specs.declared.pieces.Key.{Key}
use Rattle.subst_plan.specs.declared.pieces.Key.TheVariants.{Number, Name, NoGroup}
use Rattle.subst_plan.specs.declared.pieces.Forcing.{Forcing}
use Rattle.subst_plan.specs.declared.pieces.Forcing.TheVariants.{Off, All, Next}
use Rattle.subst_plan.specs.declared.pieces.Case.TheVariants.{Upper, Lower}
use Rattle.subst_plan.specs.declared.pieces.Inner.{Inner}
use Rattle.subst_plan.specs.declared.pieces.Inner.TheVariants.{First}
use Rattle.subst_plan.specs.declared.pieces.Piece.{Piece}
use Rattle.subst_plan.specs.declared.pieces.Piece.TheVariants.{Text, Byte, Char, Group, Mark, Force, Default, Choice}
use Rattle.subst_plan.specs.declared.pieces.Piece.TheVariants.{Else, Close}

-- what is read and the place after it, or the fault
abbrev pub Read : Type 0 → Type 0
Read A = Result (A × ℕ) PlanError

infixl 10 ◌>>=◌
-- what follows a success
abbrev pub ◌>>=◌ : {A B : Type 0} → Result A PlanError → (A → Result B PlanError) → Result B PlanError
Ok found >>= rest = rest found
Err fault >>= rest = Err fault

-- the group of a number: none is past 65,535
abbrev pub key_of : ℕ → Key
key_of n = if nat_le n 65535 then Number n else NoGroup

-- the control characters that letters write
abbrev pub control_of : ℕ → Option ℕ
control_of c =
    if c ∈ "a" then Some 7
    else if c ∈ "e" then Some 27
    else if c ∈ "f" then Some 12
    else if c ∈ "n" then Some 10
    else if c ∈ "r" then Some 13
    else if c ∈ "t" then Some 9
    else None

-- what letters force the case into
abbrev pub forcing_of : ℕ → Option Forcing
forcing_of c =
    if c ∈ "U" then Some (All Upper)
    else if c ∈ "L" then Some (All Lower)
    else if c ∈ "E" then Some Off
    else if c ∈ "u" then Some (Next Upper)
    else if c ∈ "l" then Some (Next Lower)
    else None

-- the codes of characters: all but surrogates, up to U+10FFFF
abbrev pub is_scalar : ℕ → Bool
is_scalar code = nat_lt code 0xD800 || is_in_range 0xE000 0x10_FFFF code

-- a character by its code
abbrev pub character : Bool → ℕ → Option Piece
character utf code =
    if utf then (if is_scalar code then Some (Char code) else None)
    else if nat_le code 255 then Some (Byte code)
    else None

abbrev pub literal_of : Token → Option ℕ
literal_of (Literal code) = Some code
literal_of _ = None

abbrev pub character_read : Option Piece → ℕ → Read Piece
character_read (Some piece) to = Ok (piece, to)
character_read None to = Err BadEscape

-- a code that was read as in a pattern
abbrev pub code_read : Bool → Lexed → Read Piece
code_read utf (Ok lexed) = character_read (option_and_then (character utf) (literal_of lexed.0)) lexed.1
code_read utf (Err fault) = Err BadEscape

-- how codes are read: as in a pattern
abbrev pub code_flags : Bool → LexFlags
code_flags utf = record {
  utf = utf;
  extended = false;
  extended_more = false;
  quoting = false;
  in_class = false;
  newline = Lf;
  groups = 0;
}

-- what ends the text that is open
abbrev pub closes : Option Inner → ℕ → Bool
closes None c = false
closes (Some inner) c = c ∈ "}"

abbrev pub parts : Option Inner → ℕ → Bool
parts (Some First) c = c ∈ ":"
parts _ c = false

-- a byte that doesn't stand for itself
abbrev pub is_special : Bool → Option Inner → ℕ → Bool
is_special extended inner c = c ∈ "$" || (extended && c ∈ "\\" || (parts inner c || closes inner c))

-- how many bytes stand before `\E`
abbrev pub quoted_len : List ℕ → ℕ
quoted_len [] = 0
quoted_len (c ∷ rest) = if begins (c ∷ rest) "\\E" 0 then 0 else suc (quoted_len rest)

module _ (text : List ℕ) where
  -- a number, with all its digits, or a name of at most 128 bytes: letters, digits and underscores as in names of
  -- groups
  unfoldable pub key_at : Bool → ℕ → Read Key
  key_at utf at =
      let digits = digits_end text 10 at in
      let word = word_end text utf at in
      if nat_lt at digits then Ok (key_of (numeral text 10 at digits), digits)
      else if nat_lt at word && nat_le (word - at) longest_name then Ok (Name at word, word)
      else Err BadReplacement

  -- whether `*MARK` stands at a place, as a whole word
  unfoldable pub is_mark : Bool → ℕ → Bool
  is_mark utf at = begins text "*MARK" at && word_end text utf (at + 1) == at + 5

  -- `$x`, from the place after `$`
  unfoldable pub bare : Bool → ℕ → Read Piece
  bare utf at = if is_mark utf at then Ok (Mark, at + 5) else key_at utf at >>= λ key. Ok (Group key.0, key.1)

  -- a `}` after a reference
  abbrev pub closed : Piece → ℕ → Read Piece
  closed piece to = if is_at text "}" to then Ok (piece, to + 1) else Err MissingBrace

  -- what follows the name or number in `${x`
  unfoldable pub after_key : Bool → Key → ℕ → Read Piece
  after_key extended key to =
      if extended && is_at text ":" to then
      if is_at text "-" (to + 1) then Ok (Default key, to + 2)
      else if is_at text "+" (to + 1) then Ok (Choice key, to + 2)
      else Err BadSyntax
      else closed (Group key) to

  -- `${x`, from the place after the brace
  unfoldable pub braced : Bool → Bool → ℕ → Read Piece
  braced extended utf at =
      if is_mark utf at then closed Mark (at + 5)
      else key_at utf at >>= λ key. after_key extended key.0 key.1

  -- a dollar at a place
  unfoldable pub reference : Bool → Bool → ℕ → Read Piece
  reference extended utf at =
      if is_at text "$" (at + 1) then Ok (Text (at + 1) (at + 2), at + 2)
      else if is_at text "{" (at + 1) then braced extended utf (at + 2)
      else bare utf (at + 1)

  -- the text from a place to `\E` or to the end
  unfoldable pub quote_end : ℕ → ℕ
  quote_end from = from + quoted_len (drop from text)

  abbrev pub quoted : ℕ → Read Piece
  quoted from = let end = quote_end from in Ok (Text from end, min (length text) (end + 2))

  -- a backslash at a place
  unfoldable pub escape : Bool → ℕ → Read Piece
  escape utf at = elim (slice_get text (at + 1)) [
    | None ↦ Err BadEscape
    | Some c ↦ elim (control_of c) [
      | Some b ↦ Ok (Byte b, at + 2)
      | None ↦ elim (forcing_of c) [
        | Some forcing ↦ Ok (Force forcing, at + 2)
        | None ↦
            if c ∈ "Q" then quoted (at + 2)
            else if c ∈ "xo" then code_read utf (coded text (code_flags utf) c at)
            else if is_ascii_alphanumeric c then Err BadEscape
            else Ok (Text (at + 1) (at + 2), at + 2)
      ]
    ]
  ]

  -- the bytes up to the next one that doesn't stand for itself
  abbrev pub plain_end : Bool → Option Inner → ℕ → ℕ
  plain_end extended inner from = run_end text (λ c. not (is_special extended inner c)) from

  -- the piece that begins with this byte at a place, in the text that is open
  unfoldable pub piece_at : Bool → Bool → Option Inner → ℕ → ℕ → Read Piece
  piece_at extended utf inner c at =
      if c ∈ "$" then reference extended utf at
      else if extended && c ∈ "\\" then escape utf at
      else if parts inner c then Ok (Else, at + 1)
      else if closes inner c then Ok (Close, at + 1)
      else let to = plain_end extended inner (at + 1) in Ok (Text at to, to)
