-- What holds of all texts. In UTF a byte past ASCII stands for itself nowhere: it is part of a character.
use Rattle.std.specs.Prelude.{◌≡◌, ℕ, ◌+◌, true, false, ◌&&◌, nat_le, List, Some, Ok, slice_get, IsUtf8, IsCharBoundary}
use Rattle.token_parts.specs.declared.token.LexFlags.{LexFlags}
use Rattle.token_parts.specs.declared.token.Token.TheVariants.{Literal}
use Rattle.token_parts.specs.Bytes.{◌∈◌}
use Rattle.token_parts.specs.Comments.{is_extended}
use Rattle.uni_text.specs.Characters.{char_at}
use Rattle.token_parts.specs.Characters.{character}
use Rattle.pat_lex.specs.Tokens.{token_at}

-- Between `\Q` and `\E` every byte but a backslash stands for itself, in a class too, whatever is ignored.
abbrev pub QuotedBytes : Type 0
QuotedBytes =
    (text : List ℕ) (flags : LexFlags) (at c : ℕ)
    → flags.quoting ≡ true
    → slice_get text at ≡ Some c
    → c ∈ "\\" ≡ false
    → (flags.utf && nat_le 128 c) ≡ false
    → token_at text flags at ≡ Ok (Literal c, at + 1)

-- Outside classes a byte that is no metacharacter stands for itself, where nothing is ignored.
abbrev pub PlainBytes : Type 0
PlainBytes =
    (text : List ℕ) (flags : LexFlags) (at c : ℕ)
    → flags.quoting ≡ false
    → flags.in_class ≡ false
    → is_extended flags ≡ false
    → slice_get text at ≡ Some c
    → c ∈ "\\()|[.^$*+?{" ≡ false
    → (flags.utf && nat_le 128 c) ≡ false
    → token_at text flags at ≡ Ok (Literal c, at + 1)

-- In a class a byte that is no metacharacter of a class stands for itself, where nothing is ignored.
abbrev pub ClassBytes : Type 0
ClassBytes =
    (text : List ℕ) (flags : LexFlags) (at c : ℕ)
    → flags.quoting ≡ false
    → flags.in_class ≡ true
    → flags.extended_more ≡ false
    → slice_get text at ≡ Some c
    → c ∈ "]-[\\" ≡ false
    → (flags.utf && nat_le 128 c) ≡ false
    → token_at text flags at ≡ Ok (Literal c, at + 1)

-- In UTF the character that stands for itself is the one that begins there.
abbrev pub LiteralsAreCharacters : Type 0
LiteralsAreCharacters =
    (text : List ℕ) (at c : ℕ)
    → IsUtf8 text
    → IsCharBoundary text at
    → slice_get text at ≡ Some c
    → character text true c at ≡ char_at true text at
