-- Characters that stand for themselves (pcre2pattern, "Characters and metacharacters").
use Rattle.std.specs.Prelude.{ℕ, Bool, List, Ok}
use Rattle.token_parts.specs.declared.token.Token.TheVariants.{Literal}
use Rattle.token_parts.specs.Characters.{character}
use Rattle.token_parts.specs.Tell.{Lexed}

module _ (text : List ℕ) where
  -- the character that begins with the byte c at a place
  abbrev pub literal : Bool → ℕ → ℕ → Lexed
  literal utf c at = Ok (Literal (character text utf c at).0, (character text utf c at).1)
