-- A token other than the end moves on.
use Rattle.std.proofs.Common.{◌≡◌, ℕ, ◌<◌, ◌≤◌, false, List, length}
use Rattle.token_parts.specs.declared.token.Token.{Token}
use Rattle.token_parts.specs.declared.token.Token.TheVariants.{End}
use Rattle.token_parts.specs.Tell.{is_end, Moves}

pub moves_inside : (text : List ℕ) (at : ℕ) (token : Token) (after : ℕ) → is_end token ≡ false → at < after
    → after ≤ length text → Moves text at token after
moves_inside text at End after inside past within = cc
moves_inside text at _ after inside past within = (past, within)
