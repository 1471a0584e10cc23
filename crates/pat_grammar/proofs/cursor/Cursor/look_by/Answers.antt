use Rattle.std.proofs.Common.{◌≡◌, ℕ, List, refl, sym}
use Rattle.pat_tree.specs.Nested.{Nested}
use Rattle.token_parts.specs.declared.token.OpenKind.{OpenKind}
use Rattle.token_parts.specs.declared.token.Token.{Token}
use Rattle.token_parts.specs.declared.token.Token.TheVariants as token
use Rattle.token_parts.specs.Tell.{fault}
use Rattle.pat_grammar.specs.State.{State}
use Rattle.pat_grammar.specs.Parts.{look_by}
use Rattle.pat_grammar.proofs.cursor.Cursor.look_by.Goals as goal

-- another token
no_lookaround : (at : ℕ) (lead : List Nested) (found : Token) (here after : State)
    → ((kind : OpenKind) → found ≡ token.Open kind → ⊥) → look_by at lead found here after ≡ fault 128 at
no_lookaround at lead (token.Open kind) here after p = absurd (p kind refl)
no_lookaround at lead _ here after p = refl

pub returns-in-Some-clause-found : goal.returns-in-Some-clause-found
returns-in-Some-clause-found c st = rw (c.in-Open.is, sym c.in-Some.ensures) refl

pub returns-in-None-clause-bad : goal.returns-in-None-clause-bad
returns-in-None-clause-bad c st = rw (c.in-Open.is, sym c.in-None.ensures) refl

pub returns-in_default-clause-bad : goal.returns-in_default-clause-bad
returns-in_default-clause-bad c st = no_lookaround _ _ _ _ _ c.in_default.not-Open
