-- The rest of a reading, with the groups that are open as a list: what a reader in one pass has still to do.
use Rattle.std.specs.Prelude.{ℕ, Bool, true, false, List, [], ◌∷◌, ◌++◌, Option, Some, None}
use Rattle.pat_tree.specs.Nested.{Nested}
use Rattle.token_parts.specs.declared.token.Token.{Token}
use Rattle.token_parts.specs.declared.token.Token.TheVariants.{Quantifier, Passed, QuoteOn, QuoteOff}
use Rattle.token_parts.specs.Tell.{◌>>=◌}
use Rattle.pat_grammar.specs.State.{State, Known, Reads}
use Rattle.pat_grammar.specs.Groups.{Opening, is_tested}
use Rattle.pat_grammar.specs.Parts.{alternative}
use Rattle.pat_grammar.specs.Reading.{quantified, closed, alternatives_from, sequence, alternatives, whole}

-- a group whose inside is being read: its alternatives and the parts of the one in progress, and the numbers that bound
-- the sequence that goes on and the alternatives after it
pub record Layer : Type 0 where
  pub n : ℕ
  pub k : ℕ
  pub branches : List Nested
  pub parts : List Nested

-- an open group, and what is around it
pub record Opened : Type 0 where
  pub how : Opening
  pub outer : Layer

abbrev pub with_part : Layer → Nested → Layer
with_part layer t = record layer { parts = layer.parts ++ t ∷ [] }

-- a lookaround that is tested is an alternative, together with the callout before it
abbrev pub with_test : Layer → Nested → Layer
with_test layer t =
    record layer { branches = layer.branches ++ alternative (layer.parts ++ t ∷ []) ∷ []; parts = [] }

-- the atom that a quantifier may follow, and the number that bounds what is passed over before it
abbrev pub Waiting : Type 0
Waiting = Option (ℕ × Nested)

module _ (known : Known) (text : List ℕ) where
  -- the alternatives in progress are read to their end, and then handed on
  unfoldable pub resumed : (List Nested → State → Reads Nested) → Layer → State → Reads Nested
  resumed then layer st = do
    (parts, end) ← sequence known text layer.n st
    (branches, last) ← alternatives_from text (alternatives known text layer.k) (layer.parts ++ parts) end
    then (layer.branches ++ branches) last

  -- A group is a part under the quantifier that may follow it. A lookaround that is tested is an alternative.
  unfoldable pub given : (List Nested → State → Reads Nested) → Bool → Layer → Nested → State → Reads Nested
  given then true layer found st = resumed then (with_test layer found) st
  given then false layer found st = quantified text layer.n found st >>= λ (part, end). resumed then
      (with_part layer part) end

  -- the innermost group ends, and the groups around it go on
  unfoldable pub ended : List Opened → List Nested → State → Reads Nested
  ended [] branches st = whole text branches st
  ended (o ∷ os) branches st = do
    (found, after) ← closed text o.how branches st
    given (ended os) (is_tested o.how.form) o.outer found after

  unfoldable pub resume : List Opened → Layer → Waiting → State → Reads Nested
  resume os layer None st = resumed (ended os) layer st
  resume os layer (Some (n, t)) st = quantified text n t st >>= λ (part, end). resumed (ended os)
      (with_part layer part) end

-- a token that is no quantifier and isn't passed over
abbrev pub IsPlain : Token → Type 0
IsPlain (Quantifier low high mode) = ⊥
IsPlain Passed = ⊥
IsPlain QuoteOn = ⊥
IsPlain QuoteOff = ⊥
IsPlain _ = Unit {0}
