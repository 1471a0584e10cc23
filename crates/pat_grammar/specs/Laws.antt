-- What holds of all that is read.
use Rattle.std.specs.Prelude.{◌≡◌, ℕ, ◌≤◌, List, length, Ok}
use Rattle.std.specs.List.{AllByRecursion}
use Rattle.pat_tree.specs.declared.options.Options.{Options}
use Rattle.pat_grammar.specs.Reading.{Parsed, read}
use Rattle.pat_grammar.specs.Nesting.{nesting}

-- The references, calls, lookarounds and conditions stand in the text, and so many atomic groups
-- and lookarounds stand in each other at most: 250 parentheses may be nested, each of them that of
-- a group which nests and has a possessive quantifier, and so may the item inside them.
pub record IsBounded (text : List ℕ) (parsed : Parsed) : Type 0 where
  pub places : AllByRecursion (λ at. at ≤ length text) parsed.places
  pub nested : nesting parsed.tree ≤ 501

abbrev pub ReadingsAreBounded : Type 0
ReadingsAreBounded =
    (options : Options) (text : List ℕ) (parsed : Parsed) → read options text ≡ Ok parsed → IsBounded text parsed
