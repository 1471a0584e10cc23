-- The tries of a branch of a lookbehind (pcre2pattern, "Lookbehind assertions").
use Rattle.std.specs.Prelude.{ℕ, Bool, List, [], Option, Some, None}
use Rattle.match_items.specs.Scene.{Scene}
use Rattle.match_items.specs.Items.{places_back}
use Rattle.dfa_paths.specs.Graph.{Inner, CountsAt}
use Rattle.dfa_lists.specs.declared.tries.Try.{Try}

-- where a try begins, and those after it
abbrev pub places_of : Scene → Option Try → List ℕ
places_of g None = []
places_of g (Some t) = places_back g t.left t.place

-- an end of a try that counts, where there is one
abbrev pub IsTryEnd : Inner → ℕ → ℕ → Bool → ℕ → Option ℕ → Type 0
IsTryEnd B entry from each i None = (k : ℕ) → B entry from k → CountsAt each i k → ⊥
IsTryEnd B entry from each i (Some j) = B entry from j × CountsAt each i j
