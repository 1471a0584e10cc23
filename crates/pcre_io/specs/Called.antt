-- What is told of the callouts that were called.
use Rattle.std.specs.Prelude.{◌≡◌, List, [], ◌∷◌, ◌++◌, Option, Some, None}
use Rattle.pcre_io.specs.declared.callouts.Block.{Block}

-- the blocks that were shown, in order, grow by this one, where they are told
abbrev pub SeenGrows : Option (List Block) → Option (List Block) → Block → Type 0
SeenGrows None new block = new ≡ None
SeenGrows (Some blocks) new block = new ≡ Some (blocks ++ block ∷ [])
