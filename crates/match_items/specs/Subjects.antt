-- Subjects that can be searched, and places in them.
use Rattle.std.specs.Prelude.{◌≡◌, ◌<◌, ◌≤◌, ℕ, false, List, length, IsTrue, IsCharBoundary}
use Rattle.pat_tree.specs.declared.options.Options.{Options}
use Rattle.uni_text.specs.Characters.{IsChecked}

-- The bytes can be looked at under these options: they are few enough, and in UTF they are UTF-8.
pub record IsText (options : Options) (bytes : List ℕ) : Type 0 where
  pub short : length bytes < 4294967295
  pub checked : IsChecked options.utf bytes

-- p is a place of the bytes: one at which a character begins, or their end
pub record IsTextPlace (options : Options) (bytes : List ℕ) (p : ℕ) : Type 0 where
  pub within : p ≤ length bytes
  pub between : IsTrue options.utf → IsCharBoundary bytes p

-- The bytes can be searched under these options, and each of them is a character.
pub record IsSubject (options : Options) (bytes : List ℕ) : Type 0 where
  pub short : length bytes < 4294967295
  pub no_utf : options.utf ≡ false

-- p is a place of such a subject: one at which a byte stands, or its end
pub record IsPlace (options : Options) (bytes : List ℕ) (p : ℕ) : Type 0 where
  pub within : p ≤ length bytes
