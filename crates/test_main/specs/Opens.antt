-- What a file of a run stands for, over any set of files: what the source gave that opening it
-- answered.
use Rattle.std.specs.Prelude.{ℕ, List, [], ◌∷◌, Option, Some, Result, Ok, Err, ⊤}
use Rattle.pcre_io.specs.Told.{Told}
use Rattle.pcre_io.specs.Files.{Contents, Opens}
use Rattle.pcre_io.specs.declared.traits.IoError.{IoError}
use Rattle.pcre_io.specs.declared.traits.IoError.TheVariants.{Failed, Memory}
use Rattle.line_feed.specs.Rows.{Input}
use Rattle.line_feed.specs.Hears.{Hears}
use Rattle.tool_io.specs.declared.target.Target.{Target}
use Rattle.tool_io.specs.declared.target.Target.TheVariants as targets
use Rattle.tool_io.specs.Asked.{Asked}

-- A source of these files was opened by this name, and stands for this input: it was opened so, and
-- is left so.
pub record GivenBy {S : Type 0} (tells : S → Told) (contents : Option Contents) (path : List ℕ)
    (input : Input) : Type 0 where
  pub opened : S
  pub left : S
  pub opens : Opens contents path (tells opened)
  pub hears : Hears (tells opened) (tells left) input

-- what isn't a file, or is absent, is given by none
abbrev pub IsGiven : {S : Type 0} → (S → Told) → Option Contents → Target → Option Input → Type 0
IsGiven tells contents (targets.File path) (Some input) = GivenBy tells contents path input
IsGiven tells contents _ _ = ⊤

-- each file that is there was opened
abbrev pub AreGiven : {S : Type 0} → (S → Told) → Option Contents → List Asked → Type 0
AreGiven tells contents [] = ⊤
AreGiven tells contents (a ∷ given) =
    IsGiven tells contents a.target a.input × AreGiven tells contents given

-- where memory didn't lack
abbrev pub UnlessLacks : Result ℕ IoError → Type 0 → Type 0
UnlessLacks (Ok _) fact = fact
UnlessLacks (Err Failed) fact = fact
UnlessLacks (Err Memory) fact = ⊤
