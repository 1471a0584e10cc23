-- Files that are absent, and why: what targets stand for, and the count of faults of a run's files → an absent file has
-- a cause (pcre2grep, "DIAGNOSTICS").
use Rattle.std.specs.Prelude.{ℕ, Bool, true, false, IsTrue, List, Option, Some, None, ⊤}
use Rattle.std.specs.List.{list_any}
use Rattle.pcre_io.specs.Causes.{Rose}
use Rattle.pcre_io.specs.Files.{Contents}
use Rattle.line_feed.specs.Rows.{Input}
use Rattle.tool_io.specs.declared.target.Target.{Target}
use Rattle.tool_io.specs.declared.target.Target.TheVariants as targets
use Rattle.tool_io.specs.Asked.{Asked}

-- it is a file that isn't there
abbrev pub is_absent_file : Target → Option Input → Bool
is_absent_file (targets.File path) None = true
is_absent_file _ _ = false

abbrev pub is_absent : Asked → Bool
is_absent a = is_absent_file a.target a.input

-- Of files that aren't told, and whose count of faults rose from `first` to `last`, one is absent only where a fault
-- was counted. Of files that are told it is known which are there.
abbrev pub AbsentBy : Option Contents → ℕ → ℕ → List Asked → Type 0
AbsentBy (Some set) first last given = ⊤
AbsentBy None first last given = IsTrue (list_any is_absent given) → Rose first last
