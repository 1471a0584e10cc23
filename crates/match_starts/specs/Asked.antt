-- Searches that differ in what their callouts answer.
use Rattle.std.specs.Prelude.{ℤ, pos}
use Rattle.pcre_io.specs.declared.callouts.Block as told
use Rattle.ordered_search.specs.Stream.{Block}
use Rattle.ordered_search.specs.Setting.{Setting}

-- each callout is passed over
abbrev pub passed_over : told.Block → ℤ
passed_over b = pos 0

-- the same search where callouts answer so
abbrev pub replied : (Block → ℤ) → Setting → Setting
replied reply g = record g { reply = reply }
