use Rattle.std.proofs.Common.{◌≡◌, map, length, string_bytes}
use Rattle.std.specs.List.{list_any}
use Rattle.grep_main.specs.ToolText.{is_below}
use Rattle.grep_main.proofs.grep.has_below.Given as goal

abbrev pub invariant-target : goal.invariant-target
invariant-target l = list_any (is_below (map string_bytes l.words)) l.rest ≡ list_any
    (is_below (map string_bytes l.words)) l.list

abbrev pub decreases-target : goal.decreases-target
decreases-target l = length l.rest
