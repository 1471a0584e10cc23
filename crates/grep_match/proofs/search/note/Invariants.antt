use Rattle.std.proofs.Common.{◌≡◌, ◌++◌, map, take}
use Rattle.pcre2_api.specs.Captured.{span_of}
use Rattle.grep_match.proofs.search.note.Given as goal

abbrev pub invariant-loop-group : goal.invariant-loop-group
invariant-loop-group l =
    (l.list.places ≡ l.initial.list.places) × (l.list.groups ≡ l.initial.list.groups ++ map (span_of l.found.outcome)
    (take l.group-index l.wanted))
