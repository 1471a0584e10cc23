use Rattle.std.proofs.Common.{◌≡◌, ◌+◌, length, drop}
use Rattle.grep_targets.specs.Filters.{compiled_from, patterns_in, with_patterns}
use Rattle.grep_targets.proofs.filters.compile_all.Given as goal

-- the patterns so far, with those of the rest
abbrev pub invariant-loop-text : goal.invariant-loop-text
invariant-loop-text l =
    with_patterns (patterns_in l.codes.items)
    (compiled_from l.option (length l.codes.items + 1) (drop l.text-index l.fn.texts)) ≡ compiled_from l.option 1
    l.fn.texts
