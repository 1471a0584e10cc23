use Rattle.std.proofs.Common.{sym, ◌∙◌, ap, map, drop, ◌+◌}
use Rattle.std.specs.String.{string_bytes}
use Rattle.grep_args.specs.Words.{options}
use Rattle.grep_args.proofs.Stepping.{map_drop, refuses_as}
use Rattle.grep_args.proofs.words.options.Goals as goal

pub returns-in-Err-clause-fault : goal.returns-in-Err-clause-fault
returns-in-Err-clause-fault c =
    let words = c.args.words.now in
    let n = c.loop-n.n in
    let step = map_drop string_bytes words n c.index-words-n.result c.as_str.result.now c.loop-n-test.true
    c.index-words-n.is c.as_str.ensures.value in
    let whole = ap (λ ws. options ws n c.loop-n.awaited c.loop-n.plan) (sym step) ∙ c.loop-n.invariant in
    refuses_as _ _ c.in-Err.error whole (c.in-Err.ensures.fault (map string_bytes (drop (n + 1) words)))
