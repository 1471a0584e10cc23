use Rattle.std.proofs.Common.{◌≡◌, ◌∙◌, ◌-◌, Some, IfOk, sym, ap, subst}
use Rattle.pat_tree.specs.declared.options.TheConstants.MatchOptions as plain_match
use Rattle.test_gen.specs.Counts.{pattern_in, first_length}
use Rattle.test_gen.proofs.Counting.{length-found, length-none}
use Rattle.test_gen.proofs.counts.first_length.Goals as goal

pub returns-in-Ok : goal.returns-in-Ok
returns-in-Ok c =
    (λ i. Some (c.end.ensures i - c.start.ensures i)) ∙ length-found c.in-Some.code plain_match.PLAIN c.args.line.now
    0 c.in-Ok.found c.in-Ok.ensures.found
    ∙ sym (ap (λ code. first_length (pattern_in code) c.args.line.now) c.in-Some.is)

pub returns-in-Err : goal.returns-in-Err
returns-in-Err c =
    subst (λ code. IfOk c.no_match.result (λ found. found ≡ first_length (pattern_in code) c.args.line.now))
    (sym c.in-Some.is)
    (length-none c.in-Some.code plain_match.PLAIN c.args.line.now 0 c.in-Err.e c.no_match.result
    c.no_match.ensures.none c.no_match.ensures.told c.in-Err.ensures.refused)
