use Rattle.std.proofs.Common.{length, sym, subst}
use Rattle.grep_match.specs.declared.search.Verdict.TheVariants.{NoMatch}
use Rattle.grep_match.specs.Found.{IsVerdict}
use Rattle.grep_match.proofs.Searching.{lists_none}
use Rattle.grep_core.proofs.lines.verdict_on.Goals as goal

pub returns-then-is_quiet : goal.returns-then-is_quiet
returns-then-is_quiet c =
    subst (IsVerdict c.args.job.now.plan.now.only_matching (length c.args.line.now) c.clear.new.self NoMatch)
    (sym (c.requires.quiet c.if-is_quiet.true))
    (lists_none c.args.job.now.plan.now.only_matching (length c.args.line.now) c.clear.new.self c.clear.ensures)
