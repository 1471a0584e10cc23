use Rattle.grep_match.specs.Compiled.{patterns_in}
use Rattle.grep_match.proofs.Lacking.{are_needed}
use Rattle.grep_match.proofs.unsearched.needed_text.Goals as goal

pub returns-in-Some : goal.returns-in-Some
returns-in-Some c =
    are_needed c.args.plan.now c.limits-matching.result (patterns_in c.args.patterns.now) c.in-Some.needed
    c.limits-matching.ensures
    c.in-Some.ensures
