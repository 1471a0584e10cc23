use Rattle.std.proofs.Common.{[], refl}
use Rattle.test_run.proofs.EndsSearching.{error-failed, told-failure}
use Rattle.test_lines.proofs.Writing.{writes-equal, writes-nothing, lacks-first}
use Rattle.test_run.proofs.dfa.tell_error.Goals as goal

pub returns-in-NoMatch-clause-wrote : goal.returns-in-NoMatch-clause-wrote
returns-in-NoMatch-clause-wrote g c = rw c.in-NoMatch.is (writes-nothing _ _)

pub returns-in-NoMatch-clause-comes : goal.returns-in-NoMatch-clause-comes
returns-in-NoMatch-clause-comes g c = rw c.in-NoMatch.is refl

pub returns-in-Memory-clause-wrote : goal.returns-in-Memory-clause-wrote
returns-in-Memory-clause-wrote g c = rw c.in-Memory.is (lacks-first [] _)

pub returns-in_default-clause-wrote : goal.returns-in_default-clause-wrote
returns-in_default-clause-wrote g c =
    let told = error-failed c.args.utf c.args.subject.now c.args.e c.in_default.not-Memory c.in_default.not-NoMatch in
    writes-equal told.0 c.fail.ensures.wrote

pub returns-in_default-clause-comes : goal.returns-in_default-clause-comes
returns-in_default-clause-comes g c = told-failure c.args.e c.in_default.not-Memory c.in_default.not-NoMatch
    c.fail.result c.fail.ensures.comes
