use Rattle.std.proofs.Common.{[], refl}
use Rattle.pat_tree.specs.Pattern.{pattern_of}
use Rattle.pcre2_errors.specs.declared.error.MatchError.TheVariants as told
use Rattle.test_lines.specs.Marks.{showing}
use Rattle.test_run.proofs.Searching.{error-failed, told-failure}
use Rattle.test_lines.proofs.Writing.{writes-equal, writes-nothing, lacks-first}
use Rattle.test_run.proofs.matches.tell_error.Goals as goal

pub returns-in-NoMatch-clause-wrote : goal.returns-in-NoMatch-clause-wrote
returns-in-NoMatch-clause-wrote g c = rw c.in-NoMatch.is (writes-nothing _ _)

pub returns-in-NoMatch-clause-comes : goal.returns-in-NoMatch-clause-comes
returns-in-NoMatch-clause-comes g c = rw c.in-NoMatch.is refl

pub returns-in-Partial-clause-wrote : goal.returns-in-Partial-clause-wrote
returns-in-Partial-clause-wrote g c = rw c.in-Partial.is c.tell_partial.ensures.wrote

pub returns-in-Partial-clause-comes : goal.returns-in-Partial-clause-comes
returns-in-Partial-clause-comes g c =
    rw c.in-Partial.is (told-failure (told.Partial c.in-Partial.start c.in-Partial.end c.in-Partial.mark) refl
    c.tell_partial.result c.tell_partial.ensures.comes)

pub returns-in-Memory-clause-wrote : goal.returns-in-Memory-clause-wrote
returns-in-Memory-clause-wrote g c = rw c.in-Memory.is (lacks-first [] _)

pub returns-in_default-clause-wrote : goal.returns-in_default-clause-wrote
returns-in_default-clause-wrote g c =
    let show = showing (pattern_of c.args.code.now.tree) c.args.marks in
    let failed = error-failed show c.args.subject.now c.args.e c.in_default.not-Memory c.in_default.not-NoMatch
    c.in_default.not-Partial in writes-equal failed.0 c.fail.ensures.wrote

pub returns-in_default-clause-comes : goal.returns-in_default-clause-comes
returns-in_default-clause-comes g c =
    let show = showing (pattern_of c.args.code.now.tree) c.args.marks in
    let failed = error-failed show c.args.subject.now c.args.e c.in_default.not-Memory c.in_default.not-NoMatch
    c.in_default.not-Partial in told-failure c.args.e failed.1 c.fail.result c.fail.ensures.comes
