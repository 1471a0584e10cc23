use Rattle.std.proofs.Common.{◌≡◌, Err, length, sym, subst, rules}
use Rattle.tool_io.specs.Writes.{Writes}
use Rattle.pat_tree.specs.Pattern.{pattern_of}
use Rattle.test_run.specs.Matches.{answered, last_met, first_text}
use Rattle.test_run.specs.Searches.{TellsMissed}
use Rattle.test_run.proofs.Listing.{is-none, first-other, first-ends, first-refused}
use Rattle.test_run.proofs.matches.write_first.Goals as goal

pub returns-in_err-mark : goal.returns-in_err-mark
returns-in_err-mark g c =
    let t = c.args.tested.now in
    let p = pattern_of t.code.tree in
    let how = c.args.how.now in
    let subject = c.args.subject.now in
    let e = c.in_err-mark.field-0.0 in
    let same : c.from_residual.result ≡ Err e = search rules in
    subst (λ r. Writes (first_text t.pattern p how subject how.start) (g.O.Sink.tells c.args.out.now)
    (g.O.Sink.tells c.search_from.new.out) r) (sym same)
    (first-refused t.pattern p how subject how.start _ _ e c.in_err-mark.ensures.wrote)

pub returns-in-Nothing : goal.returns-in-Nothing
returns-in-Nothing g c =
    let t = c.args.tested.now in
    let p = pattern_of t.code.tree in
    let how = c.args.how.now in
    let subject = c.args.subject.now in
    let here = answered p how.replies how.matching subject how.start in
    let last = last_met p how.replies how.matching subject how.start in
    let nothing = is-none (length subject) _ here c.in-Nothing.is c.in_ok-mark.ensures.comes in
    let named = subst (TellsMissed last) c.in-Nothing.is c.in_ok-mark.ensures.missed in
    first-ends t.pattern p how subject how.start _ _ _ c.in-Nothing.mark _ c.write_end.result nothing named
    c.in_ok-mark.ensures.wrote c.write_end.ensures

pub returns-in_default : goal.returns-in_default
returns-in_default g c =
    let t = c.args.tested.now in
    let how = c.args.how.now in
    first-other t.pattern (pattern_of t.code.tree) how c.args.subject.now how.start _ _ _ tt c.in_default.not-Nothing
    c.in_ok-mark.ensures.comes c.in_ok-mark.ensures.wrote
