use Rattle.std.proofs.Common.{◌≡◌, Err, sym, subst, rules}
use Rattle.tool_io.specs.Writes.{Writes}
use Rattle.pat_tree.specs.Pattern.{pattern_of}
use Rattle.test_run.specs.Dfa.{first_text}
use Rattle.test_run.proofs.Ends.{first-refused}
use Rattle.test_lines.proofs.Writing.{refused-as}
use Rattle.test_run.proofs.dfa.write_first.Goals as goal

pub returns-in_err-search_at : goal.returns-in_err-search_at
returns-in_err-search_at g c =
    let p = pattern_of c.args.code.now.tree in
    let how = c.args.how.now in
    let subject = c.args.subject.now in
    let e = c.in_err-search_at.field-0.0 in
    let same : c.from_residual.result ≡ Err e = search rules in
    subst (λ r. Writes (first_text p how.matching subject how.start) (g.O.Sink.tells c.args.out.now)
    (g.O.Sink.tells c.search_at.new.out) r) (sym same)
    (first-refused p how.matching subject how.start _ _ e (refused-as e c.in_err-search_at.ensures.wrote))
