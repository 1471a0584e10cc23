use Rattle.std.proofs.Common.{◌≡◌, ◌∙◌, Err, refl, sym, subst, rules}
use Rattle.grep_output.specs.Ends.{stop_of}
use Rattle.tool_io.specs.Printed.{printed}
use Rattle.grep_blocks.specs.Steps.{TakesBlock}
use Rattle.grep_blocks.proofs.Turning.{Chosen, chosen-cut, chosen-is, takes-chosen, takes-full}
use Rattle.grep_blocks.proofs.scan.select.Goals as goal

pub returns-in_err-write_shown : goal.returns-in_err-write_shown
returns-in_err-write_shown g c b gap block rows listed picked =
    let job = c.args.job.now in
    let ok = chosen-is _ _ _ b.matches listed in
    let fault = c.in_err-write_shown.field-0.0 in
    let same : c.from_residual.result ≡ Err (stop_of fault) = search rules in
    subst (TakesBlock job b gap c.args.block.reach.behind c.args.course.now c.args.course.now
    (printed (g.O.Sink.tells c.args.out.now) (g.E.Sink.tells c.args.err.now))
    (printed (g.O.Sink.tells c.write_shown.new.out) (g.E.Sink.tells c.args.err.now))) (sym same)
    (chosen-cut job b gap c.args.block.reach.behind c.args.course.now ok.os ok.is picked _ _ _ _ fault
    (c.in_err-write_shown.ensures b gap block rows listed))

pub returns-then-is_full : goal.returns-then-is_full
returns-then-is_full g c b gap block rows listed picked =
    let ok = chosen-is _ _ _ b.matches listed in
    takes-full c.args.job.now b gap c.args.block.reach.behind c.args.course.now ok.os ok.is picked _ _ _
    c.in_ok-write_shown.field-0 (sym c.is_full.ensures ∙ c.if-is_full.true)
    (c.in_ok-write_shown.ensures b gap block rows listed)

pub returns : goal.returns
returns g c b gap block rows listed picked =
    let ok = chosen-is _ _ _ b.matches listed in
    takes-chosen c.args.job.now b gap c.args.block.reach.behind c.args.course.now ok.os ok.is picked _ _ _
    c.in_ok-write_shown.field-0 (sym c.is_full.ensures ∙ c.if-is_full.false)
    (c.in_ok-write_shown.ensures b gap block rows listed)
