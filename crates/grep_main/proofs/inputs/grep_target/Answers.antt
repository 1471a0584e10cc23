use Rattle.std.proofs.Common.{rules, ◌≡◌, refl, sym, subst, None, Ok, Err}
use Rattle.tool_io.specs.declared.target.Target.TheVariants as targets
use Rattle.grep_core.specs.grep_match.Compiled.{patterns_in}
use Rattle.grep_main.specs.Searches.{ReportsTargetFrom}
use Rattle.tool_io.proofs.Absence.{absent-other}
use Rattle.grep_main.proofs.Reporting.{target-standard, target-other}
use Rattle.grep_main.proofs.inputs.grep_target.Goals as goal
use Rattle.tool_io.specs.Printed.{printed}

pub returns-in_err-end-in-Input-clause-reports : goal.returns-in_err-end-in-Input-clause-reports
returns-in_err-end-in-Input-clause-reports g c =
    let plan = c.args.plan.now in
    let patterns = patterns_in c.args.patterns.now in
    let target = c.args.target.now in
    let contents = (g.F.FileSet.tells c.args.io.now.files.now).contents in
    let is_used = c.grep_standard.new.is_used in
    let before = g.S.Source.tells c.args.io.now.input.now in
    let after = g.S.Source.tells c.grep_standard.new.input in
    let s_new = c.grep_standard.new.state in
    let old = printed (g.O.Sink.tells c.args.io.now.out.now) (g.E.Sink.tells c.args.io.now.err.now) in
    let new = printed (g.O.Sink.tells c.grep_standard.new.out) (g.E.Sink.tells c.grep_standard.new.err) in
    let greps = c.in_err-end-in-Input.ensures.greps in
    let stop = c.in_err-end-in-Input.field-0.0 in
    let same : c.from_residual.result ≡ Err stop = search rules in
    let count = (g.F.FileSet.tells c.args.io.now.files.now).faults in
    subst (ReportsTargetFrom plan patterns target contents count count c.args.io.now.is_used is_used before after
    c.args.state.now s_new old new) (sym same)
    (target-standard plan patterns target contents count count c.args.state.now s_new old new c.args.io.now.is_used
    is_used before after greps.0 (Err stop) c.in-Input.is greps.1 greps.2 greps.3)

pub returns-in_ok-end-in-Input-clause-reports : goal.returns-in_ok-end-in-Input-clause-reports
returns-in_ok-end-in-Input-clause-reports g c =
    let contents = (g.F.FileSet.tells c.args.io.now.files.now).contents in
    let before = g.S.Source.tells c.args.io.now.input.now in
    let after = g.S.Source.tells c.grep_standard.new.input in
    let old = printed (g.O.Sink.tells c.args.io.now.out.now) (g.E.Sink.tells c.args.io.now.err.now) in
    let new = printed (g.O.Sink.tells c.grep_standard.new.out) (g.E.Sink.tells c.grep_standard.new.err) in
    let greps = c.in_ok-end-in-Input.ensures.greps in
    let count = (g.F.FileSet.tells c.args.io.now.files.now).faults in
    target-standard c.args.plan.now (patterns_in c.args.patterns.now) c.args.target.now contents count count
    c.args.state.now c.grep_standard.new.state old new c.args.io.now.is_used c.grep_standard.new.is_used before
    after greps.0
    (Ok c.in_ok-end-in-Input.end) c.in-Input.is greps.1 greps.2 greps.3

pub returns-in-File-clause-reports : goal.returns-in-File-clause-reports
returns-in-File-clause-reports g c =
    let contents = (g.F.FileSet.tells c.args.io.now.files.now).contents in
    let old = printed (g.O.Sink.tells c.args.io.now.out.now) (g.E.Sink.tells c.args.io.now.err.now) in
    let new = printed (g.O.Sink.tells c.grep_named.new.out) (g.E.Sink.tells c.grep_named.new.err) in
    let found = c.grep_named.ensures.reports in
    let is : c.args.target.now ≡ targets.File c.as_str.result.now = search rules in
    target-other c.args.plan.now (patterns_in c.args.patterns.now) c.args.target.now contents
    (g.F.FileSet.tells c.args.io.now.files.now).faults (g.F.FileSet.tells c.grep_named.new.files).faults
    c.args.state.now c.grep_named.new.state old new (targets.File c.as_str.result.now) c.args.io.now.is_used
    (g.S.Source.tells c.args.io.now.input.now) found.0
    c.grep_named.result is refl found.1 found.2 found.3

pub returns-in-NoOpen-clause-reports : goal.returns-in-NoOpen-clause-reports
returns-in-NoOpen-clause-reports g c =
    let contents = (g.F.FileSet.tells c.args.io.now.files.now).contents in
    let out = g.O.Sink.tells c.args.io.now.out.now in
    let old = printed out (g.E.Sink.tells c.args.io.now.err.now) in
    let new = printed out (g.E.Sink.tells c.pass_over.new.err) in
    let is : c.args.target.now ≡ targets.NoOpen c.as_str-in-NoOpen.result.now = search rules in
    let count = (g.F.FileSet.tells c.args.io.now.files.now).faults in
    target-other c.args.plan.now (patterns_in c.args.patterns.now) c.args.target.now contents count count
    c.args.state.now c.args.state.now old new (targets.NoOpen c.as_str-in-NoOpen.result.now) c.args.io.now.is_used
    (g.S.Source.tells c.args.io.now.input.now) None
    c.pass_over.result is refl refl (c.pass_over.ensures c.args.state.now out)
    (absent-other contents count count (targets.NoOpen c.as_str-in-NoOpen.result.now) None refl)

pub returns-in-NoList-clause-reports : goal.returns-in-NoList-clause-reports
returns-in-NoList-clause-reports g c =
    let contents = (g.F.FileSet.tells c.args.io.now.files.now).contents in
    let out = g.O.Sink.tells c.args.io.now.out.now in
    let old = printed out (g.E.Sink.tells c.args.io.now.err.now) in
    let new = printed out (g.E.Sink.tells c.pass_over-in-NoList.new.err) in
    let is : c.args.target.now ≡ targets.NoList c.as_str-in-NoList.result.now = search rules in
    let count = (g.F.FileSet.tells c.args.io.now.files.now).faults in
    target-other c.args.plan.now (patterns_in c.args.patterns.now) c.args.target.now contents count count
    c.args.state.now c.args.state.now old new (targets.NoList c.as_str-in-NoList.result.now) c.args.io.now.is_used
    (g.S.Source.tells c.args.io.now.input.now) None
    c.pass_over-in-NoList.result is refl refl (c.pass_over-in-NoList.ensures c.args.state.now out)
    (absent-other contents count count (targets.NoList c.as_str-in-NoList.result.now) None refl)

pub returns-in-TooDeep-clause-reports : goal.returns-in-TooDeep-clause-reports
returns-in-TooDeep-clause-reports g c =
    let contents = (g.F.FileSet.tells c.args.io.now.files.now).contents in
    let out = g.O.Sink.tells c.args.io.now.out.now in
    let old = printed out (g.E.Sink.tells c.args.io.now.err.now) in
    let new = printed out (g.E.Sink.tells c.pass_over-in-TooDeep.new.err) in
    let is : c.args.target.now ≡ targets.TooDeep c.as_str-in-TooDeep.result.now = search rules in
    let count = (g.F.FileSet.tells c.args.io.now.files.now).faults in
    target-other c.args.plan.now (patterns_in c.args.patterns.now) c.args.target.now contents count count
    c.args.state.now c.args.state.now old new (targets.TooDeep c.as_str-in-TooDeep.result.now)
    c.args.io.now.is_used (g.S.Source.tells c.args.io.now.input.now) None
    c.pass_over-in-TooDeep.result is refl refl (c.pass_over-in-TooDeep.ensures c.args.state.now out)
    (absent-other contents count count (targets.TooDeep c.as_str-in-TooDeep.result.now) None refl)

pub returns-in-Unnamed-clause-reports : goal.returns-in-Unnamed-clause-reports
returns-in-Unnamed-clause-reports g c =
    let contents = (g.F.FileSet.tells c.args.io.now.files.now).contents in
    let out = g.O.Sink.tells c.args.io.now.out.now in
    let old = printed out (g.E.Sink.tells c.args.io.now.err.now) in
    let new = printed out (g.E.Sink.tells c.pass_over-in-Unnamed.new.err) in
    let is : c.args.target.now ≡ targets.Unnamed c.as_str-in-Unnamed.result.now = search rules in
    let count = (g.F.FileSet.tells c.args.io.now.files.now).faults in
    target-other c.args.plan.now (patterns_in c.args.patterns.now) c.args.target.now contents count count
    c.args.state.now c.args.state.now old new (targets.Unnamed c.as_str-in-Unnamed.result.now)
    c.args.io.now.is_used (g.S.Source.tells c.args.io.now.input.now) None
    c.pass_over-in-Unnamed.result is refl refl (c.pass_over-in-Unnamed.ensures c.args.state.now out)
    (absent-other contents count count (targets.Unnamed c.as_str-in-Unnamed.result.now) None refl)
