use Rattle.std.proofs.Common.{rules, ◌≡◌, map, string_bytes, Ok, Err, sym, subst}
use Rattle.grep_output.specs.declared.ended.Stop.TheVariants.{Memory}
use Rattle.grep_targets.specs.Filters.{filter_in}
use Rattle.grep_args.specs.declared.plan.GrepPlan.{GrepPlan}
use Rattle.grep_core.specs.grep_match.Compiled.{patterns_in}
use Rattle.grep_main.specs.ToolText.{with_names}
use Rattle.grep_main.specs.Stages.{sought, SearchesFor, streams}
use Rattle.tool_io.specs.Printed.{printed}
use Rattle.grep_main.proofs.Asking.{for-lacks, for-listed, lists-told, lists-later}
use Rattle.grep_main.proofs.grep.grep_by_filter.Goals as goal

pub returns-in_err-list-clause-runs : goal.returns-in_err-list-clause-runs
returns-in_err-list-clause-runs g c =
    let same : c.from_residual.result ≡ Err Memory = search rules in
    let words = map string_bytes c.args.words.now in
    let files = g.F.FileSet.tells c.args.io.now.files.now in
    let files_new = g.F.FileSet.tells c.targets.new.files in
    let now = g.S.Source.tells c.args.io.now.input.now in
    let out = g.O.Sink.tells c.args.io.now.out.now in
    let err = g.E.Sink.tells c.args.io.now.err.now in
    subst (SearchesFor (sought c.args.plan (Ok (patterns_in c.args.patterns.now)) words) c.args.io.now.is_used
    (streams files now (printed out err)) (streams files_new now (printed out err))) (sym same)
    (for-lacks c.args.plan (Ok (patterns_in c.args.patterns.now)) words c.args.io.now.is_used files files_new now out
    err)

pub returns-clause-runs : goal.returns-clause-runs
returns-clause-runs g c =
    let plan = c.args.plan in
    let words = map string_bytes c.args.words.now in
    let used = c.args.io.now.is_used in
    let filter = filter_in c.args.filter.now in
    let files = g.F.FileSet.tells c.args.io.now.files.now in
    let files_mid = g.F.FileSet.tells c.targets.new.files in
    let files_new = g.F.FileSet.tells c.grep_listed.new.io.files.now in
    let before = g.S.Source.tells c.args.io.now.input.now in
    let after = g.S.Source.tells c.grep_listed.new.io.input.now in
    let old = printed (g.O.Sink.tells c.args.io.now.out.now) (g.E.Sink.tells c.args.io.now.err.now) in
    let new = printed (g.O.Sink.tells c.grep_listed.new.io.out.now) (g.E.Sink.tells c.grep_listed.new.io.err.now) in
    let list = c.in_ok-list.list in
    let named : GrepPlan = record plan { names = c.names_for-plan.result } in
    let told = lists-told files.contents files.faults files_mid.faults plan words list filter c.requires.filter
    c.in_ok-list.ensures.told c.in_ok-list.ensures.stands c.in_ok-list.ensures.causes in
    let lists = lists-later files.contents files.faults files_mid.faults files_new.faults plan words list
    c.grep_listed.ensures.later told in
    let names : named ≡ with_names words list plan = search rules in
    let runs = c.grep_listed.ensures.runs in
    for-listed plan (patterns_in c.args.patterns.now) words used files files_new files_mid.faults filter list named
    before after old new c.grep_listed.result c.in_ok-list.ensures.later c.requires.filter lists names
    (rw c.as_slice-2.ensures at c.grep_listed.ensures.unused)
    (rw (c.in_ok-list.ensures.same, c.as_slice-2.ensures) at runs)
