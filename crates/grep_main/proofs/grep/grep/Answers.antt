use Rattle.std.proofs.Common.{map, string_bytes, subst}
use Rattle.grep_args.specs.Words.{plan_of, Fault, Refuses}
use Rattle.grep_main.specs.Stages.{SearchesBy, streams}
use Rattle.tool_io.specs.Printed.{printed}
use Rattle.grep_main.proofs.Asking.{by-rest, on-plan, on-nothing, on-fault, on-help}
use Rattle.grep_main.proofs.grep.grep.Goals as goal

pub returns-in-Err-Usage-clause-runs : goal.returns-in-Err-Usage-clause-runs
returns-in-Err-Usage-clause-runs g c =
    let fault : Fault = record { kind = c.in-Err-Usage.kind; word = c.in-Err-Usage.word } in
    let out = g.O.Sink.tells c.args.out.now in
    on-fault (map string_bytes c.args.words.now) (g.F.FileSet.tells c.args.files.now)
    (g.S.Source.tells c.args.input.now) fault (printed out (g.E.Sink.tells c.args.err.now))
    (printed out (g.E.Sink.tells c.refuse.new.err)) c.refuse.result
    (subst (Refuses (plan_of (map string_bytes c.args.words.now))) c.in-Err-Usage.field-0-is
    c.in-Err-Usage.ensures.fault) (rw (c.in-Err-Usage.kind-is, c.in-Err-Usage.word-is) at c.refuse.ensures out)

pub returns-in-Err-Memory-clause-runs : goal.returns-in-Err-Memory-clause-runs
returns-in-Err-Memory-clause-runs g c =
    on-nothing (map string_bytes c.args.words.now) (g.F.FileSet.tells c.args.files.now)
    (g.S.Source.tells c.args.input.now) (g.O.Sink.tells c.args.out.now) (g.E.Sink.tells c.args.err.now)

pub returns-in-Some-clause-runs : goal.returns-in-Some-clause-runs
returns-in-Some-clause-runs g c =
    let err = g.E.Sink.tells c.args.err.now in
    on-help (map string_bytes c.args.words.now) (g.F.FileSet.tells c.args.files.now)
    (g.S.Source.tells c.args.input.now) c.in-Ok.plan c.in-Some.kind (printed (g.O.Sink.tells c.args.out.now) err)
    (printed (g.O.Sink.tells c.help.new.out) err) c.help.result
    c.in-Ok.ensures.plan c.in-Some.is (c.help.ensures err)

pub returns-clause-runs : goal.returns-clause-runs
returns-clause-runs g c =
    let plan = c.in-Ok.plan in
    let files = g.F.FileSet.tells c.args.files.now in
    let files_new = g.F.FileSet.tells c.grep_by_plan.new.files in
    let before = g.S.Source.tells c.args.input.now in
    let after = g.S.Source.tells c.grep_by_plan.new.input in
    let old = printed (g.O.Sink.tells c.args.out.now) (g.E.Sink.tells c.args.err.now) in
    let new = printed (g.O.Sink.tells c.grep_by_plan.new.out) (g.E.Sink.tells c.grep_by_plan.new.err) in
    on-plan (map string_bytes c.args.words.now) files files_new before after old new c.grep_by_plan.result plan
    c.in-Ok.ensures.plan c.in_default.is
    (by-rest string_bytes c.args.words.now plan.files_from c.min-from.result
    (λ ws. SearchesBy plan ws (streams files before old) (streams files_new after new) c.grep_by_plan.result)
    c.min-from.ensures c.grep_by_plan.ensures.runs)
