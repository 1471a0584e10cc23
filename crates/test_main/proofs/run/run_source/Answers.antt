use Rattle.std.proofs.Common.{◌≡◌, Err, refl, sym, subst, rules}
use Rattle.line_feed.specs.Rows.{At, Long, Fault, Limit}
use Rattle.tool_io.proofs.Taking.{hears-any}
use Rattle.tool_io.specs.Printed.{printed}
use Rattle.test_run.specs.TestText.{test_text}
use Rattle.test_run.specs.Runs.{RunsTo}
use Rattle.test_main.specs.RunsBy.{RunsBy}
use Rattle.test_main.specs.ToolText.{script_text}
use Rattle.test_main.proofs.Running.{unbegun, ran-whole, ran-unsent, ran-lacks, ran-told, ran-untold}
use Rattle.test_main.proofs.run.run_source.Goals as goal

pub returns-in_err-write_banner : goal.returns-in_err-write_banner
returns-in_err-write_banner g c =
    let plan = c.args.plan.now in
    let name = c.args.name.now in
    let any = hears-any (g.S.Source.tells c.args.source.now) in
    let e = c.in_err-write_banner.field-0.0 in
    let out = g.O.Sink.tells c.args.out.now in
    let out_new = g.O.Sink.tells c.write_banner.new.out in
    let err = g.E.Sink.tells c.args.err.now in
    let same : c.from_residual.result ≡ Err e = search rules in (
      any.0,
      any.1,
      subst (RunsBy (script_text plan name any.0) (printed out err) (printed out_new err)) (sym same)
          (unbegun plan name (test_text plan any.0) out out_new err e c.in_err-write_banner.ensures),
    )

pub returns-in-Ok : goal.returns-in-Ok
returns-in-Ok g c =
    let plan = c.args.plan.now in
    let r = c.in-Ok.ensures in (
      r.heard,
      r.hears,
      ran-whole plan c.args.name.now (test_text plan r.heard) (g.O.Sink.tells c.args.out.now)
          (g.O.Sink.tells c.write_banner.new.out) (g.O.Sink.tells c.run_script.new.out) _ c.in_ok-write_banner.ensures
          (g.E.Sink.tells c.args.err.now) r.runs,
    )

pub returns-in-Err-SinkFault : goal.returns-in-Err-SinkFault
returns-in-Err-SinkFault g c =
    let plan = c.args.plan.now in
    let r = c.in-Err-SinkFault.ensures in
    let t = test_text plan r.heard in
    let mid = g.O.Sink.tells c.write_banner.new.out in
    let new = g.O.Sink.tells c.run_script.new.out in
    let runs = subst (λ e. RunsTo t mid new (Err e)) c.in-Err-SinkFault.field-0-is r.runs in (
      r.heard,
      r.hears,
      ran-unsent plan c.args.name.now t (g.O.Sink.tells c.args.out.now) mid new _
          c.in_ok-write_banner.ensures (g.E.Sink.tells c.args.err.now) runs.0 runs.1,
    )

pub returns-in-Err-Memory : goal.returns-in-Err-Memory
returns-in-Err-Memory g c =
    let plan = c.args.plan.now in
    let r = c.in-Err-Memory.ensures in
    let t = test_text plan r.heard in
    let mid = g.O.Sink.tells c.write_banner.new.out in
    let new = g.O.Sink.tells c.run_script.new.out in
    let runs = subst (λ e. RunsTo t mid new (Err e)) c.in-Err-Memory.field-0-is r.runs in (
      r.heard,
      r.hears,
      ran-lacks plan c.args.name.now t (g.O.Sink.tells c.args.out.now) mid new _
          c.in_ok-write_banner.ensures (g.E.Sink.tells c.args.err.now) runs.0 runs.1,
    )

pub returns-in_ok-write_message-in-Err-ReadFault : goal.returns-in_ok-write_message-in-Err-ReadFault
returns-in_ok-write_message-in-Err-ReadFault g c =
    let plan = c.args.plan.now in
    let r = c.in-Err-ReadFault.ensures in
    let t = test_text plan r.heard in
    let mid = g.O.Sink.tells c.write_banner.new.out in
    let new = g.O.Sink.tells c.run_script.new.out in
    let runs = subst (λ e. RunsTo t mid new (Err e)) c.in-Err-ReadFault.field-0-is r.runs in (
      r.heard,
      r.hears,
      ran-told plan c.args.name.now t (g.O.Sink.tells c.args.out.now) mid new _ c.in_ok-write_banner.ensures
          (At Fault) refl runs (g.E.Sink.tells c.args.err.now) (g.E.Sink.tells c.write_message.new.err) _
          c.in_ok-write_message-in-Err-ReadFault.ensures,
    )

pub returns-in_err-write_message-in-Err-ReadFault : goal.returns-in_err-write_message-in-Err-ReadFault
returns-in_err-write_message-in-Err-ReadFault g c =
    let plan = c.args.plan.now in
    let r = c.in-Err-ReadFault.ensures in
    let t = test_text plan r.heard in
    let out = g.O.Sink.tells c.args.out.now in
    let mid = g.O.Sink.tells c.write_banner.new.out in
    let new = g.O.Sink.tells c.run_script.new.out in
    let err = g.E.Sink.tells c.args.err.now in
    let err_new = g.E.Sink.tells c.write_message.new.err in
    let runs = subst (λ e. RunsTo t mid new (Err e)) c.in-Err-ReadFault.field-0-is r.runs in
    let e = c.in_err-write_message-in-Err-ReadFault.field-0.0 in
    let same : c.from_residual-in_err-write_message-in-Err-ReadFault.result ≡ Err e = search rules in (
      r.heard,
      r.hears,
      subst (RunsBy (script_text plan c.args.name.now r.heard) (printed out err) (printed new err_new)) (sym same)
          (ran-untold plan c.args.name.now t out mid new _ c.in_ok-write_banner.ensures (At Fault) refl runs err
          err_new e c.in_err-write_message-in-Err-ReadFault.ensures),
    )

pub returns-in_ok-write_too_long-in-Err-TooLong : goal.returns-in_ok-write_too_long-in-Err-TooLong
returns-in_ok-write_too_long-in-Err-TooLong g c =
    let plan = c.args.plan.now in
    let r = c.in-Err-TooLong.ensures in
    let t = test_text plan r.heard in
    let mid = g.O.Sink.tells c.write_banner.new.out in
    let new = g.O.Sink.tells c.run_script.new.out in
    let runs = subst (λ e. RunsTo t mid new (Err e)) c.in-Err-TooLong.field-0-is r.runs in (
      r.heard,
      r.hears,
      ran-told plan c.args.name.now t (g.O.Sink.tells c.args.out.now) mid new _ c.in_ok-write_banner.ensures
          (Long c.in-Err-TooLong.line) refl runs (g.E.Sink.tells c.args.err.now)
          (g.E.Sink.tells c.write_too_long.new.err) _ c.in_ok-write_too_long-in-Err-TooLong.ensures,
    )

pub returns-in_err-write_too_long-in-Err-TooLong : goal.returns-in_err-write_too_long-in-Err-TooLong
returns-in_err-write_too_long-in-Err-TooLong g c =
    let plan = c.args.plan.now in
    let r = c.in-Err-TooLong.ensures in
    let t = test_text plan r.heard in
    let out = g.O.Sink.tells c.args.out.now in
    let mid = g.O.Sink.tells c.write_banner.new.out in
    let new = g.O.Sink.tells c.run_script.new.out in
    let err = g.E.Sink.tells c.args.err.now in
    let err_new = g.E.Sink.tells c.write_too_long.new.err in
    let runs = subst (λ e. RunsTo t mid new (Err e)) c.in-Err-TooLong.field-0-is r.runs in
    let e = c.in_err-write_too_long-in-Err-TooLong.field-0.0 in
    let same : c.from_residual-in_err-write_too_long-in-Err-TooLong.result ≡ Err e = search rules in (
      r.heard,
      r.hears,
      subst (RunsBy (script_text plan c.args.name.now r.heard) (printed out err) (printed new err_new)) (sym same)
          (ran-untold plan c.args.name.now t out mid new _ c.in_ok-write_banner.ensures (Long c.in-Err-TooLong.line)
          refl runs err err_new e c.in_err-write_too_long-in-Err-TooLong.ensures),
    )

pub returns-in_ok-write_message-in-Err-TooMuch : goal.returns-in_ok-write_message-in-Err-TooMuch
returns-in_ok-write_message-in-Err-TooMuch g c =
    let plan = c.args.plan.now in
    let r = c.in-Err-TooMuch.ensures in
    let t = test_text plan r.heard in
    let mid = g.O.Sink.tells c.write_banner.new.out in
    let new = g.O.Sink.tells c.run_script.new.out in
    let runs = subst (λ e. RunsTo t mid new (Err e)) c.in-Err-TooMuch.field-0-is r.runs in (
      r.heard,
      r.hears,
      ran-told plan c.args.name.now t (g.O.Sink.tells c.args.out.now) mid new _ c.in_ok-write_banner.ensures
          (At Limit) refl runs (g.E.Sink.tells c.args.err.now) (g.E.Sink.tells c.write_message-in-Err-TooMuch.new.err)
          _ c.in_ok-write_message-in-Err-TooMuch.ensures,
    )

pub returns-in_err-write_message-in-Err-TooMuch : goal.returns-in_err-write_message-in-Err-TooMuch
returns-in_err-write_message-in-Err-TooMuch g c =
    let plan = c.args.plan.now in
    let r = c.in-Err-TooMuch.ensures in
    let t = test_text plan r.heard in
    let out = g.O.Sink.tells c.args.out.now in
    let mid = g.O.Sink.tells c.write_banner.new.out in
    let new = g.O.Sink.tells c.run_script.new.out in
    let err = g.E.Sink.tells c.args.err.now in
    let err_new = g.E.Sink.tells c.write_message-in-Err-TooMuch.new.err in
    let runs = subst (λ e. RunsTo t mid new (Err e)) c.in-Err-TooMuch.field-0-is r.runs in
    let e = c.in_err-write_message-in-Err-TooMuch.field-0.0 in
    let same : c.from_residual-in_err-write_message-in-Err-TooMuch.result ≡ Err e = search rules in (
      r.heard,
      r.hears,
      subst (RunsBy (script_text plan c.args.name.now r.heard) (printed out err) (printed new err_new)) (sym same)
          (ran-untold plan c.args.name.now t out mid new _ c.in_ok-write_banner.ensures (At Limit) refl runs err
          err_new e c.in_err-write_message-in-Err-TooMuch.ensures),
    )
