use Rattle.std.proofs.Common.{◌≡◌, ◌≢◌, ◌∙◌, ◌+◌, ◌-◌, ◌<◌, ◌≤◌, take, length, Err, refl, sym, ap, subst, rules, arith}
use Rattle.std.proofs.Common.{◌==◌}
use Rattle.line_feed.specs.Rows.{Row, Finish}
use Rattle.grep_output.specs.declared.ended.Stop.TheVariants.{Memory}
use Rattle.grep_output.specs.Ends.{ended_of, stop_of}
use Rattle.tool_io.specs.Printed.{printed}
use Rattle.grep_blocks.specs.Scanned.{IsReady, ScansTo, scan_at}
use Rattle.grep_blocks.specs.declared.job.Course.{Course}
use Rattle.grep_blocks.specs.declared.job.Next.TheVariants.{Context}
use Rattle.grep_blocks.specs.BlockText.{rest_out}
use Rattle.grep_blocks.specs.Steps.{IsStart, TakesIt, all_rows, rows_at}
use Rattle.tool_io.proofs.Writing.{writes-same}
use Rattle.grep_blocks.proofs.Scanning.{left-begun}
use Rattle.grep_blocks.proofs.Ending.{done-cut, done-ends, full-cut, full-ends, keeps-begun, keeps-more, more-left}
use Rattle.grep_blocks.proofs.Ending.{is-block, ready-is, scans-lacks, scans-stops}
use Rattle.grep_blocks.proofs.scan.scan.Goals as goal

pub block-init : goal.block-init
block-init g c =
    let job = c.args.job.now in
    record {
      keeps = keeps-begun job c.args.course.now c.requires.search.short c.requires.begun;
      known = c.requires.known;
      left = λ finish is. (
        _,
        left-begun job finish c.args.course.now
            (printed (g.O.Sink.tells c.args.out.now) (g.E.Sink.tells c.args.err.now)) c.requires.begun.from
            c.requires.begun.gap,
      );
    }

pub returns-in_err-block : goal.returns-in_err-block
returns-in_err-block g c finish is =
    let job = c.args.job.now in
    let old = c.args.course.now in
    let left = c.block.invariant.left finish is in
    let before = printed (g.O.Sink.tells c.args.out.now) (g.E.Sink.tells c.args.err.now) in
    let mid = printed (g.O.Sink.tells c.block.out) (g.E.Sink.tells c.block.err) in
    let same : c.from_residual.result ≡ Err Memory = search rules in
    subst (ScansTo job (scan_at job finish old) old c.block.course before mid) (sym same)
    (scans-lacks job finish old c.block.course before mid left.0 left.1 c.block.course)

pub take_block-requires-clause-ready : goal.take_block-requires-clause-ready
take_block-requires-clause-ready g c =
    ready-is c.args.job.now c.block.course _ c.in_ok-block.block c.block.invariant.keeps c.block-test.true
    c.in_ok-block.ensures.gives

pub returns-in_err-take_block : goal.returns-in_err-take_block
returns-in_err-take_block g c finish is =
    let job = c.args.job.now in
    let old = c.args.course.now in
    let left = c.block.invariant.left finish is in
    let gives = c.in_ok-block.ensures.gives in
    let before = printed (g.O.Sink.tells c.args.out.now) (g.E.Sink.tells c.args.err.now) in
    let mid = printed (g.O.Sink.tells c.block.out) (g.E.Sink.tells c.block.err) in
    let stop = c.in_err-take_block.field-0.0 in
    let same : c.from_residual-in_err-take_block.result ≡ Err stop = search rules in
    subst (ScansTo job (scan_at job finish old) old c.take_block.new.course before
    (printed (g.O.Sink.tells c.take_block.new.out) (g.E.Sink.tells c.take_block.new.err))) (sym same)
    (scans-stops job finish old c.block.course before mid left.0 left.1 _ c.in_ok-block.block gives _ _ stop
    (c.in_err-take_block.ensures gives left.0 left.1.is_gap left.1.rest))

pub write_behind-requires : goal.write_behind-requires
write_behind-requires g c =
    let job = c.args.job.now in
    let gives = c.in_ok-block.ensures.gives in
    let block = c.in_ok-block.block in
    let keeps = c.block.invariant.keeps in
    let left = c.block.invariant.left c.requires.finish.0 c.requires.finish.1 in
    let start : IsStart job block.reach.behind =
    record { within = gives.within; few = gives.few; short = c.requires.search.short } in
    let ready = ready-is job c.block.course _ block keeps c.block-test.true gives in
    let more = keeps-more job gives.tried left.0 block.reach.behind c.block.course c.take_block.new.course _ _ _ keeps
    start ready.next (c.in_ok-take_block.ensures gives left.0 left.1.is_gap left.1.rest) in
    more.gap

pub end_of-requires : goal.end_of-requires
end_of-requires g c =
    let job = c.args.job.now in
    let gives = c.in_ok-block.ensures.gives in
    let block = c.in_ok-block.block in
    let keeps = c.block.invariant.keeps in
    let left = c.block.invariant.left c.requires.finish.0 c.requires.finish.1 in
    let start : IsStart job block.reach.behind =
    record { within = gives.within; few = gives.few; short = c.requires.search.short } in
    let ready = ready-is job c.block.course _ block keeps c.block-test.true gives in
    let more = keeps-more job gives.tried left.0 block.reach.behind c.block.course c.take_block.new.course _ _ _ keeps
    start ready.next (c.in_ok-take_block.ensures gives left.0 left.1.is_gap left.1.rest) in
    more.from

pub returns-in_err-write_behind : goal.returns-in_err-write_behind
returns-in_err-write_behind g c finish is =
    let job = c.args.job.now in
    let old = c.args.course.now in
    let left = c.block.invariant.left finish is in
    let gives = c.in_ok-block.ensures.gives in
    let behind = c.in_ok-block.block.reach.behind in
    let before = printed (g.O.Sink.tells c.args.out.now) (g.E.Sink.tells c.args.err.now) in
    let mid = printed (g.O.Sink.tells c.block.out) (g.E.Sink.tells c.block.err) in
    let after = printed (g.O.Sink.tells c.take_block.new.out) (g.E.Sink.tells c.take_block.new.err) in
    let new = c.take_block.new.course in
    let last : c.in_ok-take_block.field-0 ≡ Context = search rules in
    let takes = subst (λ n. TakesIt job gives.tried left.0 behind c.block.course new mid after n) last
    (c.in_ok-take_block.ensures gives left.0 left.1.is_gap left.1.rest) in
    let fault = c.in_err-write_behind.field-0.0 in
    let same : c.from_residual-in_err-write_behind.result ≡ Err (stop_of fault) = search rules in
    subst (ScansTo job (scan_at job finish old) old new before
    (printed (g.O.Sink.tells c.write_behind.new.out) (g.E.Sink.tells c.take_block.new.err))) (sym same)
    (full-cut job finish old c.block.course before mid left.0 left.1 _ c.in_ok-block.block gives new _ _ _ takes fault
    (writes-same
    (ap (λ n. rest_out job.search.plan.now job.name.now job.search.text.now (all_rows job) job.has_shown job.show
    (new.selected == 0) (take n (rows_at job new.gap))) c.from-after.ensures)
    c.in_err-write_behind.ensures))

pub returns-then-eq : goal.returns-then-eq
returns-then-eq g c finish is =
    let job = c.args.job.now in
    let old = c.args.course.now in
    let left = c.block.invariant.left finish is in
    let gives = c.in_ok-block.ensures.gives in
    let behind = c.in_ok-block.block.reach.behind in
    let before = printed (g.O.Sink.tells c.args.out.now) (g.E.Sink.tells c.args.err.now) in
    let mid = printed (g.O.Sink.tells c.block.out) (g.E.Sink.tells c.block.err) in
    let after = printed (g.O.Sink.tells c.take_block.new.out) (g.E.Sink.tells c.take_block.new.err) in
    let new = c.take_block.new.course in
    let last : c.in_ok-take_block.field-0 ≡ Context = search rules in
    let takes = subst (λ n. TakesIt job gives.tried left.0 behind c.block.course new mid after n) last
    (c.in_ok-take_block.ensures gives left.0 left.1.is_gap left.1.rest) in
    full-ends job finish old c.block.course before mid left.0 left.1 _ c.in_ok-block.block gives new _ _ _ takes
    c.in_ok-write_behind.field-0 _
    (writes-same
    (ap (λ n. rest_out job.search.plan.now job.name.now job.search.text.now (all_rows job) job.has_shown job.show
    (new.selected == 0) (take n (rows_at job new.gap))) c.from-after.ensures)
    c.in_ok-write_behind.ensures)
    is c.end_of.ensures

pub block-smaller : goal.block-smaller
block-smaller g c =
    let gives = c.in_ok-block.ensures.gives in
    let left = c.block.invariant.left c.requires.finish.0 c.requires.finish.1 in
    let takes = c.in_ok-take_block.ensures gives left.0 left.1.is_gap left.1.rest in
    let at = ap (λ (x : Course). x.from.at) takes.stands in
    omega (arith, at, gives.some, gives.within)

pub block-preserved : goal.block-preserved
block-preserved g c =
    let job = c.args.job.now in
    let old = c.args.course.now in
    let gives = c.in_ok-block.ensures.gives in
    let block = c.in_ok-block.block in
    let keeps = c.block.invariant.keeps in
    let start : IsStart job block.reach.behind =
    record { within = gives.within; few = gives.few; short = c.requires.search.short } in
    let ready = ready-is job c.block.course _ block keeps c.block-test.true gives in
    let other : c.in_ok-take_block.field-0 ≢ Context = λ is. (let e = rw is at c.if-eq.ensures in cc) in
    let next = is-block c.in_ok-take_block.field-0 other in
    let first = c.block.invariant.left c.requires.finish.0 c.requires.finish.1 in
    record {
      keeps = keeps-more job gives.tried first.0 block.reach.behind c.block.course c.take_block.new.course _ _ _ keeps
          start ready.next (c.in_ok-take_block.ensures gives first.0 first.1.is_gap first.1.rest);
      known = c.next.ensures.known;
      left = λ finish is.
          (let left = c.block.invariant.left finish is in
          let before = printed (g.O.Sink.tells c.args.out.now) (g.E.Sink.tells c.args.err.now) in
          let mid = printed (g.O.Sink.tells c.block.out) (g.E.Sink.tells c.block.err) in
          let after = printed (g.O.Sink.tells c.take_block.new.out) (g.E.Sink.tells c.take_block.new.err) in
          more-left job finish old c.block.course before mid left.0 left.1 _ block gives c.take_block.new.course after
          (subst (λ n. TakesIt job gives.tried left.0 block.reach.behind c.block.course c.take_block.new.course mid after
          n) next (c.in_ok-take_block.ensures gives left.0 left.1.is_gap left.1.rest)));
    }

pub returns-in_err-write_behind-2 : goal.returns-in_err-write_behind-2
returns-in_err-write_behind-2 g c finish is =
    let job = c.args.job.now in
    let old = c.args.course.now in
    let left = c.block.invariant.left finish is in
    let before = printed (g.O.Sink.tells c.args.out.now) (g.E.Sink.tells c.args.err.now) in
    let mid = printed (g.O.Sink.tells c.block.out) (g.E.Sink.tells c.block.err) in
    let fault = c.in_err-write_behind-2.field-0.0 in
    let same : c.from_residual-in_err-write_behind-2.result ≡ Err (stop_of fault) = search rules in
    subst (ScansTo job (scan_at job finish old) old c.block.course before
    (printed (g.O.Sink.tells c.write_behind-2.new.out) (g.E.Sink.tells c.block.err))) (sym same)
    (done-cut job finish old c.block.course before mid left.0 left.1 c.block-test.false _ _ _ refl _ fault
    c.in_err-write_behind-2.ensures)

pub returns : goal.returns
returns g c finish is =
    let job = c.args.job.now in
    let old = c.args.course.now in
    let left = c.block.invariant.left finish is in
    let before = printed (g.O.Sink.tells c.args.out.now) (g.E.Sink.tells c.args.err.now) in
    let mid = printed (g.O.Sink.tells c.block.out) (g.E.Sink.tells c.block.err) in
    done-ends job finish old c.block.course before mid left.0 left.1 c.block-test.false _ _ _ refl
    c.in_ok-write_behind-2.field-0 c.in_ok-write_behind-2.ensures is
