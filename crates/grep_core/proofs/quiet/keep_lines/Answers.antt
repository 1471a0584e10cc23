use Rattle.std.proofs.Common.{◌≡◌, ◌-◌, arith, subst}
use Rattle.line_feed.specs.Lines.{row_of}
use Rattle.line_feed.proofs.Given.{live-gives}
use Rattle.grep_core.specs.Kept.{KeepsLines}
use Rattle.grep_core.proofs.Keeping.{any, kept-begun, kept-next, kept-one, kept-little, kept-step}
use Rattle.grep_core.proofs.quiet.keep_lines.Goals as goal

pub line-init : goal.line-init
line-init c = record {
  live = c.requires.live;
  within = omega arith;
  kept = λ within holds. kept-begun c.args.feed.now c.args.earlier.now within c.args.lines holds;
}

pub give_line-requires-clause-holds : goal.give_line-requires-clause-holds
give_line-requires-clause-holds c =
    let held = c.requires.holds in
    let more = c.line-test.true in (
      held.0 - c.line.bytes,
      kept-one _ _ _ (kept-next _ _ _ _ held.0 c.args.lines c.line.counter c.line.bytes more
          (c.line.invariant.kept held.0 held.1)),
    )

pub overflow_add-bytes-in-line : goal.overflow_add-bytes-in-line
overflow_add-bytes-in-line c =
    let held = c.requires.holds in
    let more = c.line-test.true in
    let row = row_of c.given_line-line.result in
    let little =
    (kept-little c.args.feed.now c.line.feed c.give_line.new.self c.args.earlier.now c.line.earlier row held.0
    c.args.lines c.line.counter c.line.bytes _ held.1 c.requires.max c.requires.longest more c.give_line.ensures
    c.given_line-line.ensures
    (c.line.invariant.kept held.0 held.1)).little in
    omega (arith, little)

pub push-requires : goal.push-requires
push-requires c =
    let held = c.requires.holds in
    let more = c.line-test.true in
    let row = row_of c.given_line-line.result in
    (kept-little c.args.feed.now c.line.feed c.give_line.new.self c.args.earlier.now c.line.earlier row held.0
    c.args.lines c.line.counter c.line.bytes _ held.1 c.requires.max c.requires.longest more c.give_line.ensures
    c.given_line-line.ensures
    (c.line.invariant.kept held.0 held.1)).short

pub line-preserved : goal.line-preserved
line-preserved c =
    let more = c.line-test.true in
    let row = row_of c.given_line-line.result in
    record {
      live = live-gives c.line.feed c.give_line.new.self any any _ (c.give_line.ensures.gives any);
      within = omega arith;
      kept = λ within holds.
          kept-step c.args.feed.now c.line.feed c.give_line.new.self c.args.earlier.now c.line.earlier c.push.new.self
          row within c.args.lines c.line.counter c.line.bytes _ more c.give_line.ensures c.given_line-line.ensures
          c.in_ok-push.ensures
          (omega arith) (c.line.invariant.kept within holds);
    }

pub returns : goal.returns
returns c = λ within holds.
    let so = c.line.invariant.kept within holds in
    let most = c.line-test.false in
    let low = c.line.invariant.within in
    let all : c.line.counter ≡ c.args.lines = omega arith in
    subst (λ n. KeepsLines c.args.feed.now c.line.feed c.args.earlier.now c.line.earlier within n c.line.bytes) all
    so.keeps
