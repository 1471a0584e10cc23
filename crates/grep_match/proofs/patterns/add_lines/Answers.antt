use Rattle.std.proofs.Common.{◌≡◌, ◌+◌, ◌<◌, ◌≤◌, length, rules, false-eqb, true-eqb, arith}
use Rattle.grep_match.specs.PatternTexts.{options_of, line_end}
use Rattle.grep_match.specs.Compiled.{meant}
use Rattle.grep_match.proofs.PatternLines.{compiling-none, compiling-next, compiling-stops, compiling-ends, within-rest}
use Rattle.grep_match.proofs.patterns.add_lines.Goals as goal

pub line-init : goal.line-init
line-init c = record { compiling = compiling-none _ _ _ _ _; kept = λ before. before }

pub slice_bounds-rest-count : goal.slice_bounds-rest-count
slice_bounds-rest-count c = within-rest _ _ _ _ c.find_line_end-end.ensures.value c.find_line_end-end.ensures.len

pub slice_bounds-rest-start : goal.slice_bounds-rest-start
slice_bounds-rest-start c =
    let within : c.find_line_end-end.result.at + c.find_line_end-end.result.len ≤ length c.line.rest.now =
    within-rest _ _ _ _ c.find_line_end-end.ensures.value c.find_line_end-end.ensures.len in
    search rules

pub overflow_add-rest : goal.overflow_add-rest
overflow_add-rest c =
    let within : c.find_line_end-end.result.at + c.find_line_end-end.result.len ≤ length c.line.rest.now =
    within-rest _ _ _ _ c.find_line_end-end.ensures.value c.find_line_end-end.ensures.len in
    omega arith

pub returns-in-Err-clause-adds : goal.returns-in-Err-clause-adds
returns-in-Err-clause-adds c =
    let options = options_of c.args.plan.now in
    let some : 0 < length c.line.rest.now = omega (arith, false-eqb (length c.line.rest.now) 0 c.line-test.ensures) in
    compiling-stops (Unit {0}) options c.args.plan.now (line_end c.args.plan.now) c.args.text.now
    c.line.rest.now (meant options c.args.patterns.now.items) (meant options c.line.patterns.items)
    (meant options c.add_string.new.patterns.items)
    c.find_line_end-end.result.at c.in-Err.e c.line.invariant.compiling some
    (rw c.line_end-kind.ensures at c.find_line_end-end.ensures.value) c.in-Err.ensures.adds c.requires

pub line-preserved : goal.line-preserved
line-preserved c =
    let options = options_of c.args.plan.now in
    let some : 0 < length c.line.rest.now = omega (arith, false-eqb (length c.line.rest.now) 0 c.line-test.ensures) in
    record {
      compiling =
          compiling-next {A = Unit {0}} c.in-Ok.field-0 options c.args.plan.now (line_end c.args.plan.now)
          c.args.text.now c.line.rest.now (meant options c.args.patterns.now.items)
          (meant options c.line.patterns.items) (meant options c.add_string.new.patterns.items)
          c.find_line_end-end.result.at c.find_line_end-end.result.len c.line.invariant.compiling some
          (rw c.line_end-kind.ensures at c.find_line_end-end.ensures.value)
          (rw c.line_end-kind.ensures at c.find_line_end-end.ensures.len) c.in-Ok.ensures.adds;
      kept = λ before. c.in-Ok.ensures.kept (c.line.invariant.kept before);
    }

pub returns-clause-adds : goal.returns-clause-adds
returns-clause-adds c =
    let none : length c.line.rest.now ≡ 0 = true-eqb (length c.line.rest.now) 0 c.line-test.ensures in
    compiling-ends _ _ _ _ _ _ _ c.line.invariant.compiling none c.requires

pub returns-clause-kept : goal.returns-clause-kept
returns-clause-kept c = c.line.invariant.kept
