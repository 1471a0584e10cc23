use Rattle.std.proofs.Common.{◌≡◌, ◌∙◌, ◌<◌, refl, ap, arith, rules}
use Rattle.test_gen.specs.Counts.{pattern_in, ends_in, all_ends}
use Rattle.test_gen.proofs.Making.{summed-none, summed-more}
use Rattle.test_gen.proofs.counts.ends_of.Goals as goal

pub loop-line-init : goal.loop-line-init
loop-line-init g c = summed-none (ends_in (pattern_in c.args.code.now)) c.new-generator.result.x 0
    c.new-generator.ensures refl

pub loop-line-preserved : goal.loop-line-preserved
loop-line-preserved g c =
    let f = ends_in (pattern_in c.args.code.now) in
    let few : c.in_ok-count.field-0 < 18446744073709551616 = search rules in
    summed-more f c.loop-line._line c.loop-line.generator.x c.loop-line.count c.next_line.new.self.x
    c.in_ok-count.field-0 c.in_ok-line.line.items c.loop-line.invariant c.in_ok-line.ensures.line
    c.in_ok-line.ensures.x
    (c.in_ok-count.ensures ∙ ap f c.as_slice.ensures.value) few

pub returns : goal.returns
returns g c =
    let all : c.loop-line._line ≡ c.args.lines = omega arith in
    c.loop-line.invariant.sum ∙ ap (all_ends (pattern_in c.args.code.now)) all
