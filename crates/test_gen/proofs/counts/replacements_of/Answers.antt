use Rattle.std.proofs.Common.{◌≡◌, ◌∙◌, ◌<◌, refl, ap, arith, rules}
use Rattle.test_gen.specs.Counts.{pattern_in, replacements_in, replacements}
use Rattle.test_gen.proofs.Making.{summed-none, summed-more}
use Rattle.test_gen.proofs.counts.replacements_of.Goals as goal

pub loop-line-init : goal.loop-line-init
loop-line-init c = record {
  sum = λ names named. summed-none (replacements_in (pattern_in c.args.code.now) names c.args.replacement.now)
      c.new-generator.result.x 0 c.new-generator.ensures refl;
  within = omega arith;
}

pub loop-line-preserved : goal.loop-line-preserved
loop-line-preserved c =
    let few : c.in_ok-count.field-0 < 18446744073709551616 = search rules in
    let i = c.loop-line.invariant in
    record {
      sum = λ names named.
          (let f = replacements_in (pattern_in c.args.code.now) names c.args.replacement.now in
          summed-more f c.loop-line._line c.loop-line.generator.x c.loop-line.count c.next_line.new.self.x
          c.in_ok-count.field-0 c.in_ok-line.line.items (i.sum names named) c.in_ok-line.ensures.line
          c.in_ok-line.ensures.x
          (c.in_ok-count.ensures names named ∙ ap f c.as_slice-line.ensures.value) few);
      within = omega (arith, i.within, few);
    }

pub returns : goal.returns
returns c = λ names named.
    (let all : c.loop-line._line ≡ c.args.lines = omega arith in
    (c.loop-line.invariant.sum names named).sum
    ∙ ap (replacements (pattern_in c.args.code.now) names c.args.replacement.now) all)
