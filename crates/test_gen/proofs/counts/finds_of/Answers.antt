use Rattle.std.proofs.Common.{◌≡◌, ◌∙◌, ◌≤◌, ◌<◌, is_some, unwrap_or, cond, refl, sym, ap, subst, arith, rules}
use Rattle.std.specs.Int.{from_bool}
use Rattle.test_gen.specs.Counts.{pattern_in, first_length, lines_matched, characters}
use Rattle.test_gen.proofs.Making.{summed-none, summed-more, one-if, one-most}
use Rattle.test_gen.proofs.counts.finds_of.Goals as goal

pub loop-line-init : goal.loop-line-init
loop-line-init c =
    let p = pattern_in c.args.code.now in
    record {
      lines = summed-none (λ line. cond (is_some (first_length p line)) 1 0) c.new-generator.result.x 0
          c.new-generator.ensures refl;
      few = omega arith;
      characters = summed-none (λ line. unwrap_or (first_length p line) 0) c.new-generator.result.x 0
          c.new-generator.ensures refl;
    }

pub loop-line-preserved : goal.loop-line-preserved
loop-line-preserved c =
    let p = pattern_in c.args.code.now in
    let i = c.loop-line.invariant in
    let line = c.in_ok-line.line.items in
    let found = c.in_ok-found.ensures ∙ ap (first_length p) c.as_slice.ensures.value in
    let one = c.from-matched.ensures ∙ ap from_bool c.is_some.ensures ∙ one-if (is_some c.in_ok-found.found)
    ∙ ap (λ f. cond (is_some f) 1 0) found in
    let long = c.unwrap_or.ensures ∙ ap (λ f. unwrap_or f 0) found in
    let most : c.from-matched.result ≤ 1 = subst (λ k. k ≤ 1) (sym c.from-matched.ensures) (one-most c.is_some.result)
    in
    let short : c.unwrap_or.result < 18446744073709551616 = search rules in
    record {
      lines = summed-more (λ line. cond (is_some (first_length p line)) 1 0) c.loop-line._line c.loop-line.generator.x
          c.loop-line.matched c.next_line.new.self.x c.from-matched.result line i.lines c.in_ok-line.ensures.line
          c.in_ok-line.ensures.x one (omega (arith, most));
      few = omega (arith, most, i.few);
      characters = summed-more (λ line. unwrap_or (first_length p line) 0) c.loop-line._line c.loop-line.generator.x
          c.loop-line.characters c.next_line.new.self.x c.unwrap_or.result line i.characters c.in_ok-line.ensures.line
          c.in_ok-line.ensures.x long short;
    }

pub returns-clause-lines : goal.returns-clause-lines
returns-clause-lines c =
    let all : c.loop-line._line ≡ c.args.lines = omega arith in
    c.loop-line.invariant.lines.sum ∙ ap (lines_matched (pattern_in c.args.code.now)) all

pub returns-clause-characters : goal.returns-clause-characters
returns-clause-characters c =
    let all : c.loop-line._line ≡ c.args.lines = omega arith in
    c.loop-line.invariant.characters.sum ∙ ap (characters (pattern_in c.args.code.now)) all
