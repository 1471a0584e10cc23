use Rattle.std.proofs.Common.{◌≡◌, ◌∙◌, ◌+◌, ◌<◌, ◌≤◌, length, ap, sym, subst, refl, arith, rules}
use Rattle.grep_multi.specs.declared.cut.LineStart.{LineStart}
use Rattle.grep_blocks.specs.Steps.{IsOnward, IsStart, rows_at}
use Rattle.grep_blocks.proofs.Walking.{start-next}
use Rattle.grep_blocks.proofs.Parting.{holds-first, holds-next, line-here, none-before, none-behind, onward-first}
use Rattle.grep_blocks.proofs.Parting.{onward-next}
use Rattle.grep_blocks.proofs.parts.line_with.Goals as goal
use Rattle.grep_blocks.proofs.parts.line_with.Goals.{then-place-next-via-then-place-next}
use Rattle.grep_blocks.proofs.parts.line_with.Goals.{then-place-next-via-else-place-next+then-next-job}

pub line-init : goal.line-init
line-init c =
    let job = c.args.job.now in
    record {
      start = c.requires.start;
      some = c.requires.some;
      later = omega arith;
      on = λ line lines is. onward-first job c.args.from line lines c.requires.start c.requires.some is;
      holds = λ line lines is. holds-first job c.args.from line lines c.args.place is;
    }

pub line-preserved : goal.line-preserved
line-preserved c =
    let job = c.args.job.now in
    let i = c.line.invariant in
    let here = c.line_at-line.result in
    let is = c.line_at-line.ensures in
    let next = c.past-next.ensures in
    let some = subst (λ (at : LineStart). at.at < length job.search.text.now) next c.if-next-job.false in
    let far = subst (λ (at : LineStart). at.at ≤ c.args.place) next c.if-place-next.false in
    record {
      start = subst (IsStart job) (sym next) (start-next job c.line.at here i.start is);
      some = c.if-next-job.false;
      later = omega (arith, i.later, ap (λ (at : LineStart). at.at) next);
      on = λ line lines first. subst (IsOnward job line lines) (sym next)
          (onward-next job line lines c.line.at here is (i.on line lines first) some);
      holds = λ line lines first row rest there. holds-next job line lines c.line.at here is c.args.place
          (i.holds line lines first) far some row rest (ap (rows_at job) (sym next) ∙ there);
    }

pub returns-then-place-next-clause-line : goal.returns-then-place-next-clause-line
returns-then-place-next-clause-line c line lines first =
    let job = c.args.job.now in
    let i = c.line.invariant in
    let here = c.line_at-line.result in
    let is = c.line_at-line.ensures in
    let next = c.past-next.ensures in
    elim c.then-place-next.branch [
      | then-place-next-via-then-place-next w ↦
          line-here job line lines c.line.at here is c.args.place (i.on line lines first) (i.holds line lines first)
          (none-before job line lines c.line.at here is c.args.place
          (subst (λ (at : LineStart). c.args.place < at.at) next w.if-place-next.true))
      | then-place-next-via-else-place-next+then-next-job w ↦
          line-here job line lines c.line.at here is c.args.place (i.on line lines first) (i.holds line lines first)
          (none-behind job line lines c.line.at here is c.args.place
          (subst (λ (at : LineStart). length job.search.text.now ≤ at.at) next w.if-next-job.true))
    ]
