use Rattle.std.proofs.lemmas.Result.{err_from_is_err_and}
use Rattle.token_parts.specs.declared.token.Token.TheVariants.{ClassStart}
use Rattle.pat_build.specs.Machine.{state_of}
use Rattle.pat_build.proofs.Waiting.{class_refuses, class_begins}
use Rattle.pat_build.proofs.Refused.{class_number, class_place}
use Rattle.pat_build.proofs.machine.Machine.class_start.Goals as goal

pub returns-in_err-spec-clause-bad : goal.returns-in_err-spec-clause-bad
returns-in_err-spec-clause-bad c =
    let m = c.args.self.now in
    let p = err_from_is_err_and c.from_residual.result c.from_residual.ensures.1 in
    let v = c.cursor-cursor.result in
    let is = c.cursor-cursor.ensures in
    rw (p.1, p.2) (class_refuses m c.requires.means c.args.negated c.args.after v.text.now v.place v.options v.groups
    is.text is.place is.options is.groups c.in_err-spec.field-0.0 c.requires
    (λ n h. c.in_err-spec.ensures.bad (state_of m) n h))

pub class-requires-clause-ready : goal.class-requires-clause-ready
class-requires-clause-ready c =
    let m = c.args.self.now in
    let v = c.cursor-cursor.result in
    let is = c.cursor-cursor.ensures in (
      ClassStart c.args.negated,
      c.args.after,
      c.requires,
      rw (is.place) at c.in_ok-spec.ensures.past,
      class_begins m c.requires.means c.args.negated c.args.after v.text.now v.place v.options v.groups is.text
          is.place is.options is.groups c.in_ok-spec.spec c.in_ok-spec.end
          (λ n h. c.in_ok-spec.ensures.class (state_of m) n h),
    )

pub returns-in_err-spec-clause-number : goal.returns-in_err-spec-clause-number
returns-in_err-spec-clause-number c =
    let p = err_from_is_err_and c.from_residual.result c.from_residual.ensures.1 in
    rw (p.1, p.2) (class_number c.in_err-spec.field-0.0 c.in_err-spec.ensures.number)

pub returns-in_err-spec-clause-place : goal.returns-in_err-spec-clause-place
returns-in_err-spec-clause-place c =
    let p = err_from_is_err_and c.from_residual.result c.from_residual.ensures.1 in
    rw (p.1, p.2) (rw (c.cursor-cursor.ensures.text)
    at (class_place c.cursor-cursor.result.text.now c.in_err-spec.field-0.0 c.in_err-spec.ensures.place))
