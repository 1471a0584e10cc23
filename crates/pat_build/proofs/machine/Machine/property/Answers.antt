use Rattle.std.proofs.Common.{Result, Ok, slice_range, refl, sym, ap, arith}
use Rattle.std.proofs.lemmas.Result.{err_from_is_err_and}
use Rattle.token_parts.specs.declared.fault.Fault.{Fault}
use Rattle.token_parts.specs.declared.token.Token.TheVariants.{Property}
use Rattle.pat_grammar.specs.Parts.{Beginning, of_class}
use Rattle.pat_build.specs.Machine.{state_of}
use Rattle.pat_build.proofs.Waiting.{bad_means}
use Rattle.pat_build.proofs.Refused.{property_number, property_place}
use Rattle.pat_build.proofs.machine.Machine.property.Goals as goal

pub returns-in_err-part-clause-bad : goal.returns-in_err-part-clause-bad
returns-in_err-part-clause-bad c =
    let p = err_from_is_err_and c.from_residual.result c.from_residual.ensures.1 in
    let m = c.args.self.now in
    rw (p.1, p.2)
    (bad_means m c.requires.means (Property c.args.from c.args.to c.args.not) c.args.after c.in_err-part.field-0.0
    c.requires
    (λ n h. rw (sym c.in_err-part.ensures) refl))

pub class-requires-clause-ready : goal.class-requires-clause-ready
class-requires-clause-ready c =
    let m = c.args.self.now in (
      Property c.args.from c.args.to c.args.not,
      c.args.after,
      c.requires,
      omega arith,
      λ n h. rw (sym c.in_ok-part.ensures)
          (ap (λ spec. let x : Result Beginning Fault = Ok (of_class spec (record (state_of m) { at = c.args.after }))
          in x) (sym c.in_ok-spec.ensures)),
    )

pub returns-in_err-part-clause-number : goal.returns-in_err-part-clause-number
returns-in_err-part-clause-number c =
    let p = err_from_is_err_and c.from_residual.result c.from_residual.ensures.1 in
    let m = c.args.self.now in
    rw (p.1, p.2)
    (property_number (slice_range m.text.now c.args.from c.args.to) c.args.not m.options.ucp m.at
    c.in_err-part.field-0.0 (sym c.in_err-part.ensures))

pub returns-in_err-part-clause-place : goal.returns-in_err-part-clause-place
returns-in_err-part-clause-place c =
    let p = err_from_is_err_and c.from_residual.result c.from_residual.ensures.1 in
    let m = c.args.self.now in
    rw (p.1, p.2)
    (property_place m.text.now (slice_range m.text.now c.args.from c.args.to) c.args.not m.options.ucp m.at
    c.in_err-part.field-0.0 (sym c.in_err-part.ensures) (omega arith))
