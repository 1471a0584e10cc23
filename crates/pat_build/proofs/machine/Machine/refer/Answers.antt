use Rattle.std.proofs.Common.{refl}
use Rattle.std.proofs.lemmas.Result.{err_from_is_err_and}
use Rattle.token_parts.specs.declared.token.Token.TheVariants.{Reference}
use Rattle.pat_build.proofs.Waiting.{refers_refuse}
use Rattle.pat_build.proofs.machine.Machine.refer.Goals as goal

pub returns-in_err-groups-clause-bad : goal.returns-in_err-groups-clause-bad
returns-in_err-groups-clause-bad c =
    let p = err_from_is_err_and c.from_residual.result c.from_residual.ensures.1 in
    rw (p.1, p.2) (refers_refuse c.args.self.now c.requires.means c.args.target c.args.after c.in_err-groups.field-0.0
    c.requires c.in_err-groups.ensures.bad)

pub reference-requires-clause-ready : goal.reference-requires-clause-ready
reference-requires-clause-ready c = (Reference c.args.target, c.requires, λ n h. rw c.in_ok-groups.ensures.ok refl)
