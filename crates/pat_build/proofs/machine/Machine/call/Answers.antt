use Rattle.std.proofs.Common.{Some, None, ap, ◌∙◌}
use Rattle.std.proofs.lemmas.Result.{err_from_is_err_and}
use Rattle.token_parts.specs.declared.token.Token.TheVariants.{CallTo}
use Rattle.pat_grammar.specs.Parts.{number_called}
use Rattle.pat_build.proofs.Waiting.{calls_refuse, calls_fit}
use Rattle.pat_build.proofs.machine.Machine.call.Goals as goal

pub returns-in_err-groups-clause-bad : goal.returns-in_err-groups-clause-bad
returns-in_err-groups-clause-bad c =
    let p = err_from_is_err_and c.from_residual.result c.from_residual.ensures.1 in
    rw (p.1, p.2) (calls_refuse c.args.self.now c.requires.means c.args.target c.args.after c.in_err-groups.field-0.0
    c.requires c.in_err-groups.ensures.bad)

pub call_group-requires : goal.call_group-requires
call_group-requires c =
    let is = c.in-Some.ensures ∙ ap (λ b. number_called b c.in_ok-groups.groups) c.is_number.ensures in (
      CallTo c.args.target,
      c.requires,
      calls_fit c.args.self.now c.requires.means c.args.target c.args.after
          c.in_ok-groups.groups (Some c.in-Some.number) c.in_ok-groups.ensures.ok is,
    )

pub reference-requires-clause-ready : goal.reference-requires-clause-ready
reference-requires-clause-ready c =
    let is = c.in-None.ensures ∙ ap (λ b. number_called b c.in_ok-groups.groups) c.is_number.ensures in (
      CallTo c.args.target,
      c.requires,
      calls_fit c.args.self.now c.requires.means c.args.target c.args.after
          c.in_ok-groups.groups None c.in_ok-groups.ensures.ok is,
    )
