use Rattle.std.proofs.Common.{sym, ap, ◌∙◌}
use Rattle.pat_tree.specs.declared.options.Options.{Options}
use Rattle.std.specs.Option.{option_copied}
use Rattle.match_drive.proofs.Excluded.{excluded_never, lead_is_used}
use Rattle.match_starts.specs.Asked.{passed_over}
use Rattle.match_drive.proofs.places.lead_used.Goals as goal

pub returns-then-options : goal.returns-then-options
returns-then-options g c p =
    excluded_never (g.S.Driven.asked c.args.on.now passed_over) p
    (ap (λ (o : Options). o.no_start_optimize) (sym c.options.ensures) ∙ c.if-options.true)

pub returns-else-options : goal.returns-else-options
returns-else-options g c =
    lead_is_used (g.S.Driven.asked c.args.on.now passed_over) (option_copied c.lead.result)
    (ap (λ (o : Options). o.no_start_optimize) (sym c.options.ensures) ∙ c.if-options.false)
    c.lead.ensures
