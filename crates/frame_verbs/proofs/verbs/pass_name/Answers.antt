use Rattle.std.proofs.Common.{◌∙◌, ◌∷◌, ap}
use Rattle.frame_store.specs.declared.records.Record.{Record}
use Rattle.frame_store.specs.Entry.{entries}
use Rattle.frame_state.proofs.MostOf.{on_ok}
use Rattle.frame_verbs.proofs.VerbTurns.{unnamed_pushed, named_pushed}
use Rattle.frame_verbs.proofs.verbs.pass_name.Goals as goal

pub returns-in_default-clause-pushed : goal.returns-in_default-clause-pushed
returns-in_default-clause-pushed c =
    on_ok _ _ c.hold.result c.hold.ensures.pushed
    (λ e.
    ap entries (e ∙ ap (λ (r : Record). r ∷ c.args.store.now.records) c.record-event.ensures)
    ∙ unnamed_pushed c.args.spot.now c.args.at c.args.name c.in_default.not-Some c.args.store.now.records)

pub returns-clause-pushed : goal.returns-clause-pushed
returns-clause-pushed c =
    ap entries (c.in_default-hold.ensures.pushed ∙ ap (λ (r : Record). r ∷ c.args.store.now.records)
    c.record-event-2.ensures)
    ∙ named_pushed c.args.spot.now c.args.at c.args.name _ c.in-Some.is c.args.store.now.records
