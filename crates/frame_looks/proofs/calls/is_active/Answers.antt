use Rattle.std.proofs.Common.{◌∙◌, ◌∷◌, Some, ap, sym, subst}
use Rattle.frame_store.specs.Entry.{entries}
use Rattle.ordered_search.specs.Parts.{is_active}
use Rattle.frame_state.specs.Calls.{IsLatest, calls_at}
use Rattle.frame_state.proofs.CallFrames.{none_past}
use Rattle.frame_looks.proofs.calls.is_active.Goals as goal

pub returns-then-call-place-2 : goal.returns-then-call-place-2
returns-then-call-place-2 c =
    let stack = entries c.args.store.now.records in
    let call = c.in-Some.call in
    let latest : IsLatest stack c.calls.height (Some call) =
    subst (IsLatest stack c.calls.height) c.in-Some.is c.latest_call.ensures in
    sym
    (sym c.calls.invariant.same
    ∙ ap (is_active c.args.group c.args.place) latest.0
    ∙ none_past c.args.group c.args.place call.from ((call.slot, call.place) ∷ calls_at stack call.link) latest.2
    c.if-call-place-2.true)
