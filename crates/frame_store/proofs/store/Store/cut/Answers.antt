use Rattle.std.proofs.Common.{◌≡◌, ◌≤◌, ◌∙◌, length, sym, ap, reverse}
use Rattle.std.proofs.lemmas.List.{length-reverse}
use Rattle.frame_store.specs.Stack.{Stack, up_to}
use Rattle.frame_store.proofs.StackLemmas.{up_to-reverse}
use Rattle.frame_store.proofs.store.Store.cut.Goals as goal

pub returns-clause-cut : goal.returns-clause-cut
returns-clause-cut c =
    let items = c.self.inside.records.items in
    let view : reverse items ≡ c.args.self.now.records = ap (λ (s : Stack). s.records) c.self.view_is in
    let within : c.args.to ≤ length items = rw (← length-reverse items, view) c.requires in
    ap reverse c.truncate.ensures.items ∙ sym (up_to-reverse c.args.to items within) ∙ ap (up_to c.args.to) view
