use Rattle.std.proofs.Common.{◌≡◌, ◌∙◌, List, reverse, sym, ap, subst, All}
use Rattle.frame_store.specs.Stack.{Stack}
use Rattle.frame_store.specs.Entry.{Entry}
use Rattle.frame_store.specs.Undo.{undone, HasSlot}
use Rattle.frame_store.proofs.UndoLemmas.{past-read}
use Rattle.frame_store.proofs.store.Store.undo_spans.Goals as goal

pub put_back-requires : goal.put_back-requires
put_back-requires c =
    let view : reverse c.self.inside.records.items ≡ c.args.self.now.records =
    ap (λ (s : Stack). s.records) c.self.view_is in
    subst (λ (es : List Entry). All (HasSlot c.args.registers.now) es)
    (past-read c.args.self.now c.self.inside.records.items c.deref.result.now c.args.to view c.deref.ensures.value
    c.requires.within)
    c.requires.slots

pub returns-clause-undone : goal.returns-clause-undone
returns-clause-undone c =
    let view : reverse c.self.inside.records.items ≡ c.args.self.now.records =
    ap (λ (s : Stack). s.records) c.self.view_is in
    c.put_back.ensures
    ∙ ap (λ (es : List Entry). undone es c.args.registers.now)
    (sym (past-read c.args.self.now c.self.inside.records.items c.deref.result.now c.args.to view
    c.deref.ensures.value c.requires.within))
