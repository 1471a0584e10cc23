use Rattle.std.proofs.Common.{◌≡◌, ◌∙◌, List, length, reverse, arith, sym, ap, subst, All}
use Rattle.frame_store.specs.declared.records.Record.{Record}
use Rattle.std.proofs.lemmas.List.{take_rest}
use Rattle.frame_store.specs.Stack.{Stack}
use Rattle.frame_store.specs.Entry.{Entry, entries}
use Rattle.frame_store.specs.Gains.{Values, overlaid}
use Rattle.frame_store.specs.Undo.{undone, HasSlot}
use Rattle.frame_store.proofs.UndoLemmas.{past-read}
use Rattle.frame_store.proofs.store.Store.give_back.Goals as goal

pub put_back-requires : goal.put_back-requires
put_back-requires c =
    let view : reverse c.self.inside.records.items ≡ c.args.self.now.records =
    ap (λ (s : Stack). s.records) c.self.view_is in
    subst (λ (es : List Entry). All (HasSlot c.args.registers.now) es)
    (past-read c.args.self.now c.self.inside.records.items c.deref.result.now c.args.to view c.deref.ensures.value
    c.requires.within)
    c.requires.slots

pub returns-then-len-registers-clause-back : goal.returns-then-len-registers-clause-back
returns-then-len-registers-clause-back c =
    let view : reverse c.self.inside.records.items ≡ c.args.self.now.records =
    ap (λ (s : Stack). s.records) c.self.view_is in
    c.put_back.ensures
    ∙ ap (λ (es : List Entry). undone es c.args.registers.now)
    (sym (past-read c.args.self.now c.self.inside.records.items c.deref.result.now c.args.to view
    c.deref.ensures.value c.requires.within))

pub returns-clause-back : goal.returns-clause-back
returns-clause-back c =
    let regs = c.args.registers.now in
    let read = c.deref-2.result.now in
    let view : reverse c.self.inside.records.items ≡ c.args.self.now.records =
    ap (λ (s : Stack). s.records) c.self.view_is in
    let same : length regs ≡ length c.gather.new.gains.values.items =
    omega (arith, c.len.ensures, c.if-len-registers.false, c.gather.ensures.count) in
    c.overlay.ensures ∙ ap (λ (vs : Values). overlaid vs regs) c.deref-3.ensures.value
    ∙ sym (c.gather.ensures.gathered regs same)
    ∙ ap (λ (ys : List Record). undone (entries (reverse ys)) regs) (sym (take_rest read c.args.to))
    ∙ ap (λ (es : List Entry). undone es regs)
    (sym (past-read c.args.self.now c.self.inside.records.items read c.args.to view c.deref-2.ensures.value
    c.requires.within))
