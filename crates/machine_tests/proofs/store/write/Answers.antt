use Rattle.std.proofs.Common.{◌≡◌, ◌∙◌, ◌∷◌, List, All, length, sym, ap, subst}
use Rattle.std.proofs.lemmas.List.{length-set}
use Rattle.frame_store.specs.declared.records.Record.{Record}
use Rattle.frame_store.specs.Entry.{entries}
use Rattle.frame_store.specs.Undo.{HasSlot}
use Rattle.frame_store.proofs.UndoLemmas.{AllHaveSlots-undo, AllHaveSlots-same}
use Rattle.machine_tests.proofs.store.write.Goals as goal

pub returns-clause-slots : goal.returns-clause-slots
returns-clause-slots c =
    let r = c.make_record.result in
    let older = c.args.store.now.records in
    let regs = c.args.registers.now in
    let pushed : c.push.new.self.records ≡ r ∷ older = c.in_ok-push.ensures.pushed in
    let kept = AllHaveSlots-undo regs r older c.make_record.ensures.kind
    (rw c.make_record.ensures.slot c.requires.group) c.requires.slots in
    let same : length c.set_captured.new.registers ≡ length regs = ap length c.set_captured.ensures
    ∙ length-set regs _ c.args.value in
    AllHaveSlots-same regs c.set_captured.new.registers (entries c.push.new.self.records) same
    (subst (λ (rs : List Record). All (HasSlot regs) (entries rs)) (sym pushed) kept)
