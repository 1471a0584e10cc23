use Rattle.std.proofs.Common.{◌≡◌, ◌∷◌, List, All, sym, ap, subst}
use Rattle.frame_store.specs.declared.records.Record.{Record}
use Rattle.frame_store.specs.Entry.{entries}
use Rattle.frame_store.specs.Undo.{HasSlot, is_undo}
use Rattle.frame_store.proofs.EntryLemmas.{entry_of-turn_open}
use Rattle.frame_store.proofs.UndoLemmas.{AllHaveSlots-plain}
use Rattle.machine_tests.proofs.store.begin_turn.Goals as goal

pub returns : goal.returns
returns c =
    let r = c.numbered.result in
    let older = c.args.store.now.records in
    let regs = c.args.registers.now in
    let pushed : c.push.new.self.records ≡ r ∷ older = c.in_ok-push.ensures.pushed in
    let kept = AllHaveSlots-plain regs r older (ap is_undo (entry_of-turn_open r c.numbered.ensures.kind)) c.requires in
    subst (λ (rs : List Record). All (HasSlot regs) (entries rs)) (sym pushed) kept
