use Rattle.std.proofs.Common.{◌≡◌, ◌-◌, ◌∙◌, All, List, length, take, reverse, get_or, sym, ap, subst, arith}
use Rattle.std.proofs.lemmas.List.Elements.{All-head, All-tail}
use Rattle.frame_store.specs.declared.records.Record.{Record}
use Rattle.frame_store.specs.Entry.{Entry, entries, entry_of}
use Rattle.frame_store.specs.Undo.{undone, HasSlot}
use Rattle.frame_store.proofs.UndoLemmas.{undone-cons, undone-nil, length-taken_back, AllHaveSlots-same, entries-take}
use Rattle.frame_store.proofs.store.put_back.Goals as goal

-- what a read past the end would give
abbrev no_record : Record
no_record =
    record {
      kind = 0;
      slot = 0;
      node = 0;
      link = 0;
      mark = 0;
      passed = 0;
      units = 0;
      count = 0;
      place = 0;
      keep = 0;
      early = 0;
      from = 0;
      to = 0;
    }

pub put_back_one-requires : goal.put_back_one-requires
put_back_one-requires c =
    let next = entries-take c.records.i c.args.records.now no_record (omega arith) (omega arith) in
    All-head (HasSlot c.records.registers) _ _
    (subst (λ (es : List Entry). All (HasSlot c.records.registers) es) next c.records.invariant.slots)

pub records-preserved : goal.records-preserved
records-preserved c =
    let xs = c.args.records.now in
    let regs = c.records.registers in
    let e = entry_of (get_or xs (c.records.i - 1) no_record) in
    let next = entries-take c.records.i xs no_record (omega arith) (omega arith) in
    let rest = entries (reverse (take (c.records.i - 1) xs)) in
    let slots = All-tail (HasSlot regs) e rest
    (subst (λ (es : List Entry). All (HasSlot regs) es) next c.records.invariant.slots) in
    record {
      back =
          ap (undone rest) c.put_back_one.ensures ∙ sym (undone-cons e rest regs)
          ∙ ap (λ (es : List Entry). undone es regs) (sym next) ∙ c.records.invariant.back;
      slots = AllHaveSlots-same regs c.put_back_one.new.registers rest
          (ap length c.put_back_one.ensures ∙ length-taken_back e regs) slots;
    }

pub returns : goal.returns
returns c =
    let done : c.records.i ≡ 0 = omega arith in
    sym (undone-nil c.records.registers) ∙ rw done at c.records.invariant.back
