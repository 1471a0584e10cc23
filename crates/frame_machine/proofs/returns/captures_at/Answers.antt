use Rattle.std.proofs.Common.{◌∙◌, length, sym, ap}
use Rattle.std.proofs.lemmas.Bool.{eqb-true}
use Rattle.frame_store.specs.Entry.{entries}
use Rattle.frame_store.specs.Stack.{past}
use Rattle.frame_store.specs.Undo.{undone}
use Rattle.frame_machine.proofs.Restores.{none_undone}
use Rattle.frame_machine.proofs.returns.captures_at.Goals as goal

pub give_back-requires-clause-slots : goal.give_back-requires-clause-slots
give_back-requires-clause-slots c = rw c.copy_from_slice.ensures.after c.requires.slots

pub returns-then-is_empty-clause-taken : goal.returns-then-is_empty-clause-taken
returns-then-is_empty-clause-taken c =
    c.copy_from_slice.ensures.after
    ∙ none_undone (past c.args.height (entries c.args.store.now.records)) c.args.registers.now
    (eqb-true (length c.args.registers.now) 0 (sym c.if-is_empty.ensures))

pub returns-clause-taken : goal.returns-clause-taken
returns-clause-taken c = c.give_back.ensures.back
    ∙ ap (undone (past c.args.height (entries c.args.store.now.records))) c.copy_from_slice.ensures.after
