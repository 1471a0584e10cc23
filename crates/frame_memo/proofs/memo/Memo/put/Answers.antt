use Rattle.std.proofs.Common.{◌≡◌, ◌∷◌, List, All, length, ap, sym, subst, arith}
use Rattle.std.specs.List.{Contains}
use Rattle.std.proofs.lemmas.List.{take_at}
use Rattle.frame_memo.specs.declared.failure.Failure.{Failure}
use Rattle.frame_memo.specs.declared.slots.Slot.{Slot}
use Rattle.frame_memo.specs.Slots.{kept}
use Rattle.frame_memo.specs.Table.{Table}
use Rattle.frame_memo.proofs.KeptLemmas.{All-older, All-joined}
use Rattle.frame_memo.proofs.memo.Memo.put.Goals as goal

pub returns-then-self-eq0-clause-no_other : goal.returns-then-self-eq0-clause-no_other
returns-then-self-eq0-clause-no_other c = All-older c.args.failure c.args.self.now.kept

pub returns-clause-no_other : goal.returns-clause-no_other
returns-clause-no_other c =
    let f = c.args.failure in
    let roomy = c.make_room-self-inside.new.slots.items in
    let view : kept c.self.inside.slots.items ≡ c.args.self.now.kept = ap (λ (t : Table). t.kept) c.self.view_is in
    let older : All (Contains c.args.self.now.kept) (kept roomy) =
    rw (← view) c.make_room-self-inside.ensures.no_other in
    let stored : All (Contains (f ∷ kept roomy)) (kept c.store-took.new.slots) =
    rw (← c.as_mut_slice.ensures.value) c.store-took.ensures.no_other in
    subst (λ (slots : List Slot). All (Contains (f ∷ c.args.self.now.kept)) (kept slots))
    (sym (take_at c.store-took.new.slots _ _ (omega arith)))
    (All-joined f c.args.self.now.kept (kept roomy) (kept c.store-took.new.slots) older stored)

pub returns-clause-stored : goal.returns-clause-stored
returns-clause-stored c = λ _.
    subst (λ (slots : List Slot). Contains (kept slots) c.args.failure)
    (sym (take_at c.store-took.new.slots _ _ (omega arith))) c.store-took.ensures.stored
