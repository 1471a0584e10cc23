use Rattle.std.proofs.Common.{◌≡◌, ◌<◌, ◌≤◌, length, get_or, inl, inr, sym, subst, List, All, rules, arith}
use Rattle.std.specs.List.{Contains}
use Rattle.std.proofs.lemmas.Bool.{cases_lt}
use Rattle.std.proofs.lemmas.List.{take_at}
use Rattle.std.proofs.lemmas.List.Elements.{All-contains_itself}
use Rattle.frame_memo.specs.declared.slots.Slot.{Slot}
use Rattle.frame_memo.specs.Slots.{blank, kept}
use Rattle.frame_memo.proofs.KeptLemmas.{IsUsed, All-through, All-resized}
use Rattle.frame_memo.proofs.slots.grow.Goals as goal

pub returns-then-is_err-clause-no_other : goal.returns-then-is_err-clause-no_other
returns-then-is_err-clause-no_other c =
    let same : c.resize.new.self.items ≡ c.args.slots.now.items = search rules in
    rw same (All-contains_itself (kept c.args.slots.now.items))

pub returns-clause-no_other : goal.returns-clause-no_other
returns-clause-no_other c =
    let old = c.args.slots.now.items in
    let more = c.resize.new.self.items in
    let resized : All (Contains (kept old)) (kept more) =
    All-resized old more (λ k l (u : IsUsed more k).
    elim (cases_lt k (length old)) as (λ _. (k < length old) × (get_or more k blank ≡ get_or old k blank)) [
      | inl below ↦ (below, search rules)
      | inr past ↦
          let free : get_or more k blank ≡ blank = search rules in
          absurd (let t = rw free at u in cc)
    ]) in
    let moved : All (Contains (kept more)) (kept c.move_home.new.slots) =
    rw (← c.as_mut_slice.ensures.value) c.move_home.ensures.no_other in
    subst (λ (slots : List Slot). All (Contains (kept old)) (kept slots))
    (sym (take_at c.move_home.new.slots _ _ (omega arith))) (All-through _ _ _ resized moved)
