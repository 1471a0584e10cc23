use Rattle.std.proofs.Common.{◌≡◌, ◌≢◌, ◌<◌, ◌/◌, ℕ, length, get_or, ap, sym, ◌∙◌, subst, arith}
use Rattle.std.specs.List.{Contains}
use Rattle.frame_memo.specs.declared.failure.Failure.{Failure}
use Rattle.frame_memo.specs.declared.failure.Key.{Key}
use Rattle.frame_memo.specs.declared.slots.Slot.{Slot}
use Rattle.frame_memo.specs.Slots.{blank, key_of, kept, home}
use Rattle.frame_memo.proofs.KeptLemmas.{IsUsed, Contains-kept, All-kept}
use Rattle.frame_memo.proofs.slots.find.Goals as goal

pub returns-then-has_key : goal.returns-then-has_key
returns-then-has_key c =
    let slots = c.args.slots.now in
    let i = c.ways.i in
    let s : Slot = get_or slots i blank in
    let within : i < length slots = omega (arith, c.home-base.ensures.within) in
    let yes = c.if-has_key.ensures.yes in
    subst (λ (k : Key). Contains (kept slots) (record { key = k; cost = record { steps = s.steps; most = s.most } }))
    yes.1 (Contains-kept slots i within yes.0)

pub returns : goal.returns
returns c =
    let slots = c.args.slots.now in
    let sets : ℕ = length slots / 4 in
    All-kept (λ (f : Failure). f.key ≢ c.args.key.now) slots
    (λ (i : ℕ) (l : i < length slots) (u : IsUsed slots i) (e : key_of (get_or slots i blank) ≡ c.args.key.now).
    let its_set : c.home-base.result ≡ i / 4 =
    c.home-base.ensures.is ∙ ap (λ (k : Key). home k sets) (sym e) ∙ c.requires.at_home i u in
    c.ways.invariant i (omega arith) (omega arith) u e)
