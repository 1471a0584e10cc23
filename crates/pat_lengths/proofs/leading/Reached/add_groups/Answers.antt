use Rattle.std.proofs.Common.{◌<◌, All, length, sym, subst, arith}
use Rattle.pat_tree.specs.Rules.{number_in}
use Rattle.pat_lengths.specs.Leading.{Grows}
use Rattle.pat_lengths.proofs.LeadingLemmas.{grows_placed, placed_all}
use Rattle.pat_lengths.proofs.leading.Reached.add_groups.Goals as goal

pub add_if-requires : goal.add_if-requires
add_if-requires c =
    let i = c.loop-number.number-index in
    let within : i < length c.args.numbers.now = omega arith in
    let count = length c.args.self.now.seen.items in
    subst (λ n. All (λ k. k < n) (number_in c.place.result)) (sym c.loop-number.invariant.size)
    (subst (λ o. All (λ k. k < count) (number_in o)) (sym c.place.ensures)
    (placed_all (λ k. k < count) c.args.groups.now.places.items c.args.numbers.now i 0 within c.requires))

pub loop-number-preserved : goal.loop-number-preserved
loop-number-preserved c =
    let i = c.loop-number.number-index in
    let within : i < length c.args.numbers.now = omega arith in
    grows_placed _ _ _ c.args.groups.now.places.items c.args.numbers.now i 0 within c.loop-number.invariant
    (subst (λ o. Grows c.loop-number.self c.add_if.new.self (number_in o)) c.place.ensures c.in_ok-add_if.ensures)
