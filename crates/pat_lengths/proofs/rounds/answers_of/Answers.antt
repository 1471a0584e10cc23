use Rattle.std.proofs.Common.{◌≡◌, ◌∙◌, suc, sym, subst, arith}
use Rattle.pat_tree.specs.Parts.{tree_of}
use Rattle.pat_lengths.specs.Rounds.{AreRounds}
use Rattle.pat_lengths.proofs.KeepLemmas.{held}
use Rattle.pat_lengths.proofs.RoundLemmas.{before_all, same_flags}
use Rattle.pat_lengths.proofs.rounds.answers_of.Goals as goal

pub loop-init : goal.loop-init
loop-init c = c.in_ok-of.ensures.further 0 (before_all c.args.question (tree_of c.args.tree.now))

pub returns-then-eq : goal.returns-then-eq
returns-then-eq c =
    let whole = tree_of c.args.tree.now in
    let q = c.args.question in
    let of = c.loop.of.items in
    let same : c.in_ok-next.next.items ≡ of = sym c.as_slice.ensures.value
    ∙ same_flags c.as_slice.result.now c.as_slice-in-loop.result.now (sym c.eq.ensures ∙ c.if-eq.true)
    ∙ c.as_slice-in-loop.ensures.value in
    let next = rw c.deref-in-loop-2.ensures.value at c.in_ok-next.ensures.further in
    held (λ d. AreRounds q whole d of) (λ d h. subst (AreRounds q whole (suc d)) same (next d h)) (suc c.loop.counter)
    (suc c.args.groups.now.count) (omega (arith, c.loop-test.true)) c.loop.invariant
