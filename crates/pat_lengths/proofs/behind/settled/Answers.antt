use Rattle.std.proofs.Common.{◌≡◌, ◌∙◌, ◌||◌, suc, ◌+◌, ap, sym, subst, arith}
use Rattle.pat_tree.specs.Parts.{tree_of}
use Rattle.pat_lengths.specs.Lengths.{behind}
use Rattle.pat_lengths.specs.Nodes.{captures, has_shared_number}
use Rattle.pat_lengths.specs.Spans.{AreBehind, span_at}
use Rattle.pat_lengths.proofs.KeepLemmas.{held}
use Rattle.pat_lengths.proofs.SettleLemmas.{settled_all}
use Rattle.pat_lengths.proofs.SpanLemmas.{none_before}
use Rattle.pat_lengths.proofs.behind.settled.Goals as goal

pub loop-init : goal.loop-init
loop-init c =
    let t = c.args.tree.now in
    c.in_ok-of.ensures.further 0 (none_before t.options.match_unset_backref (tree_of t) c.args.any
    (c.requires.any ∙ ap (λ b. t.options.match_unset_backref || b) c.requires.table.shared))

pub loop-preserved : goal.loop-preserved
loop-preserved c =
    let next = rw c.deref-in-loop.ensures.value at c.in_ok-next.ensures.further in
    let one : suc c.loop.counter ≡ c.loop.counter + 1 = omega arith in
    subst (λ k. AreBehind c.args.tree.now c.args.any (suc k) c.in_ok-next.next.items) one
    (next (suc c.loop.counter) c.loop.invariant)

pub returns-then-are_same : goal.returns-then-are_same
returns-then-are_same c =
    let t = c.args.tree.now in
    let unset = t.options.match_unset_backref in
    let whole = tree_of t in
    let any = c.args.any in
    let is : any ≡ (unset || has_shared_number whole) = c.requires.any ∙ ap (λ b. unset || b) c.requires.table.shared in
    let same : c.in_ok-after.after.items ≡ c.in_ok-found.found.items = sym c.deref-2.ensures.value
    ∙ c.are_same.ensures c.if-are_same.true ∙ c.deref-3.ensures.value in
    let told = rw c.deref.ensures.value at c.in_ok-after.ensures in
    subst (λ n. AreBehind t any (suc n) c.in_ok-found.found.items) (sym c.requires.table.count)
    (record {
      any_is = is;
      each = settled_all whole unset c.in_ok-found.found.items
          (λ n h. ap (λ xs. span_at xs n) (sym same) ∙ told.back n h)
          (λ n names. ap (λ xs. span_at xs n) (sym same)
          ∙ told.round is (behind unset whole (suc (captures whole))) n names);
    })

pub returns-then-are_same-2 : goal.returns-then-are_same-2
returns-then-are_same-2 c =
    let t = c.args.tree.now in
    let any = c.args.any in
    let next = rw c.deref-in-loop.ensures.value at c.in_ok-next.ensures.further in
    let same : c.in_ok-next.next.items ≡ c.loop.of.items = sym c.deref-in-loop-2.ensures.value
    ∙ c.are_same-in-loop.ensures c.if-are_same-2.true ∙ c.deref-in-loop-3.ensures.value in
    held (λ d. AreBehind t any d c.loop.of.items) (λ d h. subst (AreBehind t any (suc d)) same (next d h))
    (suc c.loop.counter) (suc c.args.groups.now.count) (omega (arith, c.loop-test.true)) c.loop.invariant
