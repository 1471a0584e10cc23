use Rattle.std.proofs.Common.{◌≡◌, ◌∙◌, ◌+◌, ◌∷◌, ◌++◌, [], false, ap, sym, subst, length, length-append}
use Rattle.pat_tree.specs.Nested.{trees, tree_at}
use Rattle.pat_lengths.specs.Passing.{flagged}
use Rattle.pat_lengths.specs.Rounds.{KeepAnswers, answer}
use Rattle.pat_lengths.proofs.KeepLemmas.{keep_more}
use Rattle.pat_lengths.proofs.rounds.node_answers.Goals as goal

pub loop-id-preserved : goal.loop-id-preserved
loop-id-preserved c =
    let q = c.args.question in
    let of = c.args.of.now in
    let ts = trees c.args.tree.now.nodes in
    let old = c.loop-id.answers.items in
    let x = c.node_answer-answer.result in
    let items : c.push.new.self.items ≡ old ++ x ∷ [] = c.in_ok-push.ensures.items in
    let count : length old ≡ c.loop-id.id = c.loop-id.invariant.0 in (
      ap length items ∙ length-append old (x ∷ []) ∙ ap (λ n. n + 1) count,
      subst (KeepAnswers q of ts) (sym items) (keep_more (λ k b. b ≡ answer q (flagged of) (tree_at ts k)) old x false
          c.loop-id.invariant.1
          (rw (count, ← c.node.ensures.is) (rw c.deref.ensures.value at
          (c.node_answer-answer.ensures ts c.node.ensures.rules.test) c.loop-id.invariant.1))),
    )
