use Rattle.std.proofs.Common.{ap, arith, ◌∙◌}
use Rattle.std.proofs.lemmas.Result.{err_from_is_err_and}
use Rattle.pat_tree.specs.Parts.{DraftParts}
use Rattle.pat_save.specs.ReadImage.{nodes_at}
use Rattle.pat_save.specs.ReadNodes.{placed_after}
use Rattle.pat_save.proofs.Loops.{fails_with, goes_on_with}
use Rattle.pat_save.proofs.Piles.{rooted_fails}
use Rattle.pat_save.proofs.reading.take_nodes.Goals as goal

pub returns-in_err-rest-clause-gives : goal.returns-in_err-rest-clause-gives
returns-in_err-rest-clause-gives c =
    let p = err_from_is_err_and c.from_residual-in_err-rest.result c.from_residual-in_err-rest.ensures.1 in
    rw (p.1, p.2) (rooted_fails c.args.around c.args.text.now c.args.bytes.now c.in_err-rest.field-0.0
    (fails_with (placed_after c.args.around c.args.text.now) c.loop.growing.draft.nodes c.in_ok-count.count
    c.loop.counter
    c.loop.rest.now (nodes_at c.args.around c.args.text.now c.args.bytes.now) c.in_err-rest.field-0.0 c.loop-test.true
    c.in_err-rest.ensures.gives c.loop.invariant.so_far))

pub loop-preserved : goal.loop-preserved
loop-preserved c = record {
  so_far = goes_on_with (placed_after c.args.around c.args.text.now) c.loop.growing.draft.nodes c.in_ok-count.count
      c.loop.counter c.loop.rest.now (nodes_at c.args.around c.args.text.now c.args.bytes.now)
      c.take_placed.new.growing.draft.nodes c.in_ok-rest.rest.now c.loop-test.true c.in_ok-rest.ensures.gives
      c.loop.invariant.so_far;
  grown = c.in_ok-rest.ensures.grown;
  others = c.in_ok-rest.ensures.others
      ∙ ap (λ (d : DraftParts). let e : DraftParts = record d { nodes = c.take_placed.new.growing.draft.nodes } in e)
      c.loop.invariant.others;
  many = omega (arith, c.in_ok-rest.ensures.more, c.loop.invariant.many);
}
