use Rattle.std.proofs.Common.{◌++◌, ◌∷◌, [], ap, arith, length-append}
use Rattle.pat_tree.specs.Parts.{DraftParts}
use Rattle.pat_save.specs.Reading.{counted_at}
use Rattle.pat_save.specs.ReadTables.{class_at}
use Rattle.pat_save.proofs.Loops.{goes_on}
use Rattle.pat_save.proofs.taken_tables.take_classes.Goals as goal

pub loop-preserved : goal.loop-preserved
loop-preserved c =
    let known = c.loop.draft.classes in
    rw c.in_ok-add_class.ensures.grows (record {
      so_far = goes_on (λ _. class_at c.args.utf) known c.in_ok-count.count c.loop.counter c.loop.rest.now
          (counted_at (λ _. class_at c.args.utf) c.args.bytes.now) c.in_ok-class.class c.in_ok-class.after.now
          c.loop-test.true c.in_ok-class.ensures c.loop.invariant.so_far;
      others = ap (λ (d : DraftParts). let e : DraftParts = record d
          { classes = known ++ c.in_ok-class.class ∷ [] } in e)
          c.loop.invariant.others;
      many = omega (arith, c.loop.invariant.many, length-append known (c.in_ok-class.class ∷ []));
    })
