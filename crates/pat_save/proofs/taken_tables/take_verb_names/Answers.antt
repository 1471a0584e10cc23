use Rattle.std.proofs.Common.{◌++◌, ◌∷◌, [], ap, arith, length-append}
use Rattle.pat_tree.specs.Parts.{DraftParts}
use Rattle.pat_save.specs.Reading.{counted_at}
use Rattle.pat_save.specs.ReadTables.{verb_name_at}
use Rattle.pat_save.proofs.Loops.{goes_on}
use Rattle.pat_save.proofs.taken_tables.take_verb_names.Goals as goal

pub loop-preserved : goal.loop-preserved
loop-preserved c =
    let known = c.loop.draft.verb_names in
    rw c.in_ok-add_verb_name.ensures.grows (record {
      so_far = goes_on (λ _. verb_name_at c.args.utf) known c.in_ok-count.count c.loop.counter c.loop.rest.now
          (counted_at (λ _. verb_name_at c.args.utf) c.args.bytes.now) c.in_ok-name.name.now c.in_ok-name.after.now
          c.loop-test.true c.in_ok-name.ensures c.loop.invariant.so_far;
      others = ap (λ (d : DraftParts). let e : DraftParts = record d
          { verb_names = known ++ c.in_ok-name.name.now ∷ [] } in e)
          c.loop.invariant.others;
      many = omega (arith, c.loop.invariant.many, length-append known (c.in_ok-name.name.now ∷ []));
    })
