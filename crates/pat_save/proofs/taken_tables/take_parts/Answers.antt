use Rattle.pat_save.specs.Reading.{counted_at}
use Rattle.pat_save.specs.ReadTables.{part_at}
use Rattle.pat_save.proofs.Loops.{goes_on, starts}
use Rattle.pat_save.proofs.taken_tables.take_parts.Goals as goal

pub loop-init : goal.loop-init
loop-init c =
    rw c.new-parts.ensures.items (starts (λ _. part_at c.args.utf) c.args.bytes.now c.in_ok-count.count
    c.in_ok-count.rest.now c.in_ok-count.ensures)

pub loop-preserved : goal.loop-preserved
loop-preserved c =
    rw c.in_ok-push.ensures.items (goes_on (λ _. part_at c.args.utf) c.loop.parts.items c.in_ok-count.count
    c.loop.counter
    c.loop.rest.now (counted_at (λ _. part_at c.args.utf) c.args.bytes.now) c.in_ok-part.part c.in_ok-part.after.now
    c.loop-test.true c.in_ok-part.ensures c.loop.invariant)
