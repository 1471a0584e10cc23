use Rattle.std.proofs.Common.{arith}
use Rattle.pat_save.specs.ReadImage.{record_at, records_at}
use Rattle.pat_save.proofs.ImageForms.{records_start}
use Rattle.pat_save.proofs.Loops.{goes_on}
use Rattle.pat_save.proofs.reading.take_records.Goals as goal

pub loop-init : goal.loop-init
loop-init c =
    rw c.new-list.ensures (records_start c.args.bytes.now c.in_ok-count.count c.in_ok-count.rest.now
    c.in_ok-count.ensures
    (omega arith))

pub loop-preserved : goal.loop-preserved
loop-preserved c =
    rw c.in_ok-push.ensures.ok (goes_on (λ _. record_at) c.loop.list c.in_ok-count.count c.loop.counter c.loop.rest.now
    (records_at c.args.bytes.now) c.in_ok-saved.saved c.in_ok-saved.after.now c.loop-test.true c.in_ok-saved.ensures
    c.loop.invariant)
