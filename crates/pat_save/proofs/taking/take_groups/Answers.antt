use Rattle.std.specs.Ordering.{nat_cmp}
use Rattle.pat_save.specs.Reading.{group_after, groups_at}
use Rattle.pat_save.proofs.Loops.{goes_on, starts}
use Rattle.pat_save.proofs.Sorting.{sorted_push}
use Rattle.pat_save.proofs.TableForms.{group_comes, none_rising}
use Rattle.pat_save.proofs.taking.take_groups.Goals as goal

pub loop-init : goal.loop-init
unfolding groups_at
loop-init c = rw c.new-groups.ensures.items (record {
  so_far = starts group_after c.args.bytes.now c.in_ok-count.count c.in_ok-count.rest.now c.in_ok-count.ensures;
  rising = none_rising;
})

pub loop-preserved : goal.loop-preserved
loop-preserved c =
    let group = c.in_ok-group.group in
    let known = c.loop.groups.items in
    let here = rw c.as_slice.ensures.value at c.in_ok-group.ensures in
    rw c.in_ok-push.ensures.items (record {
      so_far = goes_on group_after known c.in_ok-count.count c.loop.counter c.loop.rest.now (groups_at c.args.bytes.now)
          group c.in_ok-group.after.now c.loop-test.true here c.loop.invariant.so_far;
      rising = sorted_push nat_cmp known group c.loop.invariant.rising
          (group_comes known c.loop.rest.now group c.in_ok-group.after.now here);
    })
