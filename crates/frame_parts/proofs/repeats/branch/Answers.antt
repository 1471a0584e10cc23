use Rattle.std.proofs.Common.{◌∙◌, arith}
use Rattle.frame_store.specs.Entry.{entry_in, entries}
use Rattle.frame_state.proofs.HeldStops.{held_stop, tells_stop}
use Rattle.frame_state.proofs.BranchTurns.{branch_inside, stop_at_branch, turn_last_branch, stop_at_branch_units}
use Rattle.frame_state.proofs.BranchTurns.{turn_next_branch}
use Rattle.frame_parts.proofs.PassTurns.{reaches_then, stops_then}
use Rattle.frame_parts.proofs.repeats.branch.Goals as goal

pub get-first-requires : goal.get-first-requires
get-first-requires g c = branch_inside (g.S.Searchable.searched c.args.on.now)
    (g.met.S.Searchable.sound c.args.on.now) c.args.at c.pass_branches-index.result c.pass_branches-index.new.spot
    (entries c.args.store.now.records) c.args.registers.now c.pass_branches-index.ensures.valid _
    c.branches_of-branches.ensures

pub returns-then-spot-eq0-clause-stop : goal.returns-then-spot-eq0-clause-stop
returns-then-spot-eq0-clause-stop g c = c.pass_branches-index.ensures.answer
    ∙ tells_stop c.pass_branches-index.new.spot _ _
    (stop_at_branch (g.S.Searchable.searched c.args.on.now) (g.met.S.Searchable.sound c.args.on.now) c.args.at
    c.pass_branches-index.result c.pass_branches-index.new.spot (entries c.args.store.now.records)
    c.args.registers.now c.pass_branches-index.ensures.valid _ c.branches_of-branches.ensures _ c.get-first.ensures
    c.if-spot-eq0.true)

pub returns-then-index-len-clause-on : goal.returns-then-index-len-clause-on
returns-then-index-len-clause-on g c =
    reaches_then (g.S.Searchable.searched c.args.on.now) _ _ _ c.pass_branches-index.ensures
    (rw (c.begin_branch.ensures.next, c.begin_branch.ensures.spot, c.is_behind-behind.ensures)
    (turn_last_branch (g.S.Searchable.searched c.args.on.now) (g.met.S.Searchable.sound c.args.on.now) c.args.at
    c.pass_branches-index.result c.pass_branches-index.new.spot (entries c.args.store.now.records)
    c.args.registers.now c.pass_branches-index.ensures.valid _ c.branches_of-branches.ensures _
    c.get-first.ensures (omega (arith, c.if-index-len.true, c.len.ensures))
    (omega (arith, c.if-spot-eq0.false))))

pub returns-in-Err-clause-stop : goal.returns-in-Err-clause-stop
returns-in-Err-clause-stop g c =
    stops_then _ _ _ _ _ c.pass_branches-index.ensures.answer
    (held_stop _ _ _ c.pass_branches-index.new.spot _ _ c.in-Err.ensures.last c.in-Err.stop c.in-Err.ensures.stop
    (λ h. stop_at_branch_units (g.S.Searchable.searched c.args.on.now) (g.met.S.Searchable.sound c.args.on.now)
    c.args.at c.pass_branches-index.result c.pass_branches-index.new.spot (entries c.args.store.now.records)
    c.args.registers.now c.pass_branches-index.ensures.valid _ c.branches_of-branches.ensures _
    c.get-first.ensures (omega (arith, c.if-index-len.false, c.len.ensures))
    (omega (arith, c.if-spot-eq0.false)) (omega (arith, h, c.unit_limit.ensures))))

pub returns-clause-on : goal.returns-clause-on
unfolding entry_in
returns-clause-on g c =
    reaches_then (g.S.Searchable.searched c.args.on.now) _ _ _ c.pass_branches-index.ensures
    (rw (
      c.begin_branch-2.ensures.next,
      c.begin_branch-2.ensures.spot,
      c.is_behind-behind.ensures,
      c.in_default.ensures.spot,
      c.in_default.ensures.pushed,
      c.record-record.ensures,
    )
    (turn_next_branch (g.S.Searchable.searched c.args.on.now) (g.met.S.Searchable.sound c.args.on.now) c.args.at
    c.pass_branches-index.result c.pass_branches-index.new.spot (entries c.args.store.now.records)
    c.args.registers.now c.pass_branches-index.ensures.valid _ c.branches_of-branches.ensures _
    c.get-first.ensures _ (omega arith) (omega (arith, c.if-index-len.false, c.len.ensures))
    (omega (arith, c.if-spot-eq0.false)) (omega (arith, c.in_default.ensures.room, c.unit_limit.ensures))))

pub branches_of-branches-requires-clause-inside : goal.branches_of-branches-requires-clause-inside
branches_of-branches-requires-clause-inside g c = c.pass_branches-index.ensures.valid.running.0

pub branches_of-branches-requires-clause-some : goal.branches_of-branches-requires-clause-some
branches_of-branches-requires-clause-some g c = c.pass_branches-index.ensures.valid.running.2.0
