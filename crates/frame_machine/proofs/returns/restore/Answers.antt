use Rattle.std.proofs.Common.{◌≤◌, ◌∙◌, ap, arith, length}
use Rattle.frame_store.specs.Entry.{entries}
use Rattle.frame_state.specs.declared.machine.Spot.{Spot}
use Rattle.frame_machine.proofs.Restores.{none_restored, none_held, step_restored, step_spot, step_few, stop_restored}
use Rattle.frame_machine.proofs.returns.restore.Goals as goal

pub groups-init : goal.groups-init
groups-init c =
    let few : length c.args.registers.now ≤ c.count-group.result =
    omega (arith, c.count-group.ensures, c.requires.same) in
    let all : length c.args.entry.now ≤ c.count-group.result = omega (arith, c.count-group.ensures) in
    record {
      restored = none_restored c.args.frame.now.link c.args.frame.now.node c.args.registers.now c.args.entry.now
          c.count-group.result (entries c.args.store.now.records) few all;
      spot = none_held c.args.registers.now c.args.entry.now c.count-group.result c.args.spot.now few;
      few = c.requires.few;
      within = omega (arith, c.count-group.ensures);
      peak = omega arith;
      no_less = omega arith;
    }

pub returns-in-Err-clause-stop : goal.returns-in-Err-clause-stop
returns-in-Err-clause-stop c =
    stop_restored c.args.frame.now.link c.args.frame.now.node c.args.registers.now c.args.entry.now c.groups.registers
    c.groups.group (omega arith) c.requires.same c.groups.invariant.within (entries c.args.store.now.records)
    (entries c.groups.store.records) c.groups.invariant.restored
    c.args.spot.now c.groups.spot c.args.spot.now c.groups.invariant.spot c.args.limit c.in-Err.stop
    (rw (c.captured-value.ensures, c.from.ensures) at c.in-Err.ensures.differs) c.in-Err.ensures.stop

pub groups-preserved : goal.groups-preserved
groups-preserved c =
    let set = rw (c.captured-value.ensures, c.from.ensures) at c.in_default.ensures.set in
    let kept = rw (c.captured-value.ensures, c.from.ensures) at c.in_default.ensures.kept in
    let room = rw (c.captured-value.ensures, c.from.ensures) at c.in_default.ensures.room in
    let spot = rw (c.captured-value.ensures, c.from.ensures) at c.in_default.ensures.spot in
    let pushed = rw (c.captured-value.ensures, c.from.ensures) at c.in_default.ensures.pushed in
    record {
      restored = step_restored c.args.frame.now.link c.args.frame.now.node c.args.registers.now c.args.entry.now
          c.groups.registers c.groups.group (omega arith) c.requires.same c.groups.invariant.within
          (entries c.args.store.now.records) (entries c.groups.store.records) c.groups.invariant.restored _ _ set
          (λ e. ap entries (kept e).1) pushed;
      spot = step_spot c.args.frame.now.link c.args.frame.now.node c.args.registers.now c.args.entry.now
          c.groups.registers c.groups.group (omega arith) c.requires.same c.groups.invariant.within
          (entries c.args.store.now.records) (entries c.groups.store.records) c.groups.invariant.restored
          c.args.spot.now c.groups.spot _ c.groups.invariant.spot c.args.limit (λ e. (kept e).0) spot;
      few = step_few c.args.frame.now.link c.args.frame.now.node c.args.registers.now c.args.entry.now
          c.groups.registers c.groups.group (omega arith) c.requires.same c.groups.invariant.within
          (entries c.args.store.now.records) (entries c.groups.store.records) c.groups.invariant.restored
          c.args.spot.now c.groups.spot _ c.groups.invariant.spot c.args.limit c.groups.invariant.few
          (λ e. (kept e).0) spot room;
      within = omega (arith, c.groups.invariant.within);
      peak = omega (arith, c.groups.invariant.peak, c.in_default.ensures.peak);
      no_less = omega (arith, c.groups.invariant.no_less, c.in_default.ensures.no_less);
    }

pub returns-in-Err-clause-last : goal.returns-in-Err-clause-last
returns-in-Err-clause-last c = c.in-Err.ensures.last ∙ ap (λ (x : Spot). x.last) c.groups.invariant.spot

pub returns-clause-last : goal.returns-clause-last
returns-clause-last c = ap (λ (x : Spot). x.last) c.groups.invariant.spot
