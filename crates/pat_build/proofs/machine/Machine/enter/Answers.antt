use Rattle.std.proofs.Common.{arith}
use Rattle.pat_build.proofs.Nesting.{enter_means}
use Rattle.pat_build.proofs.machine.Machine.enter.Goals as goal

pub give-requires-clause-room : goal.give-requires-clause-room
give-requires-clause-room c =
    let means = c.requires.ready.1.means in
    omega (arith, means.names, means.within, means.short)

pub returns : goal.returns
returns c =
    let m = c.args.self.now in
    let ready = c.requires.ready.1 in
    rw (
      c.in_ok-give.ensures,
      c.is_looking-looking.ensures,
      c.bars_in-bars.ensures,
      c.replace-outer.ensures.after,
      c.new.ensures,
      c.new-2.ensures,
    )
    (enter_means m ready.means c.requires.ready.0 c.args.form c.replace-outer.result c.push_frame.new.stack
    c.args.given c.args.inside ready c.requires.tests_none c.replace-outer.ensures.value
    c.in_ok-push_frame.ensures
    c.requires.shallow c.requires.numbered c.requires.gives c.requires.ready.2)
