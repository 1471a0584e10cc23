use Rattle.std.proofs.Common.{arith}
use Rattle.pat_build.specs.Machine.{state_of, known_of}
use Rattle.pat_build.proofs.Steps.{quiet_token}
use Rattle.pat_grammar.proofs.Items.{passed_no_item}
use Rattle.pat_build.proofs.Passing.{passed_begins}
use Rattle.pat_build.proofs.machine.Machine.passed.Goals as goal

pub nothing-requires : goal.nothing-requires
nothing-requires c =
    let m = c.args.self.now in
    let there = c.requires.next in (
      c.args.token,
      record {
        means = c.requires.means;
        idle = c.in-None.is;
        there = there;
        room = omega (arith, c.requires.room);
        quiet = quiet_token (known_of m) m.text.now (state_of m) c.args.token c.args.after there.token_is m.calling
            (passed_no_item c.args.token _ _ c.requires.passed);
      },
      λ n h. passed_begins (known_of m) m.text.now n (state_of m) c.args.token _ _ c.requires.passed,
    )
