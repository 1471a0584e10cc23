use Rattle.std.proofs.Common.{◌≡◌, [], Some, rules}
use Rattle.tool_io.specs.declared.target.Target.TheVariants as targets
use Rattle.tool_io.proofs.Absence.{absent-none, absent-there}
use Rattle.tool_io.proofs.Taking.{hears-any}
use Rattle.tool_io.specs.Printed.{printed}
use Rattle.test_main.specs.declared.words.Script.TheVariants.{Standard, File, Generated}
use Rattle.test_main.specs.Opens.{AreGiven}
use Rattle.test_main.proofs.Running.{unless-any, standard-asked, given_of, stands-standard, stands-file}
use Rattle.test_main.proofs.Running.{stands-generated, runs-script, runs-generated}
use Rattle.test_main.proofs.run.run_asked.Goals as goal

pub returns-in-Standard-clause-runs : goal.returns-in-Standard-clause-runs
returns-in-Standard-clause-runs g c =
    let words = c.args.asked.now in
    let r = c.run_source.ensures in
    let is : words.script ≡ Standard = search rules in (
      r.0,
      r.1,
      (
        given_of targets.Input (Some r.0),
        stands-standard (g.F.FileSet.tells c.args.files.now).contents r.0 words is,
        runs-script words Standard targets.Input (Some r.0)
            (printed (g.O.Sink.tells c.args.out.now) (g.E.Sink.tells c.args.err.now))
            (printed (g.O.Sink.tells c.run_source.new.out) (g.E.Sink.tells c.run_source.new.err)) c.run_source.result
            is r.2,
        absent-there (g.F.FileSet.tells c.args.files.now).contents (g.F.FileSet.tells c.args.files.now).faults
            (g.F.FileSet.tells c.args.files.now).faults targets.Input r.0,
        unless-any c.run_source.result (AreGiven g.F.Src.Source.tells (g.F.FileSet.tells c.args.files.now).contents
            (given_of targets.Input (Some r.0))) (tt, tt),
      ),
    )

pub returns-in-File-clause-runs : goal.returns-in-File-clause-runs
returns-in-File-clause-runs g c =
    let words = c.args.asked.now in
    let any = hears-any (g.S.Source.tells c.args.input.now) in
    let path = c.as_str.result.now in
    let r = c.run_file.ensures.runs in
    let is : words.script ≡ File path = search rules in (
      any.0,
      any.1,
      (
        given_of (targets.File path) r.0,
        stands-file (g.F.FileSet.tells c.args.files.now).contents any.0 words path r.0 is r.1,
        runs-script words (File path) (targets.File path) r.0
            (printed (g.O.Sink.tells c.args.out.now) (g.E.Sink.tells c.args.err.now))
            (printed (g.O.Sink.tells c.run_file.new.out) (g.E.Sink.tells c.run_file.new.err)) c.run_file.result is
            r.2,
        r.3,
        r.4,
      ),
    )

pub returns-in-Generated-clause-runs : goal.returns-in-Generated-clause-runs
returns-in-Generated-clause-runs g c =
    let words = c.args.asked.now in
    let any = hears-any (g.S.Source.tells c.args.input.now) in
    let n = c.in-Generated.lines in
    let is : words.script ≡ Generated n = search rules in (
      any.0,
      any.1,
      (
        [],
        stands-generated (g.F.FileSet.tells c.args.files.now).contents any.0 words n is,
        runs-generated words n (printed (g.O.Sink.tells c.args.out.now) (g.E.Sink.tells c.args.err.now))
            (printed (g.O.Sink.tells c.run_generated.new.out) (g.E.Sink.tells c.args.err.now)) c.run_generated.result
            is
            (c.run_generated.ensures (g.E.Sink.tells c.args.err.now)),
        absent-none (g.F.FileSet.tells c.args.files.now).contents (g.F.FileSet.tells c.args.files.now).faults
            (g.F.FileSet.tells c.args.files.now).faults,
        unless-any c.run_generated.result (AreGiven g.F.Src.Source.tells (g.F.FileSet.tells c.args.files.now).contents
            []) tt,
      ),
    )

pub returns-in-Standard-clause-unused : goal.returns-in-Standard-clause-unused
returns-in-Standard-clause-unused g c = λ none.
    let is : c.args.asked.now.script ≡ Standard = search rules in
    absurd (standard-asked c.args.asked.now is none)
