use Rattle.std.proofs.Common.{map, string_bytes, refl}
use Rattle.tool_io.specs.Printed.{printed}
use Rattle.grep_main.specs.ToolText.{text_of}
use Rattle.grep_main.proofs.Saying.{runs-whole, runs-many, runs-lacked, runs-refused}
use Rattle.grep_main.proofs.status.run_grep.Goals as goal

pub returns-in-Ok-clause-text : goal.returns-in-Ok-clause-text
returns-in-Ok-clause-text g c =
    let runs = c.in-Ok.ensures.runs in
    let given = runs.2.2.0 in (
      runs.0,
      runs.1,
      (
        runs.2.0,
        runs.2.1,
        (
          given,
          runs.2.2.1,
          runs-whole (map string_bytes c.args.words.now) given c.in-Ok.status (g.O.Sink.tells c.args.out.now)
              (g.O.Sink.tells c.grep.new.out) (g.E.Sink.tells c.args.err.now) (g.E.Sink.tells c.grep.new.err)
              runs.2.2.2,
          record { absent = runs.2.2.3.absent; leaves = λ other. runs.2.2.3.leaves },
          runs.2.2.4,
        ),
      ),
    )

pub returns-in-Err-Memory-clause-text : goal.returns-in-Err-Memory-clause-text
returns-in-Err-Memory-clause-text g c =
    let words = map string_bytes c.args.words.now in
    let runs = rw c.in-Err-Memory.field-0-is at c.in-Err-Memory.ensures.runs in
    let given = runs.2.2.0 in
    let old = printed (g.O.Sink.tells c.args.out.now) (g.E.Sink.tells c.args.err.now) in
    let new = printed (g.O.Sink.tells c.grep.new.out) (g.E.Sink.tells c.grep.new.err) in (
      runs.0,
      runs.1,
      (
        runs.2.0,
        runs.2.1,
        (
          given,
          runs.2.2.1,
          runs-lacked (text_of words given) old new runs.2.2.2,
          record { absent = runs.2.2.3.absent; leaves = λ other. absurd (other refl) },
          runs.2.2.4,
        ),
      ),
    )

pub returns-in-Err-SinkFault-clause-text : goal.returns-in-Err-SinkFault-clause-text
returns-in-Err-SinkFault-clause-text g c =
    let words = map string_bytes c.args.words.now in
    let runs = rw c.in-Err-SinkFault.field-0-is at c.in-Err-SinkFault.ensures.runs in
    let given = runs.2.2.0 in
    let old = printed (g.O.Sink.tells c.args.out.now) (g.E.Sink.tells c.args.err.now) in
    let new = printed (g.O.Sink.tells c.grep.new.out) (g.E.Sink.tells c.grep.new.err) in (
      runs.0,
      runs.1,
      (
        runs.2.0,
        runs.2.1,
        (
          given,
          runs.2.2.1,
          runs-refused (text_of words given) old new runs.2.2.2,
          record { absent = runs.2.2.3.absent; leaves = λ other. runs.2.2.3.leaves },
          runs.2.2.4,
        ),
      ),
    )

pub returns-in-Err-TooManyErrors-clause-text : goal.returns-in-Err-TooManyErrors-clause-text
returns-in-Err-TooManyErrors-clause-text g c =
    let words = map string_bytes c.args.words.now in
    let runs = rw c.in-Err-TooManyErrors.field-0-is at c.in-Err-TooManyErrors.ensures.runs in
    let given = runs.2.2.0 in
    let old = printed (g.O.Sink.tells c.args.out.now) (g.E.Sink.tells c.args.err.now) in
    let new = printed (g.O.Sink.tells c.grep.new.out) (g.E.Sink.tells c.grep.new.err) in (
      runs.0,
      runs.1,
      (
        runs.2.0,
        runs.2.1,
        (
          given,
          runs.2.2.1,
          runs-many (text_of words given) old new runs.2.2.2,
          record { absent = runs.2.2.3.absent; leaves = λ other. runs.2.2.3.leaves },
          runs.2.2.4,
        ),
      ),
    )
