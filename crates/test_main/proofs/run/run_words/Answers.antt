use Rattle.std.proofs.Common.{◌≡◌, map, string_bytes, codes, Some, Ok, Err, sym, subst, arith, rules}
use Rattle.tool_io.specs.Printed.{printed}
use Rattle.test_main.specs.Words.{Refuses, words_of}
use Rattle.test_main.proofs.Running.{FoundOf, unused-read, found-read, found-refused, found-lacks, said-whole}
use Rattle.test_main.proofs.Running.{said-part}
use Rattle.test_main.proofs.run.run_words.Goals as goal

pub returns-in-Ok-clause-runs : goal.returns-in-Ok-clause-runs
returns-in-Ok-clause-runs g c =
    found-read g.F.Src.Source.tells (g.S.Source.tells c.args.input.now) (g.S.Source.tells c.run_asked.new.input)
    (g.F.FileSet.tells c.args.files.now).contents (g.F.FileSet.tells c.args.files.now).faults
    (g.F.FileSet.tells c.run_asked.new.files).faults (map string_bytes c.args.words.now) (Some c.in-Ok.asked)
    (printed (g.O.Sink.tells c.args.out.now) (g.E.Sink.tells c.args.err.now))
    (printed (g.O.Sink.tells c.run_asked.new.out) (g.E.Sink.tells c.run_asked.new.err)) c.run_asked.result
    c.in-Ok.ensures.read c.run_asked.ensures.runs

pub returns-in_ok-write_texts-in-Err-Refused-clause-runs : goal.returns-in_ok-write_texts-in-Err-Refused-clause-runs
returns-in_ok-write_texts-in-Err-Refused-clause-runs g c =
    let words = map string_bytes c.args.words.now in
    let out = g.O.Sink.tells c.args.out.now in
    let err = g.E.Sink.tells c.args.err.now in
    let err_new = g.E.Sink.tells c.write_texts.new.out in
    found-refused g.F.Src.Source.tells (g.S.Source.tells c.args.input.now)
    (g.F.FileSet.tells c.args.files.now).contents (g.F.FileSet.tells c.args.files.now).faults
    (g.F.FileSet.tells c.args.files.now).faults words (printed out err) (printed out err_new) (Ok 1)
    (subst (Refuses (words_of words)) c.in-Err-Refused.field-0-is c.in-Err-Refused.ensures.refused)
    (said-whole (codes "pcre2test: bad arguments") 1 (omega arith) out err err_new _
    c.in_ok-write_texts-in-Err-Refused.ensures)

pub returns-in_err-write_texts-in-Err-Refused-clause-runs : goal.returns-in_err-write_texts-in-Err-Refused-clause-runs
returns-in_err-write_texts-in-Err-Refused-clause-runs g c =
    let words = map string_bytes c.args.words.now in
    let out = g.O.Sink.tells c.args.out.now in
    let err = g.E.Sink.tells c.args.err.now in
    let err_new = g.E.Sink.tells c.write_texts.new.out in
    let e = c.in_err-write_texts-in-Err-Refused.field-0.0 in
    let same : c.from_residual.result ≡ Err e = search rules in
    let input = g.S.Source.tells c.args.input.now in
    let files = g.F.FileSet.tells c.args.files.now in
    subst (FoundOf g.F.Src.Source.tells input input files.contents files.faults files.faults words (printed out err)
    (printed out err_new)) (sym same)
    (found-refused g.F.Src.Source.tells input files.contents files.faults files.faults words (printed out err)
    (printed out err_new) (Err e)
    (subst (Refuses (words_of words)) c.in-Err-Refused.field-0-is c.in-Err-Refused.ensures.refused)
    (said-part (codes "pcre2test: bad arguments") 1 (omega arith) out err err_new e
    c.in_err-write_texts-in-Err-Refused.ensures))

pub returns-in-Err-Memory-clause-runs : goal.returns-in-Err-Memory-clause-runs
returns-in-Err-Memory-clause-runs g c =
    found-lacks g.F.Src.Source.tells (g.S.Source.tells c.args.input.now) (g.F.FileSet.tells c.args.files.now).contents
    (g.F.FileSet.tells c.args.files.now).faults (g.F.FileSet.tells c.args.files.now).faults
    (map string_bytes c.args.words.now) (printed (g.O.Sink.tells c.args.out.now) (g.E.Sink.tells c.args.err.now))

pub returns-in-Ok-clause-unused : goal.returns-in-Ok-clause-unused
returns-in-Ok-clause-unused g c = unused-read (map string_bytes c.args.words.now) (Some c.in-Ok.asked)
    (g.S.Source.tells c.run_asked.new.input ≡ g.S.Source.tells c.args.input.now) c.in-Ok.ensures.read
    c.run_asked.ensures.unused
