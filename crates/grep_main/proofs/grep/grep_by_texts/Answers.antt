use Rattle.std.proofs.Common.{rules, ◌≡◌, w32, SFits, map, string_bytes, Ok, Err, sym, subst}
use Rattle.std.proofs.lemmas.Int.{to_z-of_z}
use Rattle.grep_core.specs.grep_match.Compiled.{BadPattern, patterns_in, patterns_of, IsPatternError}
use Rattle.grep_output.specs.Ends.{stop_of}
use Rattle.grep_main.specs.Refusals.{pattern_message}
use Rattle.grep_main.specs.Stages.{sought, SearchesFor, streams}
use Rattle.grep_core.proofs.Halting.{halts-of}
use Rattle.tool_io.specs.Printed.{printed}
use Rattle.tool_io.proofs.Printing.{wrote-of}
use Rattle.grep_main.proofs.Outcomes.{said-whole, said-halts}
use Rattle.grep_main.proofs.Asking.{for-lacks, for-refused, for-found}
use Rattle.grep_main.proofs.grep.grep_by_texts.Goals as goal

pub returns-in_err-write_bad_pattern-in-Err-Bad-clause-runs :
    goal.returns-in_err-write_bad_pattern-in-Err-Bad-clause-runs
returns-in_err-write_bad_pattern-in-Err-Bad-clause-runs g c =
    let bad : BadPattern = record {
      number = c.in-Err-Bad.pattern;
      fault = record { number = c.in-Err-Bad.number; at = c.in-Err-Bad.at };
    } in
    let found = patterns_of c.args.plan c.args.texts.now in
    let words = map string_bytes c.args.words.now in
    let fault = c.in_err-write_bad_pattern-in-Err-Bad.field-0.0 in
    let same : c.from_residual.result ≡ Err (stop_of fault) = search rules in
    let fits : SFits w32 c.in-Err-Bad.number = search rules in
    let files = g.F.FileSet.tells c.args.io.now.files.now in
    let now = g.S.Source.tells c.args.io.now.input.now in
    let out = g.O.Sink.tells c.args.io.now.out.now in
    let err_old = g.E.Sink.tells c.args.io.now.err.now in
    let err_new = g.E.Sink.tells c.write_bad_pattern.new.err in
    let halts = halts-of (pattern_message bad) err_old err_new fault
    (rw (
      c.in-Err-Bad.pattern-is,
      c.in-Err-Bad.number-is,
      c.in-Err-Bad.at-is,
      to_z-of_z w32 c.in-Err-Bad.number fits,
    ) at c.in_err-write_bad_pattern-in-Err-Bad.ensures) in
    subst (SearchesFor (sought c.args.plan found words) c.args.io.now.is_used
    (streams files now (printed out err_old)) (streams files now (printed out err_new))) (sym same)
    (for-refused c.args.plan found words c.args.io.now.is_used files files bad now (printed out err_old)
    (printed out err_new) (Err (stop_of fault))
    (subst (IsPatternError found) c.in-Err-Bad.field-0-is c.in-Err-Bad.ensures.refused)
    (said-halts (pattern_message bad) 2 out err_old err_new (stop_of fault) halts))

pub returns-in-Err-Bad-clause-runs : goal.returns-in-Err-Bad-clause-runs
returns-in-Err-Bad-clause-runs g c =
    let bad : BadPattern = record {
      number = c.in-Err-Bad.pattern;
      fault = record { number = c.in-Err-Bad.number; at = c.in-Err-Bad.at };
    } in
    let found = patterns_of c.args.plan c.args.texts.now in
    let fits : SFits w32 c.in-Err-Bad.number = search rules in
    let files = g.F.FileSet.tells c.args.io.now.files.now in
    let out = g.O.Sink.tells c.args.io.now.out.now in
    let err_old = g.E.Sink.tells c.args.io.now.err.now in
    let err_new = g.E.Sink.tells c.write_bad_pattern.new.err in
    let wrote = wrote-of (pattern_message bad) err_old err_new c.in_ok-write_bad_pattern-in-Err-Bad.field-0
    (rw (
      c.in-Err-Bad.pattern-is,
      c.in-Err-Bad.number-is,
      c.in-Err-Bad.at-is,
      to_z-of_z w32 c.in-Err-Bad.number fits,
    ) at c.in_ok-write_bad_pattern-in-Err-Bad.ensures) in
    for-refused c.args.plan found (map string_bytes c.args.words.now) c.args.io.now.is_used files files bad
    (g.S.Source.tells c.args.io.now.input.now) (printed out err_old) (printed out err_new) (Ok 2)
    (subst (IsPatternError found) c.in-Err-Bad.field-0-is c.in-Err-Bad.ensures.refused)
    (said-whole (pattern_message bad) 2 out err_old err_new wrote)

pub returns-in-Err-Memory-clause-runs : goal.returns-in-Err-Memory-clause-runs
returns-in-Err-Memory-clause-runs g c =
    let files = g.F.FileSet.tells c.args.io.now.files.now in
    for-lacks c.args.plan (patterns_of c.args.plan c.args.texts.now) (map string_bytes c.args.words.now)
    c.args.io.now.is_used files files (g.S.Source.tells c.args.io.now.input.now)
    (g.O.Sink.tells c.args.io.now.out.now) (g.E.Sink.tells c.args.io.now.err.now)

pub returns-clause-runs : goal.returns-clause-runs
returns-clause-runs g c =
    let files = g.F.FileSet.tells c.args.io.now.files.now in
    let files_new = g.F.FileSet.tells c.grep_by_patterns.new.io.files.now in
    let before = g.S.Source.tells c.args.io.now.input.now in
    let after = g.S.Source.tells c.grep_by_patterns.new.io.input.now in
    let old = printed (g.O.Sink.tells c.args.io.now.out.now) (g.E.Sink.tells c.args.io.now.err.now) in
    let new = printed (g.O.Sink.tells c.grep_by_patterns.new.io.out.now)
    (g.E.Sink.tells c.grep_by_patterns.new.io.err.now) in
    for-found c.args.plan (patterns_of c.args.plan c.args.texts.now) (patterns_in c.in-Ok.patterns)
    (map string_bytes c.args.words.now) c.args.io.now.is_used (streams files before old)
    (streams files_new after new) c.grep_by_patterns.result
    c.in-Ok.ensures.built c.grep_by_patterns.ensures.runs
