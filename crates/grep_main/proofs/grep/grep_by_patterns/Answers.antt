use Rattle.std.proofs.Common.{rules, ◌≡◌, w32, SFits, map, string_bytes, Ok, Err, sym, subst}
use Rattle.std.proofs.lemmas.Int.{to_z-of_z}
use Rattle.grep_targets.specs.Filters.{BadFilter, IsFilterError, filter_of}
use Rattle.grep_core.specs.grep_match.Compiled.{patterns_in}
use Rattle.grep_output.specs.Ends.{stop_of}
use Rattle.grep_main.specs.Refusals.{filter_message}
use Rattle.grep_main.specs.Stages.{sought, SearchesFor, streams}
use Rattle.grep_core.proofs.Halting.{halts-of}
use Rattle.tool_io.specs.Printed.{printed}
use Rattle.tool_io.proofs.Printing.{wrote-of}
use Rattle.grep_main.proofs.Outcomes.{said-whole, said-halts}
use Rattle.grep_main.proofs.Asking.{for-lacks, for-unfiltered}
use Rattle.grep_main.proofs.grep.grep_by_patterns.Goals as goal

pub returns-in_err-write_bad_filter-in-Err-Bad-clause-runs :
    goal.returns-in_err-write_bad_filter-in-Err-Bad-clause-runs
returns-in_err-write_bad_filter-in-Err-Bad-clause-runs g c =
    let bad : BadFilter = record {
      option = c.in-Err-Bad.option;
      index = c.in-Err-Bad.index;
      fault = record { number = c.in-Err-Bad.number; at = c.in-Err-Bad.at };
    } in
    let patterns = patterns_in c.args.patterns.now in
    let words = map string_bytes c.args.words.now in
    let fault = c.in_err-write_bad_filter-in-Err-Bad.field-0.0 in
    let same : c.from_residual.result ≡ Err (stop_of fault) = search rules in
    let fits : SFits w32 c.in-Err-Bad.number = search rules in
    let files = g.F.FileSet.tells c.args.io.now.files.now in
    let now = g.S.Source.tells c.args.io.now.input.now in
    let out = g.O.Sink.tells c.args.io.now.out.now in
    let err_old = g.E.Sink.tells c.args.io.now.err.now in
    let err_new = g.E.Sink.tells c.write_bad_filter.new.err in
    let halts = halts-of (filter_message bad) err_old err_new fault
    (rw (
      c.in-Err-Bad.option-is,
      c.in-Err-Bad.index-is,
      c.in-Err-Bad.number-is,
      c.in-Err-Bad.at-is,
      to_z-of_z w32 c.in-Err-Bad.number fits,
    ) at c.in_err-write_bad_filter-in-Err-Bad.ensures) in
    subst (SearchesFor (sought c.args.plan (Ok patterns) words) c.args.io.now.is_used
    (streams files now (printed out err_old)) (streams files now (printed out err_new))) (sym same)
    (for-unfiltered c.args.plan patterns words c.args.io.now.is_used files files bad now (printed out err_old)
    (printed out err_new) (Err (stop_of fault))
    (subst (IsFilterError (filter_of c.args.plan)) c.in-Err-Bad.field-0-is c.in-Err-Bad.ensures.refused)
    (said-halts (filter_message bad) 2 out err_old err_new (stop_of fault) halts))

pub returns-in-Err-Bad-clause-runs : goal.returns-in-Err-Bad-clause-runs
returns-in-Err-Bad-clause-runs g c =
    let bad : BadFilter = record {
      option = c.in-Err-Bad.option;
      index = c.in-Err-Bad.index;
      fault = record { number = c.in-Err-Bad.number; at = c.in-Err-Bad.at };
    } in
    let fits : SFits w32 c.in-Err-Bad.number = search rules in
    let files = g.F.FileSet.tells c.args.io.now.files.now in
    let out = g.O.Sink.tells c.args.io.now.out.now in
    let err_old = g.E.Sink.tells c.args.io.now.err.now in
    let err_new = g.E.Sink.tells c.write_bad_filter.new.err in
    let wrote = wrote-of (filter_message bad) err_old err_new c.in_ok-write_bad_filter-in-Err-Bad.field-0
    (rw (
      c.in-Err-Bad.option-is,
      c.in-Err-Bad.index-is,
      c.in-Err-Bad.number-is,
      c.in-Err-Bad.at-is,
      to_z-of_z w32 c.in-Err-Bad.number fits,
    ) at c.in_ok-write_bad_filter-in-Err-Bad.ensures) in
    for-unfiltered c.args.plan (patterns_in c.args.patterns.now) (map string_bytes c.args.words.now)
    c.args.io.now.is_used files files bad (g.S.Source.tells c.args.io.now.input.now) (printed out err_old)
    (printed out err_new) (Ok 2)
    (subst (IsFilterError (filter_of c.args.plan)) c.in-Err-Bad.field-0-is c.in-Err-Bad.ensures.refused)
    (said-whole (filter_message bad) 2 out err_old err_new wrote)

pub returns-in-Err-Memory-clause-runs : goal.returns-in-Err-Memory-clause-runs
returns-in-Err-Memory-clause-runs g c =
    let files = g.F.FileSet.tells c.args.io.now.files.now in
    for-lacks c.args.plan (Ok (patterns_in c.args.patterns.now)) (map string_bytes c.args.words.now)
    c.args.io.now.is_used files files (g.S.Source.tells c.args.io.now.input.now)
    (g.O.Sink.tells c.args.io.now.out.now) (g.E.Sink.tells c.args.io.now.err.now)
