use Rattle.std.proofs.Common.{rules, ◌≡◌, ◌≢◌, ◌∙◌, true, false, Err, sym, subst}
use Rattle.byte_lanes.specs.declared.line_end.EndKind.TheVariants.{Lf}
use Rattle.line_feed.specs.Rows.{rows}
use Rattle.grep_output.specs.declared.ended.Ended.TheVariants.{End}
use Rattle.grep_output.specs.Ends.{stop_of}
use Rattle.grep_main.specs.PatternFiles.{texts_of_rows}
use Rattle.grep_main.specs.Adds.{AddsTo}
use Rattle.grep_main.proofs.FilePatterns.{source-cut, source-untold}
use Rattle.grep_main.proofs.pattern_files.add_source.Goals as goal

pub returns-in_err-write_ended : goal.returns-in_err-write_ended
returns-in_err-write_ended g c =
    let adds = c.in_ok-ended.ensures in
    let found = rows Lf c.args.plan.now.max_buffer_size adds.0 in
    let other : c.in_ok-ended.ended ≢ End = λ is. (let e : c.eq.result ≡ true = rw is at c.eq.ensures in
    let f : true ≡ false = sym e ∙ c.if-eq.false in cc) in
    let e = c.in_err-write_ended.field-0.0 in
    let same : c.from_residual-in_err-write_ended.result ≡ Err (stop_of e) = search rules in (
      adds.0,
      adds.1,
      subst (AddsTo (texts_of_rows c.args.name.now found) c.args.texts.now c.add_lines.new.texts
          (g.E.Sink.tells c.args.err.now) (g.E.Sink.tells c.write_ended.new.err)) (sym same)
          (source-untold c.args.name.now found c.in_ok-ended.ended other adds.2 _ _ _ _ e c.in_err-write_ended.ensures),
    )

pub returns : goal.returns
returns g c =
    let adds = c.in_ok-ended.ensures in
    let found = rows Lf c.args.plan.now.max_buffer_size adds.0 in
    let other : c.in_ok-ended.ended ≢ End = λ is. (let e : c.eq.result ≡ true = rw is at c.eq.ensures in
    let f : true ≡ false = sym e ∙ c.if-eq.false in cc) in (
      adds.0,
      adds.1,
      source-cut c.args.name.now found c.in_ok-ended.ended other adds.2 _ _ _ _
          c.in_ok-write_ended.field-0 c.in_ok-write_ended.ensures,
    )
