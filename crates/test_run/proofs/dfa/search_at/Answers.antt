use Rattle.std.proofs.Common.{◌≡◌, ◌∙◌, ap, Err, sym, subst, rules}
use Rattle.pat_tree.specs.declared.options.Options.{Options}
use Rattle.pat_tree.specs.Pattern.{pattern_of}
use Rattle.tool_io.specs.Writes.{Writes}
use Rattle.test_run.specs.Dfa.{ends_text, told_at, told_text}
use Rattle.test_run.specs.DfaSearches.{error_text}
use Rattle.test_run.proofs.EndsSearching.{text-ends, told-ends, text-error, told-error, lies-in}
use Rattle.test_lines.proofs.Writing.{writes-as, refused-as, writes-equal}
use Rattle.test_run.proofs.dfa.search_at.Goals as goal

pub returns-in_err-write_ends-in-Ok-clause-wrote : goal.returns-in_err-write_ends-in-Ok-clause-wrote
returns-in_err-write_ends-in-Ok-clause-wrote g c =
    let code = c.args.code.now in
    let matching = c.args.options.now in
    let subject = c.args.subject.now in
    let f = c.in-Ok.found in
    let e = c.in_err-write_ends-in-Ok.field-0.0 in
    let same : c.from_residual.result ≡ Err e = search rules in
    let utf = ap (λ (o : Options). ends_text o.utf subject f.start 0 f.ends) c.options.ensures in
    subst (λ r. Writes (told_text code.tree.options.utf subject
    (told_at (pattern_of code.tree) matching subject c.args.at)) (g.O.Sink.tells c.args.out.now)
    (g.O.Sink.tells c.write_ends.new.out) r) (sym same)
    (writes-equal (utf ∙ text-ends code matching subject c.args.at f c.in-Ok.ensures.found)
    (refused-as {A = Unit {0}} e c.in_err-write_ends-in-Ok.ensures))

pub returns-in_ok-write_ends-in-Ok-clause-wrote : goal.returns-in_ok-write_ends-in-Ok-clause-wrote
returns-in_ok-write_ends-in-Ok-clause-wrote g c =
    let f = c.in-Ok.found in
    let utf = ap (λ (o : Options). ends_text o.utf c.args.subject.now f.start 0 f.ends) c.options.ensures in
    writes-equal (utf ∙ text-ends c.args.code.now c.args.options.now c.args.subject.now c.args.at f
    c.in-Ok.ensures.found)
    (writes-as {A = Unit {0}} _ c.told_of.result c.in_ok-write_ends-in-Ok.ensures)

pub returns-in_ok-write_ends-in-Ok-clause-comes : goal.returns-in_ok-write_ends-in-Ok-clause-comes
returns-in_ok-write_ends-in-Ok-clause-comes g c =
    told-ends c.args.code.now c.args.options.now c.args.subject.now c.args.at c.in-Ok.found c.told_of.result
    c.in-Ok.ensures.found c.told_of.ensures

pub returns-in-Err-clause-wrote : goal.returns-in-Err-clause-wrote
returns-in-Err-clause-wrote g c =
    let utf = ap (λ (o : Options). error_text o.utf c.args.subject.now c.in-Err.e) c.options.ensures in
    text-error c.args.code.now c.args.options.now c.args.subject.now c.args.at c.in-Err.e c.tell_error.result
    (g.O.Sink.tells c.args.out.now) (g.O.Sink.tells c.tell_error.new.out) c.in-Err.ensures.refused
    c.tell_error.ensures.comes
    (writes-equal utf c.tell_error.ensures.wrote)

pub returns-in-Err-clause-comes : goal.returns-in-Err-clause-comes
returns-in-Err-clause-comes g c = told-error c.args.code.now c.args.options.now c.args.subject.now c.args.at
    c.in-Err.e c.tell_error.result c.in-Err.ensures.refused c.tell_error.ensures.comes

pub tell_error-requires : goal.tell_error-requires
tell_error-requires g c =
    record {
      lies = lies-in c.args.code.now c.args.options.now c.args.subject.now c.args.at c.in-Err.e
          c.in-Err.ensures.refused;
    }
