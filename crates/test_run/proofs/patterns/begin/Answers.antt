use Rattle.std.proofs.Common.{◌≡◌, ◌∙◌, Err, sym, ap, subst, rules, SFits, w32}
use Rattle.std.proofs.lemmas.Int.{to_z-of_z}
use Rattle.pat_tree.specs.Pattern.{pattern_of}
use Rattle.tool_io.specs.Writes.{Writes}
use Rattle.test_run.specs.Courses.{pattern_text}
use Rattle.test_lines.specs.Lines.{fault_line}
use Rattle.test_run.proofs.Compiling.{text-told, text-fault, course-told}
use Rattle.test_lines.proofs.Writing.{writes-as, refused-as, writes-equal, lacks-first}
use Rattle.test_run.proofs.patterns.begin.Goals as goal

pub returns-in_err-write_told-in-Ok-clause-wrote : goal.returns-in_err-write_told-in-Ok-clause-wrote
returns-in_err-write_told-in-Ok-clause-wrote g c =
    let entry = c.args.entry in
    let e = c.in_err-write_told-in-Ok.field-0.0 in
    let same : c.from_residual.result ≡ Err e = search rules in
    subst (λ r. Writes (pattern_text entry) (g.O.Sink.tells c.args.out.now) (g.O.Sink.tells c.write_told.new.out) r)
    (sym same)
    (writes-equal
    (text-told entry c.options_of.result c.bytes.result.now c.options_of.ensures c.bytes.ensures
    (pattern_of c.in-Ok.code.tree) c.is_info.result c.in-Ok.ensures.compiled.2 c.is_info.ensures)
    (refused-as {A = Unit {0}} e c.in_err-write_told-in-Ok.ensures))

pub returns-in-Ok-clause-wrote : goal.returns-in-Ok-clause-wrote
returns-in-Ok-clause-wrote g c =
    let entry = c.args.entry in
    writes-equal
    (text-told entry c.options_of.result c.bytes.result.now c.options_of.ensures c.bytes.ensures
    (pattern_of c.in-Ok.code.tree) c.is_info.result c.in-Ok.ensures.compiled.2 c.is_info.ensures)
    (writes-as {A = Unit {0}} _ _ c.in_ok-write_told-in-Ok.ensures)

pub returns-in_err-write_fault-in-Err-Bad-clause-wrote : goal.returns-in_err-write_fault-in-Err-Bad-clause-wrote
returns-in_err-write_fault-in-Err-Bad-clause-wrote g c =
    let entry = c.args.entry in
    let e = c.in_err-write_fault-in-Err-Bad.field-0.0 in
    let fits : SFits w32 c.in-Err-Bad.number = search rules in
    let same : c.from_residual-in_err-write_fault-in-Err-Bad.result ≡ Err e = search rules in
    subst (λ r. Writes (pattern_text entry) (g.O.Sink.tells c.args.out.now) (g.O.Sink.tells c.write_fault.new.out) r)
    (sym same)
    (writes-equal
    (ap (λ n. fault_line n c.in-Err-Bad.at) (to_z-of_z w32 c.in-Err-Bad.number fits)
    ∙ text-fault entry c.options_of.result c.bytes.result.now c.options_of.ensures c.bytes.ensures
    c.in-Err-Bad.field-0 c.in-Err-Bad.number c.in-Err-Bad.at c.in-Err-Bad.field-0-is
    c.in-Err-Bad.ensures.refused)
    (refused-as {A = Unit {0}} e c.in_err-write_fault-in-Err-Bad.ensures))

pub returns-in-Err-Bad-clause-wrote : goal.returns-in-Err-Bad-clause-wrote
returns-in-Err-Bad-clause-wrote g c =
    let entry = c.args.entry in
    let fits : SFits w32 c.in-Err-Bad.number = search rules in
    writes-equal
    (ap (λ n. fault_line n c.in-Err-Bad.at) (to_z-of_z w32 c.in-Err-Bad.number fits)
    ∙ text-fault entry c.options_of.result c.bytes.result.now c.options_of.ensures c.bytes.ensures
    c.in-Err-Bad.field-0 c.in-Err-Bad.number c.in-Err-Bad.at c.in-Err-Bad.field-0-is
    c.in-Err-Bad.ensures.refused)
    (writes-as {A = Unit {0}} _ _ c.in_ok-write_fault-in-Err-Bad.ensures)

pub returns-in-Ok-clause-course : goal.returns-in-Ok-clause-course
returns-in-Ok-clause-course g c =
    course-told c.args.entry c.options_of.result c.bytes.result.now c.options_of.ensures c.bytes.ensures
    c.in-Ok.code.tree
    c.in-Ok.ensures.compiled.1 c.in-Ok.ensures.compiled.2

pub returns-clause-wrote : goal.returns-clause-wrote
returns-clause-wrote g c = lacks-first (pattern_text c.args.entry) (g.O.Sink.tells c.args.out.now)
