use Rattle.std.proofs.Common.{◌≡◌, ◌++◌, [], ◌∷◌, Err, sym, subst, rules}
use Rattle.std.specs.Prelude.{slice_range}
use Rattle.tool_io.specs.Writes.{Writes}
use Rattle.test_run.specs.Dfa.{end_line}
use Rattle.test_lines.specs.Shown.{number_before, shown}
use Rattle.test_lines.proofs.Writing.{writes-then, writes-first}
use Rattle.test_run.proofs.dfa.write_one.Goals as goal

pub returns-in_err-write_count : goal.returns-in_err-write_count
returns-in_err-write_count g c =
    let utf = c.args.utf in
    let subject = c.args.subject.now in
    let a = number_before c.args.n in
    let b = shown utf (slice_range subject c.args.start c.args.end) in
    let e = c.in_err-write_count.field-0.0 in
    let same : c.from_residual.result ≡ Err e = search rules in
    subst (λ r. Writes (end_line utf subject c.args.start c.args.n c.args.end) (g.O.Sink.tells c.args.out.now)
    (g.O.Sink.tells c.write_count.new.out) r) (sym same)
    (writes-first {A = Unit {0}} (a ++ b) (10 ∷ []) _ _ e (writes-first a b _ _ e c.in_err-write_count.ensures))

pub returns-in_err-write_shown : goal.returns-in_err-write_shown
returns-in_err-write_shown g c =
    let utf = c.args.utf in
    let subject = c.args.subject.now in
    let a = number_before c.args.n in
    let b = shown utf (slice_range subject c.args.start c.args.end) in
    let e = c.in_err-write_shown.field-0.0 in
    let same : c.from_residual-in_err-write_shown.result ≡ Err e = search rules in
    subst (λ r. Writes (end_line utf subject c.args.start c.args.n c.args.end) (g.O.Sink.tells c.args.out.now)
    (g.O.Sink.tells c.write_shown.new.out) r) (sym same)
    (writes-first {A = Unit {0}} (a ++ b) (10 ∷ []) _ _ e
    (writes-then a b _ _ _ _ (Err e) c.in_ok-write_count.ensures c.in_err-write_shown.ensures))

pub returns : goal.returns
returns g c =
    let a = number_before c.args.n in
    let b = shown c.args.utf (slice_range c.args.subject.now c.args.start c.args.end) in
    writes-then (a ++ b) (10 ∷ []) _ _ _ _ c.write_texts.result
    (writes-then a b _ _ _ _ _ c.in_ok-write_count.ensures c.in_ok-write_shown.ensures)
    c.write_texts.ensures
