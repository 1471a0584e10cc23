use Rattle.std.proofs.Common.{◌≡◌, ◌++◌, [], ◌∷◌, Err, append-nil, sym, subst, rules}
use Rattle.tool_io.specs.Writes.{Writes}
use Rattle.test_lines.specs.Shown.{shown}
use Rattle.test_lines.specs.Marks.{name_line}
use Rattle.test_lines.proofs.Writing.{writes-then, writes-first, writes-equal}
use Rattle.test_lines.proofs.marks.write_name.Goals as goal

pub returns-in_err-write_texts : goal.returns-in_err-write_texts
returns-in_err-write_texts g c =
    let a = c.args.before.now in
    let b = shown c.args.utf c.args.name.now in
    let e = c.in_err-write_texts.field-0.0 in
    let same : c.from_residual.result ≡ Err e = search rules in
    subst (λ r. Writes (name_line c.args.utf a c.args.name.now) (g.O.Sink.tells c.args.out.now)
    (g.O.Sink.tells c.write_texts.new.out) r) (sym same)
    (writes-first {A = Unit {0}} (a ++ b) (10 ∷ []) _ _ e
    (writes-first a b _ _ e (writes-equal (append-nil a) c.in_err-write_texts.ensures)))

pub returns-in_err-write_shown : goal.returns-in_err-write_shown
returns-in_err-write_shown g c =
    let a = c.args.before.now in
    let b = shown c.args.utf c.args.name.now in
    let e = c.in_err-write_shown.field-0.0 in
    let same : c.from_residual-in_err-write_shown.result ≡ Err e = search rules in
    subst (λ r. Writes (name_line c.args.utf a c.args.name.now) (g.O.Sink.tells c.args.out.now)
    (g.O.Sink.tells c.write_shown.new.out) r) (sym same)
    (writes-first {A = Unit {0}} (a ++ b) (10 ∷ []) _ _ e
    (writes-then a b _ _ _ _ (Err e) (writes-equal (append-nil a) c.in_ok-write_texts.ensures)
    c.in_err-write_shown.ensures))

pub returns : goal.returns
returns g c =
    let a = c.args.before.now in
    let b = shown c.args.utf c.args.name.now in
    writes-then (a ++ b) (10 ∷ []) _ _ _ _ c.write_texts-2.result
    (writes-then a b _ _ _ _ _ (writes-equal (append-nil a) c.in_ok-write_texts.ensures) c.in_ok-write_shown.ensures)
    c.write_texts-2.ensures
