use Rattle.std.proofs.Common.{◌≡◌, ◌++◌, [], ◌∷◌, Err, sym, subst, rules}
use Rattle.tool_io.specs.Writes.{Writes}
use Rattle.tool_io.proofs.Writing.{writes-same}
use Rattle.test_lines.specs.Shown.{number_before, shown_or_unset, group_text, group_line}
use Rattle.test_lines.proofs.Writing.{writes-then, writes-first}
use Rattle.test_run.proofs.matches.write_group.Goals as goal

pub returns-in_err-write_number : goal.returns-in_err-write_number
returns-in_err-write_number g c =
    let f = c.args.found.now in
    let n = c.args.n in
    let a = number_before n in
    let b = shown_or_unset f.code.tree.options.utf (group_text f.subject f.outcome n) in
    let e = c.in_err-write_number.field-0.0 in
    let same : c.from_residual.result ≡ Err e = search rules in
    subst (λ r. Writes (group_line f.code.tree.options.utf f.subject f.outcome n) (g.O.Sink.tells c.args.out.now)
    (g.O.Sink.tells c.write_number.new.out) r) (sym same)
    (writes-first {A = Unit {0}} (a ++ b) (10 ∷ []) _ _ e (writes-first a b _ _ e c.in_err-write_number.ensures))

pub returns-in_err-write_text : goal.returns-in_err-write_text
returns-in_err-write_text g c =
    let f = c.args.found.now in
    let n = c.args.n in
    let a = number_before n in
    let b = shown_or_unset f.code.tree.options.utf (group_text f.subject f.outcome n) in
    let e = c.in_err-write_text.field-0.0 in
    let same : c.from_residual-in_err-write_text.result ≡ Err e = search rules in
    subst (λ r. Writes (group_line f.code.tree.options.utf f.subject f.outcome n) (g.O.Sink.tells c.args.out.now)
    (g.O.Sink.tells c.write_text.new.out) r) (sym same)
    (writes-first {A = Unit {0}} (a ++ b) (10 ∷ []) _ _ e
    (writes-then a b _ _ _ _ (Err e) c.in_ok-write_number.ensures
    (writes-same (λ i. shown_or_unset (c.is_utf.ensures i) (c.group.ensures i)) c.in_err-write_text.ensures)))

pub returns : goal.returns
returns g c =
    let f = c.args.found.now in
    let n = c.args.n in
    let a = number_before n in
    let b = shown_or_unset f.code.tree.options.utf (group_text f.subject f.outcome n) in
    writes-then (a ++ b) (10 ∷ []) _ _ _ _ c.write_texts.result
    (writes-then a b _ _ _ _ _ c.in_ok-write_number.ensures
    (writes-same (λ i. shown_or_unset (c.is_utf.ensures i) (c.group.ensures i)) c.in_ok-write_text.ensures))
    c.write_texts.ensures
