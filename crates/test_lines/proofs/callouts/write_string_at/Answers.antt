use Rattle.std.proofs.Common.{◌≡◌, [], ◌∷◌, append_assoc, Err, sym, subst, rules}
use Rattle.test_lines.specs.Shown.{shown}
use Rattle.test_lines.specs.Marks.{name_line}
use Rattle.tool_io.specs.Writes.{Writes}
use Rattle.test_lines.specs.Callouts.{string_place}
use Rattle.test_lines.proofs.Writing.{writes-then, writes-first, writes-equal}
use Rattle.test_lines.proofs.callouts.write_string_at.Goals as goal

pub returns-in_err-write_string_place : goal.returns-in_err-write_string_place
returns-in_err-write_string_place g c =
    let xs = string_place c.args.at in
    let ys = name_line c.args.utf [] c.args.string.now in
    let e = c.in_err-write_string_place.field-0.0 in
    let same : c.from_residual.result ≡ Err e = search rules in
    subst (λ r. Writes (name_line c.args.utf (string_place c.args.at) c.args.string.now)
    (g.O.Sink.tells c.args.out.now) (g.O.Sink.tells c.write_string_place.new.out) r) (sym same)
    (writes-equal (sym (append_assoc xs (shown c.args.utf c.args.string.now) (10 ∷ [])))
    (writes-first {A = Unit {0}} xs ys _ _ e (c.in_err-write_string_place.ensures)))

pub returns : goal.returns
returns g c =
    let xs = string_place c.args.at in
    let ys = name_line c.args.utf [] c.args.string.now in
    writes-equal (sym (append_assoc xs (shown c.args.utf c.args.string.now) (10 ∷ [])))
    (writes-then xs ys _ _ _ _ c.write_name.result (c.in_ok-write_string_place.ensures) (c.write_name.ensures))
