use Rattle.std.proofs.Common.{◌≡◌, ◌++◌, codes, Ok, Err, sym, ap, subst, rules}
use Rattle.tool_io.specs.Texts.{line, text_if}
use Rattle.tool_io.specs.Writes.{Writes}
use Rattle.tool_io.proofs.Writing.{writes-same, writes-none}
use Rattle.test_lines.specs.Lines.{groups_line, lookbehind_line, info_text}
use Rattle.test_lines.proofs.Writing.{writes-then, writes-first}
use Rattle.test_run.proofs.lines.write_info.Goals as goal

pub returns-in_err-write_groups : goal.returns-in_err-write_groups
returns-in_err-write_groups g c =
    let info = c.args.info in
    let groups = groups_line info.groups in
    let behind = lookbehind_line info.max_lookbehind in
    let empty = text_if info.can_be_empty (line (codes "May match empty string")) in
    let e = c.in_err-write_groups.field-0.0 in
    let same : c.from_residual.result ≡ Err e = search rules in
    subst (λ r. Writes (info_text info) (g.O.Sink.tells c.args.out.now) (g.O.Sink.tells c.write_groups.new.out) r)
    (sym same)
    (writes-first {A = Unit {0}} (groups ++ behind) empty _ _ e
    (writes-first groups behind _ _ e c.in_err-write_groups.ensures))

pub returns-in_err-write_lookbehind : goal.returns-in_err-write_lookbehind
returns-in_err-write_lookbehind g c =
    let info = c.args.info in
    let groups = groups_line info.groups in
    let behind = lookbehind_line info.max_lookbehind in
    let empty = text_if info.can_be_empty (line (codes "May match empty string")) in
    let e = c.in_err-write_lookbehind.field-0.0 in
    let same : c.from_residual-in_err-write_lookbehind.result ≡ Err e = search rules in
    subst (λ r. Writes (info_text info) (g.O.Sink.tells c.args.out.now) (g.O.Sink.tells c.write_lookbehind.new.out) r)
    (sym same)
    (writes-first {A = Unit {0}} (groups ++ behind) empty _ _ e
    (writes-then groups behind _ _ _ _ (Err e) c.in_ok-write_groups.ensures c.in_err-write_lookbehind.ensures))

pub returns-in_err-write_texts : goal.returns-in_err-write_texts
returns-in_err-write_texts g c =
    let info = c.args.info in
    let groups = groups_line info.groups in
    let behind = lookbehind_line info.max_lookbehind in
    let told = line (codes "May match empty string") in
    let e = c.in_err-write_texts.field-0.0 in
    let same : c.from_residual-in_err-write_texts.result ≡ Err e = search rules in
    subst (λ r. Writes (info_text info) (g.O.Sink.tells c.args.out.now) (g.O.Sink.tells c.write_texts.new.out) r)
    (sym same)
    (writes-then (groups ++ behind) (text_if info.can_be_empty told) _ _ _ _ (Err e)
    (writes-then groups behind _ _ _ _ _ c.in_ok-write_groups.ensures c.in_ok-write_lookbehind.ensures)
    (writes-same (ap (λ t. text_if t told) (sym c.if-info.true)) c.in_err-write_texts.ensures))

pub returns-in_ok-write_texts : goal.returns-in_ok-write_texts
returns-in_ok-write_texts g c =
    let info = c.args.info in
    let groups = groups_line info.groups in
    let behind = lookbehind_line info.max_lookbehind in
    let told = line (codes "May match empty string") in
    writes-then (groups ++ behind) (text_if info.can_be_empty told) _ _ _ _ (Ok tt)
    (writes-then groups behind _ _ _ _ _ c.in_ok-write_groups.ensures c.in_ok-write_lookbehind.ensures)
    (writes-same (ap (λ t. text_if t told) (sym c.if-info.true)) c.in_ok-write_texts.ensures)

pub returns-else-info : goal.returns-else-info
returns-else-info g c =
    let info = c.args.info in
    let groups = groups_line info.groups in
    let behind = lookbehind_line info.max_lookbehind in
    let told = line (codes "May match empty string") in
    writes-then (groups ++ behind) (text_if info.can_be_empty told) _ _ _ _ (Ok tt)
    (writes-then groups behind _ _ _ _ _ c.in_ok-write_groups.ensures c.in_ok-write_lookbehind.ensures)
    (writes-same (ap (λ t. text_if t told) (sym c.if-info.false)) (writes-none tt _))
