use Rattle.std.proofs.Common.{◌≡◌, ◌+◌, ◌-◌, ◌<◌, flat_map, Err, sym, subst, arith, rules}
use Rattle.std.specs.List.{range_with_len}
use Rattle.tool_io.specs.Writes.{Writes}
use Rattle.tool_io.proofs.Writing.{IsLeft, left-all, left-more, left-refused, left-last}
use Rattle.pcre2_api.specs.Captured.{top_of}
use Rattle.test_lines.specs.Shown.{group_line, groups_text}
use Rattle.test_lines.proofs.Showing.{flat-range, flat-range-last}
use Rattle.test_run.proofs.matches.write_groups.Goals as goal

pub loop-n-init : goal.loop-n-init
loop-n-init g c =
    let f = c.args.found.now in
    let total = groups_text f.code.tree.options.utf f.subject f.outcome in
    let out = g.O.Sink.tells c.args.out.now in
    let e : top_of f.outcome + 1 ≡ top_of f.outcome + 1 - 0 = omega arith in
    subst (λ m. IsLeft total (flat_map (group_line f.code.tree.options.utf f.subject f.outcome) (range_with_len 0 m))
    out out) e (left-all total out)

pub loop-n-preserved : goal.loop-n-preserved
loop-n-preserved g c =
    let f = c.args.found.now in
    let line = group_line f.code.tree.options.utf f.subject f.outcome in
    let n = c.loop-n.n in
    let most = top_of f.outcome + 1 in
    let top = c.top-top.ensures in
    let less : n < most = omega arith in
    left-more (line n) (flat_map line (range_with_len (n + 1) (most - (n + 1)))) _ c.loop-n.invariant
    (flat-range line n most less) c.in_ok-write_group.ensures

pub returns-in_err-write_group : goal.returns-in_err-write_group
returns-in_err-write_group g c =
    let f = c.args.found.now in
    let line = group_line f.code.tree.options.utf f.subject f.outcome in
    let n = c.loop-n.n in
    let most = top_of f.outcome + 1 in
    let top = c.top-top.ensures in
    let less : n < most = omega arith in
    let e = c.in_err-write_group.field-0.0 in
    let same : c.from_residual.result ≡ Err e = search rules in
    subst (λ r. Writes (groups_text f.code.tree.options.utf f.subject f.outcome) (g.O.Sink.tells c.args.out.now)
    (g.O.Sink.tells c.write_group.new.out) r) (sym same)
    (left-refused (line n) (flat_map line (range_with_len (n + 1) (most - (n + 1)))) e c.loop-n.invariant
    (flat-range line n most less) c.in_err-write_group.ensures)

pub returns : goal.returns
returns g c =
    let f = c.args.found.now in
    let line = group_line f.code.tree.options.utf f.subject f.outcome in
    let n = c.loop-n.n in
    let most = top_of f.outcome + 1 in
    let top = c.top-top.ensures in
    let past = c.loop-n-test.false in
    let at = c.loop-n.auto.n-end in
    let last : most ≡ n + 1 = omega arith in
    let here : n ≡ c.top-top.result = omega arith in
    left-last c.write_group-2.result c.loop-n.invariant (flat-range-last line n most last)
    (subst (λ k. Writes (line k) (g.O.Sink.tells c.loop-n.out) (g.O.Sink.tells c.write_group-2.new.out)
    c.write_group-2.result) (sym here) c.write_group-2.ensures)
