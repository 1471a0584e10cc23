use Rattle.std.proofs.Common.{◌≡◌, ◌+◌, ◌≤◌, Err, drop, length, sym, subst, arith, rules}
use Rattle.tool_io.specs.Writes.{Writes}
use Rattle.tool_io.proofs.Writing.{left-all, left-more, left-refused, left-none}
use Rattle.test_run.specs.Dfa.{end_line, ends_text}
use Rattle.test_run.proofs.Ends.{ends-more, ends-none, among-get}
use Rattle.test_run.proofs.dfa.write_ends.Goals as goal

pub loop-n-init : goal.loop-n-init
loop-n-init g c =
    let f = c.args.found.now in
    left-all (ends_text c.args.utf c.args.subject.now f.start 0 f.ends) (g.O.Sink.tells c.args.out.now)

pub loop-n-preserved : goal.loop-n-preserved
loop-n-preserved g c =
    let f = c.args.found.now in
    let utf = c.args.utf in
    let subject = c.args.subject.now in
    let n = c.loop-n.n in
    left-more (end_line utf subject f.start n c.get.result.now)
    (ends_text utf subject f.start (n + 1) (drop (n + 1) f.ends)) _ c.loop-n.invariant
    (ends-more utf subject f.start n n c.get.result.now f.ends c.get.ensures)
    c.in_ok-write_one.ensures

pub returns-in_err-write_one : goal.returns-in_err-write_one
returns-in_err-write_one g c =
    let f = c.args.found.now in
    let utf = c.args.utf in
    let subject = c.args.subject.now in
    let n = c.loop-n.n in
    let e = c.in_err-write_one.field-0.0 in
    let same : c.from_residual.result ≡ Err e = search rules in
    subst (λ r. Writes (ends_text utf subject f.start 0 f.ends) (g.O.Sink.tells c.args.out.now)
    (g.O.Sink.tells c.write_one.new.out) r) (sym same)
    (left-refused (end_line utf subject f.start n c.get.result.now)
    (ends_text utf subject f.start (n + 1) (drop (n + 1) f.ends)) e c.loop-n.invariant
    (ends-more utf subject f.start n n c.get.result.now f.ends c.get.ensures)
    c.in_err-write_one.ensures)

pub returns : goal.returns
returns g c =
    let f = c.args.found.now in
    let n = c.loop-n.n in
    let past = c.loop-n-test.false in
    let count = c.len-n-end.ensures in
    let l : length f.ends ≤ n = omega arith in
    left-none _ c.loop-n.invariant (ends-none c.args.utf c.args.subject.now f.start n n f.ends l)

pub write_one-requires-clause-ordered : goal.write_one-requires-clause-ordered
write_one-requires-clause-ordered g c =
    (c.requires c.get.result.now (among-get c.args.found.now.ends c.loop-n.n c.get.result.now c.get.ensures)).0

pub write_one-requires-clause-within : goal.write_one-requires-clause-within
write_one-requires-clause-within g c =
    (c.requires c.get.result.now (among-get c.args.found.now.ends c.loop-n.n c.get.result.now c.get.ensures)).1
