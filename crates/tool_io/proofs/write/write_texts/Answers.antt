use Rattle.std.proofs.Common.{◌≡◌, [], ◌+◌, drop, get_or, sym, subst, rules, arith, Err}
use Rattle.std.proofs.lemmas.List.{at_drop_more, at_drop_all}
use Rattle.tool_io.specs.Writes.{Writes}
use Rattle.tool_io.specs.Texts.{concat_texts}
use Rattle.tool_io.proofs.Writing.{left-all, left-more, left-refused, left-none}
use Rattle.tool_io.proofs.write.write_texts.Goals as goal

pub loop-text-init : goal.loop-text-init
loop-text-init g c = left-all _ _

pub loop-text-preserved : goal.loop-text-preserved
loop-text-preserved g c =
    let texts = c.args.texts.now in
    let i = c.loop-text.text-index in
    let done = c.in_ok-write_all.ensures in
    left-more (get_or texts i (record { ref_ptr = (0, 0); now = [] })).now (concat_texts (drop (i + 1) texts)) _
    c.loop-text.invariant
    (at_drop_more concat_texts texts i (record { ref_ptr = (0, 0); now = [] }) c.loop-text-test.true)
    (record { all = done.all; part = tt; cause = done.cause })

pub returns-in_err-write_all : goal.returns-in_err-write_all
returns-in_err-write_all g c =
    let texts = c.args.texts.now in
    let i = c.loop-text.text-index in
    let done = c.in_err-write_all.ensures in
    let e = c.in_err-write_all.field-0.0 in
    let same : c.from_residual.result ≡ Err e = search rules in
    subst (λ r. Writes (concat_texts texts) (g.O.Sink.tells c.args.out.now) (g.O.Sink.tells c.write_all.new.out) r)
    (sym same)
    (left-refused (get_or texts i (record { ref_ptr = (0, 0); now = [] })).now (concat_texts (drop (i + 1) texts)) e
    c.loop-text.invariant
    (at_drop_more concat_texts texts i (record { ref_ptr = (0, 0); now = [] }) c.loop-text-test.true)
    (record { all = tt; part = done.prefix; cause = done.cause }))

pub returns : goal.returns
returns g c = left-none _ c.loop-text.invariant
    (at_drop_all concat_texts c.args.texts.now c.loop-text.text-index (omega arith))
