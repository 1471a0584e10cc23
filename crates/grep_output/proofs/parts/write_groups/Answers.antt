use Rattle.std.proofs.Common.{◌≡◌, ◌+◌, drop, sym, subst, rules, true, Err}
use Rattle.std.proofs.lemmas.List.{at_drop_all}
use Rattle.grep_output.specs.Texts.{joined}
use Rattle.tool_io.specs.Writes.{Writes}
use Rattle.tool_io.proofs.Writing.{IsLeft, left-all, left-more, left-refused, left-none}
use Rattle.grep_output.proofs.Parted.{set_texts, step-bare, joined_from, joined-first, joined-filled}
use Rattle.grep_output.proofs.parts.write_groups.Goals as goal
use Rattle.grep_output.proofs.parts.write_groups.Goals.{then-not-is_empty+in_ok-write_texts, else-not-is_empty}

pub loop-group-init : goal.loop-group-init
loop-group-init g c =
    let out = g.O.Sink.tells c.args.out.now in
    let total = joined c.args.separator.now (set_texts c.args.bytes.now c.args.groups.now) in
    subst (λ rest. IsLeft total rest out out)
    (sym (joined-first c.args.separator.now (set_texts c.args.bytes.now c.args.groups.now))) (left-all total out)

pub returns-in_err-write_texts : goal.returns-in_err-write_texts
returns-in_err-write_texts g c =
    let e = c.in_err-write_texts.field-0.0 in
    let same : c.from_residual.result ≡ Err e = search rules in
    subst (λ r. Writes (joined c.args.separator.now (set_texts c.args.bytes.now c.args.groups.now))
    (g.O.Sink.tells c.args.out.now) (g.O.Sink.tells c.write_texts.new.out) r) (sym same)
    (left-refused _ (joined_from true c.args.separator.now
    (set_texts c.args.bytes.now (drop (c.loop-group.group-index + 1) c.args.groups.now))) e
    c.loop-group.invariant
    (joined-filled c.args.separator.now c.args.bytes.now c.args.groups.now c.loop-group.group-index
    c.loop-group.is_later c.text_if.result.now c.text_of-text.result.now c.is_empty.result
    c.loop-group-test.true c.text_if.ensures c.text_of-text.ensures c.is_empty.ensures
    c.if-not-is_empty.true)
    c.in_err-write_texts.ensures)

pub loop-group-preserved : goal.loop-group-preserved
loop-group-preserved g c =
    let total = joined c.args.separator.now (set_texts c.args.bytes.now c.args.groups.now) in
    let later = set_texts c.args.bytes.now (drop (c.loop-group.group-index + 1) c.args.groups.now) in
    elim c.if-not-is_empty.branch [
      | then-not-is_empty+in_ok-write_texts w ↦
          rw (w.out-is, w.is_later-is)
          (left-more _ (joined_from true c.args.separator.now later) _ c.loop-group.invariant
          (joined-filled c.args.separator.now c.args.bytes.now c.args.groups.now c.loop-group.group-index
          c.loop-group.is_later w.text_if.result.now c.text_of-text.result.now c.is_empty.result
          c.loop-group-test.true w.text_if.ensures c.text_of-text.ensures c.is_empty.ensures
          w.if-not-is_empty.true)
          w.in_ok-write_texts.ensures)
      | else-not-is_empty w ↦
          rw (w.out-is, w.is_later-is)
          (subst (λ texts. IsLeft total (joined_from c.loop-group.is_later c.args.separator.now texts)
          (g.O.Sink.tells c.args.out.now) (g.O.Sink.tells c.loop-group.out))
          (step-bare c.args.bytes.now c.args.groups.now c.loop-group.group-index c.text_of-text.result.now
          c.is_empty.result c.loop-group-test.true c.text_of-text.ensures c.is_empty.ensures
          w.if-not-is_empty.false)
          c.loop-group.invariant)
    ]

pub returns : goal.returns
returns g c =
    left-none _ c.loop-group.invariant
    (at_drop_all (λ l. joined_from c.loop-group.is_later c.args.separator.now (set_texts c.args.bytes.now l))
    c.args.groups.now c.loop-group.group-index c.loop-group-test.false)
