use Rattle.std.proofs.Common.{◌≡◌, None, sym, subst, rules, arith, Err}
use Rattle.std.proofs.lemmas.List.{at_drop_more, at_drop_all}
use Rattle.tool_io.specs.Writes.{Writes}
use Rattle.tool_io.proofs.Writing.{left-all, left-more, left-refused, left-none}
use Rattle.pcre_io.specs.declared.callouts.Block.{Block}
use Rattle.test_lines.specs.Callouts.{called_text}
use Rattle.test_lines.proofs.callouts.write_called.Goals as goal

-- past the list's end, where none is met
abbrev no_block : Block
no_block = record {
  number = 0;
  text_from = 0;
  text_to = 0;
  pattern_at = 0;
  item_len = 0;
  start = 0;
  current = 0;
  mark = None;
}

pub loop-block-init : goal.loop-block-init
loop-block-init g c = left-all _ _

pub loop-block-preserved : goal.loop-block-preserved
loop-block-preserved g c =
    left-more _ _ _ c.loop-block.invariant
    (at_drop_more (called_text c.args.calling.utf c.args.code.now.tree.verb_names c.args.calling.pattern.now
    c.args.calling.subject.now c.loop-block.before) c.args.blocks.now c.loop-block.block-index no_block
    c.loop-block-test.true) c.in_ok-write_callout.ensures

pub returns-in_err-write_callout : goal.returns-in_err-write_callout
returns-in_err-write_callout g c =
    let e = c.in_err-write_callout.field-0.0 in
    let same : c.from_residual.result ≡ Err e = search rules in
    subst (λ r. Writes (called_text c.args.calling.utf c.args.code.now.tree.verb_names c.args.calling.pattern.now
    c.args.calling.subject.now None c.args.blocks.now) (g.O.Sink.tells c.args.out.now)
    (g.O.Sink.tells c.write_callout.new.out) r) (sym same)
    (left-refused _ _ e c.loop-block.invariant
    (at_drop_more (called_text c.args.calling.utf c.args.code.now.tree.verb_names c.args.calling.pattern.now
    c.args.calling.subject.now c.loop-block.before) c.args.blocks.now c.loop-block.block-index no_block
    c.loop-block-test.true) c.in_err-write_callout.ensures)

pub returns : goal.returns
returns g c =
    left-none _ c.loop-block.invariant
    (at_drop_all (called_text c.args.calling.utf c.args.code.now.tree.verb_names c.args.calling.pattern.now
    c.args.calling.subject.now c.loop-block.before) c.args.blocks.now c.loop-block.block-index (omega arith))
