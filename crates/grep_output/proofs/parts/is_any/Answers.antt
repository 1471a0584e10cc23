use Rattle.std.proofs.Common.{sym, ap, ◌∙◌}
use Rattle.std.proofs.lemmas.List.{at_drop_all}
use Rattle.grep_output.specs.Texts.{is_any}
use Rattle.grep_output.proofs.Parted.{set_texts, step-bare, step-filled}
use Rattle.grep_output.proofs.parts.is_any.Goals as goal

pub returns-then-not-is_empty : goal.returns-then-not-is_empty
returns-then-not-is_empty c =
    sym (ap is_any (step-filled c.args.bytes.now c.args.groups.now c.loop-group.group-index c.text_of.result.now
    c.is_empty.result c.loop-group-test.true c.text_of.ensures c.is_empty.ensures c.if-not-is_empty.true))
    ∙ c.loop-group.invariant

pub loop-group-preserved : goal.loop-group-preserved
loop-group-preserved c =
    sym (ap is_any (step-bare c.args.bytes.now c.args.groups.now c.loop-group.group-index c.text_of.result.now
    c.is_empty.result c.loop-group-test.true c.text_of.ensures c.is_empty.ensures c.if-not-is_empty.false))
    ∙ c.loop-group.invariant

pub returns : goal.returns
returns c = sym (at_drop_all (λ l. is_any (set_texts c.args.bytes.now l)) c.args.groups.now c.loop-group.group-index
    c.loop-group-test.false) ∙ c.loop-group.invariant
