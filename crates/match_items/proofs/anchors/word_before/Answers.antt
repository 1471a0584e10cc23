use Rattle.std.proofs.Common.{◌∙◌, arith}
use Rattle.match_items.proofs.Words.{word_before}
use Rattle.match_items.proofs.anchors.word_before.Goals as goal

pub returns : goal.returns
returns c = c.is_word.ensures ∙ word_before c.args.view.now c.args.ucp c.args.at c.char_before-c.result
    (omega (arith, c.if-at-eq0.false)) c.char_before-c.ensures.value
