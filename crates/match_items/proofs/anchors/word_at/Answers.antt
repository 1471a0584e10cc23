use Rattle.std.proofs.Common.{◌∙◌, arith}
use Rattle.match_items.proofs.Words.{word_at}
use Rattle.match_items.proofs.anchors.word_at.Goals as goal

pub returns : goal.returns
returns c = c.is_word.ensures ∙ word_at c.args.view.now c.args.ucp c.args.at c.char_at-c.result
    (omega (arith, c.if-at-view.false)) c.char_at-c.ensures.value
