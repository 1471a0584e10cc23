use Rattle.std.proofs.Common.{◌∙◌}
use Rattle.pat_tree.proofs.Lines.{ends_is}
use Rattle.pat_tree.proofs.newline.ends.Goals as goal

pub returns : goal.returns
returns c = c.ends_with.ensures.value ∙ ends_is c.args.text.now c.args.bytes.now c.args.at c.requires
