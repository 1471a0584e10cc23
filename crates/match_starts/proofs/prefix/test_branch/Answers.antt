use Rattle.std.proofs.Common.{sym, ap, ◌∙◌}
use Rattle.match_items.specs.Views.{text_scene}
use Rattle.match_starts.specs.Prefix.{items_tested, row_of}
use Rattle.match_starts.proofs.PastPrefix.{seq_tested, alone_tested}
use Rattle.match_starts.proofs.prefix.test_branch.Goals as goal

pub returns-in-Seq : goal.returns-in-Seq
returns-in-Seq c =
    let g = text_scene c.args.view.now c.args.ready.now.classes.now in
    let tree = c.args.ready.now.tree.now in
    c.test_items.ensures
    ∙ ap (λ parts. items_tested g (row_of tree parts) c.args.place) c.as_slice.ensures
    ∙ sym (seq_tested g tree c.args.branch c.args.place c.node.result.now c.node.ensures.is c.in-Seq.parts c.in-Seq.is)

pub returns-in_default : goal.returns-in_default
returns-in_default c =
    let g = text_scene c.args.view.now c.args.ready.now.classes.now in
    c.test_items-in_default.ensures
    ∙ sym (alone_tested g c.args.ready.now.tree.now c.args.branch c.args.place c.node.result.now c.node.ensures.is
    c.in_default.not-Seq)
