use Rattle.std.proofs.Common.{◌∙◌, ◌||◌, suc, ap, arith}
use Rattle.pat_tree.specs.Nested.{trees, tree_at}
use Rattle.pat_tree.specs.Parts.{tree_of}
use Rattle.pat_lengths.specs.Lengths.{behind}
use Rattle.pat_lengths.specs.Spans.{kept}
use Rattle.pat_lengths.proofs.PlainLemmas.{alike}
use Rattle.pat_lengths.proofs.SpanLemmas.{none_before}
use Rattle.pat_lengths.proofs.behind.settled_spans.Goals as goal

pub returns-then-not-names_groups-clause-kept : goal.returns-then-not-names_groups-clause-kept
returns-then-not-names_groups-clause-kept c k l =
    let t = c.args.tree.now in
    let unset = t.options.match_unset_backref in
    let whole = tree_of t in
    let told = c.in_ok-spans.ensures in
    let groups = none_before unset whole c.args.any
    (c.requires.any ∙ ap (λ b. unset || b) c.requires.table.shared) in
    told.kept unset whole (behind unset whole 0) groups k l
    ∙ ap kept (alike unset whole (behind unset whole 0) (behind unset whole (suc c.args.groups.now.count))
    (tree_at (trees t.nodes) k)
    (c.names_groups.ensures c.if-not-names_groups.true k (omega (arith, l, told.count))))
