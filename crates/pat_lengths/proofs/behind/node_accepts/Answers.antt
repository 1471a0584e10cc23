use Rattle.std.proofs.Common.{◌≡◌, ◌∙◌, ◌||◌, ℕ, false, length, refl, sym, ap}
use Rattle.std.specs.List.{list_any}
use Rattle.pat_tree.specs.Rules.{kids_of}
use Rattle.pat_lengths.specs.Nodes.{nodes, is_accept}
use Rattle.pat_lengths.specs.Passing.{flagged}
use Rattle.pat_lengths.proofs.KeepLemmas.{all_kept}
use Rattle.pat_lengths.proofs.KidLemmas.{any_first, or_false, is_open, no_accept}
use Rattle.pat_lengths.proofs.OrderLemmas.{nodes_at, same_any}
use Rattle.pat_lengths.proofs.behind.node_accepts.Goals as goal

pub returns-in-Look : goal.returns-in-Look
unfolding nodes
returns-in-Look c trees tests kept = rw c.in-Look.is refl

pub returns-in-VerbNode : goal.returns-in-VerbNode
unfolding nodes
returns-in-VerbNode c trees tests kept =
    let accept = c.is_accept.ensures trees in
    rw c.in-VerbNode.is (rw c.in-VerbNode.is at accept ∙ sym (or_false _))

pub returns-in_default : goal.returns-in_default
returns-in_default c trees tests kept =
    let n = c.args.node.now in
    let flags = flagged c.args.accepts.now in
    let under = λ (k : ℕ). list_any is_accept (nodes_at false trees k) in
    c.some_kid.ensures
    ∙ same_any flags under (kids_of n) (all_kept (λ k. flags k ≡ under k) (kids_of n) (length c.args.accepts.now) kept
    c.requires.below)
    ∙ ap (λ b. b || list_any under (kids_of n)) (sym (no_accept trees n c.in_default.not-VerbNode))
    ∙ sym (any_first is_accept false trees n (is_open n c.in_default.not-Look) tests)
