use Rattle.std.proofs.Common.{◌≡◌, ◌∙◌, ℕ, Bool, true, [], ◌∷◌, length, List, nat_lt, refl, arith}
use Rattle.std.specs.List.{list_any}
use Rattle.pat_tree.specs.Nested.{tree_at}
use Rattle.pat_tree.specs.Rules.{kids_of}
use Rattle.pat_lengths.specs.Nodes.{nodes, named_in}
use Rattle.pat_lengths.specs.Passing.{flagged}
use Rattle.pat_lengths.proofs.KeepLemmas.{all_kept}
use Rattle.pat_lengths.proofs.KidLemmas.{named_alone, named_first, no_names}
use Rattle.pat_lengths.proofs.rounds.node_names.Goals as goal

some_named : (ns : List ℕ) → nat_lt 0 (length ns) ≡ list_any (λ n. true) ns
some_named [] = grind arith
some_named (n ∷ ns) = grind arith

pub returns-in-Call : goal.returns-in-Call
unfolding nodes
returns-in-Call c trees tests kept = rw c.in-Call.is refl

pub returns-in-Ref : goal.returns-in-Ref
unfolding nodes
returns-in-Ref c trees tests kept =
    rw c.in-Ref.is (rw c.len.ensures (some_named c.in-Ref.groups ∙ named_alone (λ n. true) c.in-Ref.groups))

pub returns-in_default : goal.returns-in_default
returns-in_default c trees tests kept =
    let p : ℕ → Bool = λ n. true in
    let n = c.args.node.now in
    let flags = flagged c.args.naming.now in
    c.some_kid.ensures
    ∙ named_first p trees flags n (no_names trees n c.in_default.not-Call c.in_default.not-Ref) tests
    (all_kept (λ k. flags k ≡ list_any p (named_in (tree_at trees k))) (kids_of n) (length c.args.naming.now) kept
    c.requires.below)
