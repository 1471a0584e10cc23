use Rattle.std.proofs.Common.{refl, ◌≡◌, ℕ, ◌<◌, List, [], ◌∷◌, length, map, All, Some, slice_get, arith, sym, ◌∙◌}
use Rattle.std.proofs.Common.{subst}
use Rattle.std.proofs.lemmas.List.Elements.{All-head}
use Rattle.pat_tree.specs.declared.nodes.Placed.{Placed}
use Rattle.pat_tree.specs.Nested.{tree_at, trees}
use Rattle.pat_tree.specs.Growing.{Makes}
use Rattle.pat_tree.proofs.Growing.{makes_none}
use Rattle.pat_tree.proofs.Loose.{fresh_at_end}
use Rattle.pat_grammar.specs.Parts.{alternative}
use Rattle.pat_nodes.proofs.Extending.{none_taken, adds_node}
use Rattle.pat_nodes.proofs.nodes.alternative.Goals as goal

one_part : (ps : List Placed) (parts : List ℕ) (x : ℕ) → length parts ≡ 1 → slice_get parts 0 ≡ Some x
    → All (λ k. k < length ps) parts → Makes ps ps x (alternative (map (tree_at (trees ps)) parts))
one_part ps [] x one is below = absurd (omega (arith, one))
one_part ps (y ∷ []) x one is below =
    let same : y ≡ x = cc in
    subst (λ k. Makes ps ps k (tree_at (trees ps) y)) same
    (makes_none ps y (tree_at (trees ps) y) (All-head (λ k. k < length ps) y [] below) refl)
one_part ps (y ∷ z ∷ zs) x one is below = absurd (omega (arith, one))

pub add-requires-in_default-clause-fresh : goal.add-requires-in_default-clause-fresh
add-requires-in_default-clause-fresh c = fresh_at_end c.requires.loose

pub returns-in_ok-id-in-0-clause-adds : goal.returns-in_ok-id-in-0-clause-adds
returns-in_ok-id-in-0-clause-adds c = adds_node c.args.draft.now c.add.new.self _ c.in_ok-id-in-0.ensures.grows
    c.in_ok-id-in-0.ensures.refs refl refl c.in_ok-id-in-0.ensures.groups (λ n. refl)
    (none_taken c.args.draft.now.nodes)

pub returns-in_ok-id-in_default-clause-adds : goal.returns-in_ok-id-in_default-clause-adds
returns-in_ok-id-in_default-clause-adds c = adds_node c.args.draft.now c.add-in_default.new.self _
    c.in_ok-id-in_default.ensures.grows c.in_ok-id-in_default.ensures.refs refl refl
    c.in_ok-id-in_default.ensures.groups (λ n. refl) c.requires.loose

pub returns-in-1-clause-made : goal.returns-in-1-clause-made
returns-in-1-clause-made c = one_part c.args.draft.now.nodes c.args.parts c.get.result.now
    (sym c.len.ensures ∙ c.in-1.is) c.get.ensures c.requires.below
