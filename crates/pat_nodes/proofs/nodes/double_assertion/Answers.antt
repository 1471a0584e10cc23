use Rattle.std.proofs.Common.{◌≡◌, ◌<◌, ◌∙◌, ◌++◌, [], true, length, All, map, ap, refl, subst}
use Rattle.std.proofs.lemmas.List.Elements.{All-nil, All-cons}
use Rattle.pat_tree.specs.Growing.{EndsIn, is_fresh, loose}
use Rattle.pat_tree.specs.Nested.{tree_at, trees}
use Rattle.pat_tree.specs.Rules.{is_test}
use Rattle.pat_tree.proofs.Loose.{fresh_at_end}
use Rattle.pat_grammar.specs.Groups.{asserting, places_named}
use Rattle.pat_nodes.specs.Nodes.{HasTest}
use Rattle.pat_nodes.proofs.Conditions.{three_get}
use Rattle.pat_nodes.proofs.Extending.{closes_node}
use Rattle.pat_nodes.proofs.nodes.double_assertion.Goals as goal

pub add-requires-clause-kids : goal.add-requires-clause-kids
add-requires-clause-kids c = subst (λ ks. All (λ k. k < length c.args.draft.now.nodes) ks)
    (three_get c.args.branches c.get.result.now c.get-yes.result.now c.get-no.result.now c.requires.few c.get.ensures
    c.get-yes.ensures c.get-no.ensures) c.requires.branches

pub add-requires-clause-fresh : goal.add-requires-clause-fresh
add-requires-clause-fresh c = subst (λ ks. is_fresh (loose c.args.draft.now.nodes) ks ≡ true)
    (three_get c.args.branches c.get.result.now c.get-yes.result.now c.get-no.result.now c.requires.few c.get.ensures
    c.get-yes.ensures c.get-no.ensures) (fresh_at_end c.requires.loose)

pub add-requires-clause-test : goal.add-requires-clause-test
add-requires-clause-test c =
    let first = subst (λ ks. HasTest asserting (map (tree_at (trees c.args.draft.now.nodes)) ks))
    (three_get c.args.branches c.get.result.now c.get-yes.result.now c.get-no.result.now c.requires.few
    c.get.ensures c.get-yes.ensures c.get-no.ensures) c.requires.test in
    All-cons (λ k. is_test (tree_at (trees c.args.draft.now.nodes) k) ≡ true) c.get.result.now [] first (All-nil _)

pub returns-clause-made : goal.returns-clause-made
returns-clause-made c =
    rw (three_get c.args.branches c.get.result.now c.get-yes.result.now c.get-no.result.now c.requires.few
    c.get.ensures c.get-yes.ensures c.get-no.ensures) c.in_ok-id.ensures.made

pub returns-clause-loose : goal.returns-clause-loose
returns-clause-loose c front e = c.in_ok-id.ensures.replaces front
    (e ∙ ap (λ ks. front ++ ks) (three_get c.args.branches c.get.result.now c.get-yes.result.now c.get-no.result.now
    c.requires.few c.get.ensures c.get-yes.ensures c.get-no.ensures))

pub returns-clause-closes : goal.returns-clause-closes
unfolding places_named
returns-clause-closes c =
    let e = c.in_ok-id.ensures in
    closes_node c.args.draft.now c.add.new.self _ asserting e.grows e.refs refl refl e.groups (λ n. refl)
    (subst (EndsIn c.args.draft.now.nodes) (three_get c.args.branches c.get.result.now c.get-yes.result.now
    c.get-no.result.now c.requires.few c.get.ensures c.get-yes.ensures c.get-no.ensures) c.requires.loose)
