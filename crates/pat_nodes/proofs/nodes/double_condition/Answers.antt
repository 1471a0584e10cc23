use Rattle.std.proofs.Common.{◌≡◌, ◌<◌, ◌∙◌, ◌++◌, true, length, Some, All, append-nil, map, ap, refl, sym, subst}
use Rattle.std.proofs.lemmas.List.Elements.{All-nil}
use Rattle.pat_tree.specs.Growing.{EndsIn, is_fresh, loose}
use Rattle.pat_tree.specs.Nested.{trees}
use Rattle.pat_tree.proofs.Loose.{fresh_at_end}
use Rattle.pat_grammar.specs.Groups.{conditional, groups_in, places_named}
use Rattle.pat_nodes.specs.Nodes.{test_of}
use Rattle.pat_nodes.proofs.Conditions.{tests_none, cond_same, named_same, defines_none, two_get}
use Rattle.pat_nodes.proofs.Extending.{closes_node}
use Rattle.pat_nodes.proofs.nodes.double_condition.Goals as goal

pub add-requires-clause-kids : goal.add-requires-clause-kids
add-requires-clause-kids c =
    rw (c.cond_of.ensures, tests_none c.args.test)
    (subst (λ ks. All (λ k. k < length c.args.draft.now.nodes) ks)
    (two_get c.args.branches c.get.result.now c.get-no.result.now c.requires.few c.get.ensures c.get-no.ensures)
    c.requires.branches)

pub add-requires-clause-fresh : goal.add-requires-clause-fresh
add-requires-clause-fresh c =
    rw (c.cond_of.ensures, tests_none c.args.test)
    (subst (λ ks. is_fresh (loose c.args.draft.now.nodes) ks ≡ true)
    (two_get c.args.branches c.get.result.now c.get-no.result.now c.requires.few c.get.ensures c.get-no.ensures)
    (fresh_at_end c.requires.loose))

pub add-requires-clause-define : goal.add-requires-clause-define
add-requires-clause-define c = rw c.cond_of.ensures (defines_none c.args.test (Some c.get-no.result.now))

pub add-requires-clause-test : goal.add-requires-clause-test
add-requires-clause-test c = rw (c.cond_of.ensures, tests_none c.args.test) (All-nil _)

pub returns-clause-made : goal.returns-clause-made
returns-clause-made c =
    rw (two_get c.args.branches c.get.result.now c.get-no.result.now c.requires.few c.get.ensures c.get-no.ensures)
    (rw (c.cond_of.ensures, cond_same (trees c.args.draft.now.nodes) c.args.test) at c.in_ok-id.ensures.made)

pub returns-clause-loose : goal.returns-clause-loose
returns-clause-loose c front e =
    (rw (c.cond_of.ensures, tests_none c.args.test) at c.in_ok-id.ensures.replaces) front
    (e ∙ ap (λ ks. front ++ ks) (two_get c.args.branches c.get.result.now c.get-no.result.now c.requires.few
    c.get.ensures c.get-no.ensures))

pub returns-clause-closes : goal.returns-clause-closes
unfolding places_named
returns-clause-closes c =
    let e = rw c.cond_of.ensures at c.in_ok-id.ensures in
    closes_node c.args.draft.now c.add.new.self _ (conditional (test_of c.args.test)) e.grows e.refs
    (rw (named_same c.args.test) (sym (append-nil (map (λ k. (c.args.at, k)) (groups_in (test_of c.args.test))))))
    (rw (named_same c.args.test) refl) e.groups (λ n. refl)
    (rw (tests_none c.args.test) (subst (EndsIn c.args.draft.now.nodes)
    (two_get c.args.branches c.get.result.now c.get-no.result.now c.requires.few c.get.ensures
    c.get-no.ensures) c.requires.loose))
