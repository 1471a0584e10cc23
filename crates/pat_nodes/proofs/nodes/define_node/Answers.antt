use Rattle.std.proofs.Common.{◌≡◌, ◌<◌, ◌∙◌, ◌++◌, true, length, All, refl, ap, subst}
use Rattle.pat_tree.specs.Growing.{EndsIn, is_fresh, loose}
use Rattle.pat_tree.proofs.Loose.{fresh_at_end}
use Rattle.pat_grammar.specs.Groups.{defines, places_named}
use Rattle.pat_nodes.proofs.Conditions.{one_get}
use Rattle.pat_nodes.proofs.Extending.{closes_node}
use Rattle.pat_nodes.proofs.nodes.define_node.Goals as goal

pub add-requires-clause-kids : goal.add-requires-clause-kids
add-requires-clause-kids c =
    subst (λ ks. All (λ k. k < length c.args.draft.now.nodes) ks)
    (one_get c.args.branches c.get.result.now c.requires.few c.get.ensures) c.requires.branches

pub add-requires-clause-fresh : goal.add-requires-clause-fresh
add-requires-clause-fresh c =
    subst (λ ks. is_fresh (loose c.args.draft.now.nodes) ks ≡ true)
    (one_get c.args.branches c.get.result.now c.requires.few c.get.ensures) (fresh_at_end c.requires.loose)

pub returns-clause-made : goal.returns-clause-made
returns-clause-made c = rw (one_get c.args.branches c.get.result.now c.requires.few c.get.ensures)
    c.in_ok-id.ensures.made

pub returns-clause-loose : goal.returns-clause-loose
returns-clause-loose c front e =
    c.in_ok-id.ensures.replaces front
    (e ∙ ap (λ ks. front ++ ks) (one_get c.args.branches c.get.result.now c.requires.few c.get.ensures))

pub returns-clause-closes : goal.returns-clause-closes
unfolding places_named
returns-clause-closes c =
    let e = c.in_ok-id.ensures in
    let last = subst (EndsIn c.args.draft.now.nodes)
    (one_get c.args.branches c.get.result.now c.requires.few c.get.ensures) c.requires.loose in
    closes_node c.args.draft.now c.add.new.self _ defines e.grows e.refs refl refl e.groups (λ n. refl) last
