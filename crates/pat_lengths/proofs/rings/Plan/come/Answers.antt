use Rattle.std.proofs.Common.{◌∙◌, ◌≤◌, All, subst, sym}
use Rattle.pat_tree.specs.Nested.{trees}
use Rattle.pat_tree.specs.Parts.{tree_of}
use Rattle.pat_lengths.proofs.RingLemmas.{all_within}
use Rattle.pat_lengths.proofs.rings.Plan.come.Goals as goal

pub returns-in_ok-wait_for : goal.returns-in_ok-wait_for
returns-in_ok-wait_for c =
    let t = c.args.tree.now in
    let told = c.node.ensures in
    record {
      waiting = c.in_ok-wait_for.ensures t.root c.requires.below
          (subst (All (λ k. k ≤ t.root)) (sym (c.as_slice.ensures.value ∙ c.in_ok-next_of.ensures))
          (all_within (tree_of t) (trees t.nodes) t.root c.args.groups.now.places.items c.requires.table.places
          c.args.id c.node.result.now told.is told.rules.test told.below c.requires.below)) c.requires.plan.waiting;
      order = c.requires.plan.order;
    }
