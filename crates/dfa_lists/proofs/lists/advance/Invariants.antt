use Rattle.std.proofs.Common.{◌≡◌, ◌+◌, ◌-◌, ◌≤◌, length, drop}
use Rattle.dfa_lists.specs.Searches.{scene_of}
use Rattle.dfa_lists.specs.Lists.{landed}
use Rattle.dfa_lists.proofs.lists.advance.Given as goal

abbrev pub invariant-leaves : goal.invariant-leaves
invariant-leaves g l = record {
  within : l.k ≤ length l.leaves;
  later : landed (scene_of l.search) l.search.nodes.now l.at (drop l.k l.leaves) l.later.items
      ≡ landed (scene_of l.search) l.search.nodes.now l.at l.leaves l.fn.later.items;
  tests : l.steps ≤ l.fn.steps + l.k;
}

abbrev pub decreases-leaves : goal.decreases-leaves
decreases-leaves g l = length l.leaves - l.k
