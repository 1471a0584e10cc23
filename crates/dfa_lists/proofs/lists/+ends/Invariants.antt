use Rattle.std.proofs.Common.{◌≡◌, ◌+◌, ◌-◌, ◌*◌, ◌<◌, length, drop, Some}
use Rattle.std.specs.Prelude.{IfSome}
use Rattle.match_items.specs.Items.{places_back}
use Rattle.dfa_paths.specs.Graph.{IsFlat, Tried}
use Rattle.dfa_lists.specs.Searches.{scene_of, PathsOf, MeetsOf, IsPlaceOf}
use Rattle.dfa_lists.specs.Tries.{places_of}
use Rattle.dfa_lists.proofs.Closing.{Going, unmarked}
use Rattle.dfa_lists.proofs.Running.{Running}
use Rattle.dfa_lists.proofs.Telling.{GoingTold, RunningTold, Probing}
use Rattle.dfa_lists.proofs.BranchTries.{Trying}
use Rattle.dfa_lists.proofs.lists.+ends.Given as goal

abbrev pub decreases-ends_of : goal.decreases-ends_of
decreases-ends_of g l = l.depth * 16 + 8

abbrev pub decreases-take_place : goal.decreases-take_place
decreases-take_place g l = l.depth * 16 + 7

abbrev pub decreases-close : goal.decreases-close
decreases-close g l = l.depth * 16 + 6

abbrev pub decreases-visit : goal.decreases-visit
decreases-visit g l = l.depth * 16 + 5

abbrev pub decreases-ask : goal.decreases-ask
decreases-ask g l = l.depth * 16 + 4

abbrev pub decreases-probe : goal.decreases-probe
decreases-probe g l = l.depth * 16 + 3

abbrev pub invariant-probe-branches : goal.invariant-probe-branches
invariant-probe-branches g l = record {
  inside : l.state < length l.search.nodes.now;
  probing : Probing (scene_of l.search) l.search.nodes.now l.search.counts
      (MeetsOf l.search l.depth) l.at l.branch l.state
      l.fn.told l.told;
}

abbrev pub decreases-probe-branches : goal.decreases-probe-branches
decreases-probe-branches g l = length l.search.nodes.now - l.state

abbrev pub decreases-end_behind : goal.decreases-end_behind
decreases-end_behind g l = l.depth * 16 + 2

abbrev pub invariant-end_behind-tries : goal.invariant-end_behind-tries
invariant-end_behind-tries g l = record {
  trying : Trying (Tried (PathsOf l.search l.depth) (Some l.fn.back) l.at l.entry)
      (MeetsOf l.search l.depth l.entry)
      (drop l.fn.back.least (places_back (scene_of l.search) l.fn.back.most l.at))
      (places_of (scene_of l.search) l.next) l.some l.fn.told l.told;
  place : IfSome l.next (λ t. IsPlaceOf l.search t.place);
}

abbrev pub decreases-end_behind-tries : goal.decreases-end_behind-tries
decreases-end_behind-tries g l = length (places_of (scene_of l.search) l.next)

abbrev pub decreases-end_of_try : goal.decreases-end_of_try
decreases-end_of_try g l = l.depth * 16 + 1

abbrev pub decreases-ends_at : goal.decreases-ends_at
decreases-ends_at g l = l.depth * 16

abbrev pub decreases-furthest : goal.decreases-furthest
decreases-furthest g l = l.depth * 16

abbrev pub invariant-close-seeds : goal.invariant-close-seeds
invariant-close-seeds g l = record {
  going : Going (scene_of l.search) l.search.nodes.now (PathsOf l.search l.depth) l.at
      l.fn.lists.seeds.items l.lists.seeds.items l.lists.marks.items l.lists.leaves.items
      l.fn.lists.later.items l.lists.later.items l.hit;
  told : GoingTold (scene_of l.search) l.search.nodes.now (PathsOf l.search l.depth)
      (MeetsOf l.search l.depth) l.search.counts l.at
      l.fn.lists.seeds.items l.lists.marks.items l.fn.lists.told l.lists.told;
  tests : IsFlat l.search.nodes.now → l.steps ≡ l.fn.steps;
}

abbrev pub decreases-close-seeds : goal.decreases-close-seeds
decreases-close-seeds g l = 3 * unmarked l.lists.marks.items + length l.lists.seeds.items

abbrev pub invariant-ends_of-places : goal.invariant-ends_of-places
invariant-ends_of-places g l = record {
  running : Running (scene_of l.search) l.search.nodes.now (PathsOf l.search l.depth) l.entry
      l.place l.at
      l.lists.pending.items l.found l.fn.steps l.steps;
  told : RunningTold (scene_of l.search) l.search.nodes.now l.search.counts
      (PathsOf l.search l.depth) (MeetsOf l.search l.depth) l.entry l.place
      l.lists.pending.items l.lists.told;
}

abbrev pub decreases-ends_of-places : goal.decreases-ends_of-places
decreases-ends_of-places g l = length l.search.view.now.subject.now + 1 - l.at
