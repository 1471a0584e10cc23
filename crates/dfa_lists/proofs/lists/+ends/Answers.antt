use Rattle.std.proofs.Common.{◌≡◌, ◌∙◌, ◌+◌, ◌++◌, ◌∷◌, ◌-◌, suc, ◌<◌, ◌≤◌, [], refl, sym, ap, subst, length, drop}
use Rattle.std.proofs.Common.{Some, None, false, arith, rules}
use Rattle.std.proofs.lemmas.Bool.{true≢false}
use Rattle.std.proofs.lemmas.Grind.{common_steps}
use Rattle.std.specs.Prelude.{◌||◌, slice_index_or, IfSome}
use Rattle.pat_tree.specs.declared.nodes.Item.TheVariants.{Char}
use Rattle.dfa_paths.specs.declared.graph.Node.TheVariants.{One}
use Rattle.dfa_paths.specs.Graph.{Deep, AllBelow, IsNodeIn, IsFurthest, Tried}
use Rattle.dfa_lists.specs.Lists.{landed}
use Rattle.dfa_lists.specs.Searches.{scene_of, PathsOf, MeetsOf, IsPlaceOf}
use Rattle.dfa_paths.proofs.Places.{get_of}
use Rattle.dfa_lists.proofs.Closing as closing
use Rattle.dfa_lists.proofs.Closing.{popped_in, popped_marks, passed_over, visited, fewer, read_mark}
use Rattle.dfa_lists.proofs.Running.{starts, goes_on, stands_here, waiting_below, below_like, leaves_in}
use Rattle.dfa_lists.proofs.Running.{place_follows, none_taken, all_found, no_end, last_found}
use Rattle.dfa_lists.proofs.Following.{no_more, deep_stand}
use Rattle.dfa_lists.proofs.BranchTries.{no_place_try, place_try, furthest_try, end_is, first_trying, later_trying}
use Rattle.dfa_lists.proofs.BranchTries.{rest_is, all_tried, told_of_all, none_left, ended_behind}
use Rattle.dfa_lists.specs.Tries.{IsTryEnd, places_of}
use Rattle.match_items.specs.Items.{places_back}
use Rattle.dfa_lists.proofs.Visits.{look_visit, ends_here, atomic_visit}
use Rattle.dfa_lists.proofs.Visits.{plain_node, plain_visits}
use Rattle.dfa_paths.specs.Meets.{DeepMeets, IsTold}
use Rattle.dfa_lists.proofs.Telling.{told_not, told_or, told_like, begin_probing, branch_inside, on_probed}
use Rattle.dfa_lists.proofs.Telling.{asked_some, end_probed, probed_all, begin_told, visited_told, closed_told}
use Rattle.dfa_lists.proofs.Telling.{starts_told}
use Rattle.dfa_lists.proofs.Telling.{told_follows, none_told, all_told, plain_tells, look_told, atomic_told}
use Rattle.dfa_lists.proofs.lists.+ends.Goals as goal
use Rattle.dfa_lists.proofs.lists.+ends.Goals.{ends_of-then-not-is_empty+in_ok-take_place, ends_of-else-not-is_empty}

-- ends_of

pub ends_of-places-init : goal.ends_of-places-init
ends_of-places-init g t c = record {
  running = starts _ _ _ _ _ _ _ _ c.requires.place c.requires.entry
      c.in_ok-begin.ensures.pending
      c.new-found.ensures;
  told = starts_told _ _ _ _ _ _ _ _ _ c.in_ok-begin.ensures.pending c.in_ok-begin.ensures.told;
}

pub ends_of-take_place-requires : goal.ends_of-take_place-requires
ends_of-take_place-requires g t c =
    let l : 0 < length c.part_lists.new.lists.seeds.items = grind
    (arith, common_steps, c.is_empty-in-places.ensures, c.if-not-is_empty.true) in
    let here : IsPlaceOf c.args.search.now c.places.at
    = stands_here _ _ _ _ _ _ _ _ _ _ c.places.invariant.running c.part_lists.new.lists.seeds.items
    c.in_ok-part_lists.ensures.seeds l in
    let seeds : AllBelow (length c.args.search.now.nodes.now) c.part_lists.new.lists.seeds.items
    = below_like _ _ _ c.in_ok-part_lists.ensures.seeds
    (waiting_below _ _ _ _ _ _ _ _ _ _ c.places.invariant.running) in
    search rules

pub ends_of-places-smaller : goal.ends_of-places-smaller
ends_of-places-smaller g t c =
    let l : 0 < length c.places.lists.pending.items = grind (arith, common_steps, c.is_empty.ensures) in
    let s = goes_on _ _ _ _ _ _ _ _ _ _ c.places.invariant.running l in
    omega (arith, s)

pub ends_of-places-preserved : goal.ends_of-places-preserved
ends_of-places-preserved g t c =
    let l : 0 < length c.places.lists.pending.items = grind (arith, common_steps, c.is_empty.ensures) in
    let s = c.args.search.now in
    let scene = scene_of s in
    let along = c.places_stand.ensures scene c.requires.search.subject in
    let inner = deep_stand scene s.nodes.now c.args.depth along in
    elim c.if-not-is_empty.branch [
      | ends_of-then-not-is_empty+in_ok-take_place w ↦
          rw (c.swap.ensures.x_after, w.lists-is, w.found-is, w.steps-is)
          (record {
            running = place_follows scene _ _ _ _ _ _ _ _ _ _ _ _ _ _ _ _ along inner
                c.requires.search.graph c.places.invariant.running l refl
                c.in_ok-part_lists.ensures.seeds c.in_ok-part_lists.ensures.later
                w.in_ok-take_place.ensures.taken;
            told = told_follows scene _ _ _ _ _ _ _ _ _ _ _ _ _ _ _ _ _ _ _ _ along inner
                c.requires.search.graph c.places.invariant.running l refl
                c.in_ok-part_lists.ensures.seeds c.in_ok-part_lists.ensures.later
                w.in_ok-take_place.ensures.taken c.places.invariant.told
                (told_like _ _ _ _ c.in_ok-part_lists.ensures.told
                w.in_ok-take_place.ensures.told);
          })
      | ends_of-else-not-is_empty w ↦
          let e : length c.part_lists.new.lists.seeds.items ≡ 0 = grind
          (arith, common_steps, c.is_empty-in-places.ensures, w.if-not-is_empty.false) in
          let taken = none_taken scene s.nodes.now (PathsOf s c.args.depth)
          c.places.at c.part_lists.new.lists.seeds.items c.places.found
          c.part_lists.new.lists.later.items c.places.steps e in
          rw (c.swap.ensures.x_after, w.lists-is, w.found-is, w.steps-is)
          (record {
            running = place_follows scene _ _ _ _ _ _ _ _ _ _ _ _ _ _ _ _ along inner
                c.requires.search.graph c.places.invariant.running l refl
                c.in_ok-part_lists.ensures.seeds c.in_ok-part_lists.ensures.later taken;
            told = told_follows scene _ _ _ _ _ _ _ _ _ _ _ _ _ _ _ _ _ _ _ _ along inner
                c.requires.search.graph c.places.invariant.running l refl
                c.in_ok-part_lists.ensures.seeds c.in_ok-part_lists.ensures.later taken
                c.places.invariant.told
                (none_told scene _ _ _ _ _ _ _ _ e c.in_ok-part_lists.ensures.told);
          })
    ]

pub ends_of-returns-clause-full : goal.ends_of-returns-clause-full
unfolding Deep
ends_of-returns-clause-full g t c =
    let e : c.places.lists.pending.items ≡ [] = grind (arith, common_steps, c.is_empty.ensures) in
    all_found _ _ _ _ _ _ _ _ _ _ c.places.invariant.running e

pub ends_of-returns-clause-sound : goal.ends_of-returns-clause-sound
unfolding Deep
ends_of-returns-clause-sound g t c = c.places.invariant.running.sound

pub ends_of-returns-clause-tests : goal.ends_of-returns-clause-tests
ends_of-returns-clause-tests g t c flat = no_more _ _ _ (c.places.invariant.running.few flat)

pub ends_of-returns-clause-hit : goal.ends_of-returns-clause-hit
unfolding DeepMeets
ends_of-returns-clause-hit g t c = c.places.invariant.told.sound

pub ends_of-returns-clause-all_hit : goal.ends_of-returns-clause-all_hit
unfolding DeepMeets
ends_of-returns-clause-all_hit g t c =
    let e : c.places.lists.pending.items ≡ [] = grind (arith, common_steps, c.is_empty.ensures) in
    all_told _ _ _ _ _ _ _ _ _ e c.places.invariant.told

-- take_place

pub take_place-advance-requires-clause-leaves : goal.take_place-advance-requires-clause-leaves
take_place-advance-requires-clause-leaves g t c =
    below_like _ _ _ c.deref.ensures.value
    (leaves_in _ _ _ _ _ _ _ _ c.in_ok-hit.ensures.closed.2)

pub take_place-returns-clause-taken : goal.take_place-returns-clause-taken
take_place-returns-clause-taken g t c = record {
  leaves = c.close.new.lists.leaves.items;
  leaps = c.in_ok-hit.ensures.closed.0;
  hit = c.in_ok-hit.hit;
  closed = c.in_ok-hit.ensures.closed.2;
  found_is = c.in_ok-note.ensures;
  later_is = c.in_ok-advance.ensures.later ∙ ap
      (λ xs. landed (scene_of c.args.search.now) c.args.search.now.nodes.now c.args.at xs
      c.close.new.lists.later.items)
      c.deref.ensures.value
      ∙ ap (λ ss. landed (scene_of c.args.search.now) c.args.search.now.nodes.now c.args.at
      c.close.new.lists.leaves.items ss) c.in_ok-hit.ensures.closed.1;
  few = λ flat. (
      let same = c.in_ok-hit.ensures.tests flat in
      let tests = subst (λ xs. c.advance.new.steps ≤ c.close.new.steps + length xs)
      c.deref.ensures.value c.in_ok-advance.ensures.tests in
      omega (arith, same, tests));
}

-- close

pub close-seeds-init : goal.close-seeds-init
close-seeds-init g t c = record {
  going = closing.begin _ _ _ _ _ _ _ _ c.requires.marks c.requires.seeds c.requires.leaves;
  told = begin_told _ _ _ _ _ _ _ _ _ c.requires.marks;
  tests = λ flat. refl;
}

pub close-index-requires : goal.close-index-requires
close-index-requires g t c =
    let l = popped_marks _ _ _ _ _ _ _ _ _ _ _ _ _ c.in-Some.ensures.items
    c.seeds.invariant.going in
    grind (arith, l, common_steps)

pub close-index_mut-requires : goal.close-index_mut-requires
close-index_mut-requires g t c =
    let l = popped_marks _ _ _ _ _ _ _ _ _ _ _ _ _ c.in-Some.ensures.items
    c.seeds.invariant.going in
    grind (arith, l, common_steps)

pub close-bounds-search-q : goal.close-bounds-search-q
close-bounds-search-q g t c =
    popped_in _ _ _ _ _ _ _ _ _ _ _ _ _ c.in-Some.ensures.items c.seeds.invariant.going

pub close-visit-requires : goal.close-visit-requires
close-visit-requires g t c =
    let l = popped_in _ _ _ _ _ _ _ _ _ _ _ _ _ c.in-Some.ensures.items
    c.seeds.invariant.going in
    let s = c.args.search.now in
    let node : IsNodeIn (length s.nodes.now) (length s.classes.now)
    (slice_index_or s.nodes.now c.in-Some.state (One (Char 0 false) 0))
    = c.requires.search.graph _ _ (get_of s.nodes.now c.in-Some.state (One (Char 0 false) 0) l) in
    search rules

pub close-seeds-smaller-then-not-index : goal.close-seeds-smaller-then-not-index
close-seeds-smaller-then-not-index g t c =
    let l = popped_marks _ _ _ _ _ _ _ _ _ _ _ _ _ c.in-Some.ensures.items
    c.seeds.invariant.going in
    fewer _ _ _ _ _ _ _ _ _ _ _ _ _ c.in-Some.ensures.items c.seeds.invariant.going _ _ _ _
    (read_mark _ _ _ _ l c.index.ensures c.if-not-index.true) c.in_ok-is_end.ensures.marks
    c.in_ok-is_end.ensures.visited

pub close-seeds-preserved-then-not-index : goal.close-seeds-preserved-then-not-index
close-seeds-preserved-then-not-index g t c =
    let l = popped_marks _ _ _ _ _ _ _ _ _ _ _ _ _ c.in-Some.ensures.items
    c.seeds.invariant.going in
    let m = popped_in _ _ _ _ _ _ _ _ _ _ _ _ _ c.in-Some.ensures.items
    c.seeds.invariant.going in
    record {
      going = visited _ _ _ _ _ _ _ _ _ _ _ _ _ c.in-Some.ensures.items c.seeds.invariant.going
          _ _ (get_of _ _ _ m) c.requires.search.graph
          (read_mark _ _ _ _ l c.index.ensures c.if-not-index.true) _ _ _ _ _
          c.in_ok-is_end.ensures.marks c.in_ok-is_end.ensures.visited
          c.in_ok-is_end.ensures.leaves
          (c.tell.ensures ∙ ap (λ b. c.seeds.hit || b) c.in_ok-is_end.ensures.hit);
      told = visited_told _ _ _ _ _ _ _ _ _ _ _ _ _ _ _ _ _ _ _ _ c.in-Some.ensures.items
          c.seeds.invariant.going (get_of _ _ _ m) c.in_ok-is_end.ensures.marks
          c.in_ok-is_end.ensures.told c.seeds.invariant.told;
      tests = λ flat. c.in_ok-is_end.ensures.tests (flat _ _ (get_of _ _ _ m))
          ∙ c.seeds.invariant.tests flat;
    }

pub close-seeds-preserved : goal.close-seeds-preserved
close-seeds-preserved g t c =
    let l = popped_marks _ _ _ _ _ _ _ _ _ _ _ _ _ c.in-Some.ensures.items
    c.seeds.invariant.going in
    record {
      going = passed_over _ _ _ _ _ _ _ _ _ _ _ _ _ c.in-Some.ensures.items
          c.seeds.invariant.going
          (read_mark _ _ _ _ l c.index.ensures c.if-not-index.false);
      told = c.seeds.invariant.told;
      tests = c.seeds.invariant.tests;
    }

pub close-returns-clause-closed : goal.close-returns-clause-closed
close-returns-clause-closed g t c =
    closing.closed _ _ _ _ _ _ _ _ _ _ _ (grind (arith, common_steps, c.in_default.ensures))
    c.seeds.invariant.going

pub close-returns-clause-told : goal.close-returns-clause-told
close-returns-clause-told g t c =
    closed_told _ _ _ _ _ _ _ _ _ _ _ _ _ _ _ (grind (arith, common_steps, c.in_default.ensures))
    c.seeds.invariant.going c.seeds.invariant.told

-- visit

pub visit-returns-in_default-clause-visited : goal.visit-returns-in_default-clause-visited
visit-returns-in_default-clause-visited g t c =
    let s = c.args.search.now in
    plain_visits c.visit_plain.result (scene_of s) (PathsOf s c.args.depth)
    c.args.node c.args.at c.args.lists.now.seeds.items c.visit_plain.new.lists.seeds.items
    c.args.lists.now.later.items c.visit_plain.new.lists.later.items c.in_default.not-Look
    c.in_default.not-Atomic c.visit_plain.ensures.seeds c.visit_plain.ensures.later

pub visit-returns-in_default-clause-told : goal.visit-returns-in_default-clause-told
visit-returns-in_default-clause-told g t c =
    let s = c.args.search.now in
    plain_tells c.visit_plain.result s.view.now s.classes.now s.nodes.now s.counts
    (PathsOf s c.args.depth) (MeetsOf s c.args.depth) c.args.node c.args.at
    c.args.lists.now.told c.visit_plain.new.lists.told
    (plain_node c.args.node c.in_default.not-Look c.in_default.not-Atomic)
    c.visit_plain.ensures.told

pub visit-returns-in_ok-push-in-Look-clause-told : goal.visit-returns-in_ok-push-in-Look-clause-told
visit-returns-in_ok-push-in-Look-clause-told g t c =
    let s = c.args.search.now in
    rw c.in-Look.is
    (look_told (scene_of s) s.nodes.now s.counts (PathsOf s c.args.depth)
    (MeetsOf s c.args.depth) c.in-Look.back c.in-Look.entry
    c.in-Look.hit c.in-Look.miss c.args.at _ _ c.in_ok-some-in-Look.ensures.told)

pub visit-returns-in_ok-go_on-in-Atomic-clause-told : goal.visit-returns-in_ok-go_on-in-Atomic-clause-told
visit-returns-in_ok-go_on-in-Atomic-clause-told g t c =
    let s = c.args.search.now in
    rw c.in-Atomic.is
    (atomic_told (scene_of s) s.nodes.now s.counts (PathsOf s c.args.depth)
    (MeetsOf s c.args.depth) c.in-Atomic.entry
    c.in-Atomic.next c.args.at _ _ c.in_ok-far-in-Atomic.ensures.told)

pub visit-returns-in_ok-push-in-Look-clause-visited : goal.visit-returns-in_ok-push-in-Look-clause-visited
visit-returns-in_ok-push-in-Look-clause-visited g t c =
    rw c.in-Look.is
    (look_visit _ _ _ _ _ _ _ _ _ _ _ c.in_ok-some-in-Look.ensures.behind
    (c.in_ok-push-in-Look.ensures.items ∙ ap (λ q. c.args.lists.now.seeds.items ++ q ∷ []) c.way.ensures))

pub visit-returns-in_ok-go_on-in-Atomic-clause-visited : goal.visit-returns-in_ok-go_on-in-Atomic-clause-visited
visit-returns-in_ok-go_on-in-Atomic-clause-visited g t c =
    let s = c.args.search.now in
    let scene = scene_of s in
    let along = c.places_stand.ensures scene c.requires.search.subject in
    rw c.in-Atomic.is
    (atomic_visit scene (PathsOf s c.args.depth) _ _ _ _ _ _ _ _
    (deep_stand scene s.nodes.now c.args.depth along) c.requires.place
    c.in_ok-far-in-Atomic.ensures.furthest c.in_ok-go_on-in-Atomic.ensures.seeds
    c.in_ok-go_on-in-Atomic.ensures.later)

-- furthest

pub furthest-returns-then-depth-eq0-clause-furthest : goal.furthest-returns-then-depth-eq0-clause-furthest
unfolding Deep
furthest-returns-then-depth-eq0-clause-furthest g t c k h =
    subst (λ d. PathsOf c.args.search.now d c.args.entry c.args.place k) c.if-depth-eq0.true h

pub furthest-returns-then-depth-eq0-clause-told : goal.furthest-returns-then-depth-eq0-clause-told
unfolding DeepMeets
furthest-returns-then-depth-eq0-clause-told g t c =
    told_not _ _ _ refl
    (λ h. subst (λ d. MeetsOf c.args.search.now d c.args.entry c.args.place) c.if-depth-eq0.true h)

pub furthest-returns-in-0-clause-furthest : goal.furthest-returns-in-0-clause-furthest
furthest-returns-in-0-clause-furthest g t c =
    let s = c.args.search.now in
    let level : suc (c.args.depth - 1) ≡ c.args.depth = omega (arith, c.if-depth-eq0.false) in
    subst (λ d. IsFurthest (PathsOf s d) c.args.entry c.args.place None) level
    (no_end (PathsOf s (suc (c.args.depth - 1))) c.args.entry c.args.place
    c.in_ok-set.set.ends (sym c.len.ensures ∙ c.in-0.is) c.in_ok-set.ensures.full)

pub furthest-returns-in-0-clause-told : goal.furthest-returns-in-0-clause-told
furthest-returns-in-0-clause-told g t c =
    let s = c.args.search.now in
    let level : suc (c.args.depth - 1) ≡ c.args.depth = omega (arith, c.if-depth-eq0.false) in
    subst (λ d. IsTold (MeetsOf s d c.args.entry c.args.place)
    c.args.told.now c.tell.new.told) level
    (told_or _ _ _ _ c.tell.ensures c.in_ok-set.ensures.hit c.in_ok-set.ensures.all_hit)

pub furthest-returns-clause-furthest : goal.furthest-returns-clause-furthest
furthest-returns-clause-furthest g t c =
    let s = c.args.search.now in
    let level : suc (c.args.depth - 1) ≡ c.args.depth = omega (arith, c.if-depth-eq0.false) in
    subst (λ d. IsFurthest (PathsOf s d) c.args.entry c.args.place
    (Some c.get.result.now)) level
    (last_found (PathsOf s (suc (c.args.depth - 1))) c.args.entry c.args.place
    c.in_ok-set.set.ends c.len.result c.get.result.now c.len.ensures c.get.ensures
    c.in_ok-set.ensures.rising c.in_ok-set.ensures.sound c.in_ok-set.ensures.full)

pub furthest-returns-clause-told : goal.furthest-returns-clause-told
furthest-returns-clause-told g t c =
    let s = c.args.search.now in
    let level : suc (c.args.depth - 1) ≡ c.args.depth = omega (arith, c.if-depth-eq0.false) in
    subst (λ d. IsTold (MeetsOf s d c.args.entry c.args.place)
    c.args.told.now c.tell.new.told) level
    (told_or _ _ _ _ c.tell.ensures c.in_ok-set.ensures.hit c.in_ok-set.ensures.all_hit)

-- ends_at

pub ends_at-returns-then-depth-eq0-clause-end : goal.ends_at-returns-then-depth-eq0-clause-end
unfolding Deep
ends_at-returns-then-depth-eq0-clause-end g t c =
    no_place_try (PathsOf c.args.search.now c.args.depth) c.args.entry c.args.from c.args.at
    (λ h. subst (λ d. PathsOf c.args.search.now d c.args.entry c.args.from c.args.at) c.if-depth-eq0.true h)

pub ends_at-returns-then-depth-eq0-clause-told : goal.ends_at-returns-then-depth-eq0-clause-told
unfolding DeepMeets
ends_at-returns-then-depth-eq0-clause-told g t c =
    told_not _ _ _ refl
    (λ h. subst (λ d. MeetsOf c.args.search.now d c.args.entry c.args.from) c.if-depth-eq0.true h)

pub ends_at-returns-then-has_end-clause-end : goal.ends_at-returns-then-has_end-clause-end
ends_at-returns-then-has_end-clause-end g t c =
    let s = c.args.search.now in
    let level : suc (c.args.depth - 1) ≡ c.args.depth = omega (arith, c.if-depth-eq0.false) in
    subst (λ d. IsTryEnd (PathsOf s d) c.args.entry c.args.from false c.args.at (Some c.args.at)) level
    (place_try (PathsOf s (suc (c.args.depth - 1))) c.args.entry c.args.from c.args.at
    (c.in_ok-found.ensures.sound c.args.at (c.has_end.ensures.has c.if-has_end.true)))

pub ends_at-returns-then-has_end-clause-told : goal.ends_at-returns-then-has_end-clause-told
ends_at-returns-then-has_end-clause-told g t c =
    let s = c.args.search.now in
    let level : suc (c.args.depth - 1) ≡ c.args.depth = omega (arith, c.if-depth-eq0.false) in
    subst (λ d. IsTold (MeetsOf s d c.args.entry c.args.from) c.args.told.now c.tell.new.told) level
    (told_or _ _ _ _ c.tell.ensures c.in_ok-found.ensures.hit c.in_ok-found.ensures.all_hit)

pub ends_at-returns-clause-end : goal.ends_at-returns-clause-end
ends_at-returns-clause-end g t c =
    let s = c.args.search.now in
    let level : suc (c.args.depth - 1) ≡ c.args.depth = omega (arith, c.if-depth-eq0.false) in
    subst (λ d. IsTryEnd (PathsOf s d) c.args.entry c.args.from false c.args.at None) level
    (no_place_try (PathsOf s (suc (c.args.depth - 1))) c.args.entry c.args.from c.args.at
    (λ b. true≢false (sym (c.has_end.ensures.has_not (c.in_ok-found.ensures.full c.args.at b))
    ∙ c.if-has_end.false)))

pub ends_at-returns-clause-told : goal.ends_at-returns-clause-told
ends_at-returns-clause-told g t c =
    let s = c.args.search.now in
    let level : suc (c.args.depth - 1) ≡ c.args.depth = omega (arith, c.if-depth-eq0.false) in
    subst (λ d. IsTold (MeetsOf s d c.args.entry c.args.from) c.args.told.now c.tell.new.told) level
    (told_or _ _ _ _ c.tell.ensures c.in_ok-found.ensures.hit c.in_ok-found.ensures.all_hit)

-- end_of_try

pub end_of_try-returns-then-each-clause-end : goal.end_of_try-returns-then-each-clause-end
end_of_try-returns-then-each-clause-end g t c =
    furthest_try c.furthest.result (PathsOf c.args.search.now c.args.depth) c.args.entry c.args.from c.args.at
    c.args.each c.if-each.true c.furthest.ensures.furthest

pub end_of_try-returns-clause-end : goal.end_of_try-returns-clause-end
end_of_try-returns-clause-end g t c = rw c.if-each.false c.ends_at.ensures.end

-- end_behind

pub end_behind-tries-init : goal.end_behind-tries-init
end_behind-tries-init g t c =
    let s = c.args.search.now in
    record {
      trying = first_trying (Tried (PathsOf s c.args.depth) (Some c.args.back) c.args.at c.args.entry)
          (MeetsOf s c.args.depth c.args.entry) s.view.now s.classes.now c.args.back.least c.args.back.most c.args.at
          c.first_try-next.result c.args.told.now c.first_try-next.ensures.tries;
      place = c.first_try-next.ensures.place;
    }

pub end_behind-tries-preserved : goal.end_behind-tries-preserved
end_behind-tries-preserved g t c =
    let s = c.args.search.now in
    let T = Tried (PathsOf s c.args.depth) (Some c.args.back) c.args.at c.args.entry in
    record {
      trying = rw c.or-some.ensures
          (later_trying T (MeetsOf s c.args.depth c.args.entry) s.view.now s.classes.now
          (drop c.args.back.least (places_back (scene_of s) c.args.back.most c.args.at)) c.tries.next
          c.later_try-next.result c.in-Some.tried c.tries.some c.in_ok-end.end c.args.told.now c.tries.told
          c.end_of_try.new.told c.in-Some.is c.later_try-next.ensures.tries c.tries.invariant.trying
          (end_is (PathsOf s c.args.depth) c.args.back c.args.at c.args.entry c.in-Some.tried.place c.in_ok-end.end
          c.in_ok-end.ensures.end) c.in_ok-end.ensures.told);
      place = c.later_try-next.ensures.place;
    }

pub end_behind-tries-smaller : goal.end_behind-tries-smaller
end_behind-tries-smaller g t c =
    let s = c.args.search.now in
    let fewer = ap length (rest_is (Tried (PathsOf s c.args.depth) (Some c.args.back) c.args.at c.args.entry)
    (MeetsOf s c.args.depth c.args.entry) s.view.now s.classes.now c.tries.next c.later_try-next.result c.in-Some.tried
    c.in-Some.is c.later_try-next.ensures.tries) in
    omega (arith, fewer)

pub end_behind-end_of_try-requires : goal.end_behind-end_of_try-requires
end_behind-end_of_try-requires g t c =
    let place : IsPlaceOf c.args.search.now c.in-Some.tried.place
    = subst (λ o. IfSome o (λ t. IsPlaceOf c.args.search.now t.place)) c.in-Some.is c.tries.invariant.place in
    search rules

pub end_behind-later_try-next-requires-clause-place : goal.end_behind-later_try-next-requires-clause-place
end_behind-later_try-next-requires-clause-place g t c =
    subst (λ o. IfSome o (λ t. IsPlaceOf c.args.search.now t.place)) c.in-Some.is c.tries.invariant.place

pub end_behind-returns-clause-behind : goal.end_behind-returns-clause-behind
end_behind-returns-clause-behind g t c =
    let s = c.args.search.now in
    let B = PathsOf s c.args.depth in
    let all = drop c.args.back.least (places_back (scene_of s) c.args.back.most c.args.at) in
    ended_behind (scene_of s) B c.args.back c.args.entry c.args.at c.tries.some
    (all_tried (Tried B (Some c.args.back) c.args.at c.args.entry) (MeetsOf s c.args.depth c.args.entry) all
    (places_of (scene_of s) c.tries.next) c.tries.some c.args.told.now c.tries.told
    (none_left (scene_of s) c.tries.next c.in_default.is) c.tries.invariant.trying)

pub end_behind-returns-clause-told : goal.end_behind-returns-clause-told
end_behind-returns-clause-told g t c =
    let s = c.args.search.now in
    told_of_all (Tried (PathsOf s c.args.depth) (Some c.args.back) c.args.at c.args.entry)
    (MeetsOf s c.args.depth c.args.entry)
    (drop c.args.back.least (places_back (scene_of s) c.args.back.most c.args.at))
    (places_of (scene_of s) c.tries.next) c.tries.some c.args.told.now c.tries.told
    (none_left (scene_of s) c.tries.next c.in_default.is) c.tries.invariant.trying

-- probe

pub probe-branches-init : goal.probe-branches-init
probe-branches-init g t c = record {
  inside = c.requires.branch;
  probing = begin_probing _ _ _ _ _ _ _;
}

pub probe-end_behind-requires : goal.probe-end_behind-requires
probe-end_behind-requires g t c =
    let s = c.args.search.now in
    let entry : c.in-Some.tried.entry < length s.nodes.now
    = (branch_inside (scene_of s) s.nodes.now s.counts (MeetsOf s c.args.depth) _ c.args.at
    c.args.branch c.branches.state _ _ _
    (get_of _ _ _ c.branches.invariant.inside) c.branch_of.ensures c.in-Some.is
    c.requires.search.graph).0 in
    search rules

pub probe-branches-preserved : goal.probe-branches-preserved
probe-branches-preserved g t c = record {
  inside = (branch_inside (scene_of c.args.search.now) c.args.search.now.nodes.now
      c.args.search.now.counts (MeetsOf c.args.search.now c.args.depth) _ c.args.at c.args.branch
      c.branches.state _ _ _
      (get_of _ _ _ c.branches.invariant.inside) c.branch_of.ensures c.in-Some.is
      c.requires.search.graph).1;
  probing = on_probed _ _ _ _ 0 _ _ _ _ _ _ (get_of _ _ _ c.branches.invariant.inside)
      c.branch_of.ensures c.in-Some.is _ _ _ (omega (arith, c.if-tried-state.false))
      c.in_ok-end_behind.ensures.told c.branches.invariant.probing;
}

pub probe-returns-then-tried-state : goal.probe-returns-then-tried-state
probe-returns-then-tried-state g t c =
    end_probed _ _ _ _ 0 _ _ _ _ _ _ (get_of _ _ _ c.branches.invariant.inside)
    c.branch_of.ensures c.in-Some.is _ _ _ (omega (arith, c.if-tried-state.true))
    c.in_ok-end_behind.ensures.told c.branches.invariant.probing

pub probe-returns : goal.probe-returns
probe-returns g t c =
    probed_all _ _ _ _ _ _ _ _ _ _ _ (get_of _ _ _ c.branches.invariant.inside)
    c.branch_of.ensures c.in_default.is c.branches.invariant.probing

-- ask

pub ask-returns-in_default : goal.ask-returns-in_default
ask-returns-in_default g t c = record {
  behind = rw c.in_default.is
      (ends_here c.furthest.result (scene_of c.args.search.now)
      (PathsOf c.args.search.now c.args.depth)
      c.args.question.entry c.args.at c.furthest.ensures.furthest);
  told = rw c.in_default.is c.furthest.ensures.told;
}

pub ask-returns-in_ok-probe-clause-told : goal.ask-returns-in_ok-probe-clause-told
ask-returns-in_ok-probe-clause-told g t c =
    let s = c.args.search.now in
    rw c.in-Some.is
    (asked_some (scene_of s) s.nodes.now s.counts (PathsOf s c.args.depth) (MeetsOf s c.args.depth) c.in-Some.back
    c.args.question.entry c.args.question.miss c.args.at _ c.in_ok-some.some c.args.told.now c.end_behind.new.told
    c.probe.new.told
    c.in-Some-some.is c.in_ok-some.ensures.behind c.in_ok-some.ensures.told c.in_ok-probe.ensures)
