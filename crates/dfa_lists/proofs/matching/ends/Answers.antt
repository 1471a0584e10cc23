use Rattle.std.proofs.Common.{◌≤◌, sym, subst}
use Rattle.dfa_graph.specs.pat_check.Size.{whole_size}
use Rattle.dfa_paths.specs.Graph.{IsFlat, takers}
use Rattle.dfa_graph.proofs.Takers.{by_size}
use Rattle.match_items.specs.Views.{text_scene}
use Rattle.dfa_paths.proofs.Fragments.{ends_are_of}
use Rattle.dfa_lists.proofs.Following.{deep_within}
use Rattle.dfa_paths.proofs.Hits.{is_hit, place_before_end}
use Rattle.dfa_lists.proofs.matching.ends.Goals as goal

pub returns-clause-ends : goal.returns-clause-ends
returns-clause-ends g c =
    let e = c.states.ensures in
    ends_are_of _ _ _ _ _ e c.in_ok-set.ensures.sound c.in_ok-set.ensures.full
    c.in_ok-set.ensures.rising

pub returns-clause-hit : goal.returns-clause-hit
returns-clause-hit g c =
    let scene = text_scene c.args.view.now c.args.classes.now in
    let e = c.states.ensures in
    is_hit scene c.args.graph.now c.states.result.now c.args.place c.counts_from.result _ e
    c.counts_from.ensures c.requires.place.within
    (place_before_end scene (c.places_stand.ensures scene c.requires.subject))
    c.in_ok-set.ensures.hit c.in_ok-set.ensures.all_hit

pub returns-clause-within : goal.returns-clause-within
returns-clause-within g c end a =
    let scene = text_scene c.args.view.now c.args.classes.now in
    deep_within scene c.states.result.now 513 0 c.args.place end
    (c.places_stand.ensures scene c.requires.subject) (c.in_ok-set.ensures.sound end a)
    c.requires.place

pub returns-clause-tests : goal.returns-clause-tests
returns-clause-tests g c t is plain =
    let e = c.states.ensures in
    by_size (takers c.states.result.now) (whole_size t) _ _ _
    (subst (λ ns. takers ns ≤ whole_size t) (sym e) is.states.bounded)
    (c.in_ok-set.ensures.tests (subst IsFlat (sym e) (is.states.plain plain)))
