use Rattle.std.proofs.Common.{rules, ◌≡◌, ◌≤◌, length, None, refl, arith}
use Rattle.match_items.specs.Subjects.{IsTextPlace}
use Rattle.ordered_search.specs.Places.{last_place}
use Rattle.match_drive.specs.frame_board.Ready.{setting_for}
use Rattle.match_drive.specs.match_starts.Asked.{passed_over}
use Rattle.dfa_drive.proofs.Agreeing.{agrees}
use Rattle.dfa_drive.proofs.Walking.{walk_begins, walk_ends, walk_on, walk_over, later_on}
use Rattle.dfa_drive.proofs.drive.dfa_search.Goals as goal

pub places-init : goal.places-init
places-init g c =
    let view = c.args.view.now in
    let s = setting_for c.args.ready.now.tree.now view passed_over in
    let value = c.last_start-last.ensures.value in
    let begins = c.last_start-last.ensures.low in
    let ends = c.last_start-last.ensures.within in
    let low : view.start ≤ last_place s = omega (arith, value, begins) in
    let high : last_place s ≤ length view.subject.now = omega (arith, value, ends) in
    record {
      left = walk_begins s view.matching.now.dfa_shortest _ refl low high;
      stands = c.requires.ready.start;
      from = omega arith;
    }

pub decision_at-requires-clause-from : goal.decision_at-requires-clause-from
decision_at-requires-clause-from g c = rw c.in-Some.is at c.places.invariant.from

pub returns-in-Some-2-clause-answer : goal.returns-in-Some-2-clause-answer
returns-in-Some-2-clause-answer g c =
    let view = c.args.view.now in
    let s = setting_for c.args.ready.now.tree.now view passed_over in
    let stands : IsTextPlace view.options.now view.subject.now c.in-Some.place = rw c.in-Some.is at
    c.places.invariant.stands in
    walk_ends s view.matching.now.dfa_shortest c.places.next c.in-Some.place
    c.in-Some-2.answer c.places.invariant.left c.in-Some.is stands.within
    (rw c.in-Some-2.is at c.in_ok-answer.ensures.decides)

pub places-preserved : goal.places-preserved
places-preserved g c =
    let view = c.args.view.now in
    let s = setting_for c.args.ready.now.tree.now view passed_over in
    let stands : IsTextPlace view.options.now view.subject.now c.in-Some.place = rw c.in-Some.is at
    c.places.invariant.stands in
    let from : view.start ≤ c.in-Some.place = rw c.in-Some.is at c.places.invariant.from in
    let none : c.in_ok-answer.field-0 ≡ None = search rules in
    record {
      left =
          walk_on s view.matching.now.dfa_shortest c.places.next
          c.in-Some.place _ c.places.invariant.left c.in-Some.is stands.within
          (rw none at c.in_ok-answer.ensures.decides) c.start_after-next.ensures.value
          c.start_after-next.ensures.later;
      stands = c.start_after-next.ensures.place;
      from = later_on view.start c.in-Some.place _ from c.start_after-next.ensures.later;
    }

pub returns-clause-answer : goal.returns-clause-answer
returns-clause-answer g c =
    walk_over (setting_for c.args.ready.now.tree.now c.args.view.now passed_over)
    c.args.view.now.matching.now.dfa_shortest c.places.next
    c.places.invariant.left c.in_default.is

pub returns-in-Some-2-clause-agrees : goal.returns-in-Some-2-clause-agrees
returns-in-Some-2-clause-agrees g c =
    agrees (setting_for c.args.ready.now.tree.now c.args.view.now passed_over) c.in-Some-2.answer
    (returns-in-Some-2-clause-answer g c)
