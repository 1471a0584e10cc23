use Rattle.std.proofs.Common.{◌≡◌, ◌≤◌, true, sym, ap, subst, arith}
use Rattle.pat_tree.specs.declared.options.Options.{Options}
use Rattle.pat_tree.specs.Sound.{greatest, group_numbers}
use Rattle.match_items.specs.Subjects.{IsText}
use Rattle.ordered_search.specs.PlaceAnswer.{place_answer}
use Rattle.frame_state.specs.Answer.{IsAnswer, IsMark, IsSeen}
use Rattle.frame_state.specs.Shown.{shown_as}
use Rattle.frame_board.specs.Ready.{setting_for}
use Rattle.frame_board.specs.Standing.{stands_in, place_of}
use Rattle.frame_machine.proofs.StopAnswers.{skip_place}
use Rattle.frame_board.proofs.GroundLemmas.{board_search}
use Rattle.frame_machine.proofs.ready.run_at.Goals as goal

pub invariant_of-board : goal.invariant_of-board
invariant_of-board g c =
    let t = c.args.ready.now.tree.now in
    let need = c.requires.search in
    let searched : IsText t.options c.args.view.now.subject.now = rw need.options at need.subject in
    let groups : greatest (group_numbers t.nodes) ≤ 65535 =
    omega (arith, c.groups-groups.ensures.greatest, c.groups-groups.ensures.few) in
    let few : c.args.view.now.matching.now.match_limit ≤ 4294967295 = omega arith in
    record {
      runs = board_search t c.args.ready.now.classes.now c.args.view.now.matching.now c.args.view.now.subject.now
          c.is_sound.ensures need.facts.fixed need.table searched groups few;
      flows = need.facts.flow;
      branches = need.facts.branches;
      look_branches = need.facts.look_branches;
      ranks = need.facts.ranks;
      backs = need.facts.backs;
      known = record { empty = need.facts.empty; lookbehind = need.facts.lookbehind };
      places = need.facts.places;
    }

pub returns-clause-skip : goal.returns-clause-skip
returns-clause-skip g c =
    let options = c.args.view.now.options.now in
    let subject = c.args.view.now.subject.now in
    skip_place (stands_in c.args.ready.now.tree.now.options.utf subject) options subject
    (λ p e. place_of options subject p (subst (λ (o : Options). stands_in o.utf subject p ≡ true)
    (sym c.requires.search.options) e))
    _ c.search_at.ensures.skip

-- The board tells of callouts by what they were when it was made.

pub search_at-requires-clause-replied : goal.search_at-requires-clause-replied
search_at-requires-clause-replied g c = λ b. ap (λ x. g.C.Callouts.answers x (shown_as b)) c.of.ensures

pub returns-clause-answer : goal.returns-clause-answer
returns-clause-answer g c =
    subst (λ x. IsAnswer c.search_at.result c.search_at.new.scratch.spans
    (place_answer (setting_for c.args.ready.now.tree.now c.args.view.now (g.C.Callouts.answers x))
    c.args.place)) c.of.ensures c.search_at.ensures.answer

pub returns-clause-mark : goal.returns-clause-mark
returns-clause-mark g c =
    subst (λ x. IsMark c.search_at.result c.args.scratch.now.last_mark c.search_at.new.scratch.last_mark
    (place_answer (setting_for c.args.ready.now.tree.now c.args.view.now (g.C.Callouts.answers x))
    c.args.place)) c.of.ensures c.search_at.ensures.mark

pub returns-clause-seen : goal.returns-clause-seen
returns-clause-seen g c =
    subst (λ x. IsSeen c.search_at.result (g.C.Callouts.seen c.args.calls.now)
    (g.C.Callouts.seen c.search_at.new.calls)
    (place_answer (setting_for c.args.ready.now.tree.now c.args.view.now (g.C.Callouts.answers x))
    c.args.place)) c.of.ensures c.search_at.ensures.seen
