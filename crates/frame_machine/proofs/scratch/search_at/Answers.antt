use Rattle.std.proofs.Common.{ℕ, Option, subst, sym, ap, arith}
use Rattle.frame_store.specs.Captures.{Captures}
use Rattle.ordered_search.specs.PlaceAnswer.{place_answer}
use Rattle.frame_state.specs.Answer.{IsAnswer, IsMark}
use Rattle.frame_machine.specs.Scratch.{Workspace, IsOfSearch}
use Rattle.frame_machine.proofs.StopAnswers.{front, stop_of_search, stop_answered, stop_marked, stop_skipped}
use Rattle.frame_machine.proofs.StopAnswers.{stop_shown}
use Rattle.frame_machine.proofs.scratch.search_at.Goals as goal

pub returns-clause-answer : goal.returns-clause-answer
returns-clause-answer g c =
    subst (λ (caps : Captures). IsAnswer c.answer_of.result caps
    (place_answer (g.S.Searchable.searched c.args.on.now).setting c.args.place))
    (sym (front c.run-stop.new.registers _ c.prepare-ready.new.registers.spans.len
    (omega (arith, c.run-stop.auto.registers, c.as_mut_slice.ensures.len))))
    (stop_answered (g.S.Searchable.searched c.args.on.now) _ _ _ c.answer_of.ensures _ _ _ _ c.run-stop.ensures.stop)

pub returns-clause-mark : goal.returns-clause-mark
returns-clause-mark g c =
    subst (λ (old : Option ℕ). IsMark c.answer_of.result old c.last_of-scratch-inside.result
    (place_answer (g.S.Searchable.searched c.args.on.now).setting c.args.place))
    (ap (λ (w : Workspace). w.last_mark) c.scratch.view_is)
    (stop_marked (g.S.Searchable.searched c.args.on.now) _ _ _ c.answer_of.ensures _ _ _ _ c.run-stop.ensures.stop
    c.scratch.inside.last_mark _ c.last_of-scratch-inside.ensures)

pub returns-clause-skip : goal.returns-clause-skip
returns-clause-skip g c = stop_skipped (g.S.Searchable.searched c.args.on.now) _ _ _ c.answer_of.ensures _ _ _ _
    c.run-stop.ensures.stop

pub returns-clause-seen : goal.returns-clause-seen
returns-clause-seen g c = stop_shown (g.S.Searchable.searched c.args.on.now) _ _ _ c.answer_of.ensures _ _ _ _
    c.run-stop.ensures.stop

pub returns-clause-reserved : goal.returns-clause-reserved
returns-clause-reserved g c = λ enough quiet.
    let frames = ap (λ (w : Workspace). w.frames) c.scratch.view_is in
    subst IsOfSearch (sym c.answer_of.ensures)
    (stop_of_search c.run-stop.result c.run-stop.new.spot _ c.run-stop.new.store (c.run-stop.ensures.short quiet)
    (omega (
      arith,
      c.run-stop.ensures.no_less,
      c.prepare-ready.ensures.no_less,
      c.scratch.invariant.0,
      frames,
      enough.1,
    )))
