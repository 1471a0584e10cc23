use Rattle.std.proofs.Common.{◌∙◌, refl, ap, sym, arith}
use Rattle.ordered_search.specs.PlaceAnswer.{Walked}
use Rattle.frame_state.specs.Shown.{shown_as}
use Rattle.frame_state.specs.Over.{in_all}
use Rattle.frame_state.specs.Stops.{none_met, told}
use Rattle.frame_machine.proofs.Start.{starts, starts_valid}
use Rattle.frame_machine.proofs.run.run.Goals as goal

pub turns-init : goal.turns-init
turns-init g c =
    rw (c.requires.empty, c.requires.unset, c.step_limit.ensures, c.root.ensures)
    record {
      answer =
          ap (λ (w : Walked). in_all (g.C.Callouts.seen c.args.calls.now) (told none_met w))
          (sym (starts (g.S.Searchable.searched c.args.on.now) (g.met.S.Searchable.sound c.args.on.now) c.args.place));
      valid = starts_valid (g.S.Searchable.searched c.args.on.now) (g.met.S.Searchable.sound c.args.on.now)
          c.args.place c.requires.place;
      rule = λ block. refl;
      bank = c.requires.bank;
      no_less = omega arith;
      peak = omega arith;
    }

pub turn-requires-clause-replied : goal.turn-requires-clause-replied
turn-requires-clause-replied g c = λ b. c.requires.replied b ∙ sym (c.turns.invariant.rule (shown_as b))

pub turns-preserved : goal.turns-preserved
turns-preserved g c = record {
  answer = c.turns.invariant.answer ∙ c.in_default.ensures.on.answer;
  valid = c.in_default.ensures.on.valid;
  rule = λ block. c.in_default.ensures.rule block ∙ c.turns.invariant.rule block;
  bank = c.in_default.ensures.bank ∙ c.turns.invariant.bank;
  no_less = omega (arith, c.in_default.ensures.no_less, c.turns.invariant.no_less);
  peak = omega (arith, c.in_default.ensures.peak, c.turns.invariant.peak);
}

pub returns-in-Err-clause-stop : goal.returns-in-Err-clause-stop
returns-in-Err-clause-stop g c =
    let end = c.in-Err.ensures.stop in
    record { left = end.left; whole = c.turns.invariant.answer ∙ end.whole; is = end.is }

pub returns-in-Err-clause-short : goal.returns-in-Err-clause-short
returns-in-Err-clause-short g c = λ q. c.in-Err.ensures.short (q.0, λ block. c.turns.invariant.rule block ∙ q.1 block)
