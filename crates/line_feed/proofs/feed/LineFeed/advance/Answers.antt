use Rattle.std.proofs.Common.{◌≡◌, ◌≢◌, ◌∙◌, ◌^◌, ◌≤◌, ◌+◌, refl, sym, subst, arith}
use Rattle.line_feed.specs.declared.phase.Phase.TheVariants.{Open, Ended, Closed}
use Rattle.line_feed.specs.Answers.{Cuts}
use Rattle.line_feed.proofs.Looking.{cuts-next, ended-stops}
use Rattle.line_feed.proofs.Moving.{Moves-none}
use Rattle.line_feed.proofs.feed.LineFeed.advance.Goals as goal

pub returns-in-Ok-Whole-clause-moves : goal.returns-in-Ok-Whole-clause-moves
returns-in-Ok-Whole-clause-moves g c =
    let mid = c.gather.new.self in
    let told = rw c.in-Ok-Whole.field-0-is at c.in-Ok-Whole.ensures in
    let is = c.give.ensures.given in
    record {
      mid = mid;
      reads = told.0.reads;
      cuts = subst (λ f. Cuts mid f f.row) (sym is)
          (cuts-next mid c.in-Ok-Whole.end c.in-Ok-Whole.newline told.1
          (subst (λ f. f.offset ≤ 2 ^ 40) is c.give.ensures.limit)
          (subst (λ f. f.stored ≤ f.max + 65539) is c.give.ensures.stored));
      live = subst (λ f. f.phase ≢ Closed) (sym is) told.0.live;
    }

pub returns-then-is_done-clause-moves : goal.returns-then-is_done-clause-moves
returns-then-is_done-clause-moves g c =
    let f = c.args.self.now in
    let done = c.is_done.ensures.done.0 c.if-is_done.true in
    record {
      reads = record {
        moves = Moves-none f (g.S.Source.tells c.args.source.now)
            (λ opened. absurd (let d : Open ≡ Ended = sym opened ∙ done.0 in cc));
        lazy = λ _. refl;
        stored = (let stored = c.is_done.ensures.stored in omega arith);
      };
      phase = done.0;
      held = done.1;
      none = ended-stops f done.0 done.1;
    }
