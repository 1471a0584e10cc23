use Rattle.std.proofs.Common.{◌≡◌, ◌∙◌, refl, sym, subst, arith, rules}
use Rattle.line_feed.specs.declared.phase.Phase.TheVariants.{Open}
use Rattle.line_feed.specs.View.{HoldsRow}
use Rattle.line_feed.specs.Steps.{Moves, IsLast}
use Rattle.line_feed.proofs.Moving.{Moves-none, Moves-trans, was-open}
use Rattle.line_feed.proofs.feed.LineFeed.gather.Goals as goal

pub piece-init : goal.piece-init
piece-init g c = record {
  moves = Moves-none c.args.self.now (g.S.Source.tells c.args.source.now)
      (λ opened. let few = c.taken.ensures.few opened in let value = c.taken.ensures.value in omega arith);
  live = c.requires.live;
  lazy = λ _. (refl, refl);
}

pub piece-preserved : goal.piece-preserved
piece-preserved g c =
    let has = c.piece.invariant in
    let opened : c.look.new.self.phase ≡ Open = search rules in
    let part : IsLast c.look.new.self = c.in-Part.ensures.looks in
    let moves = subst (λ f. Moves c.args.self.now f (g.S.Source.tells c.args.source.now)
    (g.S.Source.tells c.piece.source)) (sym c.look.ensures.same) has.moves in
    let fills = c.in-Ok.ensures in
    record {
      moves = Moves-trans _ _ _ _ _ _ moves opened fills.moves;
      live = fills.live;
      lazy = λ h. absurd ((part.goes_on opened).none
          (subst (λ f. HoldsRow f.kind f.held) (sym (has.lazy h).0 ∙ sym c.look.ensures.same) h));
    }

pub returns-in-Err : goal.returns-in-Err
returns-in-Err g c =
    let has = c.piece.invariant in
    let opened : c.look.new.self.phase ≡ Open = search rules in
    let part : IsLast c.look.new.self = c.in-Part.ensures.looks in
    let moves = subst (λ f. Moves c.args.self.now f (g.S.Source.tells c.args.source.now)
    (g.S.Source.tells c.piece.source)) (sym c.look.ensures.same) has.moves in
    let waits = c.in-Err.ensures in (
      record {
        moves = Moves-trans _ _ _ _ _ _ moves opened waits.moves;
        from = was-open _ _ _ _ moves opened;
        phase = waits.phase;
        stored = (let stored = waits.stored in omega arith);
      },
      λ h. (part.goes_on opened).none (subst (λ f. HoldsRow f.kind f.held)
          (sym (has.lazy h).0 ∙ sym c.look.ensures.same) h),
    )
