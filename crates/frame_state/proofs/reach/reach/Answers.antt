use Rattle.std.proofs.Common.{sym, ap, ◌∙◌}
use Rattle.pat_tree.specs.declared.options.MatchOptions.{MatchOptions}
use Rattle.frame_state.proofs.ReachTurns.{noted_not, noted_uncounted, noted_off, noted_soft, stop_hard}
use Rattle.frame_state.proofs.reach.reach.Goals.{then-not-reached-via-then-not-reached}
use Rattle.frame_state.proofs.reach.reach.Goals.{then-not-reached-via-else-not-reached+then-not-counts}
use Rattle.frame_state.proofs.reach.reach.Goals as goal

pub returns-then-not-reached-clause-on : goal.returns-then-not-reached-clause-on
returns-then-not-reached-clause-on g c =
    elim c.then-not-reached.branch [
      | then-not-reached-via-then-not-reached w ↦ noted_not (g.S.Searchable.searched c.args.on.now) _ _ _
          w.if-not-reached.true
      | then-not-reached-via-else-not-reached+then-not-counts w ↦
          noted_uncounted (g.S.Searchable.searched c.args.on.now) _ _ _ (sym w.if-not-counts.ensures)
    ]

pub returns-in-Off-clause-on : goal.returns-in-Off-clause-on
returns-in-Off-clause-on g c =
    noted_off (g.S.Searchable.searched c.args.on.now) (ap (λ (m : MatchOptions). m.«partial») (sym c.matching.ensures)
    ∙ c.in-Off.is) _ _ _

pub returns-in-Soft-clause-on : goal.returns-in-Soft-clause-on
returns-in-Soft-clause-on g c =
    noted_soft (g.S.Searchable.searched c.args.on.now) _ c.if-not-reached.false _ _ (sym c.if-not-counts.ensures)
    (ap (λ (m : MatchOptions). m.«partial») (sym c.matching.ensures) ∙ c.in-Soft.is)

pub returns-in-Hard-clause-stop : goal.returns-in-Hard-clause-stop
returns-in-Hard-clause-stop g c =
    stop_hard (g.S.Searchable.searched c.args.on.now) _ c.if-not-reached.false _ _ (sym c.if-not-counts.ensures)
    (ap (λ (m : MatchOptions). m.«partial») (sym c.matching.ensures) ∙ c.in-Hard.is)
