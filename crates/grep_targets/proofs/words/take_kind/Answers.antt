use Rattle.std.proofs.Common.{Some, OnOk, sym, subst}
use Rattle.grep_targets.specs.Filters.{filter_in}
use Rattle.grep_targets.specs.Stands.{AreOfKind}
use Rattle.grep_targets.specs.Walks.{GrowsBy}
use Rattle.grep_targets.proofs.words.take_kind.Goals as goal

pub returns-in_ok-text_from-in-Dir-clause-stands : goal.returns-in_ok-text_from-in-Dir-clause-stands
returns-in_ok-text_from-in-Dir-clause-stands g c =
    subst (λ k. OnOk c.walk.result (GrowsBy (AreOfKind (filter_in c.args.filter.now) c.args.path.now (Some k))
    c.args.told.now c.walk.new.told)) (sym c.in-Dir.is)
    (rw c.in_ok-text_from-in-Dir.ensures at c.walk.ensures.stands)
