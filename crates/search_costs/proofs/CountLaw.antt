-- What a walk answers where it comes to a failure that is known.
use Rattle.std.proofs.Common.{◌∙◌, suc, arith, ap}
use Rattle.ordered_search.specs.Stream.{exhausted, ◌or_else◌}
use Rattle.ordered_search.specs.PlaceAnswer.{walk}
use Rattle.search_costs.specs.CountLaw.{CountLaw}
use Rattle.search_costs.proofs.Failing.{walk_fails, walk_passes, walk_runs_out}
use Rattle.search_costs.proofs.Onward.{late_onward}
use Rattle.search_costs.proofs.CostLaw.{meets_failure, extends_deep, fails_again, passes_again}

pub count_law : CountLaw
count_law g p ks c left s n x whole known at deep = record {
  fails = λ room few.
      ap (λ y. walk g n (y or_else x)) (fails_again g whole at n few deep known room)
      ∙ walk_fails g n c.steps x few;
  steps_out = λ room out.
      walk_runs_out g n (suc n) c.steps exhausted x (extends_deep g whole known.at at)
      (meets_failure g whole known.at at c.steps c.most known.fails room) (late_onward g n left deep s)
      (omega arith) out;
  units_out = λ exact over fits few.
      let there = passes_again g whole at n few deep exact over fits in
      let less = there.few in
      ap (λ y. walk g n (y or_else x)) there.is ∙ walk_passes g n there.count x (omega (arith, few, less));
}
