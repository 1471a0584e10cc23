use Rattle.grep_args.proofs.Lasting.{value_again}
use Rattle.grep_args.proofs.laws.last_values_count.Goals as goal

pub returns-clause-values : goal.returns-clause-values
returns-clause-values c = value_again
