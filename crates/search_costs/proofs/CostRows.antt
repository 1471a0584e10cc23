-- The worked rows, by computation.
use Rattle.std.proofs.Common.{refl}
use Rattle.std.specs.Str.{chars}
use Rattle.match_items.specs.Items.{run_places, run_reaches}
use Rattle.ordered_search.specs.Stream.{◌or_else◌, each, decide, catch}
use Rattle.ordered_search.specs.Setting.{held, hold, reach, reach_if}
use Rattle.ordered_search.specs.Tests.{run_one}
use Rattle.ordered_search.specs.Parts.{in_order, choices, branches, run_group, turn, run_repeat}
use Rattle.ordered_search.specs.Run.{level, run}
use Rattle.search_costs.specs.Tasks.{task_search}
use Rattle.search_costs.specs.Costs.{steps}
use Rattle.search_costs.specs.CostRows.{CostRows}

pub rows_hold : CostRows
unfolding chars run_places run_reaches ◌or_else◌ each decide catch held hold reach reach_if run_one in_order choices
    branches run_group turn run_repeat level run task_search steps
rows_hold = record { fails = refl; passes = refl; over = refl; goes_on = refl; over_key = refl; goes_on_key = refl }
