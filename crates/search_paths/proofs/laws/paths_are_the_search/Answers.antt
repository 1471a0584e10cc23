use Rattle.search_paths.proofs.Before.{tread_whole}
use Rattle.search_paths.proofs.laws.paths_are_the_search.Goals as goal

pub returns : goal.returns
returns c = tread_whole
