use Rattle.search_needs.proofs.Behind.{begin_law}
use Rattle.search_needs.proofs.laws.no_match_without_begin.Goals as goal

pub returns : goal.returns
returns c = begin_law
