use Rattle.search_needs.proofs.Needed.{need_law}
use Rattle.search_needs.proofs.laws.no_match_without_need.Goals as goal

pub returns : goal.returns
returns c = need_law
