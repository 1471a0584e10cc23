use Rattle.pcre2_api.proofs.Enough.{enough_searches}
use Rattle.pcre2_api.proofs.laws.searches_are_enough.Goals as goal

pub returns : goal.returns
returns c = enough_searches
