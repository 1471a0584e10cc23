use Rattle.pcre2_api.proofs.SubstitutionRows.{rows_hold}
use Rattle.pcre2_api.proofs.laws.worked_substitutions.Goals as goal

pub returns : goal.returns
returns c = rows_hold
