use Rattle.fail_sites.proofs.StartLaw.{start_law}
use Rattle.fail_sites.proofs.laws.first_site_is_the_pattern.Goals as goal

pub returns : goal.returns
returns c = start_law
