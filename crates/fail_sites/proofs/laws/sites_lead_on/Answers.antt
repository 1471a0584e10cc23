use Rattle.fail_sites.proofs.SiteLaw.{site_law}
use Rattle.fail_sites.proofs.laws.sites_lead_on.Goals as goal

pub returns : goal.returns
returns c = site_law
