use Rattle.fail_sites.proofs.AskLaw.{ask_law}
use Rattle.fail_sites.proofs.laws.sites_fail_again.Goals as goal

pub returns : goal.returns
returns c = ask_law
