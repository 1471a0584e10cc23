use Rattle.dfa_drive.proofs.CommonLaw.{common_law}
use Rattle.dfa_drive.proofs.laws.common_forms_are_supported.Goals as goal

pub returns : goal.returns
returns c = common_law
