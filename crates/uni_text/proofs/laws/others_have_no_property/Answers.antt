use Rattle.std.proofs.Common.{ap, ◌&&◌}
use Rattle.uni_text.specs.Properties.{prop_holds}
use Rattle.uni_text.proofs.laws.others_have_no_property.Goals as goal

pub returns : goal.returns
returns c p n none = ap (λ b. b && prop_holds p n) none
