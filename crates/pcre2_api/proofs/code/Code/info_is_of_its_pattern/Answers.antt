use Rattle.std.proofs.Common.{subst}
use Rattle.pat_tree.specs.Sound.{TreeRules}
use Rattle.pcre2_api.specs.Compiled.{CodeParts}
use Rattle.pcre2_api.proofs.Informing.{info_is}
use Rattle.pcre2_api.proofs.code.Code.info_is_of_its_pattern.Goals as goal

pub returns : goal.returns
returns c = info_is c.args.self.now (subst (λ (code : CodeParts). TreeRules code.tree) c.self.view_is
    c.is_sound.ensures)
