use Rattle.std.proofs.Common.{refl, subst}
use Rattle.pat_tree.specs.Sound.{TreeRules}
use Rattle.match_drive.proofs.Both.{alike}
use Rattle.pcre2_api.specs.Matched.{search_of}
use Rattle.pcre2_api.proofs.Starting.{begun-text, begun-place}
use Rattle.pcre2_api.proofs.code.Code.starts_are_alike.Goals as goal

pub returns : goal.returns
returns c begun answers =
    alike c.args.self.now.tree
    (search_of c.args.self.now c.args.options.now c.args.subject.now c.args.start answers) refl
    (subst TreeRules c.ready.ensures.tree c.is_sound.ensures) c.are_bytes.ensures
    (begun-text _ _ _ begun c.requires) (begun-place _ _ _ begun)
