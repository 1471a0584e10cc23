use Rattle.std.proofs.Common.{lit<, ◌∙◌}
use Rattle.std.proofs.lemmas.Str.Pattern.{strip_suffix_char}
use Rattle.grep_targets.proofs.Naming.{unstripped}
use Rattle.grep_targets.proofs.paths.without_slashes.Goals as goal

pub returns-in_default : goal.returns-in_default
returns-in_default c =
    let rest = c.slash.rest.now in
    unstripped rest c.strip_suffix.result c.in_default.is
    (strip_suffix_char 47 rest c.strip_suffix.result c.strip_suffix.ensures.cases (lit< tt))
    ∙ c.slash.invariant.rest
