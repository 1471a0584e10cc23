use Rattle.std.proofs.Common.{◌∙◌, ap, subst, sym, [], ◌∷◌, ◌++◌}
use Rattle.std.proofs.lemmas.List.{map-append}
use Rattle.std.proofs.lemmas.List.Elements.{All-push}
use Rattle.pat_tree.specs.Pattern.{pattern_of}
use Rattle.pcre2_api.specs.Compiled.{CodeParts}
use Rattle.grep_match.specs.Compiled.{pattern_in, meant, IsKept, AreKept}
use Rattle.grep_match.proofs.patterns.push_code.Goals as goal

pub returns-clause-adds : goal.returns-clause-adds
returns-clause-adds c = λ options.
    ap (meant options) c.in_ok-push.ensures
    ∙ map-append (pattern_in options) c.args.patterns.now.items _
    ∙ ap (λ (x : CodeParts). meant options c.args.patterns.now.items ++ pattern_of x.tree ∷ []) c.in_ok-code.ensures.ok

pub returns-clause-kept : goal.returns-clause-kept
returns-clause-kept c = λ options before.
    subst (AreKept options) (sym c.in_ok-push.ensures)
    (All-push (IsKept options) c.args.patterns.now.items _ before tt)
