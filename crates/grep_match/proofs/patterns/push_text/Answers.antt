use Rattle.std.proofs.Common.{◌∙◌, ap, subst, sym, [], ◌∷◌, ◌++◌}
use Rattle.std.proofs.lemmas.List.{map-append}
use Rattle.std.proofs.lemmas.List.Elements.{All-push}
use Rattle.grep_match.specs.Spelt.{spelling, IsSpelling}
use Rattle.grep_match.specs.Compiled.{pattern_in, meant, IsKept, AreKept}
use Rattle.grep_match.proofs.patterns.push_text.Goals as goal

pub returns-clause-adds : goal.returns-clause-adds
returns-clause-adds c = λ options.
    ap (meant options) c.in_ok-push.ensures
    ∙ map-append (pattern_in options) c.args.patterns.now.items _
    ∙ ap (λ t. meant options c.args.patterns.now.items ++ spelling options t ∷ [])
    (c.in_ok-text.ensures.items_if_clones_equal (λ x y e. e))

pub returns-clause-kept : goal.returns-clause-kept
returns-clause-kept c = λ options short before.
    subst (AreKept options) (sym c.in_ok-push.ensures)
    (All-push (IsKept options) c.args.patterns.now.items _ before
    (subst (IsSpelling options) (sym (c.in_ok-text.ensures.items_if_clones_equal (λ x y e. e))) short))
