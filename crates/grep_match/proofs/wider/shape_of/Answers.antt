use Rattle.std.proofs.Common.{◌≡◌, ◌∙◌, ap, sym, rules}
use Rattle.pat_tree.specs.Pattern.{pattern_of}
use Rattle.pcre2_api.specs.Compiled.{CodeParts}
use Rattle.grep_match.specs.Spelt.{spelling}
use Rattle.grep_match.specs.Compiled.{pattern_in}
use Rattle.grep_match.proofs.Widening.{misses-by, finds-by}
use Rattle.grep_match.proofs.wider.shape_of.Goals as goal

pub returns-in-Code-clause-misses : goal.returns-in-Code-clause-misses
returns-in-Code-clause-misses c =
    let options = c.args.patterns.now.options in
    let boxed : c.deref.result.now ≡ c.in-Code.code.value = search rules in
    misses-by c.shape.result c.deref.result.now (pattern_in options c.args.kept.now) c.args.matching.now c.args.most
    (ap (λ (x : CodeParts). pattern_of x.tree) boxed ∙ sym (ap (pattern_in options) c.in-Code.is))
    c.shape.ensures.misses

pub returns-in-Code-clause-finds : goal.returns-in-Code-clause-finds
returns-in-Code-clause-finds c =
    let options = c.args.patterns.now.options in
    let boxed : c.deref.result.now ≡ c.in-Code.code.value = search rules in
    finds-by c.shape.result c.deref.result.now (pattern_in options c.args.kept.now) c.args.matching.now c.args.most
    (ap (λ (x : CodeParts). pattern_of x.tree) boxed ∙ sym (ap (pattern_in options) c.in-Code.is))
    c.shape.ensures.finds

pub returns-in-Ok-clause-misses : goal.returns-in-Ok-clause-misses
returns-in-Ok-clause-misses c =
    let options = c.args.patterns.now.options in
    misses-by c.shape-in-Ok.result c.in-Ok.code (pattern_in options c.args.kept.now) c.args.matching.now
    c.args.most
    (c.in-Ok.ensures ∙ ap (spelling options) c.as_slice.ensures.value ∙ sym (ap (pattern_in options) c.in-Text.is))
    c.shape-in-Ok.ensures.misses

pub returns-in-Ok-clause-finds : goal.returns-in-Ok-clause-finds
returns-in-Ok-clause-finds c =
    let options = c.args.patterns.now.options in
    finds-by c.shape-in-Ok.result c.in-Ok.code (pattern_in options c.args.kept.now) c.args.matching.now
    c.args.most
    (c.in-Ok.ensures ∙ ap (spelling options) c.as_slice.ensures.value ∙ sym (ap (pattern_in options) c.in-Text.is))
    c.shape-in-Ok.ensures.finds
