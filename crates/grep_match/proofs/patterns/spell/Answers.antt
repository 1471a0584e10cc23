use Rattle.std.proofs.Common.{◌≡◌, ◌∙◌, flat_map, ap, sym}
use Rattle.pcre2_api.specs.Patterns.{compiled}
use Rattle.grep_match.specs.PatternTexts.{escaped}
use Rattle.grep_match.proofs.Spelling.{spelt-compiled, same-pattern}
use Rattle.grep_match.proofs.patterns.spell.Goals as goal

pub returns-in-Ok : goal.returns-in-Ok
returns-in-Ok c =
    let options = c.args.options in
    let text = flat_map escaped c.args.text.now in
    let string : c.as_slice.result.now ≡ text = c.as_slice.ensures.value ∙ c.in_ok-string.ensures in
    same-pattern _ _ (compiled options text)
    (ap (compiled options) (sym string) ∙ c.in-Ok.ensures.compiled.2)
    (spelt-compiled options c.args.text.now c.requires)
