use Rattle.std.proofs.Common.{◌≡◌, ◌∙◌, List, Option, IfOk, sym, ap, subst}
use Rattle.pat_tree.specs.Pattern.{pattern_of}
use Rattle.pat_tree.specs.declared.names.NameEntry.{NameEntry}
use Rattle.pat_tree.specs.declared.options.TheConstants.MatchOptions as plain_match
use Rattle.pcre2_api.specs.Compiled.{CodeParts}
use Rattle.pcre2_api.specs.Substituted.{substituted}
use Rattle.test_gen.specs.Counts.{everywhere, pattern_in, IsNamed, replaced_in, replacements_in}
use Rattle.test_gen.proofs.Counting.{replaced-none}
use Rattle.test_gen.proofs.counts.replacements_in.Goals as goal

pub returns-in-Ok : goal.returns-in-Ok
returns-in-Ok c = λ names named.
    (let line = c.args.line.now in
    let code = c.in-Some.code in
    let same = subst (λ (o : Option CodeParts). IsNamed o names) c.in-Some.is named in
    sym
    (ap (λ (o : Option CodeParts). replacements_in (pattern_in o) names c.args.replacement.now line) c.in-Some.is
    ∙ sym (ap (λ (ns : List NameEntry). replaced_in
    (substituted (pattern_of code.tree) ns plain_match.PLAIN everywhere line 0 c.args.replacement.now)) same)
    ∙ ap replaced_in c.in-Ok.ensures.substituted))

pub returns-in-Err : goal.returns-in-Err
returns-in-Err c = λ names named.
    (let line = c.args.line.now in
    let code = c.in-Some.code in
    let r = c.no_replacement.result in
    let text = c.args.replacement.now in
    let same = subst (λ (o : Option CodeParts). IsNamed o names) c.in-Some.is named in
    subst (λ (o : Option CodeParts). IfOk r (λ count. count ≡ replacements_in (pattern_in o) names text line))
    (sym c.in-Some.is)
    (subst (λ (ns : List NameEntry). IfOk r (λ count. count ≡ replaced_in
    (substituted (pattern_of code.tree) ns plain_match.PLAIN everywhere line 0 text))) same
    (replaced-none (substituted (pattern_of code.tree) code.tree.names plain_match.PLAIN everywhere line 0 text)
    c.in-Err.e r c.no_replacement.ensures.none c.no_replacement.ensures.told c.in-Err.ensures.refused)))
