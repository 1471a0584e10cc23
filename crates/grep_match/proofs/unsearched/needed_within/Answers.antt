use Rattle.std.proofs.Common.{◌≡◌, ◌∙◌, ◌||◌, refl, ap, sym, rules}
use Rattle.pat_tree.specs.Pattern.{Pattern, pattern_of}
use Rattle.pcre2_api.specs.Compiled.{CodeParts}
use Rattle.pat_needs.specs.Texts.{sets_of}
use Rattle.grep_match.specs.declared.unsearched.Needed.{Needed}
use Rattle.grep_match.specs.Compiled.{pattern_in}
use Rattle.grep_match.proofs.Lacking.{next_none, all_none}
use Rattle.grep_match.proofs.unsearched.needed_within.Goals as goal

pub loop-kept-init : goal.loop-kept-init
loop-kept-init c = λ line without. refl

pub loop-kept-preserved : goal.loop-kept-preserved
loop-kept-preserved c =
    let patterns = c.args.patterns.now in
    let code = c.deref.result.now in
    let some : Needed = record { text = c.loop-kept.text; most = c.args.most; utf = c.loop-kept.utf } in
    let all : Needed = record {
      text = c.either-text.result;
      most = c.args.most;
      utf = c.loop-kept.utf || c.is_utf-utf.result;
    } in
    let boxed : code ≡ c.in-Code.code.value = search rules in
    let same : pattern_in patterns.options c.kept-item.result ≡ pattern_of code.tree =
    ap (pattern_in patterns.options) c.in-Code.is ∙ ap (λ (x : CodeParts). pattern_of x.tree) (sym boxed) in
    next_none patterns.options c.args.matching.now patterns.kept c.loop-kept.kept-index c.kept-item.result code
    all some (sets_of c.in-Some.more) (rw c.kept-kept-items.ensures.value at c.loop-kept-test.true)
    (rw c.kept-kept-items.ensures.value at c.kept-item.is) same
    (rw c.in-Some.is at c.needed.ensures) c.either-text.ensures refl
    (ap (λ u. c.loop-kept.utf || u) (c.is_utf-utf.ensures ∙ ap (λ (p : Pattern). p.options.utf) same))
    c.loop-kept.invariant

pub returns : goal.returns
returns c =
    let patterns = c.args.patterns.now in
    let needed : Needed = record { text = c.loop-kept.text; most = c.args.most; utf = c.loop-kept.utf } in
    all_none patterns.options c.args.matching.now patterns.kept c.loop-kept.kept-index needed
    (rw c.kept-kept-items.ensures.value at c.loop-kept-test.false) c.loop-kept.invariant
