use Rattle.std.proofs.Common.{◌≡◌, true, subst}
use Rattle.std.specs.Prelude.{IfOk, IfSome}
use Rattle.regex_hir.specs.Meaning.{meaning}
use Rattle.pcre2_api.specs.Compiled.{CodeParts}
use Rattle.pcre2_api.specs.Shapes.{MissesLines, FindsLines}
use Rattle.pcre2_api.proofs.Shaping.{all_miss, all_find}
use Rattle.pcre2_api.proofs.code.Code.shape.Goals as goal

pub returns-clause-misses : goal.returns-clause-misses
returns-clause-misses c =
    let matching = c.args.options.now in
    let code : CodeParts = record {
      text = c.self.inside.text.items;
      tree = c.self.inside.tree;
      classes = c.self.inside.classes;
      facts = c.self.inside.facts;
    } in
    subst (λ (code : CodeParts). IfOk c.line_shape.result
    (λ o. IfSome o (λ s. MissesLines code matching c.args.most (meaning s.hir)))) c.self.view_is
    (all_miss code matching c.args.most (c.is_length.ensures c.if-not-is_length.false) c.line_shape.result
    c.line_shape.ensures.shape)

pub returns-clause-finds : goal.returns-clause-finds
returns-clause-finds c =
    let matching = c.args.options.now in
    let code : CodeParts = record {
      text = c.self.inside.text.items;
      tree = c.self.inside.tree;
      classes = c.self.inside.classes;
      facts = c.self.inside.facts;
    } in
    subst (λ (code : CodeParts). IfOk c.line_shape.result
    (λ o. IfSome o (λ s. s.is_exact ≡ true → FindsLines code matching c.args.most (meaning s.hir)))) c.self.view_is
    (all_find code matching c.args.most (c.is_length.ensures c.if-not-is_length.false) c.line_shape.result
    c.line_shape.ensures.exact)
