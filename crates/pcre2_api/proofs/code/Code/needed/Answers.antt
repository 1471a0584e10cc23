use Rattle.std.proofs.Common.{◌+◌, ◌≤◌, subst}
use Rattle.pat_tree.specs.declared.options.Options.{Options}
use Rattle.pat_bounds.specs.Bounds.{at}
use Rattle.pat_needs.specs.Texts.{sets_of}
use Rattle.ordered_search.specs.Setting.{lower_of}
use Rattle.pcre2_api.specs.Compiled.{CodeParts}
use Rattle.pcre2_api.specs.Needed.{FindsNone}
use Rattle.pcre2_api.proofs.Needing.{finds_none, same_text}
use Rattle.pcre2_api.proofs.code.Code.needed.Goals as goal

pub returns : goal.returns
returns c =
    let need = c.in-Some.need in
    let matching = c.args.options.now in
    let told = c.self.invariant in
    let code : CodeParts = record {
      text = c.self.inside.text.items;
      tree = c.self.inside.tree;
      classes = c.self.inside.classes;
      facts = c.self.inside.facts;
    } in
    subst (λ (code : CodeParts). FindsNone code matching c.args.most (sets_of c.copied.result)) c.self.view_is
    (subst (FindsNone code matching c.args.most)
    (same_text need.text c.copied.result c.copied.ensures.first c.copied.ensures.second c.copied.ensures.third)
    (finds_none code matching c.args.most need (rw c.in-Some.is at told.facts.need) c.requires
    (subst (λ (o : Options). at need.lacking.steps (c.args.most + 1) ≤ lower_of o.match_limit matching.match_limit)
    c.options.ensures
    (c.is_within.ensures.steps c.if-not-is_within.false))
    (c.is_within.ensures.units c.if-not-is_within.false) (c.is_within.ensures.short c.if-not-is_within.false)))
