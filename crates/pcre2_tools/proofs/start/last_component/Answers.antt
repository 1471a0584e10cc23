use Rattle.std.proofs.Common.{lit<, rules, ◌∙◌}
use Rattle.std.proofs.lemmas.Str.Pattern.{split_parts}
use Rattle.pcre2_tools.proofs.Starting.{last-whole, last-behind}
use Rattle.pcre2_tools.proofs.start.last_component.Goals as goal

pub returns-in_default : goal.returns-in_default
returns-in_default c =
    let rest = c.slash.rest.now in
    last-whole rest c.split_once.result c.in_default.is
    (split_parts 47 rest c.split_once.result c.split_once.ensures.cases (lit< tt)) ∙ c.slash.invariant.last

pub slash-preserved : goal.slash-preserved
slash-preserved c =
    let rest = c.slash.rest.now in
    let parts = split_parts 47 rest c.split_once.result c.split_once.ensures.cases (lit< tt) in
    record {
      last = last-behind rest c.split_once.result (c.in-Some.field-0-0, c.in-Some.behind) c.in-Some.is parts
          ∙ c.slash.invariant.last;
      text = search rules;
    }
