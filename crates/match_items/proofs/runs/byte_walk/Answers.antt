use Rattle.std.proofs.Common.{◌∙◌, ap, ◌+◌, arith}
use Rattle.match_items.specs.Views.{text_scene}
use Rattle.match_items.proofs.Longest.{Found, count_is, to_is, at_end_is, tests_are}
use Rattle.match_items.proofs.runs.byte_walk.Given as given
use Rattle.match_items.proofs.runs.byte_walk.Goals as goal

found : (g : given.Over) (c : goal.After-run_end-to g)
    → Found (text_scene c.args.view.now c.args.classes.now) c.args.item.now c.args.max c.args.at c.min-limit.result
    c.run_end-to.result
found g c = record {
  bytes = c.requires.subject.no_utf;
  short = c.requires.subject.short;
  place = c.requires.place;
  few = omega arith;
  bound = c.min-limit.ensures;
  least = c.run_end-to.ensures.end;
}

pub returns-clause-walk : goal.returns-clause-walk
returns-clause-walk g c = record {
  count = count_is _ _ _ _ _ _ (found g c);
  to = to_is _ _ _ _ _ _ (found g c);
  at_end = at_end_is _ _ _ _ _ _ (found g c);
}

pub returns-clause-tests : goal.returns-clause-tests
returns-clause-tests g c = c.run_end-to.ensures.tests
    ∙ ap (λ n. c.args.steps.now + n) (tests_are _ _ _ _ _ _ (found g c))
