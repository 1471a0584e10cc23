use Rattle.std.proofs.Common.{◌∙◌, subst, pos}
use Rattle.pcre2_api.specs.Compiled.{CodeParts}
use Rattle.pcre2_api.specs.Matched.{search_of, IsFound}
use Rattle.c_door.proofs.engine.Engine.find.Goals as goal

pub returns-clause-found : goal.returns-clause-found
returns-clause-found c = (
  c.in_ok-found.found,
  subst (λ (code : CodeParts). IsFound (search_of code c.args.options.now c.args.subject.now c.args.start
      (λ _. pos 0)) c.in_ok-found.found) c.deref.ensures c.in_ok-found.ensures.found,
  c.in_ok-found.ensures.code.0 ∙ c.deref.ensures,
  c.hit_of.ensures.top,
  c.write_places.ensures,
  c.hit_of.ensures.mark,
)
