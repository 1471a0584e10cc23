use Rattle.std.proofs.Common.{refl}
use Rattle.pat_nodes.proofs.nodes.with_test.Goals as goal

pub alternative-requires-clause-below : goal.alternative-requires-clause-below
alternative-requires-clause-below c = rw (c.in_ok-push.ensures.ok, c.replace-parts.ensures.value) c.requires.below

pub alternative-requires-clause-loose : goal.alternative-requires-clause-loose
alternative-requires-clause-loose c = rw (c.in_ok-push.ensures.ok, c.replace-parts.ensures.value) c.requires.loose

pub returns-clause-made : goal.returns-clause-made
returns-clause-made c =
    let e = rw (c.in_ok-push.ensures.ok, c.replace-parts.ensures.value) at c.in_ok-test.ensures in record {
      test = c.in_ok-test.test;
      makes = e.made;
      replaces = λ front h. e.loose front h;
      is = rw (c.in_ok-push-2.ensures.ok, c.replace-parts.ensures.after, c.new.ensures) refl;
    }
