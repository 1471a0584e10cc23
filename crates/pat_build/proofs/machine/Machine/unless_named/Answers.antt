use Rattle.std.proofs.Common.{sym, refl}
use Rattle.pat_grammar.specs.Groups.{unless_named}
use Rattle.pat_build.proofs.machine.Machine.unless_named.Goals as goal

pub returns-then-is_named-clause-is : goal.returns-then-is_named-clause-is
unfolding unless_named
returns-then-is_named-clause-is c = rw (sym c.if-is_named.ensures, c.in_ok-groups.ensures.is) refl

pub returns-clause-is : goal.returns-clause-is
unfolding unless_named
returns-clause-is c = rw (sym c.if-is_named.ensures) refl
