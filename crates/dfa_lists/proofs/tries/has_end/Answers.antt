use Rattle.std.proofs.Common.{◌≡◌, ◌+◌, subst, Some, arith}
use Rattle.std.specs.Prelude.{slice_get}
use Rattle.dfa_lists.proofs.BranchTries.{read_in, not_passed, all_passed}
use Rattle.dfa_lists.proofs.tries.has_end.Goals as goal

pub ends-init : goal.ends-init
ends-init c a = a

pub ends-preserved : goal.ends-preserved
ends-preserved c a =
    not_passed c.args.ends.now c.ends.k c.args.at c.get.result.now (c.ends.k + 1) c.get.ensures
    c.if-get-at.false (omega arith) (c.ends.invariant a)

pub returns-then-get-at-clause-has : goal.returns-then-get-at-clause-has
returns-then-get-at-clause-has c e =
    read_in c.args.ends.now c.ends.k c.args.at
    (subst (λ x. slice_get c.args.ends.now c.ends.k ≡ Some x) c.if-get-at.true c.get.ensures)

pub returns-clause-has_not : goal.returns-clause-has_not
returns-clause-has_not c a =
    absurd (all_passed c.args.ends.now c.ends.k c.args.at (omega (arith, c.ends-test.false)) (c.ends.invariant a))
