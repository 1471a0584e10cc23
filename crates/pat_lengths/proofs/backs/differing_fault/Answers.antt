use Rattle.std.proofs.Common.{true, false, Option, Some, None, ℕ, sym, ap, arith}
use Rattle.std.proofs.lemmas.Bool.{le-leb, lt-leb}
use Rattle.pat_lengths.specs.Backs.{fault_from}
use Rattle.pat_lengths.specs.Lengths.{differing}
use Rattle.pat_lengths.proofs.backs.differing_fault.Goals as goal

pub returns-then-most-le-DIFFERING : goal.returns-then-most-le-DIFFERING
unfolding differing
returns-then-most-le-DIFFERING c =
    ap (λ b. fault_from c.args.at (let z : Option ℕ = elim b [ true ↦ None | false ↦ Some 187 ] in z))
    (sym (le-leb c.args.most differing c.if-most-le-DIFFERING.true))

pub returns : goal.returns
unfolding differing
returns c =
    ap (λ b. fault_from c.args.at (let z : Option ℕ = elim b [ true ↦ None | false ↦ Some 187 ] in z))
    (sym (lt-leb c.args.most differing c.if-most-le-DIFFERING.false))
