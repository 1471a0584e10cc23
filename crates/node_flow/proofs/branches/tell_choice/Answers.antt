use Rattle.std.proofs.Common.{ℕ, Option, None, if◌then◌else◌, get_or, sym, ap, ◌∙◌, arith}
use Rattle.pat_tree.specs.Refs.{is_in}
use Rattle.node_flow.proofs.Branching.{branch_alone, branch_own}
use Rattle.node_flow.proofs.branches.tell_choice.Goals as goal

pub returns-then-branches-lt2 : goal.returns-then-branches-lt2
returns-then-branches-lt2 c = λ k.
    c.tell.ensures k
    ∙ ap (λ (o : Option ℕ). if is_in k c.args.branches.now then o else get_or c.args.told.now k None)
    (sym (branch_alone c.args.branches.now c.args.outer k (omega (arith, c.if-branches-lt2.true))))

pub returns-else-branches-lt2 : goal.returns-else-branches-lt2
returns-else-branches-lt2 c = λ k.
    c.tell_themselves.ensures k
    ∙ ap (λ (o : Option ℕ). if is_in k c.args.branches.now then o else get_or c.args.told.now k None)
    (sym (branch_own c.args.branches.now c.args.outer k (omega (arith, c.if-branches-lt2.false))))
