use Rattle.std.proofs.Common.{ℕ, ◌≤◌, All}
use Rattle.pat_lengths.specs.Rings.{step_node}
use Rattle.pat_lengths.proofs.rings.wait_for.Given as goal

abbrev pub invariant-loop-id : goal.invariant-loop-id
invariant-loop-id l = (root : ℕ) → l.fn.id ≤ root → All (λ k. k ≤ root) l.next
    → All (λ step. step_node step ≤ root) l.fn.waiting.items → All (λ step. step_node step ≤ root) l.waiting.items
