use Rattle.std.proofs.Common.{◌≡◌, ℕ, ◌≤◌, if◌then◌else◌, List, ◌++◌, drop, length, get_or, None}
use Rattle.pat_tree.specs.Refs.{is_in}
use Rattle.node_flow.specs.Followers.{first_of, later_than}
use Rattle.node_flow.proofs.flow.chain.Given as goal

abbrev pub invariant-loop-i : goal.invariant-loop-i
invariant-loop-i l = record {
  within : l.i ≤ length l.kids;
  size : length l.next ≡ length l.initial.next;
  follows : (rest : List ℕ) → first_of rest ≡ l.fn.after → l.follower ≡ first_of (drop l.i l.kids ++ rest);
  told : (rest : List ℕ) → first_of rest ≡ l.fn.after → (k : ℕ) →
      get_or l.next k None ≡ (if is_in k (drop l.i l.kids) then first_of (later_than k (drop l.i l.kids) ++ rest) else
      get_or l.initial.next k None);
}

abbrev pub decreases-loop-i : goal.decreases-loop-i
decreases-loop-i l = l.i
