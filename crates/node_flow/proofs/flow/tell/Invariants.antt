use Rattle.std.proofs.Common.{◌≡◌, ℕ, if◌then◌else◌, take, length, get_or, None}
use Rattle.pat_tree.specs.Refs.{is_in}
use Rattle.node_flow.proofs.flow.tell.Given as goal

abbrev pub invariant-loop-part : goal.invariant-loop-part
invariant-loop-part l = record {
  size : length l.next ≡ length l.initial.next;
  told : (k : ℕ) → get_or l.next k None ≡ (if is_in k (take l.part-index l.parts) then l.after else get_or
      l.initial.next k None);
}
