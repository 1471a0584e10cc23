use Rattle.std.proofs.Common.{◌≡◌, ℕ, if◌then◌else◌, take, length, get_or, Some, None}
use Rattle.pat_tree.specs.Refs.{is_in}
use Rattle.node_flow.proofs.around.tell_themselves.Given as goal

abbrev pub invariant-loop-part : goal.invariant-loop-part
invariant-loop-part l = record {
  size : length l.told ≡ length l.initial.told;
  told : (k : ℕ) → get_or l.told k None ≡ (if is_in k (take l.part-index l.parts) then Some k else get_or
      l.initial.told k None);
}
