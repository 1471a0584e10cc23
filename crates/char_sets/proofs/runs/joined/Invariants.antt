use Rattle.std.proofs.Common.{◌≡◌, ℕ, ◌<◌, ◌≤◌, All, take, length, get_or}
use Rattle.char_sets.specs.declared.runs.Run.{Run}
use Rattle.char_sets.specs.Runs.{runs_have, IsRising}
use Rattle.char_sets.proofs.runs.joined.Given as goal

abbrev pub invariant-loop-run : goal.invariant-loop-run
invariant-loop-run l = record {
  same : (c : ℕ) → runs_have l.joined.items c ≡ runs_have (take l.run-index l.run-items) c;
  rising : IsRising l.joined.items;
  last : (k : ℕ) (d : Run) → l.run-index ≤ k → k < length l.run-items
      → All (λ (run : Run). run.from ≤ (get_or l.run-items k d).from) l.joined.items;
}
