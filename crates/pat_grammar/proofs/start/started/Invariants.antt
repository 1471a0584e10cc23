use Rattle.std.proofs.Common.{◌≡◌, ℕ, ◌+◌, ◌-◌, ◌<◌, ◌≤◌, length}
use Rattle.pat_grammar.specs.Reading.{started, start, state_from}
use Rattle.pat_grammar.proofs.start.started.Given as goal

abbrev pub invariant-items : goal.invariant-items
invariant-items l = record {
  within : l.at ≤ length l.text;
  value : (n : ℕ) × (length l.text < n + l.at)
      × (started l.text (length l.text + 1) (start l.fn.options) ≡ started l.text n (state_from l.at l.options));
}

abbrev pub decreases-items : goal.decreases-items
decreases-items l = length l.text - l.at
