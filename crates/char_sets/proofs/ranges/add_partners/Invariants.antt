use Rattle.std.proofs.Common.{◌≡◌, ℕ, ◌||◌, true, false, take}
use Rattle.std.specs.Int.{is_in_range}
use Rattle.char_sets.specs.Runs.{runs_have, partner_has}
use Rattle.char_sets.proofs.ranges.add_partners.Given as goal

abbrev pub invariant-loop-i : goal.invariant-loop-i
invariant-loop-i l = record {
  more : (c : ℕ) → is_in_range l.from l.to c ≡ false → runs_have l.runs.items
      c ≡ (runs_have l.initial.runs.items c || partner_has (take l.i l.pairs) l.from l.to c);
  kept : (c : ℕ) → runs_have l.initial.runs.items c ≡ true → runs_have l.runs.items c ≡ true;
}
