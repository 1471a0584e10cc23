use Rattle.std.proofs.Common.{◌-◌, ◌≤◌, length}
use Rattle.grep_multi.specs.declared.cut.Reach.{Reach}
use Rattle.grep_multi.specs.Given.{Extends}
use Rattle.grep_multi.proofs.cut.extend.Given as goal

abbrev pub invariant-line : goal.invariant-line
invariant-line l = record {
  rest : (new : Reach) → Extends l.kind l.text l.to l.reach new → Extends l.kind l.text l.to l.fn.reach new;
  within : l.reach.behind.at ≤ length l.text;
  few : l.reach.behind.lines ≤ l.reach.behind.at;
}

abbrev pub decreases-line : goal.decreases-line
decreases-line l = l.to - l.reach.behind.at
