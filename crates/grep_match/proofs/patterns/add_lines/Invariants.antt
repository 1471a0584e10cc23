use Rattle.std.proofs.Common.{length}
use Rattle.grep_match.specs.PatternTexts.{options_of, line_end}
use Rattle.grep_match.specs.Compiled.{meant, AreKept}
use Rattle.grep_match.proofs.PatternLines.{Compiling}
use Rattle.grep_match.proofs.patterns.add_lines.Given as goal

abbrev pub invariant-line : goal.invariant-line
invariant-line l = record {
  compiling : Compiling (options_of l.fn.plan) l.fn.plan (line_end l.fn.plan) l.fn.text l.rest
      (meant (options_of l.fn.plan) l.fn.patterns.items) (meant (options_of l.fn.plan) l.patterns.items);
  kept : AreKept (options_of l.fn.plan) l.fn.patterns.items → AreKept (options_of l.fn.plan) l.patterns.items;
}

abbrev pub decreases-line : goal.decreases-line
decreases-line l = length l.rest
