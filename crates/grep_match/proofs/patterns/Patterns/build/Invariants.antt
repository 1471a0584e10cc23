use Rattle.std.proofs.Common.{[], Ok, take}
use Rattle.grep_match.specs.PatternTexts.{options_of, pattern_texts}
use Rattle.grep_match.specs.Compiled.{meant, AreKept, Adds}
use Rattle.grep_match.proofs.patterns.Patterns.build.Given as goal

abbrev pub invariant-loop-text : goal.invariant-loop-text
invariant-loop-text l = record {
  adds : Adds {A = Unit {0}} (options_of l.fn.plan) (pattern_texts l.fn.plan (take l.text-index l.fn.texts)) []
      (meant (options_of l.fn.plan) l.kept.items) (Ok (tt {0}));
  kept : AreKept (options_of l.fn.plan) l.kept.items;
}
