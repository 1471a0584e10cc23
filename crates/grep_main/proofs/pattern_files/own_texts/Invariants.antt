use Rattle.std.proofs.Common.{◌≡◌, take}
use Rattle.grep_main.proofs.pattern_files.own_texts.Given as goal

abbrev pub invariant-loop-text : goal.invariant-loop-text
invariant-loop-text l = l.texts ≡ take l.text-index l.plan.patterns
