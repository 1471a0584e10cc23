use Rattle.std.proofs.Common.{◌≡◌, length}
use Rattle.test_modifiers.specs.Lists.{letters_given}
use Rattle.test_modifiers.proofs.lists.give_letters.Given as goal

abbrev pub invariant-loop-rest : goal.invariant-loop-rest
invariant-loop-rest l = letters_given l.pattern l.rest l.modifiers ≡ letters_given l.pattern l.letters
    l.initial.modifiers

abbrev pub decreases-loop-rest : goal.decreases-loop-rest
decreases-loop-rest l = length l.rest
