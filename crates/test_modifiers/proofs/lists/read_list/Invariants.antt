use Rattle.std.proofs.Common.{◌≡◌, length}
use Rattle.std.specs.List.{slice_split}
use Rattle.test_modifiers.specs.Modifiers.{ungiven}
use Rattle.test_modifiers.specs.Lists.{items_given, is_comma}
use Rattle.test_modifiers.specs.Texts.{is_blank, without_end}
use Rattle.test_modifiers.proofs.lists.read_list.Given as goal

abbrev pub invariant-loop-modifiers : goal.invariant-loop-modifiers
invariant-loop-modifiers l = items_given l.pattern (slice_split is_comma l.rest) l.modifiers ≡ items_given l.pattern
    (slice_split is_comma (without_end is_blank l.list)) ungiven

abbrev pub decreases-loop-modifiers : goal.decreases-loop-modifiers
decreases-loop-modifiers l = length l.rest
