use Rattle.std.proofs.Common.{◌||◌, ap₂, sym, ◌∙◌}
use Rattle.std.proofs.lemmas.List.Folds.{list_any_more}
use Rattle.char_sets.specs.Named.{set_in}
use Rattle.char_sets.proofs.bytes.bytes_of_sets.Goals as goal

pub loop-set-preserved : goal.loop-set-preserved
loop-set-preserved c k l =
    c.add.ensures k
    ∙ ap₂ ◌||◌ (c.loop-set.invariant k l) (c.bytes_of_set.ensures k l)
    ∙ sym (list_any_more (λ set. set_in set k) c.args.sets.now c.loop-set.set-index _ c.loop-set-test.true)
