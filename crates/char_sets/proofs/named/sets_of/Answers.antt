use Rattle.std.proofs.Common.{◌||◌, ap₂, refl, sym, ◌∙◌}
use Rattle.std.proofs.lemmas.List.Folds.{list_any_more}
use Rattle.char_sets.specs.Named.{set_part_has}
use Rattle.char_sets.proofs.named.sets_of.Goals as goal

pub loop-part-preserved : goal.loop-part-preserved
loop-part-preserved c k =
    c.in_ok-add_part.ensures k
    ∙ ap₂ ◌||◌ (c.loop-part.invariant k) refl
    ∙ sym (list_any_more (λ part. set_part_has c.args.caseless k part) c.args.parts.now c.loop-part.part-index _
    c.loop-part-test.true)
