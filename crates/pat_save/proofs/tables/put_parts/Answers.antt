use Rattle.std.proofs.Common.{◌∙◌}
use Rattle.std.proofs.lemmas.List.{get_or_default}
use Rattle.pat_save.specs.Image.{part_bytes}
use Rattle.pat_save.specs.Sized.{IsSizedPart}
use Rattle.pat_save.proofs.Steps.{within_all, within_more, written_more}
use Rattle.pat_save.proofs.tables.put_parts.Goals as goal

pub loop-part-preserved : goal.loop-part-preserved
loop-part-preserved c =
    let parts = c.args.parts.now in
    let i = c.loop-part.part-index in (
      c.in_ok-put_part.ensures.bytes
          ∙ written_more part_bytes parts i _ _ c.loop-part.out.items c.loop-part-test.true c.loop-part.invariant.0,
      within_more IsSizedPart parts i _ c.loop-part-test.true (λ d. get_or_default parts i d _ c.loop-part-test.true)
          c.in_ok-put_part.ensures.short c.loop-part.invariant.1,
    )

pub returns-clause-short : goal.returns-clause-short
returns-clause-short c =
    within_all IsSizedPart c.args.parts.now c.loop-part.part-index c.loop-part-test.false c.loop-part.invariant.1
