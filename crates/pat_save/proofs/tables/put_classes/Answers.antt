use Rattle.std.proofs.Common.{◌∙◌, All, arith}
use Rattle.pat_save.specs.Image.{class_bytes}
use Rattle.pat_save.specs.Sized.{IsSizedPart}
use Rattle.pat_save.proofs.Steps.{within_all, within_item, written_item}
use Rattle.pat_save.proofs.tables.put_classes.Goals as goal

pub loop-id-preserved : goal.loop-id-preserved
loop-id-preserved c = (
  c.in_ok-put_class.ensures.bytes
      ∙ written_item class_bytes c.args.tree.now.classes c.loop-id.id c.class.result.now _ c.loop-id.out.items
      c.class.ensures c.loop-id.invariant.0,
  within_item (λ spec. All IsSizedPart spec.parts) c.args.tree.now.classes c.loop-id.id c.class.result.now
      c.class.ensures c.in_ok-put_class.ensures.short c.loop-id.invariant.1,
)

pub returns-clause-short : goal.returns-clause-short
returns-clause-short c =
    within_all (λ spec. All IsSizedPart spec.parts) c.args.tree.now.classes c.loop-id.id (omega arith)
    c.loop-id.invariant.1
