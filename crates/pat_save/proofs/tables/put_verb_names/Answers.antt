use Rattle.std.proofs.Common.{◌∙◌}
use Rattle.pat_save.specs.Fields.{short_text}
use Rattle.pat_save.proofs.Steps.{written_item}
use Rattle.pat_save.proofs.tables.put_verb_names.Goals as goal

pub loop-id-preserved : goal.loop-id-preserved
loop-id-preserved c =
    c.in_ok-put_short_text.ensures
    ∙ written_item short_text c.args.tree.now.verb_names c.loop-id.id c.verb_name.result.now _ c.loop-id.out.items
    c.verb_name.ensures c.loop-id.invariant
