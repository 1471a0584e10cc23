use Rattle.std.proofs.Common.{◌∙◌}
use Rattle.pat_save.proofs.TableForms.{checked_test}
use Rattle.pat_save.proofs.taken_tables.is_checked.Goals as goal

pub returns-else-not-utf : goal.returns-else-not-utf
returns-else-not-utf c =
    c.is_ok.ensures.value ∙ checked_test c.args.utf c.args.text.now c.check.result c.if-not-utf.false
    c.check.ensures.exact
