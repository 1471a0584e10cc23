use Rattle.std.proofs.Common.{◌∙◌, refl}
use Rattle.match_items.proofs.TextRefs.{agrees_text}
use Rattle.match_items.proofs.items.takes.Goals as goal

pub returns-in-Char-clause-value : goal.returns-in-Char-clause-value
returns-in-Char-clause-value g c =
    rw c.in-Char.is (c.agrees.ensures ∙ agrees_text c.args.view.now c.args.classes.now c.args.view.now.options.now.utf
    c.in-Char.caseless c.in-Char.wanted c.args.c refl)
