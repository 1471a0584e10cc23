use Rattle.std.proofs.Common.{◌∙◌, Bool, sym, ap, arith}
use Rattle.match_items.specs.Views.{fold_in}
use Rattle.match_items.proofs.Folds.{fold_in-ascii}
use Rattle.match_items.proofs.items.fold.Goals as goal
use Rattle.match_items.proofs.items.fold.Goals.{else-utf-via-then-utf+else-c-gt127, else-utf-via-else-utf}

pub returns-else-utf : goal.returns-else-utf
returns-else-utf c = c.ascii_fold.ensures ∙ elim c.else-utf.branch [
  | else-utf-via-then-utf+else-c-gt127 w ↦ sym (fold_in-ascii c.args.utf c.args.c (omega (arith, w.if-c-gt127.false)))
  | else-utf-via-else-utf w ↦ sym (ap (λ (u : Bool). fold_in u c.args.c) w.if-utf.false)
]
