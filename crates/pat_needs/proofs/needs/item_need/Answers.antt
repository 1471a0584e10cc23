use Rattle.std.proofs.Common.{Bool, true, false, ◌∙◌, sym, subst}
use Rattle.std.specs.Prelude.{IfSome}
use Rattle.char_sets.specs.Sets.{class_has}
use Rattle.pat_needs.specs.Needs.{may_take}
use Rattle.pat_needs.specs.NeedTables.{IsItemNeed}
use Rattle.pat_needs.proofs.NeedLemmas.{bytes_short}
use Rattle.pat_needs.proofs.needs.item_need.Goals as goal

pub returns-then-utf : goal.returns-then-utf
returns-then-utf c tree table utf =
    subst (λ (u : Bool). IfSome c.utf_need.result
    (IsItemNeed (may_take u (class_has tree)) c.args.utf c.args.item.now)) (sym (utf ∙ c.if-utf.true))
    (subst (λ (u : Bool). IfSome c.utf_need.result (IsItemNeed (may_take true (class_has tree)) u c.args.item.now))
    (sym c.if-utf.true) (c.utf_need.ensures (class_has tree)))

pub returns-else-utf : goal.returns-else-utf
returns-else-utf c tree table utf =
    subst (λ (u : Bool). IfSome c.byte_need.result
    (IsItemNeed (may_take u (class_has tree)) c.args.utf c.args.item.now)) (sym (utf ∙ c.if-utf.false))
    (bytes_short (may_take false (class_has tree)) c.args.utf c.args.item.now c.byte_need.result c.if-utf.false
    (c.byte_need.ensures tree table))
