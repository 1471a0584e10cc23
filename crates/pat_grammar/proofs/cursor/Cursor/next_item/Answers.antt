use Rattle.std.proofs.Common.{arith}
use Rattle.pat_grammar.proofs.Items.{comes_first, comes_on, comes_to, comes_bad}
use Rattle.pat_grammar.proofs.cursor.Cursor.next_item.Goals as goal

pub items-init : goal.items-init
items-init c = comes_first c.args.self.now c.requires

pub items-preserved : goal.items-preserved
items-preserved c =
    let v = c.items.cursor in
    (comes_on c.args.self.now v c.in-Ok.token c.in-Ok.at c.items.invariant c.in-Ok.ensures.value c.in-Ok.ensures.moves
    c.in-Some.beyond
    (λ st. c.in-Some.ensures.value st) c.in-Some.ensures.text c.in-Some.ensures.stays).0

pub items-smaller : goal.items-smaller
items-smaller c =
    let v = c.items.cursor in
    let on = comes_on c.args.self.now v c.in-Ok.token c.in-Ok.at c.items.invariant c.in-Ok.ensures.value
    c.in-Ok.ensures.moves c.in-Some.beyond
    (λ st. c.in-Some.ensures.value st) c.in-Some.ensures.text c.in-Some.ensures.stays in
    let long = on.0.text in
    let before = c.items.invariant.text in
    rw (long, before) (omega (arith, on.1, rw long at on.0.within))

pub returns-in_default-clause-value : goal.returns-in_default-clause-value
returns-in_default-clause-value c =
    comes_bad c.args.self.now c.items.cursor c.in_default.field-0 c.items.invariant c.in_default.ensures.value

pub returns-in_default-set_over-clause-value : goal.returns-in_default-set_over-clause-value
returns-in_default-set_over-clause-value c =
    comes_to c.args.self.now c.items.cursor c.in-Ok.token c.in-Ok.at c.items.invariant c.in-Ok.ensures.value
    c.in_ok-end.end
    (λ st. c.in_default-set_over.ensures.value st) (λ st. c.in_ok-end.ensures.value st)
