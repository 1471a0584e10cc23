use Rattle.std.proofs.lemmas.Result.{err_from_is_err_and}
use Rattle.pat_grammar.proofs.ClassParts.{begins_first, reaches_on, reaches_end, reaches_bad}
use Rattle.pat_grammar.proofs.cursor.Cursor.parts.Goals as goal

pub items-init : goal.items-init
items-init c = rw c.new-parts.ensures (begins_first c.args.self.now c.args.self.now.place c.requires)

pub items-preserved : goal.items-preserved
items-preserved c =
    rw c.in_ok-push-in-Some.ensures.ok
    (reaches_on c.args.self.now c.args.self.now.place c.items.place c.items.first c.items.parts c.items.invariant
    c.in_ok-part.next c.in-Some.part
    (rw c.in-Some.is at c.in_ok-part.ensures.more) c.in_ok-part.ensures.within
    (rw c.in-Some.is at c.in_ok-part.ensures.step))

pub returns-in-None-clause-parts : goal.returns-in-None-clause-parts
returns-in-None-clause-parts c =
    reaches_end c.args.self.now c.args.self.now.place c.items.place c.items.first c.items.parts c.items.invariant
    c.in_ok-part.next
    (rw c.in-None.is at c.in_ok-part.ensures.step)

pub returns-in_err-part-clause-bad : goal.returns-in_err-part-clause-bad
returns-in_err-part-clause-bad c =
    let p = err_from_is_err_and c.from_residual.result c.from_residual.ensures.1 in
    rw (p.1, p.2)
    (reaches_bad c.args.self.now c.args.self.now.place c.items.place c.items.first c.items.parts c.items.invariant
    c.in_err-part.field-0.0 c.in_err-part.ensures.bad)
