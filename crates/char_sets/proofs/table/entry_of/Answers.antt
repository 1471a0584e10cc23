use Rattle.std.proofs.Common.{◌-◌, ◌∙◌, sym, ap, arith}
use Rattle.pat_tree.specs.declared.options.Options.{Options}
use Rattle.char_sets.specs.Sets.{takes}
use Rattle.char_sets.proofs.TableLemmas.{class_has-found, class_has-alike}
use Rattle.char_sets.proofs.table.entry_of.Goals as goal

pub returns-then-are_alike : goal.returns-then-are_alike
returns-then-are_alike c kept =
    let id = c.args.id in
    let some = c.if-id-gt0.true in
    class_has-alike c.args.tree.now c.args.before.now (id - 1) id c.index-before-id.result c.in_ok-same.same
    c.class-class.result.now c.class.result.now c.index-before-id.is (omega (arith, some, c.requires.before))
    c.class-class.ensures c.class.ensures (c.are_alike.ensures c.if-are_alike.true) c.in_ok-same.ensures
    (kept (id - 1) (omega (arith, some)))

pub returns : goal.returns
returns c kept x =
    c.in_ok-entry.ensures x
    ∙ ap (λ utf. takes utf c.class-class.result.now x) (ap (λ (o : Options). o.utf) c.options.ensures)
    ∙ sym (class_has-found c.args.tree.now c.args.id x c.class-class.result.now c.class-class.ensures)
