use Rattle.std.proofs.Common.{◌≡◌, ◌∙◌, ◌<◌, true, None, length, subst, sym, arith, get_or}
use Rattle.std.proofs.lemmas.List.{get_or_default}
use Rattle.pat_tree.specs.Parts.{tree_of}
use Rattle.char_sets.specs.Sets.{class_has}
use Rattle.pat_bounds.specs.Bounds.{bound}
use Rattle.pat_bounds.specs.BoundTables.{Refines}
use Rattle.pat_needs.specs.NeedTables.{may_of, IsNeed}
use Rattle.pat_needs.proofs.lacking.lacking_of.Goals as goal

pub returns-in-None : goal.returns-in-None
returns-in-None c bounds needs =
    let t = c.args.tree.now in
    let need = c.index-needs-root.result in
    let within : t.root < length c.args.bounds.now = omega (arith, c.requires.bounds) in
    let within' : t.root < length c.args.needs.now = omega (arith, c.requires.needs) in
    let read : need ≡ get_or c.args.needs.now t.root need =
    rw c.root.ensures at c.index-needs-root.is in
    let is : need ≡ get_or c.args.needs.now t.root None =
    read ∙ get_or_default c.args.needs.now t.root need None within' in
    c.lacking_whole.ensures t
    (subst (λ k. Refines (get_or c.args.bounds.now k None) (bound (class_has t) (tree_of t)))
    (sym c.root-in-None.ensures) (bounds t.root within))
    (subst (IsNeed (may_of t) t.options.utf true (tree_of t)) (sym is) (needs t.root within'))
