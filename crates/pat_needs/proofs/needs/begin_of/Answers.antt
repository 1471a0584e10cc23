use Rattle.std.proofs.Common.{◌≡◌, ◌∙◌, ◌<◌, None, false, length, subst, sym, arith, get_or}
use Rattle.std.proofs.lemmas.List.{get_or_default}
use Rattle.pat_tree.specs.Parts.{tree_of}
use Rattle.pat_needs.specs.NeedTables.{may_of, IsNeed}
use Rattle.pat_needs.proofs.NeedLemmas.{needs_at, copied_from}
use Rattle.pat_needs.proofs.needs.begin_of.Goals as goal

pub returns : goal.returns
returns c kept =
    let t = c.args.tree.now in
    let begins = c.args.begins.now in
    let begun = c.index-begins-root.result in
    let within : t.root < length begins = omega (arith, c.requires) in
    let read : begun ≡ get_or begins t.root begun = rw c.root.ensures at c.index-begins-root.is in
    let is : begun ≡ get_or begins t.root None = read ∙ get_or_default begins t.root begun None within in
    needs_at (may_of t) t.options.utf (tree_of t) begun c.copy_of.result c.at_once-here.result c.behind_begin.result
    c.nearer.result c.told.result
    (subst (IsNeed (may_of t) t.options.utf false (tree_of t)) (sym is) (kept t.root within))
    (copied_from begun c.copy_of.result c.copy_of.ensures.some c.copy_of.ensures.none)
    c.at_once-here.ensures (c.behind_begin.ensures kept) c.nearer.ensures c.told.ensures
