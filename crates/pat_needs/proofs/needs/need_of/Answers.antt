use Rattle.std.proofs.Common.{◌≡◌, ◌∙◌, ◌<◌, true, Some, None, length, subst, sym, arith, get_or}
use Rattle.std.specs.Prelude.{IfSome}
use Rattle.std.proofs.lemmas.List.{get_or_default}
use Rattle.pat_tree.specs.Parts.{tree_of}
use Rattle.char_sets.specs.Sets.{class_has}
use Rattle.pat_bounds.specs.Bounds.{bound}
use Rattle.pat_bounds.specs.BoundTables.{Refines}
use Rattle.pat_needs.specs.NeedTables.{may_of, IsLacking}
use Rattle.pat_needs.specs.Needs.{Needs}
use Rattle.pat_needs.specs.Distances.{NeedsAt}
use Rattle.pat_needs.specs.Texts.{sets_of}
use Rattle.pat_needs.proofs.NeedLemmas.{begin_kept, other_kept, need_whole}
use Rattle.pat_needs.proofs.needs.need_of.Goals as goal

pub returns : goal.returns
returns c =
    let t = c.args.tree.now in
    let bounds = c.in_ok-bounds.bounds.items in
    let told = c.index.result.now in
    let within : t.root < length bounds = omega (arith, c.in_ok-bounds.ensures.count) in
    let read : told ≡ get_or bounds t.root told = rw c.root-root.ensures at c.index.ensures in
    let is : told ≡ get_or bounds t.root None =
    read ∙ get_or_default bounds t.root told None within in
    let refined = subst (λ o. Refines o (bound (class_has t) (tree_of t))) (sym is)
    (c.in_ok-bounds.ensures.kept t.root within) in
    let bounded : bound (class_has t) (tree_of t) ≡ Some c.in-Some.bound =
    rw c.in-Some.is at refined in
    let lacking : IfSome c.lacking_of-lacking.result (IsLacking t) =
    (rw (c.deref.ensures.value, c.deref-2.ensures.value) at c.lacking_of-lacking.ensures)
    c.in_ok-bounds.ensures.kept c.in_ok-needs.ensures.kept in
    need_whole t c.in-Some.bound c.lacking_of-lacking.result c.with_bound.result bounded lacking
    c.with_bound.ensures.lacking
    (begin_kept (λ begin. NeedsAt (may_of t) t.options.utf (sets_of begin.text) begin.distance (tree_of t))
    c.with_bound.result c.begin_of-begin.result c.with_bound.ensures.begin
    ((rw c.deref-3.ensures.value at c.begin_of-begin.ensures) c.in_ok-begins.ensures.kept))
    (other_kept (λ other. Needs (may_of t) t.options.utf true (sets_of other) (tree_of t)) c.with_bound.result
    c.further_on-other.result c.with_bound.ensures.other
    ((rw c.deref-4.ensures.value at c.further_on-other.ensures) c.in_ok-needs.ensures.kept))
    c.with_bound.ensures.bound
