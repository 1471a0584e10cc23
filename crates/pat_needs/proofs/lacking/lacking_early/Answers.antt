use Rattle.std.proofs.Common.{◌≡◌, ◌∙◌, ℕ, List, Some, true, ap, subst, arith, get_or}
use Rattle.pat_tree.specs.Nested.{Nested, row, tree_at, trees}
use Rattle.char_sets.specs.Sets.{class_has}
use Rattle.pat_bounds.specs.Bounds.{bound_in_turn}
use Rattle.pat_needs.specs.Lacking.{sequence}
use Rattle.pat_needs.specs.NeedTables.{may_of, AreNeeds}
use Rattle.pat_needs.proofs.EarlyLemmas.{first_parts, early_lacking}
use Rattle.pat_needs.proofs.lacking.lacking_early.Goals as goal

pub returns : goal.returns
returns c bounds needs =
    let t = c.args.tree.now in
    let of : ℕ → Nested = tree_at (trees t.nodes) in
    let xs = c.in_ok-parts.parts.now in
    let told = c.in_ok-early.early in
    let bound = c.in_ok-bound.bound in
    let all : AreNeeds (may_of t) t.options.utf true of c.args.needs.now xs =
    λ k d l. (let below = c.in_ok-parts.ensures.below k d l in
    needs (get_or xs k d) (omega (arith, below, c.requires.needs))) in
    let early = c.in_ok-early.ensures.takes (may_of t) t.options.utf of all in
    early_lacking t told.wanted bound early.0 early.1
    (c.in_ok-parts.ensures.whole ∙ ap sequence early.2.0) early.2.1.1
    (subst (λ (ts : List Nested). bound_in_turn (class_has t) (row ts) ≡ Some bound)
    (first_parts of xs early.0 early.1 told.behind early.2.0 early.2.1.0)
    (c.in_ok-bound.ensures bounds))
