use Rattle.std.proofs.Common.{arith, ◌+◌, ℕ, None, true, map, subst, sym, get_or}
use Rattle.std.proofs.lemmas.List.{take_rest}
use Rattle.pat_tree.specs.Nested.{Nested, group, seq, row, more, none, tree_at, trees}
use Rattle.pat_needs.specs.Needs.{Needs}
use Rattle.pat_needs.specs.NeedTables.{may_of, IsNeed, AreNeeds}
use Rattle.pat_needs.specs.Texts.{sets_of}
use Rattle.pat_needs.proofs.NeedLemmas.{all_behind, some_behind}
use Rattle.pat_needs.proofs.needs.further_on.Goals as goal

pub returns : goal.returns
returns c kept =
    let t = c.args.tree.now in
    let may = may_of t in
    let utf = t.options.utf in
    let of : ℕ → Nested = tree_at (trees t.nodes) in
    let needs = c.args.needs.now in
    let xs = c.in_ok-parts.parts.now in
    let behind = c.items.from + 1 in
    let all : AreNeeds may utf true of needs xs =
    λ k d l. (let below = c.in_ok-parts.ensures.below k d l in
    kept (get_or xs k d) (omega (arith, below, c.requires))) in
    let told = (rw (take_rest xs behind) at (c.in_ok-other.ensures may utf of))
    (all_behind (λ k. IsNeed may utf true (of k) (get_or needs k None)) xs behind all) in
    let some = some_behind may utf (sets_of c.in_ok-other.other.text) of xs behind
    (omega (arith, c.items.invariant, c.if-from-parts.false)) told.1 in
    subst (Needs may utf true (sets_of c.sought.result)) (sym c.in_ok-parts.ensures.whole)
    (subst (λ sets. Needs may utf true sets (group None (more (seq (row (map of xs))) none)))
    (sym c.sought.ensures) (some, tt))
