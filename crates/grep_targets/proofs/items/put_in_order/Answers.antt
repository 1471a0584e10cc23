use Rattle.std.proofs.Common.{◌≡◌, true, Contains, sym, subst, ap, ◌∙◌}
use Rattle.std.specs.List.{Any, dedup}
use Rattle.std.specs.Ordering.{eq_by_cmp}
use Rattle.std.proofs.lemmas.Cmp.{eq_by_cmp_equiv}
use Rattle.std.proofs.lemmas.List.Elements.{All-weaker, All-contains_itself}
use Rattle.std.proofs.lemmas.List.Filters.{dedup_is}
use Rattle.std.proofs.lemmas.List.Kept.{Any-dedup, Contains-from_dedup, IsStrictlySortedBy-dedup}
use Rattle.std.proofs.lemmas.List.Sorted.{Contains-permutation, IsPermutation-sym}
use Rattle.grep_targets.proofs.items.put_in_order.Goals as goal

pub returns-clause-ordered : goal.returns-clause-ordered
returns-clause-ordered g c = rw (dedup_is _ _ _ c.dedup.ensures.filtered)
    (IsStrictlySortedBy-dedup g.met.T.Ord.total g.met.T.Ord.matches_eq _ c.sort_unstable.ensures.sorted)

pub returns-clause-kept : goal.returns-clause-kept
returns-clause-kept g c =
    let old = c.args.list.now.items in
    let sorted = c.sort_unstable.new.self.items in
    let same = eq_by_cmp g.T.Ord.cmp in
    let is = dedup_is _ _ _ c.dedup.ensures.filtered ∙ ap (λ e. dedup e sorted)
    (λ i x y. g.met.T.Ord.matches_eq x y i) in
    All-weaker (Contains old) (λ x. Any (λ y. same x y ≡ true) c.dedup.new.self.items)
    (λ x has. subst (Any (λ y. same x y ≡ true)) (sym is)
    (Any-dedup (eq_by_cmp_equiv g.met.T.Ord.total) sorted x
    (Contains-permutation old sorted x c.sort_unstable.ensures.permutation has))) old
    (All-contains_itself old)

pub returns-clause-none_new : goal.returns-clause-none_new
returns-clause-none_new g c =
    let old = c.args.list.now.items in
    let sorted = c.sort_unstable.new.self.items in
    let new = c.dedup.new.self.items in
    All-weaker (Contains new) (Contains old)
    (λ x has. Contains-permutation sorted old x (IsPermutation-sym old sorted c.sort_unstable.ensures.permutation)
    (Contains-from_dedup _ sorted x (rw (dedup_is _ _ _ c.dedup.ensures.filtered) at has))) new
    (All-contains_itself new)
