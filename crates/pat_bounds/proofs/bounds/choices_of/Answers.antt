use Rattle.std.proofs.Common.{◌≡◌, ◌∙◌, ◌+◌, ◌-◌, ◌<◌, ℕ, List, ◌∷◌, drop, length, length-drop, get_or, sym, subst}
use Rattle.std.proofs.Common.{ap, arith}
use Rattle.std.proofs.lemmas.List.{at_drop_more, take_all}
use Rattle.pat_bounds.specs.BoundTables.{RefinesChoices, is_alone_of}
use Rattle.pat_bounds.proofs.BoundLemmas.{choices_none, choices_next}
use Rattle.pat_bounds.proofs.bounds.choices_of.Goals as goal

pub loop-i-init : goal.loop-i-init
loop-i-init c = record {
  within = omega arith;
  is = choices_none c.args.tree.now c.args.bounds.now c.never.result c.args.branches.now c.never.ensures;
}

pub loop-i-preserved : goal.loop-i-preserved
loop-i-preserved c =
    let tree = c.args.tree.now in
    let bounds = c.args.bounds.now in
    let branches = c.args.branches.now in
    let i = c.loop-i.i in
    let some = c.loop-i-test.true in
    let within = c.loop-i.invariant.within in
    let low : i - 1 < length branches = omega (arith, some, within) in
    let next : i - 1 + 1 ≡ i = omega (arith, some) in
    let k = get_or branches (i - 1) 0 in
    let rest = drop i branches in
    let here : drop (i - 1) branches ≡ k ∷ rest =
    at_drop_more (λ (l : List ℕ). l) branches (i - 1) 0 low ∙ ap (λ n. k ∷ drop n branches) next in
    let all = take_all (length branches - (i - 1 + 1)) (drop (i - 1 + 1) branches)
    (omega (arith, length-drop (i - 1 + 1) branches)) in
    let alone = c.is_alone-alone.ensures ∙ ap (is_alone_of tree k) all
    ∙ ap (λ n. is_alone_of tree k (drop n branches)) next in
    record {
      within = omega (arith, within);
      is = subst (RefinesChoices tree bounds c.or_so-whole.result) (sym here)
          (choices_next tree bounds c.loop-i.whole c.or_so-whole.result c.is_alone-alone.result k rest
          (c.requires.below (i - 1) 0 low) alone c.loop-i.invariant.is c.or_so-whole.ensures);
    }
