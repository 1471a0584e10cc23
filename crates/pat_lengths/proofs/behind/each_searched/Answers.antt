use Rattle.std.proofs.Common.{◌≡◌, ◌∙◌, ◌≤◌, ◌+◌, ◌∷◌, ◌++◌, [], None, false, suc, inl, inr, ap, sym, subst, length}
use Rattle.std.proofs.Common.{length-append, arith}
use Rattle.std.proofs.lemmas.Bool.{cases_lt}
use Rattle.std.proofs.lemmas.List.{get_or_past}
use Rattle.pat_tree.specs.Groups.{group_of}
use Rattle.pat_tree.specs.Nested.{trees}
use Rattle.pat_tree.specs.Parts.{tree_of}
use Rattle.pat_lengths.specs.Lengths as lengths
use Rattle.pat_lengths.specs.Nodes.{captures}
use Rattle.pat_lengths.specs.Passing.{flagged, IsAt, place_of}
use Rattle.pat_lengths.proofs.KeepLemmas.{keep_more}
use Rattle.pat_lengths.proofs.RoundLemmas.{lost}
use Rattle.pat_lengths.proofs.behind.each_searched.Goals as goal

pub loop-target-preserved : goal.loop-target-preserved
loop-target-preserved c =
    let whole = tree_of c.args.tree.now in
    let target = c.loop-target.target in
    let old = c.loop-target.back.items in
    let x = c.in_ok-leads_to_itself.field-0 in
    let items : c.push.new.self.items ≡ old ++ x ∷ [] = c.in_ok-push.ensures.items in
    let count : length old ≡ target = c.loop-target.invariant.0 in
    let here : x ≡ lengths.leads_back whole target = c.in_ok-leads_to_itself.ensures in
    let more = keep_more (λ k b. b ≡ lengths.leads_back whole k) old x false
    (λ k l. c.loop-target.invariant.1 k (omega (arith, l, count)))
    (subst (λ k. x ≡ lengths.leads_back whole k) (sym count) here) in
    let grown : length (old ++ x ∷ []) ≡ target + 1 = omega (arith, count, length-append old (x ∷ [])) in
    (ap length items ∙ grown, λ n l. ap (λ xs. flagged xs n) items ∙ more n (omega (arith, l, grown)))

pub returns : goal.returns
returns c n =
    let t = c.args.tree.now in
    let whole = tree_of t in
    let places = c.args.groups.now.places.items in
    let back = c.loop-target.back.items in
    let all : length places ≤ c.loop-target.target = omega (arith, c.loop-target-test.false) in
    elim (cases_lt n c.loop-target.target) [
      | inl l ↦ c.loop-target.invariant.1 n l
      | inr l ↦
          let past : place_of places n ≡ None = get_or_past places n None (omega (arith, all, l)) in
          let none : group_of whole n ≡ None = subst (λ p. IsAt (trees t.nodes) t.root p (group_of whole n)) past
          (c.requires.places n) in
          get_or_past back n false (omega (arith, c.loop-target.invariant.0, l))
          ∙ sym (lost whole n (suc (captures whole)) n none)
    ]
