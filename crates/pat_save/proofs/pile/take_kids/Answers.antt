use Rattle.std.proofs.Common.{◌≡◌, ◌-◌, drop, length, ap, sym, ◌∙◌, arith, Option, Some, List, ℕ}
use Rattle.pat_save.specs.Pile.{ids_of}
use Rattle.pat_save.specs.declared.pile.Loose.{Loose}
use Rattle.pat_save.proofs.Stacks.{last_kids, rest_whole}
use Rattle.pat_save.proofs.pile.take_kids.Goals as goal

pub returns-clause-gives : goal.returns-clause-gives
returns-clause-gives c =
    let pile = c.args.pile.now.items in
    let size : c.len-2.result ≡ length pile = omega (arith, c.len-2.ensures, c.args.pile.now.ok.0) in
    let kids = rw c.deref.ensures.value at c.in_ok-kids.ensures in
    last_kids pile c.args.count (omega (arith, c.if-len-count.false, c.len.ensures, c.args.pile.now.ok.0))
    ∙ ap (λ (n : ℕ). Some (ids_of (drop (n - c.args.count) pile))) (sym size)
    ∙ ap (λ (l : List Loose). Some (ids_of l)) (sym (rest_whole pile (c.len-2.result - c.args.count)))
    ∙ ap (λ (l : List ℕ). Some l) (sym kids)
