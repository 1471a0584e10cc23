use Rattle.std.proofs.Common.{◌≡◌, ◌∙◌, suc, ap, subst, sym}
use Rattle.pat_tree.specs.Groups.{group_of}
use Rattle.pat_tree.specs.Parts.{tree_of}
use Rattle.pat_lengths.specs.Passing.{flagged}
use Rattle.pat_lengths.specs.Rounds.{AreRounds, group_answer}
use Rattle.pat_lengths.specs.declared.rounds.Question.TheVariants.{Passes}
use Rattle.pat_lengths.proofs.EmptyLemmas.{all_answered}
use Rattle.pat_lengths.proofs.RoundLemmas.{same_flags}
use Rattle.pat_lengths.proofs.passing.groups_passing.Goals as goal

pub returns-then-eq : goal.returns-then-eq
returns-then-eq c =
    let whole = tree_of c.args.tree.now in
    let any = c.args.any in
    let found = c.in_ok-found.found.items in
    let after = c.in_ok-after.after.items in
    let same : after ≡ found = sym c.as_slice.ensures.value
    ∙ same_flags c.as_slice.result.now c.as_slice-then-has_none.result.now (sym c.eq.ensures ∙ c.if-eq.true)
    ∙ c.as_slice-then-has_none.ensures.value in
    subst (λ n. AreRounds (Passes any) whole (suc n) found) (sym c.requires.count)
    (all_answered whole any found
    (λ n. sym (c.in_ok-back.ensures n) ∙ ap (λ xs. flagged xs n) (sym c.deref.ensures.value)
    ∙ c.has_none.ensures c.if-has_none.true n)
    (λ n. ap (λ xs. flagged xs n) (sym same) ∙ c.in_ok-after.ensures.round n
    ∙ ap (λ xs. group_answer (Passes any) (flagged xs) (group_of whole n)) c.deref-then-has_none-3.ensures.value))
