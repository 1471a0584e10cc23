use Rattle.std.proofs.Common.{ℕ, ◌+◌, ◌<◌, ◌≤◌, ◌||◌, List, get_or, take_all, sym, ap, ◌∙◌, arith, rules, le_trans}
use Rattle.std.proofs.Common.{length}
use Rattle.std.proofs.lemmas.List.{get_or_default}
use Rattle.std.proofs.lemmas.List.Folds.{list_any_more}
use Rattle.std.proofs.lemmas.List.Sorted.{IsNonDecreasingBy-from_sort_by_key, list_any-IsPermutation}
use Rattle.std.specs.List.Sorted.{IsNonDecreasingBy}
use Rattle.char_sets.specs.declared.runs.Run.{Run}
use Rattle.char_sets.specs.Runs.{runs_have}
use Rattle.char_sets.proofs.RunLemmas.{run_has}
use Rattle.char_sets.proofs.runs.joined.Goals as goal

step : (runs : List Run) → IsNonDecreasingBy (λ (r : Run). r.from) runs → (i k : ℕ) (d e : Run) → i + 1 ≤ k
    → k < length runs → (get_or runs i d).from ≤ (get_or runs k e).from
step runs sorted i k d e le lt = omega (
  arith,
  sorted i k e (omega arith) lt,
  ap (λ (r : Run). r.from) (get_or_default runs i d e (omega arith)),
)

pub loop-run-preserved : goal.loop-run-preserved
loop-run-preserved c =
    let runs = c.deref-run-items.result.now in
    let i = c.loop-run.run-index in
    let inv = c.loop-run.invariant in
    let added = c.in_ok-add_run.ensures in
    let d : Run = record { from = 0; to = 0 } in
    let sorted : IsNonDecreasingBy (λ (r : Run). r.from) runs =
    rw c.deref-run-items.ensures.value
    (IsNonDecreasingBy-from_sort_by_key (λ (r : Run). r.from) _ c.sort_unstable_by_key.ensures.sorted
    (λ a r q k. search rules)) in
    record {
      same = λ x. added.members x ∙ ap (λ b. b || run_has x (get_or runs i d)) (inv.same x)
          ∙ sym (list_any_more (run_has x) runs i d c.loop-run-test.true);
      rising = added.rising;
      last = λ k e le lt j f within. le_trans (added.last j f within) (step runs sorted i k d e le lt);
    }

pub returns-clause-same : goal.returns-clause-same
returns-clause-same c x =
    let all = take_all _ _ c.loop-run-test.false ∙ c.deref-run-items.ensures.value in
    c.loop-run.invariant.same x ∙ ap (λ rs. runs_have rs x) all
    ∙ sym (list_any-IsPermutation (run_has x) _ _ c.sort_unstable_by_key.ensures.permutation)
