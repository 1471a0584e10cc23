use Rattle.std.proofs.Common.{ℕ, length, ◌<◌, ◌≤◌, ltb, ltb-true, rules, sym, ◌∙◌, arith, inl, inr, get_or}
use Rattle.std.proofs.lemmas.Bool.{cases_lt, ltb-false, le-leb, lt-leb, le-ltb}
use Rattle.std.proofs.lemmas.List.Sorted.{IsPartitionPoint-from_clause, IsPartitionedBy-ltb}
use Rattle.char_sets.specs.declared.runs.Run.{Run}
use Rattle.char_sets.proofs.RunLemmas.{found, missed, none}
use Rattle.char_sets.proofs.runs.runs_have.Goals as goal

pub returns-then-first-runs : goal.returns-then-first-runs
returns-then-first-runs c =
    let runs = c.args.runs.now in
    let x = c.args.c in
    let first = c.partition_point-first.result in
    let parted = IsPartitionedBy-ltb (λ (r : Run). r.to) _ x c.requires.to in
    let parts = IsPartitionPoint-from_clause (λ (r : Run). ltb r.to x) _ _ c.partition_point-first.ensures.partitioned
    parted (λ a r q k. search rules) in
    let d : Run = record { from = 0; to = 0 } in
    let below : (k : ℕ) (e : Run) → k < first → (get_or runs k e).to < x =
    λ k e lt. ltb-true _ _ (parts.0 k e (omega arith) lt) in
    let above : (k : ℕ) (e : Run) → first ≤ k → k < length runs → x ≤ (get_or runs k e).to =
    λ k e le lt. ltb-false _ _ (parts.1 k e le lt) in
    elim (cases_lt x (get_or runs first d).from) [
      | inl short ↦ lt-leb _ x short ∙ sym (missed runs x first c.requires below above d c.if-first-runs.true short)
      | inr reached ↦ le-leb _ x reached
          ∙ sym (found runs x first c.requires below above d c.if-first-runs.true reached)
    ]

pub returns-else-first-runs : goal.returns-else-first-runs
returns-else-first-runs c =
    let parted = IsPartitionedBy-ltb (λ (r : Run). r.to) _ c.args.c c.requires.to in
    let parts = IsPartitionPoint-from_clause (λ (r : Run). ltb r.to c.args.c) _ _
    c.partition_point-first.ensures.partitioned parted (λ a r q k. search rules) in
    le-ltb _ _ c.if-first-runs.false
    ∙ sym (none c.args.runs.now c.args.c c.partition_point-first.result c.requires
    (λ k e lt. ltb-true _ _ (parts.0 k e (omega arith) lt)) (λ k e le lt. ltb-false _ _ (parts.1 k e le lt))
    c.if-first-runs.false)
