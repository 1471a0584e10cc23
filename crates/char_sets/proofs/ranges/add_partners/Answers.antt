use Rattle.std.proofs.Common.{ℕ, ◌<◌, ◌≤◌, ◌||◌, length, get_or, sym, ap, ◌∙◌, arith, ltb-true}
use Rattle.std.proofs.lemmas.List.{get_or_default}
use Rattle.char_sets.specs.Runs.{runs_have}
use Rattle.char_sets.proofs.PartLemmas.{or_none, none_before, none_after}
use Rattle.char_sets.proofs.ranges.add_partners.Goals as goal

pub loop-i-init : goal.loop-i-init
loop-i-init c =
    let parts = c.first_pair-first.ensures in
    record {
      more = λ x out. or_none (runs_have c.args.runs.now.items x)
          ∙ ap (λ b. runs_have c.args.runs.now.items x || b)
          (sym (none_before c.args.pairs.now c.args.from c.args.to x c.first_pair-first.result
          (λ k d lt. ltb-true _ _ (parts.0 k d (omega arith) lt))));
      kept = λ x h. h;
    }

pub returns-then-c-to-clause-more : goal.returns-then-c-to-clause-more
returns-then-c-to-clause-more c x out =
    let pairs = c.args.pairs.now in
    let i = c.loop-i.i in
    let above : (k : ℕ) (d : ℕ × ℕ) → i ≤ k → k < length pairs → c.args.to < (get_or pairs k d).0 = λ k d le lt.
    omega (
      arith,
      c.if-c-to.true,
      c.requires i k d le lt,
      ap (λ (p : ℕ × ℕ). p.0) (get_or_default pairs i d (0, 0) c.loop-i-test.true),
    ) in
    c.loop-i.invariant.more x out ∙ ap (λ b. runs_have c.args.runs.now.items x || b)
    (sym (none_after pairs c.args.from c.args.to x i above))
