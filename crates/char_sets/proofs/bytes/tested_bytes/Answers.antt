use Rattle.std.proofs.Common.{ℕ, ◌||◌, ◌==◌, false, get_or, sym, ap, ◌∙◌}
use Rattle.char_sets.specs.Named.{set_in}
use Rattle.char_sets.proofs.ByteLemmas.{one_more, none_more}
use Rattle.char_sets.proofs.bytes.tested_bytes.Goals as goal
use Rattle.char_sets.proofs.bytes.tested_bytes.Goals.{then-is_in_set, else-is_in_set}

pub loop-b-preserved : goal.loop-b-preserved
loop-b-preserved c k l =
    let test = λ (n : ℕ). set_in c.args.named.now n in
    let b = c.loop-b.b in
    let before = c.loop-b.invariant k l in
    elim c.if-is_in_set.branch [
      | then-is_in_set w ↦
          ap (λ s. get_or s k false) w.bytes-is ∙ w.insert.ensures k ∙ ap (λ x. x || k == b) before
          ∙ one_more test b k (sym c.is_in_set.ensures ∙ w.if-is_in_set.true)
      | else-is_in_set w ↦
          ap (λ s. get_or s k false) w.bytes-is ∙ before ∙ none_more test b k
          (sym c.is_in_set.ensures ∙ w.if-is_in_set.false)
    ]
