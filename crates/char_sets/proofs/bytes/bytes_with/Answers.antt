use Rattle.std.proofs.Common.{ℕ, ◌||◌, ◌==◌, false, get_or, sym, ap, ◌∙◌}
use Rattle.uni_text.specs.Properties.{has_prop}
use Rattle.char_sets.proofs.ByteLemmas.{one_more, none_more}
use Rattle.char_sets.proofs.bytes.bytes_with.Goals as goal
use Rattle.char_sets.proofs.bytes.bytes_with.Goals.{then-has_prop, else-has_prop}

pub loop-b-preserved : goal.loop-b-preserved
loop-b-preserved c k l =
    let test = λ (n : ℕ). has_prop c.args.p n in
    let b = c.loop-b.b in
    let before = c.loop-b.invariant k l in
    elim c.if-has_prop.branch [
      | then-has_prop w ↦
          ap (λ s. get_or s k false) w.bytes-is ∙ w.insert.ensures k ∙ ap (λ x. x || k == b) before
          ∙ one_more test b k (sym c.has_prop.ensures ∙ w.if-has_prop.true)
      | else-has_prop w ↦
          ap (λ s. get_or s k false) w.bytes-is ∙ before ∙ none_more test b k
          (sym c.has_prop.ensures ∙ w.if-has_prop.false)
    ]
