use Rattle.std.proofs.Common.{◌≡◌, ℕ, ◌||◌, ◌==◌, false, get_or, sym, ap, ◌∙◌}
use Rattle.uni_text.specs.Folding.{fold}
use Rattle.char_sets.proofs.ByteLemmas.{one_more, none_more}
use Rattle.pat_check.proofs.item_bytes.cased_bytes.Goals as goal
use Rattle.pat_check.proofs.item_bytes.cased_bytes.Goals.{then-folds_to, else-folds_to}

pub loop-b-preserved : goal.loop-b-preserved
loop-b-preserved c k l =
    let test = λ (n : ℕ). fold c.args.c == fold n in
    let b = c.loop-b.b in
    let before = c.loop-b.invariant k l in
    let told : test b ≡ c.folds_to.result =
    ap (λ n. n == fold b) (sym c.fold-folded.ensures) ∙ sym c.folds_to.ensures in
    elim c.if-folds_to.branch [
      | then-folds_to w ↦
          ap (λ s. get_or s k false) w.bytes-is ∙ w.insert.ensures k ∙ ap (λ x. x || k == b) before
          ∙ one_more test b k (told ∙ w.if-folds_to.true)
      | else-folds_to w ↦
          ap (λ s. get_or s k false) w.bytes-is ∙ before ∙ none_more test b k (told ∙ w.if-folds_to.false)
    ]
