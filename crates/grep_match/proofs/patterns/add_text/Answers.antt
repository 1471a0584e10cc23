use Rattle.std.proofs.Common.{◌≡◌, [], ◌∷◌, sym, subst, true-eqb, length}
use Rattle.grep_match.specs.PatternTexts.{options_of, pattern_texts, wrapped}
use Rattle.grep_match.specs.Compiled.{meant, Adds}
use Rattle.grep_match.proofs.PatternLines.{texts-plain, texts-empty}
use Rattle.grep_match.proofs.patterns.add_text.Goals as goal
use Rattle.grep_match.proofs.patterns.add_text.Goals.{else-plan-via-then-plan+else-not-is_empty}
use Rattle.grep_match.proofs.patterns.add_text.Goals.{else-plan-via-else-plan}

pub returns-else-plan-clause-adds : goal.returns-else-plan-clause-adds
returns-else-plan-clause-adds c =
    let texts : pattern_texts c.args.plan.now (c.args.text.now ∷ []) ≡ wrapped c.args.plan.now c.args.text.now ∷ [] =
    elim c.else-plan.branch [
      | else-plan-via-then-plan+else-not-is_empty w ↦ texts-empty c.args.plan.now c.args.text.now
          (true-eqb (length c.args.text.now) 0 w.if-not-is_empty.ensures)
      | else-plan-via-else-plan w ↦ texts-plain c.args.plan.now c.args.text.now w.if-plan.false
    ] in
    let options = options_of c.args.plan.now in
    subst (λ l. Adds {A = Unit {0}} options l (meant options c.args.patterns.now.items)
    (meant options c.add.new.patterns.items) c.add.result) (sym texts) c.add.ensures.adds
