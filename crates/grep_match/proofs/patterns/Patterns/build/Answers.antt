use Rattle.std.proofs.Common.{◌≡◌, ◌∙◌, Ok, take, sym, ap, subst, rules}
use Rattle.std.proofs.lemmas.List.{take_all}
use Rattle.std.proofs.lemmas.List.Elements.{All-nil}
use Rattle.pat_tree.specs.declared.options.Options.{Options}
use Rattle.grep_match.specs.PatternTexts.{options_of, pattern_texts}
use Rattle.grep_match.specs.Compiled.{Compiled, compiled_from, meant, IsKept, AreKept}
use Rattle.grep_match.proofs.PatternLines.{one-text, text-refused}
use Rattle.grep_match.proofs.patterns.Patterns.build.Goals as goal

pub returns-in-Err-clause-refused : goal.returns-in-Err-clause-refused
returns-in-Err-clause-refused c =
    let options = options_of c.args.plan.now in
    text-refused (Unit {0}) options c.args.plan.now c.args.texts.now c.loop-text.text-index
    c.text-item.result (meant options c.loop-text.kept.items) (meant options c.add_text.new.patterns.items)
    c.in-Err.e
    (rw c.as_slice-text-items.ensures at c.loop-text-test.true) (rw c.as_slice-text-items.ensures at c.text-item.is)
    c.loop-text.invariant.adds (rw c.bytes.ensures at c.in-Err.ensures.adds)

pub loop-text-preserved : goal.loop-text-preserved
loop-text-preserved c =
    let options = options_of c.args.plan.now in
    record {
      adds =
          one-text {A = Unit {0}} options c.args.plan.now c.args.texts.now c.loop-text.text-index
          c.text-item.result (meant options c.loop-text.kept.items) (meant options c.add_text.new.patterns.items)
          (Ok (tt {0})) (rw c.as_slice-text-items.ensures at c.loop-text-test.true)
          (rw c.as_slice-text-items.ensures at c.text-item.is) c.loop-text.invariant.adds
          (rw c.bytes.ensures at c.in-Ok.ensures.adds);
      kept = c.in-Ok.ensures.kept c.loop-text.invariant.kept;
    }

pub loop-text-init : goal.loop-text-init
loop-text-init c =
    let options = options_of c.args.plan.now in
    record {
      adds = search rules;
      kept = subst (AreKept options) (sym c.new-kept.ensures.items) (All-nil (IsKept options));
    }

pub invariant_of-result : goal.invariant_of-result
invariant_of-result c =
    subst (λ o. AreKept o c.loop-text.kept.items) (sym c.options_of.ensures) c.loop-text.invariant.kept

pub returns-clause-built : goal.returns-clause-built
returns-clause-built c =
    let i = c.loop-text.invariant.adds in
    let options = options_of c.args.plan.now in
    let all : take c.loop-text.text-index c.args.texts.now ≡ c.args.texts.now =
    take_all _ _ (rw c.as_slice-text-items.ensures at c.loop-text-test.false) in
    subst (λ l. compiled_from options 1 (pattern_texts c.args.plan.now l) ≡ Ok i.0) all i.2
    ∙ ap (λ l. let r : Compiled = Ok l in r) (sym i.1)
    ∙ ap (λ (o : Options). let r : Compiled = Ok (meant o c.loop-text.kept.items) in r) (sym c.options_of.ensures)
