use Rattle.std.proofs.Common.{◌∙◌, ◌≤◌, ℕ, true, refl, sym, ap, subst, arith, slice_range}
use Rattle.uni_text.specs.Characters.{IsChecked}
use Rattle.pcre2_api.specs.Compiled.{CodeParts}
use Rattle.c_door.specs.declared.runs.Run.{Run}
use Rattle.c_door.specs.Runs.{IsToldIn}
use Rattle.c_door.proofs.Running.{none_where, rest-first, run-next, run-told, run-ended}
use Rattle.c_door.proofs.engine.Engine.find_in_runs.Goals as goal

pub begin_of-begin-requires : goal.begin_of-begin-requires
begin_of-begin-requires c = c.requires.begun

pub run-init : goal.run-init
run-init c = record {
  within = omega arith;
  kept = refl;
  rest = rest-first c.args.self.now.code.value c.args.options.now c.args.subject.now c.args.start
      c.begin_of-begin.result;
}

pub run_from-run-requires : goal.run_from-run-requires
run_from-run-requires c = c.run.invariant.within

pub find_in-told-requires-clause-run : goal.find_in-told-requires-clause-run
find_in-told-requires-clause-run c =
    subst (λ (r : Run). r.from ≤ r.to) (sym c.run_from-run.ensures.run) (omega arith)

pub find_in-told-requires-clause-within : goal.find_in-told-requires-clause-within
find_in-told-requires-clause-within c = c.run_from-run.ensures.within

pub find_in-told-requires-clause-checked : goal.find_in-told-requires-clause-checked
find_in-told-requires-clause-checked c =
    subst (λ (n : ℕ). IsChecked true (slice_range c.args.subject.now n c.run_from-run.result.to))
    (sym (ap (λ (r : Run). r.from) c.run_from-run.ensures.run)) c.run_from-run.ensures.checked

pub find_in-told-requires-clause-short : goal.find_in-told-requires-clause-short
find_in-told-requires-clause-short c = c.requires.short

pub returns-in_default-clause-told : goal.returns-in_default-clause-told
returns-in_default-clause-told c = (
  c.begin_of-begin.result,
  c.begin_of-begin.ensures,
  run-told c.args.self.now.code.value c.args.options.now c.args.subject.now c.args.start c.begin_of-begin.result
      c.run.from c.run.seen c.run_from-run.result c.find_in-told.result c.find_in-told.new.places
      c.find_in-told.new.mark c.run.invariant.rest c.run_from-run.ensures.run
      (subst (λ (k : CodeParts). IsToldIn k c.args.options.now c.args.subject.now c.args.start c.begin_of-begin.result
      c.find_in-told.new.places c.find_in-told.new.mark c.run_from-run.result c.find_in-told.result)
      c.run.invariant.kept c.find_in-told.ensures.told)
      (sym c.missed.ensures ∙ none_where c.missed.result c.in_default.not-Some),
)

pub returns-in_default-clause-kept : goal.returns-in_default-clause-kept
returns-in_default-clause-kept c = c.find_in-told.ensures.kept ∙ c.run.invariant.kept

pub returns-then-run-subject-clause-told : goal.returns-then-run-subject-clause-told
returns-then-run-subject-clause-told c = (
  c.begin_of-begin.result,
  c.begin_of-begin.ensures,
  run-ended c.args.self.now.code.value c.args.options.now c.args.subject.now c.args.start c.begin_of-begin.result
      c.run.from c.run.seen c.in-Some.last c.or_else-seen.result c.run_from-run.result c.find_in-told.result
      c.find_in-told.new.places c.find_in-told.new.mark c.run.invariant.rest c.run_from-run.ensures.run
      (subst (λ (k : CodeParts). IsToldIn k c.args.options.now c.args.subject.now c.args.start c.begin_of-begin.result
      c.find_in-told.new.places c.find_in-told.new.mark c.run_from-run.result c.find_in-told.result)
      c.run.invariant.kept c.find_in-told.ensures.told)
      (sym c.missed.ensures ∙ c.in-Some.is) c.or_else-seen.ensures c.if-run-subject.true,
)

pub returns-then-run-subject-clause-kept : goal.returns-then-run-subject-clause-kept
returns-then-run-subject-clause-kept c = c.find_in-told.ensures.kept ∙ c.run.invariant.kept

pub run-smaller : goal.run-smaller
run-smaller c =
    let to = ap (λ (r : Run). r.to) c.run_from-run.ensures.run in
    omega (arith, to, c.run.invariant.within, c.if-run-subject.false)

pub run-preserved : goal.run-preserved
run-preserved c = record {
  within = omega (arith, c.if-run-subject.false);
  kept = c.find_in-told.ensures.kept ∙ c.run.invariant.kept;
  rest = run-next c.args.self.now.code.value c.args.options.now c.args.subject.now c.args.start
      c.begin_of-begin.result c.run.from c.run.seen c.in-Some.last c.or_else-seen.result c.run_from-run.result
      c.find_in-told.result c.find_in-told.new.places c.find_in-told.new.mark c.run.invariant.rest
      c.run_from-run.ensures.run
      (subst (λ (k : CodeParts). IsToldIn k c.args.options.now c.args.subject.now c.args.start
      c.begin_of-begin.result c.find_in-told.new.places c.find_in-told.new.mark c.run_from-run.result
      c.find_in-told.result) c.run.invariant.kept c.find_in-told.ensures.told)
      (sym c.missed.ensures ∙ c.in-Some.is) c.or_else-seen.ensures c.if-run-subject.false;
}
