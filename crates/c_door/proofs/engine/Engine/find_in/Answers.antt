use Rattle.std.proofs.Common.{◌∙◌, ◌-◌, ◌≤◌, ℕ, refl, sym, subst, arith, drop, slice_range, max, pos}
use Rattle.std.proofs.lemmas.Bool.{true≢false}
use Rattle.std.proofs.lemmas.List.{length-take, length-drop}
use Rattle.pat_tree.specs.declared.options.MatchOptions.{MatchOptions}
use Rattle.pcre2_api.specs.Matched.{search_of}
use Rattle.c_door.specs.Telling.{IsFoundOrNot}
use Rattle.c_door.specs.Runs.{IsToldIn, options_in}
use Rattle.c_door.proofs.Answered.{found_or_not}
use Rattle.c_door.proofs.engine.Engine.find_in.Goals as goal

pub returns-then-is_passed-clause-told : goal.returns-then-is_passed-clause-told
unfolding IsToldIn
returns-then-is_passed-clause-told c =
    (λ e. refl, λ e. absurd (true≢false (sym (sym c.is_passed.ensures ∙ c.if-is_passed.true) ∙ e)))

pub overflow_sub-at : goal.overflow_sub-at
overflow_sub-at c = omega (arith, c.max-at.ensures)

pub find_again-requires-clause-checked : goal.find_again-requires-clause-checked
find_again-requires-clause-checked c = λ utf. c.requires.checked refl

pub find_again-requires-clause-short : goal.find_again-requires-clause-short
find_again-requires-clause-short c =
    let n = c.args.run.to - c.args.run.from in
    let rest = drop c.args.run.from c.args.subject.now in
    omega (arith, c.requires.short, length-take n rest, length-drop c.args.run.from c.args.subject.now)

pub returns-clause-told : goal.returns-clause-told
unfolding IsToldIn
returns-clause-told c =
    let code = c.args.self.now.code.value in
    let text = c.args.subject.now in
    let run = c.args.run in
    let part = slice_range text run.from run.to in
    let places = c.find_again.new.places in
    let mark = c.find_again.new.mark in
    let told = c.find_again.result in
    let by_both : IsFoundOrNot code
    (search_of code c.options_in-options.result part (c.max-at.result - run.from) (λ _. pos 0)) places mark told =
    found_or_not code (search_of code c.options_in-options.result part (c.max-at.result - run.from) (λ _. pos 0))
    places mark told c.find_again.ensures.found c.find_again.ensures.refused in
    let of_options : IsFoundOrNot code (search_of code
    (options_in c.args.options.now text c.args.start run c.max-at.result) part (c.max-at.result - run.from)
    (λ _. pos 0)) places mark told =
    subst (λ (o : MatchOptions). IsFoundOrNot code (search_of code o part (c.max-at.result - run.from) (λ _. pos 0))
    places mark told) c.options_in-options.ensures by_both in
    let at_place : IsFoundOrNot code (search_of code
    (options_in c.args.options.now text c.args.start run (max c.args.begin run.from)) part
    (max c.args.begin run.from - run.from) (λ _. pos 0)) places mark told =
    subst (λ (at : ℕ). IsFoundOrNot code (search_of code (options_in c.args.options.now text c.args.start run at) part
    (at - run.from) (λ _. pos 0)) places mark told) c.max-at.ensures of_options in
    (λ e. absurd (true≢false (sym e ∙ (sym c.is_passed.ensures ∙ c.if-is_passed.false))), λ e. at_place)
