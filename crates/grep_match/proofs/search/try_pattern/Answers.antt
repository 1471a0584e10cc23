use Rattle.std.proofs.Common.{◌∙◌, ◌||◌, not, length, pos, sym, ap, subst, refl}
use Rattle.std.specs.Str.{is_utf8}
use Rattle.std.proofs.lemmas.Result.{IfOk-weaker}
use Rattle.pat_tree.specs.declared.options.Options.{Options}
use Rattle.pcre2_api.specs.Matched.{search_of}
use Rattle.pcre2_api.specs.Answers.{search_answer}
use Rattle.grep_match.specs.declared.search.Answer.TheVariants as told
use Rattle.pcre2_api.specs.pcre2_errors.MatchErrors.{minus}
use Rattle.grep_match.specs.Found.{IsAnswer, IsUnfound}
use Rattle.grep_match.proofs.Searching.{searchable, not_text, not_added}
use Rattle.grep_match.proofs.search.try_pattern.Goals as goal

pub match_again-requires-clause-checked : goal.match_again-requires-clause-checked
match_again-requires-clause-checked c =
    searchable c.args.code.now.tree.options.utf c.args.line.now
    (ap (λ (o : Options). not o.utf || is_utf8 c.args.line.now) (sym c.options.ensures)
    ∙ sym c.is_searchable.ensures.value ∙ c.if-not-is_searchable.false)

pub returns-then-not-is_searchable-clause-answer : goal.returns-then-not-is_searchable-clause-answer
returns-then-not-is_searchable-clause-answer c =
    let line = c.args.line.now in
    subst (IsAnswer c.args.wanted.now (length line) c.args.work.now.found c.args.work.now.found (told.Error (minus 3)))
    (sym (not_text c.args.code.now c.args.options.now line c.args.start c.requires.begun
    (ap (λ (o : Options). not o.utf || is_utf8 line) (sym c.options.ensures) ∙ sym c.is_searchable.ensures.value
    ∙ c.if-not-is_searchable.true)))
    refl

pub returns-in-Err-clause-answer : goal.returns-in-Err-clause-answer
returns-in-Err-clause-answer c =
    let asked = search_of c.args.code.now c.args.options.now c.args.line.now c.args.start (λ _. pos 0) in
    IfOk-weaker c.error_number.result (λ a. IsUnfound a (search_answer asked)) _
    (λ a h. not_added c.args.wanted.now c.args.work.now.found a c.args.code.now c.args.options.now c.args.line.now
    c.args.start h)
    (c.error_number.ensures asked c.in-Err.ensures.refused)
