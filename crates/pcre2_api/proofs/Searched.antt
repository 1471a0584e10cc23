-- What a search answers, by what the library's call says.
use Rattle.std.proofs.Common.{◌≡◌, ap, Option, Some, None}
use Rattle.ordered_search.specs.Setting.{Setting}
use Rattle.ordered_search.specs.MatchAnswer.{match_answer}
use Rattle.pcre2_errors.specs.declared.error.MatchError.{MatchError}
use Rattle.pcre2_errors.specs.MatchErrors.{number_of}
use Rattle.pcre2_api.specs.Matched.{fault_in}
use Rattle.pcre2_api.specs.Answers.{Answer, error, answer_of, search_answer}

module _ (g : Setting) where
  abbrev by_fault : Option MatchError → Answer
  by_fault f = elim f [ Some e ↦ error (number_of e) | None ↦ answer_of (match_answer g).answer ]

  pub begun : fault_in g ≡ None → search_answer g ≡ answer_of (match_answer g).answer
  begun is = ap by_fault is
