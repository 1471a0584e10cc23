-- What a search answers, by what the library's call says.
use Rattle.std.proofs.Common.{◌≡◌, ◌∙◌, ℕ, ◌≤◌, List, length, pos, Option, Some, None, Result, Ok, Err, IfOk, IfErr}
use Rattle.std.proofs.Common.{OnOk, refl, sym, ap, subst, append-nil}
use Rattle.pat_tree.specs.declared.options.MatchOptions.{MatchOptions}
use Rattle.pat_tree.specs.Pattern.{Pattern, pattern_of}
use Rattle.ordered_search.specs.Setting.{Setting}
use Rattle.ordered_search.specs.PlaceAnswer.{Outcome, last_name}
use Rattle.ordered_search.specs.MatchAnswer.{MatchAnswer, match_answer}
use Rattle.pcre2_api.specs.Compiled.{CodeParts}
use Rattle.pcre2_api.specs.Matched.{MatchParts, search_of, fault_in, IsFound, IsMatchError}
use Rattle.pcre2_api.specs.Patterns.{setting}
use Rattle.pcre2_api.specs.Starts.{start_fault}
use Rattle.pcre2_errors.specs.declared.error.MatchError.{MatchError}
use Rattle.pcre2_errors.specs.declared.error.MatchError.TheVariants as told
use Rattle.pcre2_api.specs.declared.substitute.Search.{Search}
use Rattle.pcre2_api.specs.declared.substitute.Search.TheVariants as search
use Rattle.pcre2_errors.specs.declared.subst_error.SubstError.{SubstError}
use Rattle.pcre2_api.specs.Walks.{Answer, found, none, failed, answer_of, answer_in, answer_at}
use Rattle.pcre2_api.specs.Substituted.{Work, added_by, search_refusal, IsAdded, IsSearch, Tells, TellsMatch, Refuses}

-- what an error of a search says that it answers
abbrev pub Says : MatchError → Answer → Type 0
Says (told.NoMatch mark) a = a ≡ none
Says told.Memory a = Unit {0}
Says e a = a ≡ failed e

-- What a search answers, where it can begin.
module _ (searching : Setting) where
  abbrev asked : Answer
  asked = answer_in (length searching.subject) (match_answer searching)

  abbrev by_fault : Option MatchError → Answer
  by_fault f = elim f [ Some e ↦ failed e | None ↦ asked ]

  abbrev here : Answer
  here = by_fault (fault_in searching)

  by_answer : {a : MatchAnswer} → fault_in searching ≡ None → (match_answer searching).answer ≡ a →
      here ≡ answer_of (length searching.subject) (last_name (match_answer searching).notes) a
  by_answer begun is = ap by_fault begun
      ∙ ap (answer_of (length searching.subject) (last_name (match_answer searching).notes)) is

  pub search-found : (f : MatchParts) → IsFound searching f → here ≡ found f.outcome
  search-found f is = by_answer is.begun is.answer

  pub search-error : (e : MatchError) → IsMatchError searching e → Says e here
  search-error told.BadOffset is = ap by_fault is
  search-error (told.BadUtf at) is = ap by_fault is
  search-error told.BadUtfOffset is = ap by_fault is
  search-error (told.NoMatch mark) is = by_answer is.0 is.1
  search-error (told.Partial from to mark) is =
      by_answer is.0 is.1
      ∙ ap (λ (m : Option ℕ). failed (told.Partial from (length searching.subject) m)) (sym is.2)
      ∙ ap (λ (n : ℕ). failed (told.Partial from n mark)) (sym is.5)
  search-error told.MatchLimit is = by_answer is.0 is.1
  search-error told.FrameLimit is = by_answer is.0 is.1
  search-error told.RecurseLoop is = by_answer is.0 is.1
  search-error (told.Callout n) is = by_answer is.0 is.1
  search-error told.Memory is = tt

-- The same of a search from a place on, whose callouts are passed over.
module _ (code : CodeParts) (matching : MatchOptions) (subject : List ℕ) (start : ℕ) where
  abbrev at_start : Setting
  at_start = search_of code matching subject start (λ _. pos 0)

  pub answer-found : (f : MatchParts) → IsFound at_start f
      → answer_at (pattern_of code.tree) matching subject start ≡ found f.outcome
  unfolding answer_at
  answer-found f is = search-found at_start f is

  pub answer-error : (e : MatchError) → IsMatchError at_start e
      → Says e (answer_at (pattern_of code.tree) matching subject start)
  unfolding answer_at
  answer-error e is = search-error at_start e is

-- A search that finds nothing can begin, and one that can't begin fails.
module _ (p : Pattern) (matching : MatchOptions) (subject : List ℕ) (at : ℕ) where
  none-begun : (f : Option MatchError) (a : Answer) → (elim f [ Some e ↦ failed e | None ↦ a ]) ≡ none → f ≡ None
  none-begun None a is = refl
  none-begun (Some e) a is = cc

  pub begun-at-none : answer_at p matching subject at ≡ none → start_fault p.options.utf subject at ≡ None
  unfolding answer_at
  begun-at-none is = none-begun (start_fault p.options.utf subject at)
      (answer_in (length subject) (match_answer (setting p matching subject at))) is

  pub fails-at : (e : MatchError) → start_fault p.options.utf subject at ≡ Some e
      → answer_at p matching subject at ≡ failed e
  unfolding answer_at
  fails-at e is =
      ap (λ (f : Option MatchError). elim f [
        | Some e ↦ failed e
        | None ↦
            answer_in (length subject) (match_answer (setting p matching subject at))
      ]) is

-- What is told of an error, after which nothing is added.
pub record IsTold (w : Work) (from : ℕ) (old : List ℕ) (a : Answer) (result : Result Search SubstError) : Type 0 where
  pub comes : IfOk result (λ s. IsSearch (length w.subject) s a)
  pub added : OnOk result (IsAdded old old (added_by w from a))
  pub refused : IfErr result (Refuses (added_by w from a))

module _ (w : Work) (from : ℕ) (old : List ℕ) (a : Answer) (result : Result Search SubstError) where
  nothing : a ≡ none → result ≡ Ok search.Nothing → IsTold w from old a result
  nothing is same =
      subst (λ b. IsTold w from old b result) (sym is)
      (subst (IsTold w from old none) (sym same) (record { comes = tt; added = sym (append-nil old); refused = tt }))

  fails : (e : MatchError) → a ≡ failed e → result ≡ Err (search_refusal e)
      → (let r : Result (List ℕ) SubstError = Err (search_refusal e) in Refuses r (search_refusal e))
      → IsTold w from old a result
  fails e is same refuses =
      subst (λ b. IsTold w from old b result) (sym is)
      (subst (IsTold w from old (failed e)) (sym same) (record { comes = tt; added = tt; refused = refuses }))

  memory : result ≡ Err (search_refusal told.Memory) → IsTold w from old a result
  memory same = subst (IsTold w from old a) (sym same) (record { comes = tt; added = tt; refused = tt })

  pub told-as : (e : MatchError) → Says e a → Tells e result → IsTold w from old a result
  told-as told.BadOffset is same = fails told.BadOffset is same refl
  told-as (told.BadUtf at) is same = fails (told.BadUtf at) is same refl
  told-as told.BadUtfOffset is same = fails told.BadUtfOffset is same refl
  told-as (told.NoMatch mark) is same = nothing is same
  told-as (told.Partial p q mark) is same = fails (told.Partial p q mark) is same tt
  told-as told.MatchLimit is same = fails told.MatchLimit is same refl
  told-as told.FrameLimit is same = fails told.FrameLimit is same refl
  told-as told.RecurseLoop is same = fails told.RecurseLoop is same refl
  told-as (told.Callout n) is same = fails (told.Callout n) is same tt
  told-as told.Memory is same = memory same

-- What is told of a match says what the search answers.
pub told-match : (len : ℕ) (a : Answer) (o : Outcome) (s : Search) → a ≡ found o → TellsMatch s o → o.to ≤ len
    → IsSearch len s a
told-match len a o (search.Replaced to is_empty) is h within =
    subst (IsSearch len (search.Replaced to is_empty)) (sym is) (h.0, h.1, within)
told-match len a o search.Nothing is h within = absurd h
