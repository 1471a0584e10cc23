-- What a search for all ends answers, by what the library's call says.
use Rattle.std.proofs.Common.{◌≡◌, ◌∙◌, ℕ, Bool, List, [], length, Option, Some, None, Result, Ok, Err, IfOk, refl}
use Rattle.std.proofs.Common.{sym, ap, subst, false, arith}
use Rattle.pat_tree.specs.declared.options.MatchOptions.{MatchOptions}
use Rattle.pat_tree.specs.Pattern.{pattern_of}
use Rattle.pat_tree.specs.Parts.{tree_of}
use Rattle.ordered_search.specs.Setting.{Setting}
use Rattle.pcre2_api.specs.match_starts.Asked.{passed_over}
use Rattle.dfa_ends.specs.DfaAnswer as meant
use Rattle.dfa_ends.specs.DfaAnswer.{EndsFrom, PartialFrom, dfa_answer}
use Rattle.dfa_graph.specs.declared.making.GraphError.{GraphError}
use Rattle.dfa_graph.specs.declared.making.GraphError.TheVariants as graph
use Rattle.dfa_graph.specs.Served.{refusal}
use Rattle.pcre_io.specs.Told.{Kept}
use Rattle.pcre_io.specs.declared.traits.IoError.{IoError}
use Rattle.tool_io.specs.Writes.{Writes}
use Rattle.pcre2_api.specs.Compiled.{CodeParts}
use Rattle.pcre2_api.specs.Matched.{search_of, fault_in}
use Rattle.pcre2_errors.specs.DfaErrors.{error_of}
use Rattle.pcre2_api.specs.DfaMatched.{IsBarred, IsAnswered, IsPartly, IsDfaFound, IsDfaError, start_error_of}
use Rattle.pcre2_api.specs.declared.dfa.DfaFound.{DfaFound}
use Rattle.pcre2_errors.specs.declared.dfa_error.DfaError.{DfaError}
use Rattle.pcre2_errors.specs.declared.dfa_error.DfaError.TheVariants as told
use Rattle.pcre2_errors.specs.declared.error.MatchError.{MatchError}
use Rattle.pcre2_errors.specs.declared.error.MatchError.TheVariants as beginning
use Rattle.test_run.specs.declared.dfa.Search.{Search}
use Rattle.test_run.specs.declared.dfa.Search.TheVariants as search
use Rattle.test_run.specs.Dfa.{Told, ends, nothing, failed, told_of, unless_barred, told_at, ends_text}
use Rattle.test_run.specs.Dfa.{unmatched_text, told_text}
use Rattle.test_run.specs.DfaSearches.{error_text, IsSearch, LiesIn, TellsEnds, TellsError}
use Rattle.test_lines.proofs.Writing.{writes-first, writes-equal}

-- what an error of a search says that it answers
abbrev Says : DfaError → Told → Type 0
Says told.NoMatch a = a ≡ nothing
Says told.Memory a = Unit {0}
Says e a = a ≡ failed e

module _ (code : CodeParts) (matching : MatchOptions) (subject : List ℕ) (start : ℕ) where
  abbrev searching : Setting
  searching = search_of code matching subject start passed_over

  abbrev here : Told
  here = told_at (pattern_of code.tree) matching subject start

  abbrev found : Told
  found = told_of (length subject) (dfa_answer searching matching.dfa_shortest)

  abbrev asked : Told
  asked = unless_barred (refusal (tree_of code.tree)) found

  abbrev by_fault : Option MatchError → Told
  by_fault f = elim f [ Some e ↦ failed (start_error_of e) | None ↦ asked ]

  begun : fault_in searching ≡ None → here ≡ asked
  unfolding told_at
  begun h = ap by_fault h

  unbegun : (e : MatchError) → fault_in searching ≡ Some e → here ≡ failed (start_error_of e)
  unfolding told_at
  unbegun e h = ap by_fault h

  barred : (e : GraphError) → IsBarred searching e → here ≡ failed (error_of e)
  barred e is = begun is.begun ∙ ap (λ o. unless_barred o found) is.refused

  answered : (a : meant.DfaAnswer) → IsAnswered searching a → here ≡ told_of (length subject) a
  answered a is = begun is.begun ∙ ap (λ o. unless_barred o found) is.served ∙ ap (told_of (length subject)) is.answer

  partly : (from to : ℕ) → IsPartly searching from to → here ≡ failed (told.Partial from to)
  partly from to is =
      answered (PartialFrom from) is.answered
      ∙ ap (λ n. failed (told.Partial from n)) (sym is.to)

  says-error : (e : DfaError) → IsDfaError searching e → Says e here
  says-error told.BadOffset is = unbegun beginning.BadOffset is
  says-error (told.BadUtf at) is = unbegun (beginning.BadUtf at) is
  says-error told.BadUtfOffset is = unbegun beginning.BadUtfOffset is
  says-error told.Item is = barred graph.Item is
  says-error told.Cond is = barred graph.Cond is
  says-error told.TooLarge is = barred graph.TooLarge is
  says-error told.NoMatch is = answered meant.NoMatch is
  says-error (told.Partial from to) is = partly from to is
  says-error told.Memory is = tt

  -- What is written of a search, and what is told of it.

  abbrev said : List ℕ
  said = told_text code.tree.options.utf subject here

  said-as : (a : Told) → here ≡ a → told_text code.tree.options.utf subject a ≡ said
  said-as a is = sym (ap (told_text code.tree.options.utf subject) is)

  pub text-ends : (f : DfaFound) → IsDfaFound searching f
      → ends_text code.tree.options.utf subject f.start 0 f.ends ≡ said
  text-ends f is = said-as (ends f.start f.ends) (answered (EndsFrom f.start f.ends) is.0)

  told-by : (s : Search) (a : Told) → here ≡ a → IsSearch s a → IsSearch s here
  told-by s a is h = subst (IsSearch s) (sym is) h

  pub told-ends : (f : DfaFound) (s : Search) → IsDfaFound searching f → TellsEnds s f → IsSearch s here
  told-ends f (search.Ends to is_empty) is h =
      told-by (search.Ends to is_empty) (ends f.start f.ends) (answered (EndsFrom f.start f.ends) is.0) h
  told-ends f search.Nothing is h = absurd h
  told-ends f search.Failed is h = absurd h

  text-by : (e : DfaError) (r : Result Search IoError) (old new : Kept) → Says e here → IfOk r (TellsError e)
      → Writes (error_text code.tree.options.utf subject e) old new r → Writes said old new r
  text-by told.Memory (Ok s) old new is comes w = absurd comes
  text-by told.Memory (Err f) old new is comes w = writes-first {A = Search} [] said old new f w
  text-by told.NoMatch r old new is comes w = writes-equal (said-as nothing is) w
  text-by told.BadOffset r old new is comes w = writes-equal (said-as (failed told.BadOffset) is) w
  text-by (told.BadUtf at) r old new is comes w = writes-equal (said-as (failed (told.BadUtf at)) is) w
  text-by told.BadUtfOffset r old new is comes w = writes-equal (said-as (failed told.BadUtfOffset) is) w
  text-by told.Item r old new is comes w = writes-equal (said-as (failed told.Item) is) w
  text-by told.Cond r old new is comes w = writes-equal (said-as (failed told.Cond) is) w
  text-by told.TooLarge r old new is comes w = writes-equal (said-as (failed told.TooLarge) is) w
  text-by (told.Partial from to) r old new is comes w = writes-equal (said-as (failed (told.Partial from to)) is) w

  pub text-error : (e : DfaError) (r : Result Search IoError) (old new : Kept) → IsDfaError searching e
      → IfOk r (TellsError e) → Writes (error_text code.tree.options.utf subject e) old new r → Writes said old new r
  text-error e r old new is comes w = text-by e r old new (says-error e is) comes w

  pub lies-in : (e : DfaError) → IsDfaError searching e → LiesIn (length subject) e
  lies-in (told.Partial from to) is =
      let within = is.place.within in
      let end = is.to in
      (omega (arith, within, end), omega (arith, end))
  lies-in told.BadOffset is = tt
  lies-in (told.BadUtf at) is = tt
  lies-in told.BadUtfOffset is = tt
  lies-in told.Item is = tt
  lies-in told.Cond is = tt
  lies-in told.TooLarge is = tt
  lies-in told.NoMatch is = tt
  lies-in told.Memory is = tt

  told-nothing : (s : Search) → s ≡ search.Nothing → here ≡ nothing → IsSearch s here
  told-nothing s same is = told-by s nothing is (subst (λ t. IsSearch t nothing) (sym same) tt)

  told-failed : (e : DfaError) (s : Search) → s ≡ search.Failed → here ≡ failed e → IsSearch s here
  told-failed e s same is = told-by s (failed e) is (subst (λ t. IsSearch t (failed e)) (sym same) tt)

  told-so : (e : DfaError) (s : Search) → Says e here → TellsError e s → IsSearch s here
  told-so told.Memory s is same = absurd same
  told-so told.NoMatch s is same = told-nothing s same is
  told-so told.BadOffset s is same = told-failed told.BadOffset s same is
  told-so (told.BadUtf at) s is same = told-failed (told.BadUtf at) s same is
  told-so told.BadUtfOffset s is same = told-failed told.BadUtfOffset s same is
  told-so told.Item s is same = told-failed told.Item s same is
  told-so told.Cond s is same = told-failed told.Cond s same is
  told-so told.TooLarge s is same = told-failed told.TooLarge s same is
  told-so (told.Partial from to) s is same = told-failed (told.Partial from to) s same is

  pub told-error : (e : DfaError) (r : Result Search IoError) → IsDfaError searching e → IfOk r (TellsError e)
      → IfOk r (λ s. IsSearch s here)
  told-error e (Ok s) is comes = told-so e s (says-error e is) comes
  told-error e (Err f) is comes = tt

-- an error that tells neither that there is no match nor want of memory
pub error-failed : (utf : Bool) (subject : List ℕ) (e : DfaError) → (e ≡ told.Memory → ⊥) → (e ≡ told.NoMatch → ⊥)
    → (unmatched_text utf subject e ≡ error_text utf subject e) × TellsError e search.Failed
error-failed utf subject told.Memory memory none = absurd (memory refl)
error-failed utf subject told.NoMatch memory none = absurd (none refl)
error-failed utf subject told.BadOffset memory none = (refl, refl)
error-failed utf subject (told.BadUtf at) memory none = (refl, refl)
error-failed utf subject told.BadUtfOffset memory none = (refl, refl)
error-failed utf subject told.Item memory none = (refl, refl)
error-failed utf subject told.Cond memory none = (refl, refl)
error-failed utf subject told.TooLarge memory none = (refl, refl)
error-failed utf subject (told.Partial from to) memory none = (refl, refl)

pub told-failure : (e : DfaError) → (e ≡ told.Memory → ⊥) → (e ≡ told.NoMatch → ⊥) → (r : Result Search IoError)
    → IfOk r (λ s. s ≡ search.Failed) → IfOk r (TellsError e)
told-failure e memory none (Ok s) same = subst (TellsError e) (sym same) (error-failed false [] e memory none).1
told-failure e memory none (Err f) same = tt
