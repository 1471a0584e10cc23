-- What the runs of a subject tell, from one run to the next.
use Rattle.std.proofs.Common.{◌≡◌, ◌+◌, ◌<◌, ◌≤◌, ℕ, List, Option, Some, None, Result, Ok, Err, length, refl, sym}
use Rattle.std.proofs.Common.{subst}
use Rattle.pat_tree.specs.declared.options.MatchOptions.{MatchOptions}
use Rattle.pcre2_errors.specs.declared.error.MatchError.{MatchError}
use Rattle.pcre2_errors.specs.declared.error.MatchError.TheVariants.{NoMatch}
use Rattle.pcre2_api.specs.Compiled.{CodeParts}
use Rattle.c_door.specs.declared.told.Hit.{Hit}
use Rattle.c_door.specs.declared.told.Pair.{Pair}
use Rattle.c_door.specs.declared.runs.Run.{Run}
use Rattle.c_door.specs.Runs.{run_from, IsToldIn, AreTold, missed, or_else, told, ended, passed}

no-hit : (o : Option (Option ℕ)) (last : Option ℕ) → o ≡ None → o ≡ Some last → ⊥
no-hit o last none some = cc

pub none_where : (o : Option (Option ℕ)) → ((last : Option ℕ) → o ≡ Some last → ⊥) → o ≡ None
none_where None h = refl
none_where (Some last) h = absurd (h last refl)

-- where nothing was found, the room for places and for the mark says nothing
pub anywhere : (code : CodeParts) (o : MatchOptions) (text : List ℕ) (start begin : ℕ) (places others : List Pair)
    (mark other : List ℕ) (run : Run) (r : Result Hit MatchError) (last : Option ℕ) → missed r ≡ Some last
    → IsToldIn code o text start begin places mark run r → IsToldIn code o text start begin others other run r
unfolding IsToldIn
anywhere code o text start begin places others mark other run (Ok hit) last e h =
    absurd (no-hit None last refl e)
anywhere code o text start begin places others mark other run (Err r) last e h = h

module _ (code : CodeParts) (o : MatchOptions) (text : List ℕ) (start begin : ℕ) where
  abbrev pub All : List Pair → List ℕ → ℕ → Option ℕ → Run → Result Hit MatchError → Type 0
  All places mark = AreTold text (IsToldIn code o text start begin places mark)

  -- what the runs from a place on tell is what all runs tell
  unfoldable pub Rest : ℕ → Option ℕ → Type 0
  Rest from seen =
      (places : List Pair) (mark : List ℕ) (run : Run) (r : Result Hit MatchError)
      → All places mark from seen run r → All places mark 0 None run r

  pub rest-first : Rest 0 None
  unfolding Rest
  rest-first places mark run r x = x

  pub rest-next : (from : ℕ) (seen last : Option ℕ) (r : Result Hit MatchError) (places : List Pair) (mark : List ℕ)
      → Rest from seen → IsToldIn code o text start begin places mark (run_from text from) r → missed r ≡ Some last
      → (run_from text from).to < length text → Rest ((run_from text from).to + 1) (or_else last seen)
  unfolding Rest
  rest-next from seen last r places mark rest h e more others other run found x =
      rest others other run found
      (passed (anywhere code o text start begin places others mark other (run_from text from) r last e h) e more x)

  pub rest-told : (from : ℕ) (seen : Option ℕ) (r : Result Hit MatchError) (places : List Pair) (mark : List ℕ)
      → Rest from seen → IsToldIn code o text start begin places mark (run_from text from) r → missed r ≡ None
      → All places mark 0 None (run_from text from) r
  unfolding Rest
  rest-told from seen r places mark rest h e = rest places mark (run_from text from) r (told h e)

  pub rest-ended : (from : ℕ) (seen last : Option ℕ) (r : Result Hit MatchError) (places : List Pair) (mark : List ℕ)
      → Rest from seen → IsToldIn code o text start begin places mark (run_from text from) r → missed r ≡ Some last
      → length text ≤ (run_from text from).to
      → All places mark 0 None (run_from text from) (Err (NoMatch (or_else last seen)))
  unfolding Rest
  rest-ended from seen last r places mark rest h e no_more =
      rest places mark (run_from text from) (Err (NoMatch (or_else last seen))) (ended h e no_more)

  -- the same of a run that is known to be the one from there
  pub run-next : (from : ℕ) (seen last new : Option ℕ) (run : Run) (r : Result Hit MatchError) (places : List Pair)
      (mark : List ℕ) → Rest from seen → run ≡ run_from text from
      → IsToldIn code o text start begin places mark run r → missed r ≡ Some last → new ≡ or_else last seen
      → run.to < length text → Rest (run.to + 1) new
  run-next from seen last new run r places mark rest is h e new_is more =
      subst (λ (n : Option ℕ). Rest (run.to + 1) n) (sym new_is)
      (subst (λ (x : Run). Rest (x.to + 1) (or_else last seen)) (sym is)
      (rest-next from seen last r places mark rest
      (subst (λ (x : Run). IsToldIn code o text start begin places mark x r) is h) e
      (subst (λ (x : Run). x.to < length text) is more)))

  pub run-told : (from : ℕ) (seen : Option ℕ) (run : Run) (r : Result Hit MatchError) (places : List Pair)
      (mark : List ℕ) → Rest from seen → run ≡ run_from text from
      → IsToldIn code o text start begin places mark run r → missed r ≡ None → All places mark 0 None run r
  run-told from seen run r places mark rest is h e =
      subst (λ (x : Run). All places mark 0 None x r) (sym is)
      (rest-told from seen r places mark rest
      (subst (λ (x : Run). IsToldIn code o text start begin places mark x r) is h) e)

  pub run-ended : (from : ℕ) (seen last new : Option ℕ) (run : Run) (r : Result Hit MatchError) (places : List Pair)
      (mark : List ℕ) → Rest from seen → run ≡ run_from text from
      → IsToldIn code o text start begin places mark run r → missed r ≡ Some last → new ≡ or_else last seen
      → length text ≤ run.to → All places mark 0 None run (Err (NoMatch new))
  run-ended from seen last new run r places mark rest is h e new_is no_more =
      subst (λ (n : Option ℕ). All places mark 0 None run (Err (NoMatch n))) (sym new_is)
      (subst (λ (x : Run). All places mark 0 None x (Err (NoMatch (or_else last seen)))) (sym is)
      (rest-ended from seen last r places mark rest
      (subst (λ (x : Run). IsToldIn code o text start begin places mark x r) is h) e
      (subst (λ (x : Run). length text ≤ x.to) is no_more)))
