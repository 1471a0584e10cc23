-- A match says what the search says that it holds.
use Rattle.std.proofs.Common.{◌≡◌, ◌∙◌, refl, sym, ap, subst}
use Rattle.std.specs.Prelude.{Result, Ok, Err, IfOk, IfErr, OnOk}
use Rattle.pcre2_errors.specs.declared.error.MatchError.{MatchError}
use Rattle.pcre2_api.specs.declared.reserved.ReservedError.{ReservedError}
use Rattle.pcre2_api.specs.declared.found.Held.{Held}
use Rattle.pcre2_api.specs.Matched.{MatchParts}
use Rattle.pcre2_api.specs.Holding.{HasAnswer, parts_of, as_found, as_reserved}

module _ (r : Result Held MatchError) (r' : Result MatchParts MatchError) (same : r' ≡ as_found r) where
  if_held : (P : MatchParts → Type 0) (x : Result Held MatchError) → IfOk x (λ h. P (parts_of h)) → IfOk (as_found x) P
  if_held P (Ok h) p = p
  if_held P (Err e) p = p

  on_held : (P : Type 0) (x : Result Held MatchError) → OnOk x P → OnOk (as_found x) P
  on_held P (Ok h) p = p
  on_held P (Err e) p = p

  if_not : (P : MatchError → Type 0) (x : Result Held MatchError) → IfErr x P → IfErr (as_found x) P
  if_not P (Ok h) p = p
  if_not P (Err e) p = p

  pub if_found : (P : MatchParts → Type 0) → IfOk r (λ h. P (parts_of h)) → IfOk r' P
  if_found P p = subst (λ (x : Result MatchParts MatchError). IfOk x P) (sym same) (if_held P r p)

  pub on_found : (P : Type 0) → OnOk r P → OnOk r' P
  on_found P p = subst (λ (x : Result MatchParts MatchError). OnOk x P) (sym same) (on_held P r p)

  pub if_refused : (P : MatchError → Type 0) → IfErr r P → IfErr r' P
  if_refused P p = subst (λ (x : Result MatchParts MatchError). IfErr x P) (sym same) (if_not P r p)

  answered : (x : Result Held MatchError) → HasAnswer x ≡ HasAnswer (as_found x)
  answered (Ok h) = refl
  answered (Err e) = refl

  pub same_answer : HasAnswer r ≡ HasAnswer r'
  same_answer = answered r ∙ ap (λ (x : Result MatchParts MatchError). HasAnswer x) (sym same)

module _ (r : Result Held ReservedError) (r' : Result MatchParts ReservedError) (same : r' ≡ as_reserved r) where
  if_held' : (P : MatchParts → Type 0) (x : Result Held ReservedError) → IfOk x (λ h. P (parts_of h))
      → IfOk (as_reserved x) P
  if_held' P (Ok h) p = p
  if_held' P (Err e) p = p

  if_not' : (P : ReservedError → Type 0) (x : Result Held ReservedError) → IfErr x P → IfErr (as_reserved x) P
  if_not' P (Ok h) p = p
  if_not' P (Err e) p = p

  pub if_found_reserved : (P : MatchParts → Type 0) → IfOk r (λ h. P (parts_of h)) → IfOk r' P
  if_found_reserved P p = subst (λ (x : Result MatchParts ReservedError). IfOk x P) (sym same) (if_held' P r p)

  pub if_refused_reserved : (P : ReservedError → Type 0) → IfErr r P → IfErr r' P
  if_refused_reserved P p = subst (λ (x : Result MatchParts ReservedError). IfErr x P) (sym same) (if_not' P r p)
