-- What the searches on a line answer, and the list of its matches.
use Rattle.std.proofs.Common.{◌≡◌, ◌∙◌, ℕ, zero, suc, ◌+◌, ◌-◌, ◌<◌, ◌≤◌, List, [], ◌∷◌, ◌++◌, flat_map, drop}
use Rattle.std.proofs.Common.{get_or, length, Bool, true, false, ◌||◌, not, ℤ, pos, Option, Some, None, Ok, Err}
use Rattle.std.proofs.Common.{refl, sym, ap, subst, arith, append-nil}
use Rattle.std.specs.Str.{is_utf8}
use Rattle.std.proofs.lemmas.Str.{IsUtf8-from_is_utf8}
use Rattle.uni_text.specs.Characters.{IsChecked}
use Rattle.std.proofs.lemmas.List.{at_drop_more, map-append}
use Rattle.std.proofs.lemmas.List.Concat.{flat_map-append}
use Rattle.std.proofs.lemmas.List.Elements.{All-nil, All-push}
use Rattle.pat_tree.specs.declared.options.MatchOptions.{MatchOptions}
use Rattle.pat_tree.specs.declared.options.Options.{Options}
use Rattle.ordered_search.specs.PlaceAnswer.{Outcome}
use Rattle.ordered_search.specs.MatchAnswer.{match_answer}
use Rattle.pcre2_api.specs.Compiled.{CodeParts}
use Rattle.pcre2_api.specs.Matched.{search_of}
use Rattle.grep_args.specs.declared.plan.GrepPlan.{GrepPlan}
use Rattle.grep_match.specs.declared.found.Place.{Place}
use Rattle.grep_match.specs.declared.search.Answer.{Answer as Told}
use Rattle.grep_match.specs.declared.search.Answer.TheVariants as told
use Rattle.grep_match.specs.declared.search.Verdict.{Verdict}
use Rattle.grep_match.specs.declared.search.Verdict.TheVariants as verdict
use Rattle.pat_tree.specs.Pattern.{Pattern, pattern_of}
use Rattle.pcre2_api.specs.pcre2_errors.declared.error.MatchError.{MatchError}
use Rattle.pcre2_api.specs.pcre2_errors.MatchErrors.{minus, number_of}
use Rattle.pcre2_api.specs.Answers.{Answer, found, none, error, answer_of, pattern_answer, search_answer}
use Rattle.pcre2_api.proofs.Starting.{bad-text}
use Rattle.grep_match.specs.declared.patterns.Kept.{Kept}
use Rattle.grep_match.specs.Compiled.{pattern_in, meant}
use Rattle.grep_match.specs.Matches.{first_answer, Matches, with_match, limits, not_empty, later, shows_each, matches}
use Rattle.grep_match.specs.Found.{Listed, Lists, place_of, groups_of, IsInLine, IsAdded, IsUnfound, IsAnswer}
use Rattle.grep_match.specs.Found.{IsVerdict}

-- what it means that a line can be searched
pub searchable : (utf : Bool) (line : List ℕ) → (not utf || is_utf8 line) ≡ true → IsChecked utf line
searchable true line e = λ _. IsUtf8-from_is_utf8 line e
searchable false line e = λ asked. absurd (let both : false ≡ true = asked in cc)

unsearchable : (utf text : Bool) → (not utf || text) ≡ false → (utf ≡ true) × (text ≡ false)
unsearchable true false e = (refl, refl)
unsearchable true true e = absurd cc
unsearchable false text e = absurd cc

-- a line that isn't UTF-8 is answered so by a pattern in UTF
pub not_text : (code : CodeParts) (matching : MatchOptions) (line : List ℕ) (start : ℕ) → start ≤ length line
    → (not code.tree.options.utf || is_utf8 line) ≡ false
    → pattern_answer matching line start (pattern_of code.tree) ≡ error (minus 3)
not_text code matching line start begun bad =
    let both = unsearchable code.tree.options.utf (is_utf8 line) bad in
    ap (λ (f : Option MatchError). elim f as (λ _. Answer) [
      | Some e ↦ error (number_of e)
      | None ↦
          answer_of (match_answer (search_of code matching line start (λ _. pos 0))).answer
    ])
    (bad-text code.tree.options.utf line start begun both.0 both.1)

unfound : (wanted : List ℕ) (len : ℕ) (list : Listed) (a : Told) (x : Answer) → IsUnfound a x
    → IsAnswer wanted len list list a x
unfound wanted len list told.Nothing none h = refl
unfound wanted len list (told.Error n) (error e) h = h
unfound wanted len list told.Nothing (found o) h = absurd h
unfound wanted len list told.Nothing (error e) h = absurd h
unfound wanted len list (told.Error n) none h = absurd h
unfound wanted len list (told.Error n) (found o) h = absurd h
unfound wanted len list (told.Found p) x h = absurd h

-- a search without a match leaves the list
pub not_added : (wanted : List ℕ) (list : Listed) (a : Told) (code : CodeParts) (matching : MatchOptions)
    (line : List ℕ) (start : ℕ)
    → IsUnfound a (search_answer (search_of code matching line start (λ _. pos 0)))
    → IsAnswer wanted (length line) list list a (pattern_answer matching line start (pattern_of code.tree))
not_added wanted list a code matching line start h = unfound wanted (length line) list a _ h

-- what an answer says of the one that is meant

pub is_none : (wanted : List ℕ) (len : ℕ) (before after : Listed) (x : Answer)
    → IsAnswer wanted len before after told.Nothing x → (x ≡ none) × (after ≡ before)
is_none wanted len before after none h = (refl, h)
is_none wanted len before after (found o) h = absurd h
is_none wanted len before after (error e) h = absurd h

pub is_error : (wanted : List ℕ) (len : ℕ) (before after : Listed) (n : ℤ) (x : Answer)
    → IsAnswer wanted len before after (told.Error n) x → x ≡ error n
is_error wanted len before after n (error e) h = ap error (sym h)
is_error wanted len before after n none h = absurd h
is_error wanted len before after n (found o) h = absurd h

-- Patterns that are tried in order.

abbrev by_first : Answer → Answer → Answer
by_first rest x = elim x [ none ↦ rest | other ↦ other ]

ends_trying : (wanted : List ℕ) (len : ℕ) (before after : Listed) (a : Told) (x rest : Answer)
    → (a ≡ told.Nothing → ⊥) → IsAnswer wanted len before after a x
    → IsAnswer wanted len before after a (by_first rest x)
ends_trying wanted len before after told.Nothing x rest other h = absurd (other refl)
ends_trying wanted len before after (told.Found p) (found o) rest other h = h
ends_trying wanted len before after (told.Found p) none rest other h = absurd h
ends_trying wanted len before after (told.Found p) (error e) rest other h = absurd h
ends_trying wanted len before after (told.Error n) (error e) rest other h = h
ends_trying wanted len before after (told.Error n) none rest other h = absurd h
ends_trying wanted len before after (told.Error n) (found o) rest other h = absurd h

module _ (options : Options) (matching : MatchOptions) (line : List ℕ) (start : ℕ) where
  abbrev tried : List Kept → Answer
  tried codes = first_answer matching line start (meant options codes)

  abbrev here : Kept → Answer
  here code = pattern_answer matching line start (pattern_in options code)

  module _ (codes : List Kept) (i : ℕ) (code : Kept) (inside : i < length codes)
      (is : code ≡ get_or codes i code) (rest : tried (drop i codes) ≡ tried codes) where
    step : tried (drop i codes) ≡ by_first (tried (drop (i + 1) codes)) (here code)
    step = at_drop_more tried codes i code inside ∙ ap (λ d. tried (d ∷ drop (i + 1) codes)) (sym is)

    module _ (wanted : List ℕ) (len : ℕ) (first before after : Listed) (same : before ≡ first) (a : Told) where
      -- the first pattern that finds something, or fails, ends the trying
      pub last_tried : (a ≡ told.Nothing → ⊥) → IsAnswer wanted len before after a (here code)
          → IsAnswer wanted len first after a (tried codes)
      last_tried other h =
          subst (λ l. IsAnswer wanted len l after a (tried codes)) same
          (subst (IsAnswer wanted len before after a) (sym step ∙ rest)
          (ends_trying wanted len before after a (here code) (tried (drop (i + 1) codes)) other h))

      -- after the others the next one is tried
      pub next_tried : a ≡ told.Nothing → IsAnswer wanted len before after a (here code)
          → (tried (drop (i + 1) codes) ≡ tried codes) × (after ≡ first)
      next_tried nothing h =
          let quiet = is_none wanted len before after (here code)
          (subst (λ t. IsAnswer wanted len before after t (here code)) nothing h) in
          (sym (step ∙ ap (by_first (tried (drop (i + 1) codes))) quiet.0) ∙ rest, quiet.1 ∙ same)

-- the same answer, by other words for what is searched
pub restated : (wanted wanted' : List ℕ) (len : ℕ) (before after : Listed) (a a' : Told)
    (matching matching' : MatchOptions) (line : List ℕ) (start : ℕ) (patterns : List Pattern)
    → wanted ≡ wanted' → matching ≡ matching' → a ≡ a'
    → IsAnswer wanted len before after a (first_answer matching line start patterns)
    → IsAnswer wanted' len before after a' (first_answer matching' line start patterns)
restated wanted wanted' len before after a a' matching matching' line start patterns e f g h =
    subst (λ x. IsAnswer wanted' len before after x (first_answer matching' line start patterns)) g
    (subst (λ x. IsAnswer wanted' len before after a (first_answer x line start patterns)) f
    (subst (λ x. IsAnswer x len before after a (first_answer matching line start patterns)) e h))

-- the meant match, with what the code's answer says of it
pub record IsMatched (wanted : List ℕ) (len : ℕ) (before after : Listed) (place : Place) (x : Answer) : Type 0 where
  pub outcome : Outcome
  pub is : x ≡ found outcome
  pub adds : IsAdded wanted before after place outcome
  pub within : IsInLine len outcome

pub is_matched : (wanted : List ℕ) (len : ℕ) (before after : Listed) (place : Place) (x : Answer)
    → IsAnswer wanted len before after (told.Found place) x → IsMatched wanted len before after place x
is_matched wanted len before after place (found o) h = record { outcome = o; is = refl; adds = h.0; within = h.1 }
is_matched wanted len before after place none h = absurd h
is_matched wanted len before after place (error e) h = absurd h

to_within : (wanted : List ℕ) (len : ℕ) (before after : Listed) (place : Place) (x : Answer)
    → IsMatched wanted len before after place x → place.to ≤ len
to_within wanted len before after place x m = subst (λ p. p.to ≤ len) (sym m.adds.at) m.within.within

-- the place of a match that is found lies in the line
pub found_within : (wanted : List ℕ) (len : ℕ) (before after : Listed) (place : Place) (x : Answer)
    → IsAnswer wanted len before after (told.Found place) x → place.to ≤ len
found_within wanted len before after place x h = to_within wanted len before after place x
    (is_matched wanted len before after place x h)

-- lists of matches

pub lists_more : (wanted : List ℕ) (len : ℕ) (before after : Listed) (place : Place) (os : List Outcome) (o : Outcome)
    → Lists wanted len before os → IsAdded wanted before after place o → IsInLine len o
    → Lists wanted len after (os ++ o ∷ [])
lists_more wanted len before after place os o had adds within = record {
  places = ap (λ l. l.places) adds.list ∙ ap (λ l. l ++ place_of o ∷ []) had.places
      ∙ sym (map-append place_of os (o ∷ []));
  groups =
      ap (λ l. l.groups) adds.list ∙ ap (λ l. l ++ groups_of wanted o) had.groups
      ∙ ap (λ l. flat_map (groups_of wanted) os ++ l) (sym (append-nil (groups_of wanted o)))
      ∙ sym (flat_map-append (groups_of wanted) os (o ∷ []));
  within = All-push (IsInLine len) os o had.within within;
}

pub lists_none : (wanted : List ℕ) (len : ℕ) (list : Listed) → list ≡ record { places = []; groups = [] }
    → Lists wanted len list []
lists_none wanted len list e = record {
  places = ap (λ l. l.places) e;
  groups = ap (λ l. l.groups) e;
  within = All-nil (IsInLine len);
}

-- some matches before others
unfoldable pub prefixed : List Outcome → Matches → Matches
prefixed [] m = m
prefixed (o ∷ os) m = with_match o (prefixed os m)

pub prefixed_more : (os : List Outcome) (o : Outcome) (m : Matches)
    → prefixed os (with_match o m) ≡ prefixed (os ++ o ∷ []) m
unfolding prefixed
prefixed_more [] o m = refl
prefixed_more (p ∷ os) o m = ap (with_match p) (prefixed_more os o m)

pub prefixed_none : (os : List Outcome) → prefixed os (Ok []) ≡ Ok os
unfolding prefixed
prefixed_none [] = refl
prefixed_none (o ∷ os) = ap (with_match o) (prefixed_none os)

pub prefixed_error : (os : List Outcome) (e : ℤ) → prefixed os (Err e) ≡ Err e
unfolding prefixed
prefixed_error [] e = refl
prefixed_error (o ∷ os) e = ap (with_match o) (prefixed_error os e)

module _ (plan : GrepPlan) (patterns : List Pattern) (line : List ℕ) where
  later_none : (n start : ℕ) → first_answer (not_empty (limits plan)) line start patterns ≡ none
      → later plan patterns line (suc n) start ≡ Ok []
  unfolding later
  later_none n start e = rw (e, later) refl

  later_error : (n start : ℕ) (e : ℤ) → first_answer (not_empty (limits plan)) line start patterns ≡ error e
      → later plan patterns line (suc n) start ≡ Err e
  unfolding later
  later_error n start x e = rw (e, later) refl

  later_found : (n start : ℕ) (o : Outcome) → first_answer (not_empty (limits plan)) line start patterns ≡ found o
      → later plan patterns line (suc n) start ≡ with_match o (later plan patterns line n o.to)
  unfolding later
  later_found n start o e = rw (e, later) refl

  later_last : (start : ℕ) → later plan patterns line zero start ≡ Ok []
  unfolding later
  later_last start = refl

  -- so many matches are listed, and the next search begins at the place
  pub record IsOn (from : ℕ) (first now : Listed) (i start : ℕ) : Type 0 where
    pub begun : start ≤ length line
    pub so_far : (o : Outcome) → Lists plan.only_matching (length line) first (o ∷ [])
        → (os : List Outcome) × Lists plan.only_matching (length line) now (o ∷ os)
        × (with_match o (later plan patterns line (length line + 1) from) ≡ with_match o
        (prefixed os (later plan patterns line (length line + 1 - i) start)))

  pub on_first : (from : ℕ) (first : Listed) → from ≤ length line → IsOn from first first 0 from
  unfolding prefixed
  on_first from first h = record {
    begun = h;
    so_far = λ o had. (
      [],
      had,
      (let e : length line + 1 ≡ length line + 1 - 0 = omega arith in
          ap (λ n. with_match o (later plan patterns line n from)) e),
    );
  }

  module _ (from : ℕ) (first now : Listed) (i start : ℕ) (on : IsOn from first now i start) where
    pub on_more : (after : Listed) (place : Place) → i < length line + 1
        → IsAnswer plan.only_matching (length line) now after (told.Found place)
        (first_answer (not_empty (limits plan)) line start patterns)
        → IsOn from first after (i + 1) place.to
    unfolding prefixed
    on_more after place h answer =
        let m = is_matched plan.only_matching (length line) now after place
        (first_answer (not_empty (limits plan)) line start patterns) answer in
        let n = length line + 1 - (i + 1) in
        let left : length line + 1 - i ≡ suc n = omega arith in
        let same : place.to ≡ m.outcome.to = ap (λ p. p.to) m.adds.at in
        record {
          begun = found_within plan.only_matching (length line) now after place _ answer;
          so_far = λ o had.
              let so = on.so_far o had in (
                so.0 ++ m.outcome ∷ [],
                lists_more plan.only_matching (length line) now after place (o ∷ so.0) m.outcome so.1 m.adds m.within,
                so.2 ∙ ap (λ k. with_match o (prefixed so.0 (later plan patterns line k start))) left
                    ∙ ap (λ r. with_match o (prefixed so.0 r)) (later_found n start m.outcome m.is)
                    ∙ ap (with_match o) (prefixed_more so.0 m.outcome (later plan patterns line n m.outcome.to))
                    ∙ ap (λ t. with_match o (prefixed (so.0 ++ m.outcome ∷ []) (later plan patterns line n t)))
                    (sym same),
              );
        }

    ended : (o : Outcome) (os : List Outcome) (after : Listed) (rest : Matches)
        → Lists plan.only_matching (length line) after (o ∷ os) → rest ≡ Ok []
        → IsVerdict plan.only_matching (length line) after verdict.Match (with_match o (prefixed os rest))
    ended o os after rest had e =
        subst (λ r. IsVerdict plan.only_matching (length line) after verdict.Match (with_match o r))
        (sym (ap (prefixed os) e ∙ prefixed_none os)) had

    pub on_none : (after : Listed) → i < length line + 1
        → IsAnswer plan.only_matching (length line) now after told.Nothing
        (first_answer (not_empty (limits plan)) line start patterns)
        → (o : Outcome) → Lists plan.only_matching (length line) first (o ∷ [])
        → IsVerdict plan.only_matching (length line) after verdict.Match
        (with_match o (later plan patterns line (length line + 1) from))
    on_none after h answer o had =
        let m = is_none plan.only_matching (length line) now after
        (first_answer (not_empty (limits plan)) line start patterns) answer in
        let so = on.so_far o had in
        let n = length line + 1 - (i + 1) in
        let left : length line + 1 - i ≡ suc n = omega arith in
        subst (IsVerdict plan.only_matching (length line) after verdict.Match) (sym so.2)
        (ended o so.0 after _ (subst (λ l. Lists plan.only_matching (length line) l (o ∷ so.0)) (sym m.1) so.1)
        (ap (λ k. later plan patterns line k start) left ∙ later_none n start m.0))

    pub on_error : (after : Listed) (e : ℤ) → i < length line + 1
        → IsAnswer plan.only_matching (length line) now after (told.Error e)
        (first_answer (not_empty (limits plan)) line start patterns)
        → (o : Outcome) → Lists plan.only_matching (length line) first (o ∷ [])
        → IsVerdict plan.only_matching (length line) after (verdict.Error e)
        (with_match o (later plan patterns line (length line + 1) from))
    on_error after e h answer o had =
        let m = is_error plan.only_matching (length line) now after e
        (first_answer (not_empty (limits plan)) line start patterns) answer in
        let so = on.so_far o had in
        let n = length line + 1 - (i + 1) in
        let left : length line + 1 - i ≡ suc n = omega arith in
        subst (IsVerdict plan.only_matching (length line) after (verdict.Error e))
        (sym (so.2 ∙ ap (λ r. with_match o (prefixed so.0 r)) (ap (λ k. later plan patterns line k start) left
        ∙ later_error n start e m) ∙ ap (with_match o) (prefixed_error so.0 e)))
        refl

    -- the turns are over
    pub on_end : length line + 1 ≤ i → (o : Outcome) → Lists plan.only_matching (length line) first (o ∷ [])
        → IsVerdict plan.only_matching (length line) now verdict.Match
        (with_match o (later plan patterns line (length line + 1) from))
    on_end h o had =
        let so = on.so_far o had in
        let left : length line + 1 - i ≡ 0 = omega arith in
        subst (IsVerdict plan.only_matching (length line) now verdict.Match) (sym so.2)
        (ended o so.0 now _ so.1 (ap (λ k. later plan patterns line k start) left ∙ later_last start))

  -- a line

  pub line_none : first_answer (limits plan) line 0 patterns ≡ none → matches plan patterns line ≡ Ok []
  unfolding matches
  line_none e = rw (e, matches) refl

  line_error : (x : ℤ) → first_answer (limits plan) line 0 patterns ≡ error x → matches plan patterns line ≡ Err x
  unfolding matches
  line_error x e = rw (e, matches) refl

  pub line_one : (o : Outcome) → shows_each plan ≡ false → first_answer (limits plan) line 0 patterns ≡ found o
      → matches plan patterns line ≡ Ok (o ∷ [])
  unfolding matches
  line_one o each e = rw (e, each, matches) refl

  line_each : (o : Outcome) → shows_each plan ≡ true → first_answer (limits plan) line 0 patterns ≡ found o
      → matches plan patterns line ≡ with_match o (later plan patterns line (length line + 1) o.to)
  unfolding matches
  line_each o each e = rw (e, each, matches) refl

  pub says_none : (before after : Listed) → before ≡ record { places = []; groups = [] }
      → IsAnswer plan.only_matching (length line) before after told.Nothing
      (first_answer (limits plan) line 0 patterns)
      → IsVerdict plan.only_matching (length line) after verdict.NoMatch (matches plan patterns line)
  says_none before after empty h =
      let m = is_none plan.only_matching (length line) before after (first_answer (limits plan) line 0 patterns) h in
      subst (IsVerdict plan.only_matching (length line) after verdict.NoMatch) (sym (line_none m.0))
      (lists_none plan.only_matching (length line) after (m.1 ∙ empty))

  pub says_error : (before after : Listed) (e : ℤ) → IsAnswer plan.only_matching (length line) before after
      (told.Error e) (first_answer (limits plan) line 0 patterns)
      → IsVerdict plan.only_matching (length line) after (verdict.Error e) (matches plan patterns line)
  says_error before after e h =
      subst (IsVerdict plan.only_matching (length line) after (verdict.Error e))
      (sym (line_error e (is_error plan.only_matching (length line) before after e _ h))) refl

  lists_first : (before after : Listed) (place : Place) (x : Answer) → before ≡ record { places = []; groups = [] }
      → (m : IsMatched plan.only_matching (length line) before after place x)
      → Lists plan.only_matching (length line) after (m.outcome ∷ [])
  lists_first before after place x empty m = lists_more plan.only_matching (length line) before after place []
      m.outcome (lists_none plan.only_matching (length line) before empty) m.adds m.within

  pub says_one : (before after : Listed) (place : Place) → before ≡ record { places = []; groups = [] }
      → shows_each plan ≡ false
      → IsAnswer plan.only_matching (length line) before after (told.Found place)
      (first_answer (limits plan) line 0 patterns)
      → IsVerdict plan.only_matching (length line) after verdict.Match (matches plan patterns line)
  says_one before after place empty each h =
      let m = is_matched plan.only_matching (length line) before after place
      (first_answer (limits plan) line 0 patterns) h in
      subst (IsVerdict plan.only_matching (length line) after verdict.Match) (sym (line_one m.outcome each m.is))
      (lists_first before after place _ empty m)

  pub says_each : (before mid after : Listed) (place : Place) (v : Verdict) → before ≡ record {
    places = [];
    groups = [];
  } → shows_each plan ≡ true
      → IsAnswer plan.only_matching (length line) before mid (told.Found place)
      (first_answer (limits plan) line 0 patterns)
      → ((o : Outcome) → Lists plan.only_matching (length line) mid (o ∷ [])
      → IsVerdict plan.only_matching (length line) after v
      (with_match o (later plan patterns line (length line + 1) place.to)))
      → IsVerdict plan.only_matching (length line) after v (matches plan patterns line)
  says_each before mid after place v empty each h more =
      let m = is_matched plan.only_matching (length line) before mid place
      (first_answer (limits plan) line 0 patterns) h in
      let same : place.to ≡ m.outcome.to = ap (λ p. p.to) m.adds.at in
      subst (IsVerdict plan.only_matching (length line) after v)
      (ap (λ t. with_match m.outcome (later plan patterns line (length line + 1) t)) same
      ∙ sym (line_each m.outcome each m.is))
      (more m.outcome (lists_first before mid place _ empty m))
