-- Two searches a place find all matches.
use Rattle.std.proofs.Common.{◌≡◌, ◌∙◌, ℕ, zero, suc, ◌+◌, ◌-◌, ◌*◌, ◌<◌, ◌≤◌, Bool, true, false, List, length}
use Rattle.std.proofs.Common.{Option, Some, None, nat_lt, if◌then◌else◌, drop, refl, sym, ap, subst, arith}
use Rattle.std.specs.Prelude.{◌==◌, ◌&&◌, ◌||◌}
use Rattle.std.proofs.lemmas.Bool.{ltb-true, ltb-false}
use Rattle.std.proofs.lemmas.Str.{len_utf8_bounds}
use Rattle.uni_text.specs.Characters.{char_at, first_char}
use Rattle.pat_tree.specs.declared.options.MatchOptions.{MatchOptions}
use Rattle.pat_tree.specs.Pattern.{Pattern}
use Rattle.ordered_search.specs.Setting.{Setting}
use Rattle.ordered_search.specs.PlaceAnswer.{Outcome}
use Rattle.ordered_search.specs.MatchAnswer.{MatchAnswer, Match, NoMatch, PartialFrom, Error, match_answer}
use Rattle.ordered_search.proofs.ForwardLaw.{forward_law}
use Rattle.pcre2_errors.specs.declared.error.MatchError.{MatchError}
use Rattle.pcre2_api.specs.Matched.{IsAdmitted}
use Rattle.pcre2_api.specs.Patterns.{setting}
use Rattle.pcre2_api.specs.Starts.{start_fault}
use Rattle.pcre2_api.specs.Walks.{Answer, found, none, failed, answer_of, answer_in, matching_at, Matches}
use Rattle.pcre2_api.specs.Walks.{with_match, no_more, fails, answer, answer_at, goes_on, is_crlf, place_behind}
use Rattle.pcre2_api.specs.Walks.{all_from}
use Rattle.pcre2_api.specs.Enough.{EnoughSearches}
use Rattle.pcre2_api.proofs.Admission.{is_admitted}
use Rattle.pcre2_api.proofs.Matching.{is_placed}
use Rattle.pcre2_api.proofs.Starting.{begun-text, begun-place}

match_of : (end : ℕ) (mark : Option ℕ) (a : MatchAnswer) (o : Outcome) → answer_of end mark a ≡ found o → a ≡ Match o
match_of end mark (Match x) o e = cc
match_of end mark NoMatch o e = cc
match_of end mark (PartialFrom p) o e = cc
match_of end mark (Error a) o e = cc

not_found : (x : MatchError) (o : Outcome) → failed x ≡ found o → ⊥
not_found x o e = cc

begun_of : (f : Option MatchError) (a : Answer) (o : Outcome) → (elim f [ Some e ↦ failed e | None ↦ a ]) ≡ found o
    → (f ≡ None) × (a ≡ found o)
begun_of None a o e = (refl, e)
begun_of (Some x) a o e = absurd (not_found x o e)

-- an empty match at the start, where none is admitted
not_again : (here plain other : Bool) → here ≡ true → (here && (plain || (other || true) && here)) ≡ false → ⊥
not_again true true other h e = cc
not_again true false true h e = cc
not_again true false false h e = cc
not_again false plain other h e = cc

char_later : (utf : Bool) (subject : List ℕ) (p : ℕ) → p < (char_at utf subject p).1
char_later false subject p = omega arith
char_later true subject p = let bounds = len_utf8_bounds (first_char (drop p subject)) in omega (arith, bounds.0)

same_place : (p : ℕ) → (p == p) ≡ true
same_place p = grind arith

-- how many searches there may be yet
abbrev left : ℕ → Bool → ℕ → ℕ
left end true at = 2 * (end - at)
left end false at = suc (2 * (end - at))

left_match : (end at keep to : ℕ) (again empty : Bool) → at ≤ keep → keep ≤ to → to ≤ end → (keep == to) ≡ empty
    → (again ≡ true → at < to) → left end empty to < left end again at
left_match end at keep to true true a b c e h = omega (arith, h refl, c)
left_match end at keep to true false a b c e h = omega (arith, h refl, c)
left_match end at keep to false true a b c e h = omega (arith, a, b, c)
left_match end at keep to false false a b c e h = let less : keep < to = grind (arith, e, b) in
    omega (arith, a, less, c)

module _ (p : Pattern) (matching : MatchOptions) (subject : List ℕ) (short : length subject < 4294967295) where
  abbrev all : ℕ → Bool → ℕ → Matches
  all n again at = all_from p matching subject n again at

  abbrev asked : Bool → ℕ → Answer
  asked again at = answer p matching subject again at

  abbrev searching : Bool → ℕ → Setting
  searching again at = setting p (matching_at matching again) subject at

  record IsMatch (again : Bool) (at : ℕ) (o : Outcome) : Type 0 where
    begins : at ≤ o.keep
    ordered : o.keep ≤ o.to
    within : o.to ≤ length subject
    admitted : IsAdmitted (searching again at) o

  is_match : (again : Bool) (at : ℕ) (o : Outcome) → asked again at ≡ found o → IsMatch again at o
  unfolding answer_at
  is_match again at o e =
      let g = searching again at in
      let r = begun_of (start_fault p.options.utf subject at) (answer_in (length subject) (match_answer g)) o e in
      let is = match_of _ _ (match_answer g).answer o r.1 in
      let plain = forward_law g (record {
        text = begun-text p.options subject at r.0 short;
        begun = begun-place p.options subject at r.0;
      }) in
      let placed = is_placed g (match_answer g) plain o is in record {
        begins = placed.begins;
        ordered = placed.ordered;
        within = placed.within;
        admitted = is_admitted g o is;
      }

  -- the match that is looked for where an empty one was found ends further on
  further_on : (at : ℕ) (o : Outcome) → IsMatch true at o → at < o.to
  further_on at o m = by_test (nat_lt at o.to) refl
    where
      by_test : (b : Bool) → nat_lt at o.to ≡ b → at < o.to
      by_test true e = ltb-true at o.to e
      by_test false e =
          let past : o.to ≤ at = ltb-false at o.to e in
          let to_is : o.keep ≡ o.to = omega (arith, past, m.begins, m.ordered) in
          let at_is : at ≡ o.keep = omega (arith, past, m.begins, m.ordered) in
          let plain = p.options.notempty || matching.notempty in
          let other = p.options.notempty_atstart in
          let here = subst (λ n. ((o.keep == o.to) && (plain || (other || true) && (o.keep == n))) ≡ false) at_is
          m.admitted.not_empty in
          absurd (not_again (o.keep == o.keep) plain other (same_place o.keep)
          (subst (λ n. ((o.keep == n) && (plain || (other || true) && (o.keep == o.keep))) ≡ false) (sym to_is) here))

  found_left : (again : Bool) (at : ℕ) (o : Outcome) → asked again at ≡ found o
      → left (length subject) (o.keep == o.to) o.to < left (length subject) again at
  found_left again at o e =
      let m = is_match again at o e in
      left_match (length subject) at o.keep o.to again (o.keep == o.to) m.begins m.ordered m.within refl
      (λ twice. further_on at o (subst (λ b. IsMatch b at o) twice m))

  behind : (at : ℕ) → at < place_behind p subject at
  behind at = by_crlf (is_crlf p subject at)
    where
      by_crlf : (b : Bool) → at < (if b then at + 2 else (char_at p.options.utf subject at).1)
      by_crlf true = omega arith
      by_crlf false = char_later p.options.utf subject at

  next_left : (again : Bool) (at : ℕ) → goes_on p matching subject again at ≡ true
      → left (length subject) false (place_behind p subject at) < left (length subject) again at
  next_left false at e = cc
  next_left true at e = let inside = ltb-true at (length subject) e in let far = behind at in omega (arith, inside, far)

  all-found : (n : ℕ) (again : Bool) (at : ℕ) (o : Outcome) → asked again at ≡ found o
      → all (suc n) again at ≡ with_match o (all n (o.keep == o.to) o.to)
  unfolding all_from
  all-found n again at o e = rw (e, all_from) refl

  all-failed : (n : ℕ) (again : Bool) (at : ℕ) (f : MatchError) → asked again at ≡ failed f
      → all (suc n) again at ≡ fails f
  unfolding all_from
  all-failed n again at f e = rw (e, all_from) refl

  all-next : (n : ℕ) (again : Bool) (at : ℕ) → asked again at ≡ none → goes_on p matching subject again at ≡ true
      → all (suc n) again at ≡ all n false (place_behind p subject at)
  unfolding all_from
  all-next n again at e goes = rw (e, goes, all_from) refl

  all-none : (n : ℕ) (again : Bool) (at : ℕ) → asked again at ≡ none → goes_on p matching subject again at ≡ false
      → all (suc n) again at ≡ no_more
  unfolding all_from
  all-none n again at e goes = rw (e, goes, all_from) refl

  -- one search, where the later ones give the same
  step : (n k : ℕ) (again : Bool) (at : ℕ)
      → ((b : Bool) (q : ℕ) → left (length subject) b q < left (length subject) again at → all n b q ≡ all k b q)
      → all (suc n) again at ≡ all (suc k) again at
  step n k again at later = by_answer (asked again at) refl
    where
      by_next : (goes : Bool) → goes_on p matching subject again at ≡ goes → asked again at ≡ none
          → all (suc n) again at ≡ all (suc k) again at
      by_next true goes e =
          all-next n again at e goes
          ∙ later false (place_behind p subject at) (next_left again at goes)
          ∙ sym (all-next k again at e goes)
      by_next false goes e = all-none n again at e goes ∙ sym (all-none k again at e goes)

      by_answer : (a : Answer) → asked again at ≡ a → all (suc n) again at ≡ all (suc k) again at
      by_answer (found o) e =
          all-found n again at o e
          ∙ ap (with_match o) (later (o.keep == o.to) o.to (found_left again at o e))
          ∙ sym (all-found k again at o e)
      by_answer none e = by_next (goes_on p matching subject again at) refl e
      by_answer (failed f) e = all-failed n again at f e ∙ sym (all-failed k again at f e)

  same : (n k : ℕ) (again : Bool) (at : ℕ) → left (length subject) again at < n → left (length subject) again at < k
      → all n again at ≡ all k again at
  same zero k again at h l = absurd (omega (arith, h))
  same (suc n) zero again at h l = absurd (omega (arith, l))
  same (suc n) (suc k) again at h l =
      step n k again at (λ b q less. same n k b q (omega (arith, less, h)) (omega (arith, less, l)))

pub enough_searches : EnoughSearches
enough_searches p matching subject short at more =
    same p matching subject short ((2 * length subject + 2) + more) (2 * length subject + 2) false at (omega arith)
    (omega arith)
