-- All ends of matches, as they are written one after another.
use Rattle.std.proofs.Common.{◌≡◌, ◌∙◌, ℕ, zero, suc, ◌+◌, ◌-◌, ◌*◌, ◌<◌, ◌≤◌, Bool, true, false, List, [], ◌∷◌}
use Rattle.std.proofs.Common.{◌++◌, drop, length, Option, Some, None, Result, Ok, Err, refl, sym, ap, subst, inl}
use Rattle.std.proofs.Common.{inr, arith, append-nil}
use Rattle.std.specs.Prelude.{◌==◌, slice_get}
use Rattle.pcre_io.specs.Told.{Kept}
use Rattle.pcre_io.specs.declared.traits.IoError.{IoError}
use Rattle.tool_io.specs.Writes.{Writes}
use Rattle.tool_io.proofs.Writing.{IsLeft, left-all, left-more, left-refused, left-last, writes-same}
use Rattle.pat_tree.specs.declared.options.MatchOptions.{MatchOptions}
use Rattle.pat_tree.specs.Pattern.{Pattern}
use Rattle.pcre2_errors.specs.declared.dfa_error.DfaError.{DfaError}
use Rattle.dfa_ends.specs.DfaAnswer.{dfa_answer}
use Rattle.dfa_ends.specs.Ends.{Among}
use Rattle.dfa_graph.specs.Served.{refusal}
use Rattle.pcre2_api.specs.Patterns.{setting}
use Rattle.pcre2_api.specs.Starts.{start_fault}
use Rattle.pcre2_api.specs.DfaMatched.{start_error_of}
use Rattle.pcre2_errors.specs.declared.error.MatchError.{MatchError}
use Rattle.pcre2_api.specs.Walks.{goes_on, place_behind}
use Rattle.test_lines.proofs.Writing.{writes-first}
use Rattle.test_run.specs.declared.dfa.Search.TheVariants as search
use Rattle.test_run.specs.Dfa.{Told, ends, nothing, failed, told_of, unless_barred, told_at, end_line, ends_text}
use Rattle.test_run.specs.Dfa.{unmatched_text, none_text, told_text, longest, here, all_text, first_text, dfa_text}
use Rattle.test_run.specs.DfaSearches.{IsSearch}

-- The ends of a match from one on.

pub ends-more : (utf : Bool) (subject : List ℕ) (start k n q : ℕ) (qs : List ℕ) → slice_get qs n ≡ Some q →
    ends_text utf subject start k (drop n qs)
    ≡ end_line utf subject start k q ++ ends_text utf subject start (k + 1) (drop (n + 1) qs)
unfolding ends_text
ends-more utf subject start k n q [] e = cc
ends-more utf subject start k zero q (r ∷ qs) e = cc
ends-more utf subject start k (suc n) q (r ∷ qs) e =
    let next : suc n + 1 ≡ suc (n + 1) = omega arith in rw next (ends-more utf subject start k n q qs e)

pub ends-none : (utf : Bool) (subject : List ℕ) (start k n : ℕ) (qs : List ℕ) → length qs ≤ n →
    ends_text utf subject start k (drop n qs) ≡ []
unfolding ends_text
ends-none utf subject start k zero [] l = cc
ends-none utf subject start k (suc n) [] l = cc
ends-none utf subject start k zero (r ∷ qs) l = absurd (omega (arith, l))
ends-none utf subject start k (suc n) (r ∷ qs) l = ends-none utf subject start k n qs (omega (arith, l))

pub among-get : (qs : List ℕ) (n q : ℕ) → slice_get qs n ≡ Some q → Among q qs
unfolding Among
among-get [] n q e = cc
among-get (p ∷ qs) zero q e = inl cc
among-get (p ∷ qs) (suc n) q e = inr (among-get qs n q e)

-- What is told of a search says what it answers.

pub record AreEnds (to : ℕ) (is_empty : Bool) (a : Told) : Type 0 where
  pub start : ℕ
  pub found : List ℕ
  pub is : a ≡ ends start found
  pub to_is : to ≡ longest start found
  pub empty_is : is_empty ≡ (start == longest start found)

pub are-ends : (to : ℕ) (is_empty : Bool) (a : Told) → IsSearch (search.Ends to is_empty) a → AreEnds to is_empty a
are-ends to is_empty (ends start qs) h =
    record { start = start; found = qs; is = refl; to_is = h.0; empty_is = h.1 }
are-ends to is_empty nothing h = absurd h
are-ends to is_empty (failed e) h = absurd h

pub are-none : (a : Told) → IsSearch search.Nothing a → a ≡ nothing
are-none nothing h = refl
are-none (ends start qs) h = absurd h
are-none (failed e) h = absurd h

pub record IsFailure (a : Told) : Type 0 where
  pub error : DfaError
  pub is : a ≡ failed error

pub is-failure : (a : Told) → IsSearch search.Failed a → IsFailure a
is-failure (failed e) h = record { error = e; is = refl }
is-failure nothing h = absurd h
is-failure (ends start qs) h = absurd h

failed-not : (f : DfaError) → failed f ≡ nothing → ⊥
failed-not f e = cc

-- All matches.

module _ (p : Pattern) (matching : MatchOptions) (subject : List ℕ) where
  abbrev all : ℕ → Bool → Bool → ℕ → List ℕ
  all n is_shown again at = all_text p matching subject n is_shown again at

  abbrev asked : Bool → ℕ → Told
  asked again at = here p matching subject again at

  all-ends : (n : ℕ) (is_shown again : Bool) (at start : ℕ) (qs : List ℕ) → asked again at ≡ ends start qs →
      all (suc n) is_shown again at
      ≡ ends_text p.options.utf subject start 0 qs ++ all n true (start == longest start qs) (longest start qs)
  unfolding all_text
  all-ends n is_shown again at start qs e = rw (e, all_text) refl

  all-failed : (n : ℕ) (is_shown again : Bool) (at : ℕ) (f : DfaError) → asked again at ≡ failed f →
      all (suc n) is_shown again at ≡ unmatched_text p.options.utf subject f
  unfolding all_text
  all-failed n is_shown again at f e = rw (e, all_text) refl

  all-next : (n : ℕ) (is_shown again : Bool) (at : ℕ) → asked again at ≡ nothing →
      goes_on p matching subject again at ≡ true →
      all (suc n) is_shown again at ≡ all n is_shown false (place_behind p subject at)
  unfolding all_text
  all-next n is_shown again at e goes = rw (e, goes, all_text) refl

  all-none : (n : ℕ) (is_shown again : Bool) (at : ℕ) → asked again at ≡ nothing →
      goes_on p matching subject again at ≡ false → all (suc n) is_shown again at ≡ none_text is_shown
  unfolding all_text
  all-none n is_shown again at e goes = rw (e, goes, all_text) refl

  all-zero : (is_shown again : Bool) (at : ℕ) → all zero is_shown again at ≡ none_text is_shown
  unfolding all_text
  all-zero is_shown again at = refl

  abbrev most : ℕ
  most = 2 * length subject + 2

  abbrev total : ℕ → List ℕ
  total from = dfa_text p matching subject true from

  -- after so many searches the next one is from this place on
  pub record IsAt (from i at : ℕ) (again is_shown : Bool) (old now : Kept) : Type 0 where
    pub left : IsLeft (total from) (all (most - i) is_shown again at) old now

  one-more : (i : ℕ) → i < most → most - i ≡ suc (most - (i + 1))
  one-more i h = omega arith

  pub at-first : (from : ℕ) (old : Kept) → IsAt from 0 from false false old old
  at-first from old =
      let e : most ≡ most - 0 = omega arith in record {
        left = subst (λ n. IsLeft (total from) (all n false false from) old old) e (left-all (total from) old);
      }

  module _ (from i at : ℕ) (again is_shown : Bool) (old mid new : Kept)
      (on : IsAt from i at again is_shown old mid) where
    module _ (more : i < most) where
      rest-is : (text : List ℕ) → all (suc (most - (i + 1))) is_shown again at ≡ text
          → all (most - i) is_shown again at ≡ text
      rest-is text e = ap (λ n. all n is_shown again at) (one-more i more) ∙ e

      pub at-found : (start : ℕ) (qs : List ℕ) (u : Unit {0}) → asked again at ≡ ends start qs →
          Writes (ends_text p.options.utf subject start 0 qs) mid new (Ok u) →
          IsAt from (i + 1) (longest start qs) (start == longest start qs) true old new
      at-found start qs u e w =
          let later = all (most - (i + 1)) true (start == longest start qs) (longest start qs) in record {
            left = left-more (ends_text p.options.utf subject start 0 qs) later u on.left
                (rest-is (ends_text p.options.utf subject start 0 qs ++ later)
                (all-ends _ is_shown again at start qs e)) w;
          }

      pub at-next : asked again at ≡ nothing → goes_on p matching subject again at ≡ true →
          IsAt from (i + 1) (place_behind p subject at) false is_shown old mid
      at-next e goes = record {
        left = subst (λ l. IsLeft (total from) l old mid)
            (rest-is (all (most - (i + 1)) is_shown false (place_behind p subject at))
            (all-next _ is_shown again at e goes)) on.left;
      }

      pub at-end : (result : Result (Unit {0}) IoError) → asked again at ≡ nothing
          → goes_on p matching subject again at ≡ false →
          Writes (none_text is_shown) mid new result → Writes (total from) old new result
      at-end result e goes w = left-last result on.left
          (rest-is (none_text is_shown) (all-none _ is_shown again at e goes)) w

      pub at-failed : (f : DfaError) (u : Unit {0}) → asked again at ≡ failed f
          → Writes (unmatched_text p.options.utf subject f) mid new (Ok u) →
          Writes (total from) old new (Ok u)
      at-failed f u e w = left-last (Ok u) on.left
          (rest-is (unmatched_text p.options.utf subject f) (all-failed _ is_shown again at f e)) w

      pub at-refused : (fault : IoError) →
          Writes {T = Unit {0}} (told_text p.options.utf subject (asked again at)) mid new (Err fault) →
          Writes {T = Unit {0}} (total from) old new (Err fault)
      at-refused fault w = by_answer (asked again at) refl w
        where
          by_answer : (a : Told) → asked again at ≡ a → Writes {T = Unit {0}} (told_text p.options.utf subject a) mid
              new (Err fault) →
              Writes {T = Unit {0}} (total from) old new (Err fault)
          by_answer (ends start qs) e w =
              let later = all (most - (i + 1)) true (start == longest start qs) (longest start qs) in
              left-refused (ends_text p.options.utf subject start 0 qs) later fault on.left
              (rest-is (ends_text p.options.utf subject start 0 qs ++ later)
              (all-ends _ is_shown again at start qs e)) w
          by_answer nothing e w = left-refused [] (all (most - i) is_shown again at) fault on.left refl w
          by_answer (failed f) e w =
              left-refused (unmatched_text p.options.utf subject f) [] fault on.left
              (rest-is (unmatched_text p.options.utf subject f) (all-failed _ is_shown again at f e)
              ∙ sym (append-nil (unmatched_text p.options.utf subject f))) w

    -- a search wrote nothing
    pub at-quiet : (u : Unit {0}) → Writes [] mid new (Ok u) → IsAt from i at again is_shown old new
    at-quiet u w = record { left = left-more [] (all (most - i) is_shown again at) u on.left refl w }

    -- no search is left
    pub at-last : (result : Result (Unit {0}) IoError) → most ≤ i → Writes (none_text is_shown) mid new result →
        Writes (total from) old new result
    at-last result past w =
        let e : most - i ≡ 0 = omega arith in
        left-last result on.left (ap (λ n. all n is_shown again at) e ∙ all-zero is_shown again at) w

  pub at-as : (from i at at' : ℕ) (again again' is_shown is_shown' : Bool) (old new : Kept) → at ≡ at'
      → again ≡ again' → is_shown ≡ is_shown' →
      IsAt from i at' again' is_shown' old new → IsAt from i at again is_shown old new
  at-as from i at at' again again' is_shown is_shown' old new a b c on =
      subst (λ n. IsAt from i n again is_shown old new) (sym a)
      (subst (λ t. IsAt from i at' t is_shown old new) (sym b)
      (subst (λ t. IsAt from i at' again' t old new) (sym c) on))

  -- The first match alone.

  abbrev first : ℕ → List ℕ
  first from = first_text p matching subject from

  -- by what the search gives
  abbrev by_first : Told → List ℕ
  by_first a = elim a [
    | ends start qs ↦ ends_text p.options.utf subject start 0 qs
    | nothing ↦ none_text false
    | failed e ↦ unmatched_text p.options.utf subject e
  ]

  pub first-ends : (from start : ℕ) (qs : List ℕ) → told_at p matching subject from ≡ ends start qs →
      first from ≡ ends_text p.options.utf subject start 0 qs
  first-ends from start qs e = ap by_first e

  pub first-none : (from : ℕ) → told_at p matching subject from ≡ nothing → first from ≡ none_text false
  first-none from e = ap by_first e

  pub first-failed : (from : ℕ) (f : DfaError) → told_at p matching subject from ≡ failed f
      → first from ≡ unmatched_text p.options.utf subject f
  first-failed from f e = ap by_first e

  pub first-refused : (from : ℕ) (old new : Kept) (fault : IoError) →
      Writes {T = Unit {0}} (told_text p.options.utf subject (told_at p matching subject from)) old new (Err fault) →
      Writes {T = Unit {0}} (first from) old new (Err fault)
  first-refused from old new fault w = by_answer (told_at p matching subject from) refl w
    where
      by_answer : (a : Told) → told_at p matching subject from ≡ a →
          Writes {T = Unit {0}} (told_text p.options.utf subject a) old new (Err fault) →
          Writes {T = Unit {0}} (first from) old new (Err fault)
      by_answer (ends start qs) e w = writes-same (sym (first-ends from start qs e)) w
      by_answer nothing e w = writes-same (sym (first-none from e)) (writes-first [] (none_text false) old new fault w)
      by_answer (failed f) e w = writes-same (sym (first-failed from f e)) w

  -- a search that finds nothing began
  pub begun-none : (at : ℕ) → told_at p matching subject at ≡ nothing → start_fault p.options.utf subject at ≡ None
  unfolding told_at
  begun-none at e = by_fault (start_fault p.options.utf subject at) refl e
    where
      by_fault : (o : Option MatchError) → start_fault p.options.utf subject at ≡ o →
          elim o as (λ _. Told) [
            | Some f ↦ failed (start_error_of f)
            | None ↦ unless_barred (refusal p.tree)
                (told_of (length subject) (dfa_answer (setting p matching subject at) matching.dfa_shortest))
          ] ≡ nothing → start_fault p.options.utf subject at ≡ None
      by_fault None is e = is
      by_fault (Some f) is e = absurd (failed-not (start_error_of f) e)
