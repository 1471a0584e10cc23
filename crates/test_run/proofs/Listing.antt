-- The matches of a subject, as they are written one after another.
use Rattle.std.proofs.Common.{◌≡◌, ◌∙◌, ℕ, zero, suc, ◌+◌, ◌-◌, ◌*◌, ◌<◌, ◌≤◌, Bool, true, false, List, [], ◌++◌}
use Rattle.std.proofs.Common.{length, Option, Some, None, Result, Ok, Err, refl, sym, ap, subst, arith, append-nil}
use Rattle.std.specs.Prelude.{◌==◌, ◌&&◌, nat_lt, if◌then◌else◌, unwrap_or}
use Rattle.std.proofs.lemmas.Bool.{lt-ltb, le-ltb}
use Rattle.pcre_io.specs.declared.callouts.Block.{Block}
use Rattle.pcre_io.specs.Told.{Kept}
use Rattle.pcre_io.specs.declared.traits.IoError.{IoError}
use Rattle.tool_io.specs.Writes.{Writes}
use Rattle.tool_io.proofs.Writing.{IsLeft, left-all, left-more, left-refused, left-last, left-none, writes-same}
use Rattle.test_lines.proofs.Writing.{writes-as, writes-first, writes-then, writes-equal}
use Rattle.pat_tree.specs.declared.options.MatchOptions.{MatchOptions}
use Rattle.pat_tree.specs.Pattern.{Pattern}
use Rattle.ordered_search.specs.PlaceAnswer.{Outcome}
use Rattle.pcre2_api.specs.Starts.{start_fault}
use Rattle.pcre2_api.specs.Matched.{fault_in, shown_by}
use Rattle.ordered_search.specs.Setting.{Setting}
use Rattle.pcre2_errors.specs.declared.error.MatchError.{MatchError}
use Rattle.test_run.specs.declared.options.How.{How}
use Rattle.test_run.specs.declared.matches.Search.{Search}
use Rattle.test_run.specs.declared.matches.Search.TheVariants as search
use Rattle.test_lines.specs.Lines.{nothing_text, unmatched_line}
use Rattle.pcre2_api.specs.Walks.{Answer, found, none, failed, answer_in, matching_at, goes_on, place_behind}
use Rattle.ordered_search.specs.MatchAnswer.{match_answer}
use Rattle.test_run.specs.Searches.{IsSearch}
use Rattle.test_run.specs.Matches.{asking, answered, last_met, answer_text, search_text, missed_text, all_text}
use Rattle.test_run.specs.Matches.{first_text, searched}
use Rattle.test_lines.specs.Callouts.{calls_text}
use Rattle.test_lines.specs.Marks.{Showing, showing}

-- What is told of a search says what it answers.

pub record IsMatch (len to : ℕ) (is_empty : Bool) (a : Answer) : Type 0 where
  pub outcome : Outcome
  pub is : a ≡ found outcome
  pub to_is : to ≡ outcome.to
  pub empty_is : is_empty ≡ (outcome.keep == outcome.to)
  pub inside : outcome.to ≤ len

pub is-match : (len to : ℕ) (is_empty : Bool) (a : Answer) → IsSearch len (search.Found to is_empty) a
    → IsMatch len to is_empty a
is-match len to is_empty (found o) h = record { outcome = o; is = refl; to_is = h.0; empty_is = h.1; inside = h.2 }
is-match len to is_empty none h = absurd h
is-match len to is_empty (failed e) h = absurd h

none-by : (len : ℕ) (mark : Option ℕ) (a : Answer) → IsSearch len (search.Nothing mark) a → a ≡ none
none-by len mark none h = refl
none-by len mark (found o) h = absurd h
none-by len mark (failed e) h = absurd h

pub is-none : (len : ℕ) (s : Search) (a : Answer) {mark : Option ℕ} → s ≡ search.Nothing mark → IsSearch len s a
    → a ≡ none
is-none len s a {mark} is h = none-by len mark a (subst (λ t. IsSearch len t a) is h)

pub record IsFailed (a : Answer) : Type 0 where
  pub error : MatchError
  pub is : a ≡ failed error

pub is-failed : (len : ℕ) (a : Answer) → IsSearch len search.Failed a → IsFailed a
is-failed len (failed e) h = record { error = e; is = refl }
is-failed len none h = absurd h
is-failed len (found o) h = absurd h

-- Where a search goes on that found nothing.
module _ (p : Pattern) (matching : MatchOptions) (subject : List ℕ) where
  pub goes-once : (again : Bool) (at : ℕ) → again ≡ false → goes_on p matching subject again at ≡ false
  goes-once again at once = ap (λ b. b && nat_lt at (length subject)) once

  pub goes-past : (again : Bool) (at : ℕ) → again ≡ true → length subject ≤ at
      → goes_on p matching subject again at ≡ false
  goes-past again at twice past = ap (λ b. b && nat_lt at (length subject)) twice ∙ le-ltb at (length subject) past

  pub goes-inside : (again : Bool) (at : ℕ) → again ≡ true → at < length subject
      → goes_on p matching subject again at ≡ true
  goes-inside again at twice inside = ap (λ b. b && nat_lt at (length subject)) twice
      ∙ lt-ltb at (length subject) inside

-- A search that finds nothing can begin, and one that can't begin fails and shows no callout.
module _ (pattern : List ℕ) (p : Pattern) (how : How) (matching : MatchOptions) (subject : List ℕ) (at : ℕ) where
  abbrev here : Answer
  here = answered p how.replies matching subject at

  abbrev fault : Option MatchError
  fault = start_fault p.options.utf subject at

  abbrev by_fault : Option MatchError → Answer
  by_fault f = elim f [
    | Some e ↦ failed e
    | None ↦ answer_in (length subject)
        (match_answer (asking p how.replies matching subject at))
  ]

  none-begun : (f : Option MatchError) (a : Answer) → (elim f [ Some e ↦ failed e | None ↦ a ]) ≡ none → f ≡ None
  none-begun None a is = refl
  none-begun (Some e) a is = cc

  pub begun-none : here ≡ none → fault ≡ None
  unfolding answered
  begun-none is =
      none-begun fault (answer_in (length subject) (match_answer (asking p how.replies matching subject at))) is

  pub answers-fault : (e : MatchError) → fault ≡ Some e → here ≡ failed e
  unfolding answered
  answers-fault e is = ap by_fault is

  abbrev show : Showing
  show = showing p how.marks

  -- what is told of callouts, by what the search shows
  abbrev text_by : Option (List Block) → List ℕ
  text_by o = calls_text p.options.utf p.verb_names pattern subject how.replies (unwrap_or o [])

  no-calls : (passes : Bool) → (if◌then◌else◌ {A = List ℕ} passes [] []) ≡ []
  no-calls true = refl
  no-calls false = refl

  shown-none : (g : Setting) (e : MatchError) → fault_in g ≡ Some e → shown_by g (Some []) ≡ Some []
  shown-none g e is = rw (is, shown_by) refl

  pub unbegun-text : (e : MatchError) → fault ≡ Some e
      → search_text pattern p how subject matching at ≡ unmatched_line show subject e
  unbegun-text e is =
      ap (λ o. text_by o ++ answer_text show subject here) (shown-none (asking p how.replies matching subject at) e is)
      ∙ ap (λ l. l ++ answer_text show subject here) (no-calls how.replies.none)
      ∙ ap (answer_text show subject) (answers-fault e is)

-- All matches.
module _ (pattern : List ℕ) (p : Pattern) (how : How) (subject : List ℕ) where
  abbrev all : ℕ → Bool → Bool → ℕ → List ℕ
  all n is_shown again at = all_text pattern p how subject n is_shown again at

  abbrev answer : Bool → ℕ → Answer
  answer again at = answered p how.replies (matching_at how.matching again) subject at

  abbrev text : Bool → ℕ → List ℕ
  text again at = search_text pattern p how subject (matching_at how.matching again) at

  abbrev missed : Bool → Bool → ℕ → List ℕ
  missed is_shown again at = missed_text pattern p how subject (matching_at how.matching again) is_shown at

  -- what follows a search, by its answer
  abbrev after : ℕ → Bool → Bool → ℕ → Answer → List ℕ
  after n is_shown again at a = elim a [
    | found o ↦ all n true (o.keep == o.to) o.to
    | none ↦ elim (goes_on p how.matching subject again at) [
      | true ↦ all n is_shown false (place_behind p subject at)
      | false ↦ missed is_shown again at
    ]
    | failed e ↦ []
  ]

  all-step : (n : ℕ) (is_shown again : Bool) (at : ℕ)
      → all (suc n) is_shown again at ≡ text again at ++ after n is_shown again at (answer again at)
  unfolding all_text
  all-step n is_shown again at = refl

  all-zero : (is_shown again : Bool) (at : ℕ) → all zero is_shown again at ≡ nothing_text (showing p how.marks) None
      is_shown
  unfolding all_text
  all-zero is_shown again at = refl

  abbrev most : ℕ
  most = 2 * length subject + 2

  abbrev total : ℕ → List ℕ
  total from = all most false false from

  -- after so many searches the next one is from this place on
  pub record IsOn (from i at : ℕ) (again is_shown : Bool) (old now : Kept) : Type 0 where
    pub left : IsLeft (total from) (all (most - i) is_shown again at) old now

  pub on-first : (from : ℕ) (old : Kept) → IsOn from 0 from false false old old
  on-first from old =
      let e : most ≡ most - 0 = omega arith in record {
        left = subst (λ n. IsLeft (total from) (all n false false from) old old) e (left-all (total from) old);
      }

  module _ (from i at : ℕ) (again is_shown : Bool) (old mid new : Kept)
      (on : IsOn from i at again is_shown old mid) where
    module _ (more : i < most) where
      abbrev later : Answer → List ℕ
      later a = after (most - (i + 1)) is_shown again at a

      rest-is : all (most - i) is_shown again at ≡ text again at ++ later (answer again at)
      rest-is =
          let e : most - i ≡ suc (most - (i + 1)) = omega arith in
          ap (λ n. all n is_shown again at) e ∙ all-step (most - (i + 1)) is_shown again at

      -- the search wrote its text
      pub on-text : (a : Answer) (u : Unit {0}) → answer again at ≡ a → Writes (text again at) mid new (Ok u)
          → IsLeft (total from) (later a) old new
      on-text a u e w = subst (λ b. IsLeft (total from) (later b) old new) e
          (left-more (text again at) (later (answer again at)) u on.left rest-is w)

      pub on-refused : (fault : IoError) → Writes {T = Unit {0}} (text again at) mid new (Err fault)
          → Writes {T = Unit {0}} (total from) old new (Err fault)
      on-refused fault w = left-refused (text again at) (later (answer again at)) fault on.left rest-is w

      pub on-found : (o : Outcome) (u : Unit {0}) → answer again at ≡ found o → Writes (text again at) mid new (Ok u)
          → IsOn from (i + 1) o.to (o.keep == o.to) true old new
      on-found o u e w = record { left = on-text (found o) u e w }

      abbrev goes : Bool → List ℕ
      goes b = elim b [
        | true ↦ all (most - (i + 1)) is_shown false (place_behind p subject at)
        | false ↦
            missed is_shown again at
      ]

      on-none : (b : Bool) (u : Unit {0}) → answer again at ≡ none → goes_on p how.matching subject again at ≡ b
          → Writes (text again at) mid new (Ok u) → IsLeft (total from) (goes b) old new
      on-none b u e g w = subst (λ t. IsLeft (total from) (goes t) old new) g (on-text none u e w)

      pub on-next : (u : Unit {0}) → answer again at ≡ none → goes_on p how.matching subject again at ≡ true
          → Writes (text again at) mid new (Ok u) →
          IsOn from (i + 1) (place_behind p subject at) false is_shown old new
      on-next u e g w = record { left = on-none true u e g w }

      pub on-end : (last : Kept) (mark : Option ℕ) (u : Unit {0}) (result : Result (Unit {0}) IoError)
          → answer again at ≡ none → goes_on p how.matching subject again at ≡ false →
          mark ≡ last_met p how.replies (matching_at how.matching again) subject at
          → Writes (text again at) mid new (Ok u) →
          Writes (nothing_text (showing p how.marks) mark is_shown) new last result
          → Writes (total from) old last result
      on-end last mark u result e g named w v =
          left-last result (on-none false u e g w)
          (sym (ap (λ (m : Option ℕ). nothing_text (showing p how.marks) m is_shown) named)) v

      pub on-failed : (f : MatchError) (u : Unit {0}) → answer again at ≡ failed f
          → Writes (text again at) mid new (Ok u) → Writes (total from) old new (Ok u)
      on-failed f u e w = left-none u (on-text (failed f) u e w) refl

    -- no search is left
    pub on-last : (result : Result (Unit {0}) IoError) → most ≤ i
        → Writes (nothing_text (showing p how.marks) None is_shown) mid new result
        → Writes (total from) old new result
    on-last result past w =
        let e : most - i ≡ 0 = omega arith in
        left-last result on.left (ap (λ n. all n is_shown again at) e ∙ all-zero is_shown again at) w

  pub on-as : (from i at at' : ℕ) (again again' is_shown is_shown' : Bool) (old new : Kept) → at ≡ at'
      → again ≡ again' → is_shown ≡ is_shown' → IsOn from i at' again' is_shown' old new
      → IsOn from i at again is_shown old new
  on-as from i at at' again again' is_shown is_shown' old new a b c on =
      subst (λ n. IsOn from i n again is_shown old new) (sym a)
      (subst (λ t. IsOn from i at' t is_shown old new) (sym b)
      (subst (λ t. IsOn from i at' again' t old new) (sym c) on))

  -- The first match alone.

  abbrev first : ℕ → List ℕ
  first from = first_text pattern p how subject from

  abbrev only : ℕ → List ℕ
  only from = search_text pattern p how subject how.matching from

  -- what follows it
  abbrev behind : ℕ → Answer → List ℕ
  behind from a = elim a [
    | found o ↦ []
    | none ↦ missed_text pattern p how subject how.matching false from
    | failed e ↦ []
  ]

  first-done : (from : ℕ) (old new : Kept) (u : Unit {0})
      → behind from (answered p how.replies how.matching subject from) ≡ [] → Writes (only from) old new (Ok u)
      → Writes (first from) old new (Ok u)
  first-done from old new u e w = writes-same (sym (ap (λ l. only from ++ l) e ∙ append-nil (only from))) w

  done-behind : (from : ℕ) (s : Search) (a : Answer) → ((mark : Option ℕ) → s ≡ search.Nothing mark → ⊥)
      → IsSearch (length subject) s a → behind from a ≡ []
  done-behind from (search.Nothing mark) a other is = absurd (other mark refl)
  done-behind from (search.Found to is_empty) (found o) other is = refl
  done-behind from (search.Found to is_empty) none other is = absurd is
  done-behind from (search.Found to is_empty) (failed e) other is = absurd is
  done-behind from search.Failed (failed e) other is = refl
  done-behind from search.Failed none other is = absurd is
  done-behind from search.Failed (found o) other is = absurd is

  -- one that finds a match or fails is all that is written
  pub first-other : (from : ℕ) (s : Search) (old new : Kept) (u : Unit {0})
      → ((mark : Option ℕ) → s ≡ search.Nothing mark → ⊥) →
      IsSearch (length subject) s (answered p how.replies how.matching subject from)
      → Writes {T = Search} (only from) old new (Ok s) → Writes (first from) old new (Ok u)
  first-other from s old new u other is w = first-done from old new u
      (done-behind from s (answered p how.replies how.matching subject from) other is) (writes-as s u w)

  -- a first search that finds nothing tells the name that is shown
  pub first-ends : (from : ℕ) (old mid new : Kept) (mark : Option ℕ) (s : Search) (result : Result (Unit {0}) IoError)
      → answered p how.replies how.matching subject from ≡ none →
      mark ≡ last_met p how.replies how.matching subject from → Writes {T = Search} (only from) old mid (Ok s)
      → Writes (nothing_text (showing p how.marks) mark false) mid new result → Writes (first from) old new result
  first-ends from old mid new mark s result e named w v =
      let next : nothing_text (showing p how.marks) mark false ≡ behind from
      (answered p how.replies how.matching subject from) =
      ap (λ (m : Option ℕ). nothing_text (showing p how.marks) m false) named ∙ sym (ap (behind from) e) in
      writes-then (only from) (behind from (answered p how.replies how.matching subject from)) old mid new s result w
      (writes-equal next v)

  pub first-refused : (from : ℕ) (old new : Kept) (fault : IoError)
      → Writes {T = Search} (only from) old new (Err fault) → Writes {T = Unit {0}} (first from) old new (Err fault)
  first-refused from old new fault w = writes-first (only from)
      (behind from (answered p how.replies how.matching subject from)) old new fault w

  -- Where the first search can't begin.

  pub all-unbegun : (from : ℕ) (f : MatchError) → start_fault p.options.utf subject from ≡ Some f
      → total from ≡ unmatched_line (showing p how.marks) subject f
  all-unbegun from f e =
      let more : most ≡ suc (2 * length subject + 1) = omega arith in
      ap (λ n. all n false false from) more ∙ all-step (2 * length subject + 1) false false from
      ∙ ap (λ a. text false from ++ after (2 * length subject + 1) false false from a)
      (answers-fault pattern p how how.matching subject from f e)
      ∙ append-nil (text false from) ∙ unbegun-text pattern p how how.matching subject from f e

  pub first-unbegun : (from : ℕ) (f : MatchError) → start_fault p.options.utf subject from ≡ Some f
      → first from ≡ unmatched_line (showing p how.marks) subject f
  first-unbegun from f e =
      ap (λ a. only from ++ behind from a) (answers-fault pattern p how how.matching subject from f e)
      ∙ append-nil (only from) ∙ unbegun-text pattern p how how.matching subject from f e

  unbegun-by : (global : Bool) (f : MatchError) → start_fault p.options.utf subject how.start ≡ Some f →
      (if global then total how.start else first how.start) ≡ unmatched_line (showing p how.marks) subject f
  unbegun-by true f e = all-unbegun how.start f e
  unbegun-by false f e = first-unbegun how.start f e

  pub searched-unbegun : (f : MatchError) → start_fault p.options.utf subject how.start ≡ Some f
      → searched pattern p how subject ≡ unmatched_line (showing p how.marks) subject f
  searched-unbegun f e = unbegun-by how.global f e
