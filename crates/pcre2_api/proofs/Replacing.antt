-- The matches of a subject, as they are replaced one after another.
use Rattle.std.proofs.Common.{◌≡◌, ◌∙◌, ℕ, zero, suc, ◌+◌, ◌-◌, ◌<◌, ◌≤◌, Bool, true, false, List, [], ◌++◌, length}
use Rattle.std.proofs.Common.{drop, Result, Ok, Err, refl, sym, ap, subst, arith, append_assoc, append-nil}
use Rattle.std.specs.Prelude.{◌==◌, ◌&&◌, nat_lt, if◌then◌else◌}
use Rattle.std.proofs.lemmas.Bool.{lt-ltb, le-ltb}
use Rattle.pat_tree.specs.declared.options.MatchOptions.{MatchOptions}
use Rattle.pat_tree.specs.Pattern.{Pattern}
use Rattle.uni_text.specs.Characters.{char_at}
use Rattle.ordered_search.specs.PlaceAnswer.{Outcome}
use Rattle.pcre2_errors.specs.declared.error.MatchError.{MatchError}
use Rattle.pcre2_api.specs.declared.substitute.Substituted.{Substituted}
use Rattle.pcre2_errors.specs.declared.subst_error.SubstError.{SubstError}
use Rattle.pcre2_errors.specs.declared.subst_error.SubstError.TheVariants as refusal
use Rattle.pcre2_api.specs.declared.substitute.Search.TheVariants as search
use Rattle.pcre2_api.specs.Walks.{Answer, found, none, failed, Matches, no_more, fails, with_match, answer}
use Rattle.pcre2_api.specs.Walks.{answer_at, goes_on, is_crlf, place_behind, all_from, first_from, matches_from}
use Rattle.pcre2_api.specs.Substituted.{Work, written_for, replaced, all_replaced, behind, kept, searches}
use Rattle.pcre2_api.specs.Substituted.{search_refusal, added_by, IsAdded, IsSearch, Refuses}

-- What is told of a search says what it answers.

pub record IsMatch (len to : ℕ) (is_empty : Bool) (a : Answer) : Type 0 where
  pub outcome : Outcome
  pub is : a ≡ found outcome
  pub to_is : to ≡ outcome.to
  pub empty_is : is_empty ≡ (outcome.keep == outcome.to)
  pub inside : outcome.to ≤ len

pub is-match : (len to : ℕ) (is_empty : Bool) (a : Answer) → IsSearch len (search.Replaced to is_empty) a
    → IsMatch len to is_empty a
is-match len to is_empty (found o) h = record { outcome = o; is = refl; to_is = h.0; empty_is = h.1; inside = h.2 }
is-match len to is_empty none h = absurd h
is-match len to is_empty (failed e) h = absurd h

pub is-none : (len : ℕ) (a : Answer) → IsSearch len search.Nothing a → a ≡ none
is-none len none h = refl
is-none len (found o) h = absurd h
is-none len (failed e) h = absurd h

-- Refusals.

pub refuses-whole : {A B : Type 0} (given : Result A SubstError) (whole : Result B SubstError)
    → ((e : SubstError) → given ≡ Err e → whole ≡ Err e) → (e : SubstError) → Refuses given e → Refuses whole e
refuses-whole given whole goes refusal.BadOffset h = goes refusal.BadOffset h
refuses-whole given whole goes (refusal.BadUtf at) h = goes (refusal.BadUtf at) h
refuses-whole given whole goes refusal.BadUtfOffset h = goes refusal.BadUtfOffset h
refuses-whole given whole goes (refusal.ReplacementUtf at) h = goes (refusal.ReplacementUtf at) h
refuses-whole given whole goes refusal.BadReplacement h = goes refusal.BadReplacement h
refuses-whole given whole goes refusal.BadEscape h = goes refusal.BadEscape h
refuses-whole given whole goes refusal.MissingBrace h = goes refusal.MissingBrace h
refuses-whole given whole goes refusal.BadSyntax h = goes refusal.BadSyntax h
refuses-whole given whole goes refusal.MatchLimit h = goes refusal.MatchLimit h
refuses-whole given whole goes refusal.FrameLimit h = goes refusal.FrameLimit h
refuses-whole given whole goes refusal.RecurseLoop h = goes refusal.RecurseLoop h
refuses-whole given whole goes refusal.NoGroup h = goes refusal.NoGroup h
refuses-whole given whole goes refusal.Unset h = goes refusal.Unset h
refuses-whole given whole goes refusal.Memory h = tt

-- What is replaced before what follows.

abbrev pub adding : List ℕ → ℕ → Result Substituted SubstError → Result Substituted SubstError
adding out n (Ok s) = Ok (record { text = out ++ s.text; count = n + s.count })
adding out n (Err e) = Err e

same-done : (t u : List ℕ) (m n : ℕ) → t ≡ u → m ≡ n
    → (let r : Result Substituted SubstError = Ok (record { text = t; count = m }) in r) ≡ Ok
    (record { text = u; count = n })
same-done t u m n a b = cc

adding-none : (r : Result Substituted SubstError) → r ≡ adding [] 0 r
adding-none (Ok s) = same-done s.text s.text s.count (0 + s.count) refl (omega arith)
adding-none (Err e) = refl

adding-behind : (out bytes : List ℕ) (n : ℕ) (r : Result Substituted SubstError)
    → adding out n (behind bytes r) ≡ adding (out ++ bytes) (n + 1) r
adding-behind out bytes n (Ok s) = same-done _ _ (n + suc s.count) (n + 1 + s.count)
    (sym (append_assoc out bytes s.text)) (omega arith)
adding-behind out bytes n (Err e) = refl

-- The first match alone is what one search gives.

module _ (p : Pattern) (matching : MatchOptions) (subject : List ℕ) where
  abbrev by_first : Answer → Matches
  by_first a = elim a [ found o ↦ with_match o no_more | none ↦ no_more | failed e ↦ fails e ]

  first-is-one : (a : Answer)
      → by_first a ≡ (elim a [
        | found o ↦ with_match o (all_from p matching subject zero (o.keep == o.to) o.to)
        | none ↦ no_more
        | failed e ↦ fails e
      ])
  unfolding all_from
  first-is-one (found o) = refl
  first-is-one none = refl
  first-is-one (failed e) = refl

  one-search : (start : ℕ) → first_from p matching subject start ≡ all_from p matching subject 1 false start
  unfolding all_from
  one-search start = first-is-one (answer_at p matching subject start)

module _ (w : Work) (matching : MatchOptions) where
  abbrev subject : List ℕ
  subject = w.subject

  abbrev all : ℕ → Bool → ℕ → Matches
  all n again at = all_from w.pattern matching subject n again at

  abbrev asked : Bool → ℕ → Answer
  asked again at = answer w.pattern matching subject again at

  abbrev rest : ℕ → Matches → Result Substituted SubstError
  rest from m = replaced w from m.outcomes m.ended

  by_searches : (global : Bool) (start : ℕ) → matches_from w.pattern matching subject global start ≡ all
      (searches global (length subject)) false start
  by_searches true start = refl
  by_searches false start = one-search w.pattern matching subject start

  all-found : (n : ℕ) (again : Bool) (at : ℕ) (o : Outcome) → asked again at ≡ found o
      → all (suc n) again at ≡ with_match o (all n (o.keep == o.to) o.to)
  unfolding all_from
  all-found n again at o e = rw (e, all_from) refl

  all-failed : (n : ℕ) (again : Bool) (at : ℕ) (f : MatchError) → asked again at ≡ failed f
      → all (suc n) again at ≡ fails f
  unfolding all_from
  all-failed n again at f e = rw (e, all_from) refl

  all-next : (n : ℕ) (again : Bool) (at : ℕ) → asked again at ≡ none
      → goes_on w.pattern matching subject again at ≡ true
      → all (suc n) again at ≡ all n false (place_behind w.pattern subject at)
  unfolding all_from
  all-next n again at e goes = rw (e, goes, all_from) refl

  all-none : (n : ℕ) (again : Bool) (at : ℕ) → asked again at ≡ none
      → goes_on w.pattern matching subject again at ≡ false → all (suc n) again at ≡ no_more
  unfolding all_from
  all-none n again at e goes = rw (e, goes, all_from) refl

  all-zero : (again : Bool) (at : ℕ) → all zero again at ≡ no_more
  unfolding all_from
  all-zero again at = refl

  abbrev after_match : ℕ → Outcome → Matches → Result (List ℕ) SubstError → Result Substituted SubstError
  after_match from o m r = elim r [ Ok bytes ↦ behind bytes (rest o.to m) | Err e ↦ Err e ]

  rest-found : (from : ℕ) (o : Outcome) (m : Matches) (bytes : List ℕ) → written_for w from o ≡ Ok bytes
      → rest from (with_match o m) ≡ behind bytes (rest o.to m)
  rest-found from o m bytes e = ap (after_match from o m) e

  rest-refused : (from : ℕ) (o : Outcome) (m : Matches) (e : SubstError) → written_for w from o ≡ Err e
      → rest from (with_match o m) ≡ Err e
  rest-refused from o m e is = ap (after_match from o m) is

  -- after so many searches the next one is from this place on
  pub record IsOn (n start i at from count : ℕ) (again : Bool) (out : List ℕ) : Type 0 where
    pub left : all_replaced w matching start ≡ adding out count (rest from (all (n - i) again at))
    pub reached : from ≤ at
    pub inside : from ≤ length subject
    pub few : count ≤ i

  pub on-first : (n start : ℕ) → n ≡ searches w.how.global (length subject) → IsOn n start 0 start 0 0 false []
  on-first n start e =
      let same : searches w.how.global (length subject) ≡ n - 0 = omega (arith, e) in record {
        left = ap (rest 0) (by_searches w.how.global start ∙ ap (λ k. all k false start) same) ∙ adding-none _;
        reached = omega arith;
        inside = omega arith;
        few = omega arith;
      }

  module _ (n start i at from count : ℕ) (again : Bool) (out : List ℕ)
      (on : IsOn n start i at from count again out) where
    -- so much is to be replaced yet
    pub on-end : (m : Matches) → all (n - i) again at ≡ m
        → all_replaced w matching start ≡ adding out count (rest from m)
    on-end m e = on.left ∙ ap (λ k. adding out count (rest from k)) e

    done : (m : Matches) → m ≡ no_more → (s : Substituted)
        → s ≡ record { text = out ++ kept w.how (drop from subject); count = count }
        → adding out count (rest from m) ≡ Ok s
    done m e s is =
        ap (λ k. adding out count (rest from k)) e
        ∙ same-done (out ++ kept w.how (drop from subject)) (out ++ kept w.how (drop from subject)) (count + 0) count
        refl (omega arith)
        ∙ ap Ok (sym is)

    pub on-last : n ≤ i → (s : Substituted) → s ≡ record {
      text = out ++ kept w.how (drop from subject);
      count = count;
    } → all_replaced w matching start ≡ Ok s
    on-last past s is =
        let e : n - i ≡ 0 = omega arith in
        on.left ∙ done (all (n - i) again at) (ap (λ k. all k again at) e ∙ all-zero again at) s is

    module _ (more : i < n) where
      one-more : n - i ≡ suc (n - (i + 1))
      one-more = omega arith

      next-is : (m : Matches) → all (suc (n - (i + 1))) again at ≡ m → all (n - i) again at ≡ m
      next-is m e = ap (λ k. all k again at) one-more ∙ e

      pub on-none : asked again at ≡ none → goes_on w.pattern matching subject again at ≡ false → (s : Substituted)
          → s ≡ record { text = out ++ kept w.how (drop from subject); count = count }
          → all_replaced w matching start ≡ Ok s
      on-none e goes s is = on.left ∙ done _ (next-is no_more (all-none _ again at e goes)) s is

      pub on-found : (o : Outcome) (new bytes : List ℕ) → asked again at ≡ found o → written_for w from o ≡ Ok bytes
          → new ≡ out ++ bytes → o.to ≤ length subject
          → IsOn n start (i + 1) o.to o.to (count + 1) (o.keep == o.to) new
      on-found o new bytes e written is inside =
          let later = all (n - (i + 1)) (o.keep == o.to) o.to in record {
            left =
                on-end (with_match o later) (next-is _ (all-found _ again at o e))
                ∙ ap (adding out count) (rest-found from o later bytes written)
                ∙ adding-behind out bytes count (rest o.to later)
                ∙ ap (λ t. adding t (count + 1) (rest o.to later)) (sym is);
            reached = omega arith;
            inside = inside;
            few = omega (arith, on.few);
          }

      pub on-next : (new : List ℕ) → asked again at ≡ none → goes_on w.pattern matching subject again at ≡ true
          → new ≡ out
          → IsOn n start (i + 1) (place_behind w.pattern subject at) from count false new
      on-next new e goes is = record {
        left =
            on-end (all (n - (i + 1)) false (place_behind w.pattern subject at))
            (next-is _ (all-next _ again at e goes))
            ∙ ap (λ t. adding t count (rest from (all (n - (i + 1)) false (place_behind w.pattern subject at))))
            (sym is);
        reached = further (is_crlf w.pattern subject at) w.pattern.options.utf;
        inside = on.inside;
        few = omega (arith, on.few);
      }
        where
          further : (b utf : Bool) → from ≤ (if b then at + 2 else (char_at utf subject at).1)
          further true utf = omega (arith, on.reached)
          further false true = omega (arith, on.reached)
          further false false = omega (arith, on.reached)

      pub on-refused : (e : SubstError) → Refuses (added_by w from (asked again at)) e
          → Refuses (all_replaced w matching start) e
      on-refused e = refuses-whole (added_by w from (asked again at)) (all_replaced w matching start)
          (λ f. by_answer (asked again at) f refl) e
        where
          by_answer : (a : Answer) (f : SubstError) → asked again at ≡ a → added_by w from a ≡ Err f
              → all_replaced w matching start ≡ Err f
          by_answer (found o) f is refused =
              on-end _ (next-is _ (all-found _ again at o is)) ∙ ap (adding out count) (rest-refused from o _ f refused)
          by_answer none f is refused = cc
          by_answer (failed g) f is refused =
              let same : search_refusal g ≡ f = cc in
              on-end (fails g) (next-is _ (all-failed _ again at g is)) ∙ ap Err same

  pub on-as : (n start i at at' from from' count count' : ℕ) (again again' : Bool) (out : List ℕ)
      → at ≡ at' → from ≡ from' → count ≡ count' → again ≡ again' → IsOn n start i at' from' count' again' out
      → IsOn n start i at from count again out
  on-as n start i at at' from from' count count' again again' out a b c d on =
      subst (λ k. IsOn n start i k from count again out) (sym a)
      (subst (λ k. IsOn n start i at' k count again out) (sym b)
      (subst (λ k. IsOn n start i at' from' k again out) (sym c)
      (subst (λ k. IsOn n start i at' from' count' k out) (sym d) on)))

-- What was added says what the answer adds.

pub record IsText (w : Work) (from : ℕ) (old new : List ℕ) (o : Outcome) : Type 0 where
  pub bytes : List ℕ
  pub written : written_for w from o ≡ Ok bytes
  pub is : new ≡ old ++ bytes

module _ (w : Work) (from : ℕ) (old new : List ℕ) where
  by_text : (o : Outcome) (r : Result (List ℕ) SubstError) → written_for w from o ≡ r → IsAdded old new r
      → IsText w from old new o
  by_text o (Ok bytes) e h = record { bytes = bytes; written = e; is = h }
  by_text o (Err x) e h = absurd h

  pub found-added : (a : Answer) (o : Outcome) → a ≡ found o → IsAdded old new (added_by w from a)
      → IsText w from old new o
  found-added a o e h = by_text o (written_for w from o) refl (subst (λ b. IsAdded old new (added_by w from b)) e h)

  pub none-added : (a : Answer) → a ≡ none → IsAdded old new (added_by w from a) → new ≡ old
  none-added a e h = subst (λ b. IsAdded old new (added_by w from b)) e h ∙ append-nil old

-- Where a search goes on that found nothing.

module _ (p : Pattern) (matching : MatchOptions) (subject : List ℕ) where
  pub goes-once : (again : Bool) (at : ℕ) → again ≡ false → goes_on p matching subject again at ≡ false
  goes-once again at once = ap (λ b. b && nat_lt at (length subject)) once

  pub goes-past : (again : Bool) (at : ℕ) → again ≡ true → length subject ≤ at
      → goes_on p matching subject again at ≡ false
  goes-past again at twice past = ap (λ b. b && nat_lt at (length subject)) twice ∙ le-ltb at (length subject) past

  pub goes-inside : (again : Bool) (at : ℕ) → again ≡ true → at < length subject
      → goes_on p matching subject again at ≡ true
  goes-inside again at twice inside = ap (λ b. b && nat_lt at (length subject)) twice
      ∙ lt-ltb at (length subject) inside
