-- A line in which a match of an expression begins that is found nowhere but where a pattern matches.
use Rattle.std.proofs.Common.{◌≡◌, ◌≢◌, ◌∙◌, ℕ, suc, ◌+◌, ◌<◌, ◌≤◌, ◌||◌, ◌⊎◌, inl, inr, List, [], ◌∷◌, ◌++◌}
use Rattle.std.proofs.Common.{length, length-append, map, drop, get_or, Bool, false, Option, Some, None}
use Rattle.std.proofs.Common.{refl, sym, ap, subst, arith}
use Rattle.std.specs.Prelude.{slice_index}
use Rattle.std.proofs.Math.Seq.{drop-cons}
use Rattle.std.proofs.lemmas.Option.{none-some, slice_get_past}
use Rattle.uni_text.specs.Characters.{IsChecked}
use Rattle.regex_class.specs.Ranges.{in_ranges}
use Rattle.regex_hir.specs.Re.{Re, accept, attempt}
use Rattle.regex_hir.specs.Matches.{Matches}
use Rattle.regex_hir.specs.Find.{Match, find}
use Rattle.regex_hir.specs.Meaning.{meaning, alt_all}
use Rattle.regex_hir.specs.declared.hir.Hir.{Hir}
use Rattle.regex_hir.proofs.OptionLemmas.{value_of_IsSome}
use Rattle.regex_hir.proofs.FindLemmas.{IsFirst-of_first_between, find_sound, find_complete}
use Rattle.regex_hir.proofs.TextLemmas.{byte_before-zero}
use Rattle.pat_tree.specs.declared.options.MatchOptions.{MatchOptions}
use Rattle.pat_tree.specs.declared.options.Options.{Options}
use Rattle.pat_tree.specs.Pattern.{Pattern}
use Rattle.pat_shape.specs.Looks.{IsLine}
use Rattle.ordered_search.specs.PlaceAnswer.{Outcome}
use Rattle.pcre2_api.specs.Answers.{Answer, found, none, pattern_answer}
use Rattle.grep_args.specs.declared.plan.GrepPlan.{GrepPlan}
use Rattle.grep_match.specs.declared.patterns.Kept.{Kept}
use Rattle.grep_match.specs.Compiled.{pattern_in, meant}
use Rattle.grep_match.specs.Matches.{first_answer, limits, shows_each}
use Rattle.grep_match.specs.declared.wider.Wider.{Wider}
use Rattle.grep_match.specs.Wider.{Misses, Finds, HasMatch, SomeMatches, AreExact, IsWiderBy, AreWider}
use Rattle.grep_match.proofs.Searching.{line_one}
use Rattle.grep_match.proofs.Lacking.{or_true, one_none}
use Rattle.grep_match.proofs.Widening.{branches, branches-more}

-- A match of the branches is one of the first ones or of the last.

alt-split : (hay : List ℕ) (xs : List Re) (x : Re) (i j : ℕ) → Matches hay (alt_all (xs ++ x ∷ [])) i j
    → Matches hay (alt_all xs) i j ⊎ Matches hay x i j
alt-split hay [] x i j (inl here) = inr here
alt-split hay [] x i j (inr rest) = inl rest
alt-split hay (y ∷ ys) x i j (inl here) = inl (inl here)
alt-split hay (y ∷ ys) x i j (inr rest) = elim (alt-split hay ys x i j rest) [
  | inl first ↦ inl (inr first)
  | inr last ↦ inr last
]

-- a line of at most so many bytes that may be searched
pub record IsSearched (most : ℕ) (utf : Bool) (line : List ℕ) : Type 0 where
  pub short : length line ≤ most
  pub small : (k : ℕ) → k < length line → slice_index line k < 256
  pub whole : (k : ℕ) → k < length line → slice_index line k ≢ 10
  pub checked : IsChecked utf line

-- an answer that is no error
abbrev pub IsTold : Answer → Type 0
IsTold x = (x ≡ none) ⊎ ((o : Outcome) × (x ≡ found o))

abbrev pub IsFound : Answer → Type 0
IsFound x = (o : Outcome) × (x ≡ found o)

pub first_within : (re : Re) (hay : List ℕ) (m : Match) → find re hay 0 ≡ Some m → m.start ≤ length hay
unfolding find
first_within re hay m e = (IsFirst-of_first_between (attempt hay re accept) 0 (length hay) m e).to

pub alone : (line : List ℕ) → IsLine [] line []
alone line = record {
  front = inl (byte_before-zero (line ++ []));
  back = inl (slice_get_past (line ++ []) (0 + length line)
      (let long = length-append line [] in omega (arith, long)));
}

-- by the exact shape of one pattern its answer is known
decided : (p : Pattern) (matching : MatchOptions) (most : ℕ) (re : Re) → Misses p matching most re
    → Finds p matching most re → (line : List ℕ) → IsSearched most p.options.utf line
    → IsTold (pattern_answer matching line 0 p)
decided p matching most re misses finds line s = by_find (find re (line ++ []) 0) refl
  where
    long : length (line ++ []) ≡ length line
    long = let n = length-append line [] in omega (arith, n)

    by_find : (o : Option Match) → find re (line ++ []) 0 ≡ o
        → IsTold (pattern_answer matching line 0 p)
    by_find None e =
        inl (misses [] line [] s.short s.small s.whole (alone line) s.checked
        (λ i j from to m.
        let v = value_of_IsSome _ (find_complete re (line ++ []) 0 i j from (let n = long in omega (arith, to, n)) m) in
        none-some v.0 (sym e ∙ v.1)))
    by_find (Some m) e =
        let f = find_sound re (line ++ []) 0 m e in
        let low = first_within re (line ++ []) m e in
        inr (finds [] line [] s.short s.small s.whole (alone line) s.checked m.start m.trace.end
        (omega arith) (let n = long in omega (arith, low, n)) f.1)

-- Of the first i patterns none gives an error, and one of them finds something in a line in which a match of their
-- branches begins.
pub record FirstMatchSome (options : Options) (matching : MatchOptions) (codes : List Kept) (most : ℕ)
    (hirs : List Hir) (utf : Bool) (i : ℕ) : Type 0 where
  pub told : (line : List ℕ) → IsSearched most utf line
      → (first_answer matching line 0 (meant options (drop i codes))
      ≡ first_answer matching line 0 (meant options codes))
      ⊎ IsFound (first_answer matching line 0 (meant options codes))
  pub finds : (before line after : List ℕ) → HasMatch (branches hirs) most utf before line after
      → IsFound (first_answer matching line 0 (meant options codes))

none-begins : (hay : List ℕ) (i j : ℕ) → ¬ Matches hay (branches []) i j
unfolding in_ranges
none-begins hay i j m = let never = m.2 in absurd cc

pub first_some : (options : Options) (matching : MatchOptions) (codes : List Kept) (most : ℕ) (utf : Bool)
    → FirstMatchSome options matching codes most [] utf 0
first_some options matching codes most utf = record {
  told = λ line s. inl refl;
  finds = λ before line after h. absurd (none-begins (before ++ (line ++ after)) h.at h.to h.matches);
}

one_found : (matching : MatchOptions) (line : List ℕ) (p : Pattern) (ps : List Pattern) (o : Outcome)
    → pattern_answer matching line 0 p ≡ found o → first_answer matching line 0 (p ∷ ps) ≡ found o
one_found matching line p ps o e = rw (e, first_answer) refl

module _ (options : Options) (matching : MatchOptions) (codes : List Kept) (i : ℕ) (code : Kept) (most : ℕ)
    (hirs all : List Hir) (hir : Hir) (some utf : Bool) (within : i < length codes) (is : code ≡ get_or codes i code)
    (misses : Misses (pattern_in options code) matching most (meaning hir))
    (exact : Finds (pattern_in options code) matching most (meaning hir))
    (joined : all ≡ hirs ++ hir ∷ []) (both : utf ≡ (some || (pattern_in options code).options.utf))
    (first : FirstMatchSome options matching codes most hirs some i) where
  abbrev whole : List ℕ → Answer
  whole line = first_answer matching line 0 (meant options codes)

  abbrev behind : List ℕ → ℕ → Answer
  behind line n = first_answer matching line 0 (meant options (drop n codes))

  cut : drop i codes ≡ code ∷ drop (i + 1) codes
  cut =
      drop-cons codes i code within ∙ ap (λ x. x ∷ drop (suc i) codes) (sym is)
      ∙ ap (λ n. code ∷ drop n codes) {x = suc i} {y = i + 1} (omega arith)

  passes : (line : List ℕ) → pattern_answer matching line 0 (pattern_in options code) ≡ none
      → behind line i ≡ behind line (i + 1)
  passes line e =
      ap (λ l. first_answer matching line 0 (meant options l)) cut
      ∙ one_none matching line (pattern_in options code) (meant options (drop (i + 1) codes)) e

  stops : (line : List ℕ) (o : Outcome) → pattern_answer matching line 0 (pattern_in options code) ≡ found o
      → behind line i ≡ found o
  stops line o e =
      ap (λ l. first_answer matching line 0 (meant options l)) cut
      ∙ one_found matching line (pattern_in options code) (meant options (drop (i + 1) codes)) o e

  checked_one : (line : List ℕ) → IsChecked utf line → IsChecked (pattern_in options code).options.utf line
  checked_one line h = λ on. h (both ∙ rw (on, or_true some) refl)

  checked_some : (line : List ℕ) → IsChecked utf line → IsChecked some line
  checked_some line h = λ on. h (both ∙ rw on refl)

  earlier : (line : List ℕ) → IsSearched most utf line → (behind line i ≡ whole line) ⊎ IsFound (whole line)
  earlier line s = first.told line (record {
    short = s.short;
    small = s.small;
    whole = s.whole;
    checked = checked_some line s.checked;
  })

  -- with one that finds something all do
  by_one : (line : List ℕ) → IsSearched most utf line → (o : Outcome)
      → pattern_answer matching line 0 (pattern_in options code) ≡ found o → IsFound (whole line)
  by_one line s o e = elim (earlier line s) [
    | inl same ↦ (o, sym same ∙ stops line o e)
    | inr f ↦ f
  ]

  told_more : (line : List ℕ) → IsSearched most utf line → (behind line (i + 1) ≡ whole line) ⊎ IsFound (whole line)
  told_more line s = by_answer (decided (pattern_in options code) matching most (meaning hir) misses exact line
      (record {
        short = s.short;
        small = s.small;
        whole = s.whole;
        checked = checked_one line s.checked;
      }))
    where
      by_answer : IsTold (pattern_answer matching line 0 (pattern_in options code))
          → (behind line (i + 1) ≡ whole line) ⊎ IsFound (whole line)
      by_answer (inl e) = elim (earlier line s) [
        | inl same ↦ inl (sym (passes line e) ∙ same)
        | inr f ↦ inr f
      ]
      by_answer (inr f) = inr (by_one line s f.0 f.1)

  finds_more : (before line after : List ℕ) → HasMatch (branches all) most utf before line after
      → IsFound (whole line)
  finds_more before line after h =
      let s : IsSearched most utf line = record {
        short = h.short;
        small = h.small;
        whole = h.whole;
        checked = h.checked;
      } in
      let hay = before ++ (line ++ after) in
      let m = subst (λ re. Matches hay re h.at h.to) (ap branches joined ∙ branches-more hirs hir) h.matches in
      elim (alt-split hay (map meaning hirs) (meaning hir) h.at h.to m) [
        | inl here ↦ first.finds before line after (record {
          short = h.short;
          small = h.small;
          whole = h.whole;
          is_line = h.is_line;
          checked = checked_some line h.checked;
          at = h.at;
          to = h.to;
          from = h.from;
          within = h.within;
          matches = here;
        })
        | inr last ↦
            let f = exact before line after h.short h.small h.whole h.is_line
            (checked_one line h.checked) h.at h.to h.from h.within last in
            by_one line s f.0 f.1
      ]

  pub next_some : FirstMatchSome options matching codes most all utf (i + 1)
  next_some = record { told = told_more; finds = finds_more }

pub all_some : (options : Options) (matching : MatchOptions) (codes : List Kept) (i : ℕ) (wider : Wider)
    (hirs : List Hir)
    → meaning wider.hir ≡ branches hirs
    → FirstMatchSome options matching codes wider.most hirs wider.utf i
    → SomeMatches matching (meant options codes) wider
all_some options matching codes i wider hirs is first before line after h =
    first.finds before line after (subst (λ re. HasMatch re wider.most wider.utf before line after) is h)

-- where only the first match counts, such a line has it
pub are_exact : (plan : GrepPlan) (matching : MatchOptions) (patterns : List Pattern) (some wider : Wider)
    → matching ≡ limits plan → wider.hir ≡ some.hir → wider.most ≡ some.most → wider.utf ≡ some.utf
    → shows_each plan ≡ false → SomeMatches matching patterns some → AreExact plan patterns wider
are_exact plan matching patterns some wider same hir most utf each finds before line after h =
    let h' : HasMatch (meaning some.hir) some.most some.utf before line after =
    subst (λ re. HasMatch re some.most some.utf before line after) (ap meaning hir)
    (subst (λ n. HasMatch (meaning wider.hir) n some.utf before line after) most
    (subst (λ u. HasMatch (meaning wider.hir) wider.most u before line after) utf h)) in
    let f = finds before line after h' in
    (f.0, line_one plan patterns line f.0 each (ap (λ m. first_answer m line 0 patterns) (sym same) ∙ f.1))

-- which of them is exact tells nothing of lines without a match
pub as_wide : (plan : GrepPlan) (patterns : List Pattern) (some wider : Wider)
    → wider.hir ≡ some.hir → wider.most ≡ some.most → wider.utf ≡ some.utf
    → AreWider plan patterns some → AreWider plan patterns wider
as_wide plan patterns some wider hir most utf h =
    subst (λ u. IsWiderBy plan patterns (meaning wider.hir) wider.most u) (sym utf)
    (subst (λ n. IsWiderBy plan patterns (meaning wider.hir) n some.utf) (sym most)
    (subst (λ x. IsWiderBy plan patterns (meaning x) some.most some.utf) (sym hir) h))
