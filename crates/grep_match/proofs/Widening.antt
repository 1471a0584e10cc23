-- A line in which no match of an expression begins that is found wherever a pattern matches.
use Rattle.std.proofs.Common.{◌≡◌, ◌∙◌, ℕ, suc, ◌+◌, ◌<◌, ◌≤◌, ◌||◌, inl, inr, List, [], ◌∷◌, ◌++◌, length}
use Rattle.std.proofs.Common.{map, drop, get_or, Bool, true, false, Option, Some, None, IfSome, refl, sym, ap}
use Rattle.std.proofs.Common.{subst, arith, pos, Result, Ok, Err, IfOk}
use Rattle.std.proofs.Math.Seq.{drop-cons}
use Rattle.std.proofs.lemmas.List.{drop_all, map-append}
use Rattle.uni_text.specs.Characters.{IsChecked}
use Rattle.regex_class.specs.Ranges.{in_ranges}
use Rattle.regex_hir.specs.Re.{Re}
use Rattle.regex_hir.specs.Matches.{Matches}
use Rattle.regex_hir.specs.Meaning.{meaning, alt_all}
use Rattle.regex_hir.specs.declared.hir.Hir.{Hir}
use Rattle.pat_tree.specs.declared.options.MatchOptions.{MatchOptions}
use Rattle.pat_tree.specs.declared.options.Options.{Options}
use Rattle.pat_tree.specs.Pattern.{Pattern, pattern_of}
use Rattle.pat_shape.specs.declared.lines.LineShape.{LineShape}
use Rattle.pcre2_api.specs.Compiled.{CodeParts}
use Rattle.pcre2_api.specs.Shapes.{MissesLines, FindsLines}
use Rattle.pcre2_api.specs.Answers.{none}
use Rattle.grep_args.specs.declared.plan.GrepPlan.{GrepPlan}
use Rattle.grep_match.specs.declared.patterns.Kept.{Kept}
use Rattle.grep_match.specs.Compiled.{pattern_in, meant}
use Rattle.grep_match.specs.Matches.{first_answer, limits}
use Rattle.grep_match.specs.declared.wider.Wider.{Wider}
use Rattle.grep_match.specs.Wider.{Misses, Finds, LacksMatch, NoneMatches, AreWider}
use Rattle.grep_match.proofs.Searching.{line_none}
use Rattle.grep_match.proofs.Lacking.{or_true, one_none}

-- A branch more takes nothing away.

pub alt-left : (hay : List ℕ) (xs : List Re) (x : Re) (i j : ℕ) → Matches hay (alt_all xs) i j
    → Matches hay (alt_all (xs ++ x ∷ [])) i j
unfolding in_ranges
alt-left hay [] x i j h = absurd (let never : false ≡ true = h.2 in cc)
alt-left hay (y ∷ ys) x i j (inl here) = inl here
alt-left hay (y ∷ ys) x i j (inr rest) = inr (alt-left hay ys x i j rest)

pub alt-last : (hay : List ℕ) (xs : List Re) (x : Re) (i j : ℕ) → Matches hay x i j
    → Matches hay (alt_all (xs ++ x ∷ [])) i j
alt-last hay [] x i j h = inl h
alt-last hay (y ∷ ys) x i j h = inr (alt-last hay ys x i j h)

abbrev pub branches : List Hir → Re
branches hirs = alt_all (map meaning hirs)

pub branches-more : (hirs : List Hir) (hir : Hir) → branches (hirs ++ hir ∷ []) ≡ alt_all
    (map meaning hirs ++ meaning hir ∷ [])
branches-more hirs hir = ap alt_all (map-append meaning hirs (hir ∷ []))

module _ (hirs : List Hir) (hir : Hir) (before line after : List ℕ) where
  lacks-some : (i j : ℕ) → ¬ Matches (before ++ (line ++ after)) (branches (hirs ++ hir ∷ [])) i j
      → ¬ Matches (before ++ (line ++ after)) (branches hirs) i j
  lacks-some i j lacks h =
      lacks (subst (λ re. Matches (before ++ (line ++ after)) re i j) (sym (branches-more hirs hir))
      (alt-left (before ++ (line ++ after)) (map meaning hirs) (meaning hir) i j h))

  lacks-last : (i j : ℕ) → ¬ Matches (before ++ (line ++ after)) (branches (hirs ++ hir ∷ [])) i j
      → ¬ Matches (before ++ (line ++ after)) (meaning hir) i j
  lacks-last i j lacks h =
      lacks (subst (λ re. Matches (before ++ (line ++ after)) re i j) (sym (branches-more hirs hir))
      (alt-last (before ++ (line ++ after)) (map meaning hirs) (meaning hir) i j h))

-- the first i patterns find nothing in a line in which no match of their branches begins
abbrev pub FirstMatchNone : Options → MatchOptions → List Kept → ℕ → List Hir → Bool → ℕ → Type 0
FirstMatchNone options matching codes most hirs utf i =
    (before line after : List ℕ) → LacksMatch (branches hirs) most utf before line after
    → first_answer matching line 0 (meant options (drop i codes)) ≡ first_answer matching line 0 (meant options codes)

pub next_misses : (options : Options) (matching : MatchOptions) (codes : List Kept) (i : ℕ) (code : Kept) (most : ℕ)
    (hirs all : List Hir) (hir : Hir) (some utf : Bool)
    → i < length codes → code ≡ get_or codes i code → Misses (pattern_in options code) matching most (meaning hir)
    → all ≡ hirs ++ hir ∷ [] → utf ≡ (some || (pattern_in options code).options.utf)
    → FirstMatchNone options matching codes most hirs some i
    → FirstMatchNone options matching codes most all utf (i + 1)
next_misses options matching codes i code most hirs all hir some utf within is misses joined both first before line
    after
    lacks =
    let checked = subst (λ b. IsChecked b line) both lacks.checked in
    let none_begins = subst (λ hs. (i j : ℕ) → length before ≤ i → i ≤ length before + length line → ¬ Matches
    (before ++ (line ++ after)) (branches hs) i j) joined lacks.lacks in
    let here =
    misses before line after lacks.short lacks.small lacks.whole lacks.is_line
    (λ on. checked (rw (on, or_true some) refl))
    (λ a b low high. lacks-last hirs hir before line after a b (none_begins a b low high)) in
    let fewer : LacksMatch (branches hirs) most some before line after = record {
      short = lacks.short;
      small = lacks.small;
      whole = lacks.whole;
      is_line = lacks.is_line;
      checked = λ on. checked (rw on refl);
      lacks = λ a b low high. lacks-some hirs hir before line after a b (none_begins a b low high);
    } in
    let cut : drop i codes ≡ code ∷ drop (i + 1) codes =
    drop-cons codes i code within ∙ ap (λ x. x ∷ drop (suc i) codes) (sym is)
    ∙ ap (λ n. code ∷ drop n codes) {x = suc i} {y = i + 1} (omega arith) in
    sym (ap (λ l. first_answer matching line 0 (meant options l)) cut
    ∙ one_none matching line (pattern_in options code) (meant options (drop (i + 1) codes)) here)
    ∙ first before line after fewer

pub all_miss : (options : Options) (matching : MatchOptions) (codes : List Kept) (i : ℕ) (wider : Wider)
    (hirs : List Hir)
    → length codes ≤ i → meaning wider.hir ≡ branches hirs
    → FirstMatchNone options matching codes wider.most hirs wider.utf i
    → NoneMatches matching (meant options codes) wider
all_miss options matching codes i wider hirs past is first before line after lacks =
    sym (first before line after (subst (λ re. LacksMatch re wider.most wider.utf before line after) is lacks))
    ∙ ap (λ l. first_answer matching line 0 (meant options l)) (drop_all i codes past)

-- no search of such a line finds anything
pub are_wider : (plan : GrepPlan) (matching : MatchOptions) (patterns : List Pattern) (wider : Wider)
    → matching ≡ limits plan
    → NoneMatches matching patterns wider → AreWider plan patterns wider
are_wider plan matching patterns wider same finds before line after lacks =
    line_none plan patterns line (subst (λ m. first_answer m line 0 patterns ≡ none) same
    (finds before line after lacks))

pub if_wider : (plan : GrepPlan) (matching : MatchOptions) (patterns : List Pattern) (found : Option Wider)
    → matching ≡ limits plan
    → IfSome found (NoneMatches matching patterns) → IfSome found (AreWider plan patterns)
if_wider plan matching patterns None same finds = finds
if_wider plan matching patterns (Some wider) same finds = are_wider plan matching patterns wider same finds

-- what is told of lines by a code is told of its pattern
pub misses-by : {E : Type 0} (r : Result (Option LineShape) E) (code : CodeParts) (p : Pattern)
    (matching : MatchOptions) (most : ℕ) → pattern_of code.tree ≡ p
    → IfOk r (λ o. IfSome o (λ shape. MissesLines code matching most (meaning shape.hir)))
    → IfOk r (λ o. IfSome o (λ shape. Misses p matching most (meaning shape.hir)))
misses-by (Ok (Some shape)) code p matching most is h =
    subst (λ q. Misses q matching most (meaning shape.hir)) is (λ before line after. h before line after (λ _. pos 0))
misses-by (Ok None) code p matching most is h = tt
misses-by (Err e) code p matching most is h = tt

pub finds-by : {E : Type 0} (r : Result (Option LineShape) E) (code : CodeParts) (p : Pattern)
    (matching : MatchOptions) (most : ℕ) → pattern_of code.tree ≡ p
    → IfOk r (λ o. IfSome o (λ shape. shape.is_exact ≡ true → FindsLines code matching most (meaning shape.hir)))
    → IfOk r (λ o. IfSome o (λ shape. shape.is_exact ≡ true → Finds p matching most (meaning shape.hir)))
finds-by (Ok (Some shape)) code p matching most is h = λ on.
    subst (λ q. Finds q matching most (meaning shape.hir)) is
    (λ before line after. h on before line after (λ _. pos 0))
finds-by (Ok None) code p matching most is h = tt
finds-by (Err e) code p matching most is h = tt
