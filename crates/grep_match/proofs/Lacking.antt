-- A line that lacks what every match needs.
use Rattle.std.proofs.Common.{◌≡◌, ◌∙◌, ℕ, suc, ◌+◌, ◌<◌, ◌≤◌, ◌||◌, List, ◌∷◌, length, drop, get_or, Bool, true}
use Rattle.std.proofs.Common.{false, pos, refl, sym, ap, subst, arith}
use Rattle.std.proofs.Math.Seq.{drop-cons}
use Rattle.std.proofs.lemmas.List.{drop_all}
use Rattle.uni_text.specs.Characters.{IsChecked}
use Rattle.pat_needs.specs.Texts.{sets_of, AreUnions}
use Rattle.pat_needs.proofs.TextLemmas.{stands_left, stands_right}
use Rattle.pat_tree.specs.declared.options.MatchOptions.{MatchOptions}
use Rattle.pat_tree.specs.declared.options.Options.{Options}
use Rattle.pat_tree.specs.Pattern.{Pattern, pattern_of}
use Rattle.pcre2_api.specs.Compiled.{CodeParts}
use Rattle.pcre2_api.specs.Answers.{none, pattern_answer}
use Rattle.pcre2_api.specs.Needed.{Lacks, FindsNone}
use Rattle.grep_args.specs.declared.plan.GrepPlan.{GrepPlan}
use Rattle.grep_match.specs.declared.patterns.Kept.{Kept}
use Rattle.grep_match.specs.Compiled.{pattern_in, meant}
use Rattle.grep_match.specs.Matches.{first_answer, limits}
use Rattle.grep_match.specs.declared.unsearched.Needed.{Needed}
use Rattle.grep_match.specs.Needed.{IsWithout, NoneAnswers, AreNeeded}
use Rattle.grep_match.proofs.Searching.{line_none}

pub or_true : (b : Bool) → (b || true) ≡ true
or_true true = refl
or_true false = refl

-- what two texts have together
module _ (all some more : List (List Bool)) (joined : AreUnions all some more) where
  lacks-some : (line : List ℕ) → Lacks all line → Lacks some line
  lacks-some line h = record {
    small = h.small;
    missing = λ k stands. h.missing k (stands_left all some more joined line k stands);
  }

  lacks-more : (line : List ℕ) → Lacks all line → Lacks more line
  lacks-more line h = record {
    small = h.small;
    missing = λ k stands. h.missing k (stands_right all some more joined line k stands);
  }

-- the first i patterns find nothing in a line that is without what is needed
abbrev pub FirstFindNone : Options → MatchOptions → List Kept → Needed → ℕ → Type 0
FirstFindNone options matching codes needed i =
    (line : List ℕ) → IsWithout needed line → first_answer matching line 0 (meant options (drop i codes)) ≡ first_answer
    matching line 0 (meant options codes)

pub one_none : (matching : MatchOptions) (line : List ℕ) (p : Pattern) (ps : List Pattern)
    → pattern_answer matching line 0 p ≡ none
    → first_answer matching line 0 (p ∷ ps) ≡ first_answer matching line 0 ps
one_none matching line p ps e = rw (e, first_answer) refl

pub next_none : (options : Options) (matching : MatchOptions) (codes : List Kept) (i : ℕ) (kept : Kept)
    (code : CodeParts) (all some : Needed) (more : List (List Bool))
    → i < length codes → kept ≡ get_or codes i kept → pattern_in options kept ≡ pattern_of code.tree
    → FindsNone code matching all.most more
    → AreUnions (sets_of all.text) (sets_of some.text) more → some.most ≡ all.most
    → all.utf ≡ (some.utf || code.tree.options.utf)
    → FirstFindNone options matching codes some i → FirstFindNone options matching codes all (i + 1)
next_none options matching codes i kept code all some more within is same finds joined most utf first line without =
    let checked = subst (λ b. IsChecked b line) utf without.checked in
    let here =
    finds line (λ _. pos 0) without.short (lacks-more (sets_of all.text) (sets_of some.text) more joined line
    without.lacks) (λ on. checked (rw (on, or_true some.utf) refl)) in
    let before : IsWithout some line = record {
      short = subst (λ n. length line ≤ n) (sym most) without.short;
      lacks = lacks-some (sets_of all.text) (sets_of some.text) more joined line without.lacks;
      checked = λ on. checked (rw on refl);
    } in
    let cut : drop i codes ≡ kept ∷ drop (i + 1) codes =
    drop-cons codes i kept within ∙ ap (λ x. x ∷ drop (suc i) codes) (sym is)
    ∙ ap (λ n. kept ∷ drop n codes) {x = suc i} {y = i + 1} (omega arith) in
    sym (ap (λ l. first_answer matching line 0 (meant options l)) cut
    ∙ one_none matching line (pattern_in options kept) (meant options (drop (i + 1) codes))
    (ap (pattern_answer matching line 0) same ∙ here))
    ∙ first line before

pub all_none : (options : Options) (matching : MatchOptions) (codes : List Kept) (i : ℕ) (needed : Needed)
    → length codes ≤ i
    → FirstFindNone options matching codes needed i → NoneAnswers matching (meant options codes) needed
all_none options matching codes i needed past first line without =
    sym (first line without) ∙ ap (λ l. first_answer matching line 0 (meant options l)) (drop_all i codes past)

-- no search of such a line finds anything
pub are_needed : (plan : GrepPlan) (matching : MatchOptions) (patterns : List Pattern) (needed : Needed)
    → matching ≡ limits plan
    → NoneAnswers matching patterns needed → AreNeeded plan patterns needed
are_needed plan matching patterns needed same finds line without =
    line_none plan patterns line (subst (λ m. first_answer m line 0 patterns ≡ none) same (finds line without))
