-- Where the shape of a compiled pattern matches nothing in a line, nothing is found.
use Rattle.std.proofs.Common.{◌≡◌, ◌≢◌, ◌∙◌, ℕ, ◌+◌, ◌-◌, ◌<◌, ◌≤◌, List, ◌++◌, length, true, Option, Some, None, refl}
use Rattle.std.proofs.Common.{sym, ap, subst, arith}
use Rattle.std.specs.Prelude.{ℤ, IfOk, IfSome, Result, Ok, Err, slice_index}
use Rattle.std.proofs.lemmas.Str.{IsCharBoundary-start}
use Rattle.uni_text.specs.Characters.{IsChecked}
use Rattle.pat_tree.specs.declared.options.MatchOptions.{MatchOptions}
use Rattle.pcre_io.specs.declared.callouts.Block.{Block}
use Rattle.ordered_search.proofs.Classes.{class_is}
use Rattle.regex_hir.specs.Re.{Re}
use Rattle.regex_hir.specs.Matches.{Matches}
use Rattle.regex_hir.specs.Meaning.{meaning}
use Rattle.pat_shape.specs.declared.lines.LineShape.{LineShape}
use Rattle.pat_shape.specs.Lines.{IsLineSearch, IsLineShape, IsExactLineShape}
use Rattle.pat_shape.proofs.Slices.{slice_law}
use Rattle.pat_shape.proofs.Inside.{inside_law}
use Rattle.ordered_search.specs.Setting.{Setting}
use Rattle.ordered_search.specs.PlaceAnswer.{Outcome}
use Rattle.ordered_search.specs.MatchAnswer.{Match, match_answer}
use Rattle.pcre2_api.specs.Answers.{answer_of, found, search_answer}
use Rattle.pcre2_api.specs.Compiled.{CodeParts}
use Rattle.pcre2_api.specs.Matched.{search_of}
use Rattle.pcre2_api.specs.Shapes.{MissesLines, FindsLines}
use Rattle.pcre2_api.proofs.Needing.{begins}
use Rattle.pcre2_api.proofs.Searched.{begun}

told : (g : Setting) (o : Outcome) → search_answer g ≡ answer_of (match_answer g).answer
    → (match_answer g).answer ≡ Match o → search_answer g ≡ found o
told g o begins is = begins ∙ ap answer_of is

module _ (code : CodeParts) (matching : MatchOptions) (most : ℕ) (few : most < 4294967295) where
  of_line : (line : List ℕ) (answers : Block → ℤ) → length line ≤ most
      → ((k : ℕ) → k < length line → slice_index line k < 256)
      → ((k : ℕ) → k < length line → slice_index line k ≢ 10) → IsChecked code.tree.options.utf line
      → IsLineSearch code.tree matching most (search_of code matching line 0 answers)
  of_line line answers short small no_lf checked = record {
    of = record {
      options = refl;
      text = record { short = omega (arith, short, few); checked = checked };
      small = small;
      no_lf = λ on k inside. no_lf k inside;
      classes = λ n c. sym (class_is code.tree n c);
      folds = refl;
    };
    whole = refl;
    matching_is = refl;
    short = short;
    begun = record { within = omega arith; between = λ utf_on. IsCharBoundary-start line (checked utf_on) };
  }

  misses_lines : (re : Re) → IsLineShape code.tree matching most re → MissesLines code matching most re
  misses_lines re shape before line after answers short small no_lf at checked none =
      let g = search_of code matching line 0 answers in
      begun g (begins code.tree.options.utf line checked)
      ∙ ap (λ f. answer_of f.answer) (shape.1 g (of_line line answers short small no_lf checked)
      (λ p q low m. none (length before + p) (length before + q) (omega arith) (omega (arith, low))
      (slice_law re shape.0 before line after at p q low m)))

  finds_lines : (re : Re) → IsExactLineShape code.tree matching most re → FindsLines code matching most re
  finds_lines re shape before line after answers short small no_lf at checked i j from to m =
      let g = search_of code matching line 0 answers in
      let place : i ≡ length before + (i - length before) = omega (arith, from) in
      let low : i - length before ≤ length line = omega (arith, from, to) in
      let inside = inside_law re shape.0 before line after at (i - length before) j low
      (subst (λ n. Matches (before ++ (line ++ after)) re n j) place m) in
      let f = shape.1 g (of_line line answers short small no_lf checked) (i - length before) inside.0 (omega arith) low
      inside.1 in
      (f.0, told g f.0 (begun g (begins code.tree.options.utf line checked)) f.1)

  module _ {E : Type 0} where
    pub all_miss : (r : Result (Option LineShape) E)
        → IfOk r (λ o. IfSome o (λ s. IsLineShape code.tree matching most (meaning s.hir)))
        → IfOk r (λ o. IfSome o (λ s. MissesLines code matching most (meaning s.hir)))
    all_miss (Err e) h = tt
    all_miss (Ok None) h = tt
    all_miss (Ok (Some s)) h = misses_lines (meaning s.hir) h

    pub all_find : (r : Result (Option LineShape) E)
        → IfOk r (λ o. IfSome o (λ s. s.is_exact ≡ true → IsExactLineShape code.tree matching most (meaning s.hir)))
        → IfOk r (λ o. IfSome o (λ s. s.is_exact ≡ true → FindsLines code matching most (meaning s.hir)))
    all_find (Err e) h = tt
    all_find (Ok None) h = tt
    all_find (Ok (Some s)) h = λ on. finds_lines (meaning s.hir) (h on)
