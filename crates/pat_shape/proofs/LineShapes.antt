-- Where the shape of a pattern isn't found in a line, a search of it finds no match.
use mathlib.Core.Path.{fun_ext}
use Rattle.std.proofs.Common.{◌≡◌, ◌∙◌, ℕ, ◌+◌, ◌≤◌, ◌||◌, Bool, true, false, length, Option, Some, None, refl, sym}
use Rattle.std.proofs.Common.{ap, subst, arith}
use Rattle.std.specs.Prelude.{IfOk, IfSome, Result, Ok, Err}
use Rattle.std.proofs.Math.Nat.{pow-le-pow_left, mul-le-mul_left}
use Rattle.std.proofs.lemmas.Bool.{true≢false}
use Rattle.byte_lanes.specs.Newlines.{has_crlf}
use Rattle.pat_tree.specs.Newlines.{end_kind}
use Rattle.pat_tree.specs.declared.options.Newline.{Newline}
use Rattle.pat_tree.specs.declared.options.Options.{Options}
use Rattle.pat_tree.specs.declared.options.MatchOptions.{MatchOptions}
use Rattle.pat_tree.specs.declared.options.PartialMode.TheVariants.{Off}
use Rattle.pat_tree.specs.Nested.{Nested}
use Rattle.pat_tree.specs.Parts.{TreeParts, tree_of}
use Rattle.char_sets.specs.Sets.{class_has}
use Rattle.pat_bounds.specs.declared.bounds.Bound.{Bound}
use Rattle.pat_bounds.specs.declared.bounds.Growth.{Growth}
use Rattle.pat_bounds.specs.Bounds.{at, bound}
use Rattle.ordered_search.specs.Setting.{Setting, lower_of, match_limit}
use Rattle.ordered_search.specs.Run.{run}
use Rattle.search_starts.specs.StartLaw.{IsUnverbed, IsRegular}
use Rattle.regex_hir.specs.Re.{Re}
use Rattle.regex_hir.specs.Matches.{Matches}
use Rattle.regex_hir.specs.Meaning.{meaning}
use Rattle.pat_shape.specs.declared.lines.LineShape.{LineShape}
use Rattle.pat_shape.specs.Wide.{Only}
use Rattle.pat_shape.specs.Exact.{Full, IsExactSearch}
use Rattle.pat_shape.specs.IsShape.{IsShape, dots_of}
use Rattle.pat_shape.specs.Lines.{IsLineSearch, IsLineShape, IsExactLineShape, IsPlainUnder}
use Rattle.pat_shape.proofs.NoMatch.{none_at_all}
use Rattle.pat_shape.proofs.FoundExact.{found_law}
use Rattle.pat_shape.proofs.PlainNodes.{plain_unverbed, plain_regular}

-- a shorter subject costs no more
at_most : (a : Growth) (n m : ℕ) → n ≤ m → at a n ≤ at a m
at_most a n m le = mul-le-mul_left a.times (pow-le-pow_left le a.degree)

module _ (tree : TreeParts) (matching : MatchOptions) (most : ℕ) (b : Bound)
    (bounded : bound (class_has tree) (tree_of tree) ≡ Some b)
    (steps : at b.steps (most + 1) ≤ lower_of tree.options.match_limit matching.match_limit)
    (units : at b.units (most + 1) ≤ matching.frame_limit)
    (off : matching.«partial» ≡ Off) where
  module _ (g : Setting) (l : IsLineSearch tree matching most g) where
    is_bounded : bound g.class_has g.whole ≡ Some b
    is_bounded =
        let has : g.class_has ≡ class_has tree = fun_ext (λ n. fun_ext (λ c. l.of.classes n c)) in
        ap (λ (t : Nested). bound g.class_has t) l.whole ∙ ap (λ (f : ℕ → ℕ → Bool). bound f (tree_of tree)) has
        ∙ bounded

    has_steps : at b.steps (length g.subject + 1) ≤ match_limit g
    has_steps =
        let short = l.short in
        let fewer = at_most b.steps (length g.subject + 1) (most + 1) (omega (arith, short)) in
        let limit : lower_of g.options.match_limit g.matching.match_limit ≡ lower_of tree.options.match_limit
        matching.match_limit =
        ap (λ (o : Options). lower_of o.match_limit g.matching.match_limit) l.of.options
        ∙ ap (λ (m : MatchOptions). lower_of tree.options.match_limit m.match_limit) l.matching_is in
        omega (arith, fewer, steps, limit)

    has_units : at b.units (length g.subject + 1) ≤ g.matching.frame_limit
    has_units =
        let short = l.short in
        let less = at_most b.units (length g.subject + 1) (most + 1) (omega (arith, short)) in
        let frames : g.matching.frame_limit ≡ matching.frame_limit =
        ap (λ (m : MatchOptions). m.frame_limit) l.matching_is in
        omega (arith, less, units, frames)

    is_off : g.matching.«partial» ≡ Off
    is_off = ap (λ (m : MatchOptions). m.«partial») l.matching_is ∙ off

  line_shape_is : (re : Re) → IsShape tree true (tree_of tree) re → IsLineShape tree matching most re
  line_shape_is re shape = (
    shape.0,
    λ g l none. none_at_all g re b (record {
      wide = λ d s on. subst (λ (t : Nested). Only (Matches g.subject re s.place) (run g d t s)) (sym l.whole)
          (shape.1 g l.of d s on);
      bounded = is_bounded g l;
      steps = has_steps g l;
      units = has_units g l;
      search = record { text = l.of.text; begun = l.begun };
      off = is_off g l;
    }) (λ p from to q. none p q to),
  )

  -- of a plain tree the line has a match where the expression matches
  exact_shape_is : (re : Re) → IsShape tree true (tree_of tree) re → IsPlainUnder tree matching
      → IsExactLineShape tree matching most re
  exact_shape_is re shape plain = (
    shape.2.no_lf plain.0.bytes refl plain.1,
    λ g l p q from le m. found_law g re b (exact_search g l) p q
        (record { within = le; between = λ on. absurd (true≢false (sym on ∙ is_bytes g l)) }) from m,
  )
    where
      is_bytes : (g : Setting) → IsLineSearch tree matching most g → g.options.utf ≡ false
      is_bytes g l = ap (λ (o : Options). o.utf) l.of.options ∙ plain.0.bytes

      -- an option that the pattern or the match may set
      either : (g : Setting) → IsLineSearch tree matching most g → (f : Options → Bool) (k : MatchOptions → Bool)
          → (f tree.options || k matching) ≡ false → (f g.options || k g.matching) ≡ false
      either g l f k e =
          ap (λ (o : Options). f o || k g.matching) l.of.options
          ∙ ap (λ (m : MatchOptions). f tree.options || k m) l.matching_is ∙ e

      exact_search : (g : Setting) → IsLineSearch tree matching most g → IsExactSearch g re b
      exact_search g l = record {
        exact = λ d s on. subst (λ (t : Nested). Full (Matches g.subject re s.place) (run g d t s)) (sym l.whole)
            (shape.2.exact plain.0.bytes plain.1 g l.of d s on);
        bounded = is_bounded g l;
        steps = has_steps g l;
        units = has_units g l;
        search = record {
          unverbed = subst IsUnverbed (sym l.whole) (plain_unverbed (dots_of tree true) (tree_of tree) plain.1);
          regular = subst IsRegular (sym l.whole) (plain_regular (dots_of tree true) (tree_of tree) plain.1);
          off = is_off g l;
          bytes = l.of.small;
          text = l.of.text;
          begun = l.begun;
        };
        bytes = is_bytes g l;
        by_lf = ap (λ (o : Options). has_crlf (end_kind o.newline o.utf)) l.of.options
            ∙ ap (λ (n : Newline). has_crlf (end_kind n tree.options.utf)) plain.0.by_lf;
        free = either g l (λ o. o.anchored) (λ m. m.anchored) plain.0.starts;
        further = ap (λ (o : Options). o.firstline) l.of.options ∙ plain.0.further;
        some = either g l (λ o. o.notempty) (λ m. m.notempty) plain.0.some;
        there = either g l (λ o. o.notempty_atstart) (λ m. m.notempty_atstart) plain.0.there;
        anywhere = either g l (λ o. o.endanchored) (λ m. m.endanchored) plain.0.ends;
      }

  module _ {E : Type 0} where
    pub lines_told : (r : Result (Option LineShape) E)
        → IfOk r (λ o. IfSome o (λ s. IsShape tree true (tree_of tree) (meaning s.hir)))
        → IfOk r (λ o. IfSome o (λ s. IsLineShape tree matching most (meaning s.hir)))
    lines_told (Err e) h = tt
    lines_told (Ok None) h = tt
    lines_told (Ok (Some s)) h = line_shape_is (meaning s.hir) h

    pub exact_told : (r : Result (Option LineShape) E)
        → IfOk r (λ o. IfSome o (λ s. IsShape tree true (tree_of tree) (meaning s.hir)))
        → IfOk r (λ o. IfSome o (λ s. s.is_exact ≡ true → IsPlainUnder tree matching))
        → IfOk r (λ o. IfSome o (λ s. s.is_exact ≡ true → IsExactLineShape tree matching most (meaning s.hir)))
    exact_told (Err e) h k = tt
    exact_told (Ok None) h k = tt
    exact_told (Ok (Some s)) h k = λ on. exact_shape_is (meaning s.hir) h (k on)
