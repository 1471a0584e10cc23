-- Where no text stands that every match of a compiled pattern needs, nothing is found.
use mathlib.Core.Path.{fun_ext}
use Rattle.std.proofs.Common.{◌≡◌, ◌∙◌, ℕ, ◌+◌, ◌<◌, ◌≤◌, Bool, true, false, List, ◌∷◌, length, None, inl, inr, refl}
use Rattle.std.proofs.Common.{sym, ap, subst, arith}
use Rattle.std.specs.Prelude.{slice_get, slice_index}
use Rattle.std.specs.Str.{IsCharBoundary}
use Rattle.std.proofs.Math.Nat.{pow-le-pow_left, mul-le-mul_left}
use Rattle.std.proofs.lemmas.Bool.{cases_Bool, cases_lt, lt-leb, le-leb, le-ltb}
use Rattle.std.proofs.lemmas.List.{get_or_past}
use Rattle.std.proofs.lemmas.Str.{IsCharBoundary-start}
use Rattle.uni_text.specs.Characters.{IsChecked}
use Rattle.pat_needs.specs.Texts.{sets_of, behind_of}
use Rattle.pat_needs.specs.declared.text.ByteText.{ByteText}
use Rattle.pat_tree.specs.declared.options.MatchOptions.{MatchOptions}
use Rattle.pat_tree.specs.declared.options.PartialMode.TheVariants.{Off}
use Rattle.pat_tree.specs.Parts.{TreeParts, tree_of}
use Rattle.char_sets.specs.Sets.{class_has}
use Rattle.match_drive.specs.frame_board.Standing.{is_inside}
use Rattle.pat_bounds.specs.Bounds.{at}
use Rattle.pat_needs.specs.Needs.{may_take, Needs}
use Rattle.pat_needs.specs.Lacking.{IsBoundWithout}
use Rattle.pat_needs.specs.NeedTables.{IsNeedOf}
use Rattle.pat_bounds.specs.declared.bounds.Growth.{Growth}
use Rattle.pat_needs.specs.declared.needs.Need.{Need}
use Rattle.ordered_search.specs.Setting.{lower_of, class_holds}
use Rattle.ordered_search.proofs.Classes.{class_is}
use Rattle.match_drive.proofs.search_needs.Needed.{need_law}
use Rattle.pcre2_api.specs.Answers.{answer_of}
use Rattle.pcre2_api.specs.Compiled.{CodeParts}
use Rattle.pcre2_api.specs.Matched.{search_of}
use Rattle.pcre2_api.proofs.Searched.{begun}
use Rattle.pcre2_api.proofs.Starting.{stands}
use Rattle.pcre2_api.specs.Needed.{FindsNone}
use Rattle.pcre2_api.specs.Starts.{start_fault}

pub class_told : (tree : TreeParts)
    → class_has tree ≡ (λ n c. class_holds tree.options.utf (slice_get tree.classes n) c)
class_told tree = fun_ext (λ n. fun_ext (λ c. class_is tree n c))

-- the sets of a text are those of its like
pub same_text : (one other : ByteText) → other.first ≡ one.first → other.second ≡ one.second → other.third ≡ one.third
    → sets_of one ≡ sets_of other
same_text one other first second third = λ i. sym first i ∷ behind_of (sym second i) (sym third i)

-- a shorter subject costs no more
at_most : (a : Growth) (n m : ℕ) → n ≤ m → at a n ≤ at a m
at_most a n m le = mul-le-mul_left a.times (pow-le-pow_left le a.degree)

-- A search begins at the subject's start, where in UTF the subject is UTF-8.

outside : (subject : List ℕ) → IsCharBoundary subject 0 → is_inside (slice_index subject 0) ≡ false
outside subject between = elim (cases_lt (slice_index subject 0) 128) [
  | inl low ↦ rw (lt-leb 128 (slice_index subject 0) low) refl
  | inr high ↦ elim (cases_lt 0 (length subject)) [
    | inl some ↦
        rw (
          le-leb 128 (slice_index subject 0) (omega (arith, high)),
          le-ltb (slice_index subject 0) 192 (between.1 some (omega (arith, high))),
        ) refl
    | inr none ↦ let past : slice_index subject 0 ≡ 0 = get_or_past subject 0 0 (omega (arith, none)) in
        absurd (omega (arith, high, past))
  ]
]

pub begins : (utf : Bool) (subject : List ℕ) → IsChecked utf subject → start_fault utf subject 0 ≡ None
begins utf subject checked = elim (cases_Bool utf) [
  | inl on ↦ stands utf subject 0 (omega arith) checked
      (rw (on, outside subject (IsCharBoundary-start subject (checked on))) refl)
  | inr off ↦ stands utf subject 0 (omega arith) checked (rw off refl)
]

pub finds_none : (code : CodeParts) (matching : MatchOptions) (most : ℕ) (need : Need) → IsNeedOf code.tree need
    → matching.«partial» ≡ Off
    → at need.lacking.steps (most + 1) ≤ lower_of code.tree.options.match_limit matching.match_limit
    → at need.lacking.units (most + 1) ≤ matching.frame_limit → most < 4294967295
    → FindsNone code matching most (sets_of need.text)
finds_none code matching most need is off steps units few subject answers short lacks checked =
    let utf = code.tree.options.utf in
    let less = at_most need.lacking.steps (length subject + 1) (most + 1) (omega (arith, short)) in
    let fewer = at_most need.lacking.units (length subject + 1) (most + 1) (omega (arith, short)) in
    let g = search_of code matching subject 0 answers in
    begun g (begins utf subject checked) ∙ ap (λ f. answer_of f.answer)
    (need_law g (sets_of need.text) need.lacking (record {
      needs = subst (λ (has : ℕ → ℕ → Bool). Needs (may_take utf has) utf true (sets_of need.text)
          (tree_of code.tree)) (class_told code.tree) is.text;
      small = lacks.small;
      missing = lacks.missing;
      bounded = subst (λ (has : ℕ → ℕ → Bool). IsBoundWithout (may_take utf has) utf has (sets_of need.text)
          (tree_of code.tree) need.lacking) (class_told code.tree) is.lacking;
      folds = refl;
      steps = omega (arith, less, steps);
      units = omega (arith, fewer, units);
      text = λ on. record { short = omega (arith, short, few); checked = checked };
      begun = λ on. record { within = omega arith; between = λ utf_on. IsCharBoundary-start subject (checked utf_on) };
      off = off;
    }))
