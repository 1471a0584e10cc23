-- Where a search can begin.
use Rattle.std.proofs.Common.{◌≡◌, ◌∙◌, ℕ, ◌<◌, ◌≤◌, Bool, true, false, ◌&&◌, not, if◌then◌else◌, List, length}
use Rattle.std.proofs.Common.{nat_lt, Option, Some, None, IfSome, refl, sym, ap, subst, inl, inr}
use Rattle.std.specs.Prelude.{slice_index}
use Rattle.std.specs.Str.{IsUtf8, is_utf8}
use Rattle.std.specs.Str.Lossy.{utf8_valid_len}
use Rattle.std.proofs.lemmas.Bool.{cases_Bool, le-ltb, ltb-false, le-leb}
use Rattle.std.proofs.lemmas.Str.{IsUtf8-from_is_utf8}
use Rattle.pat_tree.specs.declared.options.Options.{Options}
use Rattle.uni_text.specs.Characters.{IsChecked, IsPlace}
use Rattle.match_items.specs.Subjects.{IsText, IsTextPlace}
use Rattle.match_drive.specs.frame_board.Standing.{is_inside, stands_in, place_of}
use Rattle.pat_build.proofs.Checked.{is_checked}
use Rattle.pcre2_errors.specs.declared.error.MatchError.{MatchError}
use Rattle.pcre2_errors.specs.declared.error.MatchError.TheVariants as told
use Rattle.ordered_search.specs.Setting.{Setting}
use Rattle.pcre2_api.specs.Matched.{IsMatchError, fault_in}
use Rattle.pcre2_api.specs.Starts.{start_fault}

pub not-text : (bytes : List ℕ) → (IsUtf8 bytes → ⊥) → is_utf8 bytes ≡ false
not-text bytes refused = elim (cases_Bool (is_utf8 bytes)) [
  | inl on ↦ absurd (refused (IsUtf8-from_is_utf8 bytes on))
  | inr off ↦ off
]

-- the first of the tests that fails
abbrev first_fault : ℕ → Bool → Bool → Bool → Option MatchError
first_fault n past bad inside =
    if past then Some told.BadOffset else if bad then Some (told.BadUtf n) else if inside then Some told.BadUtfOffset
    else None

-- none of them fails
record IsNone (past bad inside : Bool) : Type 0 where
  here : past ≡ false
  good : bad ≡ false
  between : inside ≡ false

none-fails : (n : ℕ) (past bad inside : Bool) → first_fault n past bad inside ≡ None → IsNone past bad inside
none-fails n true bad inside e = absurd cc
none-fails n false true inside e = absurd cc
none-fails n false false true e = absurd cc
none-fails n false false false e = record { here = refl; good = refl; between = refl }

module _ (utf : Bool) (subject : List ℕ) (start : ℕ) where
  abbrev longest : ℕ
  longest = utf8_valid_len subject

  abbrev past : Bool
  past = nat_lt (length subject) start

  abbrev bad : Bool
  bad = utf && not (is_utf8 subject)

  abbrev inside : Bool
  inside = utf && is_inside (slice_index subject start)

  here : start ≤ length subject → past ≡ false
  here h = le-ltb (length subject) start h

  good : IsChecked utf subject → bad ≡ false
  good checked = elim (cases_Bool utf) [
    | inl on ↦ ap (λ b. b && not (is_utf8 subject)) on ∙ is_checked subject (checked on)
    | inr off ↦ ap (λ b. b && not (is_utf8 subject)) off
  ]

  pub bad-text : start ≤ length subject → utf ≡ true → is_utf8 subject ≡ false
      → start_fault utf subject start ≡ Some (told.BadUtf (utf8_valid_len subject))
  bad-text h on off =
      ap (λ b. first_fault longest b bad inside) (here h)
      ∙ ap (λ b. first_fault longest false b inside) (ap (λ b. b && not (is_utf8 subject)) on ∙ ap not off)

  pub not-utf8 : start ≤ length subject → utf ≡ true → (IsUtf8 subject → ⊥)
      → start_fault utf subject start ≡ Some (told.BadUtf (utf8_valid_len subject))
  not-utf8 h on refused =
      bad-text h on (not-text subject refused)

  by-place : start ≤ length subject → IsChecked utf subject
      → start_fault utf subject start ≡ (if inside then Some told.BadUtfOffset else None)
  by-place h checked = ap (λ b. first_fault longest b bad inside) (here h)
      ∙ ap (λ b. first_fault longest false b inside) (good checked)

  pub stands-inside : start ≤ length subject → IsChecked utf subject → inside ≡ true
      → start_fault utf subject start ≡ Some told.BadUtfOffset
  stands-inside h checked e = by-place h checked ∙ ap (λ (b : Bool). if b then Some told.BadUtfOffset else None) e

  pub stands : start ≤ length subject → IsChecked utf subject → inside ≡ false → start_fault utf subject start ≡ None
  stands h checked e = by-place h checked ∙ ap (λ (b : Bool). if b then Some told.BadUtfOffset else None) e

  module _ (begun : start_fault utf subject start ≡ None) where
    tests : IsNone past bad inside
    tests = none-fails longest past bad inside begun

    pub begun-within : start ≤ length subject
    begun-within = ltb-false (length subject) start tests.here

    pub begun-checked : IsChecked utf subject
    begun-checked on = IsUtf8-from_is_utf8 subject
        (by_test (is_utf8 subject) (ap (λ b. b && not (is_utf8 subject)) (sym on) ∙ tests.good))
      where
        by_test : (b : Bool) → not b ≡ false → b ≡ true
        by_test true e = refl
        by_test false e = cc

    begun-stands : stands_in utf subject start ≡ true
    begun-stands = ap (λ b. b && not inside) (le-leb start (length subject) begun-within) ∙ ap not tests.between

module _ (options : Options) (subject : List ℕ) (start : ℕ) (begun : start_fault options.utf subject start ≡ None) where
  pub begun-text : length subject < 4294967295 → IsText options subject
  begun-text short = record { short = short; checked = begun-checked options.utf subject start begun }

  pub begun-place : IsTextPlace options subject start
  begun-place = place_of options subject start (begun-stands options.utf subject start begun)

  pub begun-at : IsPlace options.utf subject start
  begun-at = (begun-place.within, begun-place.between)

-- What is told where a search can't begin.

abbrev pub IsStartFault : MatchError → Type 0
IsStartFault told.BadOffset = Unit {0}
IsStartFault (told.BadUtf at) = Unit {0}
IsStartFault told.BadUtfOffset = Unit {0}
IsStartFault _ = ⊥

faults-are : (n : ℕ) (past bad inside : Bool) → IfSome (first_fault n past bad inside) IsStartFault
faults-are n true _ _ = tt
faults-are n false true _ = tt
faults-are n false false true = tt
faults-are n false false false = tt

module _ (g : Setting) where
  pub only : (e : MatchError) → fault_in g ≡ Some e → IsStartFault e
  only e is = subst (λ f. IfSome f IsStartFault) is
      (faults-are (utf8_valid_len g.subject) (nat_lt (length g.subject) g.start)
      (g.options.utf && not (is_utf8 g.subject)) (g.options.utf && is_inside (slice_index g.subject g.start)))

  pub told-refused : (e : MatchError) → fault_in g ≡ Some e → IsMatchError g e
  told-refused told.BadOffset is = is
  told-refused (told.BadUtf at) is = is
  told-refused told.BadUtfOffset is = is
  told-refused (told.NoMatch mark) is = absurd (only (told.NoMatch mark) is)
  told-refused (told.Partial from to mark) is = absurd (only (told.Partial from to mark) is)
  told-refused told.MatchLimit is = absurd (only told.MatchLimit is)
  told-refused told.FrameLimit is = absurd (only told.FrameLimit is)
  told-refused told.RecurseLoop is = absurd (only told.RecurseLoop is)
  told-refused (told.Callout n) is = absurd (only (told.Callout n) is)
  told-refused told.Memory is = tt
