-- Assertions in a line and in the text that holds it.
use Rattle.std.proofs.Common.{◌≡◌, ◌∙◌, ℕ, zero, suc, ◌+◌, ◌≤◌, Bool, true, ◌||◌, List, ◌++◌, length, length-append}
use Rattle.std.proofs.Common.{Option, Some, None, ◌⊎◌, inl, inr, refl, sym, ap, subst, arith}
use Rattle.std.specs.Prelude.{slice_get, is_some, not, ◌==◌}
use Rattle.std.proofs.lemmas.Bool.{cases_lt}
use Rattle.std.proofs.lemmas.Option.{slice_get_past, slice_get-get_or, slice_get_within, get_or_from_slice_get}
use Rattle.std.proofs.lemmas.List.{get_or-append-add}
use Rattle.std.proofs.Math.ListN.{get_or-append}
use Rattle.ucd_perl.specs.Perl.{is_word_byte}
use Rattle.regex_hir.specs.Text.{byte_before, is_some_and}
use Rattle.regex_hir.specs.Looks.{differ, holds, holds_between}
use Rattle.regex_hir.specs.declared.look.Look.{Look}
use Rattle.regex_hir.specs.declared.look.Look.TheVariants.{StartLf, EndLf, WordAscii, WordAsciiNegate}
use Rattle.regex_hir.proofs.TextLemmas.{byte_before-zero, byte_before-add-one}
use Rattle.pat_shape.specs.Looks.{IsLine, IsLineLook}

-- at an edge, or beside an LF
abbrev pub beside : Option ℕ → Bool
beside o = not (is_some o) || is_some_and o (λ b. b == 10)

-- beside a word's byte
abbrev pub word_beside : Option ℕ → Bool
word_beside o = is_some_and o is_word_byte

pub start_is : (hay : List ℕ) (i : ℕ) → holds StartLf hay i ≡ beside (byte_before hay i)
unfolding holds holds_between
start_is hay i = refl

pub end_is : (hay : List ℕ) (i : ℕ) → holds EndLf hay i ≡ beside (slice_get hay i)
unfolding holds holds_between
end_is hay i = refl

pub word_is : (hay : List ℕ) (i : ℕ) → holds WordAscii hay i ≡ differ (word_beside (byte_before hay i))
    (word_beside (slice_get hay i))
unfolding holds holds_between
word_is hay i = refl

pub not_word_is : (hay : List ℕ) (i : ℕ) → holds WordAsciiNegate hay i ≡ not
    (differ (word_beside (byte_before hay i)) (word_beside (slice_get hay i)))
unfolding holds holds_between
not_word_is hay i = refl

module _ (before line after : List ℕ) where
  abbrev held : List ℕ
  held = before ++ (line ++ after)

  pub byte_there : (i b : ℕ) → slice_get line i ≡ Some b → slice_get held (length before + i) ≡ Some b
  byte_there i b e =
      let inside = slice_get_within line i b e in
      let long = length-append before (line ++ after) in
      let long' = length-append line after in
      slice_get-get_or held (length before + i) 0 (omega (arith, inside, long, long'))
      ∙ ap Some (get_or-append-add before (line ++ after) i 0 ∙ get_or-append line after 0 i inside
      ∙ get_or_from_slice_get line i b 0 e)

module _ (before line after : List ℕ) (at : IsLine before line after) where
  abbrev text : List ℕ
  text = before ++ (line ++ after)

  -- a test that an edge and an LF pass alike
  module _ (f : Option ℕ → Bool) (same : f None ≡ f (Some 10)) where
    at_edge : (o : Option ℕ) → (o ≡ None) ⊎ (o ≡ Some 10) → f None ≡ f o
    at_edge o (inl e) = ap f (sym e)
    at_edge o (inr e) = same ∙ ap f (sym e)

    front_same : (i : ℕ) → i ≤ length line → f (byte_before line i) ≡ f (byte_before text (length before + i))
    front_same zero le =
        let place : length before ≡ length before + 0 = omega arith in
        ap f (byte_before-zero line) ∙ at_edge _ at.front ∙ ap (λ k. f (byte_before text k)) place
    front_same (suc i) le =
        let next : suc i ≡ i + 1 = omega arith in
        let there : length before + suc i ≡ length before + i + 1 = omega arith in
        let here = slice_get-get_or line i 0 (omega (arith, le)) in
        ap (λ k. f (byte_before line k)) next ∙ ap f (byte_before-add-one line i ∙ here)
        ∙ ap f (sym (ap (byte_before text) there ∙ byte_before-add-one text (length before + i)
        ∙ byte_there before line after i _ here))

    back_same : (i : ℕ) → i ≤ length line → f (slice_get line i) ≡ f (slice_get text (length before + i))
    back_same i le = elim (cases_lt i (length line)) [
      | inl inside ↦ let here = slice_get-get_or line i 0 inside in ap f here
          ∙ ap f (sym (byte_there before line after i _ here))
      | inr past ↦
          let same' : length line ≡ i = omega (arith, le, past) in
          ap f (slice_get_past line i past) ∙ subst (λ k. f None ≡ f (slice_get text (length before + k))) same'
          (at_edge _ at.back)
    ]

  words_same : (i : ℕ) → i ≤ length line → differ (word_beside (byte_before line i)) (word_beside (slice_get line i))
      ≡ differ (word_beside (byte_before text (length before + i))) (word_beside (slice_get text (length before + i)))
  words_same i le = rw (← front_same word_beside refl i le, ← back_same word_beside refl i le) refl

  pub look_there : (l : Look) → IsLineLook l → (i : ℕ) → i ≤ length line → holds l line i ≡ true
      → holds l text (length before + i) ≡ true
  look_there StartLf k i le h = start_is text _ ∙ sym (front_same beside refl i le) ∙ sym (start_is line i) ∙ h
  look_there EndLf k i le h = end_is text _ ∙ sym (back_same beside refl i le) ∙ sym (end_is line i) ∙ h
  look_there WordAscii k i le h = word_is text _ ∙ sym (words_same i le) ∙ sym (word_is line i) ∙ h
  look_there WordAsciiNegate k i le h = not_word_is text _ ∙ ap not (sym (words_same i le)) ∙ sym (not_word_is line i)
      ∙ h
  look_there _ k i le h = absurd k

  pub look_back : (l : Look) → IsLineLook l → (i : ℕ) → i ≤ length line → holds l text (length before + i) ≡ true
      → holds l line i ≡ true
  look_back StartLf k i le h = start_is line i ∙ front_same beside refl i le ∙ sym (start_is text _) ∙ h
  look_back EndLf k i le h = end_is line i ∙ back_same beside refl i le ∙ sym (end_is text _) ∙ h
  look_back WordAscii k i le h = word_is line i ∙ words_same i le ∙ sym (word_is text _) ∙ h
  look_back WordAsciiNegate k i le h = not_word_is line i ∙ ap not (words_same i le) ∙ sym (not_word_is text _) ∙ h
  look_back _ k i le h = absurd k
