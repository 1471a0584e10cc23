-- Characters of ASCII in a run of `.`, many at once.
use Rattle.std.proofs.Common.{◌≡◌, ◌∙◌, ℕ, zero, suc, ◌+◌, ◌<◌, ◌≤◌, ◌==◌, Bool, true, false, List, Option, Some}
use Rattle.std.proofs.Common.{length, drop, get_or, refl, sym, ap, subst, arith, length-drop, drop-cons}
use Rattle.std.specs.Prelude.{IsTrue, slice_index}
use Rattle.std.specs.Char.{len_utf8}
use Rattle.std.specs.Str.{IsUtf8, IsCharBoundary}
use Rattle.std.proofs.lemmas.Bool.Decides.{nat_tests}
use Rattle.std.proofs.lemmas.Str.{char_from_byte, len_utf8_ascii}
use Rattle.byte_lanes.specs.Plain.{is_plain}
use Rattle.pat_tree.specs.declared.nodes.Item.{Item}
use Rattle.pat_tree.specs.declared.nodes.Item.TheVariants.{Char, AnyAll, NotNewline, Class}
use Rattle.pat_tree.specs.Newlines.{end_kind}
use Rattle.uni_text.specs.Characters.{first_char, char_at}
use Rattle.match_items.specs.Scene.{Scene}
use Rattle.match_items.specs.Subjects.{IsText, IsTextPlace}
use Rattle.match_items.specs.Items.{is_none_left, takes, after_item}
use Rattle.match_items.specs.Views.{step_tests, is_dot, IsPlainDot}
use Rattle.match_items.proofs.ItemRuns.{less}
use Rattle.match_items.proofs.Newlines.{newline_other}
use Rattle.match_items.proofs.TextGround.{text_forward, begun_with}
use Rattle.match_items.proofs.TextRuns.{IsAlong, along_next, taken_at}

-- a byte of ASCII is its character
ascii_char : (bytes : List ℕ) (p : ℕ) → IsUtf8 bytes → IsCharBoundary bytes p → p < length bytes
    → slice_index bytes p < 128
    → (slice_index bytes p, p + 1) ≡ char_at true bytes p
ascii_char bytes p u at inside low =
    let found = begun_with bytes p u at inside in
    let first : slice_index bytes p ≡ get_or (drop p bytes) 0 0 =
    ap (λ (xs : List ℕ). get_or xs 0 0) (sym (drop-cons bytes p 0 inside)) in
    let same : slice_index bytes p ≡ first_char (drop p bytes) =
    first ∙ sym (char_from_byte (drop p bytes) found.0 (first_char (drop p bytes)) found.1 (omega (arith, first, low))
    (omega (arith, inside, length-drop p bytes))) in
    ap (λ n. (slice_index bytes p, p + n)) (sym (len_utf8_ascii (slice_index bytes p) low))
    ∙ ap (λ c. (c, p + len_utf8 c)) same

low_byte : (b : ℕ) → is_plain b ≡ true → b < 128
low_byte b h = grind (arith, nat_tests)

past_controls : (b : ℕ) → is_plain b ≡ true → 13 < b
past_controls b h = grind (arith, nat_tests)

dot_takes : (g : Scene) (item : Item) (p c : ℕ) → IsPlainDot item g.subject p → takes g item p c ≡ true
dot_takes g (Char d caseless) p c h = absurd (let no : false ≡ true = h.0 in cc)
dot_takes g AnyAll p c h = refl
dot_takes g NotNewline p c h =
    ap (λ (n : ℕ). n == 0)
    (newline_other (end_kind g.options.newline g.options.utf) g.subject p
    (past_controls (slice_index g.subject p) h.1) (low_byte (slice_index g.subject p) h.1))
dot_takes g (Class n) p c h = absurd (let no : false ≡ true = h.0 in cc)

no_tests : (g : Scene) (item : Item) (p : ℕ) → is_dot item ≡ true → step_tests g item p ≡ 0
no_tests g (Char d caseless) p h = refl
no_tests g AnyAll p h = refl
no_tests g NotNewline p h = refl
no_tests g (Class n) p h = absurd (let no : false ≡ true = h in cc)

module _ (g : Scene) (item : Item) (utf : IsTrue g.options.utf) (t : IsText g.options g.subject) where
  after_plain : (p : ℕ) → IsTextPlace g.options g.subject p → p < length g.subject → IsPlainDot item g.subject p
      → after_item g item p ≡ Some (p + 1)
  after_plain p at inside plain =
      let here = ascii_char g.subject p (t.checked utf) (at.between utf) inside
      (low_byte (slice_index g.subject p) plain.1) in
      let stands : (slice_index g.subject p, p + 1) ≡ char_at g.options.utf g.subject p = here
      ∙ ap (λ (u : Bool). char_at u g.subject p) (sym utf) in
      taken_at g item p (slice_index g.subject p) (p + 1) inside stands
      (dot_takes g item p (slice_index g.subject p) plain)

  -- n of them further
  pub along_plain : (n : ℕ) (most : Option ℕ) (p k q tests k' q' : ℕ) → k' ≡ k + n → q' ≡ q + n
      → IsAlong g item most p k q tests
      → ((j : ℕ) → j < n → is_none_left (less most (k + j)) ≡ false) → IsTextPlace g.options g.subject q
      → q' ≤ length g.subject
      → ((j : ℕ) → q ≤ j → j < q' → IsPlainDot item g.subject j)
      → IsAlong g item most p k' q' tests × IsTextPlace g.options g.subject q'
  along_plain zero most p k q tests k' q' ek eq a left at within plain =
      let same_count : k ≡ k' = omega arith in
      let same_place : q ≡ q' = omega arith in (
        subst (λ m. IsAlong g item most p m q' tests) same_count
            (subst (λ r. IsAlong g item most p k r tests) same_place a),
        subst (IsTextPlace g.options g.subject) same_place at,
      )
  along_plain (suc n) most p k q tests k' q' ek eq a left at within plain =
      let before = along_plain n most p k q tests (k + n) (q + n) refl refl a (λ j l. left j (omega (arith, l))) at
      (omega (arith, eq, within)) (λ j low l. plain j low (omega (arith, eq, l))) in
      let inside : q + n < length g.subject = omega (arith, eq, within) in
      let here = plain (q + n) (omega arith) (omega (arith, eq)) in
      let e = after_plain (q + n) before.1 inside here in
      let forward = text_forward g t item (q + n) ((q + n) + 1) before.1 e in
      let more = along_next g item most p (k + n) (q + n) tests ((q + n) + 1) before.0 (left n (omega arith)) inside e
      forward.2 in
      let counted : (k + n) + 1 ≡ k' = omega (arith, ek) in
      let placed : (q + n) + 1 ≡ q' = omega (arith, eq) in
      let tested : tests + step_tests g item (q + n) ≡ tests = omega (arith, no_tests g item (q + n) here.0) in (
        subst (λ m. IsAlong g item most p m q' tests) counted
            (subst (λ r. IsAlong g item most p ((k + n) + 1) r tests) placed
            (subst (λ s. IsAlong g item most p ((k + n) + 1) ((q + n) + 1) s) tested more)),
        subst (IsTextPlace g.options g.subject) placed forward.1,
      )
