-- Shapes of items, of simple assertions and of any text.
use Rattle.std.proofs.Common.{◌≡◌, ◌≢◌, ◌∙◌, ℕ, zero, suc, ◌+◌, ◌-◌, ◌<◌, ◌≤◌, Bool, true, false, List, [], ◌∷◌}
use Rattle.std.proofs.Common.{◌++◌, length, drop, take-append-drop, get_or, Option, Some, None, ◌⊎◌, inl, inr, refl}
use Rattle.std.proofs.Common.{sym, ap, subst, arith}
use Rattle.std.specs.Prelude.{IsTrue, slice_get, slice_index, encode_utf8, ◌==◌}
use Rattle.std.specs.Char.{IsScalar, len_utf8}
use Rattle.std.proofs.lemmas.Str.{len_utf8_bounds}
use Rattle.std.proofs.Math.Utf8.{encode}
use Rattle.std.proofs.lemmas.Bool.{cases_Bool, cases_lt, lt-ltb, lt-leb, leb-false, and_parts, true≢false}
use Rattle.std.proofs.lemmas.Option.{none-some, slice_get-get_or, slice_get_past}
use Rattle.std.proofs.lemmas.List.{get_or-drop}
use Rattle.uni_text.specs.Characters.{char_at, first_char}
use Rattle.uni_text.specs.Ascii.{ascii_fold}
use Rattle.uni_text.specs.Folding.{fold}
use Rattle.match_items.specs.Views.{fold_in}
use Rattle.pat_tree.specs.declared.nodes.Item.{Item}
use Rattle.pat_tree.specs.declared.nodes.Item.TheVariants.{Char, AnyAll, NotNewline}
use Rattle.pat_tree.specs.declared.nodes.Item.TheVariants as item
use Rattle.pat_tree.specs.Parts.{TreeParts}
use Rattle.char_sets.specs.Sets.{class_has}
use Rattle.match_items.specs.Subjects.{IsTextPlace}
use Rattle.byte_lanes.specs.declared.line_end.EndKind.TheVariants as kinds
use Rattle.byte_lanes.specs.Newlines.{newline_len}
use Rattle.pat_tree.specs.declared.options.Newline.{Newline}
use Rattle.pat_tree.specs.declared.options.Newline.TheVariants.{Cr, Lf, CrLf, AnyCrLf, Any, Nul}
use Rattle.match_items.specs.Items.{is_end, takes, after_item, newline_at}
use Rattle.match_items.proofs.TextGround.{next_place}
use Rattle.ordered_search.specs.Setting.{Setting}
use Rattle.std.specs.Prelude.{IfOk, Result, Ok, Err}
use Rattle.std.proofs.lemmas.Bool.Decides.{nat_tests}
use Rattle.regex_class.specs.Ranges.{HasExactly, in_range, in_ranges}
use Rattle.regex_class.specs.declared.Class.{Class}
use Rattle.regex_hir.specs.Meaning.{meaning}
use Rattle.regex_hir.specs.declared.hir.Hir.{Hir}
use Rattle.regex_hir.specs.declared.hir.Hir.TheVariants.{Bytes, Chars}
use Rattle.regex_hir.proofs.MeaningLemmas.{meaning-Bytes, meaning-Chars}
use Rattle.pat_shape.proofs.Ranges.{in_last, in_more}
use Rattle.regex_hir.specs.Re.{Re, byte_in, char_in}
use Rattle.regex_hir.specs.Matches.{Matches}
use Rattle.regex_hir.proofs.TextLemmas.{char_at_from as kit_char_at}
use Rattle.pat_shape.specs.Looks.{SeesLines}
use Rattle.pat_shape.specs.Searches.{IsSearchOf}
use Rattle.pat_shape.specs.Exact.{IsExactItem}
use Rattle.pat_shape.specs.Plain.{is_plain_item}
use Rattle.pat_shape.specs.IsShape.{may_take, is_lf, dots_of, HoldsBytes, HoldsOnly, HoldsPast, IsItemShape}
use Rattle.pat_shape.specs.IsShape.{IsAnyText, AreRounds}
use Rattle.pat_shape.proofs.Anchors.{lf_at, kind_is}
use Rattle.pat_shape.proofs.Turns.{Turns, repeat_turns, repeat_sees}

lf_bytes : encode_utf8 10 ≡ 10 ∷ []
unfolding encode
lf_bytes = refl

some_same : (a b : ℕ) → Some a ≡ Some b → a ≡ b
some_same a b e = cc

stands_at : (hay : List ℕ) (p b : ℕ) → slice_get hay p ≡ Some b → (p < length hay) × (slice_index hay p ≡ b)
stands_at hay p b e = elim (cases_lt p (length hay)) [
  | inl inside ↦ (inside, some_same _ _ (sym (slice_get-get_or hay p 0 inside) ∙ e))
  | inr past ↦ absurd (none-some b (sym (slice_get_past hay p past) ∙ e))
]

module _ (parts : TreeParts) (lined : Bool) where
  module _ (g : Setting) (h : IsSearchOf parts lined g) where
    folds_so : true ≡ g.options.utf → (c : ℕ) → g.fold c ≡ fold c
    folds_so u c = ap (λ f. f c) (h.folds ∙ ap fold_in (sym u))

    -- what it takes it may take
    takes_may : (item : Item) (p b : ℕ) → takes g.scene item p b ≡ true
        → may_take parts.options.utf (class_has parts) item b ≡ true
    takes_may (Char c true) p b e = by_utf parts.options.utf (sym (ap (λ o. o.utf) h.options))
      where
        by_utf : (u : Bool) → u ≡ g.options.utf → may_take u (class_has parts) (Char c true) b ≡ true
        by_utf true u = let fc = folds_so u c in let fb = folds_so u b in rw (← u, fc, fb) at e
        by_utf false u = rw (← u) at e
    takes_may (Char c false) p b e = e
    takes_may AnyAll p b e = refl
    takes_may NotNewline p b e = refl
    takes_may (item.Class n) p b e = sym (h.classes n b) ∙ e

    -- the character at a place of the subject is no LF in a line
    none_lf : IsTrue lined → (p : ℕ) → p < length g.subject → slice_index g.subject p ≢ 10
    none_lf l p inside = h.no_lf l p inside

    module _ (item : Item) (rs : List (ℕ × ℕ)) (k : HoldsBytes parts lined item rs) where
      byte_shape : parts.options.utf ≡ false → (p q : ℕ) → after_item g.scene item p ≡ Some q
          → Matches g.subject (byte_in rs) p q
      byte_shape off p q e = by_end (is_end g.scene p) g.options.utf (ap (λ o. o.utf) h.options ∙ off) refl e
        where
          by_takes : (b : Bool) → p < length g.subject → takes g.scene item p (slice_index g.subject p) ≡ b
              → elim b as (λ _. Option ℕ) [ true ↦ Some (p + 1) | false ↦ None ] ≡ Some q
              → Matches g.subject (byte_in rs) p q
          by_takes true inside t e =
              let low = h.small p inside in (
                slice_index g.subject p,
                slice_get-get_or g.subject p 0 inside,
                k _ low (λ l. h.no_lf l p inside) (takes_may item p _ t),
                cc,
              )
          by_takes false inside t e = absurd cc

          by_end : (done u : Bool) → u ≡ false → is_end g.scene p ≡ done
              → elim (elim done as (λ _. Option (ℕ × ℕ)) [ true ↦ None | false ↦ Some (char_at u g.subject p) ])
              as (λ _. Option ℕ) [
                | None ↦ None
                | Some c ↦ elim (takes g.scene item p c.0) [ true ↦ Some c.1 | false ↦ None ]
              ] ≡ Some q → Matches g.subject (byte_in rs) p q
          by_end true u same at e = absurd cc
          by_end false true same at e = absurd cc
          by_end false false same at e = by_takes (takes g.scene item p (slice_index g.subject p))
              (leb-false (length g.subject) p at) refl e

      -- In UTF by characters, of which one below 128 is a byte.

      abbrev C : ℕ → ℕ
      C p = first_char (drop p g.subject)

      abbrev Rest : ℕ → List ℕ
      Rest p = drop ((p + len_utf8 (C p)) - p) (drop p g.subject)

      module _ (on : parts.options.utf ≡ true) (past : HoldsPast parts lined item rs) where
        utf_on : g.options.utf ≡ true
        utf_on = ap (λ o. o.utf) h.options ∙ on

        span_at : (p : ℕ) → IsTextPlace g.options g.subject p → p < length g.subject
            → IsScalar (C p) × (drop p g.subject ≡ encode_utf8 (C p) ++ Rest p)
        span_at p here inside =
            let span = (next_place true g.subject p (λ _. h.text.checked utf_on)
            (here.within, λ _. here.between utf_on) inside).1 in (
              span.scalar refl,
              sym (take-append-drop ((p + len_utf8 (C p)) - p) (drop p g.subject))
                  ∙ ap (λ (xs : List ℕ). xs ++ Rest p) span.stands,
            )

        -- an LF is a byte of its own
        no_lf_char : IsTrue lined → (p : ℕ) → p < length g.subject → drop p g.subject ≡ encode_utf8 (C p) ++ Rest p
            → C p ≢ 10
        no_lf_char l p inside split e =
            let zeroes : p ≡ p + 0 = omega arith in
            let bytes : drop p g.subject ≡ 10 ∷ Rest p = split ∙ ap (λ c. encode_utf8 c ++ Rest p) e
            ∙ ap (λ (xs : List ℕ). xs ++ Rest p) lf_bytes in
            h.no_lf l p inside (ap (λ k. get_or g.subject k 0) zeroes ∙ sym (get_or-drop p g.subject 0 0)
            ∙ ap (λ (xs : List ℕ). get_or xs 0 0) bytes)

        in_them : (p : ℕ) → IsTextPlace g.options g.subject p → p < length g.subject
            → takes g.scene item p (C p) ≡ true → in_ranges rs (C p) ≡ true
        in_them p here inside t = elim (cases_lt (C p) 256) [
          | inl low ↦ k (C p) low (λ l. no_lf_char l p inside (span_at p here inside).1) (takes_may item p (C p) t)
          | inr high ↦ past (C p) high (span_at p here inside).0
              (subst (λ u. may_take u (class_has parts) item (C p) ≡ true) on (takes_may item p (C p) t))
        ]

        char_shape : (p q : ℕ) → IsTextPlace g.options g.subject p → after_item g.scene item p ≡ Some q
            → Matches g.subject (char_in rs) p q
        char_shape p q here e = by_end (is_end g.scene p) g.options.utf utf_on refl e
          where
            by_takes : (b : Bool) → p < length g.subject → takes g.scene item p (C p) ≡ b
                → elim b as (λ _. Option ℕ) [ true ↦ Some (p + len_utf8 (C p)) | false ↦ None ] ≡ Some q
                → Matches g.subject (char_in rs) p q
            by_takes true inside t e =
                let s = span_at p here inside in
                (C p, kit_char_at g.subject p (C p) (Rest p) s.0 s.1, in_them p here inside t, cc)
            by_takes false inside t e = absurd cc

            by_end : (done u : Bool) → u ≡ true → is_end g.scene p ≡ done
                → elim (elim done as (λ _. Option (ℕ × ℕ)) [ true ↦ None | false ↦ Some (char_at u g.subject p) ])
                as (λ _. Option ℕ) [
                  | None ↦ None
                  | Some c ↦ elim (takes g.scene item p c.0) [ true ↦ Some c.1 | false ↦ None ]
                ] ≡ Some q → Matches g.subject (char_in rs) p q
            by_end true u same at e = absurd cc
            by_end false false same at e = absurd cc
            by_end false true same at e = by_takes (takes g.scene item p (C p)) (leb-false (length g.subject) p at)
                refl e

  -- What the kit takes the item takes.

  is_by_lf : (n : Newline) → is_lf n ≡ true → n ≡ Lf
  is_by_lf Lf e = refl
  is_by_lf Cr e = absurd cc
  is_by_lf CrLf e = absurd cc
  is_by_lf AnyCrLf e = absurd cc
  is_by_lf Any e = absurd cc
  is_by_lf Nul e = absurd cc

  module _ (g : Setting) (h : IsSearchOf parts lined g) where
    -- no newline stands in a line that ends by LF
    dots_take : dots_of parts lined ≡ true → (p : ℕ) → p < length g.subject → (newline_at g.scene p == 0) ≡ true
    dots_take dots p inside =
        let both = and_parts lined (is_lf parts.options.newline) dots in
        let kind = kind_is parts lined (is_by_lf parts.options.newline both.1) g h in
        subst (λ k. (newline_len k g.subject p == 0) ≡ true) (sym kind)
        (by_some (cases_lt 0 (newline_len kinds.Lf g.subject p)) both.0)
      where
        by_some : ((0 < newline_len kinds.Lf g.subject p) ⊎ (newline_len kinds.Lf g.subject p ≤ 0)) → lined ≡ true
            → (newline_len kinds.Lf g.subject p == 0) ≡ true
        by_some (inl some) on = absurd (h.no_lf on p inside (lf_at g.subject p (lt-ltb 0 _ some)).1)
        by_some (inr none) on = let zero_is : newline_len kinds.Lf g.subject p ≡ 0 = omega (arith, none) in
            rw zero_is refl

    may_takes : (item : Item) (p b : ℕ) → is_plain_item (dots_of parts lined) item ≡ true → parts.options.utf ≡ false
        → p < length g.subject
        → may_take parts.options.utf (class_has parts) item b ≡ true → takes g.scene item p b ≡ true
    may_takes (Char c true) p b plain off inside e =
        let u : g.options.utf ≡ false = ap (λ o. o.utf) h.options ∙ off in
        let e' : (ascii_fold c == ascii_fold b) ≡ true =
        subst (λ v. may_take v (class_has parts) (Char c true) b ≡ true) off e in
        rw u e'
    may_takes (Char c false) p b plain off inside e = e
    may_takes AnyAll p b plain off inside e = refl
    may_takes NotNewline p b plain off inside e = dots_take plain p inside
    may_takes (item.Class n) p b plain off inside e = h.classes n b ∙ e

  -- the place after the item, by whether the subject ends there
  abbrev char_told : Setting → Item → ℕ → Bool → Bool → Option ℕ
  char_told g item p done u =
      elim (elim done as (λ _. Option (ℕ × ℕ)) [ true ↦ None | false ↦ Some (char_at u g.subject p) ])
      as (λ _. Option ℕ) [
        | None ↦ None
        | Some c ↦ elim (takes g.scene item p c.0) [ true ↦ Some c.1 | false ↦ None ]
      ]

  byte_exact : (item : Item) (rs : List (ℕ × ℕ)) → HoldsOnly parts lined item rs → parts.options.utf ≡ false
      → is_plain_item (dots_of parts lined) item ≡ true → IsExactItem parts lined item (byte_in rs)
  byte_exact item rs only off plain g h p q here m =
      let b = m.0 in
      let at = stands_at g.subject p b m.1 in
      let inside = at.0 in
      let is = at.1 in
      let low : b < 256 = subst (λ n. n < 256) is (h.small p inside) in
      let utf : g.options.utf ≡ false = ap (λ o. o.utf) h.options ∙ off in
      let taken : takes g.scene item p (slice_index g.subject p) ≡ true =
      subst (λ n. takes g.scene item p n ≡ true) (sym is)
      (may_takes g h item p b plain off inside (only b low m.2).0) in
      ap (λ (d : Bool). char_told g item p d g.options.utf) (lt-leb (length g.subject) p inside)
      ∙ ap (λ (u : Bool). char_told g item p false u) utf
      ∙ ap (λ (b : Bool). elim b as (λ _. Option ℕ) [ true ↦ Some (p + 1) | false ↦ None ]) taken ∙ ap Some (sym m.3)

  byte_no_lf : (item : Item) (rs : List (ℕ × ℕ)) → HoldsOnly parts lined item rs → IsTrue lined
      → in_ranges rs 10 ≡ false
  byte_no_lf item rs only on = elim (cases_Bool (in_ranges rs 10)) [
    | inl has ↦ absurd ((only 10 (omega arith) has).1 on refl)
    | inr none ↦ none
  ]

  pub byte_item : (item : Item) (rs : List (ℕ × ℕ)) → HoldsBytes parts lined item rs → HoldsOnly parts lined item rs
      → parts.options.utf ≡ false → IsItemShape parts lined item (byte_in rs)
  byte_item item rs k only off = record {
    sees = tt;
    wider = λ g h p q here e. byte_shape g h item rs k off p q e;
    solid = λ hay i j m. let e = m.3 in omega (arith, e);
    exact = λ off plain. byte_exact item rs only off plain;
    no_lf = λ off on. byte_no_lf item rs only on;
  }

  pub char_item : (item : Item) (rs : List (ℕ × ℕ)) → HoldsBytes parts lined item rs → HoldsPast parts lined item rs
      → parts.options.utf ≡ true → IsItemShape parts lined item (char_in rs)
  char_item item rs k past on = record {
    sees = tt;
    wider = λ g h p q here e. char_shape g h item rs k on past p q here e;
    solid = λ hay i j m. let e = m.3 in let some = len_utf8_bounds m.0 in omega (arith, e, some.0);
    exact = λ off plain. absurd (true≢false (sym on ∙ off));
    no_lf = λ off in_line. absurd (true≢false (sym on ∙ off));
  }

  -- Any text.

  -- the ranges hold every byte, in a line but the LF
  abbrev pub HoldsAll : List (ℕ × ℕ) → Type 0
  HoldsAll rs = (b : ℕ) → b < 256 → (IsTrue lined → b ≢ 10) → in_ranges rs b ≡ true

  module _ (rs : List (ℕ × ℕ)) (k : HoldsAll rs) (g : Setting) (h : IsSearchOf parts lined g) where
    bytes_on : (n p q : ℕ) → p + n ≡ q → q ≤ length g.subject → Turns (Matches g.subject (byte_in rs)) n p q
    bytes_on zero p q e low = let same : q ≡ p = omega (arith, e) in same
    bytes_on (suc n) p q e low =
        let inside : p < length g.subject = omega (arith, e, low) in (
          p + 1,
          (
            slice_index g.subject p,
            slice_get-get_or g.subject p 0 inside,
            k _ (h.small p inside) (λ l. h.no_lf l p inside),
            refl,
          ),
          bytes_on n (p + 1) q (omega (arith, e)) low,
        )

  pub all_text : (rs : List (ℕ × ℕ)) (re : Re) → HoldsAll rs → AreRounds 0 None (byte_in rs) re
      → IsAnyText parts lined re
  all_text rs re k r = (
    subst SeesLines (sym r.1.1.0) (repeat_sees r.0 r.1.0 (byte_in rs) tt),
    λ g h p q le low.
        let least = r.1.1.1.0 in
        subst (λ e. Matches g.subject e p q) (sym r.1.1.0)
        (repeat_turns g.subject (byte_in rs) r.0 r.1.0 (q - p) (omega (arith, least)) (r.1.1.1.1 (q - p) tt) p q
        (bytes_on rs k g h (q - p) p q (omega (arith, le)) low)),
  )

  -- By what a class is made of.

  exactly : (class : Class) (rs : List (ℕ × ℕ)) → HasExactly class.ranges.items (in_ranges rs) → (c : ℕ) → c ≤ 1114111
      → in_ranges rs c ≡ true → in_ranges class.ranges.items c ≡ true
  exactly class rs same c low h = same c low ∙ h

  low_enough : (c : ℕ) → IsScalar c → c ≤ 1114111
  low_enough c scalar = grind (arith, nat_tests)

  pub bytes_told : (item : Item) (class : Class) (rs : List (ℕ × ℕ)) → HasExactly class.ranges.items (in_ranges rs)
      → HoldsBytes parts lined item rs → HoldsOnly parts lined item rs
      → parts.options.utf ≡ false → IsItemShape parts lined item (meaning (Bytes class))
  bytes_told item class rs same holds only off =
      subst (IsItemShape parts lined item) (sym (meaning-Bytes class))
      (byte_item item class.ranges.items (λ b low lf may. exactly class rs same b (omega (arith, low))
      (holds b low lf may))
      (λ b low in'. only b low (sym (same b (omega (arith, low))) ∙ in')) off)

  pub chars_told : (item : Item) (class : Class) (rs base : List (ℕ × ℕ)) (r : ℕ × ℕ)
      → HasExactly class.ranges.items (in_ranges rs) → rs ≡ base ++ r ∷ []
      → HoldsBytes parts lined item base
      → ((c : ℕ) → 256 ≤ c → IsScalar c → may_take true (class_has parts) item c ≡ true → in_range r c ≡ true)
      → parts.options.utf ≡ true → IsItemShape parts lined item (meaning (Chars class))
  chars_told item class rs base r same made holds past on =
      subst (IsItemShape parts lined item) (sym (meaning-Chars class))
      (char_item item class.ranges.items
      (λ b low lf may. exactly class rs same b (omega (arith, low))
      (subst (λ l. in_ranges l b ≡ true) (sym made) (in_more base r b (holds b low lf may))))
      (λ c high scalar may. exactly class rs same c (low_enough c scalar)
      (subst (λ l. in_ranges l c ≡ true) (sym made) (in_last base r c (past c high scalar may))))
      on)

  pub any_told : {E : Type 0} (class : Class) (rs : List (ℕ × ℕ)) (r : Result Hir E)
      → HasExactly class.ranges.items (in_ranges rs) → HoldsBytes parts lined AnyAll rs
      → IfOk r (λ hir. AreRounds 0 None (meaning (Bytes class)) (meaning hir))
      → IfOk r (λ hir. IsAnyText parts lined (meaning hir))
  any_told class rs (Err e) same holds h = tt
  any_told class rs (Ok hir) same holds h =
      all_text class.ranges.items (meaning hir)
      (λ b low lf. exactly class rs same b (omega (arith, low)) (holds b low lf refl))
      (subst (λ a. AreRounds 0 None a (meaning hir)) (meaning-Bytes class) h)
