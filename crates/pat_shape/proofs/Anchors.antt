-- Where a simple assertion holds the kit's holds that stands for it.
use Rattle.std.proofs.Common.{◌≡◌, ◌∙◌, ℕ, zero, suc, ◌+◌, ◌-◌, ◌<◌, ◌≤◌, Bool, true, false, ◌||◌, List, [], ◌∷◌}
use Rattle.std.proofs.Common.{length, Option, Some, None, ◌⊎◌, inl, inr, refl, sym, ap, subst, arith}
use Rattle.std.specs.Prelude.{if◌then◌else◌, max, nat_lt, nat_le, not, slice_get, slice_index, ◌==◌, ◌&&◌}
use Rattle.std.proofs.lemmas.Bool.{eqb-true, leb-true, leb-false, and_parts}
use Rattle.std.proofs.lemmas.Option.{slice_get_past, slice_get-get_or}
use Rattle.ucd_perl.specs.Perl.{is_word_byte}
use Rattle.byte_lanes.specs.declared.line_end.EndKind.TheVariants as kinds
use Rattle.byte_lanes.specs.Newlines.{newline_len, newline_before_len, stands, stands_before}
use Rattle.pat_tree.specs.declared.options.Newline.TheVariants as newline
use Rattle.pat_tree.specs.Newlines.{end_kind}
use Rattle.uni_text.specs.Ascii.{is_word_char}
use Rattle.pat_tree.specs.declared.nodes.AnchorKind.{AnchorKind}
use Rattle.pat_tree.specs.declared.nodes.AnchorKind.TheVariants.{Caret, Dollar, SubjectStart, SubjectEnd}
use Rattle.pat_tree.specs.declared.nodes.AnchorKind.TheVariants.{EndOrNewline, Word, NotWord}
use Rattle.pat_tree.specs.Parts.{TreeParts}
use Rattle.match_items.specs.Items as items
use Rattle.std.proofs.lemmas.Bool.Decides.{nat_tests}
use Rattle.uni_text.specs.Characters.{char_at, char_before}
use Rattle.ordered_search.specs.Setting.{Setting}
use Rattle.ordered_search.proofs.StartPlaces.{no_stand}
use Rattle.regex_hir.specs.Looks.{differ, holds}
use Rattle.regex_hir.specs.Text.{byte_before}
use Rattle.regex_hir.specs.declared.look.Look.{Look}
use Rattle.regex_hir.specs.declared.look.Look.TheVariants.{StartLf, EndLf, WordAscii, WordAsciiNegate}
use Rattle.regex_hir.specs.Re.{Re, empty, look}
use Rattle.regex_hir.proofs.TextLemmas.{byte_before-zero, byte_before-add-one}
use Rattle.pat_shape.specs.Searches.{IsSearchOf}
use Rattle.pat_shape.specs.IsShape.{IsAnchorShape}
use Rattle.pat_shape.proofs.Looks.{beside, word_beside, start_is, end_is, word_is, not_word_is}

begins : (hay : List ℕ) (p : ℕ) → p ≡ 0 → holds StartLf hay p ≡ true
begins hay p e = ap (λ k. holds StartLf hay k) e ∙ start_is hay 0 ∙ ap beside (byte_before-zero hay)

ends_there : (hay : List ℕ) (p : ℕ) → length hay ≤ p → holds EndLf hay p ≡ true
ends_there hay p past = end_is hay p ∙ ap beside (slice_get_past hay p past)

-- an LF stands there
pub lf_at : (hay : List ℕ) (p : ℕ) → nat_lt 0 (newline_len kinds.Lf hay p) ≡ true
    → (p < length hay) × (slice_index hay p ≡ 10)
lf_at hay p h = by_stand (stands (10 ∷ []) hay p) refl
  where
    by_stand : (b : Bool) → stands (10 ∷ []) hay p ≡ b → (p < length hay) × (slice_index hay p ≡ 10)
    by_stand true e = let there = no_stand 10 [] hay p e in (there.0, there.1)
    by_stand false e = absurd (cc (ap (λ b. nat_lt 0 (max (if b then 1 else 0) 0)) (sym e) ∙ h))

lf_before : (hay : List ℕ) (p : ℕ) → nat_lt 0 (newline_before_len kinds.Lf hay p) ≡ true
    → (q : ℕ) × ((p ≡ suc q) × ((q < length hay) × (slice_index hay q ≡ 10)))
lf_before hay p h = by_stand (stands_before (10 ∷ []) hay p) refl
  where
    by_stand : (b : Bool) → stands_before (10 ∷ []) hay p ≡ b
        → (q : ℕ) × ((p ≡ suc q) × ((q < length hay) × (slice_index hay q ≡ 10)))
    by_stand true e =
        let both = and_parts (nat_le 1 p) (stands (10 ∷ []) hay (p - 1)) e in
        let some = leb-true 1 p both.0 in
        let there = no_stand 10 [] hay (p - 1) both.1 in
        (p - 1, (omega (arith, some), (there.0, there.1)))
    by_stand false e = absurd (cc (ap (λ b. nat_lt 0 (max (if b then 1 else 0) 0)) (sym e) ∙ h))

ends_by_lf : (hay : List ℕ) (p : ℕ) → nat_lt 0 (newline_len kinds.Lf hay p) ≡ true → holds EndLf hay p ≡ true
ends_by_lf hay p h = let there = lf_at hay p h in end_is hay p
    ∙ ap beside (slice_get-get_or hay p 0 there.0 ∙ ap Some there.1)

begins_by_lf : (hay : List ℕ) (p : ℕ) → nat_lt 0 (newline_before_len kinds.Lf hay p) ≡ true → holds StartLf hay p ≡ true
begins_by_lf hay p h =
    let there = lf_before hay p h in
    let q = there.0 in
    let next : p ≡ q + 1 = let e = there.1.0 in omega (arith, e) in
    start_is hay p ∙ ap (λ k. beside (byte_before hay k)) next
    ∙ ap beside (byte_before-add-one hay q ∙ slice_get-get_or hay q 0 there.1.1.0 ∙ ap Some there.1.1.1)

module _ (parts : TreeParts) (lined : Bool) where
  abbrev Anchors : AnchorKind → Re → Type 0
  Anchors = IsAnchorShape parts lined

  pub anchor_empty : (kind : AnchorKind) → Anchors kind empty
  anchor_empty kind = (tt, λ g h p here e. refl)

  pub subject_start : Anchors SubjectStart (look StartLf)
  subject_start = (tt, λ g h p here e. (begins g.subject p (eqb-true p 0 e), refl))

  pub subject_end : Anchors SubjectEnd (look EndLf)
  subject_end = (tt, λ g h p here e. (ends_there g.subject p (leb-true (length g.subject) p e), refl))

  caret : Anchors (Caret false) (look StartLf)
  caret = (tt, λ g h p here e. (begins g.subject p (by_first g p (p == 0) refl e), refl))
    where
      by_first : (g : Setting) (p : ℕ) (b : Bool) → (p == 0) ≡ b
          → (elim b [ true ↦ not g.matching.notbol | false ↦ false ]) ≡ true → p ≡ 0
      by_first g p true e h = eqb-true p 0 e
      by_first g p false e h = absurd cc

  -- where lines end by LF alone
  module _ (by_lf : parts.options.newline ≡ newline.Lf) where
    pub kind_is : (g : Setting) → IsSearchOf parts lined g → end_kind g.options.newline g.options.utf ≡ kinds.Lf
    kind_is g h = ap (λ n. end_kind n g.options.utf) (ap (λ o. o.newline) h.options ∙ by_lf)

    at_lf : (g : Setting) → IsSearchOf parts lined g → (p : ℕ) → nat_lt 0 (items.newline_at g.scene p) ≡ true
        → holds EndLf g.subject p ≡ true
    at_lf g h p e = ends_by_lf g.subject p (subst (λ k. nat_lt 0 (newline_len k g.subject p) ≡ true) (kind_is g h) e)

    past_lf : (g : Setting) → IsSearchOf parts lined g → (p : ℕ) → nat_lt 0 (items.newline_before g.scene p) ≡ true
        → holds StartLf g.subject p ≡ true
    past_lf g h p e = begins_by_lf g.subject p
        (subst (λ k. nat_lt 0 (newline_before_len k g.subject p) ≡ true) (kind_is g h) e)

    close : (g : Setting) → IsSearchOf parts lined g → (p : ℕ) → items.is_close g.scene p ≡ true
        → holds EndLf g.subject p ≡ true
    close g h p e = by_end (items.is_end g.scene p) refl e
      where
        by_end : (b : Bool) → items.is_end g.scene p ≡ b
            → (b || nat_lt 0 (items.newline_at g.scene p) && (p + items.newline_at g.scene p == length g.subject))
            ≡ true → holds EndLf g.subject p ≡ true
        by_end true at e = ends_there g.subject p (leb-true (length g.subject) p at)
        by_end false at e = at_lf g h p (and_parts _ _ e).0

    end_or_newline : Anchors EndOrNewline (look EndLf)
    end_or_newline = (tt, λ g h p here e. (close g h p e, refl))

    dollar : (multi end_only : Bool) → Anchors (Dollar multi end_only) (look EndLf)
    dollar true end_only = (tt, λ g h p here e. (by_end g h p (items.is_end g.scene p) refl e, refl))
      where
        by_end : (g : Setting) → IsSearchOf parts lined g → (p : ℕ) (b : Bool) → items.is_end g.scene p ≡ b
            → (elim b [ true ↦ not g.matching.noteol | false ↦ nat_lt 0 (items.newline_at g.scene p) ]) ≡ true
            → holds EndLf g.subject p ≡ true
        by_end g h p true at e = ends_there g.subject p (leb-true (length g.subject) p at)
        by_end g h p false at e = at_lf g h p e
    dollar false true =
        (tt, λ g h p here e. (ends_there g.subject p (leb-true (length g.subject) p (and_parts _ _ e).0), refl))
    dollar false false = (tt, λ g h p here e. (close g h p (and_parts _ _ e).0, refl))

    multi_caret : Anchors (Caret true) (look StartLf)
    multi_caret = (tt, λ g h p here e. (by_first g h p (p == 0) refl e, refl))
      where
        by_first : (g : Setting) → IsSearchOf parts lined g → (p : ℕ) (b : Bool) → (p == 0) ≡ b
            → (elim b [
              | true ↦ not g.matching.notbol
              | false ↦
                  true && nat_lt 0 (items.newline_before g.scene p) && not (items.is_end g.scene p)
            ]) ≡ true
            → holds StartLf g.subject p ≡ true
        by_first g h p true at e = begins g.subject p (eqb-true p 0 at)
        by_first g h p false at e = past_lf g h p (and_parts _ _ e).0

  -- Word boundaries, outside UTF.

  differ_is : (a b : Bool) → (elim a as (λ _. Bool) [ true ↦ not b | false ↦ b ]) ≡ differ a b
  differ_is true b = refl
  differ_is false b = refl

  word_byte : (b : ℕ) → is_word_char b ≡ is_word_byte b
  word_byte b = grind (arith, nat_tests)

  module _ (off : parts.options.utf ≡ false) (g : Setting) (h : IsSearchOf parts lined g) where
    utf_off : g.options.utf ≡ false
    utf_off = ap (λ o. o.utf) h.options ∙ off

    before_is : (p : ℕ) → p ≤ length g.subject → items.is_word_at g.scene false
        (items.previous g.scene p) ≡ word_beside (byte_before g.subject p)
    before_is zero low = ap word_beside (sym (byte_before-zero g.subject))
    before_is (suc p) low =
        let next : suc p ≡ p + 1 = omega arith in
        let back : suc p - 1 ≡ p = omega arith in
        let byte = byte_before-add-one g.subject p ∙ slice_get-get_or g.subject p 0 (omega (arith, low)) in
        ap (λ u. is_word_char (char_before u g.subject (suc p)).0) utf_off
        ∙ ap (λ k. is_word_char (slice_index g.subject k)) back
        ∙ word_byte (slice_index g.subject p)
        ∙ sym (ap (λ k. word_beside (byte_before g.subject k)) next ∙ ap word_beside byte)

    after_is : (p : ℕ) → items.is_word_at g.scene false (items.next g.scene p) ≡ word_beside (slice_get g.subject p)
    after_is p = by_end (items.is_end g.scene p) refl
      where
        by_end : (b : Bool) → items.is_end g.scene p ≡ b
            → items.is_word_at g.scene false (elim b as (λ _. Option (ℕ × ℕ))
            [ true ↦ None | false ↦ Some (char_at g.options.utf g.subject p) ]) ≡ word_beside
            (slice_get g.subject p)
        by_end true at = ap word_beside (sym (slice_get_past g.subject p (leb-true (length g.subject) p at)))
        by_end false at =
            ap (λ u. is_word_char (char_at u g.subject p).0) utf_off ∙ word_byte (slice_index g.subject p)
            ∙ ap word_beside (sym (slice_get-get_or g.subject p 0 (leb-false (length g.subject) p at)))

    bounds : (p : ℕ) → p ≤ length g.subject → items.is_boundary g.scene false p ≡ differ
        (word_beside (byte_before g.subject p)) (word_beside (slice_get g.subject p))
    bounds p low =
        ap (λ a. elim a as (λ _. Bool) [
          | true ↦ not (items.is_word_at g.scene false (items.next g.scene p))
          | false ↦
              items.is_word_at g.scene false (items.next g.scene p)
        ]) (before_is p low)
        ∙ differ_is (word_beside (byte_before g.subject p)) (items.is_word_at g.scene false (items.next g.scene p))
        ∙ ap (λ b. differ (word_beside (byte_before g.subject p)) b) (after_is p)

  word : parts.options.utf ≡ false → Anchors (Word false) (look WordAscii)
  word off = (tt, λ g h p here e. (word_is g.subject p ∙ sym (bounds off g h p here.within) ∙ e, refl))

  not_word : parts.options.utf ≡ false → Anchors (NotWord false) (look WordAsciiNegate)
  not_word off = (tt, λ g h p here e. (not_word_is g.subject p ∙ ap not (sym (bounds off g h p here.within)) ∙ e, refl))

  -- By whether the kit's means it.

  abbrev If : Bool → Look → Re
  If means l = if means then look l else empty

  one_if : (kind : AnchorKind) (l : Look) (means : Bool) (re : Re) → re ≡ If means l
      → (means ≡ true → Anchors kind (look l)) → Anchors kind re
  one_if kind l true re e k = subst (Anchors kind) (sym e) (k refl)
  one_if kind l false re e k = subst (Anchors kind) (sym e) (anchor_empty kind)

  -- the same of a kind that is told to be so
  module _ (kind : AnchorKind) (means : Bool) (re : Re) where
    of_kind : (l : Look) (k : AnchorKind) → kind ≡ k → re ≡ If means l → (means ≡ true → Anchors k (look l))
        → Anchors kind re
    of_kind l k is e on = subst (λ n. Anchors n re) (sym is) (one_if k l means re e on)

    pub start_told : kind ≡ SubjectStart → re ≡ If means StartLf → Anchors kind re
    start_told is e = of_kind StartLf SubjectStart is e (λ on. subject_start)

    pub end_told : kind ≡ SubjectEnd → re ≡ If means EndLf → Anchors kind re
    end_told is e = of_kind EndLf SubjectEnd is e (λ on. subject_end)

    pub caret_told : (multi : Bool) → kind ≡ Caret multi
        → (means ≡ true → (multi ≡ false) ⊎ (parts.options.newline ≡ newline.Lf)) → re ≡ If means StartLf
        → Anchors kind re
    caret_told multi is so e = of_kind StartLf (Caret multi) is e (λ on. by_reason multi (so on))
      where
        by_reason : (multi : Bool) → (multi ≡ false) ⊎ (parts.options.newline ≡ newline.Lf)
            → Anchors (Caret multi) (look StartLf)
        by_reason false reason = caret
        by_reason true (inl e) = absurd cc
        by_reason true (inr by_lf) = multi_caret by_lf

    pub dollar_told : (multi end_only : Bool) → kind ≡ Dollar multi end_only
        → (means ≡ true → parts.options.newline ≡ newline.Lf) → re ≡ If means EndLf → Anchors kind re
    dollar_told multi end_only is so e = of_kind EndLf (Dollar multi end_only) is e
        (λ on. dollar (so on) multi end_only)

    pub close_told : kind ≡ EndOrNewline → (means ≡ true → parts.options.newline ≡ newline.Lf) → re ≡ If means EndLf
        → Anchors kind re
    close_told is so e = of_kind EndLf EndOrNewline is e (λ on. end_or_newline (so on))

    pub word_told : (ucp : Bool) → kind ≡ Word ucp → (means ≡ true → (ucp ≡ false) × (parts.options.utf ≡ false))
        → re ≡ If means WordAscii → Anchors kind re
    word_told ucp is so e = of_kind WordAscii (Word ucp) is e
        (λ on. subst (λ u. Anchors (Word u) (look WordAscii)) (sym (so on).0) (word (so on).1))

    pub not_word_told : (ucp : Bool) → kind ≡ NotWord ucp
        → (means ≡ true → (ucp ≡ false) × (parts.options.utf ≡ false)) → re ≡ If means WordAsciiNegate
        → Anchors kind re
    not_word_told ucp is so e = of_kind WordAsciiNegate (NotWord ucp) is e
        (λ on. subst (λ u. Anchors (NotWord u) (look WordAsciiNegate)) (sym (so on).0) (not_word (so on).1))

-- outside UTF, where it is told so
pub told_off : (a b : Bool) → a ≡ b → not a ≡ true → b ≡ false
told_off true b same e = absurd cc
told_off false b same e = sym same
