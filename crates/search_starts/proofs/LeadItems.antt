-- At a place whose byte no match begins with an item takes nothing, and neither does `\R`.
use Rattle.std.proofs.Common.{◌≡◌, ℕ, zero, suc, ◌+◌, ◌-◌, ◌<◌, ◌≤◌, Bool, true, false, List, [], ◌∷◌, ◌++◌, length}
use Rattle.std.proofs.Common.{drop, drop-cons, take-append-drop, get_or, Option, Some, None, ◌⊎◌, ⊎_elim, inl, inr}
use Rattle.std.proofs.Common.{length-drop, refl, sym, ap, subst, ◌∙◌, arith, nat_le, nat_lt, ◌==◌, ◌&&◌, ◌||◌}
use Rattle.std.proofs.Common.{if◌then◌else◌}
use Rattle.std.specs.Prelude.{IsTrue, slice_index, encode_utf8}
use Rattle.std.specs.Int.{is_in_range}
use Rattle.std.specs.Char.{IsScalar, len_utf8}
use Rattle.std.specs.List.{list_any}
use Rattle.std.proofs.Math.Utf8.{encode, scalar_cases}
use Rattle.std.proofs.lemmas.Bool.{eqb-true, eq-eqb, le-leb, leb-true, leb-false, lt-ltb, le-ltb, or_left, or_right}
use Rattle.std.proofs.lemmas.Bool.{or_parts, and_from, and_left, and_right}
use Rattle.std.proofs.lemmas.Str.{char_from_byte, length-encode, len_utf8_bounds}
use Rattle.byte_lanes.specs.declared.line_end.EndKind.{EndKind}
use Rattle.byte_lanes.specs.Newlines.{stands, longest, newline_texts, newline_len}
use Rattle.uni_text.specs.Characters.{first_char, char_at}
use Rattle.pat_tree.specs.declared.nodes.Item.{Item}
use Rattle.pat_tree.specs.declared.nodes.Item.TheVariants.{Char, AnyAll, NotNewline, Class}
use Rattle.pat_tree.specs.Newlines.{end_kind, break_kind}
use Rattle.ordered_search.specs.pat_check.Lead as lead
use Rattle.match_items.specs.Items.{is_end, takes, after_item, newline_at, after_break, run_places, is_none_left}
use Rattle.match_items.specs.Items.{one_less}
use Rattle.match_items.specs.Subjects.{IsText, IsTextPlace}
use Rattle.match_items.proofs.TextGround.{next_place as goes_to_place}
use Rattle.ordered_search.specs.Setting.{Setting}
use Rattle.ordered_search.proofs.StartPlaces.{no_stand}

-- A newline of one byte stands wherever the byte stands.

one_stands : (text bytes : List ℕ) (p : ℕ) → p < length bytes →
    stands text (slice_index bytes p ∷ []) 0 ≡ true → stands text bytes p ≡ true
unfolding stands
one_stands [] bytes p inside h = refl
one_stands (b ∷ []) bytes p inside h =
    let same : slice_index bytes p ≡ b = (no_stand b [] (slice_index bytes p ∷ []) 0 h).1 in
    and_from _ _ (lt-ltb p (length bytes) inside) (and_from _ true (eq-eqb (slice_index bytes p) b same) refl)
one_stands (b ∷ c ∷ text) bytes p inside h =
    let later = (no_stand b (c ∷ text) (slice_index bytes p ∷ []) 0 h).2 in
    absurd (omega (arith, (no_stand c text (slice_index bytes p ∷ []) 1 later).0))

abbrev size_if : Bool → List ℕ → ℕ
size_if b text = if b then length text else 0

size_more : (b c : Bool) (text : List ℕ) → (b ≡ true → c ≡ true) → size_if b text ≤ size_if c text
size_more true c text h = subst (λ d. size_if true text ≤ size_if d text) (sym (h refl)) (omega arith)
size_more false c text h = omega arith

one_longest : (texts : List (List ℕ)) (bytes : List ℕ) (p : ℕ) → p < length bytes →
    longest texts (slice_index bytes p ∷ []) 0 ≤ longest texts bytes p
one_longest [] bytes p inside = omega arith
one_longest (text ∷ texts) bytes p inside =
    let first = size_more (stands text (slice_index bytes p ∷ []) 0) (stands text bytes p) text
    (one_stands text bytes p inside) in
    let later = one_longest texts bytes p inside in
    omega (arith, first, later)

swapped : (a b : ℕ) → (a == b) ≡ false → (b == a) ≡ false
swapped a b h = by_test (b == a) refl
  where
    by_test : (c : Bool) → (b == a) ≡ c → c ≡ false
    by_test true e = absurd (cc (eq-eqb a b (sym (eqb-true b a e))))
    by_test false e = refl

module _ (g : Setting) where
  -- no match begins there by these bytes
  abbrev pub Out : ℕ → (ℕ → Bool) → Type 0
  Out p has = (is_end g.scene p ≡ true) ⊎ (has (slice_index g.subject p) ≡ false)

  abbrev newlines : EndKind
  newlines = end_kind g.options.newline g.options.utf

  abbrev breaks : EndKind
  breaks = break_kind g.options.bsr g.options.utf

  abbrev begins : ℕ → List ℕ → Bool
  begins b text = lead.begins_with g.options.utf newlines breaks g.class_has g.fold b text

  abbrev takes_byte : Item → ℕ → Bool
  takes_byte item b = lead.takes_byte g.options.utf newlines breaks g.class_has g.fold item b

  abbrev pub item_lead : Item → ℕ → Bool
  item_lead item b = lead.item_lead g.options.utf newlines breaks g.class_has g.fold item b

  abbrev pub break_lead : ℕ → Bool
  break_lead b = lead.break_lead g.options.utf newlines breaks g.class_has g.fold b

  -- `\R`: where no text begins with the byte, none stands

  no_text : (text : List ℕ) (p : ℕ) → Out p (λ b. begins b text) → size_if (stands text g.subject p) text ≡ 0
  unfolding stands
  no_text [] p out = refl
  no_text (c ∷ text) p (inl e) =
      ap (λ d. size_if (d && (slice_index g.subject p == c && stands text g.subject (p + 1))) (c ∷ text))
      (le-ltb p (length g.subject) (leb-true (length g.subject) p e))
  no_text (c ∷ text) p (inr e) =
      ap (λ d. size_if d (c ∷ text))
      (and_right (nat_lt p (length g.subject)) _
      (and_left (slice_index g.subject p == c) _ (swapped c (slice_index g.subject p) e)))

  abbrev any_begins : List (List ℕ) → ℕ → Bool
  any_begins texts b = list_any (begins b) texts

  of_first : (text : List ℕ) (texts : List (List ℕ)) (p : ℕ) → Out p (any_begins (text ∷ texts))
      → Out p (λ b. begins b text)
  of_first text texts p (inl e) = inl e
  of_first text texts p (inr e) = inr (or_parts (begins (slice_index g.subject p) text) _ e).0

  of_others : (text : List ℕ) (texts : List (List ℕ)) (p : ℕ) → Out p (any_begins (text ∷ texts))
      → Out p (any_begins texts)
  of_others text texts p (inl e) = inl e
  of_others text texts p (inr e) = inr (or_parts (begins (slice_index g.subject p) text) _ e).1

  none_longest : (texts : List (List ℕ)) (p : ℕ) → Out p (any_begins texts) → longest texts g.subject p ≡ 0
  none_longest [] p out = refl
  none_longest (text ∷ texts) p out =
      let first = no_text text p (of_first text texts p out) in
      let later = none_longest texts p (of_others text texts p out) in
      omega (arith, first, later)

  pub no_break : (p : ℕ) → Out p break_lead → after_break g.scene p ≡ None
  no_break p out =
      ap (λ n. elim (nat_lt 0 n) as (λ _. Option ℕ) [ true ↦ Some (p + n) | false ↦ None ])
      (none_longest (newline_texts breaks) p out)

  -- Items.

  byte_untaken : (item : Item) (p : ℕ) → p < length g.subject → takes_byte item (slice_index g.subject p) ≡ false →
      takes g.scene item p (slice_index g.subject p) ≡ false
  byte_untaken (Char c true) p inside out = out
  byte_untaken (Char c false) p inside out = out
  byte_untaken AnyAll p inside out = absurd (cc out)
  byte_untaken NotNewline p inside out = by_test (newline_at g.scene p == 0) refl
    where
      by_test : (c : Bool) → (newline_at g.scene p == 0) ≡ c → c ≡ false
      by_test true e =
          let none : newline_at g.scene p ≡ 0 = eqb-true (newline_at g.scene p) 0 e in
          let less = one_longest (newline_texts newlines) g.subject p inside in
          let one : newline_len newlines (slice_index g.subject p ∷ []) 0 ≡ 0 = omega (arith, none, less) in
          absurd cc
      by_test false e = refl
  byte_untaken (Class n) p inside out = out

  -- the character that it takes, where that is one
  by_character : (c b : ℕ) → (c ≡ b → ⊥) → (c == b) ≡ false
  by_character c b h = by_test (c == b) refl
    where
      by_test : (d : Bool) → (c == b) ≡ d → d ≡ false
      by_test true e = absurd (h (eqb-true c b e))
      by_test false e = refl

  abbrev encoded : ℕ → Bool → Bool → List ℕ
  encoded c e u = elim e [ true ↦ elim u [ true ↦ encode_utf8 c | false ↦ c ∷ [] ] | false ↦ [] ]

  abbrev is_encoded : ℕ → Bool → Bool
  is_encoded c u = elim u [ true ↦ nat_lt c 0xD800 || is_in_range 0xE000 0x10_FFFF c | false ↦ nat_lt c 256 ]

  not_false : (b : Bool) → b ≡ true → b ≡ false → ⊥
  not_false b h k = cc

  module _ (bytes : (k : ℕ) → k < length g.subject → slice_index g.subject k < 256) where
    untaken_byte : (item : Item) (p : ℕ) → g.options.utf ≡ false → p < length g.subject
        → item_lead item (slice_index g.subject p) ≡ false →
        takes g.scene item p (slice_index g.subject p) ≡ false
    untaken_byte (Char c true) p u inside out = byte_untaken (Char c true) p inside (or_parts _ _ out).1
    untaken_byte (Char c false) p u inside out =
        by_character c (slice_index g.subject p) (λ is.
        let small : c < 256 = let h = bytes p inside in omega (arith, h, is) in
        let e : is_encoded c g.options.utf ≡ true = ap (is_encoded c) u ∙ lt-ltb c 256 small in
        let text : encoded c (is_encoded c g.options.utf) g.options.utf ≡ c ∷ [] =
        ap (λ d. encoded c d g.options.utf) e ∙ ap (encoded c true) u in
        not_false _ (ap (begins (slice_index g.subject p)) text ∙ eq-eqb c (slice_index g.subject p) is) out)
    untaken_byte AnyAll p u inside out = byte_untaken AnyAll p inside (or_parts _ _ out).1
    untaken_byte NotNewline p u inside out = byte_untaken NotNewline p inside (or_parts _ _ out).1
    untaken_byte (Class n) p u inside out = byte_untaken (Class n) p inside (or_parts _ _ out).1

  -- In UTF.

  record Written (p : ℕ) : Type 0 where
    rest : List ℕ
    split : drop p g.subject ≡ encode (first_char (drop p g.subject)) ++ rest
    scalar_is : IsScalar (first_char (drop p g.subject))

  -- in UTF a character begins there
  abbrev pub Here : ℕ → Type 0
  Here p = IsTrue g.options.utf → IsTextPlace g.options g.subject p

  scalar_encoded : (c : ℕ) → IsScalar c → is_encoded c true ≡ true
  scalar_encoded c h = ⊎_elim
      (λ low. or_left (nat_lt c 0xD800) _ (lt-ltb c 0xD800 low))
      (λ high. or_right (nat_lt c 0xD800) _ (and_from _ _ (le-leb 0xE000 c high.0)
      (le-leb c 0x10_FFFF (let k = high.1 in omega (arith, k)))))
      (scalar_cases c h)

  begins_it : (c : ℕ) (rest bs text : List ℕ) → bs ≡ text ++ rest → 0 < length text → begins (get_or bs 0 0) text ≡ true
  begins_it c rest bs [] e some = absurd (omega (arith, some))
  begins_it c rest bs (x ∷ text) e some = eq-eqb x (get_or bs 0 0) (sym (ap (λ (xs : List ℕ). get_or xs 0 0) e))

  module _ (text : IsText g.options g.subject) (utf : IsTrue g.options.utf) where
    written : (p : ℕ) → Here p → p < length g.subject → Written p
    written p here inside =
        let span = (goes_to_place true g.subject p (λ _. text.checked utf)
        ((here utf).within, λ _. (here utf).between utf) inside).1 in
        let n = len_utf8 (first_char (drop p g.subject)) in record {
          rest = drop ((p + n) - p) (drop p g.subject);
          split =
              sym (take-append-drop ((p + n) - p) (drop p g.subject))
              ∙ ap (λ (xs : List ℕ). xs ++ drop ((p + n) - p) (drop p g.subject)) span.stands;
          scalar_is = span.scalar refl;
        }

    at_drop : (p : ℕ) → p < length g.subject → get_or (drop p g.subject) 0 0 ≡ slice_index g.subject p
    at_drop p inside = ap (λ (xs : List ℕ). get_or xs 0 0) (drop-cons g.subject p 0 inside)

    -- an ASCII byte is its character
    ascii_is : (p : ℕ) → Here p → p < length g.subject → slice_index g.subject p < 128
        → first_char (drop p g.subject) ≡ slice_index g.subject p
    ascii_is p here inside small =
        let w = written p here inside in
        let at = at_drop p inside in
        char_from_byte (drop p g.subject) w.rest (first_char (drop p g.subject)) w.split (omega (arith, small, at))
        (let n = length-drop p g.subject in omega (arith, inside, n))
        ∙ at

    by_ascii : (item : Item) (p : ℕ) → Here p → p < length g.subject →
        (g.options.utf && nat_le 128 (slice_index g.subject p) || takes_byte item (slice_index g.subject p)) ≡ false →
        takes g.scene item p (first_char (drop p g.subject)) ≡ false
    by_ascii item p here inside out =
        let parts = or_parts (g.options.utf && nat_le 128 (slice_index g.subject p)) _ out in
        let past : nat_le 128 (slice_index g.subject p) ≡ false =
        ap (λ u. u && nat_le 128 (slice_index g.subject p)) (sym utf) ∙ parts.0 in
        ap (takes g.scene item p) (ascii_is p here inside (leb-false 128 (slice_index g.subject p) past))
        ∙ byte_untaken item p inside parts.1

    untaken_text : (item : Item) (p : ℕ) → Here p → p < length g.subject
        → item_lead item (slice_index g.subject p) ≡ false →
        takes g.scene item p (first_char (drop p g.subject)) ≡ false
    untaken_text (Char c true) p here inside out = by_ascii (Char c true) p here inside out
    untaken_text (Char c false) p here inside out =
        by_character c (first_char (drop p g.subject)) (λ is.
        let w = written p here inside in
        let whole = subst IsScalar (sym is) w.scalar_is in
        let e : is_encoded c g.options.utf ≡ true = ap (is_encoded c) utf ∙ scalar_encoded c whole in
        let all : encoded c (is_encoded c g.options.utf) g.options.utf ≡ encode c =
        ap (λ d. encoded c d g.options.utf) e ∙ ap (encoded c true) utf in
        let some : 0 < length (encode c) = let n = length-encode c in let bounds = len_utf8_bounds c in let low =
        bounds.0 in omega (arith, n, low) in
        let first = begins_it c w.rest (drop p g.subject) (encode c) (w.split ∙ ap (λ d. encode d ++ w.rest) (sym is))
        some in
        not_false _ (ap (begins (slice_index g.subject p)) all
        ∙ ap (λ d. begins d (encode c)) (sym (at_drop p inside)) ∙ first) out)
    untaken_text AnyAll p here inside out = by_ascii AnyAll p here inside out
    untaken_text NotNewline p here inside out = by_ascii NotNewline p here inside out
    untaken_text (Class n) p here inside out = by_ascii (Class n) p here inside out

  module _ (bytes : (k : ℕ) → k < length g.subject → slice_index g.subject k < 256)
      (text : IsText g.options g.subject) where
    untaken : (item : Item) (p : ℕ) → Here p → p < length g.subject → item_lead item (slice_index g.subject p) ≡ false →
        takes g.scene item p (char_at g.options.utf g.subject p).0 ≡ false
    untaken item p here inside out = by_utf g.options.utf refl
      where
        by_utf : (u : Bool) → g.options.utf ≡ u → takes g.scene item p (char_at u g.subject p).0 ≡ false
        by_utf true e = untaken_text text e item p here inside out
        by_utf false e = untaken_byte bytes item p e inside out

    pub none_here : (item : Item) (p : ℕ) → Here p → Out p (item_lead item) → after_item g.scene item p ≡ None
    none_here item p here out = by_end (is_end g.scene p) refl out
      where
        by_end : (e : Bool) → is_end g.scene p ≡ e → Out p (item_lead item) →
            ◌≡◌ {A = Option ℕ}
            (elim (elim e as (λ _. Option (ℕ × ℕ)) [
              | true ↦ None
              | false ↦
                  Some (char_at g.options.utf g.subject p)
            ]) [
              | None ↦ None
              | Some c ↦ elim (takes g.scene item p c.0) [ true ↦ Some c.1 | false ↦ None ]
            ]) None
        by_end true is o = refl
        by_end false is (inl e) = absurd (not_false _ e is)
        by_end false is (inr e) =
            ap (λ c. elim c as (λ _. Option ℕ) [ true ↦ Some (char_at g.options.utf g.subject p).1 | false ↦ None ])
            (untaken item p here (leb-false (length g.subject) p is) e)

    pub none_run : (item : Item) (n : ℕ) (most : Option ℕ) (p : ℕ) → Here p → Out p (item_lead item) →
        run_places g.scene item n most p ≡ []
    unfolding run_places
    none_run item zero most p here out = refl
    none_run item (suc n) most p here out = by_left (is_none_left most)
      where
        by_next : (o : Option ℕ) → o ≡ None → ◌≡◌ {A = List ℕ}
            (elim o [ None ↦ [] | Some q ↦ q ∷ run_places g.scene item n (one_less most) q ]) []
        by_next None e = refl
        by_next (Some q) e = absurd cc

        by_left : (b : Bool) → ◌≡◌ {A = List ℕ} (elim b [
          | true ↦ []
          | false ↦ elim (after_item g.scene item p) [
            | None ↦ []
            | Some q ↦
                q ∷ run_places g.scene item n (one_less most) q
          ]
        ]) []
        by_left true = refl
        by_left false = by_next (after_item g.scene item p) (none_here item p here out)
