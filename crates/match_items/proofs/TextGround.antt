-- What takes characters goes from place to place of a subject, in UTF and outside it.
use Rattle.std.proofs.Common.{◌≡◌, ◌∙◌, ℕ, zero, suc, ◌+◌, ◌-◌, ◌<◌, ◌≤◌, ◌&&◌, ◌==◌, Bool, true, false, List, []}
use Rattle.std.proofs.Common.{◌∷◌, ◌++◌, Some, length, take, drop, get_or, max, nat_lt, chars, sum_by, refl, sym, ap}
use Rattle.std.proofs.Common.{subst, arith, inl, inr, length-drop, length-append, take-append-drop, append-nil}
use Rattle.std.proofs.Common.{drop-cons}
use Rattle.std.proofs.Math.Seq.{take-append_seam}
use Rattle.std.proofs.Math.Utf8.{scalar, scalars, encode, encodes}
use Rattle.std.proofs.iter.FirstChar.{in_two, in_three}
use Rattle.std.proofs.lemmas.Bool.{cases_Bool, cases_lt, and_parts, eqb-true, ltb-true}
use Rattle.std.proofs.lemmas.List.{length-take-le, take-take}
use Rattle.std.proofs.lemmas.List.Sums.{sum_by-cons}
use Rattle.std.proofs.lemmas.Str.{IsUtf8-take, IsUtf8-drop, IsCharBoundary-past_char, IsCharBoundary-after_ascii}
use Rattle.std.proofs.lemmas.Str.{IsCharBoundary-from_take, IsCharBoundary-at_seam, IsCharBoundary-from_rest}
use Rattle.std.proofs.lemmas.Str.{encodes-chars, scalars-chars, chars_past_char, chars-encodes, encodes-append}
use Rattle.std.proofs.lemmas.Str.{length-encode, len_utf8_bounds}
use Rattle.std.specs.Char.{IsScalar, len_utf8}
use Rattle.std.specs.List.{slice_range, AllByRecursion}
use Rattle.std.specs.Str.{IsUtf8, IsCharBoundary}
use Rattle.std.specs.Str.Pattern.{StartsWithChar}
use Rattle.byte_lanes.specs.Newlines.{stands, longest, newline_texts}
use Rattle.pat_tree.specs.declared.nodes.Item.{Item}
use Rattle.pat_tree.specs.declared.options.Bsr.{Bsr}
use Rattle.pat_tree.specs.declared.options.Bsr.TheVariants as bsr
use Rattle.pat_tree.specs.Newlines.{break_kind}
use Rattle.uni_text.specs.Characters.{first_char, last_char, char_at, char_before, IsChecked, IsPlace, IsCharSpan}
use Rattle.uni_text.proofs.CharLemmas.{len-stands}
use Rattle.match_items.specs.Scene.{Scene}
use Rattle.match_items.specs.Subjects.{IsText, IsTextPlace}
use Rattle.match_items.specs.Items.{place_before, takes, after_item, break_len, after_break, characters, width}
use Rattle.match_items.specs.Items.{after_ref}
use Rattle.match_items.proofs.OneItem.{if_taken, after_item-at, told_break}
use Rattle.match_items.specs.Laws.{PlacesStand}
use Rattle.match_items.proofs.Places.{break_within, ref_within}
use Rattle.match_items.proofs.TextRefs.{characters_are, width_is}
use Rattle.match_items.proofs.TextPlaces.{place_before-some, place_before-next}
use Rattle.match_items.proofs.TextRuns.{goes_forward}

-- The first and the last character of a text.

record Head (text : List ℕ) : Type 0 where
  rest : List ℕ
  scalar_is : IsScalar (first_char text)
  split : text ≡ encode (first_char text) ++ rest

head_by : (text cs : List ℕ) → IsUtf8 text → scalars cs ≡ true → encodes cs ≡ text → 0 < length text → Head text
head_by text [] u valid e some = absurd (omega (arith, some, ap length e))
head_by text (c ∷ cs) u valid e some =
    let first : first_char text ≡ c = ap (λ (xs : List ℕ). get_or xs 0 0)
    (chars_past_char text (encodes cs) c u (sym e)) in
    record {
      rest = encodes cs;
      scalar_is = subst IsScalar (sym first) (and_parts (scalar c) (scalars cs) valid).0;
      split = sym e ∙ ap (λ d. encode d ++ encodes cs) (sym first);
    }

head : (text : List ℕ) → IsUtf8 text → 0 < length text → Head text
head text u some = head_by text u.0 u u.1.0 u.1.1 some

scalars-take : (n : ℕ) (cs : List ℕ) → scalars cs ≡ true → scalars (take n cs) ≡ true
scalars-take zero cs valid = refl
scalars-take (suc n) [] valid = refl
scalars-take (suc n) (c ∷ cs) valid =
    let parts = and_parts (scalar c) (scalars cs) valid in
    ap (λ b. b && scalars (take n cs)) parts.0 ∙ scalars-take n cs parts.1

scalars-drop : (n : ℕ) (cs : List ℕ) → scalars cs ≡ true → scalars (drop n cs) ≡ true
scalars-drop zero cs valid = valid
scalars-drop (suc n) [] valid = refl
scalars-drop (suc n) (c ∷ cs) valid = scalars-drop n cs (and_parts (scalar c) (scalars cs) valid).1

record Tail (text : List ℕ) : Type 0 where
  front : List ℕ
  checked : IsUtf8 front
  split : text ≡ front ++ encode (last_char text)

tail_by : (text cs : List ℕ) → scalars cs ≡ true → encodes cs ≡ text → 0 < length text → Tail text
tail_by text [] valid e some = absurd (omega (arith, some, ap length e))
tail_by text (c ∷ cs) valid e some =
    let all : List ℕ = c ∷ cs in
    let n : ℕ = length cs in
    let one : drop n all ≡ get_or all n 0 ∷ [] = last_one c cs in
    let is : chars text ≡ all = ap chars (sym e) ∙ chars-encodes all valid in
    let last : last_char text ≡ get_or all n 0 = ap (λ (xs : List ℕ). get_or xs (length xs - 1) 0) is
    ∙ ap (λ k. get_or all k 0) (let e : length all - 1 ≡ n = omega arith in e) in
    record {
      front = encodes (take n all);
      checked = (take n all, (scalars-take n all valid, refl));
      split =
          sym e ∙ ap encodes (sym (take-append-drop n all)) ∙ encodes-append (take n all) (drop n all)
          ∙ ap (λ (xs : List ℕ). encodes (take n all) ++ encodes xs) one
          ∙ ap (λ (xs : List ℕ). encodes (take n all) ++ xs) (append-nil (encode (get_or all n 0)))
          ∙ ap (λ d. encodes (take n all) ++ encode d) (sym last);
    }
  where
    last_one : (c : ℕ) (cs : List ℕ) → drop (length cs) (c ∷ cs) ≡ get_or (c ∷ cs) (length cs) 0 ∷ []
    last_one c [] = refl
    last_one c (d ∷ ds) = last_one d ds

tail : (text : List ℕ) → IsUtf8 text → 0 < length text → Tail text
tail text u some = tail_by text u.0 u.1.0 u.1.1 some

-- From a place to the next one, and to the one before.

pub next_place : (utf : Bool) (bytes : List ℕ) (p : ℕ) → IsChecked utf bytes → IsPlace utf bytes p → p < length bytes →
    IsPlace utf bytes (char_at utf bytes p).1 × IsCharSpan utf bytes (char_at utf bytes p).0 p (char_at utf bytes p).1
next_place false bytes p checked place inside =
    let one : (p + 1) - p ≡ 1 = omega arith in (
      (omega arith, λ utf. absurd (let no : false ≡ true = utf in cc)),
      record {
        stands = ap (λ n. take n (drop p bytes)) one ∙ ap (take 1) (drop-cons bytes p 0 inside);
        fits = omega arith;
        scalar = λ utf. absurd (let no : false ≡ true = utf in cc);
      },
    )
next_place true bytes p checked place inside =
    let h = head (drop p bytes) (IsUtf8-drop bytes p (checked refl) (place.1 refl))
    (omega (arith, length-drop p bytes)) in
    let to = IsCharBoundary-past_char bytes h.rest p (first_char (drop p bytes)) place.0
    (IsUtf8-drop bytes p (checked refl) (place.1 refl)) h.split in
    let long : (p + len_utf8 (first_char (drop p bytes))) - p ≡ length (encode (first_char (drop p bytes))) =
    omega (arith, length-encode (first_char (drop p bytes))) in (
      (to.0, λ utf. to),
      record {
        stands = ap (λ n. take n (drop p bytes)) long ∙ ap (take (length (encode (first_char (drop p bytes)))))
            h.split ∙ take-append_seam (encode (first_char (drop p bytes))) h.rest;
        fits = to.0;
        scalar = λ utf. h.scalar_is;
      },
    )

place_behind : (utf : Bool) (bytes : List ℕ) (p : ℕ) → IsChecked utf bytes → IsPlace utf bytes p → 0 < p →
    IsPlace utf bytes (char_before utf bytes p).1 × ((char_before utf bytes p).1 < p)
place_behind false bytes p checked place some = let within = place.0 in
    ((omega (arith, within), λ utf. absurd (let no : false ≡ true = utf in cc)), omega arith)
place_behind true bytes p checked place some =
    let text : List ℕ = take p bytes in
    let size : length text ≡ p = length-take-le p bytes place.0 in
    let t = tail text (IsUtf8-take bytes p (checked refl) (place.1 refl)) (omega (arith, size)) in
    let n : ℕ = p - len_utf8 (last_char text) in
    let bounds = len_utf8_bounds (last_char text) in
    let long : length t.front + len_utf8 (last_char text) ≡ p =
    omega (
      arith,
      ap length t.split,
      length-append t.front (encode (last_char text)),
      length-encode (last_char text),
      size,
    ) in
    let front : take n text ≡ t.front = ap (take n) t.split
    ∙ ap (λ k. take k (t.front ++ encode (last_char text))) (let e : n ≡ length t.front = omega (arith, long) in
    e) ∙ take-append_seam t.front (encode (last_char text)) in
    let cut : take n text ≡ take n bytes = take-take n p bytes (omega arith) in
    let within = place.0 in
    let at = IsCharBoundary-from_take bytes n (checked refl) (omega (arith, within))
    (subst IsUtf8 (sym front ∙ cut) t.checked) in
    ((at.0, λ utf. at), omega (arith, bounds.0, some))

-- a text goes on at a place with the encoding of the character there
pub begun_with : (bytes : List ℕ) (p : ℕ) → IsUtf8 bytes → IsCharBoundary bytes p → p < length bytes
    → (rest : List ℕ) × (drop p bytes ≡ encode (first_char (drop p bytes)) ++ rest)
begun_with bytes p u at inside =
    let h = head (drop p bytes) (IsUtf8-drop bytes p u at) (omega (arith, inside, length-drop p bytes)) in
    (h.rest, h.split)

module _ (g : Scene) (t : IsText g.options g.subject) where
  -- an item goes forward by one character
  pub text_forward : (item : Item) (p q : ℕ) → IsTextPlace g.options g.subject p → after_item g item p ≡ Some q →
      (p < q) × IsTextPlace g.options g.subject q × (place_before g q ≡ p)
  text_forward item p q at e =
      let forward = goes_forward g item p q e in
      let c = (char_at g.options.utf g.subject p).0 in
      let r = (char_at g.options.utf g.subject p).1 in
      let to : r ≡ q = some_of (takes_of c) r q (sym (after_item-at g item p c r forward.1 refl) ∙ e) in
      let next = next_place g.options.utf g.subject p t.checked (at.within, at.between) forward.1 in
      let place : IsPlace g.options.utf g.subject q = subst (IsPlace g.options.utf g.subject) to next.0 in
      let less : p < r = omega (arith, to, forward.0) in (
        forward.0,
        record { within = place.0; between = place.1 },
        ap (place_before g) (sym to) ∙ place_before-next g p c r t.checked (at.within, at.between) refl next.1 less,
      )
    where
      takes_of : ℕ → Bool
      takes_of c = takes g item p c

      some_of : (b : Bool) (r q : ℕ) → if_taken b r ≡ Some q → r ≡ q
      some_of true r q e = cc
      some_of false r q e = cc

  pub text_backward : (p : ℕ) → IsTextPlace g.options g.subject p → 0 < p
      → (place_before g p < p) × IsTextPlace g.options g.subject (place_before g p)
  text_backward p at some =
      let back = place_behind g.options.utf g.subject p t.checked (at.within, at.between) some in
      let is = place_before-some g p some in (
        subst (λ q. q < p) (sym is) back.1,
        subst (IsTextPlace g.options g.subject) (sym is)
            (record { within = back.0.0; between = back.0.1 }),
      )

-- `\R` takes whole characters.

-- a byte of a text that stands
byte_of : (b : ℕ) (text bytes : List ℕ) (p : ℕ) → stands (b ∷ text) bytes p ≡ true
    → (p < length bytes) × (get_or bytes p 0 ≡ b) × (stands text bytes (p + 1) ≡ true)
unfolding stands
byte_of b text bytes p e =
    let inside = and_parts (nat_lt p (length bytes)) _ e in
    let here = and_parts (get_or bytes p 0 == b) _ inside.1 in
    (ltb-true p (length bytes) inside.0, eqb-true (get_or bytes p 0) b here.0, here.1)

module _ (bytes : List ℕ) (u : IsUtf8 bytes) where
  first_byte : (p : ℕ) → p < length bytes → get_or (drop p bytes) 0 0 ≡ get_or bytes p 0
  first_byte p inside = ap (λ (xs : List ℕ). get_or xs 0 0) (drop-cons bytes p 0 inside)

  past_one : (b p : ℕ) → b < 128 → stands (b ∷ []) bytes p ≡ true → IsCharBoundary bytes (p + 1)
  past_one b p low e = let here = byte_of b [] bytes p e in
      IsCharBoundary-after_ascii bytes p u here.0 (omega (arith, here.1))

  past_crlf : (p : ℕ) → stands (13 ∷ 10 ∷ []) bytes p ≡ true → IsCharBoundary bytes (p + 2)
  past_crlf p e =
      let here = byte_of 13 (10 ∷ []) bytes p e in
      let two : (p + 1) + 1 ≡ p + 2 = omega arith in
      subst (IsCharBoundary bytes) two (past_one 10 (p + 1) (omega arith) here.2)

  -- a character of so many bytes
  past_wide : (p c n : ℕ) → p < length bytes → IsCharBoundary bytes p → StartsWithChar (drop p bytes) c n
      → IsCharBoundary bytes (p + n)
  past_wide p c n inside at found =
      let tail = IsUtf8-drop bytes p u at in
      subst (λ k. IsCharBoundary bytes (p + k)) (sym (len-stands (drop p bytes) c n found))
      (IsCharBoundary-past_char bytes (drop n (drop p bytes)) p c at.0 tail found.0)

  past_two : (a b p : ℕ) → 128 ≤ a → a < 224 → IsCharBoundary bytes p → stands (a ∷ b ∷ []) bytes p ≡ true
      → IsCharBoundary bytes (p + 2)
  past_two a b p low high at e =
      let here = byte_of a (b ∷ []) bytes p e in
      let first = first_byte p here.0 in
      let found = in_two (drop p bytes) (IsUtf8-drop bytes p u at) (omega (arith, length-drop p bytes, here.0))
      (omega (arith, first, here.1)) (omega (arith, first, here.1)) in
      past_wide p _ 2 here.0 at found.1

  past_three : (a b c p : ℕ) → 224 ≤ a → a < 240 → IsCharBoundary bytes p → stands (a ∷ b ∷ c ∷ []) bytes p ≡ true
      → IsCharBoundary bytes (p + 3)
  past_three a b c p low high at e =
      let here = byte_of a (b ∷ c ∷ []) bytes p e in
      let first = first_byte p here.0 in
      let found = in_three (drop p bytes) (IsUtf8-drop bytes p u at) (omega (arith, length-drop p bytes, here.0))
      (omega (arith, first, here.1)) (omega (arith, first, here.1)) in
      past_wide p _ 3 here.0 at found.1

  -- the longest of some texts that stand ends where one of them does, or is none
  past_longest : (texts : List (List ℕ)) (p : ℕ) → IsCharBoundary bytes p
      → AllByRecursion (λ text. stands text bytes p ≡ true → IsCharBoundary bytes (p + length text)) texts →
      IsCharBoundary bytes (p + longest texts bytes p)
  past_longest [] p at all = let none : p ≡ p + 0 = omega arith in subst (IsCharBoundary bytes) none at
  past_longest (text ∷ texts) p at all = elim (cases_Bool (stands text bytes p)) [
    | inl e ↦
        let later = past_longest texts p at all.1 in
        rw e (longer (length text) (longest texts bytes p) (all.0 e) later)
    | inr e ↦
        let later = past_longest texts p at all.1 in
        rw e (longer 0 (longest texts bytes p) (let none : p ≡ p + 0 = omega arith in
        subst (IsCharBoundary bytes) none at) later)
  ]
    where
      longer : (m n : ℕ) → IsCharBoundary bytes (p + m) → IsCharBoundary bytes (p + n)
          → IsCharBoundary bytes (p + max m n)
      longer m n a b = elim (cases_lt m n) [
        | inl less ↦ let is : n ≡ max m n = omega arith in subst (λ k. IsCharBoundary bytes (p + k)) is b
        | inr more ↦ let is : m ≡ max m n = omega arith in subst (λ k. IsCharBoundary bytes (p + k)) is a
      ]

  past_break : (b : Bsr) (p : ℕ) → IsCharBoundary bytes p
      → AllByRecursion (λ text. stands text bytes p ≡ true → IsCharBoundary bytes (p + length text))
      (newline_texts (break_kind b true))
  past_break bsr.AnyCrLf p at = (past_crlf p, (past_one 13 p (omega arith), (past_one 10 p (omega arith), tt)))
  past_break bsr.Unicode p at = (
    past_three 226 128 168 p (omega arith) (omega arith) at,
    (
      past_three 226 128 169 p (omega arith) (omega arith) at,
      (
        past_crlf p,
        (
          past_two 194 133 p (omega arith) (omega arith) at,
          (
            past_one 10 p (omega arith),
            (
              past_one 11 p (omega arith),
              (past_one 12 p (omega arith), (past_one 13 p (omega arith), tt)),
            ),
          ),
        ),
      ),
    ),
  )

pub text_break : (g : Scene) (p q : ℕ) → IsText g.options g.subject → IsTextPlace g.options g.subject p
    → after_break g p ≡ Some q → IsTextPlace g.options g.subject q
text_break g p q t at e =
    let to : p + break_len g p ≡ q = some_of (nat_lt 0 (break_len g p)) (p + break_len g p) q
    (sym (told_break g p (break_len g p) refl) ∙ e) in
    record {
      within = break_within g p q at.within e;
      between = λ utf.
          let whole = past_longest g.subject (t.checked utf) (newline_texts (break_kind g.options.bsr true)) p
          (at.between utf) (past_break g.subject (t.checked utf) g.options.bsr p (at.between utf)) in
          let same : p + longest (newline_texts (break_kind g.options.bsr true)) g.subject p ≡ q =
          ap (λ (u : Bool). p + longest (newline_texts (break_kind g.options.bsr u)) g.subject p) (sym utf)
          ∙ to in
          subst (IsCharBoundary g.subject) same whole;
    }
  where
    some_of : (b : Bool) (r q : ℕ) → if_taken b r ≡ Some q → r ≡ q
    some_of true r q e = cc
    some_of false r q e = cc

-- A reference takes whole characters.

width_encodes : (cs : List ℕ) → length (encodes cs) ≡ sum_by len_utf8 cs
width_encodes [] = refl
width_encodes (c ∷ cs) = omega (
  arith,
  length-append (encode c) (encodes cs),
  length-encode c,
  width_encodes cs,
  sum_by-cons len_utf8 c cs,
)

past_some : (bytes : List ℕ) (p n : ℕ) → IsUtf8 bytes → IsCharBoundary bytes p
    → IsCharBoundary bytes (p + sum_by len_utf8 (take n (chars (drop p bytes))))
past_some bytes p n u at =
    let tail : IsUtf8 (drop p bytes) = IsUtf8-drop bytes p u at in
    let cs : List ℕ = chars (drop p bytes) in
    let valid : scalars cs ≡ true = scalars-chars (drop p bytes) tail in
    let split : drop p bytes ≡ encodes (take n cs) ++ encodes (drop n cs) = sym (encodes-chars (drop p bytes) tail)
    ∙ ap encodes (sym (take-append-drop n cs)) ∙ encodes-append (take n cs) (drop n cs) in
    let seam = IsCharBoundary-at_seam (drop p bytes) (encodes (take n cs)) (encodes (drop n cs)) split
    (drop n cs, (scalars-drop n cs valid, refl)) in
    subst (λ k. IsCharBoundary bytes (p + k)) (width_encodes (take n cs))
    (IsCharBoundary-from_rest bytes p (length (encodes (take n cs))) at.0 seam)

pub text_ref : (g : Scene) (from to p q : ℕ) (caseless : Bool) → IsText g.options g.subject
    → IsTextPlace g.options g.subject p → after_ref g from to caseless p ≡ Some q → IsTextPlace g.options g.subject q
text_ref g from to p q caseless t at e = elim (cases_Bool g.options.utf) [
  | inr bytes ↦ record {
    within = ref_within g from to p q caseless bytes at.within e;
    between = λ utf. absurd (let no : true ≡ false = sym utf ∙ bytes in cc);
  }
  | inl utf ↦
      let n : ℕ = length (characters g (slice_range g.subject from to)) in
      let ys : List ℕ = characters g (drop p g.subject) in
      let to_is : p + width g (take n ys) ≡ q = some_of _ (p + width g (take n ys)) q e in
      let are : ys ≡ chars (drop p g.subject) = characters_are g utf (drop p g.subject) in
      let wide : width g (take n ys) ≡ sum_by len_utf8 (take n (chars (drop p g.subject))) =
      width_is g utf (take n ys) ∙ ap (λ (xs : List ℕ). sum_by len_utf8 (take n xs)) are in
      let place = subst (IsCharBoundary g.subject)
      (let there : p + sum_by len_utf8 (take n (chars (drop p g.subject))) ≡ q = omega (arith, wide, to_is) in
      there) (past_some g.subject p n (t.checked utf) (at.between utf)) in
      record { within = place.0; between = λ _. place }
]
  where
    some_of : (b : Bool) (r q : ℕ) → if_taken b r ≡ Some q → r ≡ q
    some_of true r q e = cc
    some_of false r q e = cc

pub places_stand : PlacesStand
places_stand g t = record {
  forward = text_forward g t;
  backward = text_backward g t;
  breaks = λ p q at e. text_break g p q t at e;
  refers = λ from to p q caseless at e. text_ref g from to p q caseless t at e;
}
