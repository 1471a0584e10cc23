-- Texts that are UTF-8, cut at newlines of ASCII.
use Rattle.std.proofs.Common.{◌≡◌, ◌≢◌, ◌∙◌, ◌⊎◌, inl, inr, ℕ, zero, suc, ◌+◌, ◌-◌, ◌<◌, ◌≤◌, true, cond, max, List}
use Rattle.std.proofs.Common.{[], ◌∷◌, ◌++◌, length, take, drop, get_or, refl, sym, ap, subst, arith, append-nil}
use Rattle.std.proofs.Common.{length-append}
use Rattle.std.specs.Prelude.{slice_index, slice_range, nat_lt, IsUtf8}
use Rattle.std.specs.Str.{IsCharBoundary}
use Rattle.std.proofs.Math.Seq.{take-append-add, take-append_seam, drop-append_seam}
use Rattle.std.proofs.lemmas.Bool.{cases_Bool, cases_lt, cond_both, both_ways, and_parts, eqb-true}
use Rattle.std.proofs.lemmas.List.{get_or_append_left, get_or-append-add, get_or-take, get_or-drop, length-take}
use Rattle.std.proofs.lemmas.List.{append_assoc, take_all, nil_from_length}
use Rattle.std.proofs.lemmas.Str.{IsUtf8-nil, IsUtf8-take, IsUtf8-drop, IsCharBoundary-before_ascii}
use Rattle.std.proofs.lemmas.Str.{IsCharBoundary-after_ascii}
use Rattle.byte_lanes.specs.declared.line_end.EndKind.{EndKind}
use Rattle.byte_lanes.specs.declared.line_end.EndKind.TheVariants.{Cr, Lf, CrLf, AnyCrLf, Any, AnyUtf, Nul}
use Rattle.byte_lanes.specs.Newlines.{stands, longest, newline_texts, newline_len}
use Rattle.byte_lanes.proofs.lemmas.NewlineLemmas.{longest-head, stands_here, stands_nil}
use Rattle.pcre_io.specs.Told.{Told}
use Rattle.line_feed.specs.declared.phase.Phase.{Phase}
use Rattle.line_feed.specs.declared.phase.Phase.TheVariants.{Open, Ended, Missed, Full, Closed}
use Rattle.line_feed.specs.Rows.{Row, Rows, Ending, End, Fault, Limit, Finish, Long, At, none_for, ahead, sure_len}
use Rattle.line_feed.specs.Rows.{last_rows, first_newline, has_no_row, rows_from}
use Rattle.line_feed.specs.View.{Feed, Follows}
use Rattle.line_feed.specs.Answers.{Gives}
use Rattle.line_feed.proofs.Newlines.{newline-within}
use Rattle.line_feed.proofs.Insides.{range-long}
use Rattle.line_feed.proofs.RowLemmas.{first-least, no_row-true, rows-rest, rows-row, rows-over}
use Rattle.grep_watch.specs.Watched.{HasAsciiNewlines, EndsInAscii}

-- Behind a text that ends in ASCII a character begins.

pub ends-behind : (front text : List ℕ) → EndsInAscii text → EndsInAscii (front ++ text)
ends-behind front text ends =
    let long = length-append front text in
    let last = length text - 1 in
    let some = ends.0 in
    let at : length front + last ≡ length (front ++ text) - 1 = omega (arith, long, some) in (
      omega (arith, long, some),
      subst (λ n. slice_index (front ++ text) n < 128) at
          (subst (λ b. b < 128) (sym (get_or-append-add front text last 0)) ends.1),
    )

module _ (front behind : List ℕ) (q : ℕ) (within : length front ≤ q) where
  parts : take q (front ++ behind) ≡ front ++ take (q - length front) behind
  parts = let all : length front + (q - length front) ≡ q = omega (arith, within) in
      subst (λ n. take n (front ++ behind) ≡ front ++ take (q - length front) behind) all
      (take-append-add front behind (q - length front))

  valid-rest : EndsInAscii front → IsUtf8 (take q (front ++ behind)) → IsUtf8 (take (q - length front) behind)
  valid-rest ends valid =
      let rest = take (q - length front) behind in
      let whole = subst IsUtf8 parts valid in
      let long = length-append front rest in
      let last = length front - 1 in
      let low = subst (λ b. b < 128) (sym (get_or_append_left front rest 0 last (omega (arith, ends.0)))) ends.1 in
      let after = IsCharBoundary-after_ascii (front ++ rest) last whole (omega (arith, long, ends.0)) low in
      let at : last + 1 ≡ length front = omega (arith, ends.0) in
      subst IsUtf8 (drop-append_seam front rest)
      (IsUtf8-drop (front ++ rest) (length front) whole (subst (IsCharBoundary (front ++ rest)) at after))

pub valid-behind : (front behind : List ℕ) (q : ℕ) → EndsInAscii front → IsUtf8 (take q (front ++ behind))
    → IsUtf8 (take (q - length front) behind)
valid-behind front behind q ends valid = elim (cases_lt q (length front)) [
  | inl less ↦ let none : 0 ≡ q - length front = omega (arith, less) in
      subst (λ n. IsUtf8 (take n behind)) none IsUtf8-nil
  | inr more ↦ valid-rest front behind q (omega (arith, more)) ends valid
]

-- Before ASCII one ends.
pub valid-before : (front behind : List ℕ) (q : ℕ) → length front < q → 0 < length behind → slice_index behind 0 < 128
    → IsUtf8 (take q (front ++ behind)) → IsUtf8 front
valid-before front behind q within some low valid =
    let rest = take (q - length front) behind in
    let whole = subst IsUtf8 (parts front behind q (omega (arith, within))) valid in
    let long = length-append front rest in
    let many = length-take (q - length front) behind in
    let first = get_or-take (q - length front) behind 0 0 (omega (arith, within)) in
    let here = subst (λ b. b < 128) (sym (get_or-append-add front rest 0 0 ∙ first)) low in
    let at : length front + 0 ≡ length front = omega arith in
    subst IsUtf8 (take-append_seam front rest)
    (IsUtf8-take (front ++ rest) (length front) whole
    (IsCharBoundary-before_ascii (front ++ rest) (length front) (omega (arith, long, many, some, within))
    (subst (λ k. get_or (front ++ rest) k 0 < 128) at here)))

-- What newlines are made of.

abbrev IsAsciiText : List ℕ → Type 0
IsAsciiText [] = Unit {0}
IsAsciiText (b ∷ text) = (b < 128) × IsAsciiText text

abbrev AreAsciiTexts : List (List ℕ) → Type 0
AreAsciiTexts [] = Unit {0}
AreAsciiTexts (text ∷ texts) = IsAsciiText text × AreAsciiTexts texts

ascii-texts : (kind : EndKind) → HasAsciiNewlines kind → AreAsciiTexts (newline_texts kind)
ascii-texts Cr h = ((omega arith, tt), tt)
ascii-texts Lf h = ((omega arith, tt), tt)
ascii-texts CrLf h = ((omega arith, (omega arith, tt)), tt)
ascii-texts AnyCrLf h = ((omega arith, (omega arith, tt)), ((omega arith, tt), ((omega arith, tt), tt)))
ascii-texts Any h = absurd h
ascii-texts AnyUtf h = absurd h
ascii-texts Nul h = ((omega arith, tt), tt)

stands-ascii : (text bytes : List ℕ) (k j : ℕ) → IsAsciiText text → stands text bytes k ≡ true → j < length text
    → slice_index bytes (k + j) < 128
unfolding stands
stands-ascii [] bytes k j are is l = absurd (omega (arith, l))
stands-ascii (b ∷ text) bytes k zero are is l =
    let same : k ≡ k + 0 = omega arith in
    subst (λ n. slice_index bytes n < 128) same
    (subst (λ x. x < 128) (sym (eqb-true _ _ (and_parts _ _ (and_parts _ _ is).1).0)) are.0)
stands-ascii (b ∷ text) bytes k (suc j) are is l =
    let same : k + 1 + j ≡ k + suc j = omega arith in
    subst (λ n. slice_index bytes n < 128) same
    (stands-ascii text bytes (k + 1) j are.1 (and_parts _ _ (and_parts _ _ is).1).1 (omega (arith, l)))

longest-ascii : (texts : List (List ℕ)) (bytes : List ℕ) (k j : ℕ) → AreAsciiTexts texts → j < longest texts bytes k
    → slice_index bytes (k + j) < 128
longest-ascii [] bytes k j are l = absurd (omega (arith, l))
longest-ascii (text ∷ texts) bytes k j are l = elim (cases_Bool (stands text bytes k)) [
  | inl is ↦
      let e : max (cond (stands text bytes k) (length text) 0) (longest texts bytes k) ≡ max (length text)
      (longest texts bytes k) = ap (λ q. max (cond q (length text) 0) (longest texts bytes k)) is in
      elim (cases_lt j (length text)) [
        | inl less ↦ stands-ascii text bytes k j are.0 is less
        | inr more ↦ longest-ascii texts bytes k j are.1 (omega (arith, l, e, more))
      ]
  | inr none ↦
      let e : max (cond (stands text bytes k) (length text) 0) (longest texts bytes k) ≡ max 0
      (longest texts bytes k) = ap (λ q. max (cond q (length text) 0) (longest texts bytes k)) none in
      longest-ascii texts bytes k j are.1 (omega (arith, l, e))
]

-- How a row ends: in a newline of ASCII, or with the bytes.

record InNewline (kind : EndKind) (newline : List ℕ) : Type 0 where
  some : 0 < length newline
  ascii : (j : ℕ) → j < length newline → slice_index newline j < 128
  lf : kind ≡ Lf → newline ≡ 10 ∷ []

record WithBytes (bytes : List ℕ) (row : Row) : Type 0 where
  whole : row.bytes ≡ bytes
  none : row.newline ≡ []
  some : 0 < length row.bytes

-- the newline that LF ends is one LF
lf-most : (bytes : List ℕ) (k : ℕ) → newline_len Lf bytes k ≤ 1
lf-most bytes k =
    cond_both (stands (10 ∷ []) bytes k) 1 0 (λ n. max n 0 ≤ 1) (λ e. omega arith) (λ e. omega arith)

lf-at : (bytes : List ℕ) (k : ℕ) → 0 < newline_len Lf bytes k → slice_index bytes k ≡ 10
lf-at bytes k there = longest-head (λ b. b ≡ 10) ((10 ∷ []) ∷ []) bytes k (refl, tt) there

one-byte : (text : List ℕ) → length text ≡ 1 → slice_index text 0 ≡ 10 → text ≡ 10 ∷ []
one-byte [] long is = absurd (omega (arith, long))
one-byte (b ∷ []) long is = ap (λ x. x ∷ []) is
one-byte (b ∷ (c ∷ text)) long is = absurd (omega (arith, long))

abbrev first_bytes : List Row → List ℕ
first_bytes [] = []
first_bytes (row ∷ rows) = row.bytes

abbrev first_end : List Row → List ℕ
first_end [] = []
first_end (row ∷ rows) = row.newline

module _ (kind : EndKind) (max number offset : ℕ) (row : Row) (rest : Rows) where
  no-rows : (finish : Finish) → ¬ (none_for finish ≡ ahead row rest)
  no-rows finish is = let n : [] ≡ row ∷ rest.rows = ap (λ (r : Rows). r.rows) is in cc

  cut-ends : (bytes : List ℕ) (ending : Ending) → cond (nat_lt max (sure_len kind bytes)) (none_for (Long number))
      (none_for (At ending)) ≡ ahead row rest → WithBytes bytes row
  cut-ends bytes ending = cond_both (nat_lt max (sure_len kind bytes)) (none_for (Long number)) (none_for (At ending))
      (λ (r : Rows). r ≡ ahead row rest → WithBytes bytes row)
      (λ over is. absurd (no-rows (Long number) is)) (λ few is. absurd (no-rows (At ending) is))

  last-ends : (bytes : List ℕ) (ending : Ending) → last_rows kind max number offset bytes ending ≡ ahead row rest
      → WithBytes bytes row
  last-ends [] End is = absurd (no-rows (At End) is)
  last-ends (b ∷ bytes) End is =
      let last : Row = record { bytes = b ∷ bytes; newline = []; number = number; offset = offset } in
      cond_both (nat_lt max (length (b ∷ bytes))) (none_for (Long number)) (ahead last (none_for (At End)))
      (λ (r : Rows). r ≡ ahead row rest → WithBytes (b ∷ bytes) row)
      (λ over is. absurd (no-rows (Long number) is))
      (λ few is. record {
        whole = sym (ap (λ (r : Rows). first_bytes r.rows) is);
        none = sym (ap (λ (r : Rows). first_end r.rows) is);
        some = let whole = ap (λ (r : Rows). length (first_bytes r.rows)) is in omega (arith, whole);
      }) is
  last-ends bytes Fault is = cut-ends bytes Fault is
  last-ends bytes Limit is = cut-ends bytes Limit is

  row-ends : (bytes : List ℕ) (ending : Ending) → HasAsciiNewlines kind
      → rows_from kind max number offset bytes ending ≡ ahead row rest
      → WithBytes bytes row ⊎ InNewline kind row.newline
  row-ends bytes ending ascii is =
      let k = first_newline kind bytes in
      elim (cases_Bool (has_no_row kind bytes ending k)) [
        | inl none ↦ inl (last-ends bytes ending (sym (rows-rest kind max number offset bytes ending none) ∙ is))
        | inr some ↦ elim (cases_lt max k) [
          | inl over ↦ absurd
              (no-rows (Long number) (sym (rows-over kind max number offset bytes ending k refl some over) ∙ is))
          | inr room ↦
              let long = newline_len kind bytes k in
              let newline = slice_range bytes k (k + long) in
              let first = first-least kind bytes in
              let within : k < length bytes = elim (cases_lt k (length bytes)) [
                | inl less ↦ less
                | inr past ↦ let high = first.high in
                    absurd (both_ways _ some (no_row-true kind bytes ending k (inl (omega (arith, past, high)))))
              ] in
              let has = first.holds within in
              let whole : length newline ≡ long = range-long bytes k (k + long) (omega arith)
              (newline-within kind bytes k (omega (arith, within))) ∙ omega arith in
              let same : newline ≡ row.newline = ap (λ (r : Rows). first_end r.rows)
              (sym (rows-row kind max number offset bytes ending k refl some (omega (arith, room))) ∙ is) in
              let first_byte : slice_index newline 0 ≡ slice_index bytes k =
              get_or-take (k + long - k) (drop k bytes) 0 0 (omega (arith, has)) ∙ get_or-drop k bytes 0 0
              ∙ ap (λ n. slice_index bytes n) {x = k + 0} {y = k} (omega arith) in
              inr (subst (InNewline kind) same (record {
                some = omega (arith, whole, has);
                lf = λ is_lf.
                    let few = subst (λ e. newline_len e bytes k ≤ 1) (sym is_lf) (lf-most bytes k) in
                    one-byte newline (omega (arith, whole, has, few)) (first_byte
                    ∙ lf-at bytes k (subst (λ e. 0 < newline_len e bytes k) is_lf has));
                ascii = λ j l.
                    let at = get_or-take (k + long - k) (drop k bytes) j 0 (omega (arith, l, whole))
                    ∙ get_or-drop k bytes j 0 in
                    subst (λ b. b < 128) (sym at) (longest-ascii (newline_texts kind) bytes k j
                    (ascii-texts kind ascii) (omega (arith, l, whole)));
              }))
        ]
      ]

follows-none : (p : Phase) → p ≢ Closed → (ending : Ending) × Follows p [] ending
follows-none Open live = (End, tt)
follows-none Ended live = (End, (refl, refl))
follows-none Missed live = (Fault, (refl, refl))
follows-none Full live = (Limit, (refl, refl))
follows-none Closed live = absurd (live refl)

module _ (f g : Feed) (now after : Told) (row : Row) (gives : Gives f g now after row)
    (ascii : HasAsciiNewlines f.kind) where
  given-ends : WithBytes (gives.mid.held ++ []) row ⊎ InNewline gives.mid.kind row.newline
  given-ends =
      let mid = gives.mid in
      let cuts = gives.cuts in
      let follows = follows-none mid.phase (subst (λ p. p ≢ Closed) cuts.phase gives.live) in
      row-ends mid.kind mid.max (mid.number + 1) mid.offset row _ (mid.held ++ []) follows.0
      (subst HasAsciiNewlines (sym gives.reads.moves.kind) ascii) (cuts.rows [] follows.0 follows.1)

  -- where lines end in LF, none is in the row, and one is behind it unless it ends all that was held
  pub record IsLfRow : Type 0 where
    pub plain : (k : ℕ) → k < length row.bytes → slice_index row.bytes k ≢ 10
    pub ends : (row.newline ≡ 10 ∷ []) ⊎ ((0 < length row.bytes) × (length f.held ≤ length row.bytes))

  lf-plain : f.kind ≡ Lf → (k : ℕ) → k < length row.bytes → slice_index row.bytes k ≢ 10
  lf-plain is_lf k l is =
      let mid = gives.mid in
      let held = gives.cuts.bytes in
      let long = ap length held in
      let all = length-append (row.bytes ++ row.newline) g.held in
      let line = length-append row.bytes row.newline in
      let here : slice_index mid.held k ≡ 10 =
      ap (λ t. slice_index t k) held ∙ get_or_append_left (row.bytes ++ row.newline) g.held 0 k (omega (arith, l, line))
      ∙ get_or_append_left row.bytes row.newline 0 k l ∙ is in
      let kind : Lf ≡ mid.kind = sym is_lf ∙ sym gives.reads.moves.kind in
      let one : 1 ≡ newline_len Lf mid.held k =
      sym (ap (λ q. max (cond q 1 0) 0) (stands_here 10 [] mid.held k (omega (arith, l, long, all, line)) here
      ∙ stands_nil mid.held (k + 1))) in
      let none = gives.cuts.plain k l in
      let same = ap (λ e. newline_len e mid.held k) kind in
      omega (arith, one, none, same)

  pub lf-row : f.kind ≡ Lf → IsLfRow
  lf-row is_lf = record {
    plain = lf-plain is_lf;
    ends = elim given-ends [
      | inl last ↦
          let all = ap length last.whole in
          let third = length-append gives.mid.held [] in
          let more = ap length gives.reads.moves.held in
          let taken = length-append f.held gives.reads.moves.taken in
          inr (last.some, omega (arith, all, third, more, taken))
      | inr newline ↦ inl (newline.lf (gives.reads.moves.kind ∙ is_lf))
    ];
  }

  -- the row is UTF-8, and so is what is behind it
  pub record AreValid (q : ℕ) : Type 0 where
    pub line : IsUtf8 row.bytes
    pub behind : IsUtf8 (take (q - (length row.bytes + length row.newline)) g.held)

  module _ (q : ℕ) (within : length row.bytes + length row.newline ≤ q)
      (valid : IsUtf8 (take q (row.bytes ++ row.newline ++ g.held))) where
    in-newline : InNewline gives.mid.kind row.newline → AreValid q
    in-newline ends =
        let long = length-append row.bytes row.newline in
        let some = ends.some in
        let ascii_end = ends-behind row.bytes row.newline
        (some, ends.ascii (length row.newline - 1) (omega (arith, some))) in record {
          line = valid-before row.bytes (row.newline ++ g.held) q (omega (arith, within, some))
              (omega (arith, some, length-append row.newline g.held))
              (subst (λ b. b < 128) (sym (get_or_append_left row.newline g.held 0 0 some)) (ends.ascii 0 some))
              (subst (λ l. IsUtf8 (take q l)) (append_assoc row.bytes row.newline g.held) valid);
          behind = subst (λ n. IsUtf8 (take (q - n) g.held)) long
              (valid-behind (row.bytes ++ row.newline) g.held q ascii_end valid);
        }

    with-bytes : WithBytes (gives.mid.held ++ []) row → AreValid q
    with-bytes ends =
        let held = ap length gives.cuts.bytes in
        let all = ap length ends.whole in
        let first = length-append (row.bytes ++ row.newline) g.held in
        let second = length-append row.bytes row.newline in
        let third = length-append gives.mid.held [] in
        let empty = nil_from_length g.held (omega (arith, held, all, first, second, third)) in
        let line : row.bytes ++ row.newline ++ g.held ≡ row.bytes = (λ i. row.bytes ++ ends.none i ++ empty i)
        ∙ append-nil (row.bytes ++ []) ∙ append-nil row.bytes in
        let short = ap length line in record {
          line = subst IsUtf8 (take_all q (row.bytes ++ row.newline ++ g.held) (omega (arith, within, short)) ∙ line)
              valid;
          behind = subst (λ (l : List ℕ). IsUtf8 (take (q - (length row.bytes + length row.newline)) l)) (sym empty)
              (subst IsUtf8 (sym (take_all (q - (length row.bytes + length row.newline)) [] (omega arith)))
              IsUtf8-nil);
        }

    pub are-valid : AreValid q
    are-valid = elim given-ends [ inl last ↦ with-bytes last | inr newline ↦ in-newline newline ]
