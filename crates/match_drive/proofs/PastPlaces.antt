-- Places that fail and tell nothing, one character after the other.
use Rattle.std.proofs.Common.{inl, inr, ◌≡◌, ℕ, zero, suc, ◌+◌, ◌-◌, ◌<◌, ◌≤◌, Bool, true, false, ◌&&◌, List, []}
use Rattle.std.proofs.Common.{◌∷◌, ◌++◌, length, take, drop, get_or, Option, Some, nat_lt, max, if◌then◌else◌, refl}
use Rattle.std.proofs.Common.{sym, ap, subst, ◌∙◌, arith, length-append, take-append-drop, length-drop}
use Rattle.std.specs.Prelude.{IfSome, IsUtf8, slice_index}
use Rattle.std.specs.Char.{len_utf8}
use Rattle.std.proofs.Math.Utf8.{encode, encodes}
use Rattle.std.proofs.lemmas.Bool.{and_parts, cases_lt, lt-ltb, ltb-true}
use Rattle.std.proofs.lemmas.List.{length-take-le, append_assoc}
use Rattle.std.proofs.lemmas.Str.{IsUtf8-drop, IsUtf8-between, IsCharBoundary-before_ascii, IsCharBoundary-end}
use Rattle.std.proofs.lemmas.Str.{chars_past_char, length-encode}
use Rattle.byte_lanes.specs.declared.line_end.EndKind.TheVariants.{CrLf}
use Rattle.byte_lanes.specs.Newlines.{stands, newline_len}
use Rattle.uni_text.specs.Characters.{first_char, char_at}
use Rattle.match_items.specs.Subjects.{IsText, IsTextPlace}
use Rattle.match_items.proofs.TextGround.{next_place as goes_to_place}
use Rattle.ordered_search.specs.Setting.{Setting}
use Rattle.ordered_search.specs.Places.{passes_crlf, next_place, last_place, within, up_to}
use Rattle.ordered_search.proofs.StartPlaces.{no_stand, up_to_is, up_to_past, next_char, next_later, crlf_stands}
use Rattle.match_drive.specs.Rest.{behind, found_from, FailBefore, IsPassed}
use Rattle.match_drive.proofs.Steps.{behind_later, behind_none, passed_once, found_failed}

-- The first character of a text ends no later than a part that is a text.

first_ends_by : (text : List ℕ) (n : ℕ) (cs : List ℕ) → IsUtf8 text → 0 < n → n ≤ length text
    → encodes cs ≡ take n text → len_utf8 (first_char text) ≤ n
first_ends_by text n [] whole some within e = absurd (omega (arith, some, ap length e, length-take-le n text within))
first_ends_by text n (c ∷ cs) whole some within e =
    let split : text ≡ encode c ++ (encodes cs ++ drop n text) =
    sym (take-append-drop n text) ∙ ap (λ (xs : List ℕ). xs ++ drop n text) (sym e)
    ∙ append_assoc (encode c) (encodes cs) (drop n text) in
    let first : first_char text ≡ c = ap (λ (xs : List ℕ). get_or xs 0 0)
    (chars_past_char text (encodes cs ++ drop n text) c whole split) in
    let long : length (encode c ++ encodes cs) ≡ n = ap length e ∙ length-take-le n text within in
    omega (arith, ap len_utf8 first, length-encode c, length-append (encode c) (encodes cs), long)

first_ends : (text : List ℕ) (n : ℕ) → IsUtf8 text → IsUtf8 (take n text) → 0 < n → n ≤ length text
    → len_utf8 (first_char text) ≤ n
first_ends text n whole front some within = first_ends_by text n front.0 whole some within front.1.1

-- where a CRLF stands, its first byte is CR
crlf_here : (bytes : List ℕ) (p : ℕ) → nat_lt 0 (newline_len CrLf bytes p) ≡ true
    → (p < length bytes) × (slice_index bytes p ≡ 13)
crlf_here bytes p h = by_stand (stands (13 ∷ (10 ∷ [])) bytes p) refl
  where
    by_stand : (b : Bool) → stands (13 ∷ (10 ∷ [])) bytes p ≡ b → (p < length bytes) × (slice_index bytes p ≡ 13)
    by_stand true e = let first = no_stand 13 (10 ∷ []) bytes p e in (first.0, first.1)
    by_stand false e = absurd (cc (ap (λ b. nat_lt 0 (max (if b then 2 else 0) 0)) (sym e) ∙ h))

module _ (g : Setting) (begun : g.start ≤ length g.subject) (text : IsText g.options g.subject) where
  abbrev Stands : ℕ → Type 0
  Stands p = IsTextPlace g.options g.subject p

  abbrev char_end : ℕ → ℕ
  char_end p = (char_at g.options.utf g.subject p).1

  -- the character at a place ends no later than a place behind it
  char_ends : (p q : ℕ) → Stands p → Stands q → p < q → char_end p ≤ q
  char_ends p q at to l = by_utf g.options.utf refl
    where
      by_utf : (utf : Bool) → g.options.utf ≡ utf → (char_at utf g.subject p).1 ≤ q
      by_utf false e = omega (arith, l)
      by_utf true e =
          let whole = IsUtf8-drop g.subject p (text.checked e) (at.between e) in
          let front = IsUtf8-between g.subject p q (text.checked e) (omega (arith, l)) (at.between e) (to.between e) in
          let fits = first_ends (drop p g.subject) (q - p) whole front (omega (arith, l))
          (let n = length-drop p g.subject in omega (arith, n, to.within, l)) in
          omega (arith, fits, l)

  -- no CRLF that is passed whole begins inside what a place steps over
  char_before_end : (p : ℕ) → Stands p → p < char_end p → passes_crlf g p ≡ false
      → passes_crlf g (char_end p - 1) ≡ false
  char_before_end p at l here = by_test (passes_crlf g (char_end p - 1)) refl
    where
      by_test : (b : Bool) → passes_crlf g (char_end p - 1) ≡ b → passes_crlf g (char_end p - 1) ≡ false
      by_test false e = e
      by_test true e =
          let k = char_end p - 1 in
          let cr : (k < length g.subject) × (slice_index g.subject k ≡ 13) =
          crlf_here g.subject k (and_parts _ _ (and_parts _ _ e).0).1 in
          let small : slice_index g.subject k < 128 = omega (arith, cr.1) in
          let stands : Stands k = record {
            within = omega (arith, cr.0);
            between = λ utf. IsCharBoundary-before_ascii g.subject k cr.0 small;
          } in
          elim (cases_lt p k) [
            | inl before ↦ absurd (let fits = char_ends p k at stands before in omega (arith, fits, l))
            | inr not_before ↦ absurd (let same : k ≡ p = omega (arith, not_before, l) in
                cc (sym (ap (passes_crlf g) same) ∙ e, here))
          ]

  -- the place behind p and those up to q, by the test of the last of them
  behind_by : (p q : ℕ) (b : Bool) → p < q → passes_crlf g (q - 1) ≡ b
      → behind g p q ≡ (elim b [ true ↦ q + 1 | false ↦ q ])
  behind_by p q b l e =
      ap (λ c. elim (c && passes_crlf g (q - 1)) [ true ↦ q + 1 | false ↦ q ]) (lt-ltb p q l)
      ∙ ap (λ c. elim c [ true ↦ q + 1 | false ↦ q ]) e

  -- it goes by the last of them alone
  behind_same : (p p' q : ℕ) → p < q → p' < q → behind g p' q ≡ behind g p q
  behind_same p p' q l l' = behind_by p' q (passes_crlf g (q - 1)) l' refl
      ∙ sym (behind_by p q (passes_crlf g (q - 1)) l refl)

  behind_far : (p q : ℕ) → q ≤ behind g p q
  behind_far p q = by_test (nat_lt p q && passes_crlf g (q - 1))
    where
      by_test : (b : Bool) → q ≤ (elim b [ true ↦ q + 1 | false ↦ q ])
      by_test true = omega arith
      by_test false = omega arith

  abbrev Passes : ℕ → ℕ → Type 0
  Passes p q = found_from g (up_to (last_place g) (Some (behind g p q))) ≡ found_from g (Some p)

  -- what is needed of places from p on, up to q
  record AreOut (p q : ℕ) : Type 0 where
    begins : Stands p
    low : p ≤ last_place g
    ends_at : q ≤ last_place g → Stands q
    high : q ≤ length g.subject
    all : FailBefore g p q

  -- from the next place on
  step_on : (p p' q : ℕ) → AreOut p q → p < q → p < p' → p' ≤ q → Stands p' → (p' ≡ q → behind g p q ≡ q)
      → (AreOut p' q → Passes p' q)
      → found_from g (up_to (last_place g) (Some (behind g p q))) ≡ found_from g (within g (Some p'))
  step_on p p' q out l forth inside at last rest = elim (cases_lt (last_place g) p') [
    | inl past ↦
        let later : last_place g < behind g p q = omega (arith, behind_far p q, past, inside) in
        ap (found_from g) (up_to_past (last_place g) (behind g p q) later ∙ sym (up_to_past (last_place g) p' past))
    | inr most ↦
        let low : p' ≤ last_place g = omega (arith, most) in
        ap (λ k. found_from g (up_to (last_place g) (Some k))) same
        ∙ rest (record {
          begins = at;
          low = low;
          ends_at = out.ends_at;
          high = out.high;
          all = λ k a b. out.all k (omega (arith, a, forth)) b;
        })
        ∙ ap (found_from g) (sym (up_to_is (last_place g) p' low))
  ]
    where
      same : behind g p q ≡ behind g p' q
      same = elim (cases_lt p' q) [
        | inl before ↦ sym (behind_same p p' q l before)
        | inr not_before ↦
            let e : p' ≡ q = omega (arith, not_before, inside) in
            last e ∙ sym (behind_none g begun q) ∙ ap (λ k. behind g k q) (sym e)
      ]

  -- by the place after the first of them
  step_over : (p q : ℕ) → AreOut p q → p < q → ((p' : ℕ) → p < p' → p' ≤ q → AreOut p' q → Passes p' q) → Passes p q
  step_over p q out l rest = by_crlf (passes_crlf g p) refl
    where
      inside : p < length g.subject
      inside = omega (arith, l, out.high)

      step : found_from g (Some p) ≡ found_from g (within g (next_place g p))
      step = found_failed g begun p out.low (out.all p (omega arith) l out.begins)

      goes : (b : Bool) → passes_crlf g p ≡ b
          → next_place g p ≡ (elim b [ true ↦ Some (p + 2) | false ↦ Some (char_end p) ])
      goes b e = next_char g begun p inside ∙ ap (λ c. elim c [ true ↦ Some (p + 2) | false ↦ Some (char_end p) ]) e

      back : (p' : ℕ) → next_place g p ≡ Some p' → found_from g (within g (Some p')) ≡ found_from g (Some p)
      back p' e = ap (λ o. found_from g (within g o)) (sym e) ∙ sym step

      last_of : (p' : ℕ) → p' ≡ q → passes_crlf g (p' - 1) ≡ false → behind g p q ≡ q
      last_of p' e h = behind_by p q false l (ap (λ k. passes_crlf g (k - 1)) (sym e) ∙ h)

      by_crlf : (b : Bool) → passes_crlf g p ≡ b → Passes p q
      by_crlf true e = elim (cases_lt (p + 1) q) [
        | inl more ↦
            let lf : (p + 2) - 1 ≡ p + 1 = omega arith in
            step_on p (p + 2) q out l (omega arith) (omega (arith, more)) (crlf_stands g begun text p e)
            (λ same. last_of (p + 2) same (ap (passes_crlf g) lf ∙ passed_once g begun p e))
            (rest (p + 2) (omega arith) (omega (arith, more)))
            ∙ back (p + 2) (goes true e)
        | inr most ↦
            let one : q - 1 ≡ p = omega (arith, l, most) in
            let two : q + 1 ≡ p + 2 = omega (arith, l, most) in
            ap (λ k. found_from g (up_to (last_place g) (Some k))) (behind_by p q true l (ap (passes_crlf g) one ∙ e)
            ∙ two)
            ∙ back (p + 2) (goes true e)
      ]
      by_crlf false e =
          let forth : p < char_end p = subst (λ (o : Option ℕ). IfSome o (λ k. p < k)) (goes false e)
          (next_later g begun p) in
          let to = goes_to_place g.options.utf g.subject p text.checked (out.begins.within, out.begins.between) inside
          in
          let at : Stands (char_end p) = record { within = to.0.0; between = to.0.1 } in
          elim (cases_lt q (char_end p)) [
            | inl short ↦ elim (cases_lt (last_place g) q) [
              | inl past ↦
                  let one : last_place g < behind g p q = omega (arith, behind_far p q, past) in
                  let two : last_place g < char_end p = omega (arith, past, short) in
                  ap (found_from g) (up_to_past (last_place g) (behind g p q) one
                  ∙ sym (up_to_past (last_place g) (char_end p) two))
                  ∙ back (char_end p) (goes false e)
              | inr most ↦ absurd (let fits = char_ends p q out.begins (out.ends_at (omega (arith, most))) l in
                  omega (arith, fits, short))
            ]
            | inr fits ↦
                step_on p (char_end p) q out l forth (omega (arith, fits)) at
                (λ same. last_of (char_end p) same (char_before_end p out.begins forth e))
                (rest (char_end p) forth (omega (arith, fits)))
                ∙ back (char_end p) (goes false e)
          ]

  no_step : (p q : ℕ) → AreOut p q → q ≡ p → Passes p q
  no_step p q out e =
      ap (λ k. found_from g (up_to (last_place g) (Some (behind g p k)))) e
      ∙ ap (λ k. found_from g (up_to (last_place g) (Some k))) (behind_none g begun p)
      ∙ ap (found_from g) (up_to_is (last_place g) p out.low)

  steps_over : (n p q : ℕ) → q - p ≤ n → p ≤ q → AreOut p q → Passes p q
  steps_over zero p q few l out = no_step p q out (omega (arith, few, l))
  steps_over (suc n) p q few l out = elim (cases_lt p q) [
    | inl before ↦ step_over p q out before (λ p' forth inside next. steps_over n p' q (omega (arith, few, forth))
        inside next)
    | inr not_before ↦ no_step p q out (omega (arith, not_before, l))
  ]

  -- the places from one on and before another
  pub passed_places : (p q : ℕ) → Stands p → p ≤ last_place g → p ≤ q → q ≤ length g.subject
      → (q ≤ last_place g → Stands q) → FailBefore g p q → IsPassed g p (behind g p q)
  passed_places p q at low ordered high to all = record {
    same = steps_over (q - p) p q (omega arith) ordered (record {
      begins = at;
      low = low;
      ends_at = to;
      high = high;
      all = all;
    });
    later = behind_later g p q ordered;
  }

  -- the place behind is one
  pub behind_stands : (p q : ℕ) → (q ≤ last_place g → Stands q) → behind g p q ≤ last_place g → Stands (behind g p q)
  behind_stands p q to = by_test (nat_lt p q && passes_crlf g (q - 1)) refl
    where
      by_test : (b : Bool) → (nat_lt p q && passes_crlf g (q - 1)) ≡ b
          → (elim b [ true ↦ q + 1 | false ↦ q ]) ≤ last_place g → Stands (elim b [ true ↦ q + 1 | false ↦ q ])
      by_test true e low =
          let parts = and_parts _ _ e in
          let some = ltb-true p q parts.0 in
          let one : (q - 1) + 2 ≡ q + 1 = omega (arith, some) in
          subst Stands one (crlf_stands g begun text (q - 1) parts.1)
      by_test false e low = to low

  -- the subject's end is a place
  pub end_stands : Stands (length g.subject)
  end_stands = record { within = omega arith; between = λ utf. IsCharBoundary-end g.subject }
