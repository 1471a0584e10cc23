-- The start places of a search: each is later than the one before, and none is past the last one.
use Rattle.std.proofs.Common.{inl, inr, ◌≡◌, ℕ, zero, suc, ◌+◌, ◌-◌, ◌<◌, ◌≤◌, Bool, true, false, max, List, [], ◌∷◌}
use Rattle.std.proofs.Common.{length, drop, Option, Some, None, nat_le, nat_lt, if◌then◌else◌, refl, sym, ap, subst}
use Rattle.std.proofs.Common.{◌∙◌, arith}
use Rattle.std.specs.Prelude.{IfSome, IsCharBoundary, slice_index}
use Rattle.std.proofs.lemmas.Bool.{and_parts, cases_lt, eqb-true, leb-true, le-leb, lt-leb, ltb-true}
use Rattle.std.proofs.lemmas.Str.{IsCharBoundary-after_ascii, len_utf8_bounds}
use Rattle.byte_lanes.specs.declared.line_end.EndKind.TheVariants.{CrLf}
use Rattle.byte_lanes.specs.Newlines.{stands, newline_len}
use Rattle.byte_lanes.specs.Places.{least_of}
use Rattle.uni_text.specs.Characters.{first_char, char_at}
use Rattle.match_items.specs.Items.{newline_at}
use Rattle.match_items.specs.Subjects.{IsText, IsTextPlace}
use Rattle.match_items.proofs.TextGround.{next_place as goes_to_place}
use Rattle.ordered_search.specs.PlaceAnswer.{Signal, Exhausted, Prune, Skip, Commit}
use Rattle.ordered_search.specs.Setting.{Setting, anchored}
use Rattle.ordered_search.specs.Places.{up_to, passes_crlf, next_place, last_place, within, place_after}

-- A place that isn't past the last one.

pub up_to_is : (last p : ℕ) → p ≤ last → up_to last (Some p) ≡ Some p
up_to_is last p h = ap (λ b. elim b [ true ↦ Some p | false ↦ None ]) (le-leb p last h)

pub up_to_past : (last p : ℕ) → last < p → up_to last (Some p) ≡ None
up_to_past last p h = ap (λ b. elim b [ true ↦ Some p | false ↦ None ]) (lt-leb p last h)

-- what holds of a place holds of it where it isn't past the last one
pub up_to_keeps : (P : ℕ → Type 0) (last : ℕ) (o : Option ℕ) → IfSome o P
    → IfSome (up_to last o) (λ q. P q × (q ≤ last))
up_to_keeps P last None h = tt
up_to_keeps P last (Some q) h = by_test (nat_le q last) refl
  where
    by_test : (b : Bool) → nat_le q last ≡ b → IfSome (elim b [ true ↦ Some q | false ↦ None ]) (λ q. P q × (q ≤ last))
    by_test true e = (h, leb-true q last e)
    by_test false e = tt

least_within : (test : ℕ → Bool) (i n : ℕ) → least_of test i n ≤ i + n
unfolding least_of
least_within test i zero = omega arith
least_within test i (suc n) = by_test (test i) (least_within test (i + 1) n)
  where
    by_test : (b : Bool) → least_of test (i + 1) n ≤ (i + 1) + n
        → (if b then i else least_of test (i + 1) n) ≤ i + suc n
    by_test true h = omega arith
    by_test false h = omega (arith, h)

least_low : (test : ℕ → Bool) (i n : ℕ) → i ≤ least_of test i n
unfolding least_of
least_low test i zero = omega arith
least_low test i (suc n) = by_test (test i) (least_low test (i + 1) n)
  where
    by_test : (b : Bool) → i + 1 ≤ least_of test (i + 1) n → i ≤ (if b then i else least_of test (i + 1) n)
    by_test true h = omega arith
    by_test false h = omega (arith, h)

-- The place behind a CRLF.

pub no_stand : (b : ℕ) (t bytes : List ℕ) (p : ℕ) → stands (b ∷ t) bytes p ≡ true
    → (p < length bytes) × (slice_index bytes p ≡ b) × (stands t bytes (p + 1) ≡ true)
unfolding stands
no_stand b t bytes p h =
    let parts = and_parts _ _ h in
    let both = and_parts _ _ parts.1 in
    (ltb-true _ _ parts.0, eqb-true _ _ both.0, both.1)

-- where a CRLF stands, a byte follows that isn't CR
pub crlf_then : (bytes : List ℕ) (p : ℕ) → nat_lt 0 (newline_len CrLf bytes p) ≡ true
    → (p + 1 < length bytes) × (slice_index bytes (p + 1) ≡ 10)
crlf_then bytes p h = by_stand (stands (13 ∷ (10 ∷ [])) bytes p) refl
  where
    by_stand : (b : Bool) → stands (13 ∷ (10 ∷ [])) bytes p ≡ b
        → (p + 1 < length bytes) × (slice_index bytes (p + 1) ≡ 10)
    by_stand true e = let first = no_stand 13 (10 ∷ []) bytes p e in let second =
        no_stand 10 [] bytes (p + 1) first.2 in (second.0, second.1)
    by_stand false e = absurd (cc (ap (λ b. nat_lt 0 (max (if b then 2 else 0) 0)) (sym e) ∙ h))

module _ (g : Setting) (begun : g.start ≤ length g.subject) where
  pub last_within : last_place g ≤ length g.subject
  last_within = by_anchored (anchored g) g.options.firstline
    where
      by_anchored : (a f : Bool)
          → (elim a [
            | true ↦ g.start
            | false ↦
                elim f [
                  | true ↦ least_of (λ p. nat_lt 0 (newline_at g.scene p)) g.start (length g.subject - g.start)
                  | false ↦ length g.subject
                ]
          ]) ≤ length g.subject
      by_anchored true f = begun
      by_anchored false true =
          omega (arith, least_within (λ p. nat_lt 0 (newline_at g.scene p)) g.start (length g.subject - g.start))
      by_anchored false false = omega arith

  pub start_within : g.start ≤ last_place g
  start_within = by_anchored (anchored g) g.options.firstline
    where
      by_anchored : (a f : Bool)
          → g.start ≤ (elim a [
            | true ↦ g.start
            | false ↦
                elim f [
                  | true ↦ least_of (λ p. nat_lt 0 (newline_at g.scene p)) g.start (length g.subject - g.start)
                  | false ↦ length g.subject
                ]
          ])
      by_anchored true f = omega arith
      by_anchored false true = least_low (λ p. nat_lt 0 (newline_at g.scene p)) g.start (length g.subject - g.start)
      by_anchored false false = begun

  -- the next place
  abbrev char_from : ℕ → Bool → Bool → Option (ℕ × ℕ)
  char_from p ends utf = elim ends [ true ↦ None | false ↦ Some (char_at utf g.subject p) ]

  abbrev place_from : ℕ → Option (ℕ × ℕ) → Option ℕ
  place_from p None = None
  place_from p (Some c) = elim (passes_crlf g p) [ true ↦ Some (p + 2) | false ↦ Some c.1 ]

  pub next_char : (p : ℕ) → p < length g.subject →
      next_place g p ≡ elim (passes_crlf g p) [
        | true ↦ Some (p + 2)
        | false ↦
            Some (char_at g.options.utf g.subject p).1
      ]
  next_char p h = ap (λ e. place_from p (char_from p e g.options.utf)) (lt-leb (length g.subject) p h)

  pub next_inside : g.options.utf ≡ false → (p : ℕ) → p < length g.subject
      → next_place g p ≡ elim (passes_crlf g p) [ true ↦ Some (p + 2) | false ↦ Some (p + 1) ]
  next_inside not_utf p h = next_char p h ∙ ap (λ u. place_from p (char_from p false u)) not_utf

  char_later : (utf : Bool) (p : ℕ) → p < (char_at utf g.subject p).1
  char_later false p = omega arith
  char_later true p = let bounds = len_utf8_bounds (first_char (drop p g.subject)) in omega (arith, bounds.0)

  pub next_past : (p : ℕ) → length g.subject ≤ p → next_place g p ≡ None
  next_past p h = ap (λ e. place_from p (char_from p e g.options.utf)) (le-leb (length g.subject) p h)

  pub next_later : (p : ℕ) → IfSome (next_place g p) (λ q. p < q)
  next_later p = elim (cases_lt p (length g.subject)) [
    | inl inside ↦ subst (λ (o : Option ℕ). IfSome o (λ q. p < q)) (sym (next_char p inside))
        (by_crlf (passes_crlf g p))
    | inr past ↦ subst (λ (o : Option ℕ). IfSome o (λ q. p < q)) (sym (next_past p past)) tt
  ]
    where
      by_crlf : (b : Bool)
          → IfSome (elim b [ true ↦ Some (p + 2) | false ↦ Some (char_at g.options.utf g.subject p).1 ]) (λ q. p < q)
      by_crlf true = omega arith
      by_crlf false = char_later g.options.utf p

  -- the place after one that failed is later, and none is past the last one
  pub after_later : (p : ℕ) (signal : Signal) → IfSome (place_after g p signal) (λ q. (p < q) × (q ≤ last_place g))
  after_later p Exhausted = up_to_keeps (λ q. p < q) (last_place g) (next_place g p) (next_later p)
  after_later p Prune = up_to_keeps (λ q. p < q) (last_place g) (next_place g p) (next_later p)
  after_later p (Skip to) = by_test (nat_lt p to) refl
    where
      by_test : (b : Bool) → nat_lt p to ≡ b
          → IfSome (elim b [ true ↦ within g (Some to) | false ↦ within g (next_place g p) ])
          (λ q. (p < q) × (q ≤ last_place g))
      by_test true e = up_to_keeps (λ q. p < q) (last_place g) (Some to) (ltb-true p to e)
      by_test false e = up_to_keeps (λ q. p < q) (last_place g) (next_place g p) (next_later p)
  after_later p Commit = tt

  -- the next place is a place of the subject
  module _ (text : IsText g.options g.subject) where
    abbrev Stands : ℕ → Type 0
    Stands p = IsTextPlace g.options g.subject p

    pub crlf_stands : (p : ℕ) → passes_crlf g p ≡ true → Stands (p + 2)
    crlf_stands p e =
        let parts = and_parts _ _ (and_parts _ _ e).0 in
        let lf = crlf_then g.subject p parts.1 in
        let small : slice_index g.subject (p + 1) < 128 = omega (arith, lf.1) in
        let two : (p + 1) + 1 ≡ p + 2 = omega arith in
        record {
          within = omega (arith, lf.0);
          between = λ utf. subst (IsCharBoundary g.subject) two
              (IsCharBoundary-after_ascii g.subject (p + 1) (text.checked utf) lf.0 small);
        }

    pub next_stands : (p : ℕ) → Stands p → IfSome (next_place g p) Stands
    next_stands p at = elim (cases_lt p (length g.subject)) [
      | inl inside ↦ subst (λ (o : Option ℕ). IfSome o Stands) (sym (next_char p inside))
          (by_crlf inside (passes_crlf g p) refl)
      | inr past ↦ subst (λ (o : Option ℕ). IfSome o Stands) (sym (next_past p past)) tt
    ]
      where
        by_crlf : p < length g.subject → (b : Bool) → passes_crlf g p ≡ b
            → IfSome (elim b [ true ↦ Some (p + 2) | false ↦ Some (char_at g.options.utf g.subject p).1 ]) Stands
        by_crlf inside true e = crlf_stands p e
        by_crlf inside false e =
            let to = goes_to_place g.options.utf g.subject p text.checked (at.within, at.between) inside in
            record { within = to.0.0; between = to.0.1 }
