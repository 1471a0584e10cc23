-- The lengths of a branch of a lookbehind that is not refused.
use Rattle.std.proofs.Common.{◌≡◌, ◌∙◌, ℕ, ◌<◌, ◌≤◌, ◌⊎◌, inl, inr, Bool, true, false, Option, Some, None, refl, ap}
use Rattle.std.proofs.Common.{arith}
use Rattle.std.specs.Prelude.{◌==◌, nat_le}
use Rattle.std.proofs.lemmas.Bool.{eqb-true, leb-true}
use Rattle.pat_lengths.specs.HasLength.{AreLengths, AreSomeLengths}
use Rattle.pat_lengths.specs.Lengths.{SomeLengths, between, counted, too_long, differing, too_different}
use Rattle.pat_lengths.specs.Lengths.{branch_fault}
use Rattle.pat_lengths.specs.Spans.{kept}
use Rattle.pat_lengths.specs.Backs.{back_of, lengths_back, length_of}
use Rattle.pat_lengths.specs.declared.backs.Back.{Back}

pub some_none : {A : Type 0} (a : A) → Some a ≡ None → ⊥
some_none a e = cc

no_fault : (b : Bool) (n : ℕ) → (let z : Option ℕ = elim b [ true ↦ None | false ↦ Some n ] in z ≡ None) → b ≡ true
no_fault true n e = refl
no_fault false n e = absurd (some_none n e)

one_of_both : (b : Bool) (x y : Option ℕ) → (let z : Option ℕ = elim b [ true ↦ x | false ↦ y ] in z ≡ None)
    → ((b ≡ true) × (x ≡ None)) ⊎ (y ≡ None)
one_of_both true x y e = inl (refl, e)
one_of_both false x y e = inr e

-- it has one length, which is not too long, or the greatest lets the lengths differ
pub passed : (least most : ℕ) → branch_fault (between least (Some most)) ≡ None
    → ((counted least ≡ counted most) × (counted most ≤ 65535)) ⊎ (counted most ≤ differing)
passed least most e =
    elim (one_of_both (counted least == counted most) (too_long (counted most)) (too_different (counted most)) e) [
      | inl h ↦ inl (
        eqb-true (counted least) (counted most) h.0,
        leb-true (counted most) 65535 (no_fault (nat_le (counted most) 65535) 187 h.1),
      )
      | inr h ↦ inr (leb-true (counted most) differing (no_fault (nat_le (counted most) differing) 187 h))
    ]

limited_by : (least : ℕ) (most : Option ℕ) → branch_fault (between least most) ≡ None
    → (b : Back) × (between least most ≡ lengths_back b)
limited_by least None e = absurd (some_none 125 e)
limited_by least (Some most) e = (record { least = least; most = most }, refl)

-- it has a greatest length
pub limited : (a : SomeLengths) → branch_fault a ≡ None → (b : Back) × (a ≡ lengths_back b)
limited None e = absurd (some_none 125 e)
limited (Some a) e = limited_by a.least a.most e

few : differing ≤ 65535
unfolding differing
few = omega arith

small : (least most : ℕ) → branch_fault (between least (Some most)) ≡ None → counted most < 4294967295
small least most e = elim (passed least most e) [
  | inl h ↦ let short : counted most ≤ 65535 = h.1 in omega (arith, short)
  | inr l ↦ omega (arith, l, few)
]

kept_by : (P : ℕ → Type 0) (least : ℕ) (most : Option ℕ) → AreLengths P (record { least = least; most = most })
    → branch_fault (between least most) ≡ None
    → between least most ≡ lengths_back (back_of (kept (between least most)))
kept_by P least None h e = absurd (some_none 125 e)
kept_by P least (Some most) h e =
    let order : least ≤ most = h.most.1 least h.least in
    let below = small least most e in
    let most_is : most ≡ counted most = omega (arith, below) in
    let least_is : least ≡ counted least = omega (arith, below, order) in
    ap (λ k. between k (Some most)) least_is ∙ ap (λ k. between (counted least) (Some k)) most_is

-- what is kept of it is what it has
pub kept_back : (P : ℕ → Type 0) (x : SomeLengths) → AreSomeLengths P x → branch_fault x ≡ None
    → x ≡ lengths_back (back_of (kept x))
kept_back P None h e = absurd (some_none 125 e)
kept_back P (Some a) h e = kept_by P a.least a.most h e

-- the greatest length that is kept of a branch
pub most_kept : (x : SomeLengths) → (back_of (kept x)).most ≡ length_of x
most_kept None = refl
most_kept (Some a) = by_most a.least a.most
  where
    by_most : (least : ℕ) (most : Option ℕ) → (back_of (kept (between least most))).most ≡ length_of
        (between least most)
    by_most least None = refl
    by_most least (Some most) = refl
