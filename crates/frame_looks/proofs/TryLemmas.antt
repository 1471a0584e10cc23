-- The least length of a branch that is tried, and where its frame began.
use Rattle.std.proofs.Common.{◌≡◌, ◌≢◌, ◌∙◌, ℕ, suc, ◌+◌, ◌<◌, ◌≤◌, ◌⊎◌, inl, inr, List, [], ◌∷◌, ◌++◌, reverse}
use Rattle.std.proofs.Common.{length, slice_get, Some, None, refl, sym, ap, subst, arith, length-append}
use Rattle.std.proofs.lemmas.Bool.{cases_eq, cond-true, cond-false, eq-eqb, ne_eqb}
use Rattle.frame_store.specs.declared.records.Record.{Record}
use Rattle.frame_store.specs.declared.kinds.TheConstants.{KIND_UNDO, KIND_LATER_TRY}
use Rattle.frame_store.specs.Entry.{Entry, Other, entry_in, entry_table, entry_of, entries, entry_kind, site_of}
use Rattle.frame_store.proofs.EntryLemmas.{entry_of-undo, entry_kind-entry_of, entry_of-other}
use Rattle.frame_state.specs.Machine.{entry_kept, place_at}
use Rattle.frame_state.proofs.Frames.{place_here, place_push}
use Rattle.frame_state.proofs.Splits.{split}
use Rattle.pat_lengths.specs.Lengths.{SomeLengths}
use Rattle.pat_lengths.specs.Backs.{lengths_back}
use Rattle.pat_lengths.specs.declared.backs.Back.{Back}
use Rattle.frame_state.specs.Begun.{IsFixedPart}
use Rattle.frame_state.specs.Ground.{Ground, tree_of}
use Rattle.ordered_search.specs.Setting.{branch_lengths}
use Rattle.frame_state.specs.Validity.{IsTried}

abbrev least_of : SomeLengths → ℕ
least_of None = 0
least_of (Some a) = a.least

pub least_same : (c : Ground) (p n place at : ℕ) (t : IsTried c p n place at) (b : Back)
    → branch_lengths c.setting (tree_of c p) ≡ lengths_back b → b.least ≡ t.back.least
least_same c p n place at t b e = ap least_of (sym e ∙ t.lengths)

-- The place that a record keeps.

-- an undo record and one of no known kind keep none
abbrev IsKept : Record → Entry → Type 0
IsKept r e = (entry_kind e ≡ KIND_UNDO) ⊎ ((entry_kind e ≡ KIND_LATER_TRY + 1) ⊎ ((entry_kept e).place ≡ r.place))

abbrev AreKept : Record → List (ℕ × Entry) → Type 0
AreKept r [] = Unit {0}
AreKept r ((k, e) ∷ rest) = IsKept r e × AreKept r rest

entry_in_kept : (r : Record) (table : List (ℕ × Entry)) (kind : ℕ) (other : Entry) → AreKept r table → IsKept r other
    → IsKept r (entry_in table kind other)
unfolding entry_in
entry_in_kept r [] kind other h o = o
entry_in_kept r ((k, e) ∷ rest) kind other h o =
    elim (cases_eq kind k) [
      | inl same ↦ subst (IsKept r) (sym (cond-true _ _ _ (eq-eqb _ _ same))) h.0
      | inr differs ↦ subst (IsKept r) (sym (cond-false _ _ _ (ne_eqb _ _ differs)))
          (entry_in_kept r rest kind other h.1 o)
    ]

are_kept : (r : Record) → AreKept r (entry_table r)
are_kept r = (
  inl refl,
  (
    inr (inr refl),
    (
      inr (inr refl),
      (
        inr (inr refl),
        (
          inr (inr refl),
          (
            inr (inr refl),
            (
              inr (inr refl),
              (
                inr (inr refl),
                (
                  inr (inr refl),
                  (
                    inr (inr refl),
                    (
                      inr (inr refl),
                      (
                        inr (inr refl),
                        (
                          inr (inr refl),
                          (
                            inr (inr refl),
                            (
                              inr (inr refl),
                              (
                                inr (inr refl),
                                (
                                  inr (inr refl),
                                  (
                                    inr (inr refl),
                                    (inr (inr refl), (inr (inr refl), (inr (inr refl), (inr (inr refl), (inr (inr refl), tt))))),
                                  ),
                                ),
                              ),
                            ),
                          ),
                        ),
                      ),
                    ),
                  ),
                ),
              ),
            ),
          ),
        ),
      ),
    ),
  ),
)

kept_place : (r : Record) → r.kind ≢ KIND_UNDO → r.kind ≤ KIND_LATER_TRY → (entry_kept (entry_of r)).place ≡ r.place
kept_place r not_undo known =
    let kind : entry_kind (entry_of r) ≡ r.kind = entry_kind-entry_of r known in
    elim (entry_in_kept r (entry_table r) r.kind (Other (site_of r)) (are_kept r) (inr (inl refl))) [
      | inl undo ↦ absurd (not_undo (sym kind ∙ undo))
      | inr (inl other) ↦ absurd (omega (arith, kind, other, known))
      | inr (inr same) ↦ same
    ]

none_place : (r : Record) → (r.kind ≡ KIND_UNDO) ⊎ (KIND_LATER_TRY < r.kind) → (entry_kept (entry_of r)).place ≡ 0
none_place r (inl undo) = ap (λ (e : Entry). (entry_kept e).place) (entry_of-undo r undo)
none_place r (inr other) = ap (λ (e : Entry). (entry_kept e).place) (entry_of-other r other)

-- Where a frame began.

pub place_whole : (stack : List Entry) → place_at stack 0 ≡ 0
unfolding place_at
place_whole [] = refl
place_whole (r ∷ below) = cond-false _ _ _ (ne_eqb 0 (suc (length below)) (λ e. omega (arith, e))) ∙ place_whole below

place_deep : (above base : List Entry) (l : ℕ) → l ≤ length base → place_at (above ++ base) l ≡ place_at base l
place_deep [] base l h = refl
place_deep (p ∷ above) base l h = place_push p (above ++ base) l (omega (arith, h, length-append above base))
    ∙ place_deep above base l h

place_of : (records : List Record) (i : ℕ) (r : Record) → slice_get (reverse records) i ≡ Some r
    → place_at (entries records) (suc i) ≡ (entry_kept (entry_of r)).place
place_of records i r at =
    let z = split records i r at in
    ap (λ st. place_at st (suc i)) z.is
    ∙ place_deep z.above (entry_of r ∷ z.below) (suc i) (omega (arith, z.height))
    ∙ place_here (entry_of r) z.below (suc i) z.height

pub place_kept : (records : List Record) (l i : ℕ) (r : Record) → l ≡ suc i → slice_get (reverse records) i ≡ Some r
    → r.kind ≢ KIND_UNDO → r.kind ≤ KIND_LATER_TRY → r.place ≡ place_at (entries records) l
place_kept records l i r is at not_undo known =
    sym (ap (place_at (entries records)) is ∙ place_of records i r at ∙ kept_place r not_undo known)

pub place_none : (records : List Record) (l i : ℕ) (r : Record) → l ≡ suc i → slice_get (reverse records) i ≡ Some r
    → (r.kind ≡ KIND_UNDO) ⊎ (KIND_LATER_TRY < r.kind) → 0 ≡ place_at (entries records) l
place_none records l i r is at none =
    sym (ap (place_at (entries records)) is ∙ place_of records i r at ∙ none_place r none)
