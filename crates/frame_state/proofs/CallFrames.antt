-- The calls that are active in the frames of a stack.
use Rattle.std.proofs.Common.{◌≡◌, ℕ, suc, ◌<◌, ◌≤◌, ◌∙◌, Bool, true, false, ◌==◌, ◌&&◌, ◌||◌, List, [], ◌∷◌, ◌++◌}
use Rattle.std.proofs.Common.{reverse, Some, length, slice_get, inl, inr, refl, sym, ap, subst, arith, length-append}
use Rattle.std.proofs.lemmas.List.Elements.{All-head, All-tail}
use Rattle.std.proofs.lemmas.Bool.{cases_eq, cond-true, cond-false, eq-eqb, ne_eqb}
use Rattle.frame_store.specs.declared.records.Record.{Record}
use Rattle.frame_store.specs.declared.kinds.TheConstants.{KIND_CALL_OPEN}
use Rattle.frame_store.specs.Entry.{Site, Entry, CallOpen, Other, site_of, entry_site, entry_table, entry_in}
use Rattle.frame_store.specs.Entry.{entry_of, entries, entry_kind}
use Rattle.frame_store.proofs.EntryLemmas.{entry_of-call_open, entry_kind-not}
use Rattle.ordered_search.specs.Parts.{is_active}
use Rattle.frame_state.specs.Calls.{calls_with, calls_at, AreWithin, Bounds, AreNested, IsLatest}
use Rattle.frame_state.specs.Ground.{Ground}
use Rattle.frame_state.specs.Machine.{Around, link_of}
use Rattle.frame_state.specs.Frames.{frame_around, around}
use Rattle.frame_state.specs.Validity.{IsSound, AreSound}
use Rattle.frame_state.proofs.Frames.{around_here, around_below, link_sound}
use Rattle.frame_state.proofs.Splits.{split}

calls_here : (r : Entry) (below : List Entry) (l : ℕ) → l ≡ suc (length below)
    → calls_at (r ∷ below) l ≡ calls_with r (calls_at below (link_of r))
unfolding calls_at
calls_here r below l e = cond-true _ _ _ (eq-eqb _ _ e)

calls_below : (r : Entry) (below : List Entry) (l : ℕ) → (l ≡ suc (length below) → ⊥)
    → calls_at (r ∷ below) l ≡ calls_at below l
unfolding calls_at
calls_below r below l n = cond-false _ _ _ (ne_eqb _ _ n)

framed_calls : (r : Entry) (a : Around) → (frame_around r a).calls ≡ calls_with r a.calls
framed_calls (CallOpen at kept group last) a = refl
framed_calls _ a = refl

-- they are those around the frame
pub around_calls : (c : Ground) (stack : List Entry) (l : ℕ) → (around c stack l).calls ≡ calls_at stack l
unfolding around calls_at
around_calls c [] l = refl
around_calls c (r ∷ below) l =
    elim (cases_eq l (suc (length below))) [
      | inl here ↦
          ap (λ (a : Around). a.calls) (around_here c r below l here)
          ∙ framed_calls r (around c below (link_of r))
          ∙ ap (calls_with r) (around_calls c below (link_of r))
          ∙ sym (calls_here r below l here)
      | inr not' ↦ ap (λ (a : Around). a.calls) (around_below c r below l not') ∙ around_calls c below l
          ∙ sym (calls_below r below l not')
    ]

-- what holds of a valid stack

bounded : (c : Ground) (left slots : ℕ) (below : List Entry) (r : Entry) → IsSound c left slots below r
    → Bounds r (calls_at below (link_of r))
bounded c left slots below (CallOpen at kept group last) s =
    subst (λ (xs : List (ℕ × ℕ)). AreWithin last ((group, kept.place) ∷ xs)) (around_calls c below at.link) s.2
bounded c left slots below _ s = tt

pub nested : (c : Ground) (left slots : ℕ) (stack : List Entry) → AreSound c left slots stack → AreNested stack
nested c left slots [] s = tt
nested c left slots (r ∷ below) s = (
  link_sound c left slots below r s.0,
  bounded c left slots below r s.0,
  nested c left slots below s.1,
)

-- The site of a record's entry.

record IsSited (s : Site) (e : Entry) : Type 0 where
  same : entry_site e ≡ s

abbrev AreSited : Site → List (ℕ × Entry) → Type 0
AreSited s [] = Unit {0}
AreSited s ((k, e) ∷ rest) = IsSited s e × AreSited s rest

entry_in_sited : (s : Site) (table : List (ℕ × Entry)) (kind : ℕ) (other : Entry) → AreSited s table → IsSited s other
    → IsSited s (entry_in table kind other)
unfolding entry_in
entry_in_sited s [] kind other h o = o
entry_in_sited s ((k, e) ∷ rest) kind other h o =
    elim (cases_eq kind k) [
      | inl same ↦ subst (IsSited s) (sym (cond-true _ _ _ (eq-eqb _ _ same))) h.0
      | inr differs ↦ subst (IsSited s) (sym (cond-false _ _ _ (ne_eqb _ _ differs)))
          (entry_in_sited s rest kind other h.1 o)
    ]

here : {s : Site} {e : Entry} → entry_site e ≡ s → IsSited s e
here h = record { same = h }

pub site_is : (r : Record) → entry_site (entry_of r) ≡ site_of r
site_is r =
    (entry_in_sited (site_of r) (entry_table r) r.kind (Other (site_of r)) (
      here refl,
      (
        here refl,
        (
          here refl,
          (
            here refl,
            (
              here refl,
              (
                here refl,
                (
                  here refl,
                  (
                    here refl,
                    (
                      here refl,
                      (
                        here refl,
                        (
                          here refl,
                          (
                            here refl,
                            (
                              here refl,
                              (
                                here refl,
                                (
                                  here refl,
                                  (
                                    here refl,
                                    (
                                      here refl,
                                      (here refl, (here refl, (here refl, (here refl, (here refl, (here refl, tt)))))),
                                    ),
                                  ),
                                ),
                              ),
                            ),
                          ),
                        ),
                      ),
                    ),
                  ),
                ),
              ),
            ),
          ),
        ),
      ),
    )
    (here refl)).same

pub link_is : (r : Record) → link_of (entry_of r) ≡ r.link
link_is r = ap (λ (s : Site). s.link) (site_is r)

-- The record at a height.

calls_deep : (above base : List Entry) (l : ℕ) → l ≤ length base → calls_at (above ++ base) l ≡ calls_at base l
calls_deep [] base l h = refl
calls_deep (p ∷ above) base l h =
    calls_below p (above ++ base) l (λ e. omega (arith, e, h, length-append above base)) ∙ calls_deep above base l h

pub nested_deep : (above base : List Entry) → AreNested (above ++ base) → AreNested base
nested_deep [] base n = n
nested_deep (p ∷ above) base n = nested_deep above base n.2

pub record IsFrame (records : List Record) (i : ℕ) (p : Record) : Type 0 where
  pub calls : calls_at (entries records) (suc i) ≡ calls_with (entry_of p) (calls_at (entries records) p.link)
  pub low : p.link ≤ i
  pub bounds : Bounds (entry_of p) (calls_at (entries records) p.link)

pub frame_at : (records : List Record) (i : ℕ) (p : Record) → AreNested (entries records)
    → slice_get (reverse records) i ≡ Some p → IsFrame records i p
frame_at records i p n at =
    let z = split records i p at in
    let r : Entry = entry_of p in
    let inner : AreNested (r ∷ z.below) = nested_deep z.above (r ∷ z.below) (subst AreNested z.is n) in
    let link : link_of r ≡ p.link = link_is p in
    let low : link_of r ≤ length z.below = inner.0 in
    let same : calls_at (entries records) (link_of r) ≡ calls_at z.below (link_of r) =
    ap (λ (es : List Entry). calls_at es (link_of r)) z.is
    ∙ calls_deep z.above (r ∷ z.below) (link_of r) (omega (arith, low))
    ∙ calls_below r z.below (link_of r) (λ e. omega (arith, e, low)) in
    let there : calls_at z.below (link_of r) ≡ calls_at (entries records) p.link = sym same
    ∙ ap (calls_at (entries records)) link in
    record {
      calls =
          ap (λ (es : List Entry). calls_at es (suc i)) z.is
          ∙ calls_deep z.above (r ∷ z.below) (suc i) (omega (arith, z.height))
          ∙ calls_here r z.below (suc i) z.height ∙ ap (calls_with r) there;
      low = omega (arith, low, link, z.height);
      bounds = subst (Bounds r) there inner.1;
    }

-- the latest call of a frame that isn't a call's is that of the frame around it
plain_calls : (r : Entry) (calls : List (ℕ × ℕ)) → (entry_kind r ≡ KIND_CALL_OPEN → ⊥) → calls_with r calls ≡ calls
plain_calls (CallOpen at kept group last) calls n = absurd (n refl)
plain_calls _ calls n = refl

module _ (records : List Record) (frame height : ℕ) (n : AreNested (entries records))
    (same : calls_at (entries records) height ≡ calls_at (entries records) frame) (low : height ≤ frame)
    (i : ℕ) (is : height ≡ suc i) (p : Record) (at : slice_get (reverse records) i ≡ Some p) where
  here_calls : calls_at (entries records) frame ≡ calls_with (entry_of p) (calls_at (entries records) p.link)
  here_calls = sym same ∙ ap (calls_at (entries records)) is ∙ (frame_at records i p n at).calls

  pub outer_low : p.link ≤ i
  outer_low = (frame_at records i p n at).low

  pub latest_here : p.kind ≡ KIND_CALL_OPEN → IsLatest (entries records) frame (Some p)
  latest_here kind =
      let e = entry_of-call_open p kind in (
        here_calls ∙ ap (λ (r : Entry). calls_with r (calls_at (entries records) p.link)) e,
        omega (arith, outer_low, is, low),
        subst (λ (r : Entry). Bounds r (calls_at (entries records) p.link)) e (frame_at records i p n at).bounds,
      )

  pub latest_outer : (p.kind ≡ KIND_CALL_OPEN → ⊥) → calls_at (entries records) p.link ≡ calls_at (entries records)
      frame
  latest_outer other = sym (here_calls ∙ plain_calls (entry_of p) (calls_at (entries records) p.link)
      (entry_kind-not p KIND_CALL_OPEN (omega arith) other))

pub calls_none : (stack : List Entry) → calls_at stack 0 ≡ []
unfolding calls_at
calls_none [] = refl
calls_none (r ∷ below) = calls_below r below 0 (λ e. omega (arith, e)) ∙ calls_none below

-- Whether a call is active.

-- none is that began past all of them
pub none_past : (n p last : ℕ) (calls : List (ℕ × ℕ)) → AreWithin last calls → last < p → is_active n p calls ≡ false
none_past n p last [] a lt = refl
none_past n p last (x ∷ calls) a lt =
    let first : x.1 ≤ last = All-head (λ (y : ℕ × ℕ). y.1 ≤ last) x calls a in
    let other : (x.1 == p) ≡ false = ne_eqb (x.1) p (λ e. omega (arith, e, first, lt)) in
    ap (λ (b : Bool). (x.0 == n) && b || is_active n p calls) other
    ∙ and_false (x.0 == n) (is_active n p calls)
    ∙ none_past n p last calls (All-tail (λ (y : ℕ × ℕ). y.1 ≤ last) x calls a) lt
  where
    and_false : (a b : Bool) → (a && false || b) ≡ b
    and_false true b = refl
    and_false false b = refl

-- the latest one is, or one of the others may be
pub active_here : (n p slot place : ℕ) (calls : List (ℕ × ℕ)) → slot ≡ n → place ≡ p
    → is_active n p ((slot, place) ∷ calls) ≡ true
active_here n p slot place calls a b =
    ap (λ (x : Bool). x && (place == p) || is_active n p calls) (eq-eqb slot n a)
    ∙ ap (λ (x : Bool). x || is_active n p calls) (eq-eqb place p b)

pub active_outer : (n p slot place : ℕ) (calls : List (ℕ × ℕ)) → (slot ≡ n → place ≡ p → ⊥)
    → is_active n p ((slot, place) ∷ calls) ≡ is_active n p calls
active_outer n p slot place calls other =
    elim (cases_eq slot n) [
      | inl same ↦
          ap (λ (x : Bool). x && (place == p) || is_active n p calls) (eq-eqb slot n same)
          ∙ ap (λ (x : Bool). x || is_active n p calls) (ne_eqb place p (other same))
      | inr differs ↦ ap (λ (x : Bool). x && (place == p) || is_active n p calls) (ne_eqb slot n differs)
    ]
