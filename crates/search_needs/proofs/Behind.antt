-- Where a text doesn't stand at the distance at which every match takes it, the place fails.
use Rattle.std.proofs.Common.{◌≡◌, ℕ, zero, suc, ◌+◌, ◌-◌, ◌<◌, ◌≤◌, Bool, true, false, List, [], ◌∷◌, length, drop}
use Rattle.std.proofs.Common.{replicate, Option, Some, None, inl, inr, refl, sym, subst, arith}
use Rattle.std.specs.Prelude.{IsTrue, slice_index}
use Rattle.std.proofs.lemmas.Bool.{eqb-true}
use Rattle.std.proofs.lemmas.List.{get_or-replicate}
use Rattle.byte_lanes.specs.Sets.{has_byte}
use Rattle.pat_tree.specs.declared.options.PartialMode.TheVariants.{Off}
use Rattle.pat_tree.specs.declared.nodes.Item.{Item}
use Rattle.pat_tree.specs.Nested as tree
use Rattle.pat_tree.specs.Nested.{Nested, Row}
use Rattle.match_items.specs.Items.{after_item, item_reaches, is_none_left, one_less, run_places}
use Rattle.match_items.specs.Subjects.{IsText, IsTextPlace}
use Rattle.match_items.specs.Views.{fold_in}
use Rattle.match_items.proofs.TextGround.{text_forward}
use Rattle.pat_bounds.specs.declared.bounds.Bound.{Bound}
use Rattle.pat_bounds.specs.Bounds.{at, followed, grouped, both, change, bound, bound_in_turn}
use Rattle.pat_needs.specs.Needs.{may_take, IsShort}
use Rattle.pat_needs.specs.Distances.{IsLong, NeedsFrom, NeedsAt}
use Rattle.pat_needs.specs.Texts.{Stands}
use Rattle.ordered_search.specs.Stream.{State, How, reached, accepted, note, state, step, Stream, Search, ends, ◌▸◌}
use Rattle.ordered_search.specs.Stream.{each, go_on}
use Rattle.ordered_search.specs.Setting.{Setting, match_limit}
use Rattle.ordered_search.specs.Tests.{run_one}
use Rattle.ordered_search.specs.Parts.{Searches, in_order, branches, run_group}
use Rattle.ordered_search.specs.Run.{level, levels, run}
use Rattle.search_needs.specs.Needed.{BeginLaw}
use Rattle.search_needs.proofs.TameStreams.{state_count, Tame}
use Rattle.search_needs.proofs.SilentStreams.{Silent, silent_or_else}
use Rattle.ordered_search.proofs.ForwardStreams.{Forward, IsForward}
use Rattle.ordered_search.proofs.ForwardSearch.{forward_level, forward_run}
use Rattle.search_needs.proofs.Growing.{at_plus}
use Rattle.search_needs.proofs.Bounded.{FitsSome}
use Rattle.search_needs.proofs.FitsLevels.{fits_level}
use Rattle.search_needs.proofs.Landing.{Lands, lands_to, lands_reach_if, lands_anchor, lands_many, AreAt, none_at}
use Rattle.search_needs.proofs.Needed.{IsBehind, taken_short, InText, SilentUnder, silent_ahead, silent_turn}
use Rattle.search_needs.proofs.Needed.{silent_level, in_text, under_fails}

every : List Bool
every = replicate 256 true

every_byte : (b : ℕ) → b < 256 → has_byte every b ≡ true
unfolding every
every_byte b small = get_or-replicate 256 b true false small

module _ (g : Setting) (sets : List (List Bool)) (off : g.matching.«partial» ≡ Off)
    (folds : g.fold ≡ fold_in g.options.utf) (text : IsTrue g.options.utf → IsText g.options g.subject)
    (small : (k : ℕ) → k < length g.subject → slice_index g.subject k < 256) (target : ℕ)
    (missing : (k : ℕ) → (false ≡ false → k ≡ target) → ¬ Stands sets g.subject k) where
  abbrev may : Item → ℕ → Bool
  may = may_take g.options.utf g.class_has

  abbrev Here : ℕ → Type 0
  Here p = IsTrue g.options.utf → IsTextPlace g.options g.subject p

  -- an item of one byte goes on by one
  one_on : (item : Item) → IsShort may g.options.utf item → (p : ℕ) → Here p
      → (q : ℕ) → after_item g.scene item p ≡ Some q → q ≡ p + 1
  one_on item short p here q e =
      by_place (after_item g.scene item p) e
      (taken_short g sets off folds text small false target missing every item
      (λ b low took. every_byte b low) short p here)
    where
      by_place : (o : Option ℕ) → o ≡ Some q
          → IsBehind g sets off folds text small false target missing every p o → q ≡ p + 1
      by_place o e (inl none) = absurd cc
      by_place o e (inr there) = let to = there.0 in cc

  -- as often as it is repeated each time
  run_at : (k n : ℕ) (item : Item) → IsShort may g.options.utf item → (p : ℕ) → Here p
      → AreAt (p + k) (drop k (p ∷ run_places g.scene item n (Some k) p))
  unfolding run_places
  run_at zero zero item short p here = (omega arith, tt)
  run_at zero (suc n) item short p here = (omega arith, tt)
  run_at (suc k) zero item short p here = none_at (p + suc k) k
  run_at (suc k) (suc n) item short p here =
      by_left (is_none_left (Some (suc k))) refl
      (subst (λ m. (q : ℕ) → Here q → AreAt (q + k) (drop k (q ∷ run_places g.scene item n (Some m) q)))
      (let one : k ≡ suc k - 1 = omega arith in one) (run_at k n item short))
    where
      Next : Type 0
      Next = (q : ℕ) → Here q
          → AreAt (q + k) (drop k (q ∷ run_places g.scene item n (Some (suc k - 1)) q))

      by_next : (o : Option ℕ) → after_item g.scene item p ≡ o → Next
          → AreAt (p + suc k) (drop k (elim o as (λ _. List ℕ) [
            | None ↦ []
            | Some q ↦ q ∷ run_places g.scene item n (Some (suc k - 1)) q
          ]))
      by_next None e next = none_at (p + suc k) k
      by_next (Some q) e next =
          let on = one_on item short p here q e in
          let same : q + k ≡ p + suc k = omega (arith, on) in
          subst (λ to. AreAt to (drop k (q ∷ run_places g.scene item n (Some (suc k - 1)) q))) same
          (next q (λ utf. (text_forward g.scene (text utf) item p q (here utf) e).1))

      by_left : (b : Bool) → is_none_left (Some (suc k)) ≡ b → Next
          → AreAt (p + suc k) (drop k (elim b as (λ _. List ℕ) [
            | true ↦ []
            | false ↦ elim (after_item g.scene item p) [
              | None ↦ []
              | Some q ↦ q ∷ run_places g.scene item n (one_less (Some (suc k))) q
            ]
          ]))
      by_left true e next = absurd (let none = eqb-true (suc k) 0 e in omega (arith, none))
      by_left false e next = by_next (after_item g.scene item p) refl next

  lands_one : (item : Item) → IsShort may g.options.utf item → (s : State) → Here s.place
      → Lands (s.place + 1) (run_one g item s)
  unfolding run_one
  lands_one item short s here =
      lands_reach_if g off (s.place + 1) (item_reaches g.scene item s.place) s _
      (lands_to (s.place + 1) (after_item g.scene item s.place) s (one_on item short s.place here))

  -- so many bytes before the place at which the text doesn't stand
  abbrev IsBefore : ℕ → State → Type 0
  IsBefore d s = InText g sets off folds text small false target missing s × (s.place + d ≡ target)

  abbrev SilentAt : ℕ → Option Bound → Search → Type 0
  SilentAt d = SilentUnder g sets off folds text small false target missing (IsBefore d)

  silent_past : (u p q : ℕ) (x : Stream) (f : How → Search) → Tame u x
      → (IsTrue g.options.utf → Forward g None p x) → Lands q x
      → ((s : State) → InText g sets off folds text small false target missing s → s.place ≡ q
      → s.units ≤ u → Silent (f reached s)) → Silent (each x f)
  unfolding state_count each Tame Forward Lands
  silent_past u p q (ends e) f h forth to k = refl
  silent_past u p q (note m ▸ x) f h forth to k = absurd h
  silent_past u p q (state reached s ▸ x) f h forth to k =
      silent_or_else (f reached s) (each x f) (k s (λ utf. (forth utf).1) to.0 h.0)
      (silent_past u p q x f h.1 (λ utf. (forth utf).2) to.1 k)
  silent_past u p q (state accepted s ▸ x) f h forth to k = absurd h
  silent_past u p q (step ▸ x) f h forth to k = silent_past u p q x f h forth to k

  silent_behind : (n k : ℕ) (x y : Option Bound) (f : Search) (fs : List Search) → FitsSome g off x f
      → (IsTrue g.options.utf → IsForward g None f)
      → ((s : State) → Here s.place → Lands (s.place + n) (f s)) → SilentAt k y (in_order fs)
      → SilentAt (n + k) (both followed x y) (in_order (f ∷ fs))
  unfolding in_order
  silent_behind n k None y f fs fits forth to next = tt
  silent_behind n k (Some a) None f fs fits forth to next = tt
  silent_behind n k (Some a) (Some b) f fs fits forth to next = λ s on le.
      let size = length g.subject + 1 in
      let units = at_plus a.units b.units size (omega arith) in
      silent_past (s.units + at a.units size) s.place (s.place + n) (f s) (go_on (in_order fs))
      (fits.0 s (omega (arith, le, units))).tame (λ utf. forth utf s (on.0 utf))
      (to s (λ utf. (on.0 utf).here))
      (λ t there at few. next t (there, (let before = on.1 in omega (arith, at, before)))
      (omega (arith, few, le, units)))

  module _ (below : Searches)
      (deeper : IsTrue g.options.utf → (low : Option ℕ) (t : Nested) → IsForward g low (below t))
      (fits : (t : Nested) → FitsSome g off (bound g.class_has t) (level g below t)) where
    lands_level : (n : ℕ) (t : Nested) → IsLong may g.options.utf n t → (s : State) → Here s.place
        → Lands (s.place + n) (level g below t s)
    unfolding level
    lands_level n (tree.one item) h s here =
        subst (λ m. Lands (s.place + m) (run_one g item s)) (sym h.0) (lands_one item h.1 s here)
    lands_level n (tree.one_repeat item low (Some high) lazily) h s here =
        lands_many g off (s.place + n) item low (Some high) lazily s
        (subst (λ m. AreAt (s.place + m)
        (drop low (s.place ∷ run_places g.scene item (length g.subject) (Some high) s.place))) (sym h.0)
        (subst (λ m. AreAt (s.place + low)
        (drop low (s.place ∷ run_places g.scene item (length g.subject) (Some m) s.place))) h.1.0
        (run_at low (length g.subject) item h.1.1 s.place here)))
    lands_level n (tree.anchor kind) h s here =
        let stays : s.place ≡ s.place + n = omega (arith, h) in
        subst (λ q. Lands q (level g below (tree.anchor kind) s)) stays (lands_anchor g off kind s)
    lands_level n tree.empty h s here = absurd h
    lands_level n tree.line_break h s here = absurd h
    lands_level n (tree.seq ts) h s here = absurd h
    lands_level n (tree.group number ts) h s here = absurd h
    lands_level n (tree.repeat t low high lazily) h s here = absurd h
    lands_level n (tree.one_repeat item low None lazily) h s here = absurd h
    lands_level n (tree.atomic ts) h s here = absurd h
    lands_level n (tree.look ahead positive once ts) h s here = absurd h
    lands_level n (tree.condition test first second) h s here = absurd h
    lands_level n (tree.call k) h s here = absurd h
    lands_level n (tree.ref ns caseless) h s here = absurd h
    lands_level n tree.keep_out h s here = absurd h
    lands_level n (tree.verb v) h s here = absurd h
    lands_level n (tree.callout c) h s here = absurd h

    -- what holds of states at the place holds of those no bytes before it
    at_none : (d : ℕ) (x : Option Bound) (f : Search) → d ≡ 0
        → SilentUnder g sets off folds text small false target missing
        (λ s. InText g sets off folds text small false target missing s × (false ≡ false → s.place ≡ target)) x f
        → SilentAt d x f
    at_none d None f e h = tt
    at_none d (Some b) f e h = λ s on. h s (on.0, λ _. (let before = on.1 in omega (arith, e, before)))

    silent_from : (d : ℕ) (ts : Row) → NeedsFrom may g.options.utf sets d ts
        → SilentAt d (bound_in_turn g.class_has ts) (in_order (levels g below ts))
    unfolding level in_order bound_in_turn
    silent_from d tree.none h = absurd h
    silent_from d (tree.more t ts) (inl h) =
        at_none d (bound_in_turn g.class_has (tree.more t ts)) (in_order (levels g below (tree.more t ts))) h.0
        (silent_turn g sets off folds text small false target missing below deeper fits (tree.more t ts) h.1)
    silent_from d (tree.more t ts) (inr h) =
        subst (λ m. SilentAt m (bound_in_turn g.class_has (tree.more t ts))
        (in_order (levels g below (tree.more t ts)))) (sym h.2.0)
        (silent_ahead g sets off folds text small false target missing below deeper fits (IsBefore (h.0 + h.1)) t ts
        (bound_in_turn g.class_has ts) _
        (silent_behind h.0 h.1 (bound g.class_has t) (bound_in_turn g.class_has ts) (level g below t)
        (levels g below ts)
        (fits t) (λ utf. forward_level g (text utf) below (deeper utf) None t)
        (lands_level h.0 t h.2.1.0) (silent_from h.1 ts h.2.1.1)))

    silent_group : (d : ℕ) (x : Option Bound) (f : Search) → SilentAt d x f
        → SilentAt d (change (grouped None) x) (run_group g None f)
    unfolding run_group
    silent_group d None f h = tt
    silent_group d (Some a) f h = λ s on le. h s on le

    silent_at : (d : ℕ) (t : Nested) → NeedsAt may g.options.utf sets d t
        → SilentAt d (bound g.class_has t) (level g below t)
    unfolding bound level branches
    silent_at d t (inl h) =
        at_none d (bound g.class_has t) (level g below t) h.0
        (silent_level g sets off folds text small false target missing below deeper fits t h.1)
    silent_at d t (inr h) =
        subst (λ u. SilentAt d (bound g.class_has u) (level g below u)) (sym h.1.0)
        (silent_group d (bound_in_turn g.class_has h.0)
        (branches g (levels g below (tree.more (tree.seq h.0) tree.none)))
        (silent_from d h.0 h.1.1))

pub begin_law : BeginLaw
begin_law g sets d b p h =
    let missing : (k : ℕ) → (false ≡ false → k ≡ p + d) → ¬ Stands sets g.subject k =
    λ k at stands. h.missing (subst (Stands sets g.subject) (at refl) stands) in
    under_fails g sets h.off h.folds h.text h.small false (p + d) missing b h.steps h.units h.begun g.whole h.bounded
    (λ s silent. refl)
    (IsBefore g sets h.off h.folds h.text h.small (p + d) missing d) p
    (in_text g sets h.off h.folds h.text h.small false (p + d) missing b h.steps h.units h.begun p h.here, refl)
    (silent_at g sets h.off h.folds h.text h.small (p + d) missing (run g (match_limit g))
    (λ utf. forward_run g (h.text utf) (match_limit g)) (fits_level g h.off (match_limit g)) d g.whole h.needs)
