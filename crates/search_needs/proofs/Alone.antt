-- Of branches that begin with characters apart one is left at most.
use Rattle.std.proofs.Common.{◌≡◌, ◌∙◌, ℕ, ◌+◌, ◌≤◌, Bool, true, false, List, [], ◌∷◌, Option, Some, None, ◌⊎◌, inl}
use Rattle.std.proofs.Common.{inr, refl, sym, ap, subst, arith}
use Rattle.std.specs.Prelude.{◌||◌, nat_le, nat_lt}
use Rattle.std.proofs.lemmas.Bool.{and_parts}
use Rattle.pat_tree.specs.declared.options.PartialMode.TheVariants.{Off}
use Rattle.pat_tree.specs.declared.nodes.Item.{Item}
use Rattle.pat_tree.specs.declared.nodes.Item.TheVariants.{Char, AnyAll, NotNewline, Class}
use Rattle.pat_tree.specs.Nested as tree
use Rattle.pat_tree.specs.Nested.{Nested, Row}
use Rattle.match_items.specs.Items.{after_item, item_reaches}
use Rattle.pat_bounds.specs.declared.bounds.Bound.{Bound}
use Rattle.pat_bounds.specs.Bounds.{at, greater, or_apart, lacks, lacks_item, are_apart, item_of, item_ahead}
use Rattle.pat_bounds.specs.Bounds.{first_item, begins_apart, all_begin_apart, is_alone}
use Rattle.ordered_search.specs.Stream.{State, is_next_branch, Stream, Search, ◌or_else◌, go_on, catch}
use Rattle.ordered_search.specs.Setting.{Setting, held}
use Rattle.ordered_search.specs.Tests.{goes_to, run_one}
use Rattle.ordered_search.specs.Parts.{Searches, in_order, choices}
use Rattle.ordered_search.specs.Run.{level, levels}
use Rattle.search_needs.proofs.TameStreams.{state_count, states_both, states_caught}
use Rattle.search_needs.proofs.SilentStreams.{Silent, silent_nothing, silent_halt, silent_step, silent_if}
use Rattle.search_needs.proofs.SilentStreams.{silent_or_else, silent_before, silent_catch}
use Rattle.search_needs.proofs.Growing.{at_greater}
use Rattle.search_needs.proofs.Onward.{onward_choices}
use Rattle.search_needs.proofs.Bounded.{size, unreached, held_is, one_more, FitsIn, fits_or_else}
use Rattle.search_needs.proofs.Apart.{stuck}

-- a branch gives no state, or those behind it give none
abbrev pub LeftAlone : Setting → Search → List Search → Type 0
LeftAlone g f fs = (s : State) → ((n : ℕ) → Silent (f (record s { units = n }))) ⊎ Silent (choices g fs s)

no_place : (o : Option ℕ) (q : ℕ) → o ≡ Some q → o ≡ None → ⊥
no_place None q e f = cc
no_place (Some r) q e f = cc

same_item : (a b : Item) → ◌≡◌ {A = Option Item} (Some a) (Some b) → a ≡ b
same_item a b e = cc

module _ (g : Setting) (off : g.matching.«partial» ≡ Off) where
  -- The states of a branch or of those behind it.

  apart_states : (a b : Bound) (f : Search) (fs : List Search) → FitsIn g off a f
      → FitsIn g off b (choices g fs) → LeftAlone g f fs → (s : State)
      → s.units + at (or_apart a b).units (size g off) ≤ g.matching.frame_limit
      → state_count (choices g (f ∷ fs) s) ≤ at (greater a.states b.states) (size g off)
  unfolding choices state_count
  apart_states a b f [] h k alone s le =
      let room = one_more g off a.units b.units in
      let few = (h.0 s (omega (arith, le, room))).states in
      let same = states_caught is_next_branch (f s) in
      let most = at_greater a.states b.states (size g off) (omega arith) in
      omega (arith, few, same, most.0)
  apart_states a b f (f' ∷ fs) h k alone s le = elim (alone s) [
    | inl none ↦
        let gone = none (s.units + 1) in
        omega (arith, both, same, gone, later, most.1)
    | inr none ↦ omega (arith, both, same, few, none, most.0)
  ]
    where
      room : 1 + (at a.units (size g off) + at b.units (size g off)) ≤ at (or_apart a b).units (size g off)
      room = one_more g off a.units b.units

      t : State
      t = record s { units = s.units + 1 }

      first : Stream
      first = held g 1 s (λ t. catch is_next_branch (f t))

      both : state_count (first or_else choices g (f' ∷ fs) s) ≤ state_count first + state_count (choices g (f' ∷ fs) s)
      both = states_both first (choices g (f' ∷ fs) s)

      same : state_count first ≡ state_count (f t)
      same = ap (λ x. state_count x) (held_is g off 1 s (λ t. catch is_next_branch (f t)) (omega (arith, le, room)))
          ∙ states_caught is_next_branch (f t)

      few : state_count (f t) ≤ at a.states (size g off)
      few = (h.0 t (omega (arith, le, room))).states

      later : state_count (choices g (f' ∷ fs) s) ≤ at b.states (size g off)
      later = (k.0 s (omega (arith, le, room))).states

      most : (at a.states (size g off) ≤ at (greater a.states b.states) (size g off))
          × (at b.states (size g off) ≤ at (greater a.states b.states) (size g off))
      most = at_greater a.states b.states (size g off) (omega arith)

  pub fits_or_apart : (a b : Bound) (f : Search) (fs : List Search) → FitsIn g off a f
      → FitsIn g off b (choices g fs) → LeftAlone g f fs
      → FitsIn g off (or_apart a b) (choices g (f ∷ fs))
  fits_or_apart a b f fs h k alone = (
    λ s le. let w = (fits_or_else g off a b f fs h k).0 s le in record {
      steps = w.steps;
      states = apart_states a b f fs h k alone s le;
      tame = w.tame;
    },
    onward_choices g f fs h.1 k.1,
  )

  -- Where one item takes a character, one apart from it takes nothing.

  lacks_stuck : (a b : Item) (p q : ℕ) → lacks_item g.class_has a b ≡ true
      → after_item g.scene a p ≡ Some q → after_item g.scene b p ≡ None
  lacks_stuck a (Char c false) p q h e = stuck g off a c (and_parts (nat_lt c 256) (lacks g.class_has a c) h).1 p q e
  lacks_stuck a (Char c true) p q h e = absurd cc
  lacks_stuck a AnyAll p q h e = absurd cc
  lacks_stuck a NotNewline p q h e = absurd cc
  lacks_stuck a (Class n) p q h e = absurd cc

  apart_stuck : (a b : Item) (p q : ℕ) → are_apart g.class_has a b ≡ true
      → after_item g.scene a p ≡ Some q → after_item g.scene b p ≡ None
  apart_stuck a b p q h e = by_own (lacks_item g.class_has a b) refl h
    where
      by_other : (o : Option ℕ) → after_item g.scene b p ≡ o → lacks_item g.class_has b a ≡ true
          → after_item g.scene b p ≡ None
      by_other None f k = f
      by_other (Some r) f k = absurd (no_place (after_item g.scene a p) q e (lacks_stuck b a p r k f))

      by_own : (x : Bool) → lacks_item g.class_has a b ≡ x
          → (x || lacks_item g.class_has b a) ≡ true → after_item g.scene b p ≡ None
      by_own true f k = lacks_stuck a b p q f e
      by_own false f k = by_other (after_item g.scene b p) refl k

  module _ (below : Searches) where
    -- What begins with an item gives nothing where that takes nothing.

    one_silent : (item : Item) (s : State) → after_item g.scene item s.place ≡ None
        → Silent (run_one g item s)
    unfolding run_one
    one_silent item s none =
        subst Silent (sym (unreached g off (item_reaches g.scene item s.place) s _
        ∙ ap (λ (o : Option ℕ). goes_to o s) none)) silent_nothing

    item_silent : (t : Nested) (item : Item) → item_of t ≡ Some item → (s : State)
        → after_item g.scene item s.place ≡ None → Silent (level g below t s)
    unfolding level
    item_silent (tree.one it) item e s none =
        one_silent it s (subst (λ (i : Item). after_item g.scene i s.place ≡ None) (sym (same_item it item e)) none)
    item_silent (tree.seq us) item e s none = absurd cc
    item_silent tree.empty item e s none = absurd cc
    item_silent tree.line_break item e s none = absurd cc
    item_silent (tree.group n us) item e s none = absurd cc
    item_silent (tree.repeat u low high lazily) item e s none = absurd cc
    item_silent (tree.one_repeat it low high lazily) item e s none = absurd cc
    item_silent (tree.atomic us) item e s none = absurd cc
    item_silent (tree.look ahead positive _ us) item e s none = absurd cc
    item_silent (tree.condition test u v) item e s none = absurd cc
    item_silent (tree.call n) item e s none = absurd cc
    item_silent (tree.ref ns caseless) item e s none = absurd cc
    item_silent (tree.anchor kind) item e s none = absurd cc
    item_silent tree.keep_out item e s none = absurd cc
    item_silent (tree.verb v) item e s none = absurd cc
    item_silent (tree.callout k) item e s none = absurd cc

    row_silent : (ts : Row) (item : Item) → item_ahead ts ≡ Some item → (s : State)
        → after_item g.scene item s.place ≡ None → Silent (in_order (levels g below ts) s)
    unfolding level in_order
    row_silent tree.none item e s none = absurd cc
    row_silent (tree.more t ts) item e s none = silent_before (level g below t s)
        (go_on (in_order (levels g below ts))) (item_silent t item e s none)

    first_silent : (t : Nested) (item : Item) → first_item t ≡ Some item → (s : State)
        → after_item g.scene item s.place ≡ None → Silent (level g below t s)
    unfolding level
    first_silent (tree.seq ts) item e s none = row_silent ts item e s none
    first_silent (tree.one it) item e s none = item_silent (tree.one it) item e s none
    first_silent tree.empty item e s none = absurd cc
    first_silent tree.line_break item e s none = absurd cc
    first_silent (tree.group n us) item e s none = absurd cc
    first_silent (tree.repeat u low high lazily) item e s none = absurd cc
    first_silent (tree.one_repeat it low high lazily) item e s none = absurd cc
    first_silent (tree.atomic us) item e s none = absurd cc
    first_silent (tree.look ahead positive _ us) item e s none = absurd cc
    first_silent (tree.condition test u v) item e s none = absurd cc
    first_silent (tree.call n) item e s none = absurd cc
    first_silent (tree.ref ns caseless) item e s none = absurd cc
    first_silent (tree.anchor kind) item e s none = absurd cc
    first_silent tree.keep_out item e s none = absurd cc
    first_silent (tree.verb v) item e s none = absurd cc
    first_silent (tree.callout k) item e s none = absurd cc

    -- So do branches that begin apart from an item, where that takes a character.

    begun_silent : (item : Item) (t : Nested) → begins_apart g.class_has item (first_item t) ≡ true
        → (s : State) (q : ℕ) → after_item g.scene item s.place ≡ Some q
        → Silent (level g below t s)
    begun_silent item t h s q taken = by_item (first_item t) refl h
      where
        by_item : (o : Option Item) → first_item t ≡ o → begins_apart g.class_has item o ≡ true
            → Silent (level g below t s)
        by_item None e k = absurd cc
        by_item (Some next) e k = first_silent t next e s (apart_stuck item next s.place q k taken)

    others_silent : (item : Item) (ts : Row) → all_begin_apart g.class_has item ts ≡ true
        → (s : State) (q : ℕ) → after_item g.scene item s.place ≡ Some q
        → Silent (choices g (levels g below ts) s)
    unfolding level choices held
    others_silent item tree.none h s q taken = silent_nothing
    others_silent item (tree.more t tree.none) h s q taken =
        let parts = and_parts _ _ h in
        silent_step _ (silent_catch is_next_branch _ (begun_silent item t parts.0 s q taken))
    others_silent item (tree.more t (tree.more u ts)) h s q taken =
        let parts = and_parts (begins_apart g.class_has item (first_item t))
        (all_begin_apart g.class_has item (tree.more u ts)) h in
        silent_step _ (silent_or_else _ _
        (silent_if (nat_le (s.units + 1) g.matching.frame_limit) _ _
        (silent_catch is_next_branch _ (begun_silent item t parts.0 (record s { units = s.units + 1 }) q taken))
        (silent_halt _))
        (others_silent item (tree.more u ts) parts.1 s q taken))

    pub left_alone : (t : Nested) (ts : Row) → is_alone g.class_has (first_item t) ts ≡ true
        → LeftAlone g (level g below t) (levels g below ts)
    left_alone t ts h = by_item (first_item t) refl h
      where
        by_item : (o : Option Item) → first_item t ≡ o → is_alone g.class_has o ts ≡ true
            → LeftAlone g (level g below t) (levels g below ts)
        by_item None e k = absurd cc
        by_item (Some item) e k = λ s. by_place s (after_item g.scene item s.place) refl
          where
            by_place : (s : State) (o : Option ℕ) → after_item g.scene item s.place ≡ o
                → ((n : ℕ) → Silent (level g below t (record s { units = n }))) ⊎ Silent
                (choices g (levels g below ts) s)
            by_place s None none = inl (λ n. first_silent t item e (record s { units = n }) none)
            by_place s (Some q) taken = inr (others_silent item ts k s q taken)
