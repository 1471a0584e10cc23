-- A repeat of an item goes on from the end of its longest run alone, where what follows is a character that the item
-- doesn't take.
use Rattle.std.proofs.Common.{◌≡◌, ℕ, zero, suc, ◌+◌, ◌-◌, ◌*◌, ◌≤◌, Bool, true, false, List, [], ◌∷◌, ◌++◌, length}
use Rattle.std.proofs.Common.{drop, take, reverse, Option, Some, None, refl, sym, ap, subst, ◌∙◌, arith}
use Rattle.std.specs.Prelude.{All, option_map, ◌==◌, not, nat_lt}
use Rattle.std.proofs.lemmas.Bool.{eqb-true, eq-eqb, and_parts}
use Rattle.std.proofs.lemmas.List.{length-reverse, drop_all}
use mathlib.Core.List.{reverse-cons}
use Rattle.std.proofs.lemmas.List.Elements.{All-nil, All-cons, All-head, All-tail, All-append}
use Rattle.pat_tree.specs.declared.options.PartialMode.TheVariants.{Off}
use Rattle.pat_tree.specs.declared.nodes.Item.{Item}
use Rattle.pat_tree.specs.declared.nodes.Item.TheVariants.{Char, AnyAll, NotNewline, Class}
use Rattle.match_items.specs.Items.{next as character, one_less, is_none_left, takes, after_item, item_reaches}
use Rattle.match_items.specs.Items.{run_places, longest_run, run_reaches}
use Rattle.pat_bounds.specs.declared.bounds.Bound.{Bound}
use Rattle.pat_bounds.specs.Bounds.{at, steady, plus, product, left_once, turns, followed, lacks}
use Rattle.ordered_search.specs.Stream.{State, reached, step, Stream, Search, ◌▸◌, nothing, gives, ◌or_else◌, each}
use Rattle.ordered_search.specs.Stream.{and_then}
use Rattle.ordered_search.specs.Setting.{Setting, hold, reach_if}
use Rattle.ordered_search.specs.Tests.{move_to, offers, greedy, offer_and, reluctant, lazy_run, run_many}
use Rattle.search_needs.proofs.TameStreams.{Within, within_more, within_nothing, within_step, within_or_else}
use Rattle.search_needs.proofs.Growing.{at_steady, at_plus, at_product}
use Rattle.search_needs.proofs.Onward.{onward_and_then, onward_many}
use Rattle.search_needs.proofs.Bounded.{size, unreached, held_is, offered_few, FitsIn}

-- a character that one item takes, and that the other is
clash : (b : Bool) → b ≡ true → not b ≡ true → ⊥
clash true e h = cc
clash false e h = cc

module _ (g : Setting) (off : g.matching.«partial» ≡ Off) (item : Item) (c : ℕ) where
  abbrev next : Item
  next = Char c false

  -- where the item takes a character the other one takes nothing
  not_both : (it : Item) (p d : ℕ) → lacks g.class_has it c ≡ true → takes g.scene it p d ≡ true
      → takes g.scene next p d ≡ true → ⊥
  not_both (Class n) p d is h k =
      let same : c ≡ d = eqb-true c d k in
      clash (g.class_has n c) (ap (g.class_has n) same ∙ h) (and_parts (nat_lt c 256) (not (g.class_has n c)) is).1
  not_both (Char e false) p d is h k =
      let same : e ≡ c = eqb-true e d h ∙ sym (eqb-true c d k) in
      clash (e == c) (eq-eqb e c same) is
  not_both (Char e true) p d is h k = absurd cc
  not_both AnyAll p d is h k = absurd cc
  not_both NotNewline p d is h k = absurd cc

  module _ (apart : lacks g.class_has item c ≡ true) where
    -- nothing follows there
    abbrev pub Stuck : ℕ → Type 0
    Stuck p = after_item g.scene next p ≡ None

    pub stuck : (p q : ℕ) → after_item g.scene item p ≡ Some q → Stuck p
    stuck p q e = by_next (character g.scene p) e
      where
        by_tests : (a b : Bool) (r : ℕ) → (a ≡ true → b ≡ true → ⊥)
            → ◌≡◌ {A = Option ℕ} (elim a [ true ↦ Some r | false ↦ None ]) (Some q)
            → ◌≡◌ {A = Option ℕ} (elim b [ true ↦ Some r | false ↦ None ]) None
        by_tests true true r h k = absurd (h refl refl)
        by_tests true false r h k = refl
        by_tests false b r h k = absurd cc

        by_next : (o : Option (ℕ × ℕ)) → ◌≡◌ {A = Option ℕ}
            (elim o [ None ↦ None | Some d ↦ elim (takes g.scene item p d.0) [ true ↦ Some d.1 | false ↦ None ] ])
            (Some q)
            → ◌≡◌ {A = Option ℕ}
            (elim o [ None ↦ None | Some d ↦ elim (takes g.scene next p d.0) [ true ↦ Some d.1 | false ↦ None ] ])
            None
        by_next None k = refl
        by_next (Some d) k = by_tests (takes g.scene item p d.0) (takes g.scene next p d.0) d.1
            (not_both item p d.0 apart) k

    -- at each of these places but the last
    abbrev ButLast : List ℕ → Type 0
    ButLast [] = Unit {0}
    ButLast (p ∷ []) = Unit {0}
    ButLast (p ∷ q ∷ ps) = Stuck p × ButLast (q ∷ ps)

    but_last_rest : (p : ℕ) (ps : List ℕ) → ButLast (p ∷ ps) → ButLast ps
    but_last_rest p [] h = tt
    but_last_rest p (q ∷ ps) h = h.1

    but_last_drop : (n : ℕ) (ps : List ℕ) → ButLast ps → ButLast (drop n ps)
    but_last_drop n [] h = subst ButLast (sym (drop_all n [] (omega arith))) tt
    but_last_drop zero (p ∷ ps) h = h
    but_last_drop (suc n) (p ∷ ps) h = but_last_drop n ps (but_last_rest p ps h)

    but_last_run : (n : ℕ) (most : Option ℕ) (p : ℕ) → ButLast (p ∷ run_places g.scene item n most p)
    unfolding run_places
    but_last_run zero most p = tt
    but_last_run (suc n) most p = by_left (is_none_left most) (but_last_run n (one_less most))
      where
        Rest : Type 0
        Rest = (q : ℕ) → ButLast (q ∷ run_places g.scene item n (one_less most) q)

        by_next : (o : Option ℕ) → after_item g.scene item p ≡ o → Rest
            → ButLast (p ∷ elim o as (λ _. List ℕ) [
              | None ↦ []
              | Some q ↦
                  q ∷ run_places g.scene item n (one_less most) q
            ])
        by_next None e rest = tt
        by_next (Some q) e rest = (stuck p q e, rest q)

        by_left : (b : Bool) → Rest → ButLast (p ∷ elim b as (λ _. List ℕ) [
          | true ↦ []
          | false ↦ elim (after_item g.scene item p) [
            | None ↦ []
            | Some q ↦
                q ∷ run_places g.scene item n (one_less most) q
          ]
        ])
        by_left true rest = tt
        by_left false rest = by_next (after_item g.scene item p) refl rest

    -- at each of these places but the first
    abbrev ButFirst : List ℕ → Type 0
    ButFirst [] = Unit {0}
    ButFirst (p ∷ ps) = All Stuck ps

    but_first_more : (ps : List ℕ) (p : ℕ) → ButFirst ps → Stuck p → ButFirst (ps ++ p ∷ [])
    but_first_more [] p h k = (All-nil Stuck)
    but_first_more (q ∷ ps) p h k = All-append Stuck ps (p ∷ []) h (All-cons Stuck p [] k (All-nil Stuck))

    but_first_reverse : (ps : List ℕ) → ButLast ps → ButFirst (reverse ps)
    but_first_reverse [] h = tt
    but_first_reverse (p ∷ []) h = (All-nil Stuck)
    but_first_reverse (p ∷ q ∷ ps) h = subst ButFirst (sym (reverse-cons p (q ∷ ps)))
        (but_first_more (reverse (q ∷ ps)) p (but_first_reverse (q ∷ ps) h.1) h.0)

    -- What goes on from there, with so many Steps and states, and nothing where it is stuck.
    module _ (k : Search) (fails : (t : State) → Stuck t.place → k t ≡ nothing) (s : State) (p r v : ℕ)
        (room : s.units + 1 ≤ g.matching.frame_limit)
        (goes : (t : State) → t.units ≤ s.units + 1 → Within p r v (k t)) where
      hand : (q : ℕ) (n m i j : ℕ) (x : Stream) → Within n m v (k (record (move_to q s) { units = s.units + 1 }))
          → Within i j v (and_then x k)
          → Within (1 + (n + i)) (m + j) v (and_then (step ▸ (hold g reached (move_to q s) or_else x)) k)
      unfolding each ◌or_else◌ hold
      hand q n m i j x a b =
          subst (λ y. Within (1 + (n + i)) (m + j) v (and_then (step ▸ (y or_else x)) k))
          (sym (held_is g off 1 (move_to q s) (gives reached) room))
          (within_step (n + i) (m + j) v _ (within_or_else n m i j v _ _ a b))

      hand_last : (q n m : ℕ) → Within n m v (k (move_to q s))
          → Within (1 + n) m v (and_then (step ▸ gives reached (move_to q s)) k)
      unfolding each ◌or_else◌
      hand_last q n m a = within_more _ _ _ _ _ _ _ (omega arith) (omega arith) (omega arith)
          (within_step (n + 0) (m + 0) v _ (within_or_else n m 0 0 v _ nothing a (within_nothing 0 0 v)))

      none_at : (q : ℕ) (u : ℕ) → Stuck q → Within 0 0 v (k (record (move_to q s) { units = u }))
      none_at q u h = subst (Within 0 0 v) (sym (fails (record (move_to q s) { units = u }) h)) (within_nothing 0 0 v)

      all_stuck : (ps : List ℕ) → All Stuck ps → Within (length ps) 0 v (and_then (offers g ps s) k)
      unfolding offers each
      all_stuck [] h = within_nothing _ _ _
      all_stuck (q ∷ []) h = hand_last q 0 0 (none_at q s.units (All-head Stuck q [] h))
      all_stuck (q ∷ q' ∷ ps) h =
          within_more _ _ _ _ _ _ _ (omega arith) (omega arith) (omega arith)
          (hand q 0 0 (length (q' ∷ ps)) 0 (offers g (q' ∷ ps) s)
          (none_at q (s.units + 1) (All-head Stuck q (q' ∷ ps) h))
          (all_stuck (q' ∷ ps) (All-tail Stuck q (q' ∷ ps) h)))

      some_first : (ps : List ℕ) → ButFirst ps → Within (length ps + p) r v (and_then (offers g ps s) k)
      unfolding offers each
      some_first [] h = within_nothing _ _ _
      some_first (q ∷ []) h = within_more _ _ _ _ _ _ _ (omega arith) (omega arith) (omega arith)
          (hand_last q p r (goes (move_to q s) (omega arith)))
      some_first (q ∷ q' ∷ ps) h =
          within_more _ _ _ _ _ _ _ (omega arith) (omega arith) (omega arith)
          (hand q p r (length (q' ∷ ps)) 0 (offers g (q' ∷ ps) s)
          (goes (record (move_to q s) { units = s.units + 1 }) (omega arith)) (all_stuck (q' ∷ ps) h))

      some_last : (left : Option ℕ) (ps : List ℕ) → ButLast ps
          → Within (length ps + p) r v (and_then (reluctant g item left ps s) k)
      unfolding reluctant each
      some_last left [] h = within_nothing _ _ _
      some_last left (q ∷ ps) h = by_left (is_none_left left) ps h (some_last (one_less left) ps (but_last_rest q ps h))
        where
          by_rest : (qs : List ℕ) → ButLast (q ∷ qs) → Within (length qs + p) r v
              (and_then (reluctant g item (one_less left) qs s) k)
              → Within (suc (length qs) + p) r v
              (and_then (step ▸ (hold g reached (move_to q s) or_else reluctant g item (one_less left) qs s)) k)
          by_rest [] m w =
              within_more _ _ _ _ _ _ _ (omega arith) (omega arith) (omega arith)
              (hand q p r 0 0 nothing (goes (record (move_to q s) { units = s.units + 1 }) (omega arith))
              (within_nothing 0 0 v))
          by_rest (q' ∷ qs) m w =
              within_more _ _ _ _ _ _ _ (omega arith) (omega arith) (omega arith)
              (hand q 0 0 (length (q' ∷ qs) + p) r (reluctant g item (one_less left) (q' ∷ qs) s)
              (none_at q (s.units + 1) m.0) w)

          by_left : (b : Bool) (qs : List ℕ) → ButLast (q ∷ qs)
              → Within (length qs + p) r v (and_then (reluctant g item (one_less left) qs s) k)
              → Within (suc (length qs) + p) r v
              (and_then (offer_and g b (move_to q s)
              (reach_if g (item_reaches g.scene item q) s (reluctant g item (one_less left) qs s))) k)
          by_left true qs m w = within_more _ _ _ _ _ _ _ (omega arith) (omega arith) (omega arith)
              (hand_last q p r (goes (move_to q s) (omega arith)))
          by_left false qs m w =
              subst (λ y. Within (suc (length qs) + p) r v
              (and_then (step ▸ (hold g reached (move_to q s) or_else y)) k))
              (sym (unreached g off (item_reaches g.scene item q) s _)) (by_rest qs m w)

    -- A repeat of the item, and what goes on from there.
    apart_few : (low : ℕ) (high : Option ℕ) (lazily : Bool) (b : Bound) (k : Search)
        → ((t : State) → Stuck t.place → k t ≡ nothing)
        → FitsIn g off b k → (s : State)
        → s.units + at (plus (steady 1) b.units) (size g off) ≤ g.matching.frame_limit
        → Within (at (plus (turns low high) (product (steady 1) b.steps)) (size g off))
        (at (product (steady 1) b.states) (size g off))
        (s.units + at (plus (steady 1) b.units) (size g off)) (and_then (run_many g item low high lazily s) k)
    unfolding run_many greedy lazy_run
    apart_few low high lazily b k fails fits s le = by_kind lazily
      where
        n : ℕ
        n = size g off

        ps : List ℕ
        ps = drop low (s.place ∷ longest_run g.scene item high s.place)

        are : ButLast ps
        are = but_last_drop low (s.place ∷ longest_run g.scene item high s.place)
            (but_last_run (length g.subject) high s.place)

        v : ℕ
        v = s.units + at (plus (steady 1) b.units) n

        one_more : 1 + at b.units n ≤ at (plus (steady 1) b.units) n
        one_more = let one = at_steady 1 n in let more = at_plus (steady 1) b.units n (omega arith) in
            omega (arith, one, more)

        goes : (t : State) → t.units ≤ s.units + 1 → Within (at b.steps n) (at b.states n) v (k t)
        goes t few = within_more _ _ _ _ _ _ _ (omega arith) (omega arith) (omega (arith, few, one_more))
            (fits.0 t (omega (arith, few, le, one_more)))

        wide : (x : Stream) (m : ℕ) → m ≤ at (turns low high) n → Within (m + at b.steps n) (at b.states n) v x
            → Within (at (plus (turns low high) (product (steady 1) b.steps)) n) (at (product (steady 1) b.states) n)
            v x
        wide x m few w =
            let one = at_steady 1 n in
            let steps : at (product (steady 1) b.steps) n ≡ at b.steps n = at_product (steady 1) b.steps n
            ∙ ap (λ k. k * at b.steps n) one ∙ omega arith in
            let states : at (product (steady 1) b.states) n ≡ at b.states n = at_product (steady 1) b.states n
            ∙ ap (λ k. k * at b.states n) one ∙ omega arith in
            let sum = at_plus (turns low high) (product (steady 1) b.steps) n (omega arith) in
            within_more _ _ _ _ _ _ x (omega (arith, few, steps, sum)) (omega (arith, states)) (omega arith) w

        few : length ps ≤ at (turns low high) n
        few = offered_few g off item low high s.place

        Whole : Stream → Type 0
        Whole x = Within (at (plus (turns low high) (product (steady 1) b.steps)) n)
            (at (product (steady 1) b.states) n) v (and_then x k)

        by_kind : (l : Bool) → Within (at (plus (turns low high) (product (steady 1) b.steps)) n)
            (at (product (steady 1) b.states) n) v (and_then (run_many g item low high l s) k)
        by_kind false =
            subst Whole (sym
            (unreached g off (run_reaches g.scene item high s.place (longest_run g.scene item high s.place)) s
            (offers g (reverse ps) s)))
            (wide (and_then (offers g (reverse ps) s) k) (length (reverse ps))
            (let e = length-reverse ps in omega (arith, e, few))
            (some_first k fails s (at b.steps n) (at b.states n) v (omega (arith, le, one_more)) goes (reverse ps)
            (but_first_reverse ps are)))
        by_kind true =
            let left = option_map (λ m. m - low) high in
            let run = longest_run g.scene item high s.place in
            subst Whole (sym (unreached g off (run_reaches g.scene item (Some low) s.place (take low run)) s
            (reluctant g item left ps s)))
            (wide (and_then (reluctant g item left ps s) k) (length ps) few
            (some_last k fails s (at b.steps n) (at b.states n) v (omega (arith, le, one_more)) goes left ps
            are))

    pub fits_apart : (low : ℕ) (high : Option ℕ) (lazily : Bool) (b : Bound) (k : Search)
        → ((t : State) → Stuck t.place → k t ≡ nothing)
        → FitsIn g off b k
        → FitsIn g off (followed (left_once (turns low high)) b) (λ s. and_then (run_many g item low high lazily s) k)
    fits_apart low high lazily b k fails fits = (
      apart_few low high lazily b k fails fits,
      λ s. onward_and_then g s.place (run_many g item low high lazily s) k (onward_many g item low high lazily s)
          fits.1,
    )
