-- The search of a tree reaches each place up to which an expression matches that takes no more than it.
use Rattle.std.proofs.Common.{◌≡◌, ℕ, zero, suc, ◌+◌, ◌-◌, ◌<◌, ◌≤◌, Bool, true, false, List, [], ◌∷◌, ◌++◌, length}
use Rattle.std.proofs.Common.{drop, reverse, Option, Some, None, ◌⊎◌, inl, inr, refl, sym, subst, arith}
use Rattle.std.specs.Prelude.{option_map, nat_le, ◌==◌}
use Rattle.std.proofs.lemmas.Bool.{eqb-true, and_parts}
use Rattle.std.proofs.lemmas.List.{reverse-append}
use Rattle.pat_tree.specs.declared.nodes.Item.{Item}
use Rattle.pat_tree.specs.Nested.{Nested, repeat}
use Rattle.match_items.specs.Items.{after_item, item_reaches, one_less, is_none_left, run_places, longest_run}
use Rattle.match_items.specs.Subjects.{IsText}
use Rattle.match_items.proofs.TextGround.{places_stand}
use Rattle.ordered_search.specs.Stream.{State, is_next_branch, Stream, Search, reached, gives, nothing, ◌or_else◌}
use Rattle.ordered_search.specs.Stream.{and_then, catch}
use Rattle.ordered_search.specs.Setting.{Setting, hold, reach_if}
use Rattle.ordered_search.specs.Tests.{move_to, goes_to, run_one, offers, greedy, offer_and, reluctant, lazy_run}
use Rattle.ordered_search.specs.Tests.{run_many}
use Rattle.ordered_search.specs.Parts.{Searches, choices, run_group, is_over, turn, run_repeat}
use Rattle.regex_hir.specs.Re.{Re, cat, alt}
use Rattle.ordered_search.proofs.ForwardStreams.{IsOnWay, IsForward, with_units}
use Rattle.pat_shape.specs.IsShape.{IsUpTo}
use Rattle.pat_shape.proofs.Turns.{Turns}
use Rattle.pat_shape.specs.Exact.{Full, Reaches}
use Rattle.pat_shape.proofs.FullStreams.{full_or_else, full_fewer, full_none, full_gives, full_step, full_if}
use Rattle.pat_shape.proofs.FullStreams.{full_caught, full_held, full_hold, full_reach_if, full_then, full_marked}
use Rattle.pat_shape.proofs.WideSearch.{M, Wide, Here, Counted}

some_same : (a b : ℕ) → Some a ≡ Some b → a ≡ b
some_same a b e = cc

-- the place stands in the list, and has this number there
abbrev Among : ℕ → List ℕ → Type 0
Among e [] = ⊥
Among e (q ∷ qs) = (q ≡ e) ⊎ Among e qs

abbrev At : ℕ → ℕ → List ℕ → Type 0
At k e [] = ⊥
At zero e (q ∷ qs) = q ≡ e
At (suc k) e (q ∷ qs) = At k e qs

at_among : (k e : ℕ) (qs : List ℕ) → At k e qs → Among e qs
at_among k e [] h = absurd h
at_among zero e (q ∷ qs) h = inl h
at_among (suc k) e (q ∷ qs) h = inr (at_among k e qs h)

at_drop : (low k e : ℕ) (qs : List ℕ) → low ≤ k → At k e qs → At (k - low) e (drop low qs)
at_drop zero k e qs le h = subst (λ n. At n e qs) {x = k} {y = k - 0} (omega arith) h
at_drop (suc low) k e [] le h = absurd h
at_drop (suc low) zero e (q ∷ qs) le h = absurd (omega (arith, le))
at_drop (suc low) (suc k) e (q ∷ qs) le h = subst (λ n. At n e (drop low qs)) {x = k - low} {y = suc k - suc low}
    (omega arith) (at_drop low k e qs (omega (arith, le)) h)

among_first : (e : ℕ) (qs rs : List ℕ) → Among e qs → Among e (qs ++ rs)
among_first e [] rs h = absurd h
among_first e (q ∷ qs) rs (inl h) = inl h
among_first e (q ∷ qs) rs (inr h) = inr (among_first e qs rs h)

among_last : (e : ℕ) (qs rs : List ℕ) → Among e rs → Among e (qs ++ rs)
among_last e [] rs h = h
among_last e (q ∷ qs) rs h = inr (among_last e qs rs h)

among_reverse : (e : ℕ) (qs : List ℕ) → Among e qs → Among e (reverse qs)
among_reverse e [] h = absurd h
among_reverse e (q ∷ qs) (inl h) = subst (Among e) (sym (reverse-append (q ∷ []) qs))
    (among_last e (reverse qs) (q ∷ []) (inl h))
among_reverse e (q ∷ qs) (inr h) = subst (Among e) (sym (reverse-append (q ∷ []) qs))
    (among_first e (reverse qs) (q ∷ []) (among_reverse e qs h))

-- a maximum after one more, and after so many
up_to_less : (most : Option ℕ) (k : ℕ) → IsUpTo most (suc k) → IsUpTo (one_less most) k
up_to_less None k h = tt
up_to_less (Some n) k h = omega (arith, h)

up_to_after : (most : Option ℕ) (low k : ℕ) → IsUpTo most k → IsUpTo (option_map (λ n. n - low) most) (k - low)
up_to_after None low k h = tt
up_to_after (Some n) low k h = omega (arith, h)

some_left : (most : Option ℕ) (k : ℕ) → is_none_left most ≡ true → IsUpTo most k → k ≡ 0
some_left None k e h = absurd cc
some_left (Some n) k e h = let none = eqb-true n 0 e in omega (arith, none, h)

module _ (g : Setting) (text : IsText g.options g.subject) where
  -- what is matched is reached
  abbrev pub Exact : Re → Search → Type 0
  Exact a f = (s : State) → IsOnWay g None s → Full (M g text a s.place) (f s)

  -- One item.

  abbrev pub Given : Item → Re → Type 0
  Given item a = (p q : ℕ) → Here g text p → M g text a p q → after_item g.scene item p ≡ Some q

  full_goes : (P : ℕ → Type 0) (s : State) (o : Option ℕ) → ((e : ℕ) → P e → o ≡ Some e) → Full P (goes_to o s)
  full_goes P s None to = full_none P (λ e p. let there = to e p in absurd cc)
  full_goes P s (Some q) to = full_gives P (move_to q s) (λ e p. some_same q e (to e p))

  pub exact_one : (item : Item) (a : Re) → Given item a → Exact a (run_one g item)
  unfolding run_one
  exact_one item a to s on = full_reach_if (M g text a s.place) g _ s _
      (full_goes _ s _ (λ e m. to s.place e on.here m))

  -- Repeats of one item.

  full_offers : (ps : List ℕ) (s : State) → Full (λ e. Among e ps) (offers g ps s)
  unfolding offers
  full_offers [] s = full_none (λ e. Among e []) (λ e h. h)
  full_offers (p ∷ []) s = full_step (λ e. Among e (p ∷ [])) _
      (full_gives (λ e. Among e (p ∷ [])) (move_to p s) (λ e h. only_one e h))
    where
      only_one : (e : ℕ) → (p ≡ e) ⊎ ⊥ → p ≡ e
      only_one e (inl h) = h
      only_one e (inr h) = absurd h
  full_offers (p ∷ q ∷ ps) s =
      full_step (λ e. Among e (p ∷ q ∷ ps)) _
      (full_or_else (λ e. p ≡ e) (λ e. Among e (q ∷ ps)) _ _ (full_hold (λ e. p ≡ e) g (move_to p s) (λ e h. h))
      (full_offers (q ∷ ps) s))

  -- the place has a number in the list that is left
  abbrev Left : Option ℕ → List ℕ → ℕ → Type 0
  Left left ps e = (k : ℕ) × At k e ps × IsUpTo left k

  full_reluctant : (item : Item) (left : Option ℕ) (ps : List ℕ) (s : State)
      → Full (Left left ps) (reluctant g item left ps s)
  unfolding reluctant
  full_reluctant item left [] s = full_none (Left left []) (λ e h. h.1)
  full_reluctant item left (p ∷ ps) s = by_left (full_reluctant item (one_less left) ps s) (is_none_left left) refl
    where
      Rest : Type 0
      Rest = Full (Left (one_less left) ps) (reluctant g item (one_less left) ps s)

      x : Stream
      x = reach_if g (item_reaches g.scene item p) s (reluctant g item (one_less left) ps s)

      later : Rest → Full (Left (one_less left) ps) x
      later rest = full_reach_if (Left (one_less left) ps) g _ s _ rest

      alone : is_none_left left ≡ true → (e : ℕ) → Left left (p ∷ ps) e → p ≡ e
      alone none e h = let first = some_left left h.0 none h.2 in subst (λ k. At k e (p ∷ ps)) first h.1

      either : (e : ℕ) → Left left (p ∷ ps) e → (p ≡ e) ⊎ Left (one_less left) ps e
      either e h = by_number h.0 h.1 h.2
        where
          by_number : (k : ℕ) → At k e (p ∷ ps) → IsUpTo left k → (p ≡ e) ⊎ Left (one_less left) ps e
          by_number zero at le = inl at
          by_number (suc k) at le = inr (k, at, up_to_less left k le)

      by_left : Rest → (b : Bool) → is_none_left left ≡ b → Full (Left left (p ∷ ps)) (offer_and g b (move_to p s) x)
      by_left rest true none = full_step (Left left (p ∷ ps)) _
          (full_gives (Left left (p ∷ ps)) (move_to p s) (alone none))
      by_left rest false some =
          full_step (Left left (p ∷ ps)) _ (full_fewer (λ e. (p ≡ e) ⊎ Left (one_less left) ps e) (Left left (p ∷ ps))
          either _
          (full_or_else (λ e. p ≡ e) (Left (one_less left) ps) _ _ (full_hold (λ e. p ≡ e) g (move_to p s) (λ e h. h))
          (later rest)))

  module _ (item : Item) (a : Re) (given : Given item a) where
    abbrev R : ℕ → ℕ → Type 0
    R = M g text a

    one_on : (p q : ℕ) → Here g text p → R p q → (p < q) × Here g text q
    one_on p q here m = let f = (places_stand g.scene text).forward item p q here (given p q here m) in (f.0, f.1)

    -- each round takes something
    turns_long : (k p e : ℕ) → Here g text p → Turns R k p e → p + k ≤ length g.subject
    turns_long zero p e here t = let within = here.within in omega (arith, within)
    turns_long (suc k) p e here t =
        let on = one_on p t.0 here t.1 in
        let rest = turns_long k t.0 e on.1 t.2 in
        let further = on.0 in omega (arith, rest, further)

    places_full : (n k : ℕ) (most : Option ℕ) (p e : ℕ) → Here g text p → Turns R (suc k) p e → IsUpTo most (suc k)
        → suc k ≤ n → At k e (run_places g.scene item n most p)
    unfolding run_places
    places_full zero k most p e here t le few = absurd (omega (arith, few))
    places_full (suc n) k most p e here t le few =
        by_left (λ j q there u le few. places_full n j (one_less most) q e there u le few) (is_none_left most) refl
      where
        Rest : Type 0
        Rest = (j q : ℕ) → Here g text q → Turns R (suc j) q e → IsUpTo (one_less most) (suc j) → suc j ≤ n
            → At j e (run_places g.scene item n (one_less most) q)

        on : (p < t.0) × Here g text t.0
        on = one_on p t.0 here t.1

        later : Rest → (k : ℕ) → Turns R k t.0 e → IsUpTo most (suc k) → suc k ≤ suc n
            → At k e (t.0 ∷ run_places g.scene item n (one_less most) t.0)
        later rest zero u le few = sym u
        later rest (suc k) u le few = rest k t.0 on.1 u (up_to_less most (suc k) le) (omega (arith, few))

        by_left : Rest → (b : Bool) → is_none_left most ≡ b
            → At k e (elim b as (λ _. List ℕ) [
              | true ↦ []
              | false ↦
                  elim (after_item g.scene item p) [
                    | None ↦ []
                    | Some q ↦
                        q ∷ run_places g.scene item n (one_less most) q
                  ]
            ])
        by_left rest true none = let first = some_left most (suc k) none le in absurd (omega (arith, first))
        by_left rest false some =
            subst (λ (o : Option ℕ). At k e
            (elim o as (λ _. List ℕ) [ None ↦ [] | Some q ↦ q ∷ run_places g.scene item n (one_less most) q ]))
            (sym (given p t.0 here t.1)) (later rest k t.2 le few)

    -- where so many rounds lead
    counted_at : (low : ℕ) (high : Option ℕ) (p e : ℕ) → Here g text p → (c : Counted R low high p e)
        → At c.0 e (p ∷ longest_run g.scene item high p)
    counted_at low high p e here c = by_number c.0 c.2.0 c.2.1
      where
        by_number : (n : ℕ) → Turns R n p e → IsUpTo high n → At n e (p ∷ longest_run g.scene item high p)
        by_number zero t le = sym t
        by_number (suc k) t le = let long = turns_long (suc k) p e here t in
            places_full (length g.subject) k high p e here t le (omega (arith, long))

    pub exact_many : (low : ℕ) (high : Option ℕ) (lazily : Bool) (s : State) → IsOnWay g None s
        → Full (Counted R low high s.place) (run_many g item low high lazily s)
    unfolding run_many greedy lazy_run
    exact_many low high false s on =
        full_reach_if (Counted R low high s.place) g _ s _
        (full_fewer (λ e. Among e (reverse (drop low (s.place ∷ longest_run g.scene item high s.place))))
        (Counted R low high s.place)
        (λ e c. among_reverse e _
        (at_among (c.0 - low) e _ (at_drop low c.0 e _ c.1 (counted_at low high s.place e on.here c)))) _
        (full_offers _ s))
    exact_many low high true s on =
        full_reach_if (Counted R low high s.place) g _ s _
        (full_fewer (Left (option_map (λ n. n - low) high)
        (drop low (s.place ∷ longest_run g.scene item high s.place))) (Counted R low high s.place)
        (λ e c. (
          c.0 - low,
          at_drop low c.0 e _ c.1 (counted_at low high s.place e on.here c),
          up_to_after high low c.0 c.2.1,
        )) _ (full_reluctant item _ _ s))

  -- Sequences, branches and groups.

  pub exact_cat : (a b : Re) (f f' : Search) → IsForward g None f → Wide g text a f → Exact a f → Exact b f'
      → Exact (cat a b) (λ s. and_then (f s) f')
  exact_cat a b f f' forth wide k k' s on =
      full_then g (M g text a s.place) (M g text b) (M g text a s.place) s.place (f s) f' (k s on) (wide s on)
      (forth s on) (λ u on' m. k' u on')

  pub exact_choice : (a b : Re) (f : Search) (fs : List Search) → Exact a f → Exact b (choices g fs)
      → Exact (alt a b) (choices g (f ∷ fs))
  unfolding choices Reaches
  exact_choice a b f (f' ∷ fs) k k' s on =
      full_step (M g text (alt a b) s.place) _
      (full_or_else (M g text a s.place) (M g text b s.place) _ _
      (full_held (M g text a s.place) g 1 s _ (full_caught (M g text a s.place) _
      (k (record s { units = s.units + 1 }) (with_units g None s _ on))))
      (k' s on))
  exact_choice a b f [] k k' s on =
      full_step (M g text (alt a b) s.place) _
      (full_fewer (λ e. M g text a s.place e ⊎ M g text b s.place e) (M g text (alt a b) s.place) (λ e m. m) _
      (both (k s on) (k' s on)))
    where
      both : Full (M g text a s.place) (f s) → Full (M g text b s.place) nothing
          → Full (λ e. M g text a s.place e ⊎ M g text b s.place e) (catch is_next_branch (f s))
      both h none = full_caught _ _ (full_fewer (M g text a s.place)
          (λ e. M g text a s.place e ⊎ M g text b s.place e) (λ e m. first e m) _ h)
        where
          first : (e : ℕ) → M g text a s.place e ⊎ M g text b s.place e → M g text a s.place e
          first e (inl m) = m
          first e (inr m) = absurd (none.1 e m)

  pub exact_group : (a : Re) (n : Option ℕ) (f : Search) → Exact a f → Exact a (run_group g n f)
  unfolding run_group
  exact_group a None f k = k
  exact_group a (Some n) f k = λ s on.
      full_held (M g text a s.place) g 1 s _
      (full_marked g n s.place (M g text a s.place) _ (k (record s { units = s.units + 1 }) (with_units g None s _ on)))

  -- Repeats of a group whose turns take something.

  module _ (below : Searches) (body : Nested) (lazily : Bool) (forth : IsForward g None (below body)) (a : Re)
      (wide : Wide g text a (below body)) (k : Exact a (below body))
      (solid : (i j : ℕ) → M g text a i j → i < j) where
    abbrev Goes : ℕ → Option ℕ → State → Type 0
    Goes low high s = Full (Counted (M g text a) low high s.place) (below (repeat body low high lazily) s)

    abbrev Turned : ℕ → Option ℕ → ℕ → ℕ → Type 0
    Turned low high p e = (m : ℕ) × M g text a p m × Counted (M g text a) (low - 1) (one_less high) m e

    not_over : (low : ℕ) (high : Option ℕ) (s u : State) → s.place < u.place → is_over low high s u ≡ true → ⊥
    not_over low (Some n) s u further e = absurd cc
    not_over low None s u further e = let same = eqb-true s.place u.place
        (and_parts (nat_le low 1) (s.place == u.place) e).1 in omega (arith, same, further)

    full_turn : (low : ℕ) (high : Option ℕ) → ((s : State) → IsOnWay g None s → Goes (low - 1) (one_less high) s)
        → (s : State) → IsOnWay g None s → Full (Turned low high s.place) (turn g below body low high lazily s)
    unfolding turn
    full_turn low high later s on =
        full_step (Turned low high s.place) _
        (full_held (Turned low high s.place) g 1 s _
        (full_then g (M g text a s.place) (Counted (M g text a) (low - 1) (one_less high)) (M g text a s.place)
        s.place _ _
        (k (record s { units = s.units + 1 }) (with_units g None s _ on))
        (wide (record s { units = s.units + 1 }) (with_units g None s _ on)) (forth _ (with_units g None s _ on))
        (λ u on' m. full_if (Counted (M g text a) (low - 1) (one_less high) u.place) (is_over low high s u) _ _
        (λ e. absurd (not_over low high s u (solid s.place u.place m) e)) (λ e. later u on'))))

    -- a first turn, and the others
    first_of : (low : ℕ) (high : Option ℕ) (n p e : ℕ) → low ≤ suc n → Turns (M g text a) (suc n) p e
        → IsUpTo high (suc n) → Turned low high p e
    first_of low high n p e le t most = (t.0, t.1, (n, omega (arith, le), (t.2, up_to_less high n most)))

    pub full_repeat : (low : ℕ) (high : Option ℕ) → ((s : State) → IsOnWay g None s → Goes (low - 1) (one_less high) s)
        → (s : State) → IsOnWay g None s → Full (Counted (M g text a) low high s.place)
        (run_repeat g below body low high lazily s)
    unfolding run_repeat
    full_repeat low high later s on = by_form low high lazily (full_turn low high later s on)
      where
        turned : (low : ℕ) (high : Option ℕ) (e : ℕ) → Counted (M g text a) low high s.place e
            → ((s.place ≡ e) × (low ≡ 0)) ⊎ Turned low high s.place e
        turned low high e c = by_number c.0 c.1 c.2.0 c.2.1
          where
            by_number : (n : ℕ) → low ≤ n → Turns (M g text a) n s.place e → IsUpTo high n
                → ((s.place ≡ e) × (low ≡ 0)) ⊎ Turned low high s.place e
            by_number zero le t most = inl (sym t, omega (arith, le))
            by_number (suc n) le t most = inr (first_of low high n s.place e le t most)

        here_or : (high : Option ℕ) (e : ℕ) → Counted (M g text a) 0 high s.place e
            → (s.place ≡ e) ⊎ Turned 0 high s.place e
        here_or high e c = by_side (turned 0 high e c)
          where
            by_side : ((s.place ≡ e) × (◌≡◌ {A = ℕ} 0 0)) ⊎ Turned 0 high s.place e
                → (s.place ≡ e) ⊎ Turned 0 high s.place e
            by_side (inl h) = inl h.0
            by_side (inr h) = inr h

        swapped : (high : Option ℕ) (e : ℕ) → Counted (M g text a) 0 high s.place e
            → Turned 0 high s.place e ⊎ (s.place ≡ e)
        swapped high e c = by_side (here_or high e c)
          where
            by_side : (s.place ≡ e) ⊎ Turned 0 high s.place e → Turned 0 high s.place e ⊎ (s.place ≡ e)
            by_side (inl h) = inr h
            by_side (inr h) = inl h

        must_turn : (low : ℕ) (high : Option ℕ) (e : ℕ) → Counted (M g text a) (suc low) high s.place e
            → Turned (suc low) high s.place e
        must_turn low high e c = by_side (turned (suc low) high e c)
          where
            by_side : ((s.place ≡ e) × (suc low ≡ 0)) ⊎ Turned (suc low) high s.place e
                → Turned (suc low) high s.place e
            by_side (inl h) = let no = h.1 in absurd (omega (arith, no))
            by_side (inr h) = h

        stays : (e : ℕ) → Counted (M g text a) 0 (Some 0) s.place e → s.place ≡ e
        stays e c = let few = c.2.1 in by_number c.0 few c.2.0
          where
            by_number : (n : ℕ) → n ≤ 0 → Turns (M g text a) n s.place e → s.place ≡ e
            by_number zero le t = sym t
            by_number (suc n) le t = absurd (omega (arith, le))

        early : (high : Option ℕ) (y : Stream) → Full (Turned 0 high s.place) y
            → Full (Counted (M g text a) 0 high s.place) (hold g reached s or_else y)
        early high y t =
            full_fewer (λ e. (s.place ≡ e) ⊎ Turned 0 high s.place e) (Counted (M g text a) 0 high s.place)
            (here_or high) _
            (full_or_else (λ e. s.place ≡ e) (Turned 0 high s.place) _ y (full_hold (λ e. s.place ≡ e) g s (λ e h. h))
            t)

        late : (high : Option ℕ) (y : Stream) → Full (Turned 0 high s.place) y
            → Full (Counted (M g text a) 0 high s.place) (y or_else gives reached s)
        late high y t =
            full_fewer (λ e. Turned 0 high s.place e ⊎ (s.place ≡ e)) (Counted (M g text a) 0 high s.place)
            (swapped high) _
            (full_or_else (Turned 0 high s.place) (λ e. s.place ≡ e) y _ t (full_gives (λ e. s.place ≡ e) s (λ e h. h)))

        by_form : (low : ℕ) (high : Option ℕ) (lazy : Bool)
            → Full (Turned low high s.place) (turn g below body low high lazy s)
            → Full (Counted (M g text a) low high s.place) (run_repeat g below body low high lazy s)
        by_form (suc low) high lazy t = full_fewer (Turned (suc low) high s.place)
            (Counted (M g text a) (suc low) high s.place) (must_turn low high) _ t
        by_form zero (Some zero) lazy t = full_gives (Counted (M g text a) 0 (Some 0) s.place) s stays
        by_form zero (Some (suc n)) true t = early (Some (suc n)) _ t
        by_form zero None true t = early None _ t
        by_form zero (Some (suc n)) false t = late (Some (suc n)) _ t
        by_form zero None false t = late None _ t
