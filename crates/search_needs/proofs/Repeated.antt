-- Repeats of a group that is left once at most: how many turns there are, by the places at which they begin. Of a group
-- that is left more often: how much so many turns take.
use Rattle.std.proofs.Common.{◌≡◌, ◌∙◌, ℕ, zero, suc, ◌+◌, ◌-◌, ◌*◌, ◌<◌, ◌≤◌, Bool, true, false, length, max}
use Rattle.std.proofs.Common.{Option, Some, None, inl, inr, refl, sym, ap, subst, arith}
use Rattle.std.specs.Prelude.{◌==◌, ◌&&◌, ◌||◌, nat_le, nat_lt}
use Rattle.std.proofs.lemmas.Bool.{leb-true, leb-false, lt-ltb, ltb-true, eq-eqb, eqb-true, eqb-false, or_left}
use Rattle.std.proofs.lemmas.Bool.{or_right, and_parts}
use Rattle.std.proofs.lemmas.Nat.{mul-le}
use Rattle.pat_tree.specs.declared.options.PartialMode.TheVariants.{Off}
use Rattle.pat_tree.specs.Nested.{Nested, repeat}
use Rattle.match_items.specs.Items.{one_less}
use Rattle.pat_bounds.specs.declared.bounds.Growth.{Growth}
use Rattle.pat_bounds.specs.declared.bounds.Bound.{Bound}
use Rattle.pat_bounds.specs.Bounds.{at, steady, plus, product, line, group_turns, group_ends, in_turns, few_turns}
use Rattle.ordered_search.specs.Stream.{State, cut, by_halt, How, reached, note, state, step, Stream, Search, ends}
use Rattle.ordered_search.specs.Stream.{◌▸◌, nothing, gives, ◌or_else◌, each, go_on, and_then}
use Rattle.ordered_search.specs.Setting.{Setting, hold}
use Rattle.ordered_search.specs.Parts.{Searches, is_over, turn, run_repeat}
use Rattle.ordered_search.specs.Run.{level, run}
use Rattle.search_needs.proofs.TameStreams.{Within, within_more, within_nothing, within_gives, within_end}
use Rattle.search_needs.proofs.TameStreams.{within_step, within_or_else, within_each, within_and_then}
use Rattle.search_needs.proofs.Growing.{at_steady, at_line, at_plus, at_product}
use Rattle.search_needs.proofs.Onward.{Near, Onward, GoesOn, onward_ends, onward_gives, onward_step, onward_if}
use Rattle.search_needs.proofs.Onward.{onward_or_else, onward_and_then, onward_held, onward_hold}
use Rattle.search_needs.proofs.Bounded.{size, held_within, fits_hold, Fits, FitsIn}

-- What goes on from states that are near needs to be within bounds there alone.
module _ (g : Setting) (p : ℕ) where
  abbrev is_near : ℕ → Bool
  is_near q = (p == q) || nat_lt (length g.subject - q) (length g.subject - p)

  near_told : (q : ℕ) → Near g p q → is_near q ≡ true
  near_told q (inl e) = or_left (p == q) _ (eq-eqb p q e)
  near_told q (inr less) = or_right (p == q) _ (lt-ltb _ _ less)

  told_near : (q : ℕ) → is_near q ≡ true → Near g p q
  told_near q h = by_same (p == q) refl h
    where
      by_same : (b : Bool) → (p == q) ≡ b
          → (b || nat_lt (length g.subject - q) (length g.subject - p)) ≡ true → Near g p q
      by_same true e h = inl (eqb-true p q e)
      by_same false e h = inr (ltb-true _ _ h)

  abbrev where_near : (How → Search) → How → Search
  where_near f how s = elim (is_near s.place) [ true ↦ f how s | false ↦ nothing ]

  each_near : (x : Stream) (f : How → Search) → Onward g p x → each x f ≡ each x (where_near f)
  unfolding each Onward
  each_near (ends e) f h = refl
  each_near (note m ▸ x) f h = ap (λ y. note m ▸ y) (each_near x f h)
  each_near (state how s ▸ x) f h =
      ap (λ y. f how s or_else y) (each_near x f h.1)
      ∙ ap (λ (b : Bool). elim b as (λ _. Stream) [ true ↦ f how s | false ↦ nothing ] or_else each x (where_near f))
      (sym (near_told s.place h.0))
  each_near (step ▸ x) f h = ap (λ y. step ▸ y) (each_near x f h)

  within_near : (n r u q t v : ℕ) (x : Stream) (f : Search) → Within n r u x → Onward g p x
      → ((s : State) → s.units ≤ u → Near g p s.place → Within q t v (f s))
      → Within (n + r * q) (r * t) v (and_then x f)
  within_near n r u q t v x f h near k = subst (Within (n + r * q) (r * t) v) (sym (each_near x (go_on f) near))
      (within_each n r u q t v x (where_near (go_on f)) h by_place)
    where
      by_place : (s : State) → s.units ≤ u → Within q t v (where_near (go_on f) reached s)
      by_place s few = by_test (is_near s.place) refl
        where
          by_test : (b : Bool) → is_near s.place ≡ b
              → Within q t v (elim b as (λ _. Stream) [ true ↦ f s | false ↦ nothing ])
          by_test true e = k s few (told_near s.place e)
          by_test false e = within_nothing q t v

-- The body is left once at most, with fewer than p Steps and v units more.
module _ (g : Setting) (off : g.matching.«partial» ≡ Off) (body : Nested) (p v i u : ℕ) (steps : i < p) (units : u < v)
    (fits : (d : ℕ) → Fits g off i 1 u (run g d body)) (goes : (d : ℕ) → GoesOn g (run g d body)) where
  -- So many turns at most begin at a place: an empty one past the minimum is the last.
  abbrev Enough : ℕ → ℕ → Option ℕ → ℕ → Type 0
  Enough n low None place = low - 1 + (length g.subject - place + 1) ≤ n
  Enough n low (Some high) place = (low ≤ n) × (high ≤ n)

  abbrev Fit : ℕ → ℕ → State → Stream → Type 0
  Fit n r s x = Within (n * p) r (s.units + n * v) x

  -- one turn less is enough for what follows
  enough_less : (n low : ℕ) (high : Option ℕ) (s t : State) → Enough (suc n) low high s.place
      → Near g s.place t.place
      → is_over low high s t ≡ false → Enough n (low - 1) (one_less high) t.place
  enough_less n low None s t h near e = by_low (nat_le low 1) refl e
    where
      by_low : (b : Bool) → nat_le low 1 ≡ b → (b && (s.place == t.place)) ≡ false
          → low - 1 - 1 + (length g.subject - t.place + 1) ≤ n
      by_low true is e = elim near [
        | inl same ↦ absurd (eqb-false s.place t.place e same)
        | inr less ↦ let few = leb-true low 1 is in omega (arith, h, less, few)
      ]
      by_low false is e = let many = leb-false low 1 is in elim near [
        | inl same ↦ omega (arith, h, same, many)
        | inr less ↦ omega (arith, h, less, many)
      ]
  enough_less n low (Some high) s t h near e = (let a = h.0 in omega (arith, a), let b = h.1 in omega (arith, b))

  over_low : (low : ℕ) (high : Option ℕ) (s t : State) → is_over low high s t ≡ true → low ≤ 1
  over_low low None s t e = leb-true low 1 (and_parts (nat_le low 1) (s.place == t.place) e).0
  over_low low (Some high) s t e = absurd cc

  one_more : (n k : ℕ) → suc n * k ≡ k + n * k
  one_more n k = omega arith

  -- with so much depth
  abbrev RepeatFits : ℕ → Type 0
  RepeatFits d = (n low : ℕ) (high : Option ℕ) (lazily : Bool) (s : State) → Enough n low high s.place
      → s.units + n * v ≤ g.matching.frame_limit
      → Fit n (n + 1 - low) s (run g d (repeat body low high lazily) s)

  -- a turn, and what goes on from it
  turned : (d n low : ℕ) (high : Option ℕ) (lazily : Bool) (s : State)
      → Enough (suc n) low high s.place → s.units + suc n * v ≤ g.matching.frame_limit
      → RepeatFits d → Fit (suc n) (n + 1 - (low - 1)) s (turn g (run g d) body low high lazily s)
  unfolding turn
  turned d n low high lazily s enough room rest =
      let more = one_more n v in
      let longer = one_more n p in
      let t : State = record s { units = s.units + 1 } in
      within_more _ _ (s.units + suc n * v) _ _ _ _ (omega (arith, longer, steps)) (omega arith) (omega arith)
      (within_step _ _ _ _
      (held_within g off _ _ (s.units + suc n * v) 1 s _ (omega (arith, room, more, units))
      (within_near g s.place i 1 (t.units + u) (n * p) (n + 1 - (low - 1)) (s.units + suc n * v) (run g d body t) _
      (fits d t (omega (arith, room, more, units))) (goes d t) by_over)))
    where
      by_over : (t : State) → t.units ≤ s.units + 1 + u → Near g s.place t.place
          → Within (n * p) (n + 1 - (low - 1)) (s.units + suc n * v) (elim (is_over low high s t) [
            | true ↦ gives reached t
            | false ↦ run g d (repeat body (low - 1) (one_less high) lazily) t
          ])
      by_over t few near = by_test (is_over low high s t) refl
        where
          by_test : (b : Bool) → is_over low high s t ≡ b
              → Within (n * p) (n + 1 - (low - 1)) (s.units + suc n * v) (elim b [
                | true ↦ gives reached t
                | false ↦ run g d (repeat body (low - 1) (one_less high) lazily) t
              ])
          by_test true e =
              let more = one_more n v in
              let low' = over_low low high s t e in
              within_more (n * p) 1 (s.units + v) _ _ _ _ (omega arith) (omega (arith, low')) (omega (arith, more))
              (within_gives (n * p) (s.units + v) t (omega (arith, few, units)))
          by_test false e =
              let more = one_more n v in
              within_more _ _ (t.units + n * v) _ _ _ _ (omega arith) (omega arith) (omega (arith, few, more, units))
              (rest n (low - 1) (one_less high) lazily t (enough_less n low high s t enough near e)
              (omega (arith, few, more, units, room)))

  -- it is left before a first turn too
  or_left_here : (n : ℕ) (s : State) (x : Stream) → Fit (suc n) (n + 1 - (0 - 1)) s x
      → Fit (suc n) (suc n + 1 - 0) s (x or_else gives reached s)
  or_left_here n s x h =
      within_more _ _ (s.units + suc n * v) _ _ _ _ (omega arith) (omega arith) (omega arith)
      (within_or_else (suc n * p) (n + 1 - (0 - 1)) 0 1 (s.units + suc n * v) x (gives reached s) h
      (within_gives 0 _ s (omega arith)))

  left_here_or : (n : ℕ) (s : State) (x : Stream) → s.units + suc n * v ≤ g.matching.frame_limit
      → Fit (suc n) (n + 1 - (0 - 1)) s x
      → Fit (suc n) (suc n + 1 - 0) s (hold g reached s or_else x)
  left_here_or n s x room h =
      let more = one_more n v in
      within_more _ _ (s.units + suc n * v) _ _ _ _ (omega arith) (omega arith) (omega arith)
      (within_or_else 0 1 (suc n * p) (n + 1 - (0 - 1)) (s.units + suc n * v) (hold g reached s) x
      (within_more 0 1 (s.units + 1) _ _ _ _ (omega arith) (omega arith) (omega (arith, more, units))
      (fits_hold g off s (omega (arith, room, more, units)))) h)

  repeat_fits : (d : ℕ) → RepeatFits d
  unfolding run level run_repeat
  repeat_fits zero n low high lazily s h room = within_end _ _ _ (by_halt cut) tt
  repeat_fits (suc d) n zero (Some zero) lazily s h room =
      within_more 0 1 s.units _ _ _ _ (omega arith) (omega arith) (omega arith) (within_gives 0 s.units s (omega arith))
  repeat_fits (suc d) zero (suc low) None lazily s h room = absurd (omega (arith, h))
  repeat_fits (suc d) zero (suc low) (Some high) lazily s h room = absurd (let a = h.0 in omega (arith, a))
  repeat_fits (suc d) zero zero None lazily s h room = absurd (omega (arith, h))
  repeat_fits (suc d) zero zero (Some (suc high)) lazily s h room = absurd (let a = h.1 in omega (arith, a))
  repeat_fits (suc d) (suc n) (suc low) high lazily s h room =
      within_more _ _ _ _ _ _ _ (omega arith) (omega arith) (omega arith)
      (turned d n (suc low) high lazily s h room (repeat_fits d))
  repeat_fits (suc d) (suc n) zero None true s h room =
      left_here_or n s _ room (turned d n zero None true s h room (repeat_fits d))
  repeat_fits (suc d) (suc n) zero None false s h room =
      or_left_here n s _ (turned d n zero None false s h room (repeat_fits d))
  repeat_fits (suc d) (suc n) zero (Some (suc high)) true s h room =
      left_here_or n s _ room (turned d n zero (Some (suc high)) true s h room (repeat_fits d))
  repeat_fits (suc d) (suc n) zero (Some (suc high)) false s h room =
      or_left_here n s _ (turned d n zero (Some (suc high)) false s h room (repeat_fits d))

-- The body is left r times at most, with i Steps and u units more: so may each turn be, and the repeat before each.
module _ (g : Setting) (off : g.matching.«partial» ≡ Off) (body : Nested) (i r u : ℕ)
    (fits : (d : ℕ) → Fits g off i r u (run g d body)) where
  -- so many Steps, states and units n turns take
  abbrev steps_in : ℕ → ℕ
  steps_in zero = 0
  steps_in (suc n) = 1 + (i + r * steps_in n)

  abbrev states_in : ℕ → ℕ
  states_in zero = 1
  states_in (suc n) = 1 + r * states_in n

  abbrev units_in : ℕ → ℕ
  units_in zero = 0
  units_in (suc n) = 1 + (u + units_in n)

  some_state : (n : ℕ) → 1 ≤ states_in n
  some_state zero = omega arith
  some_state (suc n) = omega arith

  -- with so much depth
  abbrev FewFit : ℕ → Type 0
  FewFit d = (n low high : ℕ) (lazily : Bool) (s : State) → low ≤ n → high ≤ n
      → s.units + units_in n ≤ g.matching.frame_limit
      → Within (steps_in n) (states_in n) (s.units + units_in n) (run g d (repeat body low (Some high) lazily) s)

  few_turned : (d n low high : ℕ) (lazily : Bool) (s : State) → low - 1 ≤ n → high - 1 ≤ n
      → s.units + units_in (suc n) ≤ g.matching.frame_limit → FewFit d
      → Within (steps_in (suc n)) (r * states_in n) (s.units + units_in (suc n))
      (turn g (run g d) body low (Some high) lazily s)
  unfolding turn
  few_turned d n low high lazily s a b room rest =
      let t : State = record s { units = s.units + 1 } in
      within_step (i + r * steps_in n) (r * states_in n) _ _
      (held_within g off _ _ (s.units + units_in (suc n)) 1 s _ (omega (arith, room))
      (within_and_then i r (t.units + u) (steps_in n) (states_in n) (s.units + units_in (suc n)) (run g d body t) _
      (fits d t (omega (arith, room)))
      (λ t few. within_more _ _ (t.units + units_in n) _ _ _ _ (omega arith) (omega arith) (omega (arith, few))
      (rest n (low - 1) (high - 1) lazily t a b (omega (arith, few, room))))))

  few_fits : (d : ℕ) → FewFit d
  unfolding run level run_repeat
  few_fits zero n low high lazily s a b room = within_end _ _ _ (by_halt cut) tt
  few_fits (suc d) n zero zero lazily s a b room =
      let some = some_state n in
      within_more 0 1 s.units _ _ _ _ (omega arith) (omega (arith, some)) (omega arith)
      (within_gives 0 s.units s (omega arith))
  few_fits (suc d) zero (suc low) high lazily s a b room = absurd (omega (arith, a))
  few_fits (suc d) zero zero (suc high) lazily s a b room = absurd (omega (arith, b))
  few_fits (suc d) (suc n) (suc low) high lazily s a b room =
      within_more _ _ _ _ _ _ _ (omega arith) (omega arith) (omega arith)
      (few_turned d n (suc low) high lazily s (omega (arith, a)) (omega (arith, b)) room (few_fits d))
  few_fits (suc d) (suc n) zero (suc high) true s a b room =
      within_more _ _ (s.units + units_in (suc n)) _ _ _ _ (omega arith) (omega arith) (omega arith)
      (within_or_else 0 1 (steps_in (suc n)) (r * states_in n) (s.units + units_in (suc n)) (hold g reached s) _
      (within_more 0 1 (s.units + 1) _ _ _ _ (omega arith) (omega arith) (omega arith)
      (fits_hold g off s (omega (arith, room))))
      (few_turned d n zero (suc high) true s (omega arith) (omega (arith, b)) room (few_fits d)))
  few_fits (suc d) (suc n) zero (suc high) false s a b room =
      within_more _ _ (s.units + units_in (suc n)) _ _ _ _ (omega arith) (omega arith) (omega arith)
      (within_or_else (steps_in (suc n)) (r * states_in n) 0 1 (s.units + units_in (suc n)) _ (gives reached s)
      (few_turned d n zero (suc high) false s (omega arith) (omega (arith, b)) room (few_fits d))
      (within_gives 0 _ s (omega arith)))

-- Where the body's states go on, those of its repeat do.
module _ (g : Setting) (body : Nested) (goes : (d : ℕ) → GoesOn g (run g d body)) where
  turn_goes : (below : Searches) (low : ℕ) (high : Option ℕ) (lazily : Bool) → GoesOn g (below body)
      → GoesOn g (below (repeat body (low - 1) (one_less high) lazily))
      → GoesOn g (turn g below body low high lazily)
  unfolding turn
  turn_goes below low high lazily h k s =
      onward_step g s.place _ (onward_held g s.place 1 s _
      (onward_and_then g s.place _ _ (h (record s { units = s.units + 1 }))
      (λ t. onward_if g t.place (is_over low high s t) _ _ (onward_gives g t.place reached t (inl refl)) (k t))))

  repeat_goes : (d low : ℕ) (high : Option ℕ) (lazily : Bool)
      → GoesOn g (run g d (repeat body low high lazily))
  unfolding run level run_repeat
  repeat_goes zero low high lazily s = onward_ends g s.place (by_halt cut)
  repeat_goes (suc d) (suc low) high lazily s = turn_goes (run g d) (suc low) high lazily (goes d)
      (repeat_goes d (suc low - 1) (one_less high) lazily) s
  repeat_goes (suc d) zero (Some zero) lazily s = onward_gives g s.place reached s (inl refl)
  repeat_goes (suc d) zero None true s =
      onward_or_else g s.place _ _ (onward_hold g s.place reached s (inl refl))
      (turn_goes (run g d) zero None true (goes d) (repeat_goes d (zero - 1) None true) s)
  repeat_goes (suc d) zero None false s =
      onward_or_else g s.place _ _ (turn_goes (run g d) zero None false (goes d) (repeat_goes d (zero - 1) None false)
      s) (onward_gives g s.place reached s (inl refl))
  repeat_goes (suc d) zero (Some (suc high)) true s =
      onward_or_else g s.place _ _ (onward_hold g s.place reached s (inl refl))
      (turn_goes (run g d) zero (Some (suc high)) true (goes d) (repeat_goes d (zero - 1) (Some (suc high - 1)) true) s)
  repeat_goes (suc d) zero (Some (suc high)) false s =
      onward_or_else g s.place _ _ (turn_goes (run g d) zero (Some (suc high)) false (goes d)
      (repeat_goes d (zero - 1) (Some (suc high - 1)) false) s)
      (onward_gives g s.place reached s (inl refl))

module _ (g : Setting) (off : g.matching.«partial» ≡ Off) where
  -- as many turns as there may be from any place
  abbrev many : ℕ → Option ℕ → ℕ
  many low None = low - 1 + size g off
  many low (Some high) = max low high

  turns_told : (low : ℕ) (high : Option ℕ) → many low high ≤ at (group_turns low high) (size g off)
  turns_told low None =
      let a = at_steady (low - 1) (size g off) in
      let b = at_line (size g off) in
      let c = at_plus (steady (low - 1)) line (size g off) (omega arith) in
      omega (arith, a, b, c)
  turns_told low (Some high) = let a = at_steady (max low high) (size g off) in omega (arith, a)

  ends_told : (low : ℕ) (high : Option ℕ)
      → many low high + 1 - low ≤ at (group_ends low high) (size g off)
  ends_told low None =
      let a = at_steady (1 - low) (size g off) in
      let b = at_line (size g off) in
      let c = at_plus (steady (1 - low)) line (size g off) (omega arith) in
      omega (arith, a, b, c)
  ends_told low (Some high) = let a = at_steady (max low high + 1 - low) (size g off) in omega (arith, a)

  -- each turn takes a Step or holds a unit beside what the body does
  told : (low : ℕ) (high : Option ℕ) (b : Growth) →
      many low high * at (plus (steady 1) b) (size g off) ≤ at (product (group_turns low high) (plus (steady 1) b))
      (size g off)
  told low high b =
      let n = size g off in
      let each = at (plus (steady 1) b) n in
      let e = at_product (group_turns low high) (plus (steady 1) b) n in
      let k = mul-le (many low high) each (at (group_turns low high) n) each (turns_told low high) (omega arith) in
      omega (arith, e, k)

  one_more_than : (b : Growth) → at b (size g off) < at (plus (steady 1) b) (size g off)
  one_more_than b =
      let a = at_steady 1 (size g off) in
      let c = at_plus (steady 1) b (size g off) (omega arith) in
      omega (arith, a, c)

  pub fits_repeat : (d : ℕ) (body : Nested) (low : ℕ) (high : Option ℕ) (lazily : Bool) (a : Bound)
      → at a.states (size g off) ≤ 1
      → ((d : ℕ) → FitsIn g off a (run g d body))
      → FitsIn g off (in_turns low high a) (run g d (repeat body low high lazily))
  fits_repeat d body low high lazily a once fits =
      (few, repeat_goes g body (λ d. (fits d).1) d low high lazily)
    where
      n : ℕ
      n = size g off

      p : ℕ
      p = at (plus (steady 1) a.steps) n

      v : ℕ
      v = at (plus (steady 1) a.units) n

      i : ℕ
      i = at a.steps n

      u : ℕ
      u = at a.units n

      steps : i < p
      steps = one_more_than a.steps

      units : u < v
      units = one_more_than a.units

      body_few : (d : ℕ) → Fits g off i 1 u (run g d body)
      body_few d s le = within_more _ _ _ _ _ _ _ (omega arith) once (omega arith) ((fits d).0 s le)

      enough : (place : ℕ)
          → Enough g off body p v i u steps units body_few (λ d. (fits d).1) (many low high) low high place
      enough place = by_high high
        where
          by_high : (h : Option ℕ)
              → Enough g off body p v i u steps units body_few (λ d. (fits d).1) (many low h) low h place
          by_high None = omega arith
          by_high (Some h) = (omega arith, omega arith)

      few : Fits g off (at (in_turns low high a).steps n) (at (in_turns low high a).states n)
          (at (in_turns low high a).units n) (run g d (repeat body low high lazily))
      few s le =
          let b = told low high a.steps in
          let c = told low high a.units in
          within_more _ _ (s.units + many low high * v) _ _ _ _ b (ends_told low high) (omega (arith, c))
          (repeat_fits g off body p v i u steps units body_few (λ d. (fits d).1) d (many low high) low high lazily s
          (enough s.place) (omega (arith, c, le)))

  -- The numbers of few turns of a.
  module _ (body : Nested) (a : Bound) (fits : (d : ℕ) → FitsIn g off a (run g d body)) where
    abbrev n : ℕ
    n = size g off

    abbrev body_few : (d : ℕ) → Fits g off (at a.steps n) (at a.states n) (at a.units n) (run g d body)
    body_few d = (fits d).0

    abbrev steps_of : ℕ → ℕ
    steps_of = steps_in g off body (at a.steps n) (at a.states n) (at a.units n) body_few

    abbrev states_of : ℕ → ℕ
    states_of = states_in g off body (at a.steps n) (at a.states n) (at a.units n) body_few

    abbrev units_of : ℕ → ℕ
    units_of = units_in g off body (at a.steps n) (at a.states n) (at a.units n) body_few

    steps_told : (k : ℕ) → steps_of k ≤ at (few_turns k a).steps n
    steps_told zero = let e = at_steady 0 n in omega (arith, e)
    steps_told (suc k) =
        let b = few_turns k a in
        let one = at_steady 1 n in
        let own = at_plus (steady 1) a.steps n (omega arith) in
        let all = at_plus (plus (steady 1) a.steps) (product a.states b.steps) n (omega arith) in
        let e = at_product a.states b.steps n in
        let more = mul-le (at a.states n) (steps_of k) (at a.states n) (at b.steps n) (omega arith) (steps_told k) in
        omega (arith, one, own, all, e, more)

    states_told : (k : ℕ) → states_of k ≤ at (few_turns k a).states n
    states_told zero = let e = at_steady 1 n in omega (arith, e)
    states_told (suc k) =
        let b = few_turns k a in
        let one = at_steady 1 n in
        let all = at_plus (steady 1) (product a.states b.states) n (omega arith) in
        let e = at_product a.states b.states n in
        let more = mul-le (at a.states n) (states_of k) (at a.states n) (at b.states n) (omega arith) (states_told k) in
        omega (arith, one, all, e, more)

    units_told : (k : ℕ) → units_of k ≤ at (few_turns k a).units n
    units_told zero = let e = at_steady 0 n in omega (arith, e)
    units_told (suc k) =
        let b = few_turns k a in
        let one = at_steady 1 n in
        let own = at_plus (steady 1) a.units n (omega arith) in
        let all = at_plus (plus (steady 1) a.units) b.units n (omega arith) in
        let before = units_told k in
        omega (arith, one, own, all, before)

    pub fits_few : (d low high : ℕ) (lazily : Bool)
        → FitsIn g off (few_turns (max low high) a) (run g d (repeat body low (Some high) lazily))
    fits_few d low high lazily = (few, repeat_goes g body (λ d. (fits d).1) d low (Some high) lazily)
      where
        k : ℕ
        k = max low high

        few : Fits g off (at (few_turns k a).steps n) (at (few_turns k a).states n) (at (few_turns k a).units n)
            (run g d (repeat body low (Some high) lazily))
        few s le =
            let more = units_told k in
            within_more _ _ (s.units + units_of k) _ _ _ _ (steps_told k) (states_told k) (omega (arith, more))
            (few_fits g off body (at a.steps n) (at a.states n) (at a.units n) body_few d k low high lazily s
            (omega arith) (omega arith) (omega (arith, more, le)))
