-- The search of a tree reaches only places up to which a wider expression matches.
use Rattle.std.proofs.Common.{◌≡◌, ℕ, zero, suc, ◌+◌, ◌-◌, ◌≤◌, ℤ, pos, negsuc, Bool, true, false, List, [], ◌∷◌}
use Rattle.std.proofs.Common.{◌++◌, length, drop, reverse, Option, Some, None, inl, inr, refl, sym, subst, arith}
use Rattle.std.specs.Prelude.{IfSome}
use Rattle.std.proofs.lemmas.Bool.{leb-true, and_parts}
use Rattle.std.proofs.lemmas.List.{reverse-append}
use Rattle.frame_store.specs.declared.registers.Span.{Span}
use Rattle.frame_store.specs.Captures.{capture}
use Rattle.pat_tree.specs.declared.nodes.Item.{Item}
use Rattle.pat_tree.specs.declared.nodes.AnchorKind.{AnchorKind}
use Rattle.pat_tree.specs.declared.nodes.Verb.{Verb}
use Rattle.pat_tree.specs.declared.nodes.Verb.TheVariants.{Accept, Fail, Commit, Prune, Skip, Then, Mark}
use Rattle.pat_tree.specs.Nested.{Nested, Callout, repeat}
use Rattle.match_items.specs.Items.{after_item, item_reaches, one_less, is_none_left, run_places, longest_run}
use Rattle.match_items.specs.Items.{break_reaches, after_ref, ref_reaches, holds, anchor_reaches, earliest}
use Rattle.match_items.specs.Subjects.{IsText, IsTextPlace}
use Rattle.match_items.proofs.TextGround.{places_stand}
use Rattle.ordered_search.specs.Stream.{State, Ending, next_branch, prune, skip, commit, by_verb, is_next_branch}
use Rattle.ordered_search.specs.Stream.{is_verb, no_ending, fails_alone, fails_inside, Stream, Search, How, reached}
use Rattle.ordered_search.specs.Stream.{accepted, gives, nothing, exhausted, loop, abort, by_halt, name, shown}
use Rattle.ordered_search.specs.Stream.{captured, step, ends, ◌▸◌, ◌or_else◌, and_then, catch, note, state}
use Rattle.ordered_search.specs.Setting.{Setting, held, hold, reach_if}
use Rattle.ordered_search.specs.Tests.{move_to, goes_to, run_one, run_break, run_ref, run_anchor, offers, greedy}
use Rattle.ordered_search.specs.Tests.{offer_and, reluctant, lazy_run, run_many}
use Rattle.ordered_search.specs.Parts.{Searches, choices, run_group, run_atomic, run_look, forget_passed, back_to}
use Rattle.ordered_search.specs.Parts.{tests, follow, block_of, run_callout, named, skip_to, backs, run_verb}
use Rattle.ordered_search.specs.Parts.{is_over, turn, run_repeat, is_active, returns, run_call}
use Rattle.regex_hir.specs.Re.{Re, empty, byte_in, cat, alt}
use Rattle.regex_hir.specs.Matches.{Matches}
use Rattle.ordered_search.proofs.ForwardStreams.{IsOnWay, IsForward, Forward, with_units}
use Rattle.pat_shape.specs.Wide.{Only}
use Rattle.pat_shape.specs.IsShape.{GoesOn, IsUpTo}
use Rattle.pat_shape.proofs.Turns.{Turns, turns_more}
use Rattle.pat_shape.proofs.OnlyStreams.{only_end, only_gives, only_note, only_last, only_step, only_if, only_if_so}
use Rattle.pat_shape.proofs.OnlyStreams.{only_or_else, only_catch, only_held, only_hold, only_reach_if, only_wider}
use Rattle.pat_shape.proofs.OnlyStreams.{only_each, only_then, only_decide, only_each_any, only_decide_any}

-- each of these places is of P
abbrev Each : (ℕ → Type 0) → List ℕ → Type 0
Each P [] = Unit {0}
Each P (q ∷ qs) = P q × Each P qs

each_append : (P : ℕ → Type 0) (qs rs : List ℕ) → Each P qs → Each P rs → Each P (qs ++ rs)
each_append P [] rs h k = k
each_append P (q ∷ qs) rs h k = (h.0, each_append P qs rs h.1 k)

each_reverse : (P : ℕ → Type 0) (qs : List ℕ) → Each P qs → Each P (reverse qs)
each_reverse P [] h = tt
each_reverse P (q ∷ qs) h = subst (Each P) (sym (reverse-append (q ∷ []) qs))
    (each_append P (reverse qs) (q ∷ []) (each_reverse P qs h.1) (h.0, tt))

-- and so is its number, counted from k
abbrev Numbered : (ℕ → ℕ → Type 0) → ℕ → List ℕ → Type 0
Numbered P k [] = Unit {0}
Numbered P k (q ∷ qs) = P k q × Numbered P (suc k) qs

-- some number from low on
abbrev From : (ℕ → ℕ → Type 0) → ℕ → ℕ → Type 0
From P low q = (n : ℕ) × (low ≤ n) × P n q

numbered_each : (P : ℕ → ℕ → Type 0) (low k : ℕ) (qs : List ℕ) → low ≤ k → Numbered P k qs → Each (From P low) qs
numbered_each P low k [] le h = tt
numbered_each P low k (q ∷ qs) le h = ((k, le, h.0), numbered_each P low (suc k) qs (omega (arith, le)) h.1)

numbered_drop : (P : ℕ → ℕ → Type 0) (low n k : ℕ) (qs : List ℕ) → low ≤ k + n → Numbered P k qs
    → Each (From P low) (drop n qs)
numbered_drop P low zero k qs le h = numbered_each P low k qs (omega (arith, le)) h
numbered_drop P low (suc n) k [] le h = tt
numbered_drop P low (suc n) k (q ∷ qs) le h = numbered_drop P low n (suc k) qs (omega (arith, le)) h.1

-- what is left of a maximum after k
abbrev IsLeft : Option ℕ → ℕ → Option ℕ → Type 0
IsLeft None k most = Unit {0}
IsLeft (Some high) k None = ⊥
IsLeft (Some high) k (Some n) = k + n ≤ high

left_next : (high : Option ℕ) (k : ℕ) (most : Option ℕ) → is_none_left most ≡ false → IsLeft high k most
    → IsUpTo high (suc k) × IsLeft high (suc k) (one_less most)
left_next None k most some h = (tt, tt)
left_next (Some high) k None some h = absurd h
left_next (Some high) k (Some zero) some h = absurd cc
left_next (Some high) k (Some (suc n)) some h = (omega (arith, h), omega (arith, h))

left_first : (high : Option ℕ) → IsUpTo high 0 × IsLeft high 0 high
left_first None = (tt, tt)
left_first (Some n) = (omega arith, omega arith)

-- so many rounds of R as between a minimum and a maximum
abbrev pub Counted : (ℕ → ℕ → Type 0) → ℕ → Option ℕ → ℕ → ℕ → Type 0
Counted R low high p = From (λ n q. Turns R n p q × IsUpTo high n) low

module _ (g : Setting) (text : IsText g.options g.subject) where
  abbrev pub M : Re → ℕ → ℕ → Type 0
  M = Matches g.subject

  -- what is reached is matched
  abbrev pub Wide : Re → Search → Type 0
  Wide re f = (s : State) → IsOnWay g None s → Only (M re s.place) (f s)

  abbrev pub Here : ℕ → Type 0
  Here p = IsTextPlace g.options g.subject p

  -- One item.

  abbrev pub Taken : Item → Re → Type 0
  Taken item a = (p q : ℕ) → Here p → after_item g.scene item p ≡ Some q → M a p q

  only_goes : (P : ℕ → Type 0) (s : State) (o : Option ℕ) → ((q : ℕ) → o ≡ Some q → P q) → Only P (goes_to o s)
  only_goes P s None to = only_end P exhausted
  only_goes P s (Some q) to = only_gives P (move_to q s) (to q refl)

  pub wide_one : (item : Item) (a : Re) → Taken item a → Wide a (run_one g item)
  unfolding run_one
  wide_one item a to s on = only_reach_if (M a s.place) g _ s _ (only_goes _ s _ (λ q e. to s.place q on.here e))

  -- Repeats of one item.

  only_offers : (P : ℕ → Type 0) (ps : List ℕ) (s : State) → Each P ps → Only P (offers g ps s)
  unfolding offers
  only_offers P [] s k = only_end P exhausted
  only_offers P (p ∷ []) s k = only_step P _ (only_gives P (move_to p s) k.0)
  only_offers P (p ∷ q ∷ ps) s k =
      only_step P _ (only_or_else P _ _ (only_hold P g (move_to p s) k.0) (only_offers P (q ∷ ps) s k.1))

  only_offer_and : (P : ℕ → Type 0) (b : Bool) (s : State) (x : Stream) → P s.place → Only P x
      → Only P (offer_and g b s x)
  only_offer_and P true s x here k = only_step P _ (only_gives P s here)
  only_offer_and P false s x here k = only_step P _ (only_or_else P _ _ (only_hold P g s here) k)

  only_reluctant : (P : ℕ → Type 0) (item : Item) (left : Option ℕ) (ps : List ℕ) (s : State) → Each P ps
      → Only P (reluctant g item left ps s)
  unfolding reluctant
  only_reluctant P item left [] s k = only_end P exhausted
  only_reluctant P item left (p ∷ ps) s k =
      only_offer_and P (is_none_left left) (move_to p s) _ k.0
      (only_reach_if P g (item_reaches g.scene item p) s _ (only_reluctant P item (one_less left) ps s k.1))

  module _ (item : Item) (a : Re) (taken : Taken item a) (high : Option ℕ) (from : ℕ) where
    abbrev At : ℕ → ℕ → Type 0
    At n q = Turns (M a) n from q × IsUpTo high n

    places_numbered : (n k : ℕ) (most : Option ℕ) (p : ℕ) → Here p → IsLeft high k most → Turns (M a) k from p
        → Numbered At (suc k) (run_places g.scene item n most p)
    unfolding run_places
    places_numbered zero k most p here left t = tt
    places_numbered (suc n) k most p here left t =
        by_left (λ q there left' t'. places_numbered n (suc k) (one_less most) q there left' t') (is_none_left most)
        refl
      where
        Later : Type 0
        Later = (q : ℕ) → Here q → IsLeft high (suc k) (one_less most) → Turns (M a) (suc k) from q
            → Numbered At (suc (suc k)) (run_places g.scene item n (one_less most) q)

        by_item : Later → is_none_left most ≡ false → (o : Option ℕ) → ((q : ℕ) → o ≡ Some q → M a p q × Here q)
            → Numbered At (suc k) (elim o as (λ _. List ℕ) [
              | None ↦ []
              | Some q ↦
                  q ∷ run_places g.scene item n (one_less most) q
            ])
        by_item later some None to = tt
        by_item later some (Some q) to =
            let there = to q refl in
            let room = left_next high k most some left in
            let more = turns_more (M a) k from p q t there.0 in
            ((more, room.0), later q there.1 room.1 more)

        by_left : Later → (b : Bool) → is_none_left most ≡ b
            → Numbered At (suc k) (elim b as (λ _. List ℕ) [
              | true ↦ []
              | false ↦
                  elim (after_item g.scene item p) [
                    | None ↦ []
                    | Some q ↦
                        q ∷ run_places g.scene item n (one_less most) q
                  ]
            ])
        by_left later true e = tt
        by_left later false e = by_item later e (after_item g.scene item p)
            (λ q e'. (taken p q here e', ((places_stand g.scene text).forward item p q here e').1))

    -- the places that are offered
    many_places : (low : ℕ) → Here from → Each (Counted (M a) low high from)
        (drop low (from ∷ longest_run g.scene item high from))
    many_places low here =
        let first = left_first high in
        numbered_drop At low low 0 (from ∷ longest_run g.scene item high from) (omega arith)
        ((refl, first.0), places_numbered (length g.subject) 0 high from here first.1 refl)

  pub wide_many : (item : Item) (a : Re) → Taken item a → (low : ℕ) (high : Option ℕ) (lazily : Bool) (s : State)
      → IsOnWay g None s → Only (Counted (M a) low high s.place) (run_many g item low high lazily s)
  unfolding run_many greedy lazy_run
  wide_many item a taken low high false s on = only_reach_if _ g _ s _
      (only_offers _ _ s (each_reverse _ _ (many_places item a taken high s.place low on.here)))
  wide_many item a taken low high true s on = only_reach_if _ g _ s _
      (only_reluctant _ item _ _ s (many_places item a taken high s.place low on.here))

  -- Sequences.

  pub wide_cat : (a b : Re) (f f' : Search) → IsForward g None f → Wide a f → Wide b f'
      → Wide (cat a b) (λ s. and_then (f s) f')
  wide_cat a b f f' forth k k' = λ s on.
      only_then (M a s.place) (M (cat a b) s.place) g s.place (f s) f' (k s on) (forth s on)
      (λ u on' m. only_wider (M b u.place) (M (cat a b) s.place) (λ q m'. (u.place, m, m')) (f' u) (k' u on'))

  -- Branches and groups.

  pub wide_left : (a b : Re) (f : Search) → Wide a f → Wide (alt a b) f
  wide_left a b f k = λ s on. only_wider (M a s.place) (M (alt a b) s.place) (λ q m. inl m) (f s) (k s on)

  pub wide_right : (a b : Re) (f : Search) → Wide b f → Wide (alt a b) f
  wide_right a b f k = λ s on. only_wider (M b s.place) (M (alt a b) s.place) (λ q m. inr m) (f s) (k s on)

  wide_alt : (a b : Re) (f f' : Search) → Wide a f → Wide b f'
      → Wide (alt a b) (λ s. step ▸ (held g 1 s (λ t. catch is_next_branch (f t)) or_else f' s))
  wide_alt a b f f' k k' = λ s on.
      let P = M (alt a b) s.place in
      only_step P _ (only_or_else P _ _
      (only_held P g 1 s _ (only_catch P is_next_branch _
      (wide_left a b f k (record s { units = s.units + 1 }) (with_units g None s _ on))))
      (wide_right a b f' k' s on))

  pub wide_choice : (a b : Re) (f : Search) (fs : List Search) → Wide a f → Wide b (choices g fs)
      → Wide (alt a b) (choices g (f ∷ fs))
  unfolding choices
  wide_choice a b f (f' ∷ fs) k k' = wide_alt a b f (choices g (f' ∷ fs)) k k'
  wide_choice a b f [] k k' = λ s on.
      let P = M (alt a b) s.place in
      only_step P _ (only_catch P is_next_branch (f s) (wide_left a b f k s on))

  pub wide_group : (a : Re) (n : Option ℕ) (f : Search) → Wide a f → Wide a (run_group g n f)
  unfolding run_group
  wide_group a None f k = k
  wide_group a (Some n) f k = λ s on.
      only_held (M a s.place) g 1 s _
      (only_each (M a s.place) (M a s.place) _ _ (k (record s { units = s.units + 1 }) (with_units g None s _ on))
      (λ u m. only_hold (M a s.place) g (captured n s.place u) m))

  -- Repeats of a group.

  over_counted : (low : ℕ) (high : Option ℕ) (a : Re) (s u : State) → is_over low high s u ≡ true
      → M a s.place u.place → Counted (M a) low high s.place u.place
  over_counted low (Some k) a s u e m = absurd cc
  over_counted low None a s u e m = (1, leb-true low 1 (and_parts _ _ e).0, ((u.place, m, refl), tt))

  then_counted : (low : ℕ) (high : Option ℕ) (a : Re) (i j k : ℕ) → IfSome high (λ n. 1 ≤ n) → M a i j
      → Counted (M a) (low - 1) (one_less high) j k → Counted (M a) low high i k
  then_counted low None a i j k some m c = let le = c.1 in (suc c.0, omega (arith, le), ((j, m, c.2.0), tt))
  then_counted low (Some n) a i j k some m c = let le = c.1 in let most = c.2.1 in
      (suc c.0, omega (arith, le), ((j, m, c.2.0), omega (arith, some, most)))

  module _ (below : Searches) (body : Nested) (lazily : Bool) (forth : IsForward g None (below body)) (a : Re)
      (k : Wide a (below body)) where
    abbrev Later : Type 0
    Later = (low : ℕ) (high : Option ℕ) → IsUpTo high low → (s : State) → IsOnWay g None s
        → Only (Counted (M a) low high s.place) (below (repeat body low high lazily) s)

    less_up_to : (low : ℕ) (high : Option ℕ) → IsUpTo high low → IsUpTo (one_less high) (low - 1)
    less_up_to low None le = tt
    less_up_to low (Some n) le = omega (arith, le)

    only_turn : (low : ℕ) (high : Option ℕ) → IfSome high (λ n. 1 ≤ n) → IsUpTo high low → Later
        → (s : State) → IsOnWay g None s → Only (Counted (M a) low high s.place) (turn g below body low high lazily s)
    unfolding turn
    only_turn low high some le later s on =
        let P = Counted (M a) low high s.place in
        only_step P _ (only_held P g 1 s _
        (only_then (M a s.place) P g s.place _ _ (k (record s { units = s.units + 1 }) (with_units g None s _ on))
        (forth _ (with_units g None s _ on))
        (λ u on' m. only_if_so P (is_over low high s u) _ _ (λ e. only_gives P u (over_counted low high a s u e m))
        (only_wider (Counted (M a) (low - 1) (one_less high) u.place) P
        (λ q r. then_counted low high a s.place u.place q some m r) _
        (later (low - 1) (one_less high) (less_up_to low high le) u on')))))

    pub only_repeat : (low : ℕ) (high : Option ℕ) → IsUpTo high low → Later
        → (s : State) → IsOnWay g None s → Only (Counted (M a) low high s.place)
        (run_repeat g below body low high lazily s)
    unfolding run_repeat
    only_repeat low high le later s on = by_form low high lazily le
        (λ low' high' some le'. only_turn low' high' some le' later s on)
      where
        none : (high : Option ℕ) → Counted (M a) 0 high s.place s.place
        none None = (0, omega arith, (refl, tt))
        none (Some n) = (0, omega arith, (refl, omega arith))

        least_of : (low : ℕ) (high : Option ℕ) → IsUpTo high (suc low) → IfSome high (λ n. 1 ≤ n)
        least_of low None le = tt
        least_of low (Some n) le = omega (arith, le)

        by_form : (low : ℕ) (high : Option ℕ) (lazy : Bool) → IsUpTo high low
            → ((low' : ℕ) (high' : Option ℕ) → IfSome high' (λ n. 1 ≤ n) → IsUpTo high' low'
            → Only (Counted (M a) low' high' s.place) (turn g below body low' high' lazy s))
            → Only (Counted (M a) low high s.place) (run_repeat g below body low high lazy s)
        by_form (suc low) high lazy le t = t (suc low) high (least_of low high le) le
        by_form zero (Some zero) lazy le t = only_gives _ s (none (Some zero))
        by_form zero (Some (suc n)) true le t = only_or_else _ _ _
            (only_hold (Counted (M a) 0 (Some (suc n)) s.place) g s (none (Some (suc n))))
            (t zero (Some (suc n)) (omega arith) (omega arith))
        by_form zero None true le t = only_or_else _ _ _ (only_hold (Counted (M a) 0 None s.place) g s (none None))
            (t zero None tt tt)
        by_form zero (Some (suc n)) false le t = only_or_else _ _ _
            (t zero (Some (suc n)) (omega arith) (omega arith))
            (only_gives (Counted (M a) 0 (Some (suc n)) s.place) s (none (Some (suc n))))
        by_form zero None false le t = only_or_else _ _ _ (t zero None tt tt)
            (only_gives (Counted (M a) 0 None s.place) s (none None))

  -- Atomic groups, lookarounds, simple assertions.

  pub wide_atomic : (a : Re) (f : Search) → Wide a f → Wide a (run_atomic g f)
  unfolding run_atomic
  wide_atomic a f k = λ s on.
      let P = M a s.place in
      only_held P g 1 s _
      (only_decide P P no_ending _ (λ how u. hold g how (forget_passed s u)) nothing
      (k (record s { units = s.units + 1 }) (with_units g None s _ on)) (only_end P exhausted)
      (λ u m. only_hold P g (forget_passed s u) m))

  -- what is inside doesn't matter: it goes on from the place, or not at all
  pub wide_look : (positive once : Bool) (f : Search) → Wide empty (run_look g positive once f)
  unfolding run_look
  wide_look true true f s on =
      let P = M empty s.place in
      only_held P g 1 s _
      (only_decide_any P fails_alone _ (λ how u. hold g reached (back_to s (forget_passed s u))) nothing
      (only_end P exhausted)
      (λ how u. only_hold P g (back_to s (forget_passed s u)) refl))
  wide_look true false f s on =
      let P = M empty s.place in
      only_held P g 1 s _
      (only_catch P fails_alone _ (only_each_any P _ (λ how u. gives reached (back_to s u))
      (λ how u. only_gives P (back_to s u) refl)))
  wide_look false once f s on =
      let P = M empty s.place in
      only_held P g 1 s _
      (only_decide_any P fails_inside _ (λ how u. nothing) (gives reached s) (only_gives P s refl)
      (λ how u. only_end P exhausted))

  pub wide_anchor : (kind : AnchorKind) (a : Re) → ((p : ℕ) → Here p → holds g.scene kind p ≡ true → M a p p)
      → Wide a (run_anchor g kind)
  unfolding run_anchor
  wide_anchor kind a to s on =
      let t : State = record s { early = earliest g.scene kind s.place s.early } in
      let P = M a s.place in
      only_reach_if P g (anchor_reaches g.scene kind s.place) t _
      (only_if_so P (holds g.scene kind s.place) _ _ (λ e. only_gives P t (to s.place on.here e))
      (only_end P exhausted))

  -- Conditions, by whichever branch.

  pub wide_tests : (a : Re) (b : Bool) (f f' : Search) (s : State) → Only (M a s.place) (f s)
      → Only (M a s.place) (f' s) → Only (M a s.place) (tests b f f' s)
  unfolding tests
  wide_tests a true f f' s k k' = k
  wide_tests a false f f' s k k' = k'

  -- What takes some text.

  abbrev pub Anywhere : ℕ → Type 0
  Anywhere q = Unit {0}

  any_goes : (o : Option ℕ) (s : State) → Only Anywhere (goes_to o s)
  any_goes o s = only_goes Anywhere s o (λ q e. tt)

  pub any_break : (s : State) → Only Anywhere (run_break g s)
  unfolding run_break
  any_break s = only_reach_if Anywhere g (break_reaches g.scene s.place) s _ (any_goes _ s)

  pub any_ref : (ns : List ℕ) (caseless : Bool) (s : State) → Only Anywhere (run_ref g ns caseless s)
  unfolding run_ref
  any_ref [] caseless s = only_if Anywhere g.options.match_unset_backref _ _ (only_gives Anywhere s tt)
      (only_end Anywhere exhausted)
  any_ref (n ∷ ns) caseless s = by_capture (capture s.caps n) (any_ref ns caseless s)
    where
      by_capture : (o : Option Span) → Only Anywhere (run_ref g ns caseless s) → Only Anywhere (elim o [
        | None ↦ run_ref g ns caseless s
        | Some span ↦ reach_if g (ref_reaches g.scene span.from span.to caseless s.place) s
            (goes_to (after_ref g.scene span.from span.to caseless s.place) s)
      ])
      by_capture None h = h
      by_capture (Some span) h = only_reach_if Anywhere g (ref_reaches g.scene span.from span.to caseless s.place) s _
          (any_goes _ s)

  any_returns : (s : State) (how : How) (u : State) → Only Anywhere (returns g s how u)
  unfolding returns
  any_returns s how u = only_held Anywhere g _ (record u { caps = s.caps; calls = s.calls }) (gives reached)
      (only_gives Anywhere _ tt)

  pub any_call : (below : Searches) (n : ℕ) (s : State) → Only Anywhere (run_call g below n s)
  unfolding run_call
  any_call below n s =
      only_step Anywhere _ (only_if Anywhere (is_active n s.place s.calls) _ _ (only_end Anywhere (by_halt loop))
      (only_held Anywhere g 1 s _ (only_catch Anywhere is_verb _
      (only_each_any Anywhere _ (returns g s) (any_returns s)))))

  -- Verbs and callouts.

  wide_named : (a : Re) (o : Option ℕ) (noted : Bool) (f : Search) (s : State)
      → ((t : State) → t.place ≡ s.place → Only (M a s.place) (f t)) → Only (M a s.place) (named o noted s f)
  unfolding named
  wide_named a None noted f s k = k s refl
  wide_named a (Some n) false f s k = only_note (M a s.place) (name n) _ (k (record s { mark = Some n }) refl)
  wide_named a (Some n) true f s k = only_note (M a s.place) (name n) _
      (k (record s { mark = Some n; passed = (n, s.place) ∷ s.passed }) refl)

  only_backs : (p : ℕ) (e : Ending) (s : State) → s.place ≡ p → Only (M empty p) (backs g e s)
  unfolding backs
  only_backs p e s same = only_held (M empty p) g 1 s _
      (only_last (M empty p) (record s { units = s.units + 1 }) e same)

  pub wide_fail : (o : Option ℕ) → Wide (byte_in []) (run_verb g (Fail o))
  unfolding run_verb
  wide_fail None s on = only_end _ exhausted
  wide_fail (Some n) s on = wide_named (byte_in []) (Some n) true _ s
      (λ t e. only_held _ g 1 t _ (only_end _ exhausted))

  pub wide_verb : (v : Verb) → GoesOn v → Wide empty (run_verb g v)
  unfolding run_verb
  wide_verb (Accept o) h s on = absurd h
  wide_verb (Fail o) h s on = absurd h
  wide_verb (Mark o) h s on = wide_named empty o true (hold g reached) s (λ t e. only_hold (M empty s.place) g t e)
  wide_verb (Commit o) h s on = wide_named empty o false _ s (λ t e. only_backs s.place (by_verb commit) t e)
  wide_verb (Prune o) h s on = wide_named empty o false _ s (λ t e. only_backs s.place (by_verb prune) t e)
  wide_verb (Then o) h s on = wide_named empty o false _ s (λ t e. only_backs s.place (by_verb next_branch) t e)
  wide_verb (Skip None) h s on = only_backs s.place (by_verb (skip s.place)) s refl
  wide_verb (Skip (Some n)) h s on = only_backs s.place (skip_to g n s.passed) s refl

  only_follow : (P : ℕ → Type 0) (n : ℤ) (x : Stream) → Only P x → Only P (follow n x)
  unfolding follow
  only_follow P (pos zero) x h = h
  only_follow P (pos (suc n)) x h = only_end P exhausted
  only_follow P (negsuc n) x h = only_end P (by_halt (abort (negsuc n)))

  pub wide_callout : (c : Callout) → Wide empty (run_callout g c (gives reached))
  unfolding run_callout
  wide_callout c s on = only_note (M empty s.place) (shown (block_of c s)) _
      (only_follow (M empty s.place) (g.reply (block_of c s)) _ (only_gives (M empty s.place) s refl))

-- A state that goes forward is at a place of the subject.
module _ (g : Setting) (P : ℕ → Type 0) (p : ℕ) (to : (q : ℕ) → p ≤ q → q ≤ length g.subject → P q) where
  pub only_forward : (x : Stream) → Forward g None p x → Only (λ q. Unit {0}) x → Only P x
  unfolding Only Forward
  only_forward (ends e) w h = tt
  only_forward (note m ▸ x) w h = only_forward x w h
  only_forward (state reached s ▸ x) w h = (to s.place w.0 w.1.here.within, only_forward x w.2 h.1)
  only_forward (state accepted s ▸ x) w h = h
  only_forward (step ▸ x) w h = only_forward x w h
