-- The search of a tree goes forward.
use Rattle.std.proofs.Common.{◌≡◌, ℕ, zero, suc, ◌+◌, ◌-◌, ◌<◌, ◌≤◌, Bool, true, false, List, [], ◌∷◌, ◌++◌, length}
use Rattle.std.proofs.Common.{drop, reverse, Option, Some, None, refl, sym, subst, arith, ◌==◌}
use Rattle.std.specs.Prelude.{nat_lt}
use Rattle.std.proofs.lemmas.List.{reverse-append}
use Rattle.pat_tree.specs.declared.nodes.Item.{Item}
use Rattle.pat_tree.specs.declared.nodes.AnchorKind.{AnchorKind}
use Rattle.pat_tree.specs.Nested as tree
use Rattle.pat_tree.specs.Nested.{Nested, Row, Test, Other, Callout, repeat}
use Rattle.pat_tree.specs.declared.nodes.Verb.{Verb}
use Rattle.pat_tree.specs.declared.nodes.Verb.TheVariants.{Accept, Fail, Commit, Prune, Skip, Then, Mark}
use Rattle.pat_tree.specs.Groups.{group_of}
use Rattle.pat_lengths.specs.Lengths.{SomeLengths}
use Rattle.frame_store.specs.declared.registers.Span.{Span}
use Rattle.frame_store.specs.Captures.{capture}
use Rattle.match_items.specs.Items.{one_less, is_none_left, after_item, item_reaches, run_places, longest_run}
use Rattle.match_items.specs.Items.{place_before, places_back, break_len, after_ref, ref_reaches, holds}
use Rattle.match_items.specs.Items.{anchor_reaches}
use Rattle.match_items.specs.Subjects.{IsText, IsTextPlace}
use Rattle.match_items.proofs.TextGround.{places_stand}
use Rattle.ordered_search.specs.Stream.{State, VerbEnding, next_branch, prune, skip, commit, Ending, exhausted}
use Rattle.ordered_search.specs.Stream.{by_verb, How, reached, accepted, Stream, Search, nothing, gives, no_ending}
use Rattle.ordered_search.specs.Stream.{is_verb, is_next_branch, fails_alone, fails_inside, captured, changes}
use Rattle.ordered_search.specs.Stream.{and_then}
use Rattle.ordered_search.specs.Setting.{Setting, branch_lengths, held, hold, reach_if, verb_name}
use Rattle.ordered_search.specs.Tests.{move_to, goes_to, run_one, run_break, run_ref, run_anchor, offers, greedy}
use Rattle.ordered_search.specs.Tests.{offer_and, reluctant, lazy_run, run_many}
use Rattle.ordered_search.specs.Parts.{Searches, in_order, choices, branches, run_group, back_to, forget_passed}
use Rattle.ordered_search.specs.Parts.{run_atomic, run_look, asserts, tests, some_set, is_called, is_called_of}
use Rattle.ordered_search.specs.Parts.{begun_at, ends_at, one_try, tries, tries_within, run_behind, is_over, turn}
use Rattle.ordered_search.specs.Parts.{run_repeat, run_tree, is_active, returns, run_call, block_of, run_callout}
use Rattle.ordered_search.specs.Parts.{named, same_text, skip_to, backs, run_verb}
use Rattle.ordered_search.specs.Run.{level, levels, levels_behind, level_test, level_other, run}
use Rattle.ordered_search.proofs.ForwardStreams.{LeadsInside, ArePassedInside, IsOnWay, Forward, IsForward}
use Rattle.ordered_search.proofs.ForwardStreams.{forward_nothing, forward_backs, forward_loop, forward_gives}
use Rattle.ordered_search.proofs.ForwardStreams.{forward_gives_so, forward_name, forward_shown, forward_step}
use Rattle.ordered_search.proofs.ForwardStreams.{forward_if, forward_less, forward_or_else, forward_each}
use Rattle.ordered_search.proofs.ForwardStreams.{forward_and_then, forward_catch, forward_decide, with_units}
use Rattle.ordered_search.proofs.ForwardStreams.{with_early, with_place, with_keep, with_mark, with_capture}
use Rattle.ordered_search.proofs.ForwardStreams.{with_passed, with_calls, with_returned, loosened, with_return}
use Rattle.ordered_search.proofs.ForwardStreams.{each_inside, decide_inside, forward_held, forward_hold}
use Rattle.ordered_search.proofs.ForwardStreams.{forward_hold_so, forward_reach_if}

-- a place that is told is as far as what was taken
told_far : (b : Bool) (p n q : ℕ) → elim b as (λ _. Option ℕ) [ true ↦ Some (p + n) | false ↦ None ] ≡ Some q → p ≤ q
told_far true p n q e = let same : p + n ≡ q = cc in omega (arith, same)
told_far false p n q e = absurd (cc)

-- a place of the subject
abbrev Stands : Setting → ℕ → Type 0
Stands g p = IsTextPlace g.options g.subject p

-- all of these places are at p or past it, and n holds of them
abbrev AreBetween : ℕ → (ℕ → Type 0) → List ℕ → Type 0
AreBetween p n [] = Unit {0}
AreBetween p n (q ∷ qs) = ((p ≤ q) × n q) × AreBetween p n qs

between_less : (p q : ℕ) (n : ℕ → Type 0) (qs : List ℕ) → p ≤ q → AreBetween q n qs → AreBetween p n qs
between_less p q n [] le h = tt
between_less p q n (r ∷ rs) le h = let first : q ≤ r = h.0.0 in
    ((omega (arith, le, first), h.0.1), between_less p q n rs le h.1)

between_append : (p : ℕ) (n : ℕ → Type 0) (qs rs : List ℕ) → AreBetween p n qs → AreBetween p n rs
    → AreBetween p n (qs ++ rs)
between_append p n [] rs h k = k
between_append p n (q ∷ qs) rs h k = (h.0, between_append p n qs rs h.1 k)

between_reverse : (p : ℕ) (n : ℕ → Type 0) (qs : List ℕ) → AreBetween p n qs → AreBetween p n (reverse qs)
between_reverse p n [] h = tt
between_reverse p n (q ∷ qs) h = subst (AreBetween p n) (sym (reverse-append (q ∷ []) qs))
    (between_append p n (reverse qs) (q ∷ []) (between_reverse p n qs h.1) (h.0, tt))

between_drop : (p : ℕ) (n : ℕ → Type 0) (k : ℕ) (qs : List ℕ) → AreBetween p n qs → AreBetween p n (drop k qs)
between_drop p n zero qs h = h
between_drop p n (suc k) [] h = tt
between_drop p n (suc k) (q ∷ qs) h = between_drop p n k qs h.1

module _ (g : Setting) (low : Option ℕ) (text : IsText g.options g.subject) where
  abbrev Goes : Search → Type 0
  Goes = IsForward g low

  abbrev AllGo : List Search → Type 0
  AllGo [] = Unit {0}
  AllGo (f ∷ fs) = Goes f × AllGo fs

  forward_goes : (s : State) (o : Option ℕ) → IsOnWay g low s → ((q : ℕ) → o ≡ Some q → (s.place ≤ q) × Stands g q)
      → Forward g low s.place (goes_to o s)
  forward_goes s None on h = forward_nothing g low s.place
  forward_goes s (Some q) on h = let far = h q refl in
      forward_gives g low s.place (move_to q s) far.0 (with_place g low s q far.0 far.1 on)

  forward_one : (item : Item) → Goes (run_one g item)
  unfolding run_one
  forward_one item s on =
      forward_reach_if g low s.place _ s _ (forward_goes s _ on (λ q e.
      let there = (places_stand g.scene text).forward item s.place q on.here e in
      let later : s.place < q = there.0 in
      (omega (arith, later), there.1)))

  forward_break : Goes (run_break g)
  unfolding run_break
  forward_break s on =
      forward_reach_if g low s.place _ s _ (forward_goes s _ on (λ q e. (
        told_far (nat_lt 0 (break_len g.scene s.place)) s.place (break_len g.scene s.place) q e,
        (places_stand g.scene text).breaks s.place q on.here e,
      )))

  forward_ref : (ns : List ℕ) (caseless : Bool) → Goes (run_ref g ns caseless)
  unfolding run_ref
  forward_ref [] caseless s on = forward_if g low s.place g.options.match_unset_backref _ _
      (forward_gives g low s.place s (omega arith) on) (forward_nothing g low s.place)
  forward_ref (m ∷ ns) caseless s on = by_capture (capture s.caps m) (forward_ref ns caseless s on)
    where
      by_capture : (o : Option Span) → Forward g low s.place (run_ref g ns caseless s) → Forward g low s.place (elim o [
        | None ↦ run_ref g ns caseless s
        | Some span ↦ reach_if g (ref_reaches g.scene span.from span.to caseless s.place) s
            (goes_to (after_ref g.scene span.from span.to caseless s.place) s)
      ])
      by_capture None h = h
      by_capture (Some span) h =
          forward_reach_if g low s.place _ s _ (forward_goes s _ on (λ q e. (
            told_far _ s.place _ q e,
            (places_stand g.scene text).refers span.from span.to s.place q caseless on.here
                e,
          )))

  forward_anchor : (kind : AnchorKind) → Goes (run_anchor g kind)
  unfolding run_anchor
  forward_anchor kind s on =
      forward_reach_if g low s.place (anchor_reaches g.scene kind s.place) _ _
      (forward_if g low s.place (holds g.scene kind s.place) _ _
      (forward_gives g low s.place _ (omega arith) (with_early g low s _ on)) (forward_nothing g low s.place))

  forward_offers : (ps : List ℕ) (s : State) → IsOnWay g low s → AreBetween s.place (Stands g) ps
      → Forward g low s.place (offers g ps s)
  unfolding offers
  forward_offers [] s on h = forward_nothing g low s.place
  forward_offers (p ∷ []) s on h =
      forward_step g low s.place _ (forward_gives g low s.place (move_to p s) h.0.0
      (with_place g low s p h.0.0 h.0.1 on))
  forward_offers (p ∷ q ∷ ps) s on h =
      forward_step g low s.place _ (forward_or_else g low s.place _ _
      (forward_hold g low s.place (move_to p s) h.0.0 (with_place g low s p h.0.0 h.0.1 on))
      (forward_offers (q ∷ ps) s on h.1))

  forward_offer_and : (b : Bool) (p : ℕ) (s : State) (x : Stream) → p ≤ s.place → IsOnWay g low s → Forward g low p x
      → Forward g low p (offer_and g b s x)
  forward_offer_and true p s x le on h = forward_step g low p _ (forward_gives g low p s le on)
  forward_offer_and false p s x le on h = forward_step g low p _
      (forward_or_else g low p _ _ (forward_hold g low p s le on) h)

  forward_reluctant : (item : Item) (left : Option ℕ) (ps : List ℕ) (s : State) → IsOnWay g low s
      → AreBetween s.place (Stands g) ps → Forward g low s.place (reluctant g item left ps s)
  unfolding reluctant
  forward_reluctant item left [] s on h = forward_nothing g low s.place
  forward_reluctant item left (p ∷ ps) s on h =
      forward_offer_and (is_none_left left) s.place (move_to p s) _ h.0.0 (with_place g low s p h.0.0 h.0.1 on)
      (forward_reach_if g low s.place (item_reaches g.scene item p) s _
      (forward_reluctant item (one_less left) ps s on h.1))

  -- the places of a run lie between
  places_between : (item : Item) (n : ℕ) (most : Option ℕ) (p : ℕ) → Stands g p
      → AreBetween p (Stands g) (run_places g.scene item n most p)
  unfolding run_places
  places_between item zero most p within = tt
  places_between item (suc n) most p within = by_left (places_between item n (one_less most)) (is_none_left most)
    where
      Later : Type 0
      Later = (q : ℕ) → Stands g q → AreBetween q (Stands g) (run_places g.scene item n (one_less most) q)

      by_item : (o : Option ℕ) → ((q : ℕ) → o ≡ Some q → (p ≤ q) × Stands g q) → Later
          → AreBetween p (Stands g) (elim o [ None ↦ [] | Some q ↦ q ∷ run_places g.scene item n (one_less most) q ])
      by_item None h k = tt
      by_item (Some q) h k = let there = h q refl in (there, between_less p q (Stands g) _ there.0 (k q there.1))

      later : (q : ℕ) → after_item g.scene item p ≡ Some q → (p ≤ q) × Stands g q
      later q e = let there = (places_stand g.scene text).forward item p q within e in let far : p < q = there.0 in
          (omega (arith, far), there.1)

      by_left : Later → (b : Bool) → AreBetween p (Stands g)
          (elim b [
            | true ↦ []
            | false ↦ elim (after_item g.scene item p)
                [ None ↦ [] | Some q ↦ q ∷ run_places g.scene item n (one_less most) q ]
          ])
      by_left k true = tt
      by_left k false = by_item (after_item g.scene item p) later k

  run_between : (item : Item) (most : Option ℕ) (p : ℕ) → Stands g p
      → AreBetween p (Stands g) (p ∷ longest_run g.scene item most p)
  run_between item most p within = ((omega arith, within), places_between item (length g.subject) most p within)

  forward_many : (item : Item) (least : ℕ) (high : Option ℕ) (lazily : Bool) → Goes (run_many g item least high lazily)
  unfolding run_many greedy lazy_run
  forward_many item least high false s on =
      forward_reach_if g low s.place _ s _ (forward_offers _ s on
      (between_reverse s.place (Stands g) _ (between_drop s.place (Stands g) least _
      (run_between item high s.place on.here))))
  forward_many item least high true s on =
      forward_reach_if g low s.place _ s _ (forward_reluctant item _ _ s on
      (between_drop s.place (Stands g) least _ (run_between item high s.place on.here)))

  forward_in_order : (fs : List Search) → AllGo fs → Goes (in_order fs)
  unfolding in_order
  forward_in_order [] h s on = forward_gives g low s.place s (omega arith) on
  forward_in_order (f ∷ fs) h s on = forward_and_then g low s.place (f s) (in_order fs) (h.0 s on)
      (λ t le on'. forward_in_order fs h.1 t on')

  -- from the state's place on, or from anywhere
  abbrev bound : Bool → State → ℕ
  bound true s = s.place
  bound false s = 0

  abbrev AllReach : Bool → List Search → Type 0
  AllReach far [] = Unit {0}
  AllReach far (f ∷ fs) = ((s : State) → IsOnWay g low s → Forward g low (bound far s) (f s)) × AllReach far fs

  forward_choices : (far : Bool) (fs : List Search) → AllReach far fs → (s : State) → IsOnWay g low s
      → Forward g low (bound far s) (choices g fs s)
  unfolding choices
  forward_choices far [] h s on = forward_nothing g low (bound far s)
  forward_choices far (f ∷ []) h s on = forward_step g low (bound far s) _
      (forward_catch g low (bound far s) is_next_branch (f s) (h.0 s on))
  forward_choices far (f ∷ f' ∷ fs) h s on =
      forward_step g low (bound far s) _ (forward_or_else g low (bound far s) _ _
      (forward_held g low (bound far s) 1 s _ (forward_catch g low (bound far s) is_next_branch _ (by_far far f h.0)))
      (forward_choices far (f' ∷ fs) h.1 s on))
    where
      by_far : (b : Bool) (f : Search) → ((s : State) → IsOnWay g low s → Forward g low (bound b s) (f s))
          → Forward g low (bound b s) (f (record s { units = s.units + 1 }))
      by_far true f h = h _ (with_units g low s _ on)
      by_far false f h = h _ (with_units g low s _ on)

  forward_branches : (far : Bool) (fs : List Search) → AllReach far fs → (s : State) → IsOnWay g low s
      → Forward g low (bound far s) (branches g fs s)
  unfolding branches
  forward_branches far [] h s on = forward_nothing g low (bound far s)
  forward_branches far (f ∷ []) h s on = h.0 s on
  forward_branches far (f ∷ f' ∷ fs) h s on = forward_choices far (f ∷ f' ∷ fs) h s on

  forward_group : (k : Option ℕ) (f : Search) → Goes f → Goes (run_group g k f)
  unfolding run_group
  forward_group None f h s on = h s on
  forward_group (Some n) f h s on =
      forward_held g low s.place 1 s _ (forward_each g low s.place _ _ (h _ (with_units g low s _ on))
      (λ how u le on'. forward_hold_so g low s.place how (captured n s.place u) le
      (with_capture g low u n s.place le on')))

  forward_atomic : (f : Search) → Goes f → Goes (run_atomic g f)
  unfolding run_atomic
  forward_atomic f h s on =
      forward_held g low s.place 1 s _
      (forward_decide g low s.place no_ending _ (λ how u. hold g how (forget_passed s u)) nothing
      (h _ (with_units g low s _ on)) (forward_nothing g low s.place)
      (λ how u le on'. forward_hold_so g low s.place how (forget_passed s u) le
      (with_passed g low u s.passed on.passed on')))

  -- what is inside a lookaround goes its own way
  forward_look : (positive once : Bool) (f : Search) → ((s : State) → IsOnWay g None s → Forward g None 0 (f s))
      → Goes (run_look g positive once f)
  unfolding run_look
  forward_look true true f h s on =
      forward_held g low s.place 1 s _
      (decide_inside g low s.place fails_alone _ (λ how u. hold g reached (back_to s (forget_passed s u))) nothing
      (h _ (with_units g None s _ (loosened g low s on))) (forward_nothing g low s.place)
      (λ how u on'. forward_hold g low s.place (back_to s (forget_passed s u)) (omega arith)
      (with_return g low s _ on (with_passed g None u s.passed on.passed on'))))
  forward_look true false f h s on =
      forward_held g low s.place 1 s _
      (forward_catch g low s.place fails_alone _
      (each_inside g low s.place _ (λ how u. gives reached (back_to s u))
      (h _ (with_units g None s _ (loosened g low s on)))
      (λ how u on'. forward_gives g low s.place (back_to s u) (omega arith) (with_return g low s u on on'))))
  forward_look false once f h s on =
      forward_held g low s.place 1 s _
      (decide_inside g low s.place fails_inside _ (λ how u. nothing) (gives reached s)
      (h _ (with_units g None s _ (loosened g low s on))) (forward_gives g low s.place s (omega arith) on)
      (λ how u on'. forward_nothing g low s.place))

  -- a lookaround as a test
  forward_asserts : (positive : Bool) (f yes' no' : Search)
      → ((s : State) → IsOnWay g None s → Forward g None 0 (f s)) → IsForward g low yes' → IsForward g low no'
      → IsForward g low (asserts g positive f yes' no')
  unfolding asserts
  forward_asserts true f yes' no' h y n s on =
      forward_held g low s.place 1 s _
      (decide_inside g low s.place fails_inside _ (λ how u. held g 1 (back_to s (forget_passed s u)) yes') (no' s)
      (h _ (with_units g None s _ (loosened g low s on))) (n s on)
      (λ how u on'. forward_held g low s.place 1 (back_to s (forget_passed s u)) yes'
      (y _ (with_units g low _ _ (with_return g low s _ on (with_passed g None u s.passed on.passed on'))))))
  forward_asserts false f yes' no' h y n s on =
      forward_held g low s.place 1 s _
      (decide_inside g low s.place fails_inside _ (λ how u. held g 1 (back_to s (forget_passed s u)) no') (yes' s)
      (h _ (with_units g None s _ (loosened g low s on))) (y s on)
      (λ how u on'. forward_held g low s.place 1 (back_to s (forget_passed s u)) no'
      (n _ (with_units g low _ _ (with_return g low s _ on (with_passed g None u s.passed on.passed on'))))))

  forward_tests : (b : Bool) (f f' : Search) (s : State) → Forward g low s.place (f s) → Forward g low s.place (f' s)
      → Forward g low s.place (tests b f f' s)
  unfolding tests
  forward_tests true f f' s h k = h
  forward_tests false f f' s h k = k

  -- Verbs.

  forward_named : (o : Option ℕ) (is_noted : Bool) (f : Search) → Goes f → (s : State) → IsOnWay g low s
      → Forward g low s.place (named o is_noted s f)
  unfolding named
  forward_named None is_noted f h s on = h s on
  forward_named (Some n) false f h s on = forward_name g low s.place n _ (h _ (with_mark g low s (Some n) on))
  forward_named (Some n) true f h s on =
      forward_name g low s.place n _
      (h _ (with_mark g low _ (Some n) (with_passed g low s ((n, s.place) ∷ s.passed) (on.here, on.passed) on)))

  -- it goes on, and ends by a verb where backtracking comes back to it
  forward_backs_by : (v : VerbEnding) → LeadsInside g v → Goes (backs g (by_verb v))
  unfolding backs
  forward_backs_by v h s on =
      forward_held g low s.place 1 s _ (forward_backs g low s.place _ v (omega arith) (with_units g low s _ on) h)

  forward_backs_none : Goes (backs g exhausted)
  unfolding backs Forward
  forward_backs_none s on = forward_held g low s.place 1 s _ (omega arith, with_units g low s _ on, tt)

  forward_either : (b : Bool) (e e' : Ending) → Goes (backs g e) → Goes (backs g e')
      → Goes (backs g (elim b [ true ↦ e | false ↦ e' ]))
  forward_either true e e' h h' s on = h s on
  forward_either false e e' h h' s on = h' s on

  -- a SKIP of a name leads to where it was passed, if it was
  forward_skips : (n : ℕ) (ms : List (ℕ × ℕ)) → ArePassedInside g ms → Goes (backs g (skip_to g n ms))
  forward_skips n [] h s on = forward_backs_none s on
  forward_skips n (m ∷ ms) h s on =
      forward_either (same_text (verb_name g n) (verb_name g m.0)) (by_verb (skip m.1)) (skip_to g n ms)
      (forward_backs_by (skip m.1) h.0) (forward_skips n ms h.1) s on

  forward_verb : (v : Verb) → Goes (run_verb g v)
  unfolding run_verb
  forward_verb (Accept None) s on = forward_gives_so g low s.place accepted s (omega arith) on
  forward_verb (Accept (Some n)) s on =
      forward_named (Some n) true (hold g accepted)
      (λ t on'. forward_hold_so g low t.place accepted t (omega arith) on') s on
  forward_verb (Fail None) s on = forward_nothing g low s.place
  forward_verb (Fail (Some n)) s on =
      forward_named (Some n) true (λ t. held g 1 t (λ u. nothing))
      (λ t on'. forward_held g low t.place 1 t (λ u. nothing) (forward_nothing g low t.place)) s on
  forward_verb (Mark o) s on = forward_named o true (hold g reached)
      (λ t on'. forward_hold g low t.place t (omega arith) on') s on
  forward_verb (Commit o) s on = forward_named o false (backs g (by_verb commit)) (forward_backs_by commit tt) s on
  forward_verb (Prune o) s on = forward_named o false (backs g (by_verb prune)) (forward_backs_by prune tt) s on
  forward_verb (Skip None) s on = forward_backs_by (skip s.place) on.here s on
  forward_verb (Skip (Some n)) s on = forward_skips n s.passed on.passed s on
  forward_verb (Then o) s on = forward_named o false (backs g (by_verb next_branch)) (forward_backs_by next_branch tt)
      s on

  forward_callout : (c : Callout) (f : Search) → Goes f → Goes (run_callout g c f)
  unfolding run_callout
  forward_callout c f h s on = forward_shown g low s.place (block_of c s) (g.reply (block_of c s)) (f s) (h s on)

  -- Repeats, whose turns go a level deeper.

  abbrev GoesBelow : Searches → Type 0
  GoesBelow below = (t : Nested) → Goes (below t)

  forward_turn : (below : Searches) (body : Nested) (least : ℕ) (high : Option ℕ) (lazily : Bool) → GoesBelow below
      → Goes (turn g below body least high lazily)
  unfolding turn
  forward_turn below body least high lazily h s on =
      forward_step g low s.place _ (forward_held g low s.place 1 s _
      (forward_and_then g low s.place _ _ (h body _ (with_units g low s _ on)) (λ u le on'.
      forward_if g low u.place (is_over least high s u) _ _ (forward_gives g low u.place u (omega arith) on')
      (h (repeat body (least - 1) (one_less high) lazily) u on'))))

  forward_repeat : (below : Searches) (body : Nested) (least : ℕ) (high : Option ℕ) (lazily : Bool) → GoesBelow below
      → Goes (run_repeat g below body least high lazily)
  unfolding run_repeat
  forward_repeat below body (suc least) high lazily h s on = forward_turn below body (suc least) high lazily h s on
  forward_repeat below body zero (Some zero) lazily h s on = forward_gives g low s.place s (omega arith) on
  forward_repeat below body zero (Some (suc n)) true h s on =
      forward_or_else g low s.place _ _ (forward_hold g low s.place s (omega arith) on)
      (forward_turn below body zero (Some (suc n)) true h s on)
  forward_repeat below body zero (Some (suc n)) false h s on =
      forward_or_else g low s.place _ _ (forward_turn below body zero (Some (suc n)) false h s on)
      (forward_gives g low s.place s (omega arith) on)
  forward_repeat below body zero None true h s on =
      forward_or_else g low s.place _ _ (forward_hold g low s.place s (omega arith) on)
      (forward_turn below body zero None true h s on)
  forward_repeat below body zero None false h s on =
      forward_or_else g low s.place _ _ (forward_turn below body zero None false h s on)
      (forward_gives g low s.place s (omega arith) on)

  -- Calls, which go a level deeper too.

  forward_tree : (below : Searches) (o : Option Nested) → GoesBelow below → Goes (run_tree o below)
  unfolding run_tree
  forward_tree below None h s on = forward_nothing g low s.place
  forward_tree below (Some t) h s on = h t s on

  forward_returns : (s : State) (how : How) (u : State) → s.place ≤ u.place → IsOnWay g low s → IsOnWay g low u
      → Forward g low s.place (returns g s how u)
  unfolding returns
  forward_returns s how u le on on' =
      forward_held g low s.place (changes u.caps s.caps) (record u { caps = s.caps; calls = s.calls }) (gives reached)
      (forward_gives g low s.place _ le (with_returned g low s u _ on on'))

  forward_call : (below : Searches) (n : ℕ) → GoesBelow below → Goes (run_call g below n)
  unfolding run_call
  forward_call below n h s on =
      forward_step g low s.place _ (forward_if g low s.place (is_active n s.place s.calls) _ _
      (forward_loop g low s.place)
      (forward_held g low s.place 1 s _ (forward_catch g low s.place is_verb _
      (forward_each g low s.place _ _
      (forward_tree below (group_of g.whole n) h _ (with_calls g low _ _ (with_units g low s _ on)))
      (λ how u le on'. forward_returns s how u le on on')))))

-- Branches of a lookbehind, which begin before its place.
module _ (g : Setting) (text : IsText g.options g.subject) where
  back_between : (n p : ℕ) → Stands g p → AreBetween 0 (Stands g) (places_back g.scene n p)
  unfolding places_back
  back_between zero p h = ((omega arith, h), tt)
  back_between (suc n) zero h = ((omega arith, h), tt)
  back_between (suc n) (suc p) h = (
    (omega arith, h),
    back_between n (place_before g.scene (suc p))
        ((places_stand g.scene text).backward (suc p) h (omega arith)).1,
  )

  abbrev Roams : Search → Type 0
  Roams f = (s : State) → IsOnWay g None s → Forward g None 0 (f s)

  begun : (p : ℕ) (s : State) → Stands g p → IsOnWay g None s → IsOnWay g None (begun_at p s)
  begun p s h on = record { kept = tt; here = h; passed = on.passed; caps = on.caps; groups = on.groups }

  begins_at : (p : ℕ) (f : Search) → IsForward g None f → (s : State) → Stands g p → IsOnWay g None s
      → Forward g None 0 (f (begun_at p s))
  begins_at p f h s within on = forward_less g None 0 p (f (begun_at p s)) (omega arith)
      (h (begun_at p s) (begun p s within on))

  ends_there : (p : ℕ) (x : Stream) → Forward g None 0 x → Forward g None 0 (and_then x (ends_at p))
  ends_there p x h =
      forward_and_then g None 0 x (ends_at p) h
      (λ u le on. forward_if g None u.place (u.place == p) _ _ (forward_gives g None u.place u (omega arith) on)
      (forward_nothing g None u.place))

  roam_tries : (ps : List ℕ) (f : Search) → IsForward g None f → AreBetween 0 (Stands g) ps → Roams (tries g ps f)
  unfolding tries
  roam_tries [] f h b s on = forward_nothing g None 0
  roam_tries (p ∷ []) f h b s on = forward_step g None 0 _ (ends_there s.place _ (begins_at p f h s b.0.1 on))
  roam_tries (p ∷ q ∷ ps) f h b s on =
      forward_step g None 0 _ (forward_or_else g None 0 _ _
      (forward_held g None 0 1 s _ (ends_there s.place _ (begins_at p f h _ b.0.1 (with_units g None s _ on))))
      (roam_tries (q ∷ ps) f h b.1 s on))

  roam_once : (ps : List ℕ) (f : Search) → IsForward g None f → AreBetween 0 (Stands g) ps → Roams (one_try ps f)
  unfolding one_try
  roam_once [] f h b s on = forward_nothing g None 0
  roam_once (p ∷ ps) f h b s on = begins_at p f h s b.0.1 on

  roam_behind : (lengths : SomeLengths) (f : Search) → IsForward g None f → Roams (run_behind g lengths f)
  unfolding run_behind tries_within
  roam_behind None f h s on = forward_nothing g None 0
  roam_behind (Some a) f h s on = by_most a.most
    where
      by_most : (most : Option ℕ) → Forward g None 0 (tries_within g a.least most f s)
      by_most None = forward_nothing g None 0
      by_most (Some most) =
          let places = reverse (drop a.least (places_back g.scene most s.place)) in
          let between = between_reverse 0 (Stands g) _
          (between_drop 0 (Stands g) a.least _ (back_between most s.place on.here)) in
          forward_if g None 0 (a.least == most) (one_try places f s) (tries g places f s)
          (roam_once places f h between s on) (roam_tries places f h between s on)

module _ (g : Setting) (text : IsText g.options g.subject) where
  module _ (below : Searches) (deeper : (low : Option ℕ) (t : Nested) → IsForward g low (below t)) where
    mutual
      unfolding level

      pub forward_level : (low : Option ℕ) (t : Nested) → IsForward g low (level g below t)
      forward_level low tree.empty s on = forward_gives g low s.place s (omega arith) on
      forward_level low (tree.one item) s on = forward_one g low text item s on
      forward_level low tree.line_break s on = forward_break g low text s on
      forward_level low (tree.seq ts) s on = forward_in_order g low text _ (forward_levels low ts) s on
      forward_level low (tree.group number ts) s on = forward_group g low text number _
          (forward_branches g low text true _ (forward_reach low ts)) s on
      forward_level low (tree.repeat body least high lazily) s on =
          forward_repeat g low text below body least high lazily (deeper low) s on
      forward_level low (tree.one_repeat item least high lazily) s on =
          forward_many g low text item least high lazily s on
      forward_level low (tree.atomic ts) s on = forward_atomic g low text _
          (forward_branches g low text true _ (forward_reach low ts)) s on
      forward_level low (tree.look true positive once ts) s on =
          forward_look g low text positive once _ (forward_branches g None text false _ (roam_ahead ts)) s on
      forward_level low (tree.look false positive once ts) s on =
          forward_look g low text positive once _ (forward_branches g None text false _ (roam_back ts)) s on
      forward_level low (tree.condition test first second) s on =
          forward_test low test _ _ (forward_level low first) (forward_other low second) s on
      forward_level low (tree.call n) s on = forward_call g low text below n (deeper low) s on
      forward_level low (tree.ref ns caseless) s on = forward_ref g low text ns caseless s on
      forward_level low (tree.anchor kind) s on = forward_anchor g low text kind s on
      forward_level low tree.keep_out s on = forward_gives g low s.place _ (omega arith) (with_keep g low s on)
      forward_level low (tree.verb v) s on = forward_verb g low text v s on
      forward_level low (tree.callout c) s on = forward_callout g low text c (gives reached)
          (λ t on'. forward_gives g low t.place t (omega arith) on') s on

      forward_levels : (low : Option ℕ) (ts : Row) → AllGo g low text (levels g below ts)
      forward_levels low tree.none = tt
      forward_levels low (tree.more t ts) = (forward_level low t, forward_levels low ts)

      forward_reach : (low : Option ℕ) (ts : Row) → AllReach g low text true (levels g below ts)
      forward_reach low tree.none = tt
      forward_reach low (tree.more t ts) = (forward_level low t, forward_reach low ts)

      forward_test : (low : Option ℕ) (test : Test) (f f' : Search) → IsForward g low f → IsForward g low f'
          → IsForward g low (level_test g below test f f')
      forward_test low (tree.any_set ns) f f' h h' s on =
          forward_tests g low text (some_set s.caps ns) f f' s (h s on) (h' s on)
      forward_test low tree.in_call f f' h h' s on = forward_tests g low text (is_called s.calls) f f' s (h s on)
          (h' s on)
      forward_test low (tree.in_call_of ns) f f' h h' s on =
          forward_tests g low text (is_called_of s.calls ns) f f' s (h s on) (h' s on)
      forward_test low tree.never f f' h h' s on = h' s on
      forward_test low (tree.assert true positive once ts) f f' h h' s on =
          forward_asserts g low text positive _ f f' (forward_branches g None text false _ (roam_ahead ts)) h h' s on
      forward_test low (tree.assert false positive once ts) f f' h h' s on =
          forward_asserts g low text positive _ f f' (forward_branches g None text false _ (roam_back ts)) h h' s on
      forward_test low (tree.called c test) f f' h h' s on =
          forward_callout g low text c (level_test g below test f f') (forward_test low test f f' h h') s on

      forward_other : (low : Option ℕ) (second : Other) → IsForward g low (level_other g below second)
      forward_other low tree.no_other s on = forward_gives g low s.place s (omega arith) on
      forward_other low (tree.other t) s on = forward_level low t s on

      roam_ahead : (ts : Row) → AllReach g None text false (levels g below ts)
      roam_ahead tree.none = tt
      roam_ahead (tree.more t ts) = (
        λ s on. forward_less g None 0 s.place (level g below t s) (omega arith) (forward_level None t s on),
        roam_ahead ts,
      )

      roam_back : (ts : Row) → AllReach g None text false (levels_behind g below ts)
      roam_back tree.none = tt
      roam_back (tree.more t ts) = (
        roam_behind g text (branch_lengths g t) (level g below t) (forward_level None t),
        roam_back ts,
      )

  pub forward_run : (d : ℕ) (low : Option ℕ) (t : Nested) → IsForward g low (run g d t)
  unfolding run Forward
  forward_run zero low t s on = tt
  forward_run (suc d) low t s on = forward_level (run g d) (forward_run d) low t s on
