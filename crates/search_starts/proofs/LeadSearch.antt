-- From a place whose byte no match of a tree begins with, a search for the tree reaches no state, or stays there where
-- the tree may be passed without a byte.
use Rattle.std.proofs.Common.{◌≡◌, ℕ, zero, suc, ◌+◌, ◌-◌, ◌<◌, Bool, true, false, ◌||◌, List, [], ◌∷◌, length, drop}
use Rattle.std.proofs.Common.{reverse, Option, Some, None, inl, inr, refl, sym, ap, subst, ◌∙◌, arith}
use Rattle.std.specs.Prelude.{nat_le, ◌==◌, option_map, slice_index}
use Rattle.std.proofs.lemmas.Bool.{or_left, or_right, or_parts}
use Rattle.pat_tree.specs.declared.options.PartialMode.{PartialMode}
use Rattle.pat_tree.specs.declared.options.PartialMode.TheVariants.{Off, Soft, Hard}
use Rattle.pat_tree.specs.declared.nodes.Item.{Item}
use Rattle.pat_tree.specs.declared.nodes.AnchorKind.{AnchorKind}
use Rattle.pat_tree.specs.Nested as tree
use Rattle.pat_tree.specs.Nested.{Nested, Row, Test, Other}
use Rattle.pat_tree.specs.Newlines.{end_kind, break_kind}
use Rattle.pat_tree.specs.Rules.{AtMost}
use Rattle.ordered_search.specs.pat_check.Lead as first
use Rattle.ordered_search.specs.pat_check.Lead.{Lead, SomeLead, no_byte, then_lead, either_lead, repeated_lead}
use Rattle.match_items.specs.Items.{one_less, is_none_left, places_back, item_reaches, after_ref, ref_reaches, holds}
use Rattle.match_items.specs.Items.{anchor_reaches, after_item, after_break, run_places, longest_run}
use Rattle.match_items.specs.Subjects.{IsText}
use Rattle.pat_lengths.specs.Lengths.{SomeLengths}
use Rattle.frame_store.specs.Captures.{capture}
use Rattle.ordered_search.specs.Stream.{State, reached, Stream, Search, nothing, gives, no_ending, is_next_branch}
use Rattle.ordered_search.specs.Stream.{fails_alone, fails_inside, captured}
use Rattle.ordered_search.specs.Setting.{Setting, branch_lengths, held, hold, reach, reach_if}
use Rattle.ordered_search.specs.Tests.{move_to, goes_to, run_one, run_break, run_ref, run_anchor, offers, greedy}
use Rattle.ordered_search.specs.Tests.{offer_and, reluctant, lazy_run, run_many}
use Rattle.ordered_search.specs.Parts.{Searches, in_order, choices, branches, run_group, begun_at, ends_at, one_try}
use Rattle.ordered_search.specs.Parts.{tries, tries_within, run_behind, run_atomic, run_look, asserts, tests}
use Rattle.ordered_search.specs.Parts.{some_set, is_called, is_called_of, is_over, turn, run_repeat, back_to}
use Rattle.ordered_search.specs.Parts.{forget_passed}
use Rattle.ordered_search.specs.Run.{level, levels, levels_behind, level_test, level_other, run}
use Rattle.search_starts.specs.StartLaw.{IsUnverbed, AreUnverbed, IsUnverbedTest, IsUnverbedOther, IsDefinition}
use Rattle.search_starts.specs.StartLaw.{IsRegular, AreRegular, IsRegularTest, IsRegularOther}
use Rattle.search_starts.proofs.KeptStreams.{Kept, kept_nothing, kept_cut, kept_full, kept_gives, kept_if}
use Rattle.search_starts.proofs.KeptStreams.{kept_option, kept_step, kept_or_else, kept_catch, kept_each}
use Rattle.search_starts.proofs.KeptStreams.{kept_and_then, kept_decide, kept_more}
use Rattle.search_starts.proofs.LeadItems.{Out, Here, item_lead, break_lead, none_here, none_run, no_break}

-- any state
abbrev pub Any : State → Type 0
Any s = Unit {0}

abbrev Quiet : Search → Type 0
Quiet f = (s : State) → Kept Any (f s)

abbrev AllQuiet : List Search → Type 0
AllQuiet [] = Unit {0}
AllQuiet (f ∷ fs) = Quiet f × AllQuiet fs

-- Without verbs, callouts and calls nothing is told, and only a limit ends the search.

quiet_goes : (o : Option ℕ) → Quiet (goes_to o)
quiet_goes None s = kept_nothing Any
quiet_goes (Some p) s = kept_gives Any (move_to p s) tt

quiet_in_order : (fs : List Search) → AllQuiet fs → Quiet (in_order fs)
unfolding in_order
quiet_in_order [] h s = kept_gives Any s tt
quiet_in_order (f ∷ fs) h s = kept_and_then Any Any (f s) (in_order fs) (h.0 s) (λ t i. quiet_in_order fs h.1 t)

quiet_ends_at : (p : ℕ) → Quiet (ends_at p)
quiet_ends_at p u = kept_if Any (u.place == p) _ _ (kept_gives Any u tt) (kept_nothing Any)

quiet_one_try : (ps : List ℕ) (f : Search) → Quiet f → Quiet (one_try ps f)
unfolding one_try
quiet_one_try [] f h s = kept_nothing Any
quiet_one_try (p ∷ ps) f h s = h (begun_at p s)

module _ (g : Setting) where
  kept_held : (P : State → Type 0) (k : ℕ) (s : State) (f : Search) → Kept P (f (record s { units = s.units + k }))
      → Kept P (held g k s f)
  unfolding held
  kept_held P k s f h = kept_if P (nat_le (s.units + k) g.matching.frame_limit) _ _ h (kept_full P)

  kept_hold : (P : State → Type 0) (s : State) → P (record s { units = s.units + 1 }) → Kept P (hold g reached s)
  unfolding hold
  kept_hold P s h = kept_held P 1 s (gives reached) (kept_gives P _ h)

  kept_mode : (P : State → Type 0) (mode : PartialMode) (x y z : Stream) → mode ≡ Off → Kept P x
      → Kept P (elim mode [ Off ↦ x | Soft ↦ y | Hard ↦ z ])
  kept_mode P Off x y z e h = h
  kept_mode P Soft x y z e h = absurd cc
  kept_mode P Hard x y z e h = absurd cc

  module _ (off : g.matching.«partial» ≡ Off) where
    kept_reach_if : (P : State → Type 0) (b : Bool) (s : State) (x : Stream) → Kept P x → Kept P (reach_if g b s x)
    unfolding reach_if reach
    kept_reach_if P true s x h = kept_mode P g.matching.«partial» _ _ _ off h
    kept_reach_if P false s x h = h

    quiet_one : (item : Item) → Quiet (run_one g item)
    unfolding run_one
    quiet_one item s = kept_reach_if Any _ s _ (quiet_goes _ s)

    quiet_break : Quiet (run_break g)
    unfolding run_break
    quiet_break s = kept_reach_if Any _ s _ (quiet_goes _ s)

    quiet_ref : (ns : List ℕ) (caseless : Bool) → Quiet (run_ref g ns caseless)
    unfolding run_ref
    quiet_ref [] caseless s = kept_if Any g.options.match_unset_backref _ _ (kept_gives Any s tt) (kept_nothing Any)
    quiet_ref (m ∷ ns) caseless s =
        kept_option Any (capture s.caps m) _ _ (quiet_ref ns caseless s)
        (λ span. kept_reach_if Any (ref_reaches g.scene span.from span.to caseless s.place) s _
        (quiet_goes (after_ref g.scene span.from span.to caseless s.place) s))

    -- an assertion stays at its place
    kept_anchor : (P : State → Type 0) (kind : AnchorKind) (s : State) → ((e : ℕ) → P (record s { early = e }))
        → Kept P (run_anchor g kind s)
    unfolding run_anchor
    kept_anchor P kind s h =
        kept_reach_if P (anchor_reaches g.scene kind s.place) _ _
        (kept_if P (holds g.scene kind s.place) _ _ (kept_gives P _ (h _)) (kept_nothing P))

    quiet_offers : (ps : List ℕ) → Quiet (offers g ps)
    unfolding offers
    quiet_offers [] s = kept_nothing Any
    quiet_offers (p ∷ []) s = kept_step Any _ (kept_gives Any _ tt)
    quiet_offers (p ∷ q ∷ ps) s =
        kept_step Any _ (kept_or_else Any _ _ (kept_hold Any (move_to p s) tt) (quiet_offers (q ∷ ps) s))

    kept_offer_and : (P : State → Type 0) (b : Bool) (s : State) (x : Stream) → P s
        → P (record s { units = s.units + 1 }) → Kept P x →
        Kept P (offer_and g b s x)
    kept_offer_and P true s x i j h = kept_step P _ (kept_gives P s i)
    kept_offer_and P false s x i j h = kept_step P _ (kept_or_else P _ _ (kept_hold P s j) h)

    quiet_reluctant : (item : Item) (left : Option ℕ) (ps : List ℕ) → Quiet (reluctant g item left ps)
    unfolding reluctant
    quiet_reluctant item left [] s = kept_nothing Any
    quiet_reluctant item left (p ∷ ps) s =
        kept_offer_and Any (is_none_left left) _ _ tt tt
        (kept_reach_if Any (item_reaches g.scene item p) s _ (quiet_reluctant item (one_less left) ps s))

    quiet_many : (item : Item) (low : ℕ) (high : Option ℕ) (lazily : Bool) → Quiet (run_many g item low high lazily)
    unfolding run_many greedy lazy_run
    quiet_many item low high false s = kept_reach_if Any _ s _ (quiet_offers _ s)
    quiet_many item low high true s = kept_reach_if Any _ s _
        (quiet_reluctant item _ (drop low (s.place ∷ longest_run g.scene item high s.place)) s)

    quiet_choices : (fs : List Search) → AllQuiet fs → Quiet (choices g fs)
    unfolding choices
    quiet_choices [] h s = kept_nothing Any
    quiet_choices (f ∷ []) h s = kept_step Any _ (kept_catch Any is_next_branch (f s) (h.0 s))
    quiet_choices (f ∷ f' ∷ fs) h s =
        kept_step Any _ (kept_or_else Any _ _
        (kept_held Any 1 s _ (kept_catch Any is_next_branch _ (h.0 _)))
        (quiet_choices (f' ∷ fs) h.1 s))

    quiet_branches : (fs : List Search) → AllQuiet fs → Quiet (branches g fs)
    unfolding branches
    quiet_branches [] h s = kept_nothing Any
    quiet_branches (f ∷ []) h s = h.0 s
    quiet_branches (f ∷ f' ∷ fs) h s = quiet_choices (f ∷ f' ∷ fs) h s

    quiet_tries : (ps : List ℕ) (f : Search) → Quiet f → Quiet (tries g ps f)
    unfolding tries
    quiet_tries [] f h s = kept_nothing Any
    quiet_tries (p ∷ []) f h s =
        kept_step Any _ (kept_and_then Any Any _ _ (h (begun_at p s)) (λ u i. quiet_ends_at s.place u))
    quiet_tries (p ∷ q ∷ ps) f h s =
        kept_step Any _ (kept_or_else Any _ _
        (kept_held Any 1 s _ (kept_and_then Any Any _ _ (h _) (λ u i. quiet_ends_at s.place u)))
        (quiet_tries (q ∷ ps) f h s))

    quiet_within : (least : ℕ) (most : Option ℕ) (f : Search) → Quiet f → Quiet (tries_within g least most f)
    unfolding tries_within
    quiet_within least None f h s = kept_nothing Any
    quiet_within least (Some most) f h s =
        let places = reverse (drop least (places_back g.scene most s.place)) in
        kept_if Any (least == most) _ _ (quiet_one_try places f h s) (quiet_tries places f h s)

    quiet_behind : (lengths : SomeLengths) (f : Search) → Quiet f → Quiet (run_behind g lengths f)
    unfolding run_behind
    quiet_behind None f h s = kept_nothing Any
    quiet_behind (Some a) f h s = quiet_within a.least a.most f h s

    -- Groups and lookarounds, for states of a kind that goes by the place alone.
    module _ (P : State → Type 0) (units : (s : State) (n : ℕ) → P s → P (record s { units = n })) where
      kept_group : (k : Option ℕ) (f : Search) (s : State) →
          ((n : ℕ) (u : State) → P u → P (captured n s.place u)) →
          Kept P (f s) → Kept P (f (record s { units = s.units + 1 })) → Kept P (run_group g k f s)
      unfolding run_group
      kept_group None f s i h h' = h
      kept_group (Some k) f s i h h' =
          kept_held P 1 s _ (kept_each P P _ _ h' (λ u a. kept_hold P _ (units _ _ (i k u a))))

      kept_atomic : (f : Search) (s : State) → ((u : State) → P u → P (forget_passed s u)) →
          Kept P (f (record s { units = s.units + 1 })) → Kept P (run_atomic g f s)
      unfolding run_atomic
      kept_atomic f s i h =
          kept_held P 1 s _ (kept_decide P P no_ending _ _ nothing h (λ u a. kept_hold P _ (units _ _ (i u a)))
          (kept_nothing P))

    -- back from a lookaround, whatever it reached
    kept_look : (P : State → Type 0) (positive once : Bool) (f : Search) (s : State) → Quiet f → P s →
        ((u : State) → P (back_to s u)) → Kept P (run_look g positive once f s)
    unfolding run_look
    kept_look P true true f s h i j =
        kept_held P 1 s _ (kept_decide Any P fails_alone _ _ nothing (h _)
        (λ u a. kept_hold P _ (j (record (forget_passed s u) { units = u.units + 1 })))
        (kept_nothing P))
    kept_look P true false f s h i j =
        kept_held P 1 s _ (kept_catch P fails_alone _ (kept_each Any P _ _ (h _) (λ u a. kept_gives P _ (j u))))
    kept_look P false once f s h i j =
        kept_held P 1 s _ (kept_decide Any P fails_inside _ _ (gives reached s) (h _) (λ u a. kept_nothing P)
        (kept_gives P s i))

    kept_asserts : (P : State → Type 0) (positive : Bool) (x yes' no' : Search) (s : State) → Quiet x →
        ((u : State) → u.place ≡ s.place → Kept P (yes' u)) → ((u : State) → u.place ≡ s.place → Kept P (no' u)) →
        Kept P (asserts g positive x yes' no' s)
    unfolding asserts
    kept_asserts P true x yes' no' s h k l =
        kept_held P 1 s _ (kept_decide Any P fails_inside _ _ (no' s) (h _)
        (λ u a. kept_held P 1 (back_to s (forget_passed s u)) yes' (k _ refl)) (l s refl))
    kept_asserts P false x yes' no' s h k l =
        kept_held P 1 s _ (kept_decide Any P fails_inside _ _ (yes' s) (h _)
        (λ u a. kept_held P 1 (back_to s (forget_passed s u)) no' (l _ refl)) (k s refl))

    kept_tests : (P : State → Type 0) (b : Bool) (yes' no' : Search) (s : State) → Kept P (yes' s) → Kept P (no' s) →
        Kept P (tests b yes' no' s)
    unfolding tests
    kept_tests P true yes' no' s h k = h
    kept_tests P false yes' no' s h k = k

    module _ (below : Searches) (quiet : (t : Nested) → IsUnverbed t → IsRegular t → Quiet (below t)) where
      kept_turn : (P : State → Type 0) (body : Nested) (low : ℕ) (high : Option ℕ) (lazily : Bool) (s : State) →
          Kept P (below body (record s { units = s.units + 1 })) →
          ((u : State) → P u → Kept P (below (tree.repeat body (low - 1) (one_less high) lazily) u)) →
          Kept P (turn g below body low high lazily s)
      unfolding turn
      kept_turn P body low high lazily s h k =
          kept_step P _ (kept_held P 1 s _ (kept_and_then P P _ _ h
          (λ u i. kept_if P (is_over low high s u) _ _ (kept_gives P u i) (k u i))))

      less_ordered : (low : ℕ) (high : Option ℕ) → AtMost low high → AtMost (low - 1) (one_less high)
      less_ordered low None h = tt
      less_ordered low (Some high) h = omega (arith, h)

      quiet_turn : (body : Nested) (low : ℕ) (high : Option ℕ) (lazily : Bool) → IsUnverbed body
          → AtMost low high × IsRegular body →
          Quiet (turn g below body low high lazily)
      quiet_turn body low high lazily h k s =
          kept_turn Any body low high lazily s (quiet body h k.1 _)
          (λ u i. quiet (tree.repeat body (low - 1) (one_less high) lazily) h (less_ordered low high k.0, k.1) u)

      quiet_repeat : (body : Nested) (low : ℕ) (high : Option ℕ) (lazily : Bool) → IsUnverbed body
          → AtMost low high × IsRegular body →
          Quiet (run_repeat g below body low high lazily)
      unfolding run_repeat
      quiet_repeat body (suc low) high lazily h k s = quiet_turn body (suc low) high lazily h k s
      quiet_repeat body zero (Some zero) lazily h k s = kept_gives Any s tt
      quiet_repeat body zero None true h k s =
          kept_or_else Any _ _ (kept_hold Any s tt) (quiet_turn body 0 None true h k s)
      quiet_repeat body zero None false h k s =
          kept_or_else Any _ _ (quiet_turn body 0 None false h k s) (kept_gives Any s tt)
      quiet_repeat body zero (Some (suc n)) true h k s =
          kept_or_else Any _ _ (kept_hold Any s tt) (quiet_turn body 0 (Some (suc n)) true h k s)
      quiet_repeat body zero (Some (suc n)) false h k s =
          kept_or_else Any _ _ (quiet_turn body 0 (Some (suc n)) false h k s) (kept_gives Any s tt)

      mutual
        unfolding level

        quiet_level : (t : Nested) → IsUnverbed t → IsRegular t → Quiet (level g below t)
        quiet_level tree.empty h k s = kept_gives Any s tt
        quiet_level (tree.one item) h k s = quiet_one item s
        quiet_level tree.line_break h k s = quiet_break s
        quiet_level (tree.seq ts) h k s = quiet_in_order _ (quiet_levels ts h k) s
        quiet_level (tree.group number ts) h k s =
            let all = quiet_branches _ (quiet_levels ts h k) in
            kept_group Any (λ u n i. tt) number _ s (λ n u i. tt) (all s) (all _)
        quiet_level (tree.repeat body low high lazily) h k s = quiet_repeat body low high lazily h k s
        quiet_level (tree.one_repeat item low high lazily) h k s = quiet_many item low high lazily s
        quiet_level (tree.atomic ts) h k s =
            kept_atomic Any (λ u n i. tt) _ s (λ u i. tt) (quiet_branches _ (quiet_levels ts h k) _)
        quiet_level (tree.look true positive once ts) h k s =
            kept_look Any positive once _ s (quiet_branches _ (quiet_levels ts h k)) tt (λ u. tt)
        quiet_level (tree.look false positive once ts) h k s =
            kept_look Any positive once _ s (quiet_branches _ (quiet_levels_behind ts h k)) tt (λ u. tt)
        quiet_level (tree.condition test t second) h k s =
            quiet_test test h.0 k.1 _ _ (quiet_level t h.1 k.2) (quiet_other second h.2 k.3) s
        quiet_level (tree.call n) h k s = absurd h
        quiet_level (tree.ref ns caseless) h k s = quiet_ref ns caseless s
        quiet_level (tree.anchor kind) h k s = kept_anchor Any kind s (λ e. tt)
        quiet_level tree.keep_out h k s = kept_gives Any _ tt
        quiet_level (tree.verb v) h k s = absurd h
        quiet_level (tree.callout c) h k s = absurd h

        quiet_levels : (ts : Row) → AreUnverbed ts → AreRegular ts → AllQuiet (levels g below ts)
        quiet_levels tree.none h k = tt
        quiet_levels (tree.more t ts) h k = (quiet_level t h.0 k.0, quiet_levels ts h.1 k.1)

        quiet_levels_behind : (ts : Row) → AreUnverbed ts → AreRegular ts → AllQuiet (levels_behind g below ts)
        quiet_levels_behind tree.none h k = tt
        quiet_levels_behind (tree.more t ts) h k =
            (quiet_behind (branch_lengths g t) _ (quiet_level t h.0 k.0), quiet_levels_behind ts h.1 k.1)

        quiet_test : (test : Test) → IsUnverbedTest test → IsRegularTest test → (yes' no' : Search) → Quiet yes'
            → Quiet no' →
            Quiet (level_test g below test yes' no')
        quiet_test (tree.any_set ns) h k yes' no' i j s = kept_tests Any (some_set s.caps ns) yes' no' s (i s) (j s)
        quiet_test tree.in_call h k yes' no' i j s = kept_tests Any (is_called s.calls) yes' no' s (i s) (j s)
        quiet_test (tree.in_call_of ns) h k yes' no' i j s =
            kept_tests Any (is_called_of s.calls ns) yes' no' s (i s) (j s)
        quiet_test tree.never h k yes' no' i j s = j s
        quiet_test (tree.assert true positive once ts) h k yes' no' i j s =
            kept_asserts Any positive _ yes' no' s (quiet_branches _ (quiet_levels ts h k)) (λ u e. i u) (λ u e. j u)
        quiet_test (tree.assert false positive once ts) h k yes' no' i j s =
            kept_asserts Any positive _ yes' no' s (quiet_branches _ (quiet_levels_behind ts h k)) (λ u e. i u)
            (λ u e. j u)
        quiet_test (tree.called c test) h k yes' no' i j s = absurd h

        quiet_other : (o : Other) → IsUnverbedOther o → IsRegularOther o → Quiet (level_other g below o)
        quiet_other tree.no_other h k s = kept_gives Any s tt
        quiet_other (tree.other t) h k s = quiet_level t h k s

    pub quiet_run : (d : ℕ) (t : Nested) → IsUnverbed t → IsRegular t → Quiet (run g d t)
    unfolding run
    quiet_run zero t h k s = kept_cut Any
    quiet_run (suc d) t h k s = quiet_level (run g d) (quiet_run d) t h k s

    -- From the place, where no match begins.
    module _ (bytes : (k : ℕ) → k < length g.subject → slice_index g.subject k < 256)
        (text : IsText g.options g.subject) (p : ℕ) (here : Here g p) where
      -- at the place, and the tree may be passed
      abbrev pub Stays : Bool → State → Type 0
      Stays b s = (s.place ≡ p) × (b ≡ true)

      abbrev pub Led : SomeLead → Search → Type 0
      Led None f = Unit {0}
      Led (Some a) f = Out g p a.has → (s : State) → s.place ≡ p → Kept (Stays a.passing) (f s)

      abbrev made : (ℕ → Bool) → Bool → Lead
      made has passing = record { has = has; passing = passing }

      abbrev pub lead_of : Nested → SomeLead
      lead_of t =
          first.lead g.options.utf (end_kind g.options.newline g.options.utf) (break_kind g.options.bsr g.options.utf)
          g.class_has g.fold t

      abbrev turn_lead : Row → SomeLead
      turn_lead ts =
          first.lead_in_turn g.options.utf (end_kind g.options.newline g.options.utf)
          (break_kind g.options.bsr g.options.utf) g.class_has g.fold ts

      abbrev one_lead : Row → SomeLead
      one_lead ts =
          first.lead_of_one g.options.utf (end_kind g.options.newline g.options.utf)
          (break_kind g.options.bsr g.options.utf) g.class_has g.fold ts

      abbrev other_lead : Other → SomeLead
      other_lead o =
          first.lead_of_other g.options.utf (end_kind g.options.newline g.options.utf)
          (break_kind g.options.bsr g.options.utf) g.class_has g.fold o

      abbrev test_lead : Test → SomeLead → SomeLead
      test_lead test x =
          first.lead_of_test g.options.utf (end_kind g.options.newline g.options.utf)
          (break_kind g.options.bsr g.options.utf) g.class_has g.fold test x

      out_left : (a b : ℕ → Bool) → Out g p (λ c. a c || b c) → Out g p a
      out_left a b (inl e) = inl e
      out_left a b (inr e) = inr (or_parts (a (slice_index g.subject p)) (b (slice_index g.subject p)) e).0

      out_right : (a b : ℕ → Bool) → Out g p (λ c. a c || b c) → Out g p b
      out_right a b (inl e) = inl e
      out_right a b (inr e) = inr (or_parts (a (slice_index g.subject p)) (b (slice_index g.subject p)) e).1

      stays_left : (a b : Bool) (x : Stream) → Kept (Stays a) x → Kept (Stays (a || b)) x
      stays_left a b x h = kept_more (Stays a) (Stays (a || b)) x h (λ s i. (i.0, or_left a b i.1))

      stays_right : (a b : Bool) (x : Stream) → Kept (Stays b) x → Kept (Stays (a || b)) x
      stays_right a b x h = kept_more (Stays b) (Stays (a || b)) x h (λ s i. (i.0, or_right a b i.1))

      stays_units : (b : Bool) (s : State) (n : ℕ) → Stays b s → Stays b (record s { units = n })
      stays_units b s n i = i

      -- Items.

      led_one : (item : Item) → Led (first.begins (item_lead g item)) (run_one g item)
      unfolding run_one
      led_one item out s at =
          kept_reach_if (Stays false) _ s _
          (subst (λ o. Kept (Stays false) (goes_to o s))
          (sym (ap (after_item g.scene item) at ∙ none_here g bytes text item p here out)) (kept_nothing (Stays false)))

      led_break : Led (first.begins (break_lead g)) (run_break g)
      unfolding run_break
      led_break out s at =
          kept_reach_if (Stays false) _ s _
          (subst (λ o. Kept (Stays false) (goes_to o s))
          (sym (ap (after_break g.scene) at ∙ no_break g p out)) (kept_nothing (Stays false)))

      no_offers : (n : ℕ) (b : Bool) (s : State) → Kept (Stays b) (offers g (reverse (drop n [])) s)
      unfolding offers
      no_offers zero b s = kept_nothing (Stays b)
      no_offers (suc n) b s = kept_nothing (Stays b)

      none_reluctant : (item : Item) (left : Option ℕ) (n : ℕ) (b : Bool) (s : State)
          → Kept (Stays b) (reluctant g item left (drop n []) s)
      unfolding reluctant
      none_reluctant item left zero b s = kept_nothing (Stays b)
      none_reluctant item left (suc n) b s = kept_nothing (Stays b)

      -- a run that takes nothing
      many_stays : (item : Item) (low : ℕ) (high : Option ℕ) (lazily b : Bool) (s : State) →
          longest_run g.scene item high s.place ≡ [] → s.place ≡ p → (low ≡ 0 → b ≡ true)
          → Kept (Stays b) (run_many g item low high lazily s)
      unfolding run_many greedy lazy_run offers reluctant
      many_stays item zero high false b s none at passed =
          kept_reach_if (Stays b) _ s _
          (subst (λ (ps : List ℕ). Kept (Stays b) (offers g (reverse (s.place ∷ ps)) s)) (sym none)
          (kept_step (Stays b) _ (kept_gives (Stays b) (move_to s.place s) (at, passed refl))))
      many_stays item (suc low) high false b s none at passed =
          kept_reach_if (Stays b) _ s _
          (subst (λ (ps : List ℕ). Kept (Stays b) (offers g (reverse (drop low ps)) s)) (sym none) (no_offers low b s))
      many_stays item zero high true b s none at passed =
          kept_reach_if (Stays b) _ s _
          (subst (λ (ps : List ℕ). Kept (Stays b) (reluctant g item (option_map (λ n. n - 0) high) (s.place ∷ ps) s))
          (sym none)
          (kept_offer_and (Stays b) _ (move_to s.place s) _ (at, passed refl) (at, passed refl)
          (kept_reach_if (Stays b) _ s _ (kept_nothing (Stays b)))))
      many_stays item (suc low) high true b s none at passed =
          kept_reach_if (Stays b) _ s _
          (subst (λ (ps : List ℕ). Kept (Stays b)
          (reluctant g item (option_map (λ n. n - suc low) high) (drop low ps) s)) (sym none)
          (none_reluctant item _ low b s))

      no_run : (item : Item) (n q : ℕ) → run_places g.scene item n (Some 0) q ≡ []
      unfolding run_places
      no_run item zero q = refl
      no_run item (suc n) q = refl

      run_is : (item : Item) (high : Option ℕ) (s : State) → s.place ≡ p → Out g p (item_lead g item)
          → longest_run g.scene item high s.place ≡ []
      run_is item high s at out =
          ap (longest_run g.scene item high) at ∙ none_run g bytes text item (length g.subject) high p here out

      led_many : (item : Item) (low : ℕ) (high : Option ℕ) (lazily : Bool) →
          Led (repeated_lead low high (first.begins (item_lead g item))) (run_many g item low high lazily)
      led_many item low (Some zero) lazily = λ out s at.
          many_stays item low (Some 0) lazily true s (no_run item (length g.subject) s.place) at (λ e. refl)
      led_many item zero None lazily = λ out s at. many_stays item 0 None lazily true s (run_is item None s at out) at
          (λ e. refl)
      led_many item zero (Some (suc n)) lazily = λ out s at.
          many_stays item 0 (Some (suc n)) lazily true s (run_is item (Some (suc n)) s at out) at (λ e. refl)
      led_many item (suc low) None lazily = λ out s at.
          many_stays item (suc low) None lazily false s (run_is item None s at out) at (λ e. absurd (omega (arith, e)))
      led_many item (suc low) (Some (suc n)) lazily = λ out s at.
          many_stays item (suc low) (Some (suc n)) lazily false s (run_is item (Some (suc n)) s at out) at
          (λ e. absurd (omega (arith, e)))

      -- Sequences and branches.

      led_then_by : (has : ℕ → Bool) (passing : Bool) (y : SomeLead) (f : Search) (fs : List Search) →
          Led (Some (made has passing)) f → Led y (in_order fs)
          → Led (then_lead (Some (made has passing)) y) (in_order (f ∷ fs))
      unfolding in_order
      led_then_by has true None f fs h k = tt
      led_then_by has true (Some b) f fs h k = λ out s at.
          kept_and_then (Stays true) (Stays b.passing) (f s) (in_order fs) (h (out_left has b.has out) s at)
          (λ u i. k (out_right has b.has out) u i.0)
      led_then_by has false y f fs h k = λ out s at.
          kept_and_then (Stays false) (Stays false) (f s) (in_order fs) (h out s at)
          (λ u i. absurd (let e : false ≡ true = i.1 in cc))

      led_then : (x y : SomeLead) (f : Search) (fs : List Search) → Led x f → Led y (in_order fs)
          → Led (then_lead x y) (in_order (f ∷ fs))
      led_then None y f fs h k = tt
      led_then (Some a) y f fs h k = led_then_by a.has a.passing y f fs h k

      led_choice : (x y : SomeLead) (f : Search) (fs : List Search) → Led x f → Led y (choices g fs)
          → Led (either_lead x y) (choices g (f ∷ fs))
      unfolding choices
      led_choice None y f fs h k = tt
      led_choice (Some a) None f fs h k = tt
      led_choice (Some a) (Some b) f [] h k = λ out s at.
          kept_step _ _ (kept_catch _ is_next_branch (f s)
          (stays_left a.passing b.passing _ (h (out_left a.has b.has out) s at)))
      led_choice (Some a) (Some b) f (f' ∷ fs) h k = λ out s at.
          kept_step _ _ (kept_or_else _ _ _
          (kept_held (Stays (a.passing || b.passing)) 1 s _
          (kept_catch _ is_next_branch _ (stays_left a.passing b.passing _ (h (out_left a.has b.has out) _ at))))
          (stays_right a.passing b.passing _ (k (out_right a.has b.has out) s at)))

      led_only : (x : SomeLead) (f : Search) → Led x f → Led (either_lead x (first.begins no_byte)) f
      led_only None f h = tt
      led_only (Some a) f h = λ out s at. stays_left a.passing false _ (h (out_left a.has no_byte out) s at)

      -- one of two follows
      led_either : (x y : SomeLead) (f f' h : Search) → Led x f → Led y f' →
          ((P : State → Type 0) (s : State) → ((u : State) → u.place ≡ s.place → Kept P (f u))
          → ((u : State) → u.place ≡ s.place → Kept P (f' u)) → Kept P (h s)) →
          Led (either_lead x y) h
      led_either None y f f' h k l i = tt
      led_either (Some a) None f f' h k l i = tt
      led_either (Some a) (Some b) f f' h k l i = λ out s at.
          i (Stays (a.passing || b.passing)) s
          (λ u e. stays_left a.passing b.passing _ (k (out_left a.has b.has out) u (e ∙ at)))
          (λ u e. stays_right a.passing b.passing _ (l (out_right a.has b.has out) u (e ∙ at)))

      led_group : (number : Option ℕ) (x : SomeLead) (f : Search) → Led x f → Led x (run_group g number f)
      led_group number None f h = tt
      led_group number (Some a) f h = λ out s at.
          kept_group (Stays a.passing) (stays_units a.passing) number f s (λ n u i. i) (h out s at) (h out _ at)

      led_atomic : (x : SomeLead) (f : Search) → Led x f → Led x (run_atomic g f)
      led_atomic None f h = tt
      led_atomic (Some a) f h = λ out s at.
          kept_atomic (Stays a.passing) (stays_units a.passing) f s (λ u i. i) (h out _ at)

      module _ (below : Searches) (quiet : (t : Nested) → IsUnverbed t → IsRegular t → Quiet (below t))
          (led : (t : Nested) → IsUnverbed t → IsRegular t → Led (lead_of t) (below t)) where
        -- Repeats.

        later_turns : (has : ℕ → Bool) (passing : Bool) (low : ℕ) (high : Option ℕ) (f : Search)
            → Led (repeated_lead low high (Some (made has passing))) f →
            passing ≡ true → Out g p has → (u : State) → u.place ≡ p → Kept (Stays passing) (f u)
        later_turns has passing low (Some zero) f h e out u at =
            kept_more (Stays true) (Stays passing) (f u) (h (inr refl) u at) (λ s i. (i.0, e))
        later_turns has passing zero None f h e out u at =
            kept_more (Stays true) (Stays passing) (f u) (h out u at) (λ s i. (i.0, e))
        later_turns has passing zero (Some (suc n)) f h e out u at =
            kept_more (Stays true) (Stays passing) (f u) (h out u at) (λ s i. (i.0, e))
        later_turns has passing (suc low) None f h e out u at = h out u at
        later_turns has passing (suc low) (Some (suc n)) f h e out u at = h out u at

        module _ (body : Nested) (lazily : Bool) where
          abbrev Again : SomeLead → Type 0
          Again x = (low : ℕ) (high : Option ℕ) → AtMost low high
              → Led (repeated_lead low high x) (below (tree.repeat body low high lazily))

          led_turn : (has : ℕ → Bool) (passing : Bool) → Led (Some (made has passing)) (below body)
              → Again (Some (made has passing)) →
              (low : ℕ) (high : Option ℕ) → AtMost low high → Led (Some (made has passing))
              (turn g below body low high lazily)
          led_turn has passing h again low high ordered out s at =
              kept_turn below quiet (Stays passing) body low high lazily s (h out _ at)
              (λ u i. later_turns has passing (low - 1) (one_less high)
              (below (tree.repeat body (low - 1) (one_less high) lazily))
              (again (low - 1) (one_less high) (less_ordered below quiet low high ordered)) i.1 out u i.0)

          passed_turn : (has : ℕ → Bool) (passing : Bool) → Led (Some (made has passing)) (below body)
              → Again (Some (made has passing)) →
              (high : Option ℕ) → Led (Some (made has true)) (turn g below body 0 high lazily)
          passed_turn has passing h again None out s at =
              kept_more (Stays passing) (Stays true) _ (led_turn has passing h again 0 None tt out s at)
              (λ u i. (i.0, refl))
          passed_turn has passing h again (Some n) out s at =
              kept_more (Stays passing) (Stays true) _
              (led_turn has passing h again 0 (Some n) (omega arith) out s at) (λ u i. (i.0, refl))

        led_repeat_by : (body : Nested) (lazily : Bool) (x : SomeLead) → Led x (below body) → Again body lazily x
            → (low : ℕ) (high : Option ℕ) → AtMost low high →
            Led (repeated_lead low high x) (run_repeat g below body low high lazily)
        unfolding run_repeat
        led_repeat_by body lazily x h again (suc low) (Some zero) ordered = absurd (omega (arith, ordered))
        led_repeat_by body lazily x h again zero (Some zero) ordered = λ out s at. kept_gives (Stays true) s (at, refl)
        led_repeat_by body lazily None h again (suc low) None ordered = tt
        led_repeat_by body lazily None h again (suc low) (Some (suc n)) ordered = tt
        led_repeat_by body lazily None h again zero None ordered = tt
        led_repeat_by body lazily None h again zero (Some (suc n)) ordered = tt
        led_repeat_by body lazily (Some a) h again (suc low) None ordered =
            led_turn body lazily a.has a.passing h again (suc low) None ordered
        led_repeat_by body lazily (Some a) h again (suc low) (Some (suc n)) ordered =
            led_turn body lazily a.has a.passing h again (suc low) (Some (suc n)) ordered
        led_repeat_by body true (Some a) h again zero None ordered = λ out s at.
            kept_or_else (Stays true) _ _ (kept_hold (Stays true) s (at, refl))
            (passed_turn body true a.has a.passing h again None out s at)
        led_repeat_by body false (Some a) h again zero None ordered = λ out s at.
            kept_or_else (Stays true) _ _ (passed_turn body false a.has a.passing h again None out s at)
            (kept_gives (Stays true) s (at, refl))
        led_repeat_by body true (Some a) h again zero (Some (suc n)) ordered = λ out s at.
            kept_or_else (Stays true) _ _ (kept_hold (Stays true) s (at, refl))
            (passed_turn body true a.has a.passing h again (Some (suc n)) out s at)
        led_repeat_by body false (Some a) h again zero (Some (suc n)) ordered = λ out s at.
            kept_or_else (Stays true) _ _ (passed_turn body false a.has a.passing h again (Some (suc n)) out s at)
            (kept_gives (Stays true) s (at, refl))

        led_repeat : (body : Nested) (low : ℕ) (high : Option ℕ) (lazily : Bool) → IsUnverbed body
            → AtMost low high × IsRegular body →
            Led (repeated_lead low high (lead_of body)) (run_repeat g below body low high lazily)
        unfolding first.lead
        led_repeat body low high lazily h k =
            led_repeat_by body lazily (lead_of body) (led body h k.1)
            (λ l m ordered. led (tree.repeat body l m lazily) h (ordered, k.1)) low high k.0

        -- Conditions.

        led_condition : (test : Test) (second : Other) (x y : SomeLead) (f : Search) → IsDefinition test second
            → IsUnverbedTest test → IsRegularTest test →
            Led x f → Led y (level_other g below second) →
            Led (test_lead test (either_lead x y)) (level_test g below test f (level_other g below second))
        unfolding level first.lead
        led_condition tree.never tree.no_other x y f d h k i j = λ out s at. kept_gives (Stays true) s (at, refl)
        led_condition tree.never (tree.other t) x y f d h k i j = absurd d
        led_condition (tree.any_set ns) second x y f d h k i j =
            led_either x y f (level_other g below second) _ i j
            (λ P s a b. kept_tests P (some_set s.caps ns) f (level_other g below second) s (a s refl) (b s refl))
        led_condition tree.in_call second x y f d h k i j =
            led_either x y f (level_other g below second) _ i j
            (λ P s a b. kept_tests P (is_called s.calls) f (level_other g below second) s (a s refl) (b s refl))
        led_condition (tree.in_call_of ns) second x y f d h k i j =
            led_either x y f (level_other g below second) _ i j
            (λ P s a b. kept_tests P (is_called_of s.calls ns) f (level_other g below second) s (a s refl) (b s refl))
        led_condition (tree.assert true positive once ts) second x y f d h k i j =
            led_either x y f (level_other g below second) _ i j
            (λ P s a b. kept_asserts P positive _ f (level_other g below second) s
            (quiet_branches _ (quiet_levels below quiet ts h k)) a b)
        led_condition (tree.assert false positive once ts) second x y f d h k i j =
            led_either x y f (level_other g below second) _ i j
            (λ P s a b. kept_asserts P positive _ f (level_other g below second) s
            (quiet_branches _ (quiet_levels_behind below quiet ts h k)) a b)
        led_condition (tree.called c test) second x y f d h k i j = absurd h

        mutual
          unfolding level first.lead in_order branches choices

          led_level : (t : Nested) → IsUnverbed t → IsRegular t → Led (lead_of t) (level g below t)
          led_level tree.empty h k = λ out s at. kept_gives (Stays true) s (at, refl)
          led_level (tree.one item) h k = led_one item
          led_level tree.line_break h k = led_break
          led_level (tree.seq ts) h k = led_turns ts h k
          led_level (tree.group number ts) h k = led_group number (one_lead ts) (branches g (levels g below ts))
              (led_branches ts h k)
          led_level (tree.repeat body low high lazily) h k = led_repeat body low high lazily h k
          led_level (tree.one_repeat item low high lazily) h k = led_many item low high lazily
          led_level (tree.atomic ts) h k = led_atomic (one_lead ts) (branches g (levels g below ts))
              (led_branches ts h k)
          led_level (tree.look true positive once ts) h k = λ out s at.
              kept_look (Stays true) positive once _ s (quiet_branches _ (quiet_levels below quiet ts h k)) (at, refl)
              (λ u. (at, refl))
          led_level (tree.look false positive once ts) h k = λ out s at.
              kept_look (Stays true) positive once _ s (quiet_branches _ (quiet_levels_behind below quiet ts h k))
              (at, refl) (λ u. (at, refl))
          led_level (tree.condition test t second) h k =
              led_condition test second (lead_of t) (other_lead second) (level g below t) k.0 h.0 k.1
              (led_level t h.1 k.2) (led_other second h.2 k.3)
          led_level (tree.call n) h k = absurd h
          led_level (tree.ref ns caseless) h k = tt
          led_level (tree.anchor kind) h k = λ out s at. kept_anchor (Stays true) kind s (λ e. (at, refl))
          led_level tree.keep_out h k = λ out s at. kept_gives (Stays true) _ (at, refl)
          led_level (tree.verb v) h k = absurd h
          led_level (tree.callout c) h k = absurd h

          led_turns : (ts : Row) → AreUnverbed ts → AreRegular ts → Led (turn_lead ts) (in_order (levels g below ts))
          led_turns tree.none h k = λ out s at. kept_gives (Stays true) s (at, refl)
          led_turns (tree.more t ts) h k = led_then (lead_of t) (turn_lead ts) (level g below t) (levels g below ts)
              (led_level t h.0 k.0) (led_turns ts h.1 k.1)

          led_branches : (ts : Row) → AreUnverbed ts → AreRegular ts
              → Led (one_lead ts) (branches g (levels g below ts))
          led_branches tree.none h k = λ out s at. kept_nothing (Stays false)
          led_branches (tree.more t tree.none) h k = led_only (lead_of t) (level g below t) (led_level t h.0 k.0)
          led_branches (tree.more t (tree.more u ts)) h k =
              led_choice (lead_of t) (one_lead (tree.more u ts)) (level g below t)
              (level g below u ∷ levels g below ts) (led_level t h.0 k.0)
              (led_choices (tree.more u ts) h.1 k.1)

          led_choices : (ts : Row) → AreUnverbed ts → AreRegular ts → Led (one_lead ts) (choices g (levels g below ts))
          led_choices tree.none h k = λ out s at. kept_nothing (Stays false)
          led_choices (tree.more t ts) h k =
              led_choice (lead_of t) (one_lead ts) (level g below t) (levels g below ts) (led_level t h.0 k.0)
              (led_choices ts h.1 k.1)

          led_other : (o : Other) → IsUnverbedOther o → IsRegularOther o → Led (other_lead o) (level_other g below o)
          led_other tree.no_other h k = λ out s at. kept_gives (Stays true) s (at, refl)
          led_other (tree.other t) h k = led_level t h k

      led_cut : (x : SomeLead) (t : Nested) → Led x (run g 0 t)
      unfolding run
      led_cut None t = tt
      led_cut (Some a) t = λ out s at. kept_cut (Stays a.passing)

      pub led_run : (d : ℕ) (t : Nested) → IsUnverbed t → IsRegular t → Led (lead_of t) (run g d t)
      unfolding run
      led_run zero t h k = led_cut (lead_of t) t
      led_run (suc d) t h k = led_level (run g d) (quiet_run d) (led_run d) t h k
