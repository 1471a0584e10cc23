-- A search for a pattern that goes by the place alone meets nothing but Steps and states.
use Rattle.std.proofs.Common.{◌≡◌, ℕ, zero, suc, ◌+◌, ◌-◌, ◌==◌, Bool, true, false, List, [], ◌∷◌, drop, reverse}
use Rattle.std.proofs.Common.{Option, Some, None}
use Rattle.std.specs.Prelude.{nat_le}
use Rattle.pat_tree.specs.declared.options.PartialMode.{PartialMode}
use Rattle.pat_tree.specs.declared.options.PartialMode.TheVariants.{Off, Soft, Hard}
use Rattle.pat_tree.specs.declared.nodes.Item.{Item}
use Rattle.pat_tree.specs.Nested as tree
use Rattle.pat_tree.specs.Nested.{Nested, Row, Test, Other}
use Rattle.match_items.specs.Items.{one_less, is_none_left, places_back, item_reaches, holds, anchor_reaches}
use Rattle.pat_lengths.specs.Lengths.{SomeLengths}
use Rattle.ordered_search.specs.Stream.{State, by_halt, is_partial, hit_end, reached, note, Stream, Search, ends, ◌▸◌}
use Rattle.ordered_search.specs.Stream.{nothing, gives, and_then, no_ending, is_next_branch, fails_alone}
use Rattle.ordered_search.specs.Stream.{fails_inside, captured, too_many_units}
use Rattle.ordered_search.specs.Setting.{Setting, branch_lengths, held, hold, counts, reach, reach_if}
use Rattle.ordered_search.specs.Tests.{move_to, goes_to, run_one, run_break, run_anchor, offers, greedy, offer_and}
use Rattle.ordered_search.specs.Tests.{reluctant, lazy_run, run_many}
use Rattle.ordered_search.specs.Parts.{Searches, in_order, choices, branches, run_group, begun_at, ends_at, one_try}
use Rattle.ordered_search.specs.Parts.{tries, tries_within, run_behind, run_atomic, run_look, asserts, is_over, turn}
use Rattle.ordered_search.specs.Parts.{run_repeat, back_to, forget_passed}
use Rattle.ordered_search.specs.Run.{level, levels, levels_behind, level_test, level_other, run}
use Rattle.ordered_search.specs.Plain.{IsPlain, ArePlain, IsPlainTest, IsPlainOther}
use Rattle.search_costs.proofs.QuietStreams.{IsQuiet, quiet_nothing, quiet_gives, quiet_step, quiet_if, quiet_or_else}
use Rattle.search_costs.proofs.QuietStreams.{quiet_each, quiet_and_then, quiet_decide, quiet_catch}

-- each stream of the search
abbrev pub Quiet : Search → Type 0
Quiet f = (s : State) → IsQuiet (f s)

abbrev AllQuiet : List Search → Type 0
AllQuiet [] = Unit {0}
AllQuiet (f ∷ fs) = Quiet f × AllQuiet fs

quiet_goes : (o : Option ℕ) → Quiet (goes_to o)
quiet_goes None s = quiet_nothing
quiet_goes (Some p) s = quiet_gives (move_to p s)

quiet_in_order : (fs : List Search) → AllQuiet fs → Quiet (in_order fs)
unfolding in_order
quiet_in_order [] h s = quiet_gives s
quiet_in_order (f ∷ fs) h s = quiet_and_then (f s) (in_order fs) (h.0 s) (quiet_in_order fs h.1)

quiet_ends_at : (p : ℕ) → Quiet (ends_at p)
quiet_ends_at p u = quiet_if (u.place == p) _ _ (quiet_gives u) quiet_nothing

quiet_one_try : (ps : List ℕ) (f : Search) → Quiet f → Quiet (one_try ps f)
unfolding one_try
quiet_one_try [] f h s = quiet_nothing
quiet_one_try (p ∷ ps) f h s = h (begun_at p s)

module _ (g : Setting) where
  pub quiet_held : (n : ℕ) (s : State) (f : Search) → Quiet f → IsQuiet (held g n s f)
  unfolding held IsQuiet
  quiet_held n s f h = quiet_if (nat_le (s.units + n) g.matching.frame_limit) _ (ends (by_halt too_many_units)) (h _) tt

  pub quiet_hold : (s : State) → IsQuiet (hold g reached s)
  unfolding hold
  quiet_hold s = quiet_held 1 s (gives reached) quiet_gives

  quiet_offers : (ps : List ℕ) → Quiet (offers g ps)
  unfolding offers
  quiet_offers [] s = quiet_nothing
  quiet_offers (p ∷ []) s = quiet_step _ (quiet_gives (move_to p s))
  quiet_offers (p ∷ q ∷ ps) s = quiet_step _ (quiet_or_else _ _ (quiet_hold (move_to p s)) (quiet_offers (q ∷ ps) s))

  quiet_offer_and : (b : Bool) (s : State) (x : Stream) → IsQuiet x → IsQuiet (offer_and g b s x)
  quiet_offer_and true s x h = quiet_step _ (quiet_gives s)
  quiet_offer_and false s x h = quiet_step _ (quiet_or_else _ _ (quiet_hold s) h)

  quiet_choices : (fs : List Search) → AllQuiet fs → Quiet (choices g fs)
  unfolding choices
  quiet_choices [] h s = quiet_nothing
  quiet_choices (f ∷ []) h s = quiet_step _ (quiet_catch is_next_branch (f s) (h.0 s))
  quiet_choices (f ∷ f' ∷ fs) h s =
      quiet_step _ (quiet_or_else _ _ (quiet_held 1 s _ (λ t. quiet_catch is_next_branch (f t) (h.0 t)))
      (quiet_choices (f' ∷ fs) h.1 s))

  quiet_branches : (fs : List Search) → AllQuiet fs → Quiet (branches g fs)
  unfolding branches
  quiet_branches [] h s = quiet_nothing
  quiet_branches (f ∷ []) h s = h.0 s
  quiet_branches (f ∷ f' ∷ fs) h s = quiet_choices (f ∷ f' ∷ fs) h s

  quiet_tried : (p q : ℕ) (f : Search) → Quiet f → (s : State) → IsQuiet (and_then (f (begun_at p s)) (ends_at q))
  quiet_tried p q f h s = quiet_and_then _ (ends_at q) (h (begun_at p s)) (quiet_ends_at q)

  quiet_tries : (ps : List ℕ) (f : Search) → Quiet f → Quiet (tries g ps f)
  unfolding tries
  quiet_tries [] f h s = quiet_nothing
  quiet_tries (p ∷ []) f h s = quiet_step _ (quiet_tried p s.place f h s)
  quiet_tries (p ∷ q ∷ ps) f h s =
      quiet_step _ (quiet_or_else _ _ (quiet_held 1 s _ (quiet_tried p s.place f h)) (quiet_tries (q ∷ ps) f h s))

  quiet_tries_within : (least : ℕ) (most : Option ℕ) (f : Search) → Quiet f → Quiet (tries_within g least most f)
  unfolding tries_within
  quiet_tries_within least None f h s = quiet_nothing
  quiet_tries_within least (Some most) f h s =
      let places = reverse (drop least (places_back g.scene most s.place)) in
      quiet_if (least == most) _ _ (quiet_one_try places f h s) (quiet_tries places f h s)

  quiet_behind : (lengths : SomeLengths) (f : Search) → Quiet f → Quiet (run_behind g lengths f)
  unfolding run_behind
  quiet_behind None f h s = quiet_nothing
  quiet_behind (Some a) f h s = quiet_tries_within a.least a.most f h s

  quiet_group : (n : Option ℕ) (f : Search) → Quiet f → Quiet (run_group g n f)
  unfolding run_group
  quiet_group None f h s = h s
  quiet_group (Some n) f h s =
      quiet_held 1 s _ (λ t. quiet_each (f t) _ (h t) (λ u. quiet_hold (captured n s.place u)))

  quiet_atomic : (f : Search) → Quiet f → Quiet (run_atomic g f)
  unfolding run_atomic
  quiet_atomic f h s =
      quiet_held 1 s _ (λ t. quiet_decide no_ending (f t) _ nothing (h t) (λ u. quiet_hold (forget_passed s u))
      quiet_nothing)

  quiet_look : (positive once : Bool) (f : Search) → Quiet f → Quiet (run_look g positive once f)
  unfolding run_look
  quiet_look true true f h s =
      quiet_held 1 s _ (λ t. quiet_decide fails_alone (f t) _ nothing (h t)
      (λ u. quiet_hold (back_to s (forget_passed s u))) quiet_nothing)
  quiet_look true false f h s =
      quiet_held 1 s _ (λ t. quiet_catch fails_alone _ (quiet_each (f t) _ (h t) (λ u. quiet_gives (back_to s u))))
  quiet_look false once f h s =
      quiet_held 1 s _ (λ t. quiet_decide fails_inside (f t) _ (gives reached s) (h t) (λ u. quiet_nothing)
      (quiet_gives s))

  quiet_asserts : (positive : Bool) (x yes' no' : Search) → Quiet x → Quiet yes' → Quiet no'
      → Quiet (asserts g positive x yes' no')
  unfolding asserts
  quiet_asserts true x yes' no' h k l s =
      quiet_held 1 s _ (λ t. quiet_decide fails_inside (x t) _ (no' s) (h t)
      (λ u. quiet_held 1 (back_to s (forget_passed s u)) yes' k) (l s))
  quiet_asserts false x yes' no' h k l s =
      quiet_held 1 s _ (λ t. quiet_decide fails_inside (x t) _ (yes' s) (h t)
      (λ u. quiet_held 1 (back_to s (forget_passed s u)) no' l) (k s))

  abbrev pub QuietBelow : Searches → Type 0
  QuietBelow below = (t : Nested) → IsPlain t → Quiet (below t)

  quiet_turn : (below : Searches) (body : Nested) (low : ℕ) (high : Option ℕ) (lazily : Bool) → IsPlain body
      → QuietBelow below → Quiet (turn g below body low high lazily)
  unfolding turn
  quiet_turn below body low high lazily plain h s =
      quiet_step _ (quiet_held 1 s _ (λ t. quiet_and_then (below body t) _ (h body plain t)
      (λ u. quiet_if (is_over low high s u) _ _ (quiet_gives u)
      (h (tree.repeat body (low - 1) (one_less high) lazily) plain u))))

  quiet_repeat : (below : Searches) (body : Nested) (low : ℕ) (high : Option ℕ) (lazily : Bool) → IsPlain body
      → QuietBelow below → Quiet (run_repeat g below body low high lazily)
  unfolding run_repeat
  quiet_repeat below body (suc low) high lazily plain h s = quiet_turn below body (suc low) high lazily plain h s
  quiet_repeat below body zero (Some zero) lazily plain h s = quiet_gives s
  quiet_repeat below body zero None true plain h s =
      quiet_or_else _ _ (quiet_hold s) (quiet_turn below body 0 None true plain h s)
  quiet_repeat below body zero (Some (suc m)) true plain h s =
      quiet_or_else _ _ (quiet_hold s) (quiet_turn below body 0 (Some (suc m)) true plain h s)
  quiet_repeat below body zero None false plain h s =
      quiet_or_else _ _ (quiet_turn below body 0 None false plain h s) (quiet_gives s)
  quiet_repeat below body zero (Some (suc m)) false plain h s =
      quiet_or_else _ _ (quiet_turn below body 0 (Some (suc m)) false plain h s) (quiet_gives s)

  module _ (off : g.matching.«partial» ≡ Off) where
    quiet_mode : (mode : PartialMode) → mode ≡ Off → (s : State) (x : Stream) → IsQuiet x → IsQuiet (elim mode [
      | Off ↦ x
      | Soft ↦ elim (counts g s) [ true ↦ note hit_end ▸ x | false ↦ x ]
      | Hard ↦ elim (counts g s) [ true ↦ ends (by_halt is_partial) | false ↦ x ]
    ])
    quiet_mode Off e s x h = h
    quiet_mode Soft e s x h = absurd (cc e)
    quiet_mode Hard e s x h = absurd (cc e)

    quiet_reach : (b : Bool) (s : State) (x : Stream) → IsQuiet x → IsQuiet (reach_if g b s x)
    unfolding reach_if reach
    quiet_reach true s x h = quiet_mode g.matching.«partial» off s x h
    quiet_reach false s x h = h

    quiet_reluctant : (item : Item) (left : Option ℕ) (ps : List ℕ) → Quiet (reluctant g item left ps)
    unfolding reluctant
    quiet_reluctant item left [] s = quiet_nothing
    quiet_reluctant item left (p ∷ ps) s =
        quiet_offer_and (is_none_left left) _ _
        (quiet_reach (item_reaches g.scene item p) s _ (quiet_reluctant item (one_less left) ps s))

    quiet_many : (item : Item) (low : ℕ) (high : Option ℕ) (lazily : Bool) → Quiet (run_many g item low high lazily)
    unfolding run_many greedy lazy_run
    quiet_many item low high false s = quiet_reach _ s _ (quiet_offers _ s)
    quiet_many item low high true s = quiet_reach _ s _ (quiet_reluctant item _ _ s)

    module _ (below : Searches) (h : QuietBelow below) where
      mutual
        unfolding level run_one run_break run_anchor

        quiet_level : (t : Nested) → IsPlain t → Quiet (level g below t)
        quiet_level tree.empty plain s = quiet_gives s
        quiet_level (tree.one item) plain s = quiet_reach _ s _ (quiet_goes _ s)
        quiet_level tree.line_break plain s = quiet_reach _ s _ (quiet_goes _ s)
        quiet_level (tree.seq ts) plain s = quiet_in_order _ (quiet_levels ts plain) s
        quiet_level (tree.group number ts) plain s = quiet_group number _ (quiet_branches _ (quiet_levels ts plain)) s
        quiet_level (tree.repeat body low high lazily) plain s = quiet_repeat below body low high lazily plain h s
        quiet_level (tree.one_repeat item low high lazily) plain s = quiet_many item low high lazily s
        quiet_level (tree.atomic ts) plain s = quiet_atomic _ (quiet_branches _ (quiet_levels ts plain)) s
        quiet_level (tree.look true positive once ts) plain s =
            quiet_look positive once _ (quiet_branches _ (quiet_levels ts plain)) s
        quiet_level (tree.look false positive once ts) plain s =
            quiet_look positive once _ (quiet_branches _ (quiet_levels_behind ts plain)) s
        quiet_level (tree.condition test first second) plain s =
            quiet_level_test test plain.0 _ _ (quiet_level first plain.1) (quiet_level_other second plain.2) s
        quiet_level (tree.call n) plain s = absurd plain
        quiet_level (tree.ref ns caseless) plain s = absurd plain
        quiet_level (tree.anchor kind) plain s =
            quiet_reach (anchor_reaches g.scene kind s.place) _ _
            (quiet_if (holds g.scene kind s.place) _ _ (quiet_gives _) quiet_nothing)
        quiet_level tree.keep_out plain s = quiet_gives _
        quiet_level (tree.verb v) plain s = absurd plain
        quiet_level (tree.callout c) plain s = absurd plain

        quiet_levels : (ts : Row) → ArePlain ts → AllQuiet (levels g below ts)
        quiet_levels tree.none plain = tt
        quiet_levels (tree.more t ts) plain = (quiet_level t plain.0, quiet_levels ts plain.1)

        quiet_levels_behind : (ts : Row) → ArePlain ts → AllQuiet (levels_behind g below ts)
        quiet_levels_behind tree.none plain = tt
        quiet_levels_behind (tree.more t ts) plain =
            (quiet_behind (branch_lengths g t) _ (quiet_level t plain.0), quiet_levels_behind ts plain.1)

        quiet_level_test : (test : Test) → IsPlainTest test → (yes' no' : Search) → Quiet yes' → Quiet no'
            → Quiet (level_test g below test yes' no')
        quiet_level_test (tree.any_set ns) plain yes' no' k l s = absurd plain
        quiet_level_test tree.in_call plain yes' no' k l s = absurd plain
        quiet_level_test (tree.in_call_of ns) plain yes' no' k l s = absurd plain
        quiet_level_test tree.never plain yes' no' k l s = l s
        quiet_level_test (tree.assert true positive once ts) plain yes' no' k l s =
            quiet_asserts positive _ yes' no' (quiet_branches _ (quiet_levels ts plain)) k l s
        quiet_level_test (tree.assert false positive once ts) plain yes' no' k l s =
            quiet_asserts positive _ yes' no' (quiet_branches _ (quiet_levels_behind ts plain)) k l s
        quiet_level_test (tree.called c test) plain yes' no' k l s = absurd plain

        quiet_level_other : (o : Other) → IsPlainOther o → Quiet (level_other g below o)
        quiet_level_other tree.no_other plain s = quiet_gives s
        quiet_level_other (tree.other t) plain s = quiet_level t plain s

    pub quiet_run : (d : ℕ) (t : Nested) → IsPlain t → Quiet (run g d t)
    unfolding run IsQuiet
    quiet_run zero t plain s = tt
    quiet_run (suc d) t plain s = quiet_level (run g d) (quiet_run d) t plain s
