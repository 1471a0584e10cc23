-- A search with more depth goes on where one with less is cut.
use Rattle.std.proofs.Common.{◌≤◌, ℕ, zero, suc, ◌+◌, ◌-◌, Bool, true, false, List, [], ◌∷◌, drop, reverse, refl}
use Rattle.std.proofs.Common.{Option, Some, None, ℤ, pos, negsuc, arith}
use Rattle.std.specs.Prelude.{nat_le, ◌==◌}
use Rattle.pat_tree.specs.Nested as tree
use Rattle.pat_tree.specs.Nested.{Nested, Row, Test, Other, Callout}
use Rattle.pat_tree.specs.Groups.{group_of}
use Rattle.match_items.specs.Items.{one_less, places_back}
use Rattle.pat_lengths.specs.Lengths.{SomeLengths}
use Rattle.ordered_search.specs.Stream.{State, by_halt, loop, too_many_units, reached, Stream, Search, ends}
use Rattle.ordered_search.specs.Stream.{nothing, gives, and_then, no_ending, is_next_branch, is_verb}
use Rattle.ordered_search.specs.Stream.{fails_alone, fails_inside, captured}
use Rattle.ordered_search.specs.Setting.{Setting, branch_lengths, held, hold}
use Rattle.ordered_search.specs.Tests.{run_one, run_break, run_many, run_ref, run_anchor}
use Rattle.ordered_search.specs.Parts.{Searches, in_order, choices, branches, run_group, begun_at, ends_at, one_try}
use Rattle.ordered_search.specs.Parts.{tries, tries_within, run_behind, run_atomic, run_look, asserts, tests}
use Rattle.ordered_search.specs.Parts.{some_set, is_called, is_called_of, block_of, follow, run_callout, run_verb}
use Rattle.ordered_search.specs.Parts.{is_over, is_active, turn, run_repeat, returns, run_tree, run_call, back_to}
use Rattle.ordered_search.specs.Parts.{forget_passed}
use Rattle.ordered_search.specs.Run.{level, levels, levels_behind, level_test, level_other, run}
use Rattle.search_costs.proofs.DeeperStreams.{Extends, at_cut, at_note, at_step, IsExtended, extends_same}
use Rattle.search_costs.proofs.DeeperStreams.{extends_if, extends_or_else, extends_each, extends_and_then}
use Rattle.search_costs.proofs.DeeperStreams.{extends_decide, extends_catch}

abbrev pub AreExtended : List Search → List Search → Type 0
AreExtended [] [] = Unit {0}
AreExtended (f ∷ fs) (h ∷ hs) = IsExtended f h × AreExtended fs hs
AreExtended _ _ = ⊥

pub extends_in_order : (fs hs : List Search) → AreExtended fs hs → IsExtended (in_order fs) (in_order hs)
unfolding in_order
extends_in_order [] [] e s = extends_same (gives reached s)
extends_in_order [] (h ∷ hs) e s = absurd e
extends_in_order (f ∷ fs) [] e s = absurd e
extends_in_order (f ∷ fs) (h ∷ hs) e s = extends_and_then (e.0 s) (extends_in_order fs hs e.1)

extends_one_try : (ps : List ℕ) (f h : Search) → IsExtended f h → IsExtended (one_try ps f) (one_try ps h)
unfolding one_try
extends_one_try [] f h e s = extends_same nothing
extends_one_try (p ∷ ps) f h e s = e (begun_at p s)

module _ (g : Setting) where
  extends_held : (n : ℕ) (s : State) (f h : Search) → IsExtended f h → Extends (held g n s f) (held g n s h)
  unfolding held
  extends_held n s f h e = extends_if (nat_le (s.units + n) g.matching.frame_limit) (e _)
      (extends_same (ends (by_halt too_many_units)))

  extends_choices : (fs hs : List Search) → AreExtended fs hs → IsExtended (choices g fs) (choices g hs)
  unfolding choices
  extends_choices [] [] e s = extends_same nothing
  extends_choices [] (h ∷ hs) e s = absurd e
  extends_choices (f ∷ fs) [] e s = absurd e
  extends_choices (f ∷ []) (h ∷ []) e s = at_step (extends_catch is_next_branch refl (e.0 s))
  extends_choices (f ∷ []) (h ∷ h' ∷ hs) e s = absurd e.1
  extends_choices (f ∷ f' ∷ fs) (h ∷ []) e s = absurd e.1
  extends_choices (f ∷ f' ∷ fs) (h ∷ h' ∷ hs) e s =
      at_step (extends_or_else (extends_held 1 s _ _ (λ t. extends_catch is_next_branch refl (e.0 t)))
      (extends_choices (f' ∷ fs) (h' ∷ hs) e.1 s))

  extends_branches : (fs hs : List Search) → AreExtended fs hs → IsExtended (branches g fs) (branches g hs)
  unfolding branches
  extends_branches [] [] e s = extends_same nothing
  extends_branches [] (h ∷ hs) e s = absurd e
  extends_branches (f ∷ fs) [] e s = absurd e
  extends_branches (f ∷ []) (h ∷ []) e s = e.0 s
  extends_branches (f ∷ []) (h ∷ h' ∷ hs) e s = absurd e.1
  extends_branches (f ∷ f' ∷ fs) (h ∷ []) e s = absurd e.1
  extends_branches (f ∷ f' ∷ fs) (h ∷ h' ∷ hs) e s = extends_choices (f ∷ f' ∷ fs) (h ∷ h' ∷ hs) e s

  extends_group : (n : Option ℕ) (f h : Search) → IsExtended f h → IsExtended (run_group g n f) (run_group g n h)
  unfolding run_group
  extends_group None f h e s = e s
  extends_group (Some n) f h e s =
      extends_held 1 s _ _ (λ t. extends_each (e t) (λ how u. extends_same (hold g how (captured n s.place u))))

  -- Branches of a lookbehind.

  extends_tried : (p : ℕ) (f h : Search) → IsExtended f h → (s t : State)
      → Extends (and_then (f (begun_at p t)) (ends_at s.place)) (and_then (h (begun_at p t)) (ends_at s.place))
  extends_tried p f h e s t = extends_and_then (e (begun_at p t)) (λ u. extends_same (ends_at s.place u))

  extends_tries : (ps : List ℕ) (f h : Search) → IsExtended f h → IsExtended (tries g ps f) (tries g ps h)
  unfolding tries
  extends_tries [] f h e s = extends_same nothing
  extends_tries (p ∷ []) f h e s = at_step (extends_tried p f h e s s)
  extends_tries (p ∷ q ∷ ps) f h e s =
      at_step (extends_or_else (extends_held 1 s _ _ (extends_tried p f h e s)) (extends_tries (q ∷ ps) f h e s))

  extends_tries_within : (least : ℕ) (most : Option ℕ) (f h : Search) → IsExtended f h
      → IsExtended (tries_within g least most f) (tries_within g least most h)
  unfolding tries_within
  extends_tries_within least None f h e s = extends_same nothing
  extends_tries_within least (Some most) f h e s =
      let places = reverse (drop least (places_back g.scene most s.place)) in
      extends_if (least == most) (extends_one_try places f h e s) (extends_tries places f h e s)

  extends_behind : (lengths : SomeLengths) (f h : Search) → IsExtended f h
      → IsExtended (run_behind g lengths f) (run_behind g lengths h)
  unfolding run_behind
  extends_behind None f h e s = extends_same nothing
  extends_behind (Some a) f h e s = extends_tries_within a.least a.most f h e s

  -- Atomic groups, lookarounds, conditions.

  extends_atomic : (f h : Search) → IsExtended f h → IsExtended (run_atomic g f) (run_atomic g h)
  unfolding run_atomic
  extends_atomic f h e s =
      extends_held 1 s _ _ (λ t. extends_decide no_ending refl (e t)
      (λ how u. extends_same (hold g how (forget_passed s u))) (extends_same nothing))

  extends_look : (positive once : Bool) (f h : Search) → IsExtended f h
      → IsExtended (run_look g positive once f) (run_look g positive once h)
  unfolding run_look
  extends_look true true f h e s =
      extends_held 1 s _ _ (λ t. extends_decide fails_alone refl (e t)
      (λ how u. extends_same (hold g reached (back_to s (forget_passed s u)))) (extends_same nothing))
  extends_look true false f h e s =
      extends_held 1 s _ _ (λ t. extends_catch fails_alone refl
      (extends_each (e t) (λ how u. extends_same (gives reached (back_to s u)))))
  extends_look false once f h e s =
      extends_held 1 s _ _ (λ t. extends_decide fails_inside refl (e t) (λ how u. extends_same nothing)
      (extends_same (gives reached s)))

  extends_asserts : (positive : Bool) (x z yes' yes'' no' no'' : Search) → IsExtended x z → IsExtended yes' yes''
      → IsExtended no' no'' → IsExtended (asserts g positive x yes' no') (asserts g positive z yes'' no'')
  unfolding asserts
  extends_asserts true x z yes' yes'' no' no'' e y n s =
      extends_held 1 s _ _ (λ t. extends_decide fails_inside refl (e t)
      (λ how u. extends_held 1 (back_to s (forget_passed s u)) yes' yes'' y) (n s))
  extends_asserts false x z yes' yes'' no' no'' e y n s =
      extends_held 1 s _ _ (λ t. extends_decide fails_inside refl (e t)
      (λ how u. extends_held 1 (back_to s (forget_passed s u)) no' no'' n) (y s))

  extends_tests : (b : Bool) (yes' yes'' no' no'' : Search) → IsExtended yes' yes'' → IsExtended no' no''
      → IsExtended (tests b yes' no') (tests b yes'' no'')
  unfolding tests
  extends_tests true yes' yes'' no' no'' y n s = y s
  extends_tests false yes' yes'' no' no'' y n s = n s

  extends_follow : (a : ℤ) (x y : Stream) → Extends x y → Extends (follow a x) (follow a y)
  unfolding follow
  extends_follow (pos zero) x y e = e
  extends_follow (pos (suc k)) x y e = extends_same nothing
  extends_follow (negsuc k) x y e = extends_same _

  extends_callout : (c : Callout) (f h : Search) → IsExtended f h → IsExtended (run_callout g c f) (run_callout g c h)
  unfolding run_callout
  extends_callout c f h e s = at_note _ (extends_follow (g.reply (block_of c s)) (f s) (h s) (e s))

  -- What goes a level deeper.
  module _ (below under : Searches) (deeper : (t : Nested) → IsExtended (below t) (under t)) where
    extends_turn : (body : Nested) (low : ℕ) (high : Option ℕ) (lazily : Bool)
        → IsExtended (turn g below body low high lazily) (turn g under body low high lazily)
    unfolding turn
    extends_turn body low high lazily s =
        at_step (extends_held 1 s _ _ (λ t. extends_and_then (deeper body t) (λ u.
        extends_if (is_over low high s u) (extends_same (gives reached u))
        (deeper (tree.repeat body (low - 1) (one_less high) lazily) u))))

    extends_repeat : (body : Nested) (low : ℕ) (high : Option ℕ) (lazily : Bool)
        → IsExtended (run_repeat g below body low high lazily) (run_repeat g under body low high lazily)
    unfolding run_repeat
    extends_repeat body (suc low) high lazily s = extends_turn body (suc low) high lazily s
    extends_repeat body zero (Some zero) lazily s = extends_same (gives reached s)
    extends_repeat body zero None true s =
        extends_or_else (extends_same (hold g reached s)) (extends_turn body 0 None true s)
    extends_repeat body zero (Some (suc m)) true s =
        extends_or_else (extends_same (hold g reached s)) (extends_turn body 0 (Some (suc m)) true s)
    extends_repeat body zero None false s =
        extends_or_else (extends_turn body 0 None false s) (extends_same (gives reached s))
    extends_repeat body zero (Some (suc m)) false s =
        extends_or_else (extends_turn body 0 (Some (suc m)) false s) (extends_same (gives reached s))

    extends_tree : (o : Option Nested) → IsExtended (run_tree o below) (run_tree o under)
    unfolding run_tree
    extends_tree None s = extends_same nothing
    extends_tree (Some t) s = deeper t s

    extends_call : (n : ℕ) → IsExtended (run_call g below n) (run_call g under n)
    unfolding run_call
    extends_call n s =
        at_step (extends_if (is_active n s.place s.calls) (extends_same (ends (by_halt loop)))
        (extends_held 1 s _ _ (λ t. extends_catch is_verb refl
        (extends_each (extends_tree (group_of g.whole n) (record t { calls = (n, s.place) ∷ s.calls }))
        (λ how u. extends_same (returns g s how u))))))

    mutual
      unfolding level

      extends_level : (t : Nested) → IsExtended (level g below t) (level g under t)
      extends_level tree.empty s = extends_same (gives reached s)
      extends_level (tree.one item) s = extends_same (run_one g item s)
      extends_level tree.line_break s = extends_same (run_break g s)
      extends_level (tree.seq ts) s = extends_in_order _ _ (extends_levels ts) s
      extends_level (tree.group number ts) s = extends_group number _ _ (extends_branches _ _ (extends_levels ts)) s
      extends_level (tree.repeat body low high lazily) s = extends_repeat body low high lazily s
      extends_level (tree.one_repeat item low high lazily) s = extends_same (run_many g item low high lazily s)
      extends_level (tree.atomic ts) s = extends_atomic _ _ (extends_branches _ _ (extends_levels ts)) s
      extends_level (tree.look true positive once ts) s =
          extends_look positive once _ _ (extends_branches _ _ (extends_levels ts)) s
      extends_level (tree.look false positive once ts) s =
          extends_look positive once _ _ (extends_branches _ _ (extends_levels_behind ts)) s
      extends_level (tree.condition test first second) s =
          extends_level_test test _ _ _ _ (extends_level first) (extends_level_other second) s
      extends_level (tree.call n) s = extends_call n s
      extends_level (tree.ref ns caseless) s = extends_same (run_ref g ns caseless s)
      extends_level (tree.anchor kind) s = extends_same (run_anchor g kind s)
      extends_level tree.keep_out s = extends_same _
      extends_level (tree.verb v) s = extends_same (run_verb g v s)
      extends_level (tree.callout c) s = extends_same (run_callout g c (gives reached) s)

      extends_levels : (ts : Row) → AreExtended (levels g below ts) (levels g under ts)
      extends_levels tree.none = tt
      extends_levels (tree.more t ts) = (extends_level t, extends_levels ts)

      extends_levels_behind : (ts : Row) → AreExtended (levels_behind g below ts) (levels_behind g under ts)
      extends_levels_behind tree.none = tt
      extends_levels_behind (tree.more t ts) =
          (extends_behind (branch_lengths g t) _ _ (extends_level t), extends_levels_behind ts)

      extends_level_test : (test : Test) (yes' yes'' no' no'' : Search) → IsExtended yes' yes'' → IsExtended no' no''
          → IsExtended (level_test g below test yes' no') (level_test g under test yes'' no'')
      extends_level_test (tree.any_set ns) yes' yes'' no' no'' y n s =
          extends_tests (some_set s.caps ns) yes' yes'' no' no'' y n s
      extends_level_test tree.in_call yes' yes'' no' no'' y n s =
          extends_tests (is_called s.calls) yes' yes'' no' no'' y n s
      extends_level_test (tree.in_call_of ns) yes' yes'' no' no'' y n s =
          extends_tests (is_called_of s.calls ns) yes' yes'' no' no'' y n s
      extends_level_test tree.never yes' yes'' no' no'' y n s = n s
      extends_level_test (tree.assert true positive once ts) yes' yes'' no' no'' y n s =
          extends_asserts positive _ _ yes' yes'' no' no'' (extends_branches _ _ (extends_levels ts)) y n s
      extends_level_test (tree.assert false positive once ts) yes' yes'' no' no'' y n s =
          extends_asserts positive _ _ yes' yes'' no' no'' (extends_branches _ _ (extends_levels_behind ts)) y n s
      extends_level_test (tree.called c test) yes' yes'' no' no'' y n s =
          extends_callout c _ _ (extends_level_test test yes' yes'' no' no'' y n) s

      extends_level_other : (o : Other) → IsExtended (level_other g below o) (level_other g under o)
      extends_level_other tree.no_other s = extends_same (gives reached s)
      extends_level_other (tree.other t) s = extends_level t s

  pub extends_run : (d deep : ℕ) (t : Nested) → d ≤ deep → IsExtended (run g d t) (run g deep t)
  unfolding run
  extends_run zero deep t le s = at_cut
  extends_run (suc d) zero t le s = absurd (omega arith)
  extends_run (suc d) (suc deep) t le s =
      extends_level (run g d) (run g deep) (λ t'. extends_run d deep t' (omega arith)) t s
