-- The stream of a search with depth d is cut after d Steps at least.
use Rattle.std.proofs.Common.{◌≢◌, ℕ, zero, suc, ◌+◌, ◌-◌, Bool, true, false, List, [], ◌∷◌, drop, reverse, ℤ, pos}
use Rattle.std.proofs.Common.{negsuc, Option, Some, None}
use Rattle.std.specs.Prelude.{nat_le, ◌==◌}
use Rattle.pat_tree.specs.declared.options.PartialMode.{PartialMode}
use Rattle.pat_tree.specs.declared.options.PartialMode.TheVariants.{Off, Soft, Hard}
use Rattle.pat_tree.specs.declared.nodes.Item.{Item}
use Rattle.pat_tree.specs.declared.nodes.AnchorKind.{AnchorKind}
use Rattle.pat_tree.specs.declared.nodes.Verb.{Verb}
use Rattle.pat_tree.specs.declared.nodes.Verb.TheVariants.{Accept, Fail, Commit, Prune, Skip, Then, Mark}
use Rattle.pat_tree.specs.Nested as tree
use Rattle.pat_tree.specs.Nested.{Nested, Row, Test, Other, Callout}
use Rattle.pat_tree.specs.Groups.{group_of}
use Rattle.match_items.specs.Items.{one_less, is_none_left, places_back, item_reaches, after_ref, ref_reaches, holds}
use Rattle.match_items.specs.Items.{anchor_reaches}
use Rattle.pat_lengths.specs.Lengths.{SomeLengths}
use Rattle.ordered_search.specs.Stream.{State, Ending, by_verb, by_halt, next_branch, prune, skip, commit}
use Rattle.ordered_search.specs.Stream.{is_partial, too_many_units, loop, abort, cut, hit_end, How, reached}
use Rattle.ordered_search.specs.Stream.{accepted, Stream, Search, nothing, gives, no_ending, is_next_branch, is_verb}
use Rattle.ordered_search.specs.Stream.{fails_alone, fails_inside, captured, changes}
use Rattle.frame_store.specs.Captures.{capture}
use Rattle.ordered_search.specs.Setting.{Setting, branch_lengths, verb_name, held, hold, counts, reach, reach_if}
use Rattle.ordered_search.specs.Tests.{move_to, goes_to, run_one, run_break, run_ref, run_anchor, offers, greedy}
use Rattle.ordered_search.specs.Tests.{offer_and, reluctant, lazy_run, run_many}
use Rattle.ordered_search.specs.Parts.{Searches, in_order, choices, branches, run_group, begun_at, ends_at, one_try}
use Rattle.ordered_search.specs.Parts.{tries, tries_within, run_behind, run_atomic, run_look, asserts, tests}
use Rattle.ordered_search.specs.Parts.{some_set, is_called, is_called_of, block_of, follow, run_callout, named}
use Rattle.ordered_search.specs.Parts.{same_text, skip_to, backs, run_verb, is_over, is_active, turn, run_repeat}
use Rattle.ordered_search.specs.Parts.{returns, run_tree, run_call, back_to, forget_passed}
use Rattle.ordered_search.specs.Run.{level, levels, levels_behind, level_test, level_other, run}
use Rattle.ordered_search.specs.Laws.{CutLaw}
use Rattle.ordered_search.proofs.Late.{Late, late_zero, late_step, late_step_same, late_note, late_state, late_ends}
use Rattle.ordered_search.proofs.Late.{late_nothing, late_gives, late_if, late_or_else, late_each, late_and_then}
use Rattle.ordered_search.proofs.Late.{late_decide, late_catch, late_law}

-- every stream of the search is late
abbrev LateSearch : ℕ → Search → Type 0
LateSearch n f = (s : State) → Late n (f s)

abbrev AllLate : ℕ → List Search → Type 0
AllLate n [] = Unit {0}
AllLate n (f ∷ fs) = LateSearch n f × AllLate n fs

late_option : {A : Type 0} (n : ℕ) (o : Option A) (x : Stream) (f : A → Stream) → Late n x → ((a : A) → Late n (f a)) →
    Late n (elim o [ None ↦ x | Some a ↦ f a ])
late_option n None x f h k = h
late_option n (Some a) x f h k = k a

late_mode : (n : ℕ) (mode : PartialMode) (x y z : Stream) → Late n x → Late n y → Late n z →
    Late n (elim mode [ Off ↦ x | Soft ↦ y | Hard ↦ z ])
late_mode n Off x y z h k l = h
late_mode n Soft x y z h k l = k
late_mode n Hard x y z h k l = l

late_goes : (n : ℕ) (o : Option ℕ) → LateSearch n (goes_to o)
late_goes n None s = late_nothing n
late_goes n (Some p) s = late_gives n reached (move_to p s)

late_in_order : (n : ℕ) (fs : List Search) → AllLate n fs → LateSearch n (in_order fs)
unfolding in_order
late_in_order n [] h s = late_gives n reached s
late_in_order n (f ∷ fs) h s = late_and_then n (f s) (in_order fs) (h.0 s) (late_in_order n fs h.1)

late_ends_at : (n p : ℕ) → LateSearch n (ends_at p)
late_ends_at n p u = late_if n (u.place == p) _ _ (late_gives n reached u) (late_nothing n)

late_one_try : (n : ℕ) (ps : List ℕ) (f : Search) → LateSearch n f → LateSearch n (one_try ps f)
unfolding one_try
late_one_try n [] f h s = late_nothing n
late_one_try n (p ∷ ps) f h s = h (begun_at p s)

module _ (g : Setting) (n : ℕ) where
  late_held : (k : ℕ) (s : State) (f : Search) → LateSearch n f → Late n (held g k s f)
  unfolding held
  late_held k s f h =
      late_if n (nat_le (s.units + k) g.matching.frame_limit) _ _ (h _) (late_ends n (by_halt too_many_units) (λ e. cc))

  late_hold : (how : How) → LateSearch n (hold g how)
  unfolding hold
  late_hold how s = late_held 1 s (gives how) (late_gives n how)

  late_reach : (s : State) (x : Stream) → Late n x → Late n (reach g s x)
  unfolding reach
  late_reach s x h =
      late_mode n g.matching.«partial» _ _ _ h
      (late_if n (counts g s) _ _ (late_note n hit_end x h) h)
      (late_if n (counts g s) _ _ (late_ends n (by_halt is_partial) (λ e. cc)) h)

  late_reach_if : (b : Bool) (s : State) (x : Stream) → Late n x → Late n (reach_if g b s x)
  unfolding reach_if
  late_reach_if true s x h = late_reach s x h
  late_reach_if false s x h = h

  late_one : (item : Item) → LateSearch n (run_one g item)
  unfolding run_one
  late_one item s = late_reach_if _ s _ (late_goes n _ s)

  late_break : LateSearch n (run_break g)
  unfolding run_break
  late_break s = late_reach_if _ s _ (late_goes n _ s)

  late_ref : (ns : List ℕ) (caseless : Bool) → LateSearch n (run_ref g ns caseless)
  unfolding run_ref
  late_ref [] caseless s = late_if n g.options.match_unset_backref _ _ (late_gives n _ _) (late_nothing n)
  late_ref (m ∷ ns) caseless s =
      late_option n (capture s.caps m) _ _ (late_ref ns caseless s)
      (λ span. late_reach_if (ref_reaches g.scene span.from span.to caseless s.place) s _
      (late_goes n (after_ref g.scene span.from span.to caseless s.place) s))

  late_anchor : (kind : AnchorKind) → LateSearch n (run_anchor g kind)
  unfolding run_anchor
  late_anchor kind s =
      late_reach_if (anchor_reaches g.scene kind s.place) _ _
      (late_if n (holds g.scene kind s.place) _ _ (late_gives n _ _) (late_nothing n))

  late_offers : (ps : List ℕ) → LateSearch n (offers g ps)
  unfolding offers
  late_offers [] s = late_nothing n
  late_offers (p ∷ []) s = late_step_same n _ (late_gives n reached _)
  late_offers (p ∷ q ∷ ps) s =
      late_step_same n _ (late_or_else n _ _ (late_hold reached (move_to p s)) (late_offers (q ∷ ps) s))

  late_offer_and : (b : Bool) (s : State) (x : Stream) → Late n x → Late n (offer_and g b s x)
  late_offer_and true s x h = late_step_same n _ (late_gives n reached s)
  late_offer_and false s x h = late_step_same n _ (late_or_else n _ _ (late_hold reached s) h)

  late_reluctant : (item : Item) (left : Option ℕ) (ps : List ℕ) → LateSearch n (reluctant g item left ps)
  unfolding reluctant
  late_reluctant item left [] s = late_nothing n
  late_reluctant item left (p ∷ ps) s =
      late_offer_and (is_none_left left) _ _
      (late_reach_if (item_reaches g.scene item p) s _ (late_reluctant item (one_less left) ps s))

  late_lazy : (item : Item) (low : ℕ) (high : Option ℕ) (ps : List ℕ) → LateSearch n (lazy_run g item low high ps)
  unfolding lazy_run
  late_lazy item low high ps s = late_reach_if _ s _ (late_reluctant item _ (drop low (s.place ∷ ps)) s)

  late_many : (item : Item) (low : ℕ) (high : Option ℕ) (lazily : Bool) → LateSearch n (run_many g item low high lazily)
  unfolding run_many greedy
  late_many item low high false s = late_reach_if _ s _ (late_offers _ s)
  late_many item low high true s = late_lazy item low high _ s

  late_choices : (fs : List Search) → AllLate n fs → LateSearch n (choices g fs)
  unfolding choices
  late_choices [] h s = late_nothing n
  late_choices (f ∷ []) h s = late_step_same n _ (late_catch n is_next_branch (f s) (h.0 s))
  late_choices (f ∷ f' ∷ fs) h s =
      late_step_same n _ (late_or_else n _ _
      (late_held 1 s _ (λ t. late_catch n is_next_branch (f t) (h.0 t)))
      (late_choices (f' ∷ fs) h.1 s))

  late_branches : (fs : List Search) → AllLate n fs → LateSearch n (branches g fs)
  unfolding branches
  late_branches [] h s = late_nothing n
  late_branches (f ∷ []) h s = h.0 s
  late_branches (f ∷ f' ∷ fs) h s = late_choices (f ∷ f' ∷ fs) h s

  late_tries : (ps : List ℕ) (f : Search) → LateSearch n f → LateSearch n (tries g ps f)
  unfolding tries
  late_tries [] f h s = late_nothing n
  late_tries (p ∷ []) f h s = late_step_same n _ (late_and_then n _ _ (h (begun_at p s)) (late_ends_at n s.place))
  late_tries (p ∷ q ∷ ps) f h s =
      late_step_same n _ (late_or_else n _ _
      (late_held 1 s _ (λ t. late_and_then n _ _ (h (begun_at p t)) (late_ends_at n s.place)))
      (late_tries (q ∷ ps) f h s))

  late_tries_within : (least : ℕ) (most : Option ℕ) (f : Search) → LateSearch n f
      → LateSearch n (tries_within g least most f)
  unfolding tries_within
  late_tries_within least None f h s = late_nothing n
  late_tries_within least (Some most) f h s =
      let places = reverse (drop least (places_back g.scene most s.place)) in
      late_if n (least == most) _ _ (late_one_try n places f h s) (late_tries places f h s)

  late_behind : (lengths : SomeLengths) (f : Search) → LateSearch n f → LateSearch n (run_behind g lengths f)
  unfolding run_behind
  late_behind None f h s = late_nothing n
  late_behind (Some a) f h s = late_tries_within a.least a.most f h s

  late_group : (k : Option ℕ) (f : Search) → LateSearch n f → LateSearch n (run_group g k f)
  unfolding run_group
  late_group None f h s = h s
  late_group (Some k) f h s =
      late_held 1 s _ (λ t. late_each n (f t) _ (h t) (λ how u. late_hold how (captured k s.place u)))

  late_atomic : (f : Search) → LateSearch n f → LateSearch n (run_atomic g f)
  unfolding run_atomic
  late_atomic f h s =
      late_held 1 s _ (λ t. late_decide n no_ending (f t) _ nothing (h t)
      (λ how u. late_hold how (forget_passed s u)) (late_nothing n))

  late_look : (positive once : Bool) (f : Search) → LateSearch n f → LateSearch n (run_look g positive once f)
  unfolding run_look
  late_look true true f h s =
      late_held 1 s _ (λ t. late_decide n fails_alone (f t) _ nothing (h t)
      (λ how u. late_hold reached (back_to s (forget_passed s u))) (late_nothing n))
  late_look true false f h s =
      late_held 1 s _ (λ t. late_catch n fails_alone _ (late_each n (f t) _ (h t)
      (λ how u. late_gives n reached (back_to s u))))
  late_look false once f h s =
      late_held 1 s _ (λ t. late_decide n fails_inside (f t) _ (gives reached s) (h t)
      (λ how u. late_nothing n) (late_gives n reached s))

  late_asserts : (positive : Bool) (x yes' no' : Search) → LateSearch n x → LateSearch n yes' → LateSearch n no' →
      LateSearch n (asserts g positive x yes' no')
  unfolding asserts
  late_asserts true x yes' no' h k l s =
      late_held 1 s _ (λ t. late_decide n fails_inside (x t) _ (no' s) (h t)
      (λ how u. late_held 1 (back_to s (forget_passed s u)) yes' k) (l s))
  late_asserts false x yes' no' h k l s =
      late_held 1 s _ (λ t. late_decide n fails_inside (x t) _ (yes' s) (h t)
      (λ how u. late_held 1 (back_to s (forget_passed s u)) no' l) (k s))

  late_tests : (b : Bool) (yes' no' : Search) → LateSearch n yes' → LateSearch n no' → LateSearch n (tests b yes' no')
  unfolding tests
  late_tests true yes' no' k l s = k s
  late_tests false yes' no' k l s = l s

  late_follow : (a : ℤ) (x : Stream) → Late n x → Late n (follow a x)
  unfolding follow
  late_follow (pos zero) x h = h
  late_follow (pos (suc k)) x h = late_nothing n
  late_follow (negsuc k) x h = late_ends n (by_halt (abort (negsuc k))) (λ e. cc)

  late_callout : (c : Callout) (f : Search) → LateSearch n f → LateSearch n (run_callout g c f)
  unfolding run_callout
  late_callout c f h s = late_note n _ _ (late_follow (g.reply (block_of c s)) (f s) (h s))

  late_named : (name : Option ℕ) (noted : Bool) (s : State) (f : Search) → LateSearch n f
      → Late n (named name noted s f)
  unfolding named
  late_named None noted s f h = h s
  late_named (Some k) false s f h = late_note n _ _ (h _)
  late_named (Some k) true s f h = late_note n _ _ (h _)

  late_backs : (e : Ending) → e ≢ by_halt cut → LateSearch n (backs g e)
  unfolding backs
  late_backs e h s = late_held 1 s _ (λ t. late_state n reached t _ (late_ends n e h))

  skip_is_not_cut : (p : ℕ) (e : Ending) (b : Bool) → e ≢ by_halt cut
      → elim b [ true ↦ by_verb (skip p) | false ↦ e ] ≢ by_halt cut
  skip_is_not_cut p e true h q = cc
  skip_is_not_cut p e false h q = h q

  skip_to_is_not_cut : (k : ℕ) (ms : List (ℕ × ℕ)) → skip_to g k ms ≢ by_halt cut
  skip_to_is_not_cut k [] e = cc
  skip_to_is_not_cut k (m ∷ ms) e =
      skip_is_not_cut m.1 (skip_to g k ms) (same_text (verb_name g k) (verb_name g m.0)) (skip_to_is_not_cut k ms) e

  late_verb : (v : Verb) → LateSearch n (run_verb g v)
  unfolding run_verb
  late_verb (Accept None) s = late_gives n accepted s
  late_verb (Accept (Some k)) s = late_named (Some k) true s _ (late_hold accepted)
  late_verb (Fail None) s = late_nothing n
  late_verb (Fail (Some k)) s = late_named (Some k) true s _ (λ t. late_held 1 t _ (λ u. late_nothing n))
  late_verb (Mark k) s = late_named k true s _ (late_hold reached)
  late_verb (Commit k) s = late_named k false s _ (late_backs (by_verb commit) (λ e. cc))
  late_verb (Prune k) s = late_named k false s _ (late_backs (by_verb prune) (λ e. cc))
  late_verb (Then k) s = late_named k false s _ (late_backs (by_verb next_branch) (λ e. cc))
  late_verb (Skip None) s = late_backs (by_verb (skip s.place)) (λ e. cc) s
  late_verb (Skip (Some k)) s = late_backs (skip_to g k s.passed) (skip_to_is_not_cut k s.passed) s

  late_returns : (s : State) (how : How) → LateSearch n (returns g s how)
  unfolding returns
  late_returns s how u = late_held (changes u.caps s.caps) (record u { caps = s.caps; calls = s.calls }) _
      (late_gives n reached)

-- what is a level deeper is cut after n Steps at least
abbrev LateBelow : ℕ → Searches → Type 0
LateBelow n below = (t : Nested) → LateSearch n (below t)

module _ (g : Setting) (n : ℕ) where
  late_turn : (below : Searches) (body : Nested) (low : ℕ) (high : Option ℕ) (lazily : Bool) → LateBelow n below →
      LateSearch (suc n) (turn g below body low high lazily)
  unfolding turn
  late_turn below body low high lazily h s =
      late_step n _ (late_held g n 1 s _ (λ t. late_and_then n (below body t) _ (h body t)
      (λ u. late_if n (is_over low high s u) _ _ (late_gives n reached u)
      (h (tree.repeat body (low - 1) (one_less high) lazily) u))))

  late_repeat : (below : Searches) (body : Nested) (low : ℕ) (high : Option ℕ) (lazily : Bool) → LateBelow n below →
      LateSearch (suc n) (run_repeat g below body low high lazily)
  unfolding run_repeat
  late_repeat below body (suc low) high lazily h s = late_turn below body (suc low) high lazily h s
  late_repeat below body zero (Some zero) lazily h s = late_gives (suc n) reached s
  late_repeat below body zero None true h s =
      late_or_else (suc n) _ _ (late_hold g (suc n) reached s) (late_turn below body 0 None true h s)
  late_repeat below body zero (Some (suc m)) true h s =
      late_or_else (suc n) _ _ (late_hold g (suc n) reached s) (late_turn below body 0 (Some (suc m)) true h s)
  late_repeat below body zero None false h s =
      late_or_else (suc n) _ _ (late_turn below body 0 None false h s) (late_gives (suc n) reached s)
  late_repeat below body zero (Some (suc m)) false h s =
      late_or_else (suc n) _ _ (late_turn below body 0 (Some (suc m)) false h s) (late_gives (suc n) reached s)

  late_tree : (o : Option Nested) (f : Searches) → LateBelow n f → LateSearch n (run_tree o f)
  unfolding run_tree
  late_tree None f h s = late_nothing n
  late_tree (Some t) f h s = h t s

  late_call : (below : Searches) (k : ℕ) → LateBelow n below → LateSearch (suc n) (run_call g below k)
  unfolding run_call
  late_call below k h s =
      late_step n _ (late_if n (is_active k s.place s.calls) _ _ (late_ends n (by_halt loop) (λ e. cc))
      (late_held g n 1 s _ (λ t. late_catch n is_verb _
      (late_each n _ _ (late_tree (group_of g.whole k) below h (record t { calls = (k, s.place) ∷ s.calls }))
      (late_returns g n s)))))

  module _ (below : Searches) (h : LateBelow n below) where
    mutual
      unfolding level

      late_level : (t : Nested) → LateSearch (suc n) (level g below t)
      late_level tree.empty s = late_gives (suc n) reached s
      late_level (tree.one item) s = late_one g (suc n) item s
      late_level tree.line_break s = late_break g (suc n) s
      late_level (tree.seq ts) s = late_in_order (suc n) _ (late_levels ts) s
      late_level (tree.group number ts) s = late_group g (suc n) number _ (late_branches g (suc n) _ (late_levels ts)) s
      late_level (tree.repeat body low high lazily) s = late_repeat below body low high lazily h s
      late_level (tree.one_repeat item low high lazily) s = late_many g (suc n) item low high lazily s
      late_level (tree.atomic ts) s = late_atomic g (suc n) _ (late_branches g (suc n) _ (late_levels ts)) s
      late_level (tree.look true positive once ts) s =
          late_look g (suc n) positive once _ (late_branches g (suc n) _ (late_levels ts)) s
      late_level (tree.look false positive once ts) s =
          late_look g (suc n) positive once _ (late_branches g (suc n) _ (late_levels_behind ts)) s
      late_level (tree.condition test first second) s =
          late_level_test test _ _ (late_level first) (late_level_other second) s
      late_level (tree.call k) s = late_call below k h s
      late_level (tree.ref ns caseless) s = late_ref g (suc n) ns caseless s
      late_level (tree.anchor kind) s = late_anchor g (suc n) kind s
      late_level tree.keep_out s = late_gives (suc n) reached _
      late_level (tree.verb v) s = late_verb g (suc n) v s
      late_level (tree.callout c) s = late_callout g (suc n) c _ (late_gives (suc n) reached) s

      late_levels : (ts : Row) → AllLate (suc n) (levels g below ts)
      late_levels tree.none = tt
      late_levels (tree.more t ts) = (late_level t, late_levels ts)

      late_levels_behind : (ts : Row) → AllLate (suc n) (levels_behind g below ts)
      late_levels_behind tree.none = tt
      late_levels_behind (tree.more t ts) =
          (late_behind g (suc n) (branch_lengths g t) _ (late_level t), late_levels_behind ts)

      late_level_test : (test : Test) (yes' no' : Search) → LateSearch (suc n) yes' → LateSearch (suc n) no' →
          LateSearch (suc n) (level_test g below test yes' no')
      late_level_test (tree.any_set ns) yes' no' k l s = late_tests g (suc n) (some_set s.caps ns) yes' no' k l s
      late_level_test tree.in_call yes' no' k l s = late_tests g (suc n) (is_called s.calls) yes' no' k l s
      late_level_test (tree.in_call_of ns) yes' no' k l s =
          late_tests g (suc n) (is_called_of s.calls ns) yes' no' k l s
      late_level_test tree.never yes' no' k l s = l s
      late_level_test (tree.assert true positive once ts) yes' no' k l s =
          late_asserts g (suc n) positive _ yes' no' (late_branches g (suc n) _ (late_levels ts)) k l s
      late_level_test (tree.assert false positive once ts) yes' no' k l s =
          late_asserts g (suc n) positive _ yes' no' (late_branches g (suc n) _ (late_levels_behind ts)) k l s
      late_level_test (tree.called c test) yes' no' k l s =
          late_callout g (suc n) c _ (late_level_test test yes' no' k l) s

      late_level_other : (o : Other) → LateSearch (suc n) (level_other g below o)
      late_level_other tree.no_other s = late_gives (suc n) reached s
      late_level_other (tree.other t) s = late_level t s

-- The stream of depth d is cut after d Steps at least.
pub late_run : (g : Setting) (d : ℕ) (t : Nested) (s : State) → Late d (run g d t s)
unfolding run
late_run g zero t s = late_zero _
late_run g (suc d) t s = late_level g d (run g d) (late_run g d) t s

pub cut_law : CutLaw
cut_law g d t s e = late_law d (run g d t s) (late_run g d t s) e
