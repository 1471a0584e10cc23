-- Without partial matching no stream of a search tells a hit of the subject's end.
use Rattle.std.proofs.Common.{refl, ◌≡◌, ◌≢◌, ℕ, zero, suc, ◌+◌, ◌-◌, Bool, true, false, List, [], ◌∷◌, drop}
use Rattle.std.proofs.Common.{reverse, ℤ, pos, negsuc, Option, Some, None}
use Rattle.std.specs.Prelude.{nat_le, ◌==◌}
use Rattle.pat_tree.specs.declared.options.PartialMode.{PartialMode}
use Rattle.pat_tree.specs.declared.options.PartialMode.TheVariants.{Off, Soft, Hard}
use Rattle.pat_tree.specs.declared.nodes.Item.{Item}
use Rattle.pat_tree.specs.declared.nodes.AnchorKind.{AnchorKind}
use Rattle.pat_tree.specs.declared.nodes.Verb.{Verb}
use Rattle.pat_tree.specs.declared.nodes.Verb.TheVariants.{Accept, Fail, Commit, Prune, Skip, Then, Mark}
use Rattle.pat_tree.specs.Nested as tree
use Rattle.pat_tree.specs.Nested.{Nested, Row, Test, Other, Callout}
use Rattle.pat_tree.specs.Groups.{group_of}
use Rattle.match_items.specs.Items.{one_less, is_none_left, places_back, item_reaches, after_ref, ref_reaches, holds}
use Rattle.match_items.specs.Items.{anchor_reaches}
use Rattle.pat_lengths.specs.Lengths.{SomeLengths}
use Rattle.ordered_search.specs.Stream.{State, Ending, by_verb, by_halt, next_branch, prune, skip, commit}
use Rattle.ordered_search.specs.Stream.{is_partial, too_many_units, loop, abort, cut, How, reached, accepted, Stream}
use Rattle.ordered_search.specs.Stream.{Search, nothing, gives, no_ending, is_next_branch, is_verb, fails_alone}
use Rattle.ordered_search.specs.Stream.{fails_inside, captured, changes}
use Rattle.frame_store.specs.Captures.{capture}
use Rattle.ordered_search.specs.Setting.{Setting, branch_lengths, verb_name, held, hold, reach, reach_if}
use Rattle.ordered_search.specs.Tests.{move_to, goes_to, run_one, run_break, run_ref, run_anchor, offers, greedy}
use Rattle.ordered_search.specs.Tests.{offer_and, reluctant, lazy_run, run_many}
use Rattle.ordered_search.specs.Parts.{Searches, in_order, choices, branches, run_group, begun_at, ends_at, one_try}
use Rattle.ordered_search.specs.Parts.{tries, tries_within, run_behind, run_atomic, run_look, asserts, tests}
use Rattle.ordered_search.specs.Parts.{some_set, is_called, is_called_of, block_of, follow, run_callout, named}
use Rattle.ordered_search.specs.Parts.{same_text, skip_to, backs, run_verb, is_over, is_active, turn, run_repeat}
use Rattle.ordered_search.specs.Parts.{returns, run_tree, run_call, back_to, forget_passed}
use Rattle.ordered_search.specs.Run.{level, levels, levels_behind, level_test, level_other, run}
use Rattle.ordered_search.proofs.HitlessStreams.{NoHit, hitless_step, hitless_note, hitless_state, hitless_ends}
use Rattle.ordered_search.proofs.HitlessStreams.{hitless_nothing, hitless_gives, hitless_if, hitless_or_else}
use Rattle.ordered_search.proofs.HitlessStreams.{hitless_each, hitless_and_then, hitless_decide, hitless_catch}

-- no stream of the search tells a hit
abbrev NoHitSearch : Search → Type 0
NoHitSearch f = (s : State) → NoHit (f s)

abbrev AllNoHit : List Search → Type 0
AllNoHit [] = Unit {0}
AllNoHit (f ∷ fs) = NoHitSearch f × AllNoHit fs

-- nor does what is a level deeper
abbrev NoHitBelow : Searches → Type 0
NoHitBelow below = (t : Nested) → NoHitSearch (below t)

hitless_option : {A : Type 0} (o : Option A) (x : Stream) (f : A → Stream) → NoHit x → ((a : A) → NoHit (f a)) →
    NoHit (elim o [ None ↦ x | Some a ↦ f a ])
hitless_option None x f h k = h
hitless_option (Some a) x f h k = k a

hitless_mode : (mode : PartialMode) (x y z : Stream) → mode ≡ Off → NoHit x
    → NoHit (elim mode [ Off ↦ x | Soft ↦ y | Hard ↦ z ])
hitless_mode Off x y z e h = h
hitless_mode Soft x y z e h = absurd (cc)
hitless_mode Hard x y z e h = absurd (cc)

hitless_goes : (o : Option ℕ) → NoHitSearch (goes_to o)
hitless_goes None s = hitless_nothing
hitless_goes (Some p) s = hitless_gives reached (move_to p s)

hitless_in_order : (fs : List Search) → AllNoHit fs → NoHitSearch (in_order fs)
unfolding in_order
hitless_in_order [] h s = hitless_gives reached s
hitless_in_order (f ∷ fs) h s = hitless_and_then (f s) (in_order fs) (h.0 s) (hitless_in_order fs h.1)

hitless_ends_at : (p : ℕ) → NoHitSearch (ends_at p)
hitless_ends_at p u = hitless_if (u.place == p) _ _ (hitless_gives reached u) (hitless_nothing)

hitless_one_try : (ps : List ℕ) (f : Search) → NoHitSearch f → NoHitSearch (one_try ps f)
unfolding one_try
hitless_one_try [] f h s = hitless_nothing
hitless_one_try (p ∷ ps) f h s = h (begun_at p s)

module _ (g : Setting) (off : g.matching.«partial» ≡ Off) where
  hitless_held : (k : ℕ) (s : State) (f : Search) → NoHitSearch f → NoHit (held g k s f)
  unfolding held
  hitless_held k s f h =
      hitless_if (nat_le (s.units + k) g.matching.frame_limit) _ _ (h _)
      (hitless_ends (by_halt too_many_units) (λ e. cc))

  hitless_hold : (how : How) → NoHitSearch (hold g how)
  unfolding hold
  hitless_hold how s = hitless_held 1 s (gives how) (hitless_gives how)

  hitless_reach : (s : State) (x : Stream) → NoHit x → NoHit (reach g s x)
  unfolding reach
  hitless_reach s x h = hitless_mode g.matching.«partial» _ _ _ off h

  hitless_reach_if : (b : Bool) (s : State) (x : Stream) → NoHit x → NoHit (reach_if g b s x)
  unfolding reach_if
  hitless_reach_if true s x h = hitless_reach s x h
  hitless_reach_if false s x h = h

  hitless_one : (item : Item) → NoHitSearch (run_one g item)
  unfolding run_one
  hitless_one item s = hitless_reach_if _ s _ (hitless_goes _ s)

  hitless_break : NoHitSearch (run_break g)
  unfolding run_break
  hitless_break s = hitless_reach_if _ s _ (hitless_goes _ s)

  hitless_ref : (ns : List ℕ) (caseless : Bool) → NoHitSearch (run_ref g ns caseless)
  unfolding run_ref
  hitless_ref [] caseless s = hitless_if g.options.match_unset_backref _ _ (hitless_gives _ _) (hitless_nothing)
  hitless_ref (m ∷ ns) caseless s =
      hitless_option (capture s.caps m) _ _ (hitless_ref ns caseless s)
      (λ span. hitless_reach_if (ref_reaches g.scene span.from span.to caseless s.place) s _
      (hitless_goes (after_ref g.scene span.from span.to caseless s.place) s))

  hitless_anchor : (kind : AnchorKind) → NoHitSearch (run_anchor g kind)
  unfolding run_anchor
  hitless_anchor kind s =
      hitless_reach_if (anchor_reaches g.scene kind s.place) _ _
      (hitless_if (holds g.scene kind s.place) _ _ (hitless_gives _ _) (hitless_nothing))

  hitless_offers : (ps : List ℕ) → NoHitSearch (offers g ps)
  unfolding offers
  hitless_offers [] s = hitless_nothing
  hitless_offers (p ∷ []) s = hitless_step _ (hitless_gives reached _)
  hitless_offers (p ∷ q ∷ ps) s =
      hitless_step _ (hitless_or_else _ _ (hitless_hold reached (move_to p s)) (hitless_offers (q ∷ ps) s))

  hitless_offer_and : (b : Bool) (s : State) (x : Stream) → NoHit x → NoHit (offer_and g b s x)
  hitless_offer_and true s x h = hitless_step _ (hitless_gives reached s)
  hitless_offer_and false s x h = hitless_step _ (hitless_or_else _ _ (hitless_hold reached s) h)

  hitless_reluctant : (item : Item) (left : Option ℕ) (ps : List ℕ) → NoHitSearch (reluctant g item left ps)
  unfolding reluctant
  hitless_reluctant item left [] s = hitless_nothing
  hitless_reluctant item left (p ∷ ps) s =
      hitless_offer_and (is_none_left left) _ _
      (hitless_reach_if (item_reaches g.scene item p) s _ (hitless_reluctant item (one_less left) ps s))

  hitless_lazy : (item : Item) (low : ℕ) (high : Option ℕ) (ps : List ℕ) → NoHitSearch (lazy_run g item low high ps)
  unfolding lazy_run
  hitless_lazy item low high ps s = hitless_reach_if _ s _ (hitless_reluctant item _ (drop low (s.place ∷ ps)) s)

  hitless_many : (item : Item) (low : ℕ) (high : Option ℕ) (lazily : Bool)
      → NoHitSearch (run_many g item low high lazily)
  unfolding run_many greedy
  hitless_many item low high false s = hitless_reach_if _ s _ (hitless_offers _ s)
  hitless_many item low high true s = hitless_lazy item low high _ s

  hitless_choices : (fs : List Search) → AllNoHit fs → NoHitSearch (choices g fs)
  unfolding choices
  hitless_choices [] h s = hitless_nothing
  hitless_choices (f ∷ []) h s = hitless_step _ (hitless_catch is_next_branch (f s) (h.0 s))
  hitless_choices (f ∷ f' ∷ fs) h s =
      hitless_step _ (hitless_or_else _ _
      (hitless_held 1 s _ (λ t. hitless_catch is_next_branch (f t) (h.0 t)))
      (hitless_choices (f' ∷ fs) h.1 s))

  hitless_branches : (fs : List Search) → AllNoHit fs → NoHitSearch (branches g fs)
  unfolding branches
  hitless_branches [] h s = hitless_nothing
  hitless_branches (f ∷ []) h s = h.0 s
  hitless_branches (f ∷ f' ∷ fs) h s = hitless_choices (f ∷ f' ∷ fs) h s

  hitless_tries : (ps : List ℕ) (f : Search) → NoHitSearch f → NoHitSearch (tries g ps f)
  unfolding tries
  hitless_tries [] f h s = hitless_nothing
  hitless_tries (p ∷ []) f h s = hitless_step _ (hitless_and_then _ _ (h (begun_at p s)) (hitless_ends_at s.place))
  hitless_tries (p ∷ q ∷ ps) f h s =
      hitless_step _ (hitless_or_else _ _
      (hitless_held 1 s _ (λ t. hitless_and_then _ _ (h (begun_at p t)) (hitless_ends_at s.place)))
      (hitless_tries (q ∷ ps) f h s))

  hitless_tries_within : (least : ℕ) (most : Option ℕ) (f : Search) → NoHitSearch f
      → NoHitSearch (tries_within g least most f)
  unfolding tries_within
  hitless_tries_within least None f h s = hitless_nothing
  hitless_tries_within least (Some most) f h s =
      let places = reverse (drop least (places_back g.scene most s.place)) in
      hitless_if (least == most) _ _ (hitless_one_try places f h s) (hitless_tries places f h s)

  hitless_behind : (lengths : SomeLengths) (f : Search) → NoHitSearch f → NoHitSearch (run_behind g lengths f)
  unfolding run_behind
  hitless_behind None f h s = hitless_nothing
  hitless_behind (Some a) f h s = hitless_tries_within a.least a.most f h s

  hitless_group : (k : Option ℕ) (f : Search) → NoHitSearch f → NoHitSearch (run_group g k f)
  unfolding run_group
  hitless_group None f h s = h s
  hitless_group (Some k) f h s =
      hitless_held 1 s _ (λ t. hitless_each (f t) _ (h t) (λ how u. hitless_hold how (captured k s.place u)))

  hitless_atomic : (f : Search) → NoHitSearch f → NoHitSearch (run_atomic g f)
  unfolding run_atomic
  hitless_atomic f h s =
      hitless_held 1 s _ (λ t. hitless_decide no_ending (f t) _ nothing (h t)
      (λ how u. hitless_hold how (forget_passed s u)) (hitless_nothing))

  hitless_look : (positive once : Bool) (f : Search) → NoHitSearch f → NoHitSearch (run_look g positive once f)
  unfolding run_look
  hitless_look true true f h s =
      hitless_held 1 s _ (λ t. hitless_decide fails_alone (f t) _ nothing (h t)
      (λ how u. hitless_hold reached (back_to s (forget_passed s u))) (hitless_nothing))
  hitless_look true false f h s =
      hitless_held 1 s _ (λ t. hitless_catch fails_alone _ (hitless_each (f t) _ (h t)
      (λ how u. hitless_gives reached (back_to s u))))
  hitless_look false once f h s =
      hitless_held 1 s _ (λ t. hitless_decide fails_inside (f t) _ (gives reached s) (h t)
      (λ how u. hitless_nothing) (hitless_gives reached s))

  hitless_asserts : (positive : Bool) (x yes' no' : Search) → NoHitSearch x → NoHitSearch yes' → NoHitSearch no' →
      NoHitSearch (asserts g positive x yes' no')
  unfolding asserts
  hitless_asserts true x yes' no' h k l s =
      hitless_held 1 s _ (λ t. hitless_decide fails_inside (x t) _ (no' s) (h t)
      (λ how u. hitless_held 1 (back_to s (forget_passed s u)) yes' k) (l s))
  hitless_asserts false x yes' no' h k l s =
      hitless_held 1 s _ (λ t. hitless_decide fails_inside (x t) _ (yes' s) (h t)
      (λ how u. hitless_held 1 (back_to s (forget_passed s u)) no' l) (k s))

  hitless_tests : (b : Bool) (yes' no' : Search) → NoHitSearch yes' → NoHitSearch no' → NoHitSearch (tests b yes' no')
  unfolding tests
  hitless_tests true yes' no' k l s = k s
  hitless_tests false yes' no' k l s = l s

  hitless_follow : (a : ℤ) (x : Stream) → NoHit x → NoHit (follow a x)
  unfolding follow
  hitless_follow (pos zero) x h = h
  hitless_follow (pos (suc k)) x h = hitless_nothing
  hitless_follow (negsuc k) x h = hitless_ends (by_halt (abort (negsuc k))) (λ e. cc)

  hitless_callout : (c : Callout) (f : Search) → NoHitSearch f → NoHitSearch (run_callout g c f)
  unfolding run_callout
  hitless_callout c f h s = hitless_note _ _ refl (hitless_follow (g.reply (block_of c s)) (f s) (h s))

  hitless_named : (name : Option ℕ) (noted : Bool) (s : State) (f : Search) → NoHitSearch f
      → NoHit (named name noted s f)
  unfolding named
  hitless_named None noted s f h = h s
  hitless_named (Some k) false s f h = hitless_note _ _ refl (h _)
  hitless_named (Some k) true s f h = hitless_note _ _ refl (h _)

  hitless_backs : (e : Ending) → e ≢ by_halt is_partial → NoHitSearch (backs g e)
  unfolding backs
  hitless_backs e h s = hitless_held 1 s _ (λ t. hitless_state reached t _ (hitless_ends e h))

  skip_is_not_partial : (p : ℕ) (e : Ending) (b : Bool) → e ≢ by_halt is_partial
      → elim b [ true ↦ by_verb (skip p) | false ↦ e ] ≢ by_halt is_partial
  skip_is_not_partial p e true h q = cc
  skip_is_not_partial p e false h q = h q

  skip_to_is_not_partial : (k : ℕ) (ms : List (ℕ × ℕ)) → skip_to g k ms ≢ by_halt is_partial
  skip_to_is_not_partial k [] e = cc
  skip_to_is_not_partial k (m ∷ ms) e =
      skip_is_not_partial m.1 (skip_to g k ms) (same_text (verb_name g k) (verb_name g m.0))
      (skip_to_is_not_partial k ms) e

  hitless_verb : (v : Verb) → NoHitSearch (run_verb g v)
  unfolding run_verb
  hitless_verb (Accept None) s = hitless_gives accepted s
  hitless_verb (Accept (Some k)) s = hitless_named (Some k) true s _ (hitless_hold accepted)
  hitless_verb (Fail None) s = hitless_nothing
  hitless_verb (Fail (Some k)) s = hitless_named (Some k) true s _ (λ t. hitless_held 1 t _ (λ u. hitless_nothing))
  hitless_verb (Mark k) s = hitless_named k true s _ (hitless_hold reached)
  hitless_verb (Commit k) s = hitless_named k false s _ (hitless_backs (by_verb commit) (λ e. cc))
  hitless_verb (Prune k) s = hitless_named k false s _ (hitless_backs (by_verb prune) (λ e. cc))
  hitless_verb (Then k) s = hitless_named k false s _ (hitless_backs (by_verb next_branch) (λ e. cc))
  hitless_verb (Skip None) s = hitless_backs (by_verb (skip s.place)) (λ e. cc) s
  hitless_verb (Skip (Some k)) s = hitless_backs (skip_to g k s.passed) (skip_to_is_not_partial k s.passed) s

  hitless_returns : (s : State) (how : How) → NoHitSearch (returns g s how)
  unfolding returns
  hitless_returns s how u = hitless_held (changes u.caps s.caps) (record u { caps = s.caps; calls = s.calls }) _
      (hitless_gives reached)

  hitless_turn : (below : Searches) (body : Nested) (low : ℕ) (high : Option ℕ) (lazily : Bool) → NoHitBelow below →
      NoHitSearch (turn g below body low high lazily)
  unfolding turn
  hitless_turn below body low high lazily h s =
      hitless_step _ (hitless_held 1 s _ (λ t. hitless_and_then (below body t) _ (h body t)
      (λ u. hitless_if (is_over low high s u) _ _ (hitless_gives reached u)
      (h (tree.repeat body (low - 1) (one_less high) lazily) u))))

  hitless_repeat : (below : Searches) (body : Nested) (low : ℕ) (high : Option ℕ) (lazily : Bool) → NoHitBelow below →
      NoHitSearch (run_repeat g below body low high lazily)
  unfolding run_repeat
  hitless_repeat below body (suc low) high lazily h s = hitless_turn below body (suc low) high lazily h s
  hitless_repeat below body zero (Some zero) lazily h s = hitless_gives reached s
  hitless_repeat below body zero None true h s =
      hitless_or_else _ _ (hitless_hold reached s) (hitless_turn below body 0 None true h s)
  hitless_repeat below body zero (Some (suc m)) true h s =
      hitless_or_else _ _ (hitless_hold reached s) (hitless_turn below body 0 (Some (suc m)) true h s)
  hitless_repeat below body zero None false h s =
      hitless_or_else _ _ (hitless_turn below body 0 None false h s) (hitless_gives reached s)
  hitless_repeat below body zero (Some (suc m)) false h s =
      hitless_or_else _ _ (hitless_turn below body 0 (Some (suc m)) false h s) (hitless_gives reached s)

  hitless_tree : (o : Option Nested) (f : Searches) → NoHitBelow f → NoHitSearch (run_tree o f)
  unfolding run_tree
  hitless_tree None f h s = hitless_nothing
  hitless_tree (Some t) f h s = h t s

  hitless_call : (below : Searches) (k : ℕ) → NoHitBelow below → NoHitSearch (run_call g below k)
  unfolding run_call
  hitless_call below k h s =
      hitless_step _ (hitless_if (is_active k s.place s.calls) _ _ (hitless_ends (by_halt loop) (λ e. cc))
      (hitless_held 1 s _ (λ t. hitless_catch is_verb _
      (hitless_each _ _ (hitless_tree (group_of g.whole k) below h (record t { calls = (k, s.place) ∷ s.calls }))
      (hitless_returns s)))))

  module _ (below : Searches) (h : NoHitBelow below) where
    mutual
      unfolding level

      hitless_level : (t : Nested) → NoHitSearch (level g below t)
      hitless_level tree.empty s = hitless_gives reached s
      hitless_level (tree.one item) s = hitless_one item s
      hitless_level tree.line_break s = hitless_break s
      hitless_level (tree.seq ts) s = hitless_in_order _ (hitless_levels ts) s
      hitless_level (tree.group number ts) s = hitless_group number _ (hitless_branches _ (hitless_levels ts)) s
      hitless_level (tree.repeat body low high lazily) s = hitless_repeat below body low high lazily h s
      hitless_level (tree.one_repeat item low high lazily) s = hitless_many item low high lazily s
      hitless_level (tree.atomic ts) s = hitless_atomic _ (hitless_branches _ (hitless_levels ts)) s
      hitless_level (tree.look true positive once ts) s =
          hitless_look positive once _ (hitless_branches _ (hitless_levels ts)) s
      hitless_level (tree.look false positive once ts) s =
          hitless_look positive once _ (hitless_branches _ (hitless_levels_behind ts)) s
      hitless_level (tree.condition test first second) s =
          hitless_level_test test _ _ (hitless_level first) (hitless_level_other second) s
      hitless_level (tree.call k) s = hitless_call below k h s
      hitless_level (tree.ref ns caseless) s = hitless_ref ns caseless s
      hitless_level (tree.anchor kind) s = hitless_anchor kind s
      hitless_level tree.keep_out s = hitless_gives reached _
      hitless_level (tree.verb v) s = hitless_verb v s
      hitless_level (tree.callout c) s = hitless_callout c _ (hitless_gives reached) s

      hitless_levels : (ts : Row) → AllNoHit (levels g below ts)
      hitless_levels tree.none = tt
      hitless_levels (tree.more t ts) = (hitless_level t, hitless_levels ts)

      hitless_levels_behind : (ts : Row) → AllNoHit (levels_behind g below ts)
      hitless_levels_behind tree.none = tt
      hitless_levels_behind (tree.more t ts) =
          (hitless_behind (branch_lengths g t) _ (hitless_level t), hitless_levels_behind ts)

      hitless_level_test : (test : Test) (yes' no' : Search) → NoHitSearch yes' → NoHitSearch no' →
          NoHitSearch (level_test g below test yes' no')
      hitless_level_test (tree.any_set ns) yes' no' k l s = hitless_tests (some_set s.caps ns) yes' no' k l s
      hitless_level_test tree.in_call yes' no' k l s = hitless_tests (is_called s.calls) yes' no' k l s
      hitless_level_test (tree.in_call_of ns) yes' no' k l s =
          hitless_tests (is_called_of s.calls ns) yes' no' k l s
      hitless_level_test tree.never yes' no' k l s = l s
      hitless_level_test (tree.assert true positive once ts) yes' no' k l s =
          hitless_asserts positive _ yes' no' (hitless_branches _ (hitless_levels ts)) k l s
      hitless_level_test (tree.assert false positive once ts) yes' no' k l s =
          hitless_asserts positive _ yes' no' (hitless_branches _ (hitless_levels_behind ts)) k l s
      hitless_level_test (tree.called c test) yes' no' k l s =
          hitless_callout c _ (hitless_level_test test yes' no' k l) s

      hitless_level_other : (o : Other) → NoHitSearch (level_other g below o)
      hitless_level_other tree.no_other s = hitless_gives reached s
      hitless_level_other (tree.other t) s = hitless_level t s

  pub hitless_run : (d : ℕ) (t : Nested) (s : State) → NoHit (run g d t s)
  unfolding run
  hitless_run zero t s = hitless_ends (by_halt cut) (λ e. cc)
  hitless_run (suc d) t s = hitless_level (run g d) (hitless_run d) t s
