-- What each construct makes of the searches of its parts.
use Rattle.std.specs.Prelude.{ℕ, zero, suc, ◌-◌, Bool, true, false, ◌&&◌, ◌||◌, List, [], ◌∷◌, Option, Some, None, ℤ}
use Rattle.std.specs.Prelude.{pos, negsuc, ◌==◌, nat_le, min, drop, reverse}
use Rattle.pat_tree.specs.declared.nodes.Verb.{Verb}
use Rattle.pat_tree.specs.declared.nodes.Verb.TheVariants.{Accept, Fail, Commit, Prune, Skip, Then, Mark}
use Rattle.pat_tree.specs.Nested.{Nested, Callout, repeat}
use Rattle.pat_tree.specs.Groups.{group_of}
use Rattle.match_items.specs.Items.{one_less, places_back}
use Rattle.pat_lengths.specs.Lengths.{SomeLengths}
use Rattle.ordered_search.specs.Stream.{State, Block, next_branch, prune, skip, commit, loop, abort, Ending}
use Rattle.ordered_search.specs.Stream.{exhausted, by_verb, by_halt, How, reached, accepted, note, step, name, shown}
use Rattle.ordered_search.specs.Stream.{state, Stream, Search, ends, ◌▸◌, nothing, gives, ◌or_else◌, each, and_then}
use Rattle.ordered_search.specs.Stream.{decide, catch, no_ending, is_next_branch, is_verb, fails_alone, fails_inside}
use Rattle.ordered_search.specs.Stream.{captured, changes}
use Rattle.frame_store.specs.Captures.{Captures, capture}
use Rattle.ordered_search.specs.Setting.{Setting, held, hold, verb_name}

-- a search of each tree
abbrev pub Searches : Type 0
Searches = Nested → Search

-- a number is in the list
abbrev pub contains : List ℕ → ℕ → Bool
contains [] n = false
contains (m ∷ ms) n = (m == n) || contains ms n

-- Sequences.

-- the parts one after the other
unfoldable pub in_order : List Search → Search
in_order [] s = gives reached s
in_order (f ∷ fs) s = and_then (f s) (in_order fs)

-- Alternatives and groups.

module _ (g : Setting) where
  -- two branches or more: each begins with Step and catches a THEN, and while a later one is left the path holds a unit
  unfoldable pub choices : List Search → Search
  choices [] s = nothing
  choices (f ∷ []) s = step ▸ catch is_next_branch (f s)
  choices (f ∷ f' ∷ fs) s = step ▸ (held g 1 s (λ t. catch is_next_branch (f t)) or_else choices (f' ∷ fs) s)

  unfoldable pub branches : List Search → Search
  branches [] s = nothing
  branches (f ∷ []) s = f s
  branches (f ∷ f' ∷ fs) s = choices (f ∷ f' ∷ fs) s

  -- a capturing group has a number
  unfoldable pub run_group : Option ℕ → Search → Search
  run_group None f s = f s
  run_group (Some n) f s = held g 1 s (λ t. each (f t) (λ how u. hold g how (captured n s.place u)))

-- Branches of a lookbehind.

-- begun at an earlier place
abbrev pub begun_at : ℕ → State → State
begun_at p s = record s { place = p; early = min s.early p }

-- a state at this place stays
abbrev pub ends_at : ℕ → Search
ends_at p u = elim (u.place == p) [ true ↦ gives reached u | false ↦ nothing ]

unfoldable pub one_try : List ℕ → Search → Search
one_try [] f s = nothing
one_try (p ∷ ps) f s = f (begun_at p s)

module _ (g : Setting) where
  -- Where the lengths differ, a try from each of these places counts where it ends at the lookbehind's.
  unfoldable pub tries : List ℕ → Search → Search
  tries [] f s = nothing
  tries (p ∷ []) f s = step ▸ and_then (f (begun_at p s)) (ends_at s.place)
  tries (p ∷ q ∷ ps) f s =
      step ▸ (held g 1 s (λ t. and_then (f (begun_at p t)) (ends_at s.place)) or_else tries (q ∷ ps) f s)

  unfoldable pub tries_within : ℕ → Option ℕ → Search → Search
  tries_within least None f s = nothing
  tries_within least (Some most) f s =
      let places = reverse (drop least (places_back g.scene most s.place)) in
      elim (least == most) [ true ↦ one_try places f s | false ↦ tries places f s ]

  -- from the greatest length down to the least for which so many characters stand before
  unfoldable pub run_behind : SomeLengths → Search → Search
  run_behind None f s = nothing
  run_behind (Some a) f s = tries_within a.least a.most f s

-- Atomic groups, lookarounds, conditions.

-- back from a lookaround
abbrev pub back_to : State → State → State
back_to s u = record u { place = s.place; keep = s.keep }

abbrev pub forget_passed : State → State → State
forget_passed s u = record u { passed = s.passed }

module _ (g : Setting) where
  unfoldable pub run_atomic : Search → Search
  run_atomic f s = held g 1 s (λ t. decide no_ending (f t) (λ how u. hold g how (forget_passed s u)) nothing)

  -- positive or negative, atomic or not
  unfoldable pub run_look : Bool → Bool → Search → Search
  run_look true true f s =
      held g 1 s (λ t. decide fails_alone (f t) (λ how u. hold g reached (back_to s (forget_passed s u))) nothing)
  run_look true false f s = held g 1 s (λ t. catch fails_alone (each (f t) (λ how u. gives reached (back_to s u))))
  run_look false once f s = held g 1 s (λ t. decide fails_inside (f t) (λ how u. nothing) (gives reached s))

  -- A lookaround as a test, always atomic: what follows where it is true, and where it is false. After a negative one
  -- captures and mark are kept where it is false, since matching goes on with the second branch.
  unfoldable pub asserts : Bool → Search → Search → Search → Search
  asserts true x yes' no' s =
      held g 1 s (λ t. decide fails_inside (x t) (λ how u. held g 1 (back_to s (forget_passed s u)) yes') (no' s))
  asserts false x yes' no' s =
      held g 1 s (λ t. decide fails_inside (x t) (λ how u. held g 1 (back_to s (forget_passed s u)) no') (yes' s))

-- any other test
unfoldable pub tests : Bool → Search → Search → Search
tests true yes' no' s = yes' s
tests false yes' no' s = no' s

abbrev pub some_set : Captures → List ℕ → Bool
some_set caps [] = false
some_set caps (n ∷ ns) = elim (capture caps n) [ None ↦ some_set caps ns | Some span ↦ true ]

abbrev pub is_called : List (ℕ × ℕ) → Bool
is_called [] = false
is_called (c ∷ cs) = true

-- the latest active call is of one of these groups
abbrev pub is_called_of : List (ℕ × ℕ) → List ℕ → Bool
is_called_of [] ns = false
is_called_of (c ∷ cs) ns = contains ns c.0

-- Callouts.

abbrev pub block_of : Callout → State → Block
block_of c s = record {
  number = c.number;
  text_from = c.text_from;
  text_to = c.text_to;
  pattern_at = c.item_at;
  item_len = c.item_len;
  start = s.keep;
  current = s.place;
  mark = s.mark;
}

-- what the answer does
unfoldable pub follow : ℤ → Stream → Stream
follow (pos zero) x = x
follow (pos (suc n)) x = nothing
follow (negsuc n) x = ends (by_halt (abort (negsuc n)))

unfoldable pub run_callout : Setting → Callout → Search → Search
run_callout g c f s = note (shown (block_of c s)) ▸ follow (g.reply (block_of c s)) (f s)

-- Verbs.

-- a name is met; a noted one is what SKIP looks for
unfoldable pub named : Option ℕ → Bool → State → Search → Stream
named None noted s f = f s
named (Some n) false s f = note (name n) ▸ f (record s { mark = Some n })
named (Some n) true s f = note (name n) ▸ f (record s { mark = Some n; passed = (n, s.place) ∷ s.passed })

abbrev pub same_text : List ℕ → List ℕ → Bool
same_text [] [] = true
same_text (a ∷ xs) (b ∷ ys) = (a == b) && same_text xs ys
same_text _ _ = false

module _ (g : Setting) where
  -- the place that was last passed under this name
  abbrev pub skip_to : ℕ → List (ℕ × ℕ) → Ending
  skip_to n [] = exhausted
  skip_to n (m ∷ ms) = elim (same_text (verb_name g n) (verb_name g m.0))
      [ true ↦ by_verb (skip m.1) | false ↦ skip_to n ms ]

  -- goes on, and ends so when it is backtracked onto
  unfoldable pub backs : Ending → Search
  backs e s = held g 1 s (λ t. state reached t ▸ ends e)

  unfoldable pub run_verb : Verb → Search
  run_verb (Accept None) s = gives accepted s
  run_verb (Accept (Some n)) s = named (Some n) true s (hold g accepted)
  run_verb (Fail None) s = nothing
  run_verb (Fail (Some n)) s = named (Some n) true s (λ t. held g 1 t (λ u. nothing))
  run_verb (Mark n) s = named n true s (hold g reached)
  run_verb (Commit n) s = named n false s (backs (by_verb commit))
  run_verb (Prune n) s = named n false s (backs (by_verb prune))
  run_verb (Then n) s = named n false s (backs (by_verb next_branch))
  run_verb (Skip None) s = backs (by_verb (skip s.place)) s
  run_verb (Skip (Some n)) s = backs (skip_to n s.passed) s

-- Repeats and calls, which go a level deeper.

-- a turn from s to t took nothing, and no further turn is owed or bounded
abbrev pub is_over : ℕ → Option ℕ → State → State → Bool
is_over low None s t = nat_le low 1 && (s.place == t.place)
is_over low (Some n) s t = false

unfoldable pub run_tree : Option Nested → Searches → Search
run_tree None f s = nothing
run_tree (Some t) f s = f t s

-- a call of group n at p is active
abbrev pub is_active : ℕ → ℕ → List (ℕ × ℕ) → Bool
is_active n p [] = false
is_active n p (c ∷ cs) = (c.0 == n) && (c.1 == p) || is_active n p cs

module _ (g : Setting) where
  -- A turn, and then the repeat with one turn less; `below` is the search with one depth less.
  unfoldable pub turn : Searches → Nested → ℕ → Option ℕ → Bool → Search
  turn below body low high lazily s =
      step ▸ held g 1 s (λ t. and_then (below body t) (λ u.
      elim (is_over low high s u) [
        | true ↦ gives reached u
        | false ↦ below (repeat body (low - 1) (one_less high) lazily) u
      ]))

  unfoldable pub run_repeat : Searches → Nested → ℕ → Option ℕ → Bool → Search
  run_repeat below body (suc low) high lazily s = turn below body (suc low) high lazily s
  run_repeat below body zero (Some zero) lazily s = gives reached s
  run_repeat below body zero high true s = hold g reached s or_else turn below body zero high true s
  run_repeat below body zero high false s = turn below body zero high false s or_else gives reached s

  -- The captures and the active calls are those of s again.
  unfoldable pub returns : State → How → Search
  returns s how u = held g (changes u.caps s.caps) (record u { caps = s.caps; calls = s.calls }) (gives reached)

  unfoldable pub run_call : Searches → ℕ → Search
  run_call below n s =
      step ▸ elim (is_active n s.place s.calls) [
        | true ↦ ends (by_halt loop)
        | false ↦ held g 1 s (λ t.
            catch is_verb (each (run_tree (group_of g.whole n) below (record t { calls = (n, s.place) ∷ s.calls }))
            (returns s)))
      ]
