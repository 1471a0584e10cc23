-- Expressions that match nowhere but where a search gets.
use Rattle.std.specs.Prelude.{◌≡◌, ◌<◌, ◌≤◌, ◌+◌, ℕ, Bool, ◌⊎◌, false, List, [], ◌∷◌, length, Some, None}
use Rattle.pat_tree.specs.declared.nodes.Item.{Item}
use Rattle.byte_lanes.specs.Newlines.{has_crlf}
use Rattle.pat_tree.specs.Newlines.{end_kind}
use Rattle.pat_tree.specs.Parts.{TreeParts}
use Rattle.pat_tree.specs.Nested.{Nested}
use Rattle.match_items.specs.Subjects.{IsTextPlace}
use Rattle.match_items.specs.Items.{after_item}
use Rattle.pat_bounds.specs.declared.bounds.Bound.{Bound}
use Rattle.pat_bounds.specs.Bounds.{at, bound}
use Rattle.ordered_search.specs.Stream.{State, exhausted, by_verb, by_halt, reached, accepted, note, state, step}
use Rattle.ordered_search.specs.Stream.{Stream, ends, ◌▸◌}
use Rattle.ordered_search.specs.Setting.{Setting, anchored, endanchored, notempty, notempty_atstart, match_limit}
use Rattle.ordered_search.specs.PlaceAnswer.{Outcome}
use Rattle.ordered_search.specs.MatchAnswer.{Match, match_answer}
use Rattle.search_starts.specs.StartLaw.{IsUnverbedSearch}
use Rattle.ordered_search.specs.Run.{run}
use Rattle.ordered_search.proofs.ForwardStreams.{IsOnWay}
use Rattle.regex_hir.specs.Re.{Re}
use Rattle.regex_hir.specs.Matches.{Matches}
use Rattle.pat_shape.specs.Searches.{IsSearchOf}

-- no verb ends it, and each of its states is reached
unfoldable pub Calm : Stream → Type 0
Calm (ends exhausted) = Unit {0}
Calm (ends (by_verb v)) = ⊥
Calm (ends (by_halt a)) = Unit {0}
Calm (note k ▸ x) = Calm x
Calm (state reached s ▸ x) = Calm x
Calm (state accepted s ▸ x) = ⊥
Calm (step ▸ x) = Calm x

-- a state is reached at the place, or the stream is halted
unfoldable pub Reaches : ℕ → Stream → Type 0
Reaches e (ends exhausted) = ⊥
Reaches e (ends (by_verb v)) = ⊥
Reaches e (ends (by_halt a)) = Unit {0}
Reaches e (note k ▸ x) = Reaches e x
Reaches e (state reached s ▸ x) = (s.place ≡ e) ⊎ Reaches e x
Reaches e (state accepted s ▸ x) = ⊥
Reaches e (step ▸ x) = Reaches e x

-- it reaches each place of P
abbrev pub Full : (ℕ → Type 0) → Stream → Type 0
Full P x = Calm x × ((e : ℕ) → P e → Reaches e x)

-- no match of it is empty
abbrev pub IsSolid : Re → Type 0
IsSolid re = (hay : List ℕ) (i j : ℕ) → Matches hay re i j → i < j

module _ (tree : TreeParts) (lined : Bool) where
  -- wherever the expression matches up to from a place, a search of t from there gets
  abbrev pub IsExact : Nested → Re → Type 0
  IsExact t re =
      (g : Setting) → IsSearchOf tree lined g → (d : ℕ) (s : State) → IsOnWay g None s
      → Full (Matches g.subject re s.place) (run g d t s)

  -- the same of trees, one by one
  abbrev pub AreExact : List Nested → List Re → Type 0
  AreExact [] [] = Unit {0}
  AreExact [] (re ∷ res) = ⊥
  AreExact (t ∷ ts) [] = ⊥
  AreExact (t ∷ ts) (re ∷ res) = IsExact t re × AreExact ts res

  -- what the expression matches the item takes
  abbrev pub IsExactItem : Item → Re → Type 0
  IsExactItem item re = (g : Setting) → IsSearchOf tree lined g → (p q : ℕ)
      → IsTextPlace g.options g.subject p → Matches g.subject re p q → after_item g.scene item p ≡ Some q

-- A search outside UTF, for a pattern that takes no more than the limits allow, over lines that end by LF; any match
-- counts, and any place is tried that no start optimisation passes over. Wherever the expression matches up to from a
-- place, it gets.
pub record IsExactSearch (g : Setting) (re : Re) (b : Bound) : Type 0 where
  pub exact : (d : ℕ) (s : State) → IsOnWay g None s → Full (Matches g.subject re s.place) (run g d g.whole s)
  pub bounded : bound g.class_has g.whole ≡ Some b
  pub steps : at b.steps (length g.subject + 1) ≤ match_limit g
  pub units : at b.units (length g.subject + 1) ≤ g.matching.frame_limit
  pub search : IsUnverbedSearch g
  pub bytes : g.options.utf ≡ false
  pub by_lf : has_crlf (end_kind g.options.newline g.options.utf) ≡ false
  pub free : anchored g ≡ false
  pub further : g.options.firstline ≡ false
  pub some : notempty g ≡ false
  pub there : notempty_atstart g ≡ false
  pub anywhere : endanchored g ≡ false

-- Where the expression matches from a place on, there is a match.
abbrev pub FoundLaw : Type 0
FoundLaw =
    (g : Setting) (re : Re) (b : Bound) → IsExactSearch g re b → (p q : ℕ) → IsTextPlace g.options g.subject p
    → g.start ≤ p
    → Matches g.subject re p q → (o : Outcome) × ((match_answer g).answer ≡ Match o)
