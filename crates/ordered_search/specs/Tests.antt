-- What one item, a reference or a simple assertion does at a state.
use Rattle.std.specs.Prelude.{ℕ, ◌-◌, Bool, true, false, List, [], ◌∷◌, take, drop, reverse, Option, Some, None}
use Rattle.std.specs.Prelude.{option_map}
use Rattle.pat_tree.specs.declared.nodes.Item.{Item}
use Rattle.pat_tree.specs.declared.nodes.AnchorKind.{AnchorKind}
use Rattle.match_items.specs.Items.{one_less, is_none_left, after_item, item_reaches, longest_run, run_reaches}
use Rattle.match_items.specs.Items.{after_break, break_reaches, after_ref, ref_reaches, holds, anchor_reaches}
use Rattle.match_items.specs.Items.{earliest}
use Rattle.ordered_search.specs.Stream.{State, step, reached, Stream, Search, ◌▸◌, nothing, gives, ◌or_else◌}
use Rattle.frame_store.specs.Captures.{capture}
use Rattle.ordered_search.specs.Setting.{Setting, hold, reach_if}

-- at another place
abbrev pub move_to : ℕ → State → State
move_to p s = record s { place = p }

-- goes on at a place, where there is one
abbrev pub goes_to : Option ℕ → Search
goes_to None s = nothing
goes_to (Some p) s = gives reached (move_to p s)

module _ (g : Setting) where
  unfoldable pub run_one : Item → Search
  run_one item s = reach_if g (item_reaches g.scene item s.place) s (goes_to (after_item g.scene item s.place) s)

  -- `\R`
  unfoldable pub run_break : Search
  run_break s = reach_if g (break_reaches g.scene s.place) s (goes_to (after_break g.scene s.place) s)

  -- the first set group of the list
  unfoldable pub run_ref : List ℕ → Bool → Search
  run_ref [] caseless s = elim g.options.match_unset_backref [ true ↦ gives reached s | false ↦ nothing ]
  run_ref (n ∷ ns) caseless s =
      elim (capture s.caps n) [
        | None ↦ run_ref ns caseless s
        | Some span ↦ reach_if g (ref_reaches g.scene span.from span.to caseless s.place) s
            (goes_to (after_ref g.scene span.from span.to caseless s.place) s)
      ]

  unfoldable pub run_anchor : AnchorKind → Search
  run_anchor kind s =
      let t = record s { early = earliest g.scene kind s.place s.early } in
      reach_if g (anchor_reaches g.scene kind s.place) t
      (elim (holds g.scene kind s.place) [ true ↦ gives reached t | false ↦ nothing ])

  -- Repeats of one item.

  -- The places are handed on in order: Step, and a unit where another place is left.
  unfoldable pub offers : List ℕ → Search
  offers [] s = nothing
  offers (p ∷ []) s = step ▸ gives reached (move_to p s)
  offers (p ∷ q ∷ ps) s = step ▸ (hold g reached (move_to p s) or_else offers (q ∷ ps) s)

  -- the longest run first, down to the minimum; ps are the places after one character, after two and so on
  unfoldable pub greedy : Item → ℕ → Option ℕ → List ℕ → Search
  greedy item low high ps s =
      reach_if g (run_reaches g.scene item high s.place ps) s (offers (reverse (drop low (s.place ∷ ps))) s)

  -- a place is handed on, and x follows where a further one may be left
  abbrev pub offer_and : Bool → State → Stream → Stream
  offer_and true s x = step ▸ (gives reached s)
  offer_and false s x = step ▸ (hold g reached s or_else x)

  -- the shortest first, with one further test before each further place, so many of them at most
  unfoldable pub reluctant : Item → Option ℕ → List ℕ → Search
  reluctant item left [] s = nothing
  reluctant item left (p ∷ ps) s =
      offer_and (is_none_left left) (move_to p s)
      (reach_if g (item_reaches g.scene item p) s (reluctant item (one_less left) ps s))

  -- the tests up to the minimum come before
  unfoldable pub lazy_run : Item → ℕ → Option ℕ → List ℕ → Search
  lazy_run item low high ps s =
      reach_if g (run_reaches g.scene item (Some low) s.place (take low ps)) s
      (reluctant item (option_map (λ n. n - low) high) (drop low (s.place ∷ ps)) s)

  unfoldable pub run_many : Item → ℕ → Option ℕ → Bool → Search
  run_many item low high false s = greedy item low high (longest_run g.scene item high s.place) s
  run_many item low high true s = lazy_run item low high (longest_run g.scene item high s.place) s
