-- A pattern that is one greedy repeat of an item matches its longest run.
use Rattle.std.proofs.Common.{◌≡◌, ℕ, ℤ, zero, suc, ◌-◌, ◌≤◌, true, false, List, [], ◌∷◌, ◌++◌, length, drop}
use Rattle.std.proofs.Common.{reverse, Option, Some, None, refl, sym, ap, subst, ◌∙◌, arith}
use Rattle.std.proofs.lemmas.List.{reverse-append}
use Rattle.pcre_io.specs.declared.callouts.Block.{Block}
use Rattle.pat_tree.specs.declared.nodes.Item.{Item}
use Rattle.pat_tree.specs.declared.options.Options.{Options}
use Rattle.pat_tree.specs.declared.options.PartialMode.TheVariants.{Off}
use Rattle.pat_tree.specs.Nested.{group, one_repeat, none, more}
use Rattle.pat_tree.specs.Parts.{TreeParts}
use Rattle.char_sets.specs.Table.{CharSet, IsTableOf}
use Rattle.match_items.specs.Scene.{Scene}
use Rattle.match_items.specs.declared.view.View.{View}
use Rattle.match_items.specs.Items.{longest_run}
use Rattle.match_items.specs.Views.{text_scene, maximum, end_of}
use Rattle.frame_board.specs.Ready.{setting_for}
use Rattle.frame_board.specs.frame_state.Stops.{admitted}
use Rattle.ordered_search.specs.Stream.{reached, first_state, gives, nothing, ◌or_else◌}
use Rattle.ordered_search.specs.Setting.{Setting, lower_of, match_limit, hold}
use Rattle.ordered_search.specs.Tests.{move_to, offers}
use Rattle.ordered_search.specs.Run.{run}
use Rattle.ordered_search.specs.PlaceAnswer.{walk, place_answer}
use Rattle.match_starts.specs.Asked.{passed_over}
use Rattle.match_starts.specs.Prefix.{IsTold}
use Rattle.match_starts.specs.Whole.{IsWholeSearch}
use Rattle.match_starts.specs.declared.prefix.Tested.TheVariants.{Took}
use Rattle.match_starts.specs.declared.repeats.FirstRepeat.{FirstRepeat}
use Rattle.match_starts.proofs.PastPrefix.{has_unit, match_told, told_at, scene_same}
use Rattle.match_starts.proofs.PastRepeats.{alone_is, many_is, place_is}

-- the last of a row of places comes first in its reverse
last_first : (p : ℕ) (ps : List ℕ) → (rest : List ℕ) × (reverse (p ∷ ps) ≡ end_of p ps ∷ rest)
last_first p [] = ([], refl)
last_first p (q ∷ qs) =
    let later = last_first q qs in (
      later.0 ++ (p ∷ []),
      reverse-append (p ∷ []) (q ∷ qs)
          ∙ ap (λ (xs : List ℕ). xs ++ (p ∷ [])) later.1,
    )

-- also where the first of them are dropped
offered_first : (low p : ℕ) (ps : List ℕ) → low ≤ length ps
    → (rest : List ℕ) × (reverse (drop low (p ∷ ps)) ≡ end_of p ps ∷ rest)
offered_first zero p ps few = last_first p ps
offered_first (suc n) p [] few = absurd (omega (arith, few))
offered_first (suc n) p (q ∷ qs) few = offered_first n q qs (omega (arith, few))

module _ (g : Setting) (off : g.matching.«partial» ≡ Off) where
  -- the first place that is offered counts
  offered_told : (p q n : ℕ) (rest : List ℕ) → admitted g p q ≡ true
      → 1 ≤ g.matching.frame_limit
      → walk g (suc n) (offers g (q ∷ rest) (first_state g.groups p)) ≡ told_at g off p (Some q)
  unfolding walk offers hold ◌or_else◌
  offered_told p q n [] counted room = match_told g off n p 0 q nothing counted
  offered_told p q n (r ∷ rs) counted room =
      let s = first_state g.groups p in
      let later = offers g (r ∷ rs) s in
      ap (λ x. walk g n (x or_else later)) (has_unit g off (move_to q s) (gives reached) room)
      ∙ match_told g off n p 1 q (nothing or_else later) counted

  whole_told : (item : Item) (low : ℕ) (high : Option ℕ) (p : ℕ)
      → g.whole ≡ group None (more (one_repeat item low high false) none)
      → low ≤ length (longest_run g.scene item high p)
      → admitted g p (end_of p (longest_run g.scene item high p)) ≡ true
      → 1 ≤ match_limit g → 1 ≤ g.matching.frame_limit
      → place_answer g p ≡ told_at g off p (Some (end_of p (longest_run g.scene item high p)))
  whole_told item low high p is few counted steps room =
      let s = first_state g.groups p in
      let d = match_limit g in
      let places = longest_run g.scene item high p in
      let first = offered_first low p places few in
      let one_more : d ≡ suc (d - 1) = omega (arith, steps) in
      place_is g off (one_repeat item low high false) is p
      ∙ ap (walk g d) (alone_is g off (run g d) item low high s ∙ many_is g off item low high s
      ∙ ap (λ ps. offers g ps s) first.1)
      ∙ ap (λ n. walk g n (offers g (end_of p places ∷ first.0) s)) one_more
      ∙ offered_told p (end_of p places) (d - 1) first.0 counted room

-- what the run at a place tells of a search
pub whole_tells : (tree : TreeParts) (table : List CharSet) (view : View) (given : Block → ℤ)
    (only : FirstRepeat) (p most q n : ℕ) → IsTableOf tree table
    → view.options.now ≡ tree.options → IsWholeSearch tree view only → maximum most ≡ only.max
    → n ≡ length (longest_run (text_scene view table) only.item (maximum most) p)
    → q ≡ end_of p (longest_run (text_scene view table) only.item (maximum most) p)
    → only.min ≤ n → admitted (setting_for tree view passed_over) p q ≡ true
    → IsTold (Took q) (setting_for tree view given) p
whole_tells tree table view given only p most q n shown options is max count to few counted =
    let g = setting_for tree view given in
    let same : longest_run (text_scene view table) only.item (maximum most) p
    ≡ longest_run g.scene only.item only.max p =
    ap (λ (s : Scene). longest_run s only.item (maximum most) p)
    (scene_same tree table view given shown options)
    ∙ ap (λ m. longest_run g.scene only.item m p) max in
    let count' : n ≡ length (longest_run g.scene only.item only.max p) = count ∙ ap length same in
    let to' : q ≡ end_of p (longest_run g.scene only.item only.max p) = to ∙ ap (end_of p) same in
    let limit : lower_of view.options.now.match_limit view.matching.now.match_limit
    ≡ match_limit g = ap (λ (o : Options). lower_of o.match_limit view.matching.now.match_limit)
    options in
    subst (λ k. place_answer g p ≡ told_at g is.off p (Some k)) (sym to')
    (whole_told g is.off only.item only.min only.max p is.is (omega (arith, count', few))
    (subst (λ k. admitted g p k ≡ true) to' counted) (omega (arith, limit, is.step))
    (omega (arith, is.unit)))
