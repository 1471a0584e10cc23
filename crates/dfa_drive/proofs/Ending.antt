-- The ends at one place are those of the definition.
use Rattle.std.proofs.Common.{◌≡◌, ◌∙◌, ℕ, zero, suc, Bool, true, false, List, length, ◌≤◌, subst, arith, refl, sym, ap}
use Rattle.std.specs.Prelude.{cond, slice_index_or}
use Rattle.pat_tree.specs.declared.options.Options.{Options}
use Rattle.pat_tree.specs.Parts.{TreeParts, tree_of}
use Rattle.char_sets.specs.Table.{CharSet, IsTableOf}
use Rattle.match_items.specs.declared.view.View.{View}
use Rattle.match_items.specs.Scene.{Scene}
use Rattle.match_items.specs.Views.{bare_text, text_scene}
use Rattle.ordered_search.specs.Setting.{Setting}
use Rattle.match_drive.specs.frame_board.Ready.{setting_for}
use Rattle.match_drive.specs.match_starts.Asked.{passed_over}
use Rattle.dfa_ends.specs.Ends.{spot, Among}
use Rattle.dfa_ends.specs.EndList.{end_places}
use Rattle.dfa_ends.specs.DfaAnswer.{admitted, last_of, ends_from, reach_test}
use Rattle.dfa_ends.proofs.ReachLaw.{reach_law}
use Rattle.dfa_lists.specs.dfa_paths.Fragment.{GraphParts, IsGraphOf, AreEnds, IsHit}
use Rattle.dfa_drive.specs.Admitted.{admits, kept_if, admitted_down}
use Rattle.dfa_drive.specs.Answer.{AreWithin}
use Rattle.dfa_drive.proofs.Downward.{ends_down, down_within, last_within}
use Rattle.dfa_drive.proofs.Scenes.{scene_same}

down_alike : (s s' : Scene) (p : ℕ) → ((q : ℕ) → admits s p q ≡ admits s' p q) →
    (qs : List ℕ) (n : ℕ) → admitted_down s p qs n ≡ admitted_down s' p qs n
unfolding admitted_down
down_alike s s' p same qs zero = refl
down_alike s s' p same qs (suc n) =
    ap
    (λ b. kept_if b (slice_index_or qs n 0) (admitted_down s p qs n))
    (same (slice_index_or qs n 0))
    ∙ ap (λ r. kept_if (admits s' p (slice_index_or qs n 0)) (slice_index_or qs n 0) r)
    (down_alike s s' p same qs n)

both_true : (a b : Bool) → (a ≡ true → b ≡ true) → (b ≡ true → a ≡ true) → a ≡ b
both_true true b to from = sym (to refl)
both_true false true to from = from refl
both_true false false to from = refl

module _ (tree : TreeParts) (table : List CharSet) (view : View)
    (shown : IsTableOf tree table) (options : view.options.now ≡ tree.options) where
  abbrev g : Setting
  g = setting_for tree view passed_over

  admits_same : (p q : ℕ) → admits (bare_text view) p q ≡ admits g.scene p q
  admits_same p q =
      ap (λ (o : Options). admits (record (bare_text view) { options = o }) p q) options

  pub ends_here : (parts : GraphParts) (p : ℕ) (rising : List ℕ) →
      IsGraphOf (length table) parts (tree_of tree) →
      AreEnds (text_scene view table) parts p rising →
      admitted_down (bare_text view) p rising (length rising)
      ≡ admitted g p (end_places g g.whole p)
  ends_here parts p rising graph ends =
      let same = sym (scene_same tree table view shown options) in
      down_alike (bare_text view) g.scene p (admits_same p) rising (length rising)
      ∙ ends_down g p rising ends.rising
      (ends.each_is_an_end (length table) (tree_of tree) graph g same)
      (ends.all_are_found (length table) (tree_of tree) graph g same)

  -- whether a test reaches the subject's end
  pub hit_here : (parts : GraphParts) (p : ℕ) (hit : Bool) →
      IsGraphOf (length table) parts (tree_of tree) → IsHit (text_scene view table) parts p hit →
      hit ≡ reach_test g g.whole (spot p p)
  hit_here parts p hit graph told =
      let same = sym (scene_same tree table view shown options) in
      let law = reach_law g g.whole (spot p p) in
      both_true hit (reach_test g g.whole (spot p p))
      (λ e. law.1 (told.hit_reaches (length table) (tree_of tree) graph g same refl e))
      (λ e. told.reaching_hits (length table) (tree_of tree) graph g same refl (law.0 e))

-- Under DFA_SHORTEST the last of them alone counts.

pub ends_asked : (g : Setting) (shortest : Bool) (p : ℕ) (qs ends : List ℕ) →
    qs ≡ admitted g p (end_places g g.whole p) → ends ≡ cond shortest (last_of qs) qs →
    ends ≡ ends_from g shortest p
ends_asked g shortest p qs ends e is = is ∙ ap (λ rs. cond shortest (last_of rs) rs) e

-- The ends lie where they did before.

asked_within : (low high : ℕ) (shortest : Bool) (falling ends : List ℕ) →
    AreWithin low high falling → ends ≡ cond shortest (last_of falling) falling → (q : ℕ) →
    Among q ends → (low ≤ q) × (q ≤ high)
asked_within low high true falling ends h e q a =
    last_within low high falling h q (subst (Among q) e a)
asked_within low high false falling ends h e q a = h q (subst (Among q) e a)

pub all_within : (s : Scene) (p low high : ℕ) (shortest : Bool) (rising falling ends : List ℕ) →
    AreWithin low high rising → falling ≡ admitted_down s p rising (length rising) →
    ends ≡ cond shortest (last_of falling) falling → (q : ℕ) →
    Among q ends → (low ≤ q) × (q ≤ high)
all_within s p low high shortest rising falling ends h e is =
    asked_within low high shortest falling ends
    (λ q a. down_within s p low high rising h (length rising) (omega arith) q
    (subst (Among q) e a)) is
