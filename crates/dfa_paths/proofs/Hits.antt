-- The flag of a search is that of reaching the subject's end.
use Rattle.std.proofs.Common.{◌≡◌, ◌∙◌, ℕ, suc, ◌<◌, ◌≤◌, Bool, true, false, List, length, refl, sym, ap, subst, inl}
use Rattle.std.proofs.Common.{inr, arith, ltb-false}
use Rattle.std.proofs.lemmas.Bool.{false≢true}
use Rattle.std.specs.Prelude.{◌||◌, nat_lt}
use Rattle.std.specs.List.{list_any}
use Rattle.pat_tree.specs.Nested.{Nested}
use Rattle.pat_lengths.specs.Nodes.{is_lookbehind, has_lookbehind as holds_lookbehind, all_nodes}
use Rattle.pat_lengths.specs.Lengths.{can_be_empty as can_take_nothing}
use Rattle.match_items.specs.Scene.{Scene}
use Rattle.match_items.specs.Laws.{StandsAlong}
use Rattle.match_items.specs.Items.{place_before}
use Rattle.dfa_ends.specs.ordered_search.Setting.{Setting, has_lookbehind, can_be_empty}
use Rattle.dfa_ends.specs.Ends.{spot, Reaches}
use Rattle.dfa_paths.specs.declared.graph.Node.{Node}
use Rattle.dfa_paths.specs.Graph.{Deep}
use Rattle.dfa_paths.specs.Meets.{DeepMeets}
use Rattle.dfa_paths.specs.Fragment.{AreStatesOf, GraphParts, IsGraphOf, IsHit, most_nested}
use Rattle.dfa_paths.proofs.Counting.{Good, IsBefore}
use Rattle.dfa_paths.proofs.Meeting as meeting
use Rattle.dfa_paths.proofs.EndReaching.{comes, goes}

or_three : (a b c : Bool) → (a || b || c) ≡ false → (a ≡ false) × (b ≡ false)
or_three true b c e = absurd (false≢true (sym e))
or_three false true c e = absurd (false≢true (sym e))
or_three false false c e = (refl, refl)

-- The paths of the graph of a tree meet the end where the tree reaches it.
module _ (g : Setting) (classes : ℕ) (nodes : List Node) (t : Nested)
    (h : AreStatesOf classes nodes t) (whole : g.whole ≡ t) (counts : Bool) (p : ℕ)
    (is : counts
    ≡ (nat_lt p (length g.subject) || has_lookbehind g || can_be_empty g))
    (inside : p ≤ length g.subject) (before : IsBefore g counts) where
  start : Good g counts (spot p p)
  start = record {
    counting = λ c. sym is ∙ c;
    ending = λ c. (
        let none = or_three _ _ _ (sym is ∙ c) in
        let past = ltb-false p (length g.subject) none.0 in
        omega (arith, past, inside));
  }

  quiet : counts ≡ false → list_any is_lookbehind (all_nodes t) ≡ false
  quiet c =
      let none = or_three _ _ _ (sym is ∙ c) in
      ap (λ u. list_any is_lookbehind (all_nodes u)) (sym whole) ∙ none.1

  pub meeting_reaches : DeepMeets g.scene nodes counts (suc most_nested) 0 p →
      Reaches g t (spot p p)
  unfolding DeepMeets
  meeting_reaches f =
      let n = suc (meeting.size g nodes counts (Deep g.scene nodes most_nested)
      (DeepMeets g.scene nodes counts most_nested) 0 p f) in
      elim (comes g nodes h.ends counts before most_nested t quiet n 0 1 (spot p p) start h.placed
      (f, omega arith)) [
        | inl r ↦ r
        | inr r ↦ absurd (meeting.at_match g nodes counts (Deep g.scene nodes most_nested)
            (DeepMeets g.scene nodes counts most_nested) 1 r.0.place h.ends r.2.0)
      ]

  pub reaching_meets : Reaches g t (spot p p) →
      DeepMeets g.scene nodes counts (suc most_nested) 0 p
  unfolding DeepMeets
  reaching_meets r =
      elim ((goes g nodes h.ends counts before most_nested t quiet 0 1 (spot p p) start
      h.placed).0 r) [
        | inl m ↦ m
        | inr l ↦ absurd (false≢true (sym l.0 ∙ is ∙ l.1))
      ]

-- the character before the subject's end begins earlier
pub place_before_end : (scene : Scene) → StandsAlong scene → 0 < length scene.subject →
    place_before scene (length scene.subject) < length scene.subject
place_before_end scene along some =
    (along.backward (length scene.subject) (record {
      within = omega arith;
      between = λ utf. (omega arith, λ l. absurd (omega (arith, l)));
    }) some).0

module _ (scene : Scene) (graph : GraphParts) (read : List Node) (place : ℕ) (counts hit : Bool)
    (same : read ≡ graph.nodes)
    (is : counts ≡ (nat_lt place (length scene.subject) || graph.always))
    (inside : place ≤ length scene.subject)
    (before : 0 < length scene.subject →
    place_before scene (length scene.subject) < length scene.subject)
    (sound : hit ≡ true → DeepMeets scene read counts (suc most_nested) 0 place)
    (full : DeepMeets scene read counts (suc most_nested) 0 place → hit ≡ true) where
  or_more : (a b c d : Bool) → b ≡ (c || d) → (a || b) ≡ (a || c || d)
  or_more true b c d e = refl
  or_more false b c d e = e

  counted : (classes : ℕ) (t : Nested) → IsGraphOf classes graph t → (g : Setting) →
      g.scene ≡ scene → g.whole ≡ t →
      counts ≡ (nat_lt place (length g.subject) || has_lookbehind g || can_be_empty g)
  counted classes t h g e w =
      is
      ∙ or_more (nat_lt place (length scene.subject)) graph.always (holds_lookbehind t)
      (can_take_nothing g.options.match_unset_backref t)
      (h.always g.options.match_unset_backref)
      ∙ ap
      (λ u. nat_lt place (length scene.subject) || holds_lookbehind u
      || can_take_nothing g.options.match_unset_backref u) (sym w)
      ∙ ap
      (λ (s : Scene). nat_lt place (length s.subject) || holds_lookbehind g.whole
      || can_take_nothing g.options.match_unset_backref g.whole) (sym e)

  pub is_hit : IsHit scene graph place hit
  is_hit = record {
    hit_reaches = λ classes t h g e w y.
        meeting_reaches g classes graph.nodes t h.states w counts place (counted classes t h g e w)
        (subst (λ (s : Scene). place ≤ length s.subject) (sym e) inside)
        (λ off some. far g e some)
        (subst (λ s. DeepMeets s graph.nodes counts (suc most_nested) 0 place) (sym e)
        (subst (λ ns. DeepMeets scene ns counts (suc most_nested) 0 place) same (sound y)));
    reaching_hits = λ classes t h g e w r.
        full (subst (λ ns. DeepMeets scene ns counts (suc most_nested) 0 place) (sym same)
        (subst (λ s. DeepMeets s graph.nodes counts (suc most_nested) 0 place) e
        (reaching_meets g classes graph.nodes t h.states w counts place (counted classes t h g e w)
        (subst (λ (s : Scene). place ≤ length s.subject) (sym e) inside)
        (λ off some. far g e some) r)));
  }
    where
      far : (g : Setting) → g.scene ≡ scene → 0 < length g.subject →
          place_before g.scene (length g.subject) < length g.subject
      far g e =
          subst (λ (s : Scene). 0 < length s.subject →
          place_before s (length s.subject) < length s.subject) (sym e) before
