-- A search at one place goes the same way with start optimisations and without them.
use Rattle.std.proofs.Common.{◌≡◌, ℕ, zero, suc, ◌+◌, ◌-◌, ◌∙◌, Bool, true, false, ◌&&◌, ◌||◌, not, List, [], ◌∷◌}
use Rattle.std.proofs.Common.{take, drop, reverse, Option, Some, None, refl, ap}
use Rattle.std.specs.Prelude.{nat_le, nat_lt, ◌==◌, length, slice_range, option_map}
use mathlib.Core.Path.{fun_ext}
use Rattle.pat_tree.specs.declared.nodes.Item.{Item}
use Rattle.pat_tree.specs.declared.nodes.Item.TheVariants.{Char, AnyAll, NotNewline, Class}
use Rattle.pat_tree.specs.declared.nodes.AnchorKind.{AnchorKind}
use Rattle.pat_tree.specs.declared.nodes.AnchorKind.TheVariants.{Caret, Dollar, SubjectStart, SubjectEnd}
use Rattle.pat_tree.specs.declared.nodes.AnchorKind.TheVariants.{EndOrNewline, StartGiven, Word, NotWord}
use Rattle.pat_tree.specs.declared.nodes.Verb.{Verb}
use Rattle.pat_tree.specs.declared.nodes.Verb.TheVariants.{Accept, Fail, Commit, Prune, Skip, Then, Mark}
use Rattle.pat_tree.specs.Nested as tree
use Rattle.pat_tree.specs.Nested.{Nested, Row, Test, Other, Callout}
use Rattle.match_items.specs.Items.{one_less, is_none_left, agrees, characters, width, same_front, places_back}
use Rattle.match_items.specs.Items.{after_item, item_reaches, run_places, longest_run, run_reaches, after_ref}
use Rattle.match_items.specs.Items.{ref_reaches, holds, anchor_reaches, earliest}
use Rattle.pat_lengths.specs.Lengths.{SomeLengths}
use Rattle.frame_store.specs.Captures.{capture}
use Rattle.frame_store.specs.declared.registers.Span.{Span}
use Rattle.ordered_search.specs.Stream.{State, first_state, Ending, by_verb, skip, reached, note, state, step}
use Rattle.ordered_search.specs.Stream.{Stream, Search, ends, ◌▸◌, nothing, gives, ◌or_else◌, and_then, catch}
use Rattle.ordered_search.specs.Stream.{is_next_branch}
use Rattle.ordered_search.specs.Setting.{Setting, branch_lengths, verb_name, match_limit, held, hold, reach, reach_if}
use Rattle.ordered_search.specs.Tests.{move_to, goes_to, run_one, run_break, run_ref, run_anchor, offers, greedy}
use Rattle.ordered_search.specs.Tests.{offer_and, reluctant, lazy_run, run_many}
use Rattle.ordered_search.specs.Parts.{Searches, in_order, choices, branches, run_group, begun_at, ends_at, one_try}
use Rattle.ordered_search.specs.Parts.{tries, tries_within, run_behind, run_atomic, run_look, asserts, run_callout}
use Rattle.ordered_search.specs.Parts.{same_text, skip_to, backs, run_verb, turn, run_repeat, returns, run_call}
use Rattle.ordered_search.specs.Run.{level, levels, levels_behind, level_test, level_other, run}
use Rattle.ordered_search.specs.PlaceAnswer.{Walked, answers, with_note, decision, walk, place_answer}
use Rattle.search_starts.specs.StartLaw.{with_no_start_optimize}

module _ (b : Bool) (g : Setting) where
  abbrev other : Setting
  other = with_no_start_optimize b g

  same_item : (item : Item) (p : ℕ) → after_item other.scene item p ≡ after_item g.scene item p
  same_item (Char c caseless) p = refl
  same_item AnyAll p = refl
  same_item NotNewline p = refl
  same_item (Class n) p = refl

  same_reaches : (item : Item) (p : ℕ) → item_reaches other.scene item p ≡ item_reaches g.scene item p
  same_reaches (Char c caseless) p = refl
  same_reaches AnyAll p = refl
  same_reaches NotNewline p = refl
  same_reaches (Class n) p = refl

  same_places : (item : Item) (n : ℕ) (most : Option ℕ) (p : ℕ) →
      run_places other.scene item n most p ≡ run_places g.scene item n most p
  unfolding run_places
  same_places item zero most p = refl
  same_places item (suc n) most p =
      ap (λ (f : ℕ → List ℕ). elim (is_none_left most) [
        | true ↦ []
        | false ↦ elim (after_item other.scene item p) [ None ↦ [] | Some q ↦ q ∷ f q ]
      ]) (fun_ext (same_places item n (one_less most)))
      ∙ ap (λ (o : Option ℕ). elim (is_none_left most) [
        | true ↦ []
        | false ↦ elim o [ None ↦ [] | Some q ↦ q ∷ run_places g.scene item n (one_less most) q ]
      ]) (same_item item p)

  same_run_reaches : (item : Item) (most : Option ℕ) (p : ℕ) (qs : List ℕ) →
      run_reaches other.scene item most p qs ≡ run_reaches g.scene item most p qs
  unfolding run_reaches
  same_run_reaches item most p [] = ap (λ c. not (is_none_left most) && c) (same_reaches item p)
  same_run_reaches item most p (q ∷ qs) =
      ap (λ c. c || run_reaches other.scene item (one_less most) q qs) (same_reaches item p)
      ∙ ap (λ c. item_reaches g.scene item p || c) (same_run_reaches item (one_less most) q qs)

  same_back : (n p : ℕ) → places_back other.scene n p ≡ places_back g.scene n p
  unfolding places_back
  same_back zero p = refl
  same_back (suc n) zero = refl
  same_back (suc n) (suc p) = ap (λ (ps : List ℕ). suc p ∷ ps) (same_back n _)

  same_holds : (kind : AnchorKind) (p : ℕ) → holds other.scene kind p ≡ holds g.scene kind p
  same_holds (Caret multi) p = refl
  same_holds (Dollar true end_only) p = refl
  same_holds (Dollar false true) p = refl
  same_holds (Dollar false false) p = refl
  same_holds SubjectStart p = refl
  same_holds SubjectEnd p = refl
  same_holds EndOrNewline p = refl
  same_holds StartGiven p = refl
  same_holds (Word ucp) p = refl
  same_holds (NotWord ucp) p = refl

  same_anchor_reaches : (kind : AnchorKind) (p : ℕ) → anchor_reaches other.scene kind p ≡ anchor_reaches g.scene kind p
  same_anchor_reaches (Caret multi) p = refl
  same_anchor_reaches (Dollar true end_only) p = refl
  same_anchor_reaches (Dollar false true) p = refl
  same_anchor_reaches (Dollar false false) p = refl
  same_anchor_reaches SubjectStart p = refl
  same_anchor_reaches SubjectEnd p = refl
  same_anchor_reaches EndOrNewline p = refl
  same_anchor_reaches StartGiven p = refl
  same_anchor_reaches (Word ucp) p = refl
  same_anchor_reaches (NotWord ucp) p = refl

  same_earliest : (kind : AnchorKind) (p early : ℕ) → earliest other.scene kind p early ≡ earliest g.scene kind p early
  same_earliest (Caret multi) p early = refl
  same_earliest (Dollar multi end_only) p early = refl
  same_earliest SubjectStart p early = refl
  same_earliest SubjectEnd p early = refl
  same_earliest EndOrNewline p early = refl
  same_earliest StartGiven p early = refl
  same_earliest (Word ucp) p early = refl
  same_earliest (NotWord ucp) p early = refl

  same_reach_if : (c : Bool) (s : State) (x : Stream) → reach_if other c s x ≡ reach_if g c s x
  unfolding reach_if reach
  same_reach_if true s x = refl
  same_reach_if false s x = refl

  same_one : (item : Item) (s : State) → run_one other item s ≡ run_one g item s
  unfolding run_one
  same_one item s =
      same_reach_if _ s _
      ∙ ap (λ c. reach_if g c s (goes_to (after_item other.scene item s.place) s)) (same_reaches item s.place)
      ∙ ap (λ o. reach_if g (item_reaches g.scene item s.place) s (goes_to o s)) (same_item item s.place)

  same_break : (s : State) → run_break other s ≡ run_break g s
  unfolding run_break
  same_break s = same_reach_if _ s _

  same_agrees : (caseless : Bool) (x y : ℕ) → agrees other.scene caseless x y ≡ agrees g.scene caseless x y
  same_agrees true x y = refl
  same_agrees false x y = refl

  fronts : (caseless : Bool) (xs ys : List ℕ) → same_front other.scene caseless xs ys ≡ same_front g.scene caseless xs
      ys
  fronts caseless [] ys = refl
  fronts caseless (x ∷ xs) [] = refl
  fronts caseless (x ∷ xs) (y ∷ ys) =
      ap (λ c. c && same_front other.scene caseless xs ys) (same_agrees caseless x y)
      ∙ ap (λ c. agrees g.scene caseless x y && c) (fronts caseless xs ys)

  same_after_ref : (from to : ℕ) (caseless : Bool) (p : ℕ) →
      after_ref other.scene from to caseless p ≡ after_ref g.scene from to caseless p
  same_after_ref from to caseless p =
      let xs : List ℕ = characters g.scene (slice_range g.subject from to) in
      let ys : List ℕ = characters g.scene (drop p g.subject) in
      ap (λ c. elim (c && nat_le (length xs) (length ys)) as (λ _. Option ℕ) [
        | true ↦ Some (p + width g.scene (take (length xs) ys))
        | false ↦ None
      ]) (fronts caseless xs ys)

  same_ref_reaches : (from to : ℕ) (caseless : Bool) (p : ℕ) →
      ref_reaches other.scene from to caseless p ≡ ref_reaches g.scene from to caseless p
  same_ref_reaches from to caseless p =
      let xs : List ℕ = characters g.scene (slice_range g.subject from to) in
      let ys : List ℕ = characters g.scene (drop p g.subject) in
      ap (λ c. c && nat_lt (length ys) (length xs)) (fronts caseless xs ys)

  same_ref : (ns : List ℕ) (caseless : Bool) (s : State) → run_ref other ns caseless s ≡ run_ref g ns caseless s
  unfolding run_ref
  same_ref [] caseless s = refl
  same_ref (n ∷ ns) caseless s = by_capture (capture s.caps n) (same_ref ns caseless s)
    where
      by_capture : (o : Option Span) → run_ref other ns caseless s ≡ run_ref g ns caseless s →
          ◌≡◌ {A = Stream} (elim o [
            | None ↦ run_ref other ns caseless s
            | Some span ↦ reach_if other (ref_reaches other.scene span.from span.to caseless s.place) s
                (goes_to (after_ref other.scene span.from span.to caseless s.place) s)
          ])
          (elim o [
            | None ↦ run_ref g ns caseless s
            | Some span ↦ reach_if g (ref_reaches g.scene span.from span.to caseless s.place) s
                (goes_to (after_ref g.scene span.from span.to caseless s.place) s)
          ])
      by_capture None e = e
      by_capture (Some span) e =
          same_reach_if _ s _
          ∙ ap (λ c. reach_if g c s (goes_to (after_ref other.scene span.from span.to caseless s.place) s))
          (same_ref_reaches span.from span.to caseless s.place)
          ∙ ap (λ o. reach_if g (ref_reaches g.scene span.from span.to caseless s.place) s (goes_to o s))
          (same_after_ref span.from span.to caseless s.place)

  same_anchor : (kind : AnchorKind) (s : State) → run_anchor other kind s ≡ run_anchor g kind s
  unfolding run_anchor
  same_anchor kind s =
      let at : ℕ → State = λ e. record s { early = e } in
      let early = earliest g.scene kind s.place s.early in
      ap (λ e. reach_if other (anchor_reaches other.scene kind s.place) (at e)
      (elim (holds other.scene kind s.place) [ true ↦ gives reached (at e) | false ↦ nothing ]))
      (same_earliest kind s.place s.early)
      ∙ same_reach_if _ (at early) _
      ∙ ap (λ c. reach_if g c (at early) (elim (holds other.scene kind s.place)
      [ true ↦ gives reached (at early) | false ↦ nothing ]))
      (same_anchor_reaches kind s.place)
      ∙ ap (λ c. reach_if g (anchor_reaches g.scene kind s.place) (at early)
      (elim c [ true ↦ gives reached (at early) | false ↦ nothing ]))
      (same_holds kind s.place)

  -- Repeats of one item.

  same_offers : (ps : List ℕ) (s : State) → offers other ps s ≡ offers g ps s
  unfolding offers hold held
  same_offers [] s = refl
  same_offers (p ∷ []) s = refl
  same_offers (p ∷ q ∷ ps) s =
      ap (λ x. step ▸ (hold g reached (move_to p s) or_else x)) (same_offers (q ∷ ps) s)

  same_offer_and : (c : Bool) (s : State) (x : Stream) → offer_and other c s x ≡ offer_and g c s x
  unfolding hold held
  same_offer_and true s x = refl
  same_offer_and false s x = refl

  same_reluctant : (item : Item) (left : Option ℕ) (ps : List ℕ) (s : State) →
      reluctant other item left ps s ≡ reluctant g item left ps s
  unfolding reluctant
  same_reluctant item left [] s = refl
  same_reluctant item left (p ∷ ps) s =
      same_offer_and (is_none_left left) (move_to p s) _
      ∙ ap (λ x. offer_and g (is_none_left left) (move_to p s) x)
      (same_reach_if _ s _
      ∙ ap (λ c. reach_if g c s (reluctant other item (one_less left) ps s)) (same_reaches item p)
      ∙ ap (λ x. reach_if g (item_reaches g.scene item p) s x) (same_reluctant item (one_less left) ps s))

  same_greedy : (item : Item) (low : ℕ) (high : Option ℕ) (ps : List ℕ) (s : State) →
      greedy other item low high ps s ≡ greedy g item low high ps s
  unfolding greedy
  same_greedy item low high ps s =
      same_reach_if _ s _
      ∙ ap (λ c. reach_if g c s (offers other (reverse (drop low (s.place ∷ ps))) s))
      (same_run_reaches item high s.place ps)
      ∙ ap (λ x. reach_if g (run_reaches g.scene item high s.place ps) s x)
      (same_offers (reverse (drop low (s.place ∷ ps))) s)

  same_lazy : (item : Item) (low : ℕ) (high : Option ℕ) (ps : List ℕ) (s : State) →
      lazy_run other item low high ps s ≡ lazy_run g item low high ps s
  unfolding lazy_run
  same_lazy item low high ps s =
      let left : Option ℕ = option_map (λ n. n - low) high in
      same_reach_if _ s _
      ∙ ap (λ c. reach_if g c s (reluctant other item left (drop low (s.place ∷ ps)) s))
      (same_run_reaches item (Some low) s.place (take low ps))
      ∙ ap (λ x. reach_if g (run_reaches g.scene item (Some low) s.place (take low ps)) s x)
      (same_reluctant item left (drop low (s.place ∷ ps)) s)

  same_many : (item : Item) (low : ℕ) (high : Option ℕ) (lazily : Bool) (s : State) →
      run_many other item low high lazily s ≡ run_many g item low high lazily s
  unfolding run_many
  same_many item low high false s =
      ap (λ ps. greedy other item low high ps s) (same_places item (length g.subject) high s.place)
      ∙ same_greedy item low high (longest_run g.scene item high s.place) s
  same_many item low high true s =
      ap (λ ps. lazy_run other item low high ps s) (same_places item (length g.subject) high s.place)
      ∙ same_lazy item low high (longest_run g.scene item high s.place) s

  -- Branches and lookarounds.

  same_choices : (fs : List Search) (s : State) → choices other fs s ≡ choices g fs s
  unfolding choices held
  same_choices [] s = refl
  same_choices (f ∷ []) s = refl
  same_choices (f ∷ f' ∷ fs) s =
      ap (λ x. step ▸ (held g 1 s (λ t. catch is_next_branch (f t)) or_else x)) (same_choices (f' ∷ fs) s)

  same_branches : (fs : List Search) → branches other fs ≡ branches g fs
  unfolding branches
  same_branches [] = refl
  same_branches (f ∷ []) = refl
  same_branches (f ∷ f' ∷ fs) = fun_ext (same_choices (f ∷ f' ∷ fs))

  same_row : (fs fs' : List Search) → fs ≡ fs' → branches other fs ≡ branches g fs'
  same_row fs fs' e = same_branches fs ∙ ap (branches g) e

  same_group : (number : Option ℕ) (f : Search) (s : State) → run_group other number f s ≡ run_group g number f s
  unfolding run_group hold held
  same_group None f s = refl
  same_group (Some n) f s = refl

  same_tries : (ps : List ℕ) (f : Search) (s : State) → tries other ps f s ≡ tries g ps f s
  unfolding tries held
  same_tries [] f s = refl
  same_tries (p ∷ []) f s = refl
  same_tries (p ∷ q ∷ ps) f s =
      ap (λ x. step ▸ (held g 1 s (λ t. and_then (f (begun_at p t)) (ends_at s.place)) or_else x))
      (same_tries (q ∷ ps) f s)

  same_within : (least : ℕ) (most : Option ℕ) (f : Search) (s : State) →
      tries_within other least most f s ≡ tries_within g least most f s
  unfolding tries_within
  same_within least None f s = refl
  same_within least (Some most) f s =
      ap (λ (ps : List ℕ). elim (least == most) [
        | true ↦ one_try (reverse (drop least ps)) f s
        | false ↦ tries other (reverse (drop least ps)) f s
      ]) (same_back most s.place)
      ∙ ap (λ x. elim (least == most) [
        | true ↦ one_try (reverse (drop least (places_back g.scene most s.place))) f s
        | false ↦ x
      ])
      (same_tries (reverse (drop least (places_back g.scene most s.place))) f s)

  same_behind : (lengths : SomeLengths) (f : Search) → run_behind other lengths f ≡ run_behind g lengths f
  unfolding run_behind
  same_behind None f = refl
  same_behind (Some a) f = fun_ext (same_within a.least a.most f)

  same_atomic : (f : Search) (s : State) → run_atomic other f s ≡ run_atomic g f s
  unfolding run_atomic hold held
  same_atomic f s = refl

  same_look : (positive once : Bool) (f : Search) (s : State)
      → run_look other positive once f s ≡ run_look g positive once f s
  unfolding run_look hold held
  same_look true true f s = refl
  same_look true false f s = refl
  same_look false once f s = refl

  same_asserts : (positive : Bool) (x yes' no' : Search) (s : State) →
      asserts other positive x yes' no' s ≡ asserts g positive x yes' no' s
  unfolding asserts held
  same_asserts true x yes' no' s = refl
  same_asserts false x yes' no' s = refl

  same_skip_to : (n : ℕ) (ms : List (ℕ × ℕ)) → skip_to other n ms ≡ skip_to g n ms
  same_skip_to n [] = refl
  same_skip_to n (m ∷ ms) =
      ap (λ (e : Ending). elim (same_text (verb_name g n) (verb_name g m.0)) [ true ↦ by_verb (skip m.1) | false ↦ e ])
      (same_skip_to n ms)

  same_verb : (v : Verb) (s : State) → run_verb other v s ≡ run_verb g v s
  unfolding run_verb backs hold held
  same_verb (Accept None) s = refl
  same_verb (Accept (Some n)) s = refl
  same_verb (Fail None) s = refl
  same_verb (Fail (Some n)) s = refl
  same_verb (Mark n) s = refl
  same_verb (Commit n) s = refl
  same_verb (Prune n) s = refl
  same_verb (Then n) s = refl
  same_verb (Skip None) s = refl
  same_verb (Skip (Some n)) s = ap (λ e. backs g e s) (same_skip_to n s.passed)

  same_callout : (c : Callout) (f : Search) (s : State) → run_callout other c f s ≡ run_callout g c f s
  unfolding run_callout
  same_callout c f s = refl

  module _ (below : Searches) where
    same_repeat : (body : Nested) (low : ℕ) (high : Option ℕ) (lazily : Bool) (s : State) →
        run_repeat other below body low high lazily s ≡ run_repeat g below body low high lazily s
    unfolding run_repeat turn hold held
    same_repeat body (suc low) high lazily s = refl
    same_repeat body zero (Some zero) lazily s = refl
    same_repeat body zero None true s = refl
    same_repeat body zero None false s = refl
    same_repeat body zero (Some (suc n)) true s = refl
    same_repeat body zero (Some (suc n)) false s = refl

    same_call : (n : ℕ) (s : State) → run_call other below n s ≡ run_call g below n s
    unfolding run_call returns held
    same_call n s = refl

    mutual
      unfolding level

      same_level : (t : Nested) (s : State) → level other below t s ≡ level g below t s
      same_level tree.empty s = refl
      same_level (tree.one item) s = same_one item s
      same_level tree.line_break s = same_break s
      same_level (tree.seq ts) s = ap (λ fs. in_order fs s) (same_levels ts)
      same_level (tree.group number ts) s =
          ap (λ f. run_group other number f s) (same_row _ _ (same_levels ts))
          ∙ same_group number (branches g (levels g below ts)) s
      same_level (tree.repeat body low high lazily) s = same_repeat body low high lazily s
      same_level (tree.one_repeat item low high lazily) s = same_many item low high lazily s
      same_level (tree.atomic ts) s =
          ap (λ f. run_atomic other f s) (same_row _ _ (same_levels ts))
          ∙ same_atomic (branches g (levels g below ts)) s
      same_level (tree.look true positive once ts) s =
          ap (λ f. run_look other positive once f s) (same_row _ _ (same_levels ts))
          ∙ same_look positive once (branches g (levels g below ts)) s
      same_level (tree.look false positive once ts) s =
          ap (λ f. run_look other positive once f s) (same_row _ _ (same_levels_behind ts))
          ∙ same_look positive once (branches g (levels_behind g below ts)) s
      same_level (tree.condition test first second) s =
          ap (λ f. level_test other below test f (level_other other below second) s) (fun_ext (same_level first))
          ∙ ap (λ f. level_test other below test (level g below first) f s) (fun_ext (same_other second))
          ∙ same_test test (level g below first) (level_other g below second) s
      same_level (tree.call n) s = same_call n s
      same_level (tree.ref ns caseless) s = same_ref ns caseless s
      same_level (tree.anchor kind) s = same_anchor kind s
      same_level tree.keep_out s = refl
      same_level (tree.verb v) s = same_verb v s
      same_level (tree.callout c) s = same_callout c (gives reached) s

      same_levels : (ts : Row) → levels other below ts ≡ levels g below ts
      same_levels tree.none = refl
      same_levels (tree.more t ts) =
          ap (λ (f : Search). f ∷ levels other below ts) (fun_ext (same_level t))
          ∙ ap (λ (fs : List Search). level g below t ∷ fs) (same_levels ts)

      same_levels_behind : (ts : Row) → levels_behind other below ts ≡ levels_behind g below ts
      same_levels_behind tree.none = refl
      same_levels_behind (tree.more t ts) =
          ap (λ (f : Search). run_behind other (branch_lengths g t) f ∷ levels_behind other below ts)
          (fun_ext (same_level t))
          ∙ ap (λ (f : Search). f ∷ levels_behind other below ts) (same_behind (branch_lengths g t) (level g below t))
          ∙ ap (λ (fs : List Search). run_behind g (branch_lengths g t) (level g below t) ∷ fs) (same_levels_behind ts)

      same_test : (test : Test) (yes' no' : Search) (s : State) →
          level_test other below test yes' no' s ≡ level_test g below test yes' no' s
      same_test (tree.any_set ns) yes' no' s = refl
      same_test tree.in_call yes' no' s = refl
      same_test (tree.in_call_of ns) yes' no' s = refl
      same_test tree.never yes' no' s = refl
      same_test (tree.assert true positive once ts) yes' no' s =
          ap (λ f. asserts other positive f yes' no' s) (same_row _ _ (same_levels ts))
          ∙ same_asserts positive (branches g (levels g below ts)) yes' no' s
      same_test (tree.assert false positive once ts) yes' no' s =
          ap (λ f. asserts other positive f yes' no' s) (same_row _ _ (same_levels_behind ts))
          ∙ same_asserts positive (branches g (levels_behind g below ts)) yes' no' s
      same_test (tree.called c test) yes' no' s =
          ap (λ f. run_callout other c f s) (fun_ext (same_test test yes' no'))
          ∙ same_callout c (level_test g below test yes' no') s

      same_other : (o : Other) (s : State) → level_other other below o s ≡ level_other g below o s
      same_other tree.no_other s = refl
      same_other (tree.other t) s = same_level t s

  same_run : (d : ℕ) → run other d ≡ run g d
  unfolding run
  same_run zero = refl
  same_run (suc d) =
      fun_ext (λ t. fun_ext (λ s.
      same_level (run other d) t s ∙ ap (λ below. level g below t s) (same_run d)))

  same_walk : (n : ℕ) (x : Stream) → walk other n x ≡ walk g n x
  unfolding walk
  same_walk n (ends e) = refl
  same_walk n (note k ▸ x) = ap (with_note k) (same_walk n x)
  same_walk n (state how s ▸ x) =
      ap (λ (w : Walked). elim (decision g how s) [ None ↦ w | Some a ↦ answers a ]) (same_walk n x)
  same_walk zero (step ▸ x) = refl
  same_walk (suc n) (step ▸ x) = same_walk n x

  -- what a place answers
  pub same_place : (p : ℕ) → place_answer other p ≡ place_answer g p
  same_place p =
      same_walk (match_limit g) (run other (match_limit g + 1) g.whole (first_state g.groups p))
      ∙ ap (λ f. walk g (match_limit g) (f g.whole (first_state g.groups p))) (same_run (match_limit g + 1))
