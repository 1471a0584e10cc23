-- A search for a pattern that goes by the place alone follows one from a state there that holds
-- more units.
use Rattle.std.proofs.Common.{refl, sym, ap₂, subst, ◌≡◌, ℕ, zero, suc, ◌+◌, ◌-◌, ◌≤◌, ◌&&◌, ◌==◌, Bool, true, false}
use Rattle.std.proofs.Common.{List, [], ◌∷◌, drop, reverse, Option, Some, None, arith}
use Rattle.std.specs.Prelude.{nat_le, option_map}
use Rattle.std.proofs.lemmas.Bool.Decides.{nat_tests}
use Rattle.pat_tree.specs.declared.options.PartialMode.TheVariants.{Off}
use Rattle.pat_tree.specs.declared.nodes.Item.{Item}
use Rattle.pat_tree.specs.declared.nodes.AnchorKind.{AnchorKind}
use Rattle.pat_tree.specs.Nested as tree
use Rattle.pat_tree.specs.Nested.{Nested, Row, Test, Other}
use Rattle.match_items.specs.Items.{one_less, is_none_left, places_back, after_item, after_break, longest_run}
use Rattle.match_items.specs.Items.{earliest, holds}
use Rattle.pat_lengths.specs.Lengths.{SomeLengths}
use Rattle.ordered_search.specs.Stream.{State, by_halt, too_many_units, cut, How, reached, Stream, Search, ends}
use Rattle.ordered_search.specs.Stream.{nothing, gives, and_then, catch, no_ending, is_next_branch, fails_alone}
use Rattle.ordered_search.specs.Stream.{fails_inside, captured}
use Rattle.ordered_search.specs.Setting.{Setting, branch_lengths, held, hold, reach, reach_if}
use Rattle.ordered_search.specs.Tests.{move_to, goes_to, run_one, run_break, run_anchor, offers, greedy, offer_and}
use Rattle.ordered_search.specs.Tests.{reluctant, lazy_run, run_many}
use Rattle.ordered_search.specs.Parts.{Searches, in_order, choices, branches, run_group, begun_at, ends_at, one_try}
use Rattle.ordered_search.specs.Parts.{tries, tries_within, run_behind, run_atomic, run_look, asserts, is_over, turn}
use Rattle.ordered_search.specs.Parts.{run_repeat, back_to, forget_passed}
use Rattle.ordered_search.specs.Run.{level, levels, levels_behind, level_test, level_other, run}
use Rattle.ordered_search.specs.Plain.{IsPlain, ArePlain, IsPlainTest, IsPlainOther}
use Rattle.ordered_search.proofs.FollowStreams.{IsNear, Follows, at_limit, at_end, at_step, Keeps, follows_nothing}
use Rattle.ordered_search.proofs.FollowStreams.{follows_gives, follows_if, follows_or_else, follows_each}
use Rattle.ordered_search.proofs.FollowStreams.{follows_and_then, follows_decide, follows_catch}

abbrev pub AllKeep : List Search → Type 0
AllKeep [] = Unit {0}
AllKeep (f ∷ fs) = Keeps f × AllKeep fs

abbrev pub KeepsBelow : Searches → Type 0
KeepsBelow below = (t : Nested) → IsPlain t → Keeps (below t)

-- what goes by the place
pub follows_at : {b : Bool} (f : ℕ → Stream) (x : Stream) (t s : State) → IsNear t s
    → Follows b (f s.place) x → Follows b (f t.place) x
follows_at {b = b} f x t s near h = subst (λ p. Follows b (f p) x) (sym near.place) h

pub near_moved : (p : ℕ) (t s : State) → t.units ≤ s.units → IsNear (move_to p t) (move_to p s)
near_moved p t s few = record { place = refl; units = few }

near_begun : (p : ℕ) (t s : State) → IsNear t s → IsNear (begun_at p t) (begun_at p s)
near_begun p t s near = record { place = refl; units = near.units }

near_back : (t s u v : State) → IsNear t s → IsNear u v → IsNear (back_to t u) (back_to s v)
near_back t s u v near inner = record { place = near.place; units = inner.units }

near_forgotten : (t s u v : State) → IsNear u v → IsNear (forget_passed t u) (forget_passed s v)
near_forgotten t s u v inner = record { place = inner.place; units = inner.units }

pub near_captured : (n p q : ℕ) (u v : State) → IsNear u v
    → IsNear (captured n p u) (captured n q v)
near_captured n p q u v inner = record { place = inner.place; units = inner.units }

follows_goes : (o : Option ℕ) (t s : State) → t.units ≤ s.units
    → Follows false (goes_to o t) (goes_to o s)
follows_goes None t s few = follows_nothing
follows_goes (Some p) t s few = follows_gives reached (move_to p t) (move_to p s)
    (near_moved p t s few)

pub keeps_in_order : (fs : List Search) → AllKeep fs → Keeps (in_order fs)
unfolding in_order
keeps_in_order [] h t s near = follows_gives reached t s near
keeps_in_order (f ∷ fs) h t s near = follows_and_then (h.0 t s near) (keeps_in_order fs h.1)

keeps_ends_at : (p : ℕ) → Keeps (ends_at p)
keeps_ends_at p t s near =
    follows_at (λ q. elim (q == p) [ true ↦ gives reached t | false ↦ nothing ]) (ends_at p s) t s
    near
    (follows_if (s.place == p) (follows_gives reached t s near) follows_nothing)

-- where a lookbehind ends
follows_ends : (t s : State) → IsNear t s → (u v : State) → IsNear u v
    → Follows false (ends_at t.place u) (ends_at s.place v)
follows_ends t s near u v inner = follows_at (λ p. ends_at p u) (ends_at s.place v) t s near
    (keeps_ends_at s.place u v inner)

keeps_one_try : (ps : List ℕ) (f : Search) → Keeps f → Keeps (one_try ps f)
unfolding one_try
keeps_one_try [] f h t s near = follows_nothing
keeps_one_try (p ∷ ps) f h t s near = h (begun_at p t) (begun_at p s) (near_begun p t s near)

over_same : (low : ℕ) (high : Option ℕ) (t s u v : State) → IsNear t s → IsNear u v
    → is_over low high t u ≡ is_over low high s v
over_same low None t s u v near inner = ap₂ (λ p q. nat_le low 1 && (p == q)) near.place inner.place
over_same low (Some n) t s u v near inner = refl

module _ (g : Setting) (off : g.matching.«partial» ≡ Off) where
  unreached : (c : Bool) (s : State) (x : Stream) → reach_if g c s x ≡ x
  unfolding reach_if reach
  unreached true s x = rw off
  unreached false s x = refl

  pub follows_reach : {b : Bool} (c d : Bool) (t s : State) (y x : Stream) → Follows b y x
      → Follows b (reach_if g c t y) (reach_if g d s x)
  follows_reach {b = b} c d t s y x h =
      subst (λ z. Follows b z (reach_if g d s x)) (sym (unreached c t y))
      (subst (λ z. Follows b y z) (sym (unreached d s x)) h)

  -- from the states that hold k units more
  pub held_apart : {b : Bool} (k : ℕ) (t s : State) (f h : Search) → t.units ≤ s.units
      → Follows b (f (record t { units = t.units + k })) (h (record s { units = s.units + k }))
      → Follows b (held g k t f) (held g k s h)
  unfolding held
  held_apart {b = b} k t s f h few along =
      by_test (nat_le (t.units + k) g.matching.frame_limit)
      (nat_le (s.units + k) g.matching.frame_limit) (λ e. grind (arith, nat_tests))
    where
      by_test : (c d : Bool) → (d ≡ true → c ≡ true)
          → Follows b (elim c [
            | true ↦ f (record t { units = t.units + k })
            | false
                ↦ ends (by_halt too_many_units)
          ])
          (elim d [
            | true ↦ h (record s { units = s.units + k })
            | false
                ↦ ends (by_halt too_many_units)
          ])
      by_test c false implied = at_limit
      by_test true true implied = along
      by_test false true implied = absurd (cc (implied refl))

  pub follows_held : {b : Bool} (k : ℕ) (t s : State) (f h : Search) → IsNear t s
      → ((u v : State) → IsNear u v → Follows b (f u) (h v))
      → Follows b (held g k t f) (held g k s h)
  follows_held k t s f h near along =
      let few = near.units in
      held_apart k t s f h few (along _ _ (record { place = near.place; units = omega arith }))

  pub follows_hold : {b : Bool} (how : How) (t s : State) → IsNear t s
      → Follows b (hold g how t) (hold g how s)
  unfolding hold
  follows_hold how t s near = follows_held 1 t s (gives how) (gives how) near (follows_gives how)

  keeps_one : (item : Item) → Keeps (run_one g item)
  unfolding run_one
  keeps_one item t s near =
      follows_reach _ _ t s _ _ (follows_at (λ p. goes_to (after_item g.scene item p) t) _ t s near
      (follows_goes (after_item g.scene item s.place) t s near.units))

  keeps_break : Keeps (run_break g)
  unfolding run_break
  keeps_break t s near =
      follows_reach _ _ t s _ _ (follows_at (λ p. goes_to (after_break g.scene p) t) _ t s near
      (follows_goes (after_break g.scene s.place) t s near.units))

  keeps_anchor : (kind : AnchorKind) → Keeps (run_anchor g kind)
  unfolding run_anchor
  keeps_anchor kind t s near =
      let u : State = record t { early = earliest g.scene kind t.place t.early } in
      let v : State = record s { early = earliest g.scene kind s.place s.early } in
      follows_reach _ _ u v _ _
      (follows_at (λ p. elim (holds g.scene kind p) [ true ↦ gives reached u | false ↦ nothing ]) _
      t s near
      (follows_if (holds g.scene kind s.place)
      (follows_gives reached u v (record { place = near.place; units = near.units }))
      follows_nothing))

  follows_offers : (ps : List ℕ) (t s : State) → t.units ≤ s.units
      → Follows false (offers g ps t) (offers g ps s)
  unfolding offers
  follows_offers [] t s few = follows_nothing
  follows_offers (p ∷ []) t s few = at_step (follows_gives reached _ _ (near_moved p t s few))
  follows_offers (p ∷ q ∷ ps) t s few =
      at_step (follows_or_else (follows_hold reached _ _ (near_moved p t s few))
      (follows_offers (q ∷ ps) t s few))

  follows_offer_and : (c : Bool) (t s : State) (y x : Stream) → IsNear t s → Follows false y x
      → Follows false (offer_and g c t y) (offer_and g c s x)
  follows_offer_and true t s y x near h = at_step (follows_gives reached t s near)
  follows_offer_and false t s y x near h =
      at_step (follows_or_else (follows_hold reached t s near) h)

  follows_reluctant : (item : Item) (left : Option ℕ) (ps : List ℕ) (t s : State)
      → t.units ≤ s.units → Follows false (reluctant g item left ps t) (reluctant g item left ps s)
  unfolding reluctant
  follows_reluctant item left [] t s few = follows_nothing
  follows_reluctant item left (p ∷ ps) t s few =
      follows_offer_and (is_none_left left) _ _ _ _ (near_moved p t s few)
      (follows_reach _ _ t s _ _ (follows_reluctant item (one_less left) ps t s few))

  keeps_many : (item : Item) (low : ℕ) (high : Option ℕ) (lazily : Bool)
      → Keeps (run_many g item low high lazily)
  unfolding run_many greedy lazy_run
  keeps_many item low high false t s near =
      follows_reach _ _ t s _ _
      (follows_at (λ p. offers g (reverse (drop low (p ∷ longest_run g.scene item high p))) t) _ t s
      near
      (follows_offers (reverse (drop low (s.place ∷ longest_run g.scene item high s.place))) t s
      near.units))
  keeps_many item low high true t s near =
      follows_reach _ _ t s _ _
      (follows_at (λ p. reluctant g item (option_map (λ n. n - low) high)
      (drop low (p ∷ longest_run g.scene item high p)) t) _ t s near
      (follows_reluctant item (option_map (λ n. n - low) high)
      (drop low (s.place ∷ longest_run g.scene item high s.place)) t s near.units))

  follows_caught : (f : Search) → Keeps f → (u v : State) → IsNear u v
      → Follows false (catch is_next_branch (f u)) (catch is_next_branch (f v))
  follows_caught f h u v inner = follows_catch is_next_branch refl (h u v inner)

  keeps_choices : (fs : List Search) → AllKeep fs → Keeps (choices g fs)
  unfolding choices
  keeps_choices [] h t s near = follows_nothing
  keeps_choices (f ∷ []) h t s near = at_step (follows_caught f h.0 t s near)
  keeps_choices (f ∷ f' ∷ fs) h t s near =
      at_step (follows_or_else (follows_held 1 t s _ _ near (follows_caught f h.0))
      (keeps_choices (f' ∷ fs) h.1 t s near))

  keeps_branches : (fs : List Search) → AllKeep fs → Keeps (branches g fs)
  unfolding branches
  keeps_branches [] h t s near = follows_nothing
  keeps_branches (f ∷ []) h t s near = h.0 t s near
  keeps_branches (f ∷ f' ∷ fs) h t s near = keeps_choices (f ∷ f' ∷ fs) h t s near

  follows_tried : (p : ℕ) (f : Search) → Keeps f → (t s : State) → IsNear t s → (u v : State)
      → IsNear u v
      → Follows false (and_then (f (begun_at p u)) (ends_at t.place))
      (and_then (f (begun_at p v)) (ends_at s.place))
  follows_tried p f h t s near u v inner = follows_and_then (h _ _ (near_begun p u v inner))
      (follows_ends t s near)

  keeps_tries : (ps : List ℕ) (f : Search) → Keeps f → Keeps (tries g ps f)
  unfolding tries
  keeps_tries [] f h t s near = follows_nothing
  keeps_tries (p ∷ []) f h t s near = at_step (follows_tried p f h t s near t s near)
  keeps_tries (p ∷ q ∷ ps) f h t s near =
      at_step (follows_or_else (follows_held 1 t s _ _ near (follows_tried p f h t s near))
      (keeps_tries (q ∷ ps) f h t s near))

  keeps_tries_within : (least : ℕ) (most : Option ℕ) (f : Search) → Keeps f
      → Keeps (tries_within g least most f)
  unfolding tries_within
  keeps_tries_within least None f h t s near = follows_nothing
  keeps_tries_within least (Some most) f h t s near =
      let places = reverse (drop least (places_back g.scene most s.place)) in
      follows_at (λ p. elim (least == most) [
        | true ↦ one_try (reverse (drop least (places_back g.scene most p))) f t
        | false
            ↦ tries g (reverse (drop least (places_back g.scene most p))) f t
      ])
      _ t s near
      (follows_if (least == most) (keeps_one_try places f h t s near)
      (keeps_tries places f h t s near))

  keeps_behind : (lengths : SomeLengths) (f : Search) → Keeps f → Keeps (run_behind g lengths f)
  unfolding run_behind
  keeps_behind None f h t s near = follows_nothing
  keeps_behind (Some a) f h t s near = keeps_tries_within a.least a.most f h t s near

  keeps_group : (n : Option ℕ) (f : Search) → Keeps f → Keeps (run_group g n f)
  unfolding run_group
  keeps_group None f h t s near = h t s near
  keeps_group (Some n) f h t s near =
      follows_held 1 t s _ _ near (λ u v inner.
      follows_each (h u v inner)
      (λ how w z last. follows_hold how _ _ (near_captured n t.place s.place w z last)))

  keeps_atomic : (f : Search) → Keeps f → Keeps (run_atomic g f)
  unfolding run_atomic
  keeps_atomic f h t s near =
      follows_held 1 t s _ _ near (λ u v inner.
      follows_decide no_ending refl (h u v inner)
      (λ how w z last. follows_hold how _ _ (near_forgotten t s w z last)) follows_nothing)

  keeps_look : (positive once : Bool) (f : Search) → Keeps f → Keeps (run_look g positive once f)
  unfolding run_look
  keeps_look true true f h t s near =
      follows_held 1 t s _ _ near (λ u v inner.
      follows_decide fails_alone refl (h u v inner)
      (λ how w z last. follows_hold reached _ _
      (near_back t s _ _ near (near_forgotten t s w z last))) follows_nothing)
  keeps_look true false f h t s near =
      follows_held 1 t s _ _ near (λ u v inner.
      follows_catch fails_alone refl
      (follows_each (h u v inner)
      (λ how w z last. follows_gives reached _ _ (near_back t s w z near last))))
  keeps_look false once f h t s near =
      follows_held 1 t s _ _ near (λ u v inner.
      follows_decide fails_inside refl (h u v inner) (λ how w z last. follows_nothing)
      (follows_gives reached t s near))

  keeps_asserts : (positive : Bool) (x yes' no' : Search) → Keeps x → Keeps yes' → Keeps no'
      → Keeps (asserts g positive x yes' no')
  unfolding asserts
  keeps_asserts true x yes' no' h k l t s near =
      follows_held 1 t s _ _ near (λ u v inner.
      follows_decide fails_inside refl (h u v inner)
      (λ how w z last. follows_held 1 _ _ yes' yes'
      (near_back t s _ _ near (near_forgotten t s w z last)) k) (l t s near))
  keeps_asserts false x yes' no' h k l t s near =
      follows_held 1 t s _ _ near (λ u v inner.
      follows_decide fails_inside refl (h u v inner)
      (λ how w z last. follows_held 1 _ _ no' no'
      (near_back t s _ _ near (near_forgotten t s w z last)) l) (k t s near))

  keeps_turn : (below : Searches) (body : Nested) (low : ℕ) (high : Option ℕ) (lazily : Bool)
      → IsPlain body → KeepsBelow below → Keeps (turn g below body low high lazily)
  unfolding turn
  keeps_turn below body low high lazily plain h t s near =
      at_step (follows_held 1 t s _ _ near
      (λ u v inner. follows_and_then (h body plain u v inner) (λ w z last.
      subst (λ c. Follows false
      (elim c [
        | true ↦ gives reached w
        | false
            ↦ below (tree.repeat body (low - 1) (one_less high) lazily) w
      ])
      (elim (is_over low high s z) [
        | true ↦ gives reached z
        | false
            ↦ below (tree.repeat body (low - 1) (one_less high) lazily) z
      ]))
      (sym (over_same low high t s w z near last))
      (follows_if (is_over low high s z) (follows_gives reached w z last)
      (h (tree.repeat body (low - 1) (one_less high) lazily) plain w z last)))))

  keeps_repeat : (below : Searches) (body : Nested) (low : ℕ) (high : Option ℕ) (lazily : Bool)
      → IsPlain body → KeepsBelow below → Keeps (run_repeat g below body low high lazily)
  unfolding run_repeat
  keeps_repeat below body (suc low) high lazily plain h t s near =
      keeps_turn below body (suc low) high lazily plain h t s near
  keeps_repeat below body zero (Some zero) lazily plain h t s near = follows_gives reached t s near
  keeps_repeat below body zero None true plain h t s near =
      follows_or_else (follows_hold reached t s near)
      (keeps_turn below body 0 None true plain h t s near)
  keeps_repeat below body zero (Some (suc m)) true plain h t s near =
      follows_or_else (follows_hold reached t s near)
      (keeps_turn below body 0 (Some (suc m)) true plain h t s near)
  keeps_repeat below body zero None false plain h t s near =
      follows_or_else (keeps_turn below body 0 None false plain h t s near)
      (follows_gives reached t s near)
  keeps_repeat below body zero (Some (suc m)) false plain h t s near =
      follows_or_else (keeps_turn below body 0 (Some (suc m)) false plain h t s near)
      (follows_gives reached t s near)

  module _ (below : Searches) (h : KeepsBelow below) where
    mutual
      unfolding level

      keeps_level : (t : Nested) → IsPlain t → Keeps (level g below t)
      keeps_level tree.empty plain t s near = follows_gives reached t s near
      keeps_level (tree.one item) plain t s near = keeps_one item t s near
      keeps_level tree.line_break plain t s near = keeps_break t s near
      keeps_level (tree.seq ts) plain t s near = keeps_in_order _ (keep_levels ts plain) t s near
      keeps_level (tree.group number ts) plain t s near =
          keeps_group number _ (keeps_branches _ (keep_levels ts plain)) t s near
      keeps_level (tree.repeat body low high lazily) plain t s near =
          keeps_repeat below body low high lazily plain h t s near
      keeps_level (tree.one_repeat item low high lazily) plain t s near =
          keeps_many item low high lazily t s near
      keeps_level (tree.atomic ts) plain t s near =
          keeps_atomic _ (keeps_branches _ (keep_levels ts plain)) t s near
      keeps_level (tree.look true positive once ts) plain t s near =
          keeps_look positive once _ (keeps_branches _ (keep_levels ts plain)) t s near
      keeps_level (tree.look false positive once ts) plain t s near =
          keeps_look positive once _ (keeps_branches _ (keep_levels_behind ts plain)) t s near
      keeps_level (tree.condition test first second) plain t s near =
          keeps_level_test test plain.0 _ _ (keeps_level first plain.1)
          (keeps_level_other second plain.2) t s near
      keeps_level (tree.call n) plain t s near = absurd plain
      keeps_level (tree.ref ns caseless) plain t s near = absurd plain
      keeps_level (tree.anchor kind) plain t s near = keeps_anchor kind t s near
      keeps_level tree.keep_out plain t s near =
          follows_gives reached _ _ (record { place = near.place; units = near.units })
      keeps_level (tree.verb v) plain t s near = absurd plain
      keeps_level (tree.callout c) plain t s near = absurd plain

      pub keep_levels : (ts : Row) → ArePlain ts → AllKeep (levels g below ts)
      keep_levels tree.none plain = tt
      keep_levels (tree.more t ts) plain = (keeps_level t plain.0, keep_levels ts plain.1)

      keep_levels_behind : (ts : Row) → ArePlain ts → AllKeep (levels_behind g below ts)
      keep_levels_behind tree.none plain = tt
      keep_levels_behind (tree.more t ts) plain = (
        keeps_behind (branch_lengths g t) _ (keeps_level t plain.0),
        keep_levels_behind ts
            plain.1,
      )

      keeps_level_test : (test : Test) → IsPlainTest test → (yes' no' : Search) → Keeps yes'
          → Keeps no' → Keeps (level_test g below test yes' no')
      keeps_level_test (tree.any_set ns) plain yes' no' k l t s near = absurd plain
      keeps_level_test tree.in_call plain yes' no' k l t s near = absurd plain
      keeps_level_test (tree.in_call_of ns) plain yes' no' k l t s near = absurd plain
      keeps_level_test tree.never plain yes' no' k l t s near = l t s near
      keeps_level_test (tree.assert true positive once ts) plain yes' no' k l t s near =
          keeps_asserts positive _ yes' no' (keeps_branches _ (keep_levels ts plain)) k l t s near
      keeps_level_test (tree.assert false positive once ts) plain yes' no' k l t s near =
          keeps_asserts positive _ yes' no' (keeps_branches _ (keep_levels_behind ts plain)) k l t s
          near
      keeps_level_test (tree.called c test) plain yes' no' k l t s near = absurd plain

      keeps_level_other : (o : Other) → IsPlainOther o → Keeps (level_other g below o)
      keeps_level_other tree.no_other plain t s near = follows_gives reached t s near
      keeps_level_other (tree.other t) plain u s near = keeps_level t plain u s near

  pub keeps_run : (d : ℕ) (t : Nested) → IsPlain t → Keeps (run g d t)
  unfolding run
  keeps_run zero t plain u s near = at_end (by_halt cut)
  keeps_run (suc d) t plain u s near = keeps_level (run g d) (keeps_run d) t plain u s near
