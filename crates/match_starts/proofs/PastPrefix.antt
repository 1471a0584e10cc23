-- What the single items that a pattern's branches begin with tell of a place.
use mathlib.Core.Path.{fun_ext}
use Rattle.std.proofs.Common.{◌≡◌, ℕ, ℤ, zero, suc, ◌+◌, ◌<◌, ◌≤◌, Bool, true, false, ◌&&◌, List, [], ◌∷◌, length}
use Rattle.std.proofs.Common.{map, drop, replicate, Option, Some, None, refl, sym, ap, ◌∙◌, arith}
use Rattle.std.specs.Prelude.{not, ◌==◌, slice_index_or}
use Rattle.std.proofs.lemmas.Bool.{le-leb}
use Rattle.std.proofs.lemmas.List.{at_drop_more, drop_all, length-map}
use Rattle.pcre_io.specs.declared.callouts.Block.{Block}
use Rattle.pat_tree.specs.declared.nodes.Item.{Item}
use Rattle.pat_tree.specs.declared.options.Options.{Options}
use Rattle.pat_tree.specs.declared.options.PartialMode.TheVariants.{Off}
use Rattle.pat_tree.specs.declared.nodes.Node.{Node}
use Rattle.pat_tree.specs.declared.nodes.Node.TheVariants as node
use Rattle.pat_tree.specs.Nested.{Nested, Row, seq, group, one, none, more, nest, row, tree_at, trees}
use Rattle.pat_tree.specs.Parts.{TreeParts}
use Rattle.char_sets.specs.Table.{CharSet, IsTableOf}
use Rattle.match_items.specs.Scene.{Scene}
use Rattle.match_items.specs.declared.view.View.{View}
use Rattle.match_items.specs.Items.{after_item, item_reaches}
use Rattle.match_items.specs.Views.{text_scene, fold_in}
use Rattle.frame_board.specs.Ready.{setting_for}
use Rattle.frame_board.specs.frame_state.Stops.{admitted, refused_as_empty, refused_by_end}
use Rattle.ordered_search.specs.Stream.{State, Stream, Search, reached, accepted, first_state, ends, by_halt}
use Rattle.ordered_search.specs.Stream.{too_many_units, state, ◌▸◌, nothing, each, and_then, catch, is_next_branch}
use Rattle.ordered_search.specs.Stream.{◌or_else◌}
use Rattle.ordered_search.specs.Setting.{Setting, lower_of, match_limit, held}
use Rattle.ordered_search.specs.Tests.{goes_to, move_to, run_one}
use Rattle.ordered_search.specs.Parts.{Searches, in_order, choices, branches, run_group}
use Rattle.ordered_search.specs.Run.{level, levels, run}
use Rattle.ordered_search.specs.PlaceAnswer.{Exhausted, Failed, Matched, PlaceAnswer, Walked, outcome, answers, walk}
use Rattle.ordered_search.specs.PlaceAnswer.{place_answer}
use Rattle.search_needs.proofs.Bounded.{unreached}
use Rattle.match_starts.specs.Asked.{passed_over}
use Rattle.match_starts.specs.Prefix.{AreBranches, IsFree, IsTold, items_tested, branch_tested, tested, row_of}
use Rattle.match_starts.specs.declared.prefix.Tested.{Tested}
use Rattle.match_starts.specs.declared.prefix.Tested.TheVariants.{Took, Refused, Open}
use Rattle.match_starts.proofs.Leads.{class_told}

-- Going over parts.

-- what an item's test tells, and then the items behind it
abbrev then_items : Scene → Row → Option ℕ → Tested
then_items g ts None = Refused
then_items g ts (Some q) = items_tested g ts q

then_elim : (g : Scene) (ts : Row) (o : Option ℕ)
    → (elim o as (λ _. Tested) [ None ↦ Refused | Some q ↦ items_tested g ts q ]) ≡ then_items g ts o
then_elim g ts None = refl
then_elim g ts (Some q) = refl

one_tested : (g : Scene) (ts : Row) (item : Item) (p : ℕ)
    → items_tested g (more (one item) ts) p ≡ then_items g ts (after_item g item p)
unfolding items_tested
one_tested g ts item p = then_elim g ts (after_item g item p)

other_open : (g : Scene) (trees : List Nested) (ts : Row) (p : ℕ) (n : Node) → ((item : Item) → n ≡ node.One item → ⊥)
    → items_tested g (more (nest trees n) ts) p ≡ Open
unfolding items_tested
other_open g trees ts p (node.One item) h = absurd (h item refl)
other_open g trees ts p n h = refl

-- what the parts from one on tell, by that part
module _ (g : Scene) (tree : TreeParts) (parts : List ℕ) (i p : ℕ) where
  pub past_parts : length parts ≤ i → items_tested g (row_of tree (drop i parts)) p ≡ Took p
  unfolding items_tested
  past_parts past = ap (λ ks. items_tested g (row_of tree ks) p) (drop_all i parts past)

  module _ (less : i < length parts) (n : Node)
      (is : nest (trees tree.nodes) n ≡ tree_at (trees tree.nodes) (slice_index_or parts i 0)) where
    at_part : items_tested g (row_of tree (drop i parts)) p ≡ items_tested g
        (more (nest (trees tree.nodes) n) (row_of tree (drop (i + 1) parts))) p
    at_part =
        at_drop_more (λ ks. items_tested g (row_of tree ks) p) parts i 0 less
        ∙ ap (λ t. items_tested g (more t (row_of tree (drop (i + 1) parts))) p) (sym is)

    pub at_other : ((item : Item) → n ≡ node.One item → ⊥) → items_tested g (row_of tree (drop i parts)) p ≡ Open
    at_other h = at_part ∙ other_open g (trees tree.nodes) (row_of tree (drop (i + 1) parts)) p n h

    pub at_item : (item : Item) → n ≡ node.One item → (o : Option ℕ) → o ≡ after_item g item p →
        items_tested g (row_of tree (drop i parts)) p ≡ elim o [
          | None ↦ Refused
          | Some q ↦
              items_tested g (row_of tree (drop (i + 1) parts)) q
        ]
    at_item item e o taken =
        at_part
        ∙ ap (λ m. items_tested g (more (nest (trees tree.nodes) m) (row_of tree (drop (i + 1) parts))) p) e
        ∙ one_tested g (row_of tree (drop (i + 1) parts)) item p
        ∙ ap (then_items g (row_of tree (drop (i + 1) parts))) (sym taken)
        ∙ sym (then_elim g (row_of tree (drop (i + 1) parts)) o)

-- what a branch tells, by its node
module _ (g : Scene) (tree : TreeParts) (branch p : ℕ) (n : Node)
    (is : nest (trees tree.nodes) n ≡ tree_at (trees tree.nodes) branch) where
  pub seq_tested : (parts : List ℕ) → n ≡ node.Seq parts
      → branch_tested g (tree_at (trees tree.nodes) branch) p ≡ items_tested g (row_of tree parts) p
  unfolding branch_tested
  seq_tested parts e =
      ap (λ t. branch_tested g t p) (sym is)
      ∙ ap (λ m. branch_tested g (nest (trees tree.nodes) m) p) e

  own_part : (m : Node) → ((parts : List ℕ) → m ≡ node.Seq parts → ⊥)
      → branch_tested g (nest (trees tree.nodes) m) p ≡ items_tested g (more (nest (trees tree.nodes) m) none) p
  unfolding branch_tested
  own_part (node.Seq parts) h = absurd (h parts refl)
  own_part m h = refl

  pub alone_tested : ((parts : List ℕ) → n ≡ node.Seq parts → ⊥)
      → branch_tested g (tree_at (trees tree.nodes) branch) p ≡ items_tested g (row_of tree (branch ∷ [])) p
  alone_tested h =
      ap (λ t. branch_tested g t p) (sym is)
      ∙ own_part n h
      ∙ ap (λ t. items_tested g (more t none) p) is

-- what the branches from one on tell, by what that one does
abbrev then_branches : Tested → Tested → Tested
then_branches (Took q) later = Took q
then_branches Refused later = later
then_branches Open later = Open

then_branch : (b later : Tested) → (elim b as (λ _. Tested) [ Took q ↦ Took q | Refused ↦ later | Open ↦ Open ])
    ≡ then_branches b later
then_branch (Took q) later = refl
then_branch Refused later = refl
then_branch Open later = refl

-- what isn't refused stays
pub stays : (b later : Tested) → (b ≡ Refused → ⊥) → then_branches b later ≡ b
stays (Took q) later h = refl
stays Refused later h = absurd (h refl)
stays Open later h = refl

more_tested : (g : Scene) (t : Nested) (ts : Row) (p : ℕ)
    → tested g (more t ts) p ≡ then_branches (branch_tested g t p) (tested g ts p)
unfolding tested
more_tested g t ts p = then_branch (branch_tested g t p) (tested g ts p)

module _ (g : Scene) (tree : TreeParts) (parts : List ℕ) (i p : ℕ) where
  pub past_branches : length parts ≤ i → tested g (row_of tree (drop i parts)) p ≡ Refused
  unfolding tested
  past_branches past = ap (λ ks. tested g (row_of tree ks) p) (drop_all i parts past)

  pub at_branch : i < length parts → (b : Tested) → b ≡ branch_tested g
      (tree_at (trees tree.nodes) (slice_index_or parts i 0)) p →
      tested g (row_of tree (drop i parts)) p ≡ then_branches b (tested g (row_of tree (drop (i + 1) parts)) p)
  at_branch less b is =
      at_drop_more (λ ks. tested g (row_of tree ks) p) parts i 0 less
      ∙ more_tested g (tree_at (trees tree.nodes) (slice_index_or parts i 0)) (row_of tree (drop (i + 1) parts)) p
      ∙ ap (λ x. then_branches x (tested g (row_of tree (drop (i + 1) parts)) p)) (sym is)

-- What it tells.

-- a branch that takes up to a place, or is refused
abbrev settled : Option ℕ → Tested
settled None = Refused
settled (Some q) = Took q

pub same_place : (p q : ℕ) → Took p ≡ Took q → p ≡ q
same_place p q e = cc e

settled_same : (q : ℕ) (o : Option ℕ) → Took q ≡ settled o → o ≡ Some q
settled_same q None e = absurd (cc e)
settled_same q (Some r) e = let same : q ≡ r = cc e in ap Some (sym same)

settled_none : (o : Option ℕ) → Refused ≡ settled o → o ≡ None
settled_none None e = refl
settled_none (Some q) e = absurd (cc e)

open_unsettled : (o : Option ℕ) → Open ≡ settled o → ⊥
open_unsettled None e = cc e
open_unsettled (Some q) e = cc e

-- a branch that is settled, and what the later ones tell then
record IsSettled (b later : Tested) (o : Option ℕ) : Type 0 where
  own : Option ℕ
  is : b ≡ settled own
  whole : then_branches (settled own) later ≡ settled o

settles : (b later : Tested) (o : Option ℕ) → then_branches b later ≡ settled o → IsSettled b later o
settles (Took q) later o e = record { own = Some q; is = refl; whole = e }
settles Refused later o e = record { own = None; is = refl; whole = e }
settles Open later o e = absurd (open_unsettled o e)

nothing_after : (o : Option ℕ) (s : State) → goes_to o s or_else nothing ≡ goes_to o s
unfolding ◌or_else◌
nothing_after None s = refl
nothing_after (Some q) s = refl

caught : (o : Option ℕ) (s : State) → catch is_next_branch (goes_to o s) ≡ goes_to o s
unfolding catch
caught None s = refl
caught (Some q) s = refl

then_none : (s : State) (f : Search) → and_then (goes_to None s) f ≡ nothing
unfolding each
then_none s f = refl

then_some : (q : ℕ) (s : State) (f : Search) → and_then (goes_to (Some q) s) f ≡ f (move_to q s) or_else nothing
unfolding each
then_some q s f = refl

module _ (g : Setting) (off : g.matching.«partial» ≡ Off) where
  one_is : (item : Item) (s : State) → run_one g item s ≡ goes_to (after_item g.scene item s.place) s
  unfolding run_one
  one_is item s = unreached g off (item_reaches g.scene item s.place) s (goes_to (after_item g.scene item s.place) s)

  moved : (o : Option ℕ) (q : ℕ) (s : State) → goes_to o (move_to q s) ≡ goes_to o s
  moved None q s = refl
  moved (Some r) q s = refl

  item_then : (ts : Row) (f : Search) (s : State) (o r : Option ℕ) → then_items g.scene ts r ≡ settled o →
      ((q : ℕ) → items_tested g.scene ts q ≡ settled o → f (move_to q s) ≡ goes_to o (move_to q s)) →
      and_then (goes_to r s) f ≡ goes_to o s
  item_then ts f s o None e h = then_none s f ∙ ap (λ r. goes_to r s) (sym (settled_none o e))
  item_then ts f s o (Some q) e h =
      then_some q s f
      ∙ ap (λ x. x or_else nothing) (h q e)
      ∙ nothing_after o (move_to q s)
      ∙ moved o q s

  items_are : (below : Searches) (ts : Row) (s : State) (o : Option ℕ) → items_tested g.scene ts s.place ≡ settled o
      → in_order (levels g below ts) s ≡ goes_to o s
  unfolding items_tested in_order levels level
  items_are below none s o e = ap (λ r. goes_to r s) (sym (settled_same s.place o e))
  items_are below (more (one item) ts) s o e =
      ap (λ x. and_then x (in_order (levels g below ts))) (one_is item s)
      ∙ item_then ts (in_order (levels g below ts)) s o (after_item g.scene item s.place)
      (sym (one_tested g.scene ts item s.place) ∙ e) (λ q h. items_are below ts (move_to q s) o h)
  items_are below (more t ts) s o e = absurd (open_unsettled o e)

  one_level : (below : Searches) (item : Item) (s : State) (o : Option ℕ)
      → items_tested g.scene (more (one item) none) s.place ≡ settled o → level g below (one item) s ≡ goes_to o s
  unfolding items_tested level
  one_level below item s o e = one_is item s ∙ by_taken (after_item g.scene item s.place)
      (sym (one_tested g.scene none item s.place) ∙ e)
    where
      by_taken : (r : Option ℕ) → then_items g.scene none r ≡ settled o → goes_to r s ≡ goes_to o s
      by_taken None e = ap (λ r. goes_to r s) (sym (settled_none o e))
      by_taken (Some q) e = ap (λ r. goes_to r s) (sym (settled_same q o e))

  branch_is : (below : Searches) (t : Nested) (s : State) (o : Option ℕ) → branch_tested g.scene t s.place ≡ settled o
      → level g below t s ≡ goes_to o s
  unfolding branch_tested items_tested level
  branch_is below (seq ts) s o e = items_are below ts s o e
  branch_is below (one item) s o e = one_level below item s o e
  branch_is below t s o e = absurd (open_unsettled o e)

  -- The walk over what the branches give.

  -- the first state at a place, on a path that holds so many units
  abbrev pub holding : ℕ → ℕ → State
  holding p n = record (first_state g.groups p) { units = n }

  abbrev pub told_at : ℕ → Option ℕ → Walked
  told_at p None = answers (Failed Exhausted)
  told_at p (Some q) = answers (Matched (record { keep = p; to = q; mark = None; caps = replicate g.groups None }))

  -- a match that is told is one that counts
  abbrev IsCounted : ℕ → Option ℕ → Type 0
  IsCounted p o = (q : ℕ) → o ≡ Some q → admitted g p q ≡ true

  decided : (empty by_end : Bool) (s : State) (w : Walked) → not empty && not by_end ≡ true →
      (elim (elim empty as (λ _. Option PlaceAnswer) [
        | true ↦ None
        | false ↦ elim by_end [
          | false ↦ Some (Matched (outcome s))
          | true ↦ elim reached as (λ _. Option PlaceAnswer) [ reached ↦ None | accepted ↦ Some (Failed Exhausted) ]
        ]
      ]) as (λ _. Walked) [ None ↦ w | Some a ↦ answers a ])
      ≡ answers (Matched (outcome s))
  decided true by_end s w h = absurd (cc h)
  decided false true s w h = absurd (cc h)
  decided false false s w h = refl

  pub match_told : (n p units q : ℕ) (x : Stream) → admitted g p q ≡ true
      → walk g n (state reached (move_to q (holding p units)) ▸ x) ≡ told_at p (Some q)
  unfolding walk
  match_told n p units q x h = decided (refused_as_empty g p q) (refused_by_end g q) (move_to q (holding p units))
      (walk g n x) h

  none_told : (n p : ℕ) → walk g n nothing ≡ told_at p None
  unfolding walk
  none_told n p = refl

  either_told : (n p units : ℕ) (x : Stream) (own o : Option ℕ) (later : Tested)
      → then_branches (settled own) later ≡ settled o →
      (later ≡ settled o → walk g n x ≡ told_at p o) → IsCounted p o →
      walk g n (goes_to own (holding p units) or_else x) ≡ told_at p o
  unfolding ◌or_else◌
  either_told n p units x None o later e h counted = h e
  either_told n p units x (Some q) o later e h counted =
      let same = settled_same q o e in
      match_told n p units q (nothing or_else x) (counted q same) ∙ ap (told_at p) (sym same)

  last_told : (n p : ℕ) (own o : Option ℕ) → then_branches (settled own) Refused ≡ settled o → IsCounted p o →
      walk g n (goes_to own (holding p 0)) ≡ told_at p o
  last_told n p own o e counted =
      ap (walk g n) (sym (nothing_after own (holding p 0)))
      ∙ either_told n p 0 nothing own o Refused e (λ r. none_told n p ∙ ap (told_at p) (sym (settled_none o r))) counted

  pub has_unit : (s : State) (f : Search) → s.units + 1 ≤ g.matching.frame_limit
      → held g 1 s f ≡ f (record s { units = s.units + 1 })
  unfolding held
  has_unit s f room =
      ap (λ (b : Bool). elim b as (λ _. Stream) [
        | true ↦ f (record s { units = s.units + 1 })
        | false ↦
            ends (by_halt too_many_units)
      ])
      (le-leb (s.units + 1) g.matching.frame_limit room)

  none_tested : (p : ℕ) → tested g.scene none p ≡ Refused
  unfolding tested
  none_tested p = refl

  module _ (below : Searches) (p : ℕ) (room : 1 ≤ g.matching.frame_limit) where
    last_choice : (t : Nested) (n : ℕ) (o : Option ℕ) → tested g.scene (more t none) p ≡ settled o → IsCounted p o →
        walk g (suc n) (choices g (level g below t ∷ []) (first_state g.groups p)) ≡ told_at p o
    unfolding choices walk
    last_choice t n o e counted =
        let parts = settles (branch_tested g.scene t p) Refused o
        (ap (then_branches (branch_tested g.scene t p)) (sym (none_tested p)) ∙ sym (more_tested g.scene t none p)
        ∙ e) in
        ap (λ x. walk g n (catch is_next_branch x)) (branch_is below t (first_state g.groups p) parts.own parts.is)
        ∙ ap (walk g n) (caught parts.own (first_state g.groups p))
        ∙ last_told n p parts.own o parts.whole counted

    choice_then : (t : Nested) (fs : Row) (f : Search) (fs' : List Search) (n : ℕ) (o : Option ℕ)
        → tested g.scene (more t fs) p ≡ settled o → IsCounted p o →
        (tested g.scene fs p ≡ settled o → walk g n (choices g (f ∷ fs') (first_state g.groups p)) ≡ told_at p o) →
        walk g (suc n) (choices g (level g below t ∷ f ∷ fs') (first_state g.groups p)) ≡ told_at p o
    unfolding choices walk
    choice_then t fs f fs' n o e counted later =
        let s = first_state g.groups p in
        let x = choices g (f ∷ fs') s in
        let parts = settles (branch_tested g.scene t p) (tested g.scene fs p) o (sym (more_tested g.scene t fs p) ∙ e)
        in
        ap (λ y. walk g n (y or_else x)) (has_unit s (λ t'. catch is_next_branch (level g below t t')) room)
        ∙ ap (λ y. walk g n (catch is_next_branch y or_else x)) (branch_is below t (holding p 1) parts.own parts.is)
        ∙ ap (λ y. walk g n (y or_else x)) (caught parts.own (holding p 1))
        ∙ either_told n p 1 x parts.own o (tested g.scene fs p) parts.whole later counted

    choices_told : (ts : List Nested) (n : ℕ) (o : Option ℕ) → tested g.scene (row ts) p ≡ settled o → IsCounted p o
        → length ts ≤ n →
        walk g n (choices g (levels g below (row ts)) (first_state g.groups p)) ≡ told_at p o
    unfolding choices levels tested
    choices_told [] n o e counted few = none_told n p ∙ ap (told_at p) (sym (settled_none o e))
    choices_told (t ∷ ts) zero o e counted few = absurd (omega (arith, few))
    choices_told (t ∷ []) (suc n) o e counted few = last_choice t n o e counted
    choices_told (t ∷ u ∷ ts) (suc n) o e counted few =
        choice_then t (row (u ∷ ts)) (level g below u) (levels g below (row ts)) n o e counted
        (λ h. choices_told (u ∷ ts) n o h counted (omega (arith, few)))

    branches_told : (ts : List Nested) (n : ℕ) (o : Option ℕ) → tested g.scene (row ts) p ≡ settled o → IsCounted p o
        → length ts ≤ n →
        walk g n (branches g (levels g below (row ts)) (first_state g.groups p)) ≡ told_at p o
    unfolding branches levels tested
    branches_told [] n o e counted few = none_told n p ∙ ap (told_at p) (sym (settled_none o e))
    branches_told (t ∷ []) n o e counted few =
        let parts = settles (branch_tested g.scene t p) Refused o
        (ap (then_branches (branch_tested g.scene t p)) (sym (none_tested p)) ∙ sym (more_tested g.scene t none p)
        ∙ e) in
        ap (walk g n) (branch_is below t (first_state g.groups p) parts.own parts.is)
        ∙ last_told n p parts.own o parts.whole counted
    branches_told (t ∷ u ∷ ts) n o e counted few = choices_told (t ∷ u ∷ ts) n o e counted few

  place_told : (ts : List Nested) (p : ℕ) (o : Option ℕ) → g.whole ≡ group None (row ts)
      → tested g.scene (row ts) p ≡ settled o → IsCounted p o →
      length ts ≤ match_limit g → 1 ≤ g.matching.frame_limit → place_answer g p ≡ told_at p o
  unfolding run level run_group
  place_told ts p o is e counted few room =
      let e' : match_limit g + 1 ≡ suc (match_limit g) = omega arith in
      ap (λ d. walk g (match_limit g) (run g d g.whole (first_state g.groups p))) e'
      ∙ ap (λ t. walk g (match_limit g) (run g (suc (match_limit g)) t (first_state g.groups p))) is
      ∙ branches_told (run g (match_limit g)) p room ts (match_limit g) o e counted few

-- a view of the tree's options shows what the search is about
pub scene_same : (tree : TreeParts) (table : List CharSet) (view : View) (answers : Block → ℤ)
    → IsTableOf tree table → view.options.now ≡ tree.options →
    text_scene view table ≡ (setting_for tree view answers).scene
scene_same tree table view answers h e =
    ap (λ (has : ℕ → ℕ → Bool). record (text_scene view table) { class_has = has })
    (fun_ext (λ n. fun_ext (λ c. h.answers n c)) ∙ class_told tree)
    ∙ ap (λ (o : Options). record (setting_for tree view answers).scene { options = o; fold = fold_in o.utf }) e

pub not_none : (parts : List ℕ) → (length parts == 0) ≡ false → 0 < length parts
not_none [] h = absurd (cc h)
not_none (k ∷ ks) h = omega arith

-- what the tests of a pattern's branches tell of a search
pub branches_tell : (tree : TreeParts) (table : List CharSet) (view : View) (given : Block → ℤ) (parts : List ℕ)
    (p : ℕ) (b : Tested) →
    IsTableOf tree table → view.options.now ≡ tree.options → AreBranches tree parts → 0 < length parts
    → IsFree view (length parts) →
    b ≡ tested (text_scene view table) (row_of tree parts) p →
    ((q : ℕ) → b ≡ Took q → admitted (setting_for tree view passed_over) p q ≡ true) →
    IsTold b (setting_for tree view given) p
branches_tell tree table view given parts p b shown options are some free is counted = by_told b is counted
  where
    places : (o : Option ℕ) → settled o ≡ tested (text_scene view table) (row_of tree parts) p →
        ((q : ℕ) → o ≡ Some q → admitted (setting_for tree view passed_over) p q ≡ true) →
        place_answer (setting_for tree view given) p ≡ told_at (setting_for tree view given) free.off p o
    places o e counted =
        let n = length-map parts (tree_at (trees tree.nodes)) in
        let steps = free.steps in
        let limit : lower_of view.options.now.match_limit view.matching.now.match_limit ≡ match_limit
        (setting_for tree view given) =
        ap (λ (o : Options). lower_of o.match_limit view.matching.now.match_limit) options in
        place_told (setting_for tree view given) free.off (map (tree_at (trees tree.nodes)) parts) p o (are.all some)
        (ap (λ (s : Scene). tested s (row_of tree parts) p) (sym (scene_same tree table view given shown options))
        ∙ sym e)
        counted (omega (arith, n, steps, limit)) free.unit

    by_told : (b : Tested) → b ≡ tested (text_scene view table) (row_of tree parts) p →
        ((q : ℕ) → b ≡ Took q → admitted (setting_for tree view passed_over) p q ≡ true) →
        IsTold b (setting_for tree view given) p
    by_told (Took q) e counted = places (Some q) e (λ r h. counted r (ap settled h))
    by_told Refused e counted = places None e (λ r h. absurd (cc h))
    by_told Open e counted = tt
