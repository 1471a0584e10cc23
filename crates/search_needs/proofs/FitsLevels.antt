-- A search of a part stays within the part's bound, where one is known.
use Rattle.std.proofs.Common.{◌≡◌, ℕ, zero, suc, ◌*◌, ◌^◌, ◌≤◌, Bool, true, false, List, [], ◌∷◌, Option, Some, None}
use Rattle.std.proofs.Common.{inl, refl, sym, ap, subst, ◌∙◌, arith}
use Rattle.std.specs.Prelude.{if◌then◌else◌, ◌==◌, nat_le}
use Rattle.std.proofs.lemmas.Bool.{leb-true, eqb-true, and_parts}
use Rattle.pat_tree.specs.declared.options.PartialMode.TheVariants.{Off}
use Rattle.pat_tree.specs.declared.nodes.Item.{Item}
use Rattle.pat_tree.specs.declared.nodes.Item.TheVariants.{Char, AnyAll, NotNewline, Class}
use Rattle.pat_tree.specs.Nested as tree
use Rattle.pat_tree.specs.Nested.{Nested, Row}
use Rattle.match_items.specs.Items.{after_item, item_reaches}
use Rattle.pat_bounds.specs.declared.bounds.Bound.{Bound}
use Rattle.pat_bounds.specs.Bounds.{offered, turns, followed, closed, grouped, both, change, or_so, first_item}
use Rattle.pat_bounds.specs.Bounds.{is_alone, repeated, in_turns, branching, is_left_once, at, left_once, next_char}
use Rattle.pat_bounds.specs.Bounds.{lacks, is_apart, bound, bound_before, bound_in_turn, bound_of_one, bound_of_choices}
use Rattle.ordered_search.specs.Stream.{State, by_halt, cut, reached, Stream, Search, nothing, each, and_then}
use Rattle.ordered_search.specs.Setting.{Setting}
use Rattle.ordered_search.specs.Tests.{goes_to, run_one, run_many}
use Rattle.ordered_search.specs.Parts.{Searches, in_order, choices, branches, run_group, run_atomic, run_look}
use Rattle.ordered_search.specs.Run.{level, levels, run}
use Rattle.search_needs.proofs.TameStreams.{within_gives, within_end}
use Rattle.search_needs.proofs.Onward.{onward_ends, onward_gives, onward_one, onward_break, onward_ref}
use Rattle.search_needs.proofs.Onward.{onward_anchor, onward_none}
use Rattle.search_needs.proofs.Bounded.{size, FitsIn, FitsSome, unreached, fits_once, fits_never, once_one}
use Rattle.search_needs.proofs.Bounded.{once_break, once_ref, once_anchor, fits_many, fits_followed, fits_or_else}
use Rattle.search_needs.proofs.Bounded.{fits_group, fits_atomic, fits_look}
use Rattle.search_needs.proofs.Growing.{at_steady}
use Rattle.search_needs.proofs.Repeated.{fits_repeat, fits_few}
use Rattle.search_needs.proofs.Alone.{LeftAlone, fits_or_apart, left_alone}
use Rattle.search_needs.proofs.Apart.{fits_apart}

some_same : (a b : ℕ) → Some a ≡ Some b → a ≡ b
some_same a b e = cc

module _ (g : Setting) (off : g.matching.«partial» ≡ Off) where
  -- Where bounds are known.

  some_followed : (x y : Option Bound) (f : Search) (fs : List Search) → FitsSome g off x f
      → FitsSome g off y (in_order fs) → FitsSome g off (both followed x y) (in_order (f ∷ fs))
  some_followed None y f fs h k = tt
  some_followed (Some a) None f fs h k = tt
  some_followed (Some a) (Some b) f fs h k = fits_followed g off a b f fs h k

  some_beside : (alone : Bool) (x y : Option Bound) (f : Search) (fs : List Search)
      → (alone ≡ true → LeftAlone g f fs)
      → FitsSome g off x f → FitsSome g off y (choices g fs)
      → FitsSome g off (both (or_so alone) x y) (choices g (f ∷ fs))
  some_beside alone None y f fs e h k = tt
  some_beside alone (Some a) None f fs e h k = tt
  some_beside true (Some a) (Some b) f fs e h k = fits_or_apart g off a b f fs h k (e refl)
  some_beside false (Some a) (Some b) f fs e h k = fits_or_else g off a b f fs h k

  some_group : (number : Option ℕ) (x : Option Bound) (f : Search) → FitsSome g off x f
      → FitsSome g off (change (grouped number) x) (run_group g number f)
  some_group number None f h = tt
  some_group number (Some a) f h = fits_group g off number a f h

  some_atomic : (x : Option Bound) (f : Search) → FitsSome g off x f → FitsSome g off (change closed x) (run_atomic g f)
  some_atomic None f h = tt
  some_atomic (Some a) f h = fits_atomic g off a f h

  some_look : (positive : Bool) (x : Option Bound) (f : Search) → FitsSome g off x f
      → FitsSome g off (change closed x) (run_look g positive true f)
  some_look positive None f h = tt
  some_look positive (Some a) f h = fits_look g off positive a f h

  module _ (below : Searches) where
    -- What begins with a character fails wherever that doesn't stand.
    module _ (c : ℕ) (t : State) (none : after_item g.scene (Char c false) t.place ≡ None) where
      fails_apart : (ts : Row) → next_char ts ≡ Some c → in_order (levels g below ts) t ≡ nothing
      unfolding level in_order run_one each
      fails_apart (tree.more (tree.one (Char d false)) ts) e =
          ap (λ (x : Stream). and_then x (in_order (levels g below ts)))
          (unreached g off (item_reaches g.scene (Char d false) t.place) t _
          ∙ ap (λ (o : Option ℕ). goes_to o t)
          (subst (λ n. after_item g.scene (Char n false) t.place ≡ None) (sym (some_same d c e)) none))
      fails_apart tree.none e = absurd cc
      fails_apart (tree.more (tree.one (Char d true)) ts) e = absurd cc
      fails_apart (tree.more (tree.one AnyAll) ts) e = absurd cc
      fails_apart (tree.more (tree.one NotNewline) ts) e = absurd cc
      fails_apart (tree.more (tree.one (Class n)) ts) e = absurd cc
      fails_apart (tree.more tree.empty ts) e = absurd cc
      fails_apart (tree.more tree.line_break ts) e = absurd cc
      fails_apart (tree.more (tree.seq us) ts) e = absurd cc
      fails_apart (tree.more (tree.group n us) ts) e = absurd cc
      fails_apart (tree.more (tree.repeat u low high lazily) ts) e = absurd cc
      fails_apart (tree.more (tree.one_repeat item low high lazily) ts) e = absurd cc
      fails_apart (tree.more (tree.atomic us) ts) e = absurd cc
      fails_apart (tree.more (tree.look ahead positive _ us) ts) e = absurd cc
      fails_apart (tree.more (tree.condition test u v) ts) e = absurd cc
      fails_apart (tree.more (tree.call n) ts) e = absurd cc
      fails_apart (tree.more (tree.ref ns caseless) ts) e = absurd cc
      fails_apart (tree.more (tree.anchor kind) ts) e = absurd cc
      fails_apart (tree.more tree.keep_out ts) e = absurd cc
      fails_apart (tree.more (tree.verb v) ts) e = absurd cc
      fails_apart (tree.more (tree.callout k) ts) e = absurd cc

    -- A repeat of an item before other parts.
    module _ (item : Item) (low : ℕ) (high : Option ℕ) (lazily : Bool) (ts : Row) where
      abbrev then_rest : Search
      then_rest = in_order (run_many g item low high lazily ∷ levels g below ts)

      some_apart : (c : Option ℕ) → next_char ts ≡ c → (b : Bool)
          → elim c [ None ↦ false | Some d ↦ lacks g.class_has item d ] ≡ b
          → (y : Option Bound) → FitsSome g off y (in_order (levels g below ts))
          → FitsSome g off
          (both followed (if b then Some (left_once (turns low high)) else Some (offered (turns low high))) y)
          then_rest
      unfolding in_order
      some_apart c e false is y h = some_followed (Some (offered (turns low high))) y
          (run_many g item low high lazily) (levels g below ts) (fits_many g off item low high lazily) h
      some_apart None e true is y h = absurd cc
      some_apart (Some d) e true is None h = tt
      some_apart (Some d) e true is (Some b) h =
          fits_apart g off item d is low high lazily b (in_order (levels g below ts))
          (λ t none. fails_apart d t none ts e) h

    some_before : (t : Nested) (ts : Row) → FitsSome g off (bound g.class_has t) (level g below t)
        → FitsSome g off (bound_in_turn g.class_has ts) (in_order (levels g below ts))
        → FitsSome g off (both followed (bound_before g.class_has t ts (bound g.class_has t))
        (bound_in_turn g.class_has ts)) (in_order (level g below t ∷ levels g below ts))
    unfolding bound level
    some_before (tree.one_repeat item low high lazily) ts h k =
        some_apart item low high lazily ts (next_char ts) refl (is_apart g.class_has item ts) refl
        (bound_in_turn g.class_has ts) k
    some_before (tree.one a) ts h k = some_followed (bound g.class_has (tree.one a)) (bound_in_turn g.class_has ts)
        (level g below (tree.one a)) (levels g below ts) h k
    some_before tree.empty ts h k = some_followed (bound g.class_has tree.empty) (bound_in_turn g.class_has ts)
        (level g below tree.empty) (levels g below ts) h k
    some_before tree.line_break ts h k = some_followed (bound g.class_has tree.line_break)
        (bound_in_turn g.class_has ts) (level g below tree.line_break) (levels g below ts) h k
    some_before (tree.seq a) ts h k = some_followed (bound g.class_has (tree.seq a)) (bound_in_turn g.class_has ts)
        (level g below (tree.seq a)) (levels g below ts) h k
    some_before (tree.group a b) ts h k = some_followed (bound g.class_has (tree.group a b))
        (bound_in_turn g.class_has ts) (level g below (tree.group a b)) (levels g below ts) h k
    some_before (tree.repeat a b c d) ts h k = some_followed (bound g.class_has (tree.repeat a b c d))
        (bound_in_turn g.class_has ts) (level g below (tree.repeat a b c d)) (levels g below ts) h k
    some_before (tree.atomic a) ts h k = some_followed (bound g.class_has (tree.atomic a))
        (bound_in_turn g.class_has ts) (level g below (tree.atomic a)) (levels g below ts) h k
    some_before (tree.look a b c d) ts h k = some_followed (bound g.class_has (tree.look a b c d))
        (bound_in_turn g.class_has ts) (level g below (tree.look a b c d)) (levels g below ts) h k
    some_before (tree.condition a b c) ts h k = some_followed (bound g.class_has (tree.condition a b c))
        (bound_in_turn g.class_has ts) (level g below (tree.condition a b c)) (levels g below ts) h k
    some_before (tree.call a) ts h k = some_followed (bound g.class_has (tree.call a)) (bound_in_turn g.class_has ts)
        (level g below (tree.call a)) (levels g below ts) h k
    some_before (tree.ref a b) ts h k = some_followed (bound g.class_has (tree.ref a b))
        (bound_in_turn g.class_has ts) (level g below (tree.ref a b)) (levels g below ts) h k
    some_before (tree.anchor a) ts h k = some_followed (bound g.class_has (tree.anchor a))
        (bound_in_turn g.class_has ts) (level g below (tree.anchor a)) (levels g below ts) h k
    some_before tree.keep_out ts h k = some_followed (bound g.class_has tree.keep_out) (bound_in_turn g.class_has ts)
        (level g below tree.keep_out) (levels g below ts) h k
    some_before (tree.verb a) ts h k = some_followed (bound g.class_has (tree.verb a)) (bound_in_turn g.class_has ts)
        (level g below (tree.verb a)) (levels g below ts) h k
    some_before (tree.callout a) ts h k = some_followed (bound g.class_has (tree.callout a))
        (bound_in_turn g.class_has ts) (level g below (tree.callout a)) (levels g below ts) h k

  -- a repeat of a group, with so much depth
  some_repeat : (d : ℕ) (body : Nested) (low : ℕ) (high : Option ℕ) (lazily : Bool) (x : Option Bound)
      → ((e : ℕ) → FitsSome g off x (level g (run g e) body))
      → FitsSome g off (repeated low high x) (level g (run g d) (tree.repeat body low high lazily))
  unfolding run
  some_repeat d body low high lazily None fits = tt
  some_repeat d body low high lazily (Some a) fits = by_once (is_left_once a) refl
    where
      at_depth : (e : ℕ) → FitsIn g off a (run g e body)
      at_depth zero = (λ s le. within_end _ _ _ (by_halt cut) tt, λ s. onward_ends g s.place (by_halt cut))
      at_depth (suc e) = fits e

      left : is_left_once a ≡ true → at a.states (size g off) ≤ 1
      left once =
          let parts = and_parts (nat_le a.states.times 1) (a.states.degree == 0) once in
          let few = leb-true a.states.times 1 parts.0 in
          let flat = eqb-true a.states.degree 0 parts.1 in
          let is : at a.states (size g off) ≡ a.states.times = ap (λ k. a.states.times * size g off ^ k) flat
          ∙ at_steady a.states.times (size g off) in
          omega (arith, is, few)

      by_high : (h : Option ℕ) → FitsSome g off (branching low h a) (run g (suc d) (tree.repeat body low h lazily))
      by_high None = tt
      by_high (Some h) = fits_few g off body a at_depth (suc d) low h lazily

      by_once : (b : Bool) → is_left_once a ≡ b
          → FitsSome g off (if b then Some (in_turns low high a) else branching low high a)
          (run g (suc d) (tree.repeat body low high lazily))
      by_once true e = fits_repeat g off (suc d) body low high lazily a (left e) at_depth
      by_once false e = by_high high

  mutual
    unfolding bound level in_order branches choices

    pub fits_level : (d : ℕ) (t : Nested)
        → FitsSome g off (bound g.class_has t) (level g (run g d) t)
    fits_level d tree.empty = fits_once g off (level g (run g d) tree.empty) (λ s. within_gives 0 _ s (omega arith))
        (λ s. onward_gives g s.place reached s (inl refl))
    fits_level d (tree.one item) = fits_once g off (level g (run g d) (tree.one item)) (once_one g off item)
        (onward_one g item)
    fits_level d tree.line_break = fits_once g off (level g (run g d) tree.line_break) (once_break g off)
        (onward_break g)
    fits_level d (tree.seq ts) = fits_turn d ts
    fits_level d (tree.group number ts) = some_group number (bound_of_one g.class_has ts)
        (branches g (levels g (run g d) ts)) (fits_branches d ts)
    fits_level d (tree.repeat body low high lazily) = some_repeat d body low high lazily (bound g.class_has body)
        (λ e. fits_level e body)
    fits_level d (tree.one_repeat item low high lazily) = fits_many g off item low high lazily
    fits_level d (tree.atomic ts) = some_atomic (bound_of_one g.class_has ts) (branches g (levels g (run g d) ts))
        (fits_branches d ts)
    fits_level d (tree.look true positive true ts) = some_look positive (bound_of_one g.class_has ts)
        (branches g (levels g (run g d) ts)) (fits_branches d ts)
    fits_level d (tree.look true positive false ts) = tt
    fits_level d (tree.look false positive _ ts) = tt
    fits_level d (tree.condition test first second) = tt
    fits_level d (tree.call k) = tt
    fits_level d (tree.ref ns caseless) = fits_once g off (level g (run g d) (tree.ref ns caseless))
        (once_ref g off ns caseless) (onward_ref g ns caseless)
    fits_level d (tree.anchor kind) = fits_once g off (level g (run g d) (tree.anchor kind)) (once_anchor g off kind)
        (onward_anchor g kind)
    fits_level d tree.keep_out = fits_once g off (level g (run g d) tree.keep_out)
        (λ s. within_gives 0 _ _ (omega arith)) (λ s. onward_gives g s.place reached _ (inl refl))
    fits_level d (tree.verb v) = tt
    fits_level d (tree.callout c) = tt

    pub fits_turn : (d : ℕ) (ts : Row)
        → FitsSome g off (bound_in_turn g.class_has ts) (in_order (levels g (run g d) ts))
    fits_turn d tree.none = fits_once g off (in_order []) (λ s. within_gives 0 _ s (omega arith)) (onward_none g)
    fits_turn d (tree.more t ts) = some_before (run g d) t ts (fits_level d t) (fits_turn d ts)

    pub fits_branches : (d : ℕ) (ts : Row)
        → FitsSome g off (bound_of_one g.class_has ts) (branches g (levels g (run g d) ts))
    fits_branches d tree.none = fits_never g off (branches g []) (λ s. refl)
    fits_branches d (tree.more t tree.none) = fits_level d t
    fits_branches d (tree.more t (tree.more u ts)) =
        some_beside (is_alone g.class_has (first_item t) (tree.more u ts)) (bound g.class_has t)
        (both (or_so (is_alone g.class_has (first_item u) ts)) (bound g.class_has u)
        (bound_of_choices g.class_has ts))
        (level g (run g d) t) (level g (run g d) u ∷ levels g (run g d) ts)
        (left_alone g off (run g d) t (tree.more u ts)) (fits_level d t)
        (some_beside (is_alone g.class_has (first_item u) ts) (bound g.class_has u) (bound_of_choices g.class_has ts)
        (level g (run g d) u) (levels g (run g d) ts) (left_alone g off (run g d) u ts) (fits_level d u)
        (fits_choices d ts))

    pub fits_choices : (d : ℕ) (ts : Row)
        → FitsSome g off (bound_of_choices g.class_has ts) (choices g (levels g (run g d) ts))
    fits_choices d tree.none = fits_never g off (choices g []) (λ s. refl)
    fits_choices d (tree.more t ts) =
        some_beside (is_alone g.class_has (first_item t) ts) (bound g.class_has t) (bound_of_choices g.class_has ts)
        (level g (run g d) t) (levels g (run g d) ts) (left_alone g off (run g d) t ts) (fits_level d t)
        (fits_choices d ts)
