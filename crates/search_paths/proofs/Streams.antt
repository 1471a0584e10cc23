-- What follows a stream, without the pauses; items, and the repeats of one item.
use Rattle.std.proofs.Common.{◌≡◌, ℕ, ◌+◌, ◌-◌, ◌∙◌, Bool, true, false, List, [], ◌∷◌, take, drop, reverse, Option}
use Rattle.std.proofs.Common.{Some, None, refl, sym, ap}
use Rattle.std.specs.Prelude.{nat_le, option_map}
use Rattle.pat_tree.specs.declared.options.PartialMode.TheVariants.{Off, Soft, Hard}
use Rattle.pat_tree.specs.declared.nodes.Item.{Item}
use Rattle.pat_tree.specs.declared.nodes.AnchorKind.{AnchorKind}
use Rattle.match_items.specs.Items.{one_less, is_none_left, item_reaches, longest_run, run_reaches, after_ref}
use Rattle.match_items.specs.Items.{ref_reaches, holds, anchor_reaches, earliest}
use Rattle.frame_store.specs.Captures.{capture}
use Rattle.ordered_search.specs.Stream.{State, VerbEnding, next_branch, prune, skip, commit, is_partial}
use Rattle.ordered_search.specs.Stream.{too_many_units, exhausted, by_verb, by_halt, hit_end, How, reached, accepted}
use Rattle.ordered_search.specs.Stream.{note, state, step, Stream, Search, ends, ◌▸◌, nothing, gives, ◌or_else◌}
use Rattle.ordered_search.specs.Stream.{each, go_on, catch, is_next_branch, is_verb, decide, no_ending, fails_alone}
use Rattle.ordered_search.specs.Stream.{fails_inside}
use Rattle.ordered_search.specs.Setting.{Setting, held, hold, counts, reach, reach_if}
use Rattle.ordered_search.specs.Tests.{move_to, goes_to, run_ref, run_anchor, offers, greedy, offer_and, reluctant}
use Rattle.ordered_search.specs.Tests.{lazy_run, run_many}
use Rattle.ordered_search.specs.Parts.{in_order}
use Rattle.ordered_search.specs.Moves.{Moves, stops, pause, stepped, noted, Follow, Handler, Path, before}
use Rattle.ordered_search.specs.Moves.{catching, going, holding, reaching}
use Rattle.ordered_search.specs.Paths.{ref_path, anchor_path, offer_paths, offer_path, lazy_paths, many_paths}
use Rattle.ordered_search.specs.Paths.{go_path, parts_path}
use Rattle.search_paths.specs.Pauses.{strip}

-- What follows a stream that is made of others.

pub before_or_else : (x y : Stream) (k : Follow) (f : Moves) (h : Handler)
    → before (x or_else y) k f h ≡ before x k (before y k f h) h
unfolding before ◌or_else◌
before_or_else (ends exhausted) y k f h = refl
before_or_else (ends (by_verb v)) y k f h = refl
before_or_else (ends (by_halt a)) y k f h = refl
before_or_else (note n ▸ x) y k f h = ap (noted n) (before_or_else x y k f h)
before_or_else (state how s ▸ x) y k f h = ap (k how s) (before_or_else x y k f h)
before_or_else (step ▸ x) y k f h = ap stepped (before_or_else x y k f h)

pub before_each : (x : Stream) (w : How → Search) (k : Follow) (f : Moves) (h : Handler) →
    before (each x w) k f h ≡ before x (λ how s e. before (w how s) k e h) f h
unfolding before each
before_each (ends exhausted) w k f h = refl
before_each (ends (by_verb v)) w k f h = refl
before_each (ends (by_halt a)) w k f h = refl
before_each (note n ▸ x) w k f h = ap (noted n) (before_each x w k f h)
before_each (state how s ▸ x) w k f h =
    before_or_else (w how s) (each x w) k f h ∙ ap (λ e. before (w how s) k e h) (before_each x w k f h)
before_each (step ▸ x) w k f h = ap stepped (before_each x w k f h)

pub before_catch : (x : Stream) (k : Follow) (f : Moves) (h : Handler) →
    before (catch is_next_branch x) k f h ≡ before x k f (catching f h)
unfolding before catch
before_catch (ends exhausted) k f h = refl
before_catch (ends (by_verb next_branch)) k f h = refl
before_catch (ends (by_verb prune)) k f h = refl
before_catch (ends (by_verb (skip p))) k f h = refl
before_catch (ends (by_verb commit)) k f h = refl
before_catch (ends (by_halt a)) k f h = refl
before_catch (note n ▸ x) k f h = ap (noted n) (before_catch x k f h)
before_catch (state how s ▸ x) k f h = ap (k how s) (before_catch x k f h)
before_catch (step ▸ x) k f h = ap stepped (before_catch x k f h)

-- each verb is caught
pub before_catch_verb : (x : Stream) (k : Follow) (f : Moves) (h : Handler)
    → before (catch is_verb x) k f h ≡ before x k f (λ v. f)
unfolding before catch
before_catch_verb (ends exhausted) k f h = refl
before_catch_verb (ends (by_verb v)) k f h = refl
before_catch_verb (ends (by_halt a)) k f h = refl
before_catch_verb (note n ▸ x) k f h = ap (noted n) (before_catch_verb x k f h)
before_catch_verb (state how s ▸ x) k f h = ap (k how s) (before_catch_verb x k f h)
before_catch_verb (step ▸ x) k f h = ap stepped (before_catch_verb x k f h)

-- an ending that fails a lookaround
pub before_catch_alone : (x : Stream) (k : Follow) (f : Moves) (h : Handler) →
    before (catch fails_alone x) k f h ≡ before x k f (catching f h)
unfolding before catch
before_catch_alone (ends exhausted) k f h = refl
before_catch_alone (ends (by_verb next_branch)) k f h = refl
before_catch_alone (ends (by_verb prune)) k f h = refl
before_catch_alone (ends (by_verb (skip p))) k f h = refl
before_catch_alone (ends (by_verb commit)) k f h = refl
before_catch_alone (ends (by_halt a)) k f h = refl
before_catch_alone (note n ▸ x) k f h = ap (noted n) (before_catch_alone x k f h)
before_catch_alone (state how s ▸ x) k f h = ap (k how s) (before_catch_alone x k f h)
before_catch_alone (step ▸ x) k f h = ap stepped (before_catch_alone x k f h)

-- the first state decides
pub before_first : (x : Stream) (w : How → Search) (k : Follow) (f : Moves) (h : Handler) →
    before (decide no_ending x w nothing) k f h ≡ before x (λ how s e. before (w how s) k f h) f h
unfolding before decide
before_first (ends exhausted) w k f h = refl
before_first (ends (by_verb v)) w k f h = refl
before_first (ends (by_halt a)) w k f h = refl
before_first (note n ▸ x) w k f h = ap (noted n) (before_first x w k f h)
before_first (state how s ▸ x) w k f h = refl
before_first (step ▸ x) w k f h = ap stepped (before_first x w k f h)

pub before_first_alone : (x : Stream) (w : How → Search) (k : Follow) (f : Moves) (h : Handler) →
    before (decide fails_alone x w nothing) k f h ≡ before x (λ how s e. before (w how s) k f h) f (catching f h)
unfolding before decide
before_first_alone (ends exhausted) w k f h = refl
before_first_alone (ends (by_verb next_branch)) w k f h = refl
before_first_alone (ends (by_verb prune)) w k f h = refl
before_first_alone (ends (by_verb (skip p))) w k f h = refl
before_first_alone (ends (by_verb commit)) w k f h = refl
before_first_alone (ends (by_halt a)) w k f h = refl
before_first_alone (note n ▸ x) w k f h = ap (noted n) (before_first_alone x w k f h)
before_first_alone (state how s ▸ x) w k f h = refl
before_first_alone (step ▸ x) w k f h = ap stepped (before_first_alone x w k f h)

-- and where there is none, y stands otherwise
pub before_first_inside : (x : Stream) (w : How → Search) (y : Stream) (k : Follow) (f : Moves) (h : Handler) →
    before (decide fails_inside x w y) k f h ≡ before x (λ how s e. before (w how s) k f h) (before y k f h)
    (λ v. before y k f h)
unfolding before decide
before_first_inside (ends exhausted) w y k f h = refl
before_first_inside (ends (by_verb v)) w y k f h = refl
before_first_inside (ends (by_halt a)) w y k f h = refl
before_first_inside (note n ▸ x) w y k f h = ap (noted n) (before_first_inside x w y k f h)
before_first_inside (state how s ▸ x) w y k f h = refl
before_first_inside (step ▸ x) w y k f h = ap stepped (before_first_inside x w y k f h)

-- l is what follows without pauses
pub record IsStripped (k l : Follow) : Type 0 where
  pub same : (how : How) (s : State) (f : Moves) → strip (k how s f) ≡ l how s (strip f)

pub record AreStripped (h j : Handler) : Type 0 where
  pub same : (v : VerbEnding) → strip (h v) ≡ j v

pub strip_catching : (f : Moves) (h j : Handler) → AreStripped h j → AreStripped (catching f h) (catching (strip f) j)
strip_catching f h j r = record {
  same = elim [ next_branch ↦ refl | prune ↦ r.same prune | skip p ↦ r.same (skip p) | commit ↦ r.same commit ];
}

-- the path is the search
pub record IsSearch (p : Path) (x : Search) : Type 0 where
  pub is : (s : State) (k l : Follow) (f : Moves) (h j : Handler) → IsStripped k l → AreStripped h j
      → strip (p s k f h) ≡ before (x s) l (strip f) j

-- one place at most
pub strip_going : (o : Option ℕ) (s : State) (k l : Follow) (f : Moves) (j : Handler) → IsStripped k l →
    strip (going o s k f) ≡ before (goes_to o s) l (strip f) j
unfolding before
strip_going None s k l f j e = refl
strip_going (Some p) s k l f j e = e.same reached (move_to p s) f

-- Sequences.

abbrev pub ArePaths : List Path → List Search → Type 0
ArePaths [] [] = Unit {0}
ArePaths (p ∷ ps) (x ∷ xs) = IsSearch p x × ArePaths ps xs
ArePaths _ _ = ⊥

go_on_stripped : (p : Path) (x : Search) (k l : Follow) (h j : Handler) → IsSearch p x → IsStripped k l
    → AreStripped h j →
    IsStripped (go_path p k h) (λ how s e. before (go_on x how s) l e j)
unfolding before go_path
go_on_stripped p x k l h j i e r = record {
  same = elim [ reached ↦ λ s f. i.is s k l f h j e r | accepted ↦ λ s f. e.same accepted s f ];
}

pub strip_parts : (ps : List Path) (xs : List Search) → ArePaths ps xs → IsSearch (parts_path ps) (in_order xs)
unfolding before in_order parts_path
strip_parts [] [] a = record { is = λ s k l f h j e r. e.same reached s f }
strip_parts [] (x ∷ xs) a = absurd a
strip_parts (p ∷ ps) [] a = absurd a
strip_parts (p ∷ ps) (x ∷ xs) (i, is) = record {
  is = λ s k l f h j e r.
      i.is s (go_path (parts_path ps) k h) (λ how u m. before (go_on (in_order xs) how u) l m j) f h j
      (go_on_stripped (parts_path ps) (in_order xs) k l h j (strip_parts ps xs is) e r) r
      ∙ sym (before_each (x s) (go_on (in_order xs)) l (strip f) j);
}

module _ (g : Setting) where
  pub strip_holding : (n : ℕ) (s : State) (x : State → Moves) (w : Search) (l : Follow) (f : Moves) (j : Handler) →
      ((t : State) → strip (x t) ≡ before (w t) l f j) → strip (holding g n s x) ≡ before (held g n s w) l f j
  unfolding before held holding strip
  strip_holding n s x w l f j same =
      let t : State = record s { units = s.units + n } in
      elim (nat_le (s.units + n) g.matching.frame_limit)
      as (λ b. strip (elim b [ true ↦ x t | false ↦ stops (by_halt too_many_units) ])
      ≡ before (elim b [ true ↦ w t | false ↦ ends (by_halt too_many_units) ]) l f j) [
        | true ↦ same t
        | false ↦ refl
      ]

  pub strip_hold : (how : How) (s : State) (x : State → Moves) (l : Follow) (f : Moves) (j : Handler) →
      ((t : State) → strip (x t) ≡ l how t f) → strip (holding g 1 s x) ≡ before (hold g how s) l f j
  unfolding before hold
  strip_hold how s x l f j same = strip_holding 1 s x (gives how) l f j same

  pub strip_reaching : (b : Bool) (s : State) (y : Moves) (x : Stream) (l : Follow) (f : Moves) (j : Handler) →
      strip y ≡ before x l f j → strip (reaching g b s y) ≡ before (reach_if g b s x) l f j
  unfolding reaching reach_if reach before strip
  strip_reaching false s y x l f j e = e
  strip_reaching true s y x l f j e =
      elim g.matching.«partial»
      as (λ m. strip (elim m [
        | Off ↦ y
        | Soft ↦ elim (counts g s) [ true ↦ noted hit_end y | false ↦ y ]
        | Hard ↦ elim (counts g s) [ true ↦ stops (by_halt is_partial) | false ↦ y ]
      ])
      ≡ before (elim m [
        | Off ↦ x
        | Soft ↦ elim (counts g s) [ true ↦ note hit_end ▸ x | false ↦ x ]
        | Hard ↦ elim (counts g s) [ true ↦ ends (by_halt is_partial) | false ↦ x ]
      ]) l f j) [
        | Off ↦ e
        | Soft ↦
            elim (counts g s)
            as (λ b. strip (elim b [ true ↦ noted hit_end y | false ↦ y ]) ≡ before
            (elim b [ true ↦ note hit_end ▸ x | false ↦ x ]) l f j) [
              | true ↦ ap (noted hit_end) e
              | false ↦ e
            ]
        | Hard ↦
            elim (counts g s)
            as (λ b. strip (elim b [ true ↦ stops (by_halt is_partial) | false ↦ y ]) ≡ before
            (elim b [ true ↦ ends (by_halt is_partial) | false ↦ x ]) l f j) [
              | true ↦ refl
              | false ↦ e
            ]
      ]

  pub strip_if : (b : Bool) (x y : Moves) (u v : Stream) (l : Follow) (f : Moves) (j : Handler)
      → strip x ≡ before u l f j →
      strip y ≡ before v l f j → strip (elim b [ true ↦ x | false ↦ y ]) ≡ before (elim b [ true ↦ u | false ↦ v ]) l
      f j
  strip_if true x y u v l f j a b = a
  strip_if false x y u v l f j a b = b

  pub strip_ref : (ns : List ℕ) (caseless : Bool) (s : State) (k l : Follow) (f : Moves) (j : Handler)
      → IsStripped k l →
      strip (ref_path g ns caseless s k f) ≡ before (run_ref g ns caseless s) l (strip f) j
  unfolding before run_ref
  strip_ref [] caseless s k l f j e =
      strip_if g.options.match_unset_backref _ _ _ _ l (strip f) j (e.same reached s f) refl
  strip_ref (n ∷ ns) caseless s k l f j e =
      elim (capture s.caps n)
      as (λ o. strip (elim o [
        | None ↦ ref_path g ns caseless s k f
        | Some span ↦
            reaching g (ref_reaches g.scene span.from span.to caseless s.place) s
            (going (after_ref g.scene span.from span.to caseless s.place) s k f)
      ])
      ≡ before (elim o [
        | None ↦ run_ref g ns caseless s
        | Some span ↦
            reach_if g (ref_reaches g.scene span.from span.to caseless s.place) s
            (goes_to (after_ref g.scene span.from span.to caseless s.place) s)
      ]) l (strip f) j) [
        | None ↦ strip_ref ns caseless s k l f j e
        | Some span ↦ strip_reaching _ s _ _ l (strip f) j (strip_going _ s k l f j e)
      ]

  pub strip_anchor : (kind : AnchorKind) (s : State) (k l : Follow) (f : Moves) (j : Handler) → IsStripped k l →
      strip (anchor_path g kind s k f) ≡ before (run_anchor g kind s) l (strip f) j
  unfolding before run_anchor
  strip_anchor kind s k l f j e =
      let t : State = record s { early = earliest g.scene kind s.place s.early } in
      strip_reaching (anchor_reaches g.scene kind s.place) t _ _ l (strip f) j
      (strip_if (holds g.scene kind s.place) (k reached t f) f (gives reached t) nothing l (strip f) j
      (e.same reached t f) refl)

  -- Repeats of one item.

  strip_offers : (ps : List ℕ) (s : State) (k l : Follow) (f : Moves) (j : Handler) → IsStripped k l →
      strip (offer_paths g ps s k f) ≡ before (offers g ps s) l (strip f) j
  unfolding before strip offers offer_paths
  strip_offers [] s k l f j e = refl
  strip_offers (p ∷ []) s k l f j e = ap stepped (e.same reached (move_to p s) f)
  strip_offers (p ∷ q ∷ ps) s k l f j e =
      ap stepped
      (strip_hold reached (move_to p s) (λ t. k reached t (pause (offer_paths g (q ∷ ps) s k f))) l
      (before (offers g (q ∷ ps) s) l (strip f) j) j
      (λ t. e.same reached t (pause (offer_paths g (q ∷ ps) s k f))
      ∙ ap (l reached t) (strip_offers (q ∷ ps) s k l f j e))
      ∙ sym (before_or_else (hold g reached (move_to p s)) (offers g (q ∷ ps) s) l (strip f) j))

  strip_offer : (b : Bool) (s : State) (k l : Follow) (x f : Moves) (y : Stream) (j : Handler) → IsStripped k l →
      strip x ≡ before y l (strip f) j → strip (offer_path g b s k x f) ≡ before (offer_and g b s y) l (strip f) j
  unfolding before strip
  strip_offer true s k l x f y j e h = ap stepped (e.same reached s f)
  strip_offer false s k l x f y j e h =
      ap stepped
      (strip_hold reached s (λ t. k reached t (pause x)) l (before y l (strip f) j) j
      (λ t. e.same reached t (pause x) ∙ ap (l reached t) h)
      ∙ sym (before_or_else (hold g reached s) y l (strip f) j))

  strip_lazy : (item : Item) (left : Option ℕ) (ps : List ℕ) (s : State) (k l : Follow) (f : Moves) (j : Handler)
      → IsStripped k l →
      strip (lazy_paths g item left ps s k f) ≡ before (reluctant g item left ps s) l (strip f) j
  unfolding before reluctant lazy_paths
  strip_lazy item left [] s k l f j e = refl
  strip_lazy item left (p ∷ ps) s k l f j e =
      strip_offer (is_none_left left) (move_to p s) k l _ f _ j e
      (strip_reaching (item_reaches g.scene item p) s _ _ l (strip f) j
      (strip_lazy item (one_less left) ps s k l f j e))

  pub strip_many : (item : Item) (low : ℕ) (high : Option ℕ) (lazily : Bool) (s : State) (k l : Follow) (f : Moves)
      (j : Handler) → IsStripped k l →
      strip (many_paths g item low high lazily (longest_run g.scene item high s.place) s k f) ≡ before
      (run_many g item low high lazily s) l (strip f) j
  unfolding run_many greedy lazy_run many_paths
  strip_many item low high false s k l f j e =
      let ps : List ℕ = longest_run g.scene item high s.place in
      strip_reaching (run_reaches g.scene item high s.place ps) s _ _ l (strip f) j
      (strip_offers (reverse (drop low (s.place ∷ ps))) s k l f j e)
  strip_many item low high true s k l f j e =
      let ps : List ℕ = longest_run g.scene item high s.place in
      strip_reaching (run_reaches g.scene item (Some low) s.place (take low ps)) s _ _ l (strip f) j
      (strip_lazy item (option_map (λ n. n - low) high) (drop low (s.place ∷ ps)) s k l f j e)
