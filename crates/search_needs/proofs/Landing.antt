-- Streams whose states are all at one place.
use Rattle.std.proofs.Common.{◌≡◌, ℕ, zero, suc, ◌+◌, Bool, true, false, List, [], ◌∷◌, ◌++◌, drop, reverse, Option}
use Rattle.std.proofs.Common.{Some, None, refl, sym, subst}
use Rattle.std.specs.Prelude.{nat_le}
use Rattle.std.proofs.lemmas.List.{reverse-append}
use Rattle.pat_tree.specs.declared.options.PartialMode.TheVariants.{Off}
use Rattle.pat_tree.specs.declared.nodes.Item.{Item}
use Rattle.pat_tree.specs.declared.nodes.AnchorKind.{AnchorKind}
use Rattle.match_items.specs.Items.{one_less, is_none_left, item_reaches, longest_run, holds, anchor_reaches}
use Rattle.ordered_search.specs.Stream.{State, exhausted, by_verb, by_halt, too_many_units, How, reached, note}
use Rattle.ordered_search.specs.Stream.{state, step, Stream, Search, ends, ◌▸◌, nothing, gives, ◌or_else◌}
use Rattle.ordered_search.specs.Setting.{Setting, held, hold, reach_if}
use Rattle.ordered_search.specs.Tests.{move_to, goes_to, run_anchor, offers, greedy, offer_and, reluctant, lazy_run}
use Rattle.ordered_search.specs.Tests.{run_many}
use Rattle.search_needs.proofs.Bounded.{unreached}

unfoldable pub Lands : ℕ → Stream → Type 0
Lands q (ends e) = Unit {0}
Lands q (note k ▸ x) = Lands q x
Lands q (state how s ▸ x) = (s.place ≡ q) × Lands q x
Lands q (step ▸ x) = Lands q x

lands_nothing : (q : ℕ) → Lands q nothing
unfolding Lands
lands_nothing q = tt

lands_gives : (q : ℕ) (how : How) (s : State) → s.place ≡ q → Lands q (gives how s)
unfolding Lands
lands_gives q how s h = (h, tt)

lands_step : (q : ℕ) (x : Stream) → Lands q x → Lands q (step ▸ x)
unfolding Lands
lands_step q x h = h

lands_or_else : (q : ℕ) (x y : Stream) → Lands q x → Lands q y → Lands q (x or_else y)
unfolding Lands ◌or_else◌
lands_or_else q (ends exhausted) y h k = k
lands_or_else q (ends (by_verb v)) y h k = tt
lands_or_else q (ends (by_halt a)) y h k = tt
lands_or_else q (note m ▸ x) y h k = lands_or_else q x y h k
lands_or_else q (state how s ▸ x) y h k = (h.0, lands_or_else q x y h.1 k)
lands_or_else q (step ▸ x) y h k = lands_or_else q x y h k

-- goes on at the place, if at all
pub lands_to : (q : ℕ) (o : Option ℕ) (s : State) → ((r : ℕ) → o ≡ Some r → r ≡ q)
    → Lands q (goes_to o s)
lands_to q None s h = lands_nothing q
lands_to q (Some r) s h = lands_gives q reached (move_to r s) (h r refl)

-- each of these places is the one
abbrev pub AreAt : ℕ → List ℕ → Type 0
AreAt q [] = Unit {0}
AreAt q (p ∷ ps) = (p ≡ q) × AreAt q ps

append_at : (q : ℕ) (ps rs : List ℕ) → AreAt q ps → AreAt q rs → AreAt q (ps ++ rs)
append_at q [] rs h k = k
append_at q (p ∷ ps) rs h k = (h.0, append_at q ps rs h.1 k)

reverse_at : (q : ℕ) (ps : List ℕ) → AreAt q ps → AreAt q (reverse ps)
reverse_at q [] h = tt
reverse_at q (p ∷ ps) h =
    subst (AreAt q) (sym (reverse-append (p ∷ []) ps))
    (append_at q (reverse ps) (p ∷ []) (reverse_at q ps h.1) (h.0, tt))

pub none_at : (q n : ℕ) → AreAt q (drop n [])
none_at q zero = tt
none_at q (suc n) = tt

-- Outside partial matching.
module _ (g : Setting) (off : g.matching.«partial» ≡ Off) where
  pub lands_reach_if : (q : ℕ) (b : Bool) (s : State) (x : Stream) → Lands q x
      → Lands q (reach_if g b s x)
  lands_reach_if q b s x h = subst (Lands q) (sym (unreached g off b s x)) h

  lands_held : (q n : ℕ) (s : State) (f : Search) → Lands q (f (record s { units = s.units + n }))
      → Lands q (held g n s f)
  unfolding held Lands
  lands_held q n s f h = by_room (nat_le (s.units + n) g.matching.frame_limit)
    where
      by_room : (b : Bool) → Lands q (elim b [
        | true ↦ f (record s { units = s.units + n })
        | false ↦ ends (by_halt too_many_units)
      ])
      by_room true = h
      by_room false = tt

  lands_hold : (q : ℕ) (s : State) → s.place ≡ q → Lands q (hold g reached s)
  unfolding hold
  lands_hold q s h =
      lands_held q 1 s (gives reached) (lands_gives q reached (record s { units = s.units + 1 }) h)

  -- a simple assertion stays where it is
  pub lands_anchor : (kind : AnchorKind) (s : State) → Lands s.place (run_anchor g kind s)
  unfolding run_anchor
  lands_anchor kind s =
      lands_reach_if s.place (anchor_reaches g.scene kind s.place) _ _
      (by_test (holds g.scene kind s.place) _ refl)
    where
      by_test : (b : Bool) (t : State) → t.place ≡ s.place
          → Lands s.place (elim b [ true ↦ gives reached t | false ↦ nothing ])
      by_test true t e = lands_gives s.place reached t e
      by_test false t e = lands_nothing s.place

  lands_offers : (q : ℕ) (ps : List ℕ) (s : State) → AreAt q ps → Lands q (offers g ps s)
  unfolding offers
  lands_offers q [] s h = lands_nothing q
  lands_offers q (p ∷ []) s h =
      lands_step q _ (lands_gives q reached (move_to p s) h.0)
  lands_offers q (p ∷ r ∷ ps) s h =
      lands_step q _ (lands_or_else q _ _ (lands_hold q (move_to p s) h.0)
      (lands_offers q (r ∷ ps) s h.1))

  lands_offer_and : (q : ℕ) (b : Bool) (s : State) (x : Stream) → s.place ≡ q → Lands q x
      → Lands q (offer_and g b s x)
  lands_offer_and q true s x e h = lands_step q _ (lands_gives q reached s e)
  lands_offer_and q false s x e h =
      lands_step q _ (lands_or_else q _ _ (lands_hold q s e) h)

  lands_reluctant : (q : ℕ) (item : Item) (left : Option ℕ) (ps : List ℕ) (s : State) → AreAt q ps
      → Lands q (reluctant g item left ps s)
  unfolding reluctant
  lands_reluctant q item left [] s h = lands_nothing q
  lands_reluctant q item left (p ∷ ps) s h =
      lands_offer_and q (is_none_left left) (move_to p s) _ h.0
      (lands_reach_if q (item_reaches g.scene item p) s _
      (lands_reluctant q item (one_less left) ps s h.1))

  -- a repeat goes on at the places that it offers
  pub lands_many : (q : ℕ) (item : Item) (low : ℕ) (high : Option ℕ) (lazily : Bool) (s : State)
      → AreAt q (drop low (s.place ∷ longest_run g.scene item high s.place))
      → Lands q (run_many g item low high lazily s)
  unfolding run_many greedy lazy_run
  lands_many q item low high false s h =
      lands_reach_if q _ s _ (lands_offers q _ s (reverse_at q _ h))
  lands_many q item low high true s h =
      lands_reach_if q _ s _ (lands_reluctant q item _ _ s h)
