-- A greedy repeat of one item, and the places that it hands on.
use Rattle.std.specs.Prelude.{◌≡◌, ℕ, zero, suc, ◌+◌, ◌-◌, ◌<◌, ◌≤◌, List, [], ◌∷◌, length, Option}
use Rattle.pat_tree.specs.declared.nodes.Item.{Item}
use Rattle.match_items.specs.Items.{longest_run, place_before}
use Rattle.match_items.specs.Subjects.{IsTextPlace}
use Rattle.match_items.specs.Views.{end_of}
use Rattle.ordered_search.specs.Stream.{State, step, Stream, ◌▸◌, nothing, ◌or_else◌, and_then}
use Rattle.ordered_search.specs.Setting.{Setting}
use Rattle.ordered_search.specs.Tests.{offers}
use Rattle.search_costs.specs.Tasks.{Task, Key, onward}
use Rattle.fail_sites.specs.Left.{todo}
use Rattle.fail_sites.specs.Graph.{Graph, IsGraph, moved}
use Rattle.fail_sites.specs.Stands.{AreOfKeys, standing}
use Rattle.fail_sites.specs.SiteLaws.{one_more, StandsAt}
use Rattle.fail_sites.specs.declared.op.Op.TheVariants as op

-- The places of a repeat from p, the furthest first, each but the last a character past the next one. The last is p
-- itself only where the minimum is 0.
pub data AreHandedOn (g : Setting) (low p : ℕ) : List ℕ → Type 0 where
  at_start : low ≡ 0 → AreHandedOn g low p (p ∷ [])
  at_least : {q : ℕ} → 0 < low → p < q → IsTextPlace g.options g.subject q → AreHandedOn g low p (q ∷ [])
  and_before : {q : ℕ} {ps : List ℕ} → p < q → IsTextPlace g.options g.subject q
      → AreHandedOn g low p (place_before g.scene q ∷ ps) → AreHandedOn g low p (q ∷ place_before g.scene q ∷ ps)

-- where the search goes on from the last place
abbrev pub last_site : ℕ → ℕ → ℕ → ℕ
last_site zero next moved = next
last_site (suc low) next moved = moved

module _ (c : Graph) where
  -- A repeat from p hands on the place q, and so many further ones behind it.
  pub record IsOffer (low next' moved' n p q further : ℕ) (x : ℕ → Stream) : Type 0 where
    pub left : List Task
    pub keys : List Key
    pub state : State
    pub rest : List ℕ
    pub of : AreOfKeys n p left keys
    pub here : IsTextPlace c.setting.options c.setting.subject p
    pub next_is : c.left next' ≡ todo keys
    pub moved_is : c.left moved' ≡ todo (moved keys)
    pub places : AreHandedOn c.setting low p (q ∷ rest)
    pub count : length rest ≡ further
    pub is : (u : ℕ) → x u ≡ and_then (offers c.setting (q ∷ rest) (standing p u state)) (onward c.setting left)

  -- what a search meets that comes to a repeat at p
  pub record Repeats (item : Item) (low : ℕ) (high : Option ℕ) (next' moved' n p : ℕ) (x : ℕ → Stream) : Type 0 where
    pub none : length (longest_run c.setting.scene item high p) < low → (u : ℕ) → x u ≡ nothing
    pub some : low ≤ length (longest_run c.setting.scene item high p)
        → IsOffer low next' moved' n p (end_of p (longest_run c.setting.scene item high p))
        (length (longest_run c.setting.scene item high p) - low) x

  -- and behind a place that is handed on
  pub record Further (low next' moved' n p q further : ℕ) (x : ℕ → Stream) : Type 0 where
    pub after : ℕ → Stream
    pub stands : (m : ℕ) → n ≡ suc m → StandsAt c moved' m q after
    pub second : ℕ → Stream
    pub offer : IsOffer low next' moved' n p (place_before c.setting.scene q) further second
    pub is : (u : ℕ) → x u ≡ step ▸ (one_more c.setting after u or_else second u)

  pub record Last (site n q : ℕ) (x : ℕ → Stream) : Type 0 where
    pub after : ℕ → Stream
    pub stands : (m : ℕ) → n ≡ suc m → StandsAt c site m q after
    pub is : (u : ℕ) → x u ≡ step ▸ after u

abbrev pub RepeatLaw : Type 0
RepeatLaw =
    (c : Graph) (v n p : ℕ) (item : Item) (low : ℕ) (high : Option ℕ) (next' moved' : ℕ) (x : ℕ → Stream) → IsGraph c
    → v < c.count → c.op v ≡ op.Many item low high next' moved' → StandsAt c v n p x
    → Repeats c item low high next' moved' n p x

abbrev pub OfferLaw : Type 0
OfferLaw =
    (c : Graph) (low next' moved' n p q further : ℕ) (x : ℕ → Stream) → IsGraph c
    → IsOffer c low next' moved' n p q (suc further) x → Further c low next' moved' n p q further x

abbrev pub LastLaw : Type 0
LastLaw =
    (c : Graph) (low next' moved' n p q : ℕ) (x : ℕ → Stream) → IsGraph c → IsOffer c low next' moved' n p q 0 x
    → Last c (last_site low next' moved') n q x
