-- What a search meets at a site, and where it stands then.
use Rattle.std.specs.Prelude.{◌≡◌, ◌<◌, ◌≤◌, ℕ, suc, ◌+◌, Bool, true, false, Option, Some, None, nat_le, [], ◌∷◌}
use Rattle.match_items.specs.Items.{after_item, holds}
use Rattle.ordered_search.specs.Stream.{State, exhausted, by_halt, too_many_units, reached, step, Stream, ends, ◌▸◌}
use Rattle.ordered_search.specs.Stream.{nothing, gives, ◌or_else◌}
use Rattle.ordered_search.specs.Setting.{Setting}
use Rattle.ordered_search.specs.PlaceAnswer.{MatchLimit, answers, walk}
use Rattle.search_costs.specs.Costs.{steps, Cost}
use Rattle.fail_sites.specs.Left.{Left, todo}
use Rattle.fail_sites.specs.Graph.{Graph, IsGraph}
use Rattle.fail_sites.specs.Stands.{Stands, IsFailure, standing}
use Rattle.fail_sites.specs.declared.op.Op.{Op}
use Rattle.fail_sites.specs.declared.op.Op.TheVariants as op

-- with one unit more, where there is room for it
abbrev pub one_more : Setting → (ℕ → Stream) → ℕ → Stream
one_more g x u =
    elim (nat_le (u + 1) g.matching.frame_limit) [
      | true ↦ x (u + 1)
      | false ↦ ends (by_halt too_many_units)
    ]

module _ (c : Graph) where
  abbrev pub StandsAt : ℕ → ℕ → ℕ → (ℕ → Stream) → Type 0
  StandsAt v n p x = Stands c.setting (c.left v) n p x

  -- past a Step
  abbrev pub StandsPast : ℕ → ℕ → ℕ → (ℕ → Stream) → Type 0
  StandsPast v n p x = (m : ℕ) → n ≡ suc m → StandsAt v m p x

  pub record Holds (w n p : ℕ) (x : ℕ → Stream) : Type 0 where
    pub after : ℕ → Stream
    pub stands : StandsAt w n p after
    pub is : (u : ℕ) → x u ≡ one_more c.setting after u

  pub record Steps (w n p : ℕ) (x : ℕ → Stream) : Type 0 where
    pub after : ℕ → Stream
    pub stands : StandsPast w n p after
    pub is : (u : ℕ) → x u ≡ step ▸ after u

  pub record Turns (w n p : ℕ) (x : ℕ → Stream) : Type 0 where
    pub after : ℕ → Stream
    pub stands : StandsPast w n p after
    pub is : (u : ℕ) → x u ≡ step ▸ one_more c.setting after u

  pub record Branches (w v n p : ℕ) (x : ℕ → Stream) : Type 0 where
    pub after : ℕ → Stream
    pub stands : StandsPast w n p after
    pub second : ℕ → Stream
    pub stands_second : StandsAt v n p second
    pub is : (u : ℕ) → x u ≡ step ▸ (one_more c.setting after u or_else second u)

  pub record Leaves (w v n p : ℕ) (x : ℕ → Stream) : Type 0 where
    pub after : ℕ → Stream
    pub stands : StandsAt w n p after
    pub second : ℕ → Stream
    pub stands_second : StandsAt v n p second
    pub is : (u : ℕ) → x u ≡ one_more c.setting after u or_else second u

  abbrev pub GoesTo : ℕ → ℕ → Option ℕ → (ℕ → Stream) → Type 0
  GoesTo w n None x = (u : ℕ) → x u ≡ nothing
  GoesTo w n (Some q) x = StandsAt w n q x

  abbrev pub GoesOnIf : ℕ → ℕ → ℕ → Bool → (ℕ → Stream) → Type 0
  GoesOnIf w n p false x = (u : ℕ) → x u ≡ nothing
  GoesOnIf w n p true x = StandsAt w n p x

  abbrev pub Meets : Op → ℕ → ℕ → (ℕ → Stream) → Type 0
  Meets op.End n p x = Unit {0}
  Meets (op.Skip w) n p x = StandsAt w n p x
  Meets (op.Ask w) n p x = StandsAt w n p x
  Meets (op.Take item w) n p x = GoesTo w n (after_item c.setting.scene item p) x
  Meets (op.Test kind w) n p x = GoesOnIf w n p (holds c.setting.scene kind p) x
  Meets (op.Hold w) n p x = Holds w n p x
  Meets (op.Step w) n p x = Steps w n p x
  Meets (op.Turn w) n p x = Turns w n p x
  Meets (op.Branch w v) n p x = Branches w v n p x
  Meets (op.Leave w v) n p x = Leaves w v n p x
  Meets (op.Many item low high w v) n p x = Unit {0}
  Meets op.Other n p x = Unit {0}

-- Each site does what its graph says.
abbrev pub SiteLaw : Type 0
SiteLaw =
    (c : Graph) (v n p : ℕ) (x : ℕ → Stream) → IsGraph c → v < c.count → StandsAt c v n p x → Meets c (c.op v) n p x

-- Where a failure is known and there is room for its units: its Steps, if so many are left, and else the match limit.
pub record IsKnownThere (g : Setting) (n : ℕ) (cost : Cost) (x : ℕ → Stream) (u : ℕ) : Type 0 where
  pub fails : cost.steps ≤ n → x u ≡ steps cost.steps exhausted
  pub passes : (y : Stream) → n < cost.steps → walk g n (x u or_else y) ≡ answers MatchLimit

-- At a site that asks, what failed once fails again.
abbrev pub AskLaw : Type 0
AskLaw =
    (c : Graph) (v w n p u : ℕ) (x : ℕ → Stream) (cost : Cost) → IsGraph c → v < c.count → c.op v ≡ op.Ask w
    → StandsAt c v n p x → IsFailure c.setting (c.left v) p cost → u ≤ cost.most → IsKnownThere c.setting n cost x u
