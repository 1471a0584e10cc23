-- What stops the machine where no unit more is held.
use Rattle.std.proofs.Common.{◌≡◌, ◌≤◌, ◌∙◌, ℕ, ap, sym}
use Rattle.frame_store.specs.Captures.{Captures}
use Rattle.frame_state.specs.declared.machine.Spot.{Spot}
use Rattle.frame_state.specs.declared.machine.Stop.{Stop}
use Rattle.frame_state.specs.declared.machine.Stop.TheVariants as stop
use Rattle.ordered_search.specs.PlaceAnswer.{Walked, PlaceAnswer, answers, FrameLimit}
use Rattle.frame_state.specs.Ground.{Ground}
use Rattle.frame_state.specs.declared.machine.Met.{Met}
use Rattle.frame_state.specs.Stops.{Told, IsStop, IsEnd, IsHeldStop, told}

module _ (limit units : ℕ) (spot old : Spot) (caps : Captures) (w : Walked) (kept : spot.last ≡ old.last) where
  pub held_stop : (s : Stop) → IsHeldStop s limit units → (limit ≤ units → w ≡ answers FrameLimit)
      → IsStop s spot caps (told old.last w)
  held_stop stop.Match h k = absurd h
  held_stop stop.NoMatch h k = absurd h
  held_stop (stop.Verb a) h k = absurd h
  held_stop stop.MatchLimit h k = absurd h
  held_stop stop.Partial h k = absurd h
  held_stop stop.Loop h k = absurd h
  held_stop (stop.Abort n) h k = absurd h
  held_stop stop.FrameLimit h k = ap (told old.last) (k h) ∙ ap (λ (l : Met). told l (answers FrameLimit)) (sym kept)
  held_stop stop.Memory h k = tt

-- what is told where the answer is this
pub tells_stop : (spot : Spot) (w : Walked) (a : PlaceAnswer) → w ≡ answers a
    → told spot.last w ≡ told spot.last (answers a)
tells_stop spot w a e = ap (told spot.last) e

-- no verb ended the search
pub stop_end : (c : Ground) (s : Stop) (spot : Spot) (caps : Captures) (t : Told) → IsStop s spot caps t
    → IsEnd c s spot caps t
stop_end c stop.Match spot caps t e = e
stop_end c stop.NoMatch spot caps t e = e
stop_end c (stop.Verb a) spot caps t e = absurd e
stop_end c stop.MatchLimit spot caps t e = e
stop_end c stop.FrameLimit spot caps t e = e
stop_end c stop.Partial spot caps t e = e
stop_end c stop.Loop spot caps t e = e
stop_end c (stop.Abort n) spot caps t e = e
stop_end c stop.Memory spot caps t e = e
