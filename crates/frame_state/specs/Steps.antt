-- What the contract of each step of the machine says: that it goes on, or why it stops.
use Rattle.std.specs.Prelude.{◌≤◌, max, List, Option, Result, IfOk, IfErr}
use Rattle.pcre_io.specs.declared.callouts.Block.{Block}
use Rattle.frame_store.specs.Captures.{Captures}
use Rattle.frame_store.specs.Entry.{entries}
use Rattle.frame_store.specs.Stack.{Stack}
use Rattle.ordered_search.specs.Moves.{Moves}
use Rattle.frame_state.specs.declared.machine.Next.{Next}
use Rattle.frame_state.specs.declared.machine.Spot.{Spot}
use Rattle.frame_state.specs.declared.machine.Stop.{Stop}
use Rattle.frame_state.specs.Ground.{Ground}
use Rattle.frame_state.specs.Machine.{Conf, conf}
use Rattle.frame_state.specs.Frames.{ahead}
use Rattle.frame_state.specs.Over.{AdvancesOver, IsStopOver, in_all}
use Rattle.frame_state.specs.Room.{IsShort}
use Rattle.frame_state.specs.Stops.{IsStop, IsEnd, tells}
use Rattle.frame_state.specs.Validity.{Advances}

-- the state of a path over a store and the registers
abbrev pub over : Next → Spot → Stack → Captures → Conf
over next spot store caps = conf next spot (entries store.records) caps

-- a step that may show callouts: where it begins, and the blocks that were shown before it and after it
pub record Showing : Type 0 where
  pub old : Option (List Block)
  pub new : Option (List Block)
  pub from : Conf

abbrev pub showing : (old new : Option (List Block)) → Conf → Showing
showing old new from = record { old = old; new = new; from = from }

module _ (c : Ground) where
  -- a step that goes on from a state advances
  abbrev pub StepsOn : Conf → Spot → Stack → Captures → Result Next Stop → Type 0
  StepsOn m spot store caps result = IfOk result (λ next. Advances c m (over next spot store caps))

  -- one that stops does so as the search does there
  abbrev pub StopsThere : {A : Type 0} → Conf → Spot → Captures → Result A Stop → Type 0
  StopsThere m spot caps result = IfErr result (λ stop. IsStop stop spot caps (tells c.setting m.spot (ahead c m)))

  -- the same where this is ahead of a path
  abbrev pub StopsBy : {A : Type 0} → Spot → Moves → Spot → Captures → Result A Stop → Type 0
  StopsBy old x spot caps result = IfErr result (λ stop. IsStop stop spot caps (tells c.setting old x))

  -- where a verb may have ended the search of the place
  abbrev pub EndsThere : {A : Type 0} → Conf → Spot → Captures → Result A Stop → Type 0
  EndsThere m spot caps result = IfErr result (λ stop. IsEnd c stop spot caps (tells c.setting m.spot (ahead c m)))

  -- the same of a step that may show callouts
  abbrev pub GoesOver : Showing → Spot → Stack → Captures → Result Next Stop → Type 0
  GoesOver s spot store caps result =
      IfOk result (λ next. AdvancesOver c s.old s.new s.from (over next spot store caps))

  abbrev pub StopsOver : {A : Type 0} → Showing → Spot → Captures → Result A Stop → Type 0
  StopsOver s spot caps result =
      IfErr result (λ stop. IsStopOver stop spot caps s.new
      (in_all s.old (tells c.setting s.from.spot (ahead c s.from))))

  -- no more records than the frame limit, or than there were at most before
  abbrev pub KeepsPeak : Stack → Stack → Type 0
  KeepsPeak old new = new.peak ≤ max old.peak c.setting.matching.frame_limit

  -- memory is wanting only where there is no room for as many records as the frame limit
  abbrev pub IsShortAt : {A : Type 0} → Stack → Result A Stop → Type 0
  IsShortAt store result = IfErr result (λ stop. IsShort stop c.setting.matching.frame_limit store)
