-- What an answer says.
use Rattle.std.specs.Prelude.{◌≡◌, ℕ, Bool, true, List, Option}
use Rattle.std.specs.Option.{option_or}
use Rattle.frame_store.specs.Captures.{Captures}
use Rattle.pat_tree.specs.declared.options.Options.{Options}
use Rattle.match_items.specs.Subjects.{IsTextPlace}
use Rattle.pcre_io.specs.declared.callouts.Block.{Block}
use Rattle.frame_state.specs.declared.answer.PlaceAnswer.{PlaceAnswer}
use Rattle.frame_state.specs.declared.answer.PlaceAnswer.TheVariants as told
use Rattle.frame_state.specs.declared.answer.Signal.{Signal}
use Rattle.frame_state.specs.declared.answer.Signal.TheVariants as signal
use Rattle.frame_state.specs.declared.machine.Acting.{Acting}
use Rattle.frame_state.specs.declared.machine.Acting.TheVariants as acting
use Rattle.frame_state.specs.declared.machine.Spot.{Spot}
use Rattle.frame_state.specs.declared.machine.Stop.{Stop}
use Rattle.frame_state.specs.declared.machine.Stop.TheVariants as stop
use Rattle.ordered_search.specs.PlaceAnswer as meant
use Rattle.ordered_search.specs.PlaceAnswer.{Walked, has_hit, last_name, blocks}
use Rattle.frame_state.specs.Machine.{mark_of}
use Rattle.frame_state.specs.Shown.{seen_after}

abbrev pub signal_of : Signal → meant.Signal
signal_of signal.Exhausted = meant.Exhausted
signal_of signal.Prune = meant.Prune
signal_of (signal.Skip p) = meant.Skip p
signal_of signal.Commit = meant.Commit

-- the answer, and the captures of a match, are those of the search; want of memory may come at any time
abbrev pub IsAnswer : PlaceAnswer → Captures → Walked → Type 0
IsAnswer (told.Matched keep to mark) caps w = w.answer ≡ meant.Matched
    (record { keep = keep; to = to; mark = mark; caps = caps })
IsAnswer (told.Failed signal hit) caps w = (w.answer ≡ meant.Failed (signal_of signal)) × (hit ≡ has_hit w.notes)
IsAnswer told.Partial caps w = w.answer ≡ meant.Partial
IsAnswer told.MatchLimit caps w = w.answer ≡ meant.MatchLimit
IsAnswer told.FrameLimit caps w = w.answer ≡ meant.FrameLimit
IsAnswer told.Loop caps w = w.answer ≡ meant.Loop
IsAnswer (told.Abort n) caps w = w.answer ≡ meant.Abort n
IsAnswer told.Memory caps w = Unit {0}

-- the last name is the last that was met, or the earlier one
abbrev pub IsMark : PlaceAnswer → Option ℕ → Option ℕ → Walked → Type 0
IsMark told.Memory old new w = Unit {0}
IsMark _ old new w = new ≡ option_or (last_name w.notes) old

-- what callouts showed, where it is told, grows by what the search told
abbrev pub IsSeen : PlaceAnswer → Option (List Block) → Option (List Block) → Walked → Type 0
IsSeen told.Memory old new w = Unit {0}
IsSeen _ old new w = new ≡ seen_after old (blocks w.notes)

-- where SKIP names the next start place, this is a place of the subject
abbrev pub IsSkip : Options → List ℕ → Signal → Type 0
IsSkip options subject (signal.Skip p) = IsTextPlace options subject p
IsSkip options subject _ = Unit {0}

abbrev pub SkipsToPlace : Options → List ℕ → PlaceAnswer → Type 0
SkipsToPlace options subject (told.Failed signal hit) = IsSkip options subject signal
SkipsToPlace options subject _ = Unit {0}

-- such a place stands in what is searched
abbrev pub SkipStands : (ℕ → Bool) → PlaceAnswer → Type 0
SkipStands stands (told.Failed (signal.Skip p) hit) = stands p ≡ true
SkipStands stands _ = Unit {0}

-- how a place failed where a verb did
abbrev pub signal_by : Acting → Signal
signal_by acting.Prune = signal.Prune
signal_by (acting.Skip p) = signal.Skip p
signal_by acting.Commit = signal.Commit

-- the answer where the machine stops so
abbrev pub answer_at : Stop → Spot → PlaceAnswer
answer_at stop.Match spot = told.Matched spot.keep spot.place (mark_of spot.mark)
answer_at stop.NoMatch spot = told.Failed signal.Exhausted spot.last.hit
answer_at stop.Partial spot = told.Partial
answer_at (stop.Verb a) spot = told.Failed (signal_by a) spot.last.hit
answer_at stop.MatchLimit spot = told.MatchLimit
answer_at stop.FrameLimit spot = told.FrameLimit
answer_at stop.Loop spot = told.Loop
answer_at (stop.Abort n) spot = told.Abort n
answer_at stop.Memory spot = told.Memory
