-- What the answer of a search over all start places says.
use Rattle.std.specs.Prelude.{◌≡◌, ℕ, List, Option}
use Rattle.pcre_io.specs.declared.callouts.Block.{Block}
use Rattle.frame_store.specs.Captures.{Captures}
use Rattle.frame_state.specs.declared.answer.PlaceAnswer.{PlaceAnswer}
use Rattle.frame_state.specs.declared.answer.PlaceAnswer.TheVariants as place_told
use Rattle.frame_state.specs.declared.answer.PlaceAnswer.TheVariants.{Failed}
use Rattle.frame_state.specs.Shown.{seen_after}
use Rattle.frame_state.specs.Answer.{IsAnswer, IsMark}
use Rattle.ordered_search.specs.PlaceAnswer.{Signal, Walked, last_name, blocks}
use Rattle.ordered_search.specs.PlaceAnswer as place
use Rattle.match_drive.specs.declared.answer.MatchAnswer.{MatchAnswer}
use Rattle.match_drive.specs.declared.answer.MatchAnswer.TheVariants as told
use Rattle.ordered_search.specs.MatchAnswer as meant
use Rattle.ordered_search.specs.MatchAnswer.{Found, none_found, found_at}
use Rattle.match_drive.specs.Rest.{IsLeft}

-- The answer, and the captures of a match, are those of the search. Without a match the mark is the last name that was
-- met. Want of memory may come at any time.
abbrev pub IsMatchAnswer : MatchAnswer → Captures → Found → Type 0
IsMatchAnswer (told.Match keep to mark) caps f = f.answer ≡ meant.Match
    (record { keep = keep; to = to; mark = mark; caps = caps })
IsMatchAnswer (told.NoMatch mark) caps f = (f.answer ≡ meant.NoMatch) × (mark ≡ last_name f.notes)
IsMatchAnswer (told.Partial start mark) caps f = (f.answer ≡ meant.PartialFrom start) × (mark ≡ last_name f.notes)
IsMatchAnswer told.MatchLimit caps f = f.answer ≡ meant.Error place.MatchLimit
IsMatchAnswer told.FrameLimit caps f = f.answer ≡ meant.Error place.FrameLimit
IsMatchAnswer told.RecurseLoop caps f = f.answer ≡ meant.Error place.Loop
IsMatchAnswer (told.Callout n) caps f = f.answer ≡ meant.Error (place.Abort n)
IsMatchAnswer told.Memory caps f = Unit {0}

-- the last name that the workspace keeps is the last that was met, at the place that decided or before
abbrev pub IsLastMark : MatchAnswer → Option ℕ → Found → Type 0
IsLastMark told.Memory mark f = Unit {0}
IsLastMark _ mark f = mark ≡ last_name f.notes

-- What callouts showed, where it is told, grows by what the search told, at the place that decided and before. Where
-- want of memory is answered, nothing is said.
abbrev pub IsShown : MatchAnswer → Option (List Block) → Option (List Block) → Found → Type 0
IsShown told.Memory old new f = Unit {0}
IsShown _ old new f = new ≡ seen_after old (blocks f.notes)

-- it isn't a partial match
abbrev pub IsNotPartial : MatchAnswer → Type 0
IsNotPartial (told.Partial start mark) = ⊥
IsNotPartial _ = Unit {0}

-- neither want of memory is answered nor a callout's answer
abbrev pub IsOfMatching : MatchAnswer → Type 0
IsOfMatching told.Memory = ⊥
IsOfMatching (told.Callout n) = ⊥
IsOfMatching _ = Unit {0}

-- the place doesn't fail
abbrev pub IsDeciding : PlaceAnswer → Type 0
IsDeciding (Failed signal hit) = ⊥
IsDeciding _ = Unit {0}

-- want of memory at a place is that of the search
abbrev pub TellsMemory : PlaceAnswer → MatchAnswer → Type 0
TellsMemory place_told.Memory result = result ≡ told.Memory
TellsMemory _ result = Unit {0}

-- the search's answer is that of the place at which it is, where it has come so far
abbrev pub TellsPlace : PlaceAnswer → ℕ → Option ℕ → Option ℕ → MatchAnswer → Type 0
TellsPlace answer p first mark result =
    (caps : Captures) (w : Walked) (later : Signal → Found) (old : Option ℕ) (whole : Found) → IsAnswer answer caps w
    → IsMark answer old mark w
    → IsLeft whole first old (found_at p w later) → IsMatchAnswer result caps whole × IsLastMark result mark whole

-- the search's answer where no place decides
abbrev pub TellsNone : Option ℕ → Option ℕ → MatchAnswer → Type 0
TellsNone first mark result = (caps : Captures) (whole : Found) → IsLeft whole first mark none_found
    → IsMatchAnswer result caps whole × IsLastMark result mark whole
