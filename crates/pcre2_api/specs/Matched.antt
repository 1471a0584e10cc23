-- What a match of a compiled pattern answers (pcre2api, "Matching a pattern: the traditional function").
use Rattle.std.specs.Prelude.{◌≡◌, ℕ, ◌≤◌, ◌==◌, ◌&&◌, ◌||◌, not, false, ℤ, List, All, length, Option, Some, None}
use Rattle.pat_tree.specs.declared.options.MatchOptions.{MatchOptions}
use Rattle.pat_tree.specs.Sound.{greatest, group_numbers}
use Rattle.pcre_io.specs.declared.callouts.Block.{Block}
use Rattle.ordered_search.specs.Setting.{Setting, endanchored, notempty, notempty_atstart}
use Rattle.match_drive.specs.frame_board.Ready.{setting_in}
use Rattle.ordered_search.specs.PlaceAnswer as place
use Rattle.match_drive.specs.frame_state.Shown.{seen_after}
use Rattle.ordered_search.specs.PlaceAnswer.{Outcome, last_name, blocks}
use Rattle.ordered_search.specs.MatchAnswer as meant
use Rattle.ordered_search.specs.MatchAnswer.{match_answer}
use Rattle.ordered_search.specs.Forward.{IsPlaced, IsWithin}
use Rattle.pcre2_api.specs.Compiled.{CodeParts}
use Rattle.match_items.specs.Subjects.{IsTextPlace}
use Rattle.pcre2_api.specs.Starts.{start_fault}
use Rattle.pcre2_errors.specs.declared.error.MatchError.{MatchError}
use Rattle.pcre2_errors.specs.declared.error.MatchError.TheVariants as told

-- what the search of a match is about; the blocks of callouts are answered so
abbrev pub search_of : CodeParts → MatchOptions → List ℕ → ℕ → (Block → ℤ) → Setting
search_of code matching subject start answers = setting_in code.tree matching subject start answers

-- a match of a compiled pattern in a subject
pub record MatchParts : Type 0 where
  pub code : CodeParts
  pub subject : List ℕ
  pub outcome : Outcome

-- The text and the captures lie in the subject, and there is a register for each group.
pub record AreParts (f : MatchParts) : Type 0 where
  pub ordered : f.outcome.keep ≤ f.outcome.to
  pub within : f.outcome.to ≤ length f.subject
  pub caps : All (IsWithin (length f.subject)) f.outcome.caps
  pub groups : length f.outcome.caps ≡ greatest (group_numbers f.code.tree.nodes)

-- The options admit the text (pcre2api, "Option bits for pcre2_match()"): NOTEMPTY none that is empty, NOTEMPTY_ATSTART
-- none that is empty at the start, and ENDANCHORED only one that ends where the subject does.
pub record IsAdmitted (g : Setting) (o : Outcome) : Type 0 where
  pub not_empty : ((o.keep == o.to) && (notempty g || notempty_atstart g && (o.keep == g.start))) ≡ false
  pub at_end : (endanchored g && not (o.to == length g.subject)) ≡ false

-- why the search can't begin, if it can't
abbrev pub fault_in : Setting → Option MatchError
fault_in g = start_fault g.options.utf g.subject g.start

-- What callouts showed, where it is told, grows by what the search shows. One that can't begin shows nothing.
abbrev pub shown_by : Setting → Option (List Block) → Option (List Block)
shown_by g before = elim (fault_in g) [
  | Some e ↦ before
  | None ↦ seen_after before (blocks (match_answer g).notes)
]

-- where want of memory is answered, nothing is said of it
abbrev pub HasShown : MatchError → Option (List Block) → Option (List Block) → Type 0
HasShown told.Memory now shown = Unit {0}
HasShown _ now shown = now ≡ shown

-- the search can begin, it is what the search answers, it lies in the subject, and the options admit it
pub record IsFound (g : Setting) (f : MatchParts) : Type 0 where
  pub begun : fault_in g ≡ None
  pub answer : (match_answer g).answer ≡ meant.Match f.outcome
  pub placed : IsPlaced g f.outcome
  pub admitted : IsAdmitted g f.outcome

-- Why there is no match: each refusal has its cause, and where nothing matches the last name is told that was met at
-- any place. A partial match goes from a place at the start or past it to the subject's end. A callout that ends the
-- match is told by its number. Want of memory may come at any time.
abbrev pub IsMatchError : Setting → MatchError → Type 0
IsMatchError g told.BadOffset = fault_in g ≡ Some told.BadOffset
IsMatchError g (told.BadUtf at) = fault_in g ≡ Some (told.BadUtf at)
IsMatchError g told.BadUtfOffset = fault_in g ≡ Some told.BadUtfOffset
IsMatchError g (told.NoMatch mark) =
    (fault_in g ≡ None) × ((match_answer g).answer ≡ meant.NoMatch)
    × (mark ≡ last_name (match_answer g).notes)
IsMatchError g (told.Partial start end mark) =
    (fault_in g ≡ None) × ((match_answer g).answer ≡ meant.PartialFrom start)
    × (mark ≡ last_name (match_answer g).notes)
    × (g.start ≤ start) × IsTextPlace g.options g.subject start × (end ≡ length g.subject)
IsMatchError g told.MatchLimit = (fault_in g ≡ None) × ((match_answer g).answer ≡ meant.Error place.MatchLimit)
IsMatchError g told.FrameLimit = (fault_in g ≡ None) × ((match_answer g).answer ≡ meant.Error place.FrameLimit)
IsMatchError g told.RecurseLoop = (fault_in g ≡ None) × ((match_answer g).answer ≡ meant.Error place.Loop)
IsMatchError g (told.Callout n) = (fault_in g ≡ None) × ((match_answer g).answer ≡ meant.Error (place.Abort n))
IsMatchError g told.Memory = Unit {0}
