-- Matches in room that was made before.
use Rattle.pat_tree.specs.declared.options.MatchOptions.{MatchOptions}
use Rattle.pat_tree.specs.Sound.{greatest, group_numbers}
use Rattle.match_drive.specs.frame_machine.Scratch.{Workspace, HasRoom}
use Rattle.pcre2_api.specs.Compiled.{CodeParts}
use Rattle.pcre2_errors.specs.declared.error.MatchError.{MatchError}
use Rattle.pcre2_errors.specs.declared.error.MatchError.TheVariants as told
use Rattle.pcre2_api.specs.declared.reserved.ReservedError.{ReservedError}
use Rattle.pcre2_api.specs.declared.reserved.ReservedError.TheVariants as reserved

-- the workspace has room for the pattern's groups and under the frame limit
abbrev pub Fits : CodeParts → MatchOptions → Workspace → Type 0
Fits code options w = HasRoom w (greatest (group_numbers code.tree.nodes)) options.frame_limit

-- neither want of memory refuses a match nor a callout
abbrev pub IsOfMatch : MatchError → Type 0
IsOfMatch told.Memory = ⊥
IsOfMatch (told.Callout n) = ⊥
IsOfMatch _ = Unit {0}

-- the same refusal
abbrev pub as_match_error : ReservedError → MatchError
as_match_error reserved.BadOffset = told.BadOffset
as_match_error (reserved.BadUtf at) = told.BadUtf at
as_match_error reserved.BadUtfOffset = told.BadUtfOffset
as_match_error (reserved.NoMatch mark) = told.NoMatch mark
as_match_error (reserved.Partial start end mark) = told.Partial start end mark
as_match_error reserved.MatchLimit = told.MatchLimit
as_match_error reserved.FrameLimit = told.FrameLimit
as_match_error reserved.RecurseLoop = told.RecurseLoop
