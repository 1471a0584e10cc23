-- Lines that are passed over without a search, as the scan sees them.
use Rattle.std.specs.Prelude.{◌≡◌, ℕ, ◌<◌, ◌≤◌, true, false, List, [], Option, None, Ok}
use Rattle.std.specs.List.{All}
use Rattle.line_feed.specs.Rows.{Row}
use Rattle.line_feed.specs.View.{Feed}
use Rattle.grep_args.specs.declared.plan.GrepPlan.{GrepPlan}
use Rattle.grep_match.specs.Matches.{Tried, tried_row, is_selected}
use Rattle.grep_match.specs.Modes.{is_with}
use Rattle.grep_output.specs.declared.shows.Show.{Show}
use Rattle.grep_output.specs.declared.shows.Show.TheVariants.{Lines}
use Rattle.grep_output.specs.Course.{Course, passed_out, course_after_passed}
use Rattle.grep_output.specs.Context.{parts_groups}
use Rattle.grep_watch.specs.declared.watch.Watch.{Watch}
use Rattle.grep_watch.specs.Watched.{PassesOver}
use Rattle.grep_core.specs.Work.{Work}

-- a line isn't selected, nothing is shown of it, and it leaves the course as it is
pub record IsUnseen (plan : GrepPlan) (name : List ℕ) (show : Show) (c : Course) (t : Tried)
    : Type 0 where
  pub selected : is_selected plan t ≡ false
  pub out : passed_out plan name show c t ≡ []
  pub course : course_after_passed plan show c t.row ≡ c

-- each line behind so many that has no match is unseen
abbrev pub HidesUnmatched : GrepPlan → List ℕ → Show → Course → ℕ → Type 0
HidesUnmatched plan name show c number =
    (t : Tried) → t.matches ≡ Ok [] → number < t.row.number → IsUnseen plan name show c t

-- rows without a match were passed over, all of them unseen
pub record PassesUnseen (work : Work) (c : Course) (w : Watch) (f g : Feed) : Type 0 where
  pub over : PassesOver work.plan work.patterns w f g
  pub unseen : All (λ (row : Row). IsUnseen work.plan work.name work.show c
      (tried_row work.plan work.patterns row)) over.rows

-- a line without a match is selected, no number of them ends the scan, and nothing but its bytes and
-- its newline is written of it
pub record PrintsUnmatched (plan : GrepPlan) (show : Show) (most : Option ℕ) (c : Course)
    : Type 0 where
  pub inverts : plan.invert_match ≡ true
  pub lines : show ≡ Lines
  pub endless : most ≡ None
  pub apart : parts_groups plan ≡ false
  pub unnamed : is_with plan.names ≡ false
  pub unnumbered : plan.line_number ≡ false
  pub alone : c.earlier ≡ []

-- each line behind so many that has no match isn't selected, nothing is shown of it, and it is kept
-- for a later one
pub record KeepsUnmatched (plan : GrepPlan) (show : Show) (c : Course) (number : ℕ) : Type 0 where
  pub some : 0 < plan.before_context
  pub upright : plan.invert_match ≡ false
  pub lines : show ≡ Lines
  pub past : c.context_to ≤ number
