use Rattle.std.proofs.Common.{refl}
use Rattle.byte_lanes.specs.Places.{least_of}
use Rattle.byte_lanes.specs.Newlines.{stands}
use Rattle.line_feed.specs.Rows.{rows_within}
use Rattle.line_feed.proofs.laws.rows_that_are_too_long.Goals as goal

pub returns-clause-second : goal.returns-clause-second
unfolding rows_within least_of stands
returns-clause-second c = refl

pub returns-clause-last_cr : goal.returns-clause-last_cr
unfolding rows_within least_of stands
returns-clause-last_cr c = refl

pub returns-clause-last_cr_at_the_end : goal.returns-clause-last_cr_at_the_end
unfolding rows_within least_of stands
returns-clause-last_cr_at_the_end c = refl

pub returns-clause-part_of_a_newline : goal.returns-clause-part_of_a_newline
unfolding rows_within least_of stands
returns-clause-part_of_a_newline c = refl
