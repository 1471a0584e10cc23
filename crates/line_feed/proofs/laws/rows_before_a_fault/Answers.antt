use Rattle.std.proofs.Common.{refl}
use Rattle.byte_lanes.specs.Places.{least_of}
use Rattle.byte_lanes.specs.Newlines.{stands}
use Rattle.line_feed.specs.Rows.{rows_within}
use Rattle.line_feed.proofs.laws.rows_before_a_fault.Goals as goal

pub returns-clause-unfinished : goal.returns-clause-unfinished
unfolding rows_within least_of stands
returns-clause-unfinished c = refl

pub returns-clause-whole : goal.returns-clause-whole
unfolding rows_within least_of stands
returns-clause-whole c = refl
