use Rattle.std.proofs.Common.{refl}
use Rattle.byte_lanes.specs.Places.{least_of}
use Rattle.byte_lanes.specs.Newlines.{stands}
use Rattle.line_feed.specs.Rows.{rows_within}
use Rattle.line_feed.proofs.laws.rows_by_convention.Goals as goal

pub returns-clause-any_crlf : goal.returns-clause-any_crlf
unfolding rows_within least_of stands
returns-clause-any_crlf c = refl

pub returns-clause-crlf : goal.returns-clause-crlf
unfolding rows_within least_of stands
returns-clause-crlf c = refl

pub returns-clause-line_separator : goal.returns-clause-line_separator
unfolding rows_within least_of stands
returns-clause-line_separator c = refl
