-- The worked rows, by computation.
use Rattle.std.proofs.Common.{refl}
use Rattle.std.specs.Char.{encode_utf8}
use Rattle.byte_lanes.specs.Newlines.{stands}
use Rattle.pat_lengths.specs.Nodes.{nodes}
use Rattle.pat_lengths.specs.Lengths.{lengths, by_calls, lead_to, behind}
use Rattle.pat_check.specs.Lead.{lead}
use Rattle.pat_check.specs.Size.{whole_size}
use Rattle.pat_check.specs.Rows.{LengthRows, EmptyRows, LeadRows, SizeRows, NameRows, WorkedRows}

computing : Unit {0}
unfolding encode_utf8 stands nodes lengths by_calls lead_to behind lead whole_size
computing = tt

length_hold : LengthRows
unfolding computing
length_hold = record {
  fixed = refl;
  unlimited = refl;
  limited = refl;
  newline = refl;
  branches = refl;
  turns = refl;
  recursive = refl;
  called = refl;
  referred = refl;
  unset = refl;
  accepting = refl;
  accepting_inside = refl;
  refused = refl;
  passed = refl;
  too_long = refl;
}

empty_hold : EmptyRows
unfolding computing
empty_hold = record {
  star = refl;
  never_empty = refl;
  circular = refl;
  optional = refl;
  accepting = refl;
  reference = refl;
  definition = refl;
}

lead_hold : LeadRows
unfolding computing
lead_hold = record {
  passed = refl;
  ahead = refl;
  caseless = refl;
  newline = refl;
  empty_match = refl;
  unknown = refl;
  behind = refl;
  accepting = refl;
  unencoded = refl;
  encoded = refl;
  surrogate = refl;
}

size_hold : SizeRows
unfolding computing
size_hold = record { counted = refl; endless = refl; far = refl }

name_hold : NameRows
unfolding computing
name_hold = record {
  character = refl;
  range_end = refl;
  inside_range = refl;
  named_set = refl;
  lookbehind = refl;
  lookahead = refl;
}

pub rows_hold : WorkedRows
rows_hold = record {
  length_rows = length_hold;
  empty_rows = empty_hold;
  lead_rows = lead_hold;
  size_rows = size_hold;
  name_rows = name_hold;
}
