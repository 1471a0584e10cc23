-- The worked rows, by computation.
use Rattle.std.proofs.Common.{refl}
use Rattle.std.specs.Str.{chars}
use Rattle.byte_lanes.specs.Newlines.{stands}
use Rattle.match_items.specs.Items.{places_back, run_places, run_reaches}
use Rattle.match_items.specs.Rows.{ItemRows, RunRows, BreakRows, ReferenceRows, AnchorRows, WorkedRows}

computing : Unit {0}
unfolding chars stands places_back run_places run_reaches
computing = tt

item_hold : ItemRows
unfolding computing
item_hold = record {
  character = refl;
  other_case = refl;
  end = refl;
  dot_lf = refl;
  dot_crlf = refl;
  dot_any = refl;
  dot_nul = refl;
  half = refl;
  dotall = refl;
  kelvin = refl;
  wide_dot = refl;
}

run_hold : RunRows
unfolding computing
run_hold = record {
  all = refl;
  most = refl;
  wide_run = refl;
  reaching = refl;
  bounded = refl;
  half = refl;
  back = refl;
}

break_hold : BreakRows
unfolding computing
break_hold = record { breaks = refl; reached = refl; form_feed = refl; no_form_feed = refl; separator = refl }

reference_hold : ReferenceRows
unfolding computing
reference_hold = record {
  again = refl;
  other = refl;
  caseless = refl;
  short = (refl, refl);
  other_short = refl;
  widths = refl;
}

anchor_hold : AnchorRows
unfolding computing
anchor_hold = record {
  dollar = refl;
  end_only = refl;
  end_or_newline = refl;
  lines = refl;
  line_ends = refl;
  crlf_line = refl;
  crlf_end = refl;
  half = refl;
  words = refl;
  wide_words = refl;
  no_words = refl;
  looked = refl;
  looked_at_start = refl;
}

pub rows_hold : WorkedRows
rows_hold = record {
  item_rows = item_hold;
  run_rows = run_hold;
  break_rows = break_hold;
  reference_rows = reference_hold;
  anchor_rows = anchor_hold;
}
