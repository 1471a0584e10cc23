use Rattle.std.proofs.Common.{◌≡◌, List, drop, length, flat_map}
use Rattle.line_feed.specs.Lines.{row_of}
use Rattle.ordered_search.specs.PlaceAnswer.{Outcome}
use Rattle.grep_match.specs.Found.{Lists, groups_of}
use Rattle.grep_output.specs.Texts.{match_text}
use Rattle.tool_io.proofs.Writing.{IsLeft}
use Rattle.grep_output.proofs.parts.write_matches.Given as goal

abbrev pub invariant-loop-i : goal.invariant-loop-i
invariant-loop-i g l =
    (os : List Outcome) → Lists l.plan.only_matching (length l.line.bytes.now) l.found os
    → (l.groups ≡ flat_map (groups_of l.plan.only_matching) (drop l.i os))
    × IsLeft (flat_map (match_text l.plan l.name l.plan.offsets (row_of l.line)) os)
    (flat_map (match_text l.plan l.name l.plan.offsets (row_of l.line)) (drop l.i os))
    (g.O.Sink.tells l.initial.out) (g.O.Sink.tells l.out)
