-- The worked rows, by computation.
use Rattle.std.proofs.Common.{◌≡◌, refl, true, [], ◌∷◌}
use Rattle.std.specs.Str.{chars}
use Rattle.std.specs.Char.{encode_utf8}
use Rattle.byte_lanes.specs.Newlines.{stands}
use Rattle.byte_lanes.specs.Places.{least_of}
use Rattle.pat_lengths.specs.Nodes.{nodes}
use Rattle.pat_lengths.specs.Lengths.{lengths, by_calls, lead_to, behind}
use Rattle.ordered_search.specs.pat_check.Lead.{lead}
use Rattle.match_items.specs.Items.{places_back, run_places, run_reaches}
use Rattle.dfa_ends.specs.EndList.{has_spot, union, every, keep_if, after_turns, further, all_within, repeated}
use Rattle.dfa_ends.specs.EndList.{item_ends, try_list, ends_list, insert, falling}
use Rattle.dfa_ends.specs.DfaAnswer.{some_spot, some_turn, reach_test, admitted, last_of, EndsFrom, from_place}
use Rattle.dfa_ends.specs.DfaAnswer.{dfa_answer}
use Rattle.dfa_ends.specs.Rows.{Answered, ends, three, inside, refusing, partials, WorkedRows}

computing : Unit {0}
unfolding chars encode_utf8 stands least_of nodes lengths by_calls lead_to behind lead places_back
    run_places run_reaches has_spot union every keep_if after_turns further all_within repeated
    item_ends try_list ends_list insert falling some_spot some_turn reach_test admitted last_of
    from_place
computing = tt

ends_hold : Answered ends
unfolding computing
ends_hold = (refl, (refl, (refl, (refl, (refl, (refl, (refl, (refl, (refl, tt)))))))))

shortest_holds : dfa_answer three true ≡ EndsFrom 0 (1 ∷ [])
unfolding computing
shortest_holds = refl

inside_hold : Answered inside
unfolding computing
inside_hold = (refl, (refl, (refl, (refl, (refl, (refl, (refl, tt)))))))

refusing_hold : Answered refusing
unfolding computing
refusing_hold = (refl, (refl, (refl, tt)))

partials_hold : Answered partials
unfolding computing
partials_hold = (refl, (refl, (refl, (refl, (refl, tt)))))

pub rows_hold : WorkedRows
rows_hold = record {
  ends_answered = ends_hold;
  shortest_answered = shortest_holds;
  inside_answered = inside_hold;
  refusing_answered = refusing_hold;
  partials_answered = partials_hold;
}
