use Rattle.std.proofs.Common.{◌≡◌, ◌≤◌, false, max, length}
use Rattle.std.specs.Prelude.{IfSome}
use Rattle.pcre_io.specs.declared.callouts.Block.{Block}
use Rattle.match_items.specs.Subjects.{IsTextPlace}
use Rattle.match_starts.specs.Asked.{passed_over, replied}
use Rattle.ordered_search.specs.Places.{last_place, is_excluded}
use Rattle.ordered_search.specs.MatchAnswer.{match_answer}
use Rattle.match_drive.specs.Rest.{IsLeft, IsShownTo, found_from}
use Rattle.match_drive.proofs.Steps.{places_left}
use Rattle.match_drive.proofs.drive.search_on.Given as goal

-- the place that is next is tried, and what is found from it on is left
abbrev pub invariant-places : goal.invariant-places
invariant-places g l = record {
  left : (let s = replied (g.S.Driven.asked l.on (g.C.Callouts.answers l.fn.calls)).reply
      (g.S.Driven.asked l.on passed_over) in
      IsLeft (match_answer s) l.first l.scratch.last_mark (found_from s l.next));
  begun : IfSome l.next (λ p. (g.S.Driven.asked l.on passed_over).start ≤ p);
  within : IfSome l.next (λ p. p ≤ last_place (g.S.Driven.asked l.on passed_over));
  place : IfSome l.next (IsTextPlace (g.S.Driven.asked l.on passed_over).options
      (g.S.Driven.asked l.on passed_over).subject);
  not_excluded : IfSome l.next (λ p. is_excluded (g.S.Driven.asked l.on passed_over) p ≡ false);
  peak : l.scratch.peak ≤ max l.fn.scratch.peak (g.S.Driven.asked l.on passed_over).matching.frame_limit;
  groups : l.scratch.groups ≡ l.fn.scratch.groups;
  frames : l.scratch.frames ≡ l.fn.scratch.frames;
  rule : (block : Block) → g.C.Callouts.answers l.calls block ≡ g.C.Callouts.answers l.fn.calls block;
  seen : (let s = replied (g.S.Driven.asked l.on (g.C.Callouts.answers l.fn.calls)).reply
      (g.S.Driven.asked l.on passed_over) in
      IsShownTo (g.C.Callouts.seen l.fn.calls) (g.C.Callouts.seen l.calls) (match_answer s) (found_from s l.next));
}

abbrev pub decreases-places : goal.decreases-places
decreases-places g l = places_left (length (g.S.Driven.asked l.on passed_over).subject) l.next
