use Rattle.std.proofs.Common.{◌≡◌, ◌≤◌, ℤ, length}
use Rattle.std.specs.Prelude.{IfSome}
use Rattle.ordered_search.specs.Stream.{Block}
use Rattle.match_items.specs.Subjects.{IsTextPlace}
use Rattle.match_starts.specs.Asked.{passed_over, replied}
use Rattle.match_drive.specs.Rest.{found_from}
use Rattle.match_drive.proofs.Steps.{places_left, IsNoEarlier}
use Rattle.match_drive.proofs.places.next_tried.Given as goal

-- what is found from the place on is what was found from the first
abbrev pub invariant-places : goal.invariant-places
invariant-places g l = record {
  same : (reply : Block → ℤ) → found_from (replied reply (g.S.Driven.asked l.on passed_over)) l.next ≡ found_from
      (replied reply (g.S.Driven.asked l.on passed_over)) l.fn.from;
  within : IfSome l.next (λ p. p ≤ l.last);
  place : IfSome l.next (IsTextPlace (g.S.Driven.asked l.on passed_over).options
      (g.S.Driven.asked l.on passed_over).subject);
  later : IfSome l.next (IsNoEarlier l.fn.from);
}

abbrev pub decreases-places : goal.decreases-places
decreases-places g l = places_left (length (g.S.Driven.asked l.on passed_over).subject) l.next
