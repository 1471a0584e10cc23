use Rattle.std.proofs.Common.{◌≡◌, ◌≤◌, ◌∷◌, [], length, IfSome}
use Rattle.std.specs.Str.{is_utf8}
use Rattle.ordered_search.specs.PlaceAnswer.{Outcome}
use Rattle.line_feed.specs.Rows.{Row}
use Rattle.grep_match.specs.Compiled.{patterns_in}
use Rattle.grep_match.specs.Found.{Lists}
use Rattle.grep_multi.specs.Given.{EndsAt, IsBehind, lines_at}
use Rattle.grep_multi.proofs.Growing.{IsOn}
use Rattle.grep_multi.proofs.blocks.later.Given as goal

abbrev pub invariant-loop-turn : goal.invariant-loop-turn
invariant-loop-turn l = record {
  begun : l.start ≤ length l.search.text.now;
  behind : IsBehind l.search.text.now l.line l.reach;
  known : IfSome l.work.utf8 (λ b. b ≡ is_utf8 l.search.text.now);
  on : (row : Row) (o : Outcome) → EndsAt row l.line → row.number ≡ l.line.behind.lines → l.to ≡ o.to
      → Lists l.search.plan.now.only_matching (length l.search.text.now) l.initial.work.found (o ∷ [])
      → IsOn l.search.kind l.search.plan.now (patterns_in l.search.patterns.now) l.search.text.now row
      (lines_at l.search.kind l.search.text.now l.line.behind) o l.work.found l._turn l.start l.reach;
}
