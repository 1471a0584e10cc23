use Rattle.std.proofs.Common.{◌≡◌, ◌≢◌, ◌+◌, ◌-◌, ◌^◌, length}
use Rattle.line_feed.specs.declared.phase.Phase.TheVariants.{Closed}
use Rattle.line_feed.specs.View.{HoldsRow}
use Rattle.line_feed.specs.Steps.{Moves}
use Rattle.line_feed.proofs.Moving.{going}
use Rattle.line_feed.proofs.feed.LineFeed.gather.Given as goal

abbrev pub invariant-piece : goal.invariant-piece
invariant-piece g l = record {
  moves : Moves l.initial.self l.self (g.S.Source.tells l.initial.source) (g.S.Source.tells l.source);
  live : l.self.phase ≢ Closed;
  lazy : HoldsRow l.initial.self.kind l.initial.self.held
      → (l.self ≡ l.initial.self) × (g.S.Source.tells l.source ≡ g.S.Source.tells l.initial.source);
}

abbrev pub decreases-piece : goal.decreases-piece
decreases-piece g l = 2 ^ 40 - (l.self.offset + length l.self.held) + going l.self.phase
