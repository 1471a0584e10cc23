use Rattle.std.proofs.Common.{ℕ, MatchOption, Option, refl, subst}
use Rattle.frame_state.specs.Ground.{settles}
use Rattle.frame_state.specs.Machine.{towards}
use Rattle.frame_parts.specs.Passing.{IsFollower}
use Rattle.frame_parts.proofs.PassTurns.{next_inside, follows}
use Rattle.frame_parts.proofs.passing.after_part.Goals as goal

pub need_of-requires-clause-inside : goal.need_of-requires-clause-inside
need_of-requires-clause-inside g c = next_inside (g.S.Searchable.searched c.args.on.now)
    (g.met.S.Searchable.sound c.args.on.now) c.args.at c.in-Some.next c.requires.inside _ refl c.in-Some.ensures

pub returns : goal.returns
returns g c =
    subst (λ (o : Option ℕ). MatchOption c.need_of.result (Unit {0})
    (λ f. IsFollower (g.S.Searchable.searched c.args.on.now)
    (towards o (settles (g.S.Searchable.searched c.args.on.now) c.args.at)) c.args.spot.now.frame
    c.args.store.now.records c.args.registers.now f.need f.units)) c.in-Some.ensures
    (follows (g.S.Searchable.searched c.args.on.now) (g.met.S.Searchable.sound c.args.on.now) c.in-Some.next
    c.args.spot.now.frame c.args.store.now.records c.args.registers.now c.need_of.result
    c.need_of.ensures.needs)
