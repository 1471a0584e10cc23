use Rattle.std.proofs.Common.{◌<◌, ◌∷◌, [], length, subst, arith}
use Rattle.std.proofs.lemmas.List.Elements.{All-head}
use Rattle.check_tests.specs.Drafts.{IsDraft}
use Rattle.check_tests.proofs.DraftLemmas.{last_below}
use Rattle.check_tests.proofs.build.tree_of.Goals.{in-Some, in-None+in_ok-root-in-None}
use Rattle.check_tests.proofs.build.tree_of.Goals as goal

pub finish-requires-clause-root : goal.finish-requires-clause-root
finish-requires-clause-root c = elim c.match-pop.branch [
  | in-Some w ↦
      let d = c.loop-at.draft in
      let front = c.pop.new.self.items in
      let all = last_below d front (w.in-Some.root ∷ [])
      (subst (IsDraft d) w.in-Some.ensures.items c.loop-at.invariant.made) in
      rw (w.root-is, w.draft-is) (All-head (λ k. k < length d.nodes) w.in-Some.root [] all)
  | in-None+in_ok-root-in-None w ↦
      rw (w.root-is, w.draft-is) (omega (
        arith,
        w.in_ok-root-in-None.ensures.number,
        w.in_ok-root-in-None.ensures.count,
      ))
]
