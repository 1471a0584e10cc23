use Rattle.std.proofs.Common.{◌∙◌, refl, sym, length, arith}
use Rattle.dfa_paths.proofs.Places.{among_at, get_of}
use Rattle.dfa_lists.proofs.Landing.{landed_on, landed_all, with_some, with_none}
use Rattle.dfa_lists.proofs.lists.advance.Goals as goal
use Rattle.dfa_lists.proofs.lists.advance.Goals.{in-Some+in_ok-push, in_default}

pub bounds-search-leaves : goal.bounds-search-leaves
bounds-search-leaves g c = c.requires.leaves _ (among_at _ _ 0 c.leaves-test.true)

pub land-requires-clause-node : goal.land-requires-clause-node
land-requires-clause-node g c =
    let l = c.requires.leaves _ (among_at _ _ 0 c.leaves-test.true) in
    let nodes = c.args.search.now.nodes.now in
    (length nodes, c.requires.search.graph _ _ (get_of nodes _ _ l))

pub leaves-preserved : goal.leaves-preserved
leaves-preserved g c =
    let l = c.requires.leaves _ (among_at _ _ 0 c.leaves-test.true) in
    record {
      within = omega (arith, c.leaves-test.true);
      later = elim c.match-land.branch [
        | in-Some+in_ok-push w ↦
            rw (w.later-is, w.in_ok-push.ensures.items)
            (landed_on _ _ _ _ _ 0 _ _ _ _ c.leaves-test.true l
            (with_some _ _ _ _ _ _ _ c.land.ensures.value w.in-Some.is w.target_of.ensures refl)
            c.leaves.invariant.later)
        | in_default w ↦
            rw w.later-is
            (landed_on _ _ _ _ _ 0 _ _ _ _ c.leaves-test.true l
            (with_none _ _ _ _ _ c.land.ensures.value w.in_default.not-Some refl)
            c.leaves.invariant.later)
      ];
      tests = omega (arith, c.land.ensures.tests, c.leaves.invariant.tests);
    }

pub returns-clause-later : goal.returns-clause-later
returns-clause-later g c =
    sym (landed_all _ _ _ _ _ _ c.leaves-test.false) ∙ c.leaves.invariant.later
