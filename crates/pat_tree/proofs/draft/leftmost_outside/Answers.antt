use Rattle.std.proofs.Common.{◌≡◌, ◌∙◌, ◌-◌, ◌+◌, ◌<◌, ◌++◌, refl, ap, sym, arith, length, drop}
use Rattle.std.proofs.Math.Seq.{drop-length}
use Rattle.pat_tree.specs.Refs.{refs, refs_of, named_by, marked}
use Rattle.pat_tree.proofs.Growing.{refs_drop}
use Rattle.pat_tree.proofs.Named.{bad_at}
use Rattle.pat_tree.proofs.draft.leftmost_outside.Goals as goal

pub loop-i-init : goal.loop-i-init
unfolding refs
loop-i-init c = (omega arith, rw (drop-length c.args.nodes.now) refl)

pub loop-i-preserved : goal.loop-i-preserved
loop-i-preserved c =
    let i = c.loop-i.i in
    let ps = c.args.nodes.now in
    let p = c.index-nodes-i.result in
    let within : i - 1 < length ps = omega (arith, c.loop-i.invariant.0, c.loop-i-test.true) in
    let back : (i - 1) + 1 ≡ i = omega (arith, c.loop-i-test.true) in
    let later : refs (drop (i - 1) ps) ≡ refs_of p ++ refs (drop i ps) =
    refs_drop ps (i - 1) p within c.index-nodes-i.is ∙ ap (λ k. refs_of p ++ refs (drop k ps)) back in (
      omega (arith, c.loop-i.invariant.0),
      c.with_place-leftmost.ensures ∙ rw (later, c.names_groups.ensures, c.loop-i.invariant.1)
          (sym (bad_at (marked c.args.groups.now) p.at (named_by p.node) (refs (drop i ps)))),
    )
