use Rattle.std.proofs.Common.{ℕ, List, sym, subst, arith}
use Rattle.pat_tree.specs.declared.nodes.Node.TheVariants as node
use Rattle.frame_store.specs.Entry.{entries}
use Rattle.frame_state.specs.Ground.{IsNode}
use Rattle.frame_looks.proofs.CondTurns.{asserted_inside, is_tested, two_parts, two_long, called_parts}
use Rattle.frame_looks.proofs.CondTurns.{stray_callout, stray_look, look_is}
use Rattle.frame_looks.proofs.CalledTests.{stop_called, called_fails, called_goes, called_stops}
use Rattle.frame_looks.proofs.conds.enter_called.Goals as goal

pub node-requires : goal.node-requires
node-requires g c = (called_parts (g.S.Searchable.searched c.args.on.now) c.args.part c.as_slice-parts.result.now
    (subst (λ (xs : List ℕ). IsNode (g.S.Searchable.searched c.args.on.now) c.args.part (node.Seq xs))
    (sym c.as_slice-parts.ensures) c.requires.node)
    (is_tested (g.S.Searchable.searched c.args.on.now) (g.met.S.Searchable.sound c.args.on.now) c.args.at
    c.args.spot.now (entries c.args.store.now.records) c.args.registers.now c.requires.valid c.args.part
    c.requires.asserted) _ _ (two_parts (g.S.Searchable.searched c.args.on.now) c.args.part
    c.as_slice-parts.result.now
    (subst (λ (xs : List ℕ). IsNode (g.S.Searchable.searched c.args.on.now) c.args.part (node.Seq xs))
    (sym c.as_slice-parts.ensures) c.requires.node)
    (is_tested (g.S.Searchable.searched c.args.on.now) (g.met.S.Searchable.sound c.args.on.now) c.args.at
    c.args.spot.now (entries c.args.store.now.records) c.args.registers.now c.requires.valid c.args.part
    c.requires.asserted)) (asserted_inside (g.S.Searchable.searched c.args.on.now)
    (g.met.S.Searchable.sound c.args.on.now) c.args.at c.args.spot.now (entries c.args.store.now.records)
    c.args.registers.now c.requires.valid c.args.part c.requires.asserted)).0

pub node-requires-2 : goal.node-requires-2
node-requires-2 g c = (called_parts (g.S.Searchable.searched c.args.on.now) c.args.part c.as_slice-parts.result.now
    (subst (λ (xs : List ℕ). IsNode (g.S.Searchable.searched c.args.on.now) c.args.part (node.Seq xs))
    (sym c.as_slice-parts.ensures) c.requires.node)
    (is_tested (g.S.Searchable.searched c.args.on.now) (g.met.S.Searchable.sound c.args.on.now) c.args.at
    c.args.spot.now (entries c.args.store.now.records) c.args.registers.now c.requires.valid c.args.part
    c.requires.asserted) _ _ (two_parts (g.S.Searchable.searched c.args.on.now) c.args.part
    c.as_slice-parts.result.now
    (subst (λ (xs : List ℕ). IsNode (g.S.Searchable.searched c.args.on.now) c.args.part (node.Seq xs))
    (sym c.as_slice-parts.ensures) c.requires.node)
    (is_tested (g.S.Searchable.searched c.args.on.now) (g.met.S.Searchable.sound c.args.on.now) c.args.at
    c.args.spot.now (entries c.args.store.now.records) c.args.registers.now c.requires.valid c.args.part
    c.requires.asserted)) (asserted_inside (g.S.Searchable.searched c.args.on.now)
    (g.met.S.Searchable.sound c.args.on.now) c.args.at c.args.spot.now (entries c.args.store.now.records)
    c.args.registers.now c.requires.valid c.args.part c.requires.asserted)).1

pub unreachable-requires : goal.unreachable-requires
unreachable-requires g c =
    stray_callout (g.S.Searchable.searched c.args.on.now) c.args.part c.as_slice-parts.result.now
    (subst (λ (xs : List ℕ). IsNode (g.S.Searchable.searched c.args.on.now) c.args.part (node.Seq xs))
    (sym c.as_slice-parts.ensures) c.requires.node)
    (is_tested (g.S.Searchable.searched c.args.on.now) (g.met.S.Searchable.sound c.args.on.now) c.args.at
    c.args.spot.now (entries c.args.store.now.records) c.args.registers.now c.requires.valid c.args.part
    c.requires.asserted) _ _ (two_parts (g.S.Searchable.searched c.args.on.now) c.args.part
    c.as_slice-parts.result.now
    (subst (λ (xs : List ℕ). IsNode (g.S.Searchable.searched c.args.on.now) c.args.part (node.Seq xs))
    (sym c.as_slice-parts.ensures) c.requires.node)
    (is_tested (g.S.Searchable.searched c.args.on.now) (g.met.S.Searchable.sound c.args.on.now) c.args.at
    c.args.spot.now (entries c.args.store.now.records) c.args.registers.now c.requires.valid c.args.part
    c.requires.asserted)) _ c.node.ensures c.in_default.not-Callout

pub unreachable-requires-in_default-node : goal.unreachable-requires-in_default-node
unreachable-requires-in_default-node g c =
    stray_look (g.S.Searchable.searched c.args.on.now) c.args.part c.as_slice-parts.result.now
    (subst (λ (xs : List ℕ). IsNode (g.S.Searchable.searched c.args.on.now) c.args.part (node.Seq xs))
    (sym c.as_slice-parts.ensures) c.requires.node)
    (is_tested (g.S.Searchable.searched c.args.on.now) (g.met.S.Searchable.sound c.args.on.now) c.args.at
    c.args.spot.now (entries c.args.store.now.records) c.args.registers.now c.requires.valid c.args.part
    c.requires.asserted) _ _ (two_parts (g.S.Searchable.searched c.args.on.now) c.args.part
    c.as_slice-parts.result.now
    (subst (λ (xs : List ℕ). IsNode (g.S.Searchable.searched c.args.on.now) c.args.part (node.Seq xs))
    (sym c.as_slice-parts.ensures) c.requires.node)
    (is_tested (g.S.Searchable.searched c.args.on.now) (g.met.S.Searchable.sound c.args.on.now) c.args.at
    c.args.spot.now (entries c.args.store.now.records) c.args.registers.now c.requires.valid c.args.part
    c.requires.asserted)) _ c.node-2.ensures c.in_default-node.not-Look

pub open_test-requires-clause-test : goal.open_test-requires-clause-test
open_test-requires-clause-test g c = record {
  part = c.args.part;
  asserted = c.requires.asserted;
  inside = (called_parts (g.S.Searchable.searched c.args.on.now) c.args.part c.as_slice-parts.result.now
      (subst (λ (xs : List ℕ). IsNode (g.S.Searchable.searched c.args.on.now) c.args.part (node.Seq xs))
      (sym c.as_slice-parts.ensures) c.requires.node)
      (is_tested (g.S.Searchable.searched c.args.on.now) (g.met.S.Searchable.sound c.args.on.now) c.args.at
      c.args.spot.now (entries c.args.store.now.records) c.args.registers.now c.requires.valid c.args.part
      c.requires.asserted) _ _ (two_parts (g.S.Searchable.searched c.args.on.now) c.args.part
      c.as_slice-parts.result.now
      (subst (λ (xs : List ℕ). IsNode (g.S.Searchable.searched c.args.on.now) c.args.part (node.Seq xs))
      (sym c.as_slice-parts.ensures) c.requires.node)
      (is_tested (g.S.Searchable.searched c.args.on.now) (g.met.S.Searchable.sound c.args.on.now) c.args.at
      c.args.spot.now (entries c.args.store.now.records) c.args.registers.now c.requires.valid c.args.part
      c.requires.asserted)) (asserted_inside (g.S.Searchable.searched c.args.on.now)
      (g.met.S.Searchable.sound c.args.on.now) c.args.at c.args.spot.now (entries c.args.store.now.records)
      c.args.registers.now c.requires.valid c.args.part c.requires.asserted)).1;
}

pub open_test-requires-clause-look : goal.open_test-requires-clause-look
open_test-requires-clause-look g c = look_is (g.S.Searchable.searched c.args.on.now) _ _ c.node-2.ensures _ _ _ _
    c.in-Look.is

pub returns-in-Ok-true-clause-on : goal.returns-in-Ok-true-clause-on
returns-in-Ok-true-clause-on g c = called_goes (g.S.Searchable.searched c.args.on.now)
    (g.met.S.Searchable.sound c.args.on.now) c.args.at c.args.spot.now (entries c.args.store.now.records)
    c.args.registers.now c.requires.valid (g.C.Callouts.answers c.args.calls.now) c.requires.replied c.args.part
    c.requires.asserted c.as_slice-parts.result.now
    (subst (λ (xs : List ℕ). IsNode (g.S.Searchable.searched c.args.on.now) c.args.part (node.Seq xs))
    (sym c.as_slice-parts.ensures) c.requires.node) _ _
    (two_parts (g.S.Searchable.searched c.args.on.now) c.args.part c.as_slice-parts.result.now
    (subst (λ (xs : List ℕ). IsNode (g.S.Searchable.searched c.args.on.now) c.args.part (node.Seq xs))
    (sym c.as_slice-parts.ensures) c.requires.node)
    (is_tested (g.S.Searchable.searched c.args.on.now) (g.met.S.Searchable.sound c.args.on.now) c.args.at
    c.args.spot.now (entries c.args.store.now.records) c.args.registers.now c.requires.valid c.args.part
    c.requires.asserted)) c.in-Callout.number c.in-Callout.text_from c.in-Callout.text_to c.in-Callout.item_at
    c.in-Callout.item_len (subst (IsNode (g.S.Searchable.searched c.args.on.now) _) c.in-Callout.is c.node.ensures) _
    c.in-Look.positive c.in-Look.branches (look_is (g.S.Searchable.searched c.args.on.now) _ _ c.node-2.ensures _ _ _
    _ c.in-Look.is) _ _ (rw c.block_of-block.ensures at c.in-Ok-true.ensures.seen)
    (rw (c.block_of-block.ensures, c.in-Ok-true.field-0-test) at c.in-Ok-true.ensures.followed) _ c.open_test.result
    c.open_test.ensures.on

pub returns-in-Ok-true-clause-stop : goal.returns-in-Ok-true-clause-stop
returns-in-Ok-true-clause-stop g c = called_stops (g.S.Searchable.searched c.args.on.now)
    (g.met.S.Searchable.sound c.args.on.now) c.args.at c.args.spot.now (entries c.args.store.now.records)
    c.args.registers.now c.requires.valid (g.C.Callouts.answers c.args.calls.now) c.requires.replied c.args.part
    c.requires.asserted c.as_slice-parts.result.now
    (subst (λ (xs : List ℕ). IsNode (g.S.Searchable.searched c.args.on.now) c.args.part (node.Seq xs))
    (sym c.as_slice-parts.ensures) c.requires.node) _ _
    (two_parts (g.S.Searchable.searched c.args.on.now) c.args.part c.as_slice-parts.result.now
    (subst (λ (xs : List ℕ). IsNode (g.S.Searchable.searched c.args.on.now) c.args.part (node.Seq xs))
    (sym c.as_slice-parts.ensures) c.requires.node)
    (is_tested (g.S.Searchable.searched c.args.on.now) (g.met.S.Searchable.sound c.args.on.now) c.args.at
    c.args.spot.now (entries c.args.store.now.records) c.args.registers.now c.requires.valid c.args.part
    c.requires.asserted)) c.in-Callout.number c.in-Callout.text_from c.in-Callout.text_to c.in-Callout.item_at
    c.in-Callout.item_len (subst (IsNode (g.S.Searchable.searched c.args.on.now) _) c.in-Callout.is c.node.ensures) _
    c.in-Look.positive c.in-Look.branches (look_is (g.S.Searchable.searched c.args.on.now) _ _ c.node-2.ensures _ _ _
    _ c.in-Look.is) _ _ (rw c.block_of-block.ensures at c.in-Ok-true.ensures.seen)
    (rw (c.block_of-block.ensures, c.in-Ok-true.field-0-test) at c.in-Ok-true.ensures.followed) _ _ c.open_test.result
    c.open_test.ensures.stop

pub returns-in-Ok-false-clause-on : goal.returns-in-Ok-false-clause-on
returns-in-Ok-false-clause-on g c = called_fails (g.S.Searchable.searched c.args.on.now)
    (g.met.S.Searchable.sound c.args.on.now) c.args.at c.args.spot.now (entries c.args.store.now.records)
    c.args.registers.now c.requires.valid (g.C.Callouts.answers c.args.calls.now) c.requires.replied c.args.part
    c.requires.asserted c.as_slice-parts.result.now
    (subst (λ (xs : List ℕ). IsNode (g.S.Searchable.searched c.args.on.now) c.args.part (node.Seq xs))
    (sym c.as_slice-parts.ensures) c.requires.node) _ _
    (two_parts (g.S.Searchable.searched c.args.on.now) c.args.part c.as_slice-parts.result.now
    (subst (λ (xs : List ℕ). IsNode (g.S.Searchable.searched c.args.on.now) c.args.part (node.Seq xs))
    (sym c.as_slice-parts.ensures) c.requires.node)
    (is_tested (g.S.Searchable.searched c.args.on.now) (g.met.S.Searchable.sound c.args.on.now) c.args.at
    c.args.spot.now (entries c.args.store.now.records) c.args.registers.now c.requires.valid c.args.part
    c.requires.asserted)) c.in-Callout.number c.in-Callout.text_from c.in-Callout.text_to c.in-Callout.item_at
    c.in-Callout.item_len (subst (IsNode (g.S.Searchable.searched c.args.on.now) _) c.in-Callout.is c.node.ensures) _
    c.in-Look.positive c.in-Look.branches (look_is (g.S.Searchable.searched c.args.on.now) _ _ c.node-2.ensures _ _ _
    _ c.in-Look.is) _ _ (rw c.block_of-block.ensures at c.in-Ok-false.ensures.seen)
    (rw (c.block_of-block.ensures, c.in-Ok-false.field-0-test) at c.in-Ok-false.ensures.followed)

pub returns-in-Err-clause-stop : goal.returns-in-Err-clause-stop
returns-in-Err-clause-stop g c = stop_called (g.S.Searchable.searched c.args.on.now)
    (g.met.S.Searchable.sound c.args.on.now) c.args.at c.args.spot.now (entries c.args.store.now.records)
    c.args.registers.now c.requires.valid (g.C.Callouts.answers c.args.calls.now) c.requires.replied c.args.part
    c.requires.asserted c.as_slice-parts.result.now
    (subst (λ (xs : List ℕ). IsNode (g.S.Searchable.searched c.args.on.now) c.args.part (node.Seq xs))
    (sym c.as_slice-parts.ensures) c.requires.node) _ _
    (two_parts (g.S.Searchable.searched c.args.on.now) c.args.part c.as_slice-parts.result.now
    (subst (λ (xs : List ℕ). IsNode (g.S.Searchable.searched c.args.on.now) c.args.part (node.Seq xs))
    (sym c.as_slice-parts.ensures) c.requires.node)
    (is_tested (g.S.Searchable.searched c.args.on.now) (g.met.S.Searchable.sound c.args.on.now) c.args.at
    c.args.spot.now (entries c.args.store.now.records) c.args.registers.now c.requires.valid c.args.part
    c.requires.asserted)) c.in-Callout.number c.in-Callout.text_from c.in-Callout.text_to c.in-Callout.item_at
    c.in-Callout.item_len (subst (IsNode (g.S.Searchable.searched c.args.on.now) _) c.in-Callout.is c.node.ensures) _
    c.in-Look.positive c.in-Look.branches (look_is (g.S.Searchable.searched c.args.on.now) _ _ c.node-2.ensures _ _ _
    _ c.in-Look.is) _ _ c.in-Err.stop (rw c.block_of-block.ensures at c.in-Err.ensures.stop)

pub bounds-parts-0 : goal.bounds-parts-0
bounds-parts-0 g c = omega (
  arith,
  two_long (g.S.Searchable.searched c.args.on.now) c.args.part
      c.as_slice-parts.result.now
      (subst (λ (xs : List ℕ). IsNode (g.S.Searchable.searched c.args.on.now) c.args.part (node.Seq xs))
      (sym c.as_slice-parts.ensures) c.requires.node)
      (is_tested (g.S.Searchable.searched c.args.on.now) (g.met.S.Searchable.sound c.args.on.now) c.args.at
      c.args.spot.now (entries c.args.store.now.records) c.args.registers.now c.requires.valid c.args.part
      c.requires.asserted),
)

pub bounds-parts-1 : goal.bounds-parts-1
bounds-parts-1 g c = omega (
  arith,
  two_long (g.S.Searchable.searched c.args.on.now) c.args.part
      c.as_slice-parts.result.now
      (subst (λ (xs : List ℕ). IsNode (g.S.Searchable.searched c.args.on.now) c.args.part (node.Seq xs))
      (sym c.as_slice-parts.ensures) c.requires.node)
      (is_tested (g.S.Searchable.searched c.args.on.now) (g.met.S.Searchable.sound c.args.on.now) c.args.at
      c.args.spot.now (entries c.args.store.now.records) c.args.registers.now c.requires.valid c.args.part
      c.requires.asserted),
)

pub bounds-parts-1-in-Ok-true : goal.bounds-parts-1-in-Ok-true
bounds-parts-1-in-Ok-true g c =
    omega (
      arith,
      two_long (g.S.Searchable.searched c.args.on.now) c.args.part c.as_slice-parts.result.now
          (subst (λ (xs : List ℕ). IsNode (g.S.Searchable.searched c.args.on.now) c.args.part (node.Seq xs))
          (sym c.as_slice-parts.ensures) c.requires.node)
          (is_tested (g.S.Searchable.searched c.args.on.now) (g.met.S.Searchable.sound c.args.on.now) c.args.at
          c.args.spot.now (entries c.args.store.now.records) c.args.registers.now c.requires.valid c.args.part
          c.requires.asserted),
    )
