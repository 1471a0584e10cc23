use Rattle.std.proofs.Common.{◌≡◌, ◌+◌, ◌∷◌, ◌++◌, [], length, ap, ◌∙◌, arith, below_more, length-append}
use Rattle.char_sets.specs.Table.{table_has}
use Rattle.char_sets.proofs.TableLemmas.{table_has-before, table_has-newest, IsTableOf-whole}
use Rattle.char_sets.proofs.table.ClassTable.build.Goals as goal

pub loop-id-preserved : goal.loop-id-preserved
loop-id-preserved c =
    let old = c.loop-id.entries.items in
    let entry = c.in_ok-entry.entry in
    let id = c.loop-id.id in
    let count : length old ≡ id = c.loop-id.invariant.count in
    let items : c.push.new.self.items ≡ old ++ entry ∷ [] = c.in_ok-push.ensures.items in
    record {
      count = ap length items ∙ length-append old (entry ∷ []) ∙ ap (λ n. n + 1) count;
      classes = below_more _ _
          (λ k l x. ap (λ t. table_has t k x) items ∙ table_has-before old entry k x (omega arith)
          ∙ c.loop-id.invariant.classes k l x)
          (λ x. ap (λ t. table_has t id x) items ∙ table_has-newest old entry id x count
          ∙ c.in_ok-entry.ensures
          (λ k l y. ap (λ t. table_has t k y) c.deref.ensures.value ∙ c.loop-id.invariant.classes k l y) x);
    }

pub returns : goal.returns
returns c =
    IsTableOf-whole c.args.tree.now c.loop-id.entries.items c.loop-id.id c.loop-id.invariant.count
    (omega (arith, c.loop-id-test.false, c.classes-id-end.ensures)) c.loop-id.invariant.classes
