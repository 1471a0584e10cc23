use Rattle.std.proofs.Common.{ap, length, arith}
use Rattle.pat_tree.specs.Parts.{DraftParts}
use Rattle.machine_tests.proofs.MadeLemmas.{made_none}
use Rattle.machine_tests.proofs.trees.tree_of.Goals as goal

pub loop-step-init : goal.loop-step-init
loop-step-init c =
    let new = c.new-draft.ensures in
    let none = ap (λ (d : DraftParts). length d.nodes) new in
    record {
      made = rw c.new-waiting.ensures.items (made_none c.new-draft.result (ap (λ (d : DraftParts). d.nodes) new)
          (ap (λ (d : DraftParts). d.options.utf) new)
          (ap (λ (d : DraftParts). d.classes) new) (ap (λ (d : DraftParts). d.names) new));
      count = omega (arith, none);
    }
