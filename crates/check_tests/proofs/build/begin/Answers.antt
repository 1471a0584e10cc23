use Rattle.std.proofs.Common.{ap}
use Rattle.pat_tree.specs.Parts.{DraftParts}
use Rattle.check_tests.proofs.DraftLemmas.{draft_begun}
use Rattle.check_tests.proofs.build.begin.Goals as goal

pub returns-clause-made : goal.returns-clause-made
returns-clause-made c =
    let new = c.new-draft.ensures in
    rw (c.in_ok-add_class.ensures.grows)
    (draft_begun c.new-draft.result _ (ap (λ (d : DraftParts). d.nodes) new) (ap (λ (d : DraftParts). d.classes) new)
    (ap (λ (d : DraftParts). d.names) new))
