use Rattle.match_items.specs.Views.{fold_in}
use Rattle.match_starts.proofs.Leads.{lead_told}
use Rattle.match_drive.proofs.course.CourseDriven.lead.Goals as goal

pub returns : goal.returns
returns c =
    let ready = c.args.self.now.ready.now in
    rw c.as_ref.ensures.value (lead_told ready.tree.now (fold_in ready.tree.now.options.utf) ready.facts.now.lead
    c.requires.facts.lead)
