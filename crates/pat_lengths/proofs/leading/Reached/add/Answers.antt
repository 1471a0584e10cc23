use Rattle.std.proofs.Common.{◌∙◌, false, refl, sym}
use Rattle.std.proofs.lemmas.List.{get_or_read}
use Rattle.pat_lengths.proofs.LeadingLemmas.{grows_new}
use Rattle.pat_lengths.proofs.leading.Reached.add.Goals as goal

pub returns : goal.returns
returns c =
    let old = c.args.self.now in
    grows_new old _ c.args.id c.requires
    (sym (get_or_read old.seen.items c.args.id c.index.result.now c.requires c.index.ensures false)
    ∙ c.if-index.false) refl c.in_ok-push.ensures.items
