use Rattle.std.proofs.Common.{ap, ap₂, ◌∙◌}
use Rattle.std.specs.List.{list_any}
use Rattle.char_sets.specs.Named.{set_part_has}
use Rattle.char_sets.specs.Runs.{range_part_has}
use Rattle.char_sets.specs.Table.{inside, turned_if}
use Rattle.char_sets.proofs.PartLemmas.{inside-takes, char_in-takes}
use Rattle.char_sets.proofs.entry.Entry.of.Goals as goal

pub returns : goal.returns
returns c =
    let class = c.args.class.now in
    let runs = c.in_ok-runs.runs.items in
    let sets = c.in_ok-sets.sets.items in
    char_in-takes c.args.utf class c.bytes_of-bytes.result runs sets
    (λ k lt. c.bytes_of-bytes.ensures k lt ∙ ap₂ (λ rs ss. turned_if class.negated (inside rs ss k))
    c.deref.ensures.value c.deref-2.ensures.value)
    (λ x. inside-takes c.args.utf class runs sets x
    (c.in_ok-runs.ensures.same x ∙ ap (list_any (λ part. range_part_has c.args.utf class.caseless x part))
    c.as_slice-parts.ensures)
    (c.in_ok-sets.ensures x ∙ ap (list_any (λ part. set_part_has class.caseless x part)) c.as_slice-parts.ensures))
