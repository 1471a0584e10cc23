use Rattle.std.proofs.Common.{◌∙◌, ◌<◌, ◌^◌, ◌++◌, ap, sym}
use Rattle.std.proofs.lemmas.List.{get_or_default}
use Rattle.pat_tree.specs.declared.names.NameEntry.{NameEntry}
use Rattle.pat_save.specs.Image.{name_bytes}
use Rattle.pat_save.proofs.Steps.{within_all, within_more, written_more}
use Rattle.pat_save.proofs.tables.put_names.Goals as goal

pub loop-entry-preserved : goal.loop-entry-preserved
loop-entry-preserved c =
    let entries = c.args.entries.now in
    let i = c.loop-entry.entry-index in
    let entry = c.entry-item.result in (
      c.in_ok-put_name.ensures.bytes ∙ ap (λ e. c.loop-entry.out.items ++ name_bytes e) c.entry-item.is
          ∙ written_more name_bytes entries i entry _ c.loop-entry.out.items c.loop-entry-test.true
          c.loop-entry.invariant.0,
      within_more (λ (entry : NameEntry). entry.group < 2 ^ 16) entries i entry c.loop-entry-test.true
          (λ d. get_or_default entries i d entry c.loop-entry-test.true ∙ sym c.entry-item.is)
          c.in_ok-put_name.ensures.short c.loop-entry.invariant.1,
    )

pub returns-clause-short : goal.returns-clause-short
returns-clause-short c =
    within_all (λ (entry : NameEntry). entry.group < 2 ^ 16) c.args.entries.now c.loop-entry.entry-index
    c.loop-entry-test.false c.loop-entry.invariant.1
