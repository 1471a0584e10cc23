use Rattle.std.proofs.Common.{◌∙◌, ◌++◌, All, List, ap, subst, sym}
use Rattle.std.proofs.lemmas.List.{get_or_default}
use Rattle.pat_save.specs.Image.{record_bytes}
use Rattle.pat_save.specs.Sized.{IsSized}
use Rattle.pat_save.specs.declared.saved.Saved.{Saved}
use Rattle.pat_save.proofs.Steps.{within_all, within_more, written_more}
use Rattle.pat_save.proofs.writing.whole_image.Goals as goal

pub loop-saved-preserved : goal.loop-saved-preserved
loop-saved-preserved c =
    let list = c.as_slice-patterns.result.now in
    let i = c.loop-saved.saved-index in
    let saved = c.saved-item.result in (
      c.in_ok-put_record.ensures.bytes ∙ ap (λ s. c.loop-saved.out.items ++ record_bytes s) c.saved-item.is
          ∙ written_more record_bytes list i saved _ c.loop-saved.out.items c.loop-saved-test.true
          c.loop-saved.invariant.0,
      within_more (λ (s : Saved). IsSized s.tree) list i saved c.loop-saved-test.true
          (λ d. get_or_default list i d saved c.loop-saved-test.true ∙ sym c.saved-item.is)
          c.in_ok-put_record.ensures.sized c.loop-saved.invariant.1,
    )

pub returns-clause-sized : goal.returns-clause-sized
returns-clause-sized c =
    let P : List Saved → Type 0 = λ list. All (λ s. IsSized s.tree) list in
    subst P c.as_slice-patterns.ensures
    (within_all (λ (s : Saved). IsSized s.tree) c.as_slice-patterns.result.now c.loop-saved.saved-index
    c.loop-saved-test.false c.loop-saved.invariant.1)
