use Rattle.std.proofs.Common.{◌≡◌, ◌∙◌, true, false, inl, inr, sym, ap, subst}
use Rattle.std.specs.Prelude.{not}
use Rattle.regex_hir.specs.Meaning.{meaning}
use Rattle.pat_shape.proofs.Anchors.{start_told, end_told, caret_told, dollar_told, close_told, word_told}
use Rattle.pat_shape.proofs.Anchors.{not_word_told, told_off}
use Rattle.pat_shape.proofs.pieces.anchor_shape.Goals.{then-not-multi, else-not-multi, then-not-ucp, else-not-ucp}
use Rattle.pat_shape.proofs.pieces.anchor_shape.Goals.{then-not-ucp-2, else-not-ucp-2}
use Rattle.pat_shape.proofs.pieces.anchor_shape.Goals as goal

pub returns-in-SubjectStart : goal.returns-in-SubjectStart
returns-in-SubjectStart c lined = start_told c.args.tree.now lined c.args.kind true (meaning c.look_if.result)
    c.in-SubjectStart.is c.look_if.ensures

pub returns-in-SubjectEnd : goal.returns-in-SubjectEnd
returns-in-SubjectEnd c lined =
    end_told c.args.tree.now lined c.args.kind true (meaning c.look_if-in-SubjectEnd.result) c.in-SubjectEnd.is
    c.look_if-in-SubjectEnd.ensures

pub returns-after-not-multi : goal.returns-after-not-multi
returns-after-not-multi c lined =
    caret_told c.args.tree.now lined c.args.kind c.if-not-multi.look_if (meaning c.look_if-in-Caret.result)
    c.in-Caret.multi c.in-Caret.is
    (λ on. elim c.if-not-multi.branch [
      | then-not-multi w ↦ inl w.if-not-multi.true
      | else-not-multi w ↦ inr (c.ends_by_lf-by_lf.ensures (sym w.look_if-is ∙ on))
    ]) c.look_if-in-Caret.ensures

pub returns-in-Dollar : goal.returns-in-Dollar
returns-in-Dollar c lined =
    dollar_told c.args.tree.now lined c.args.kind c.ends_by_lf-by_lf.result (meaning c.look_if-in-Dollar.result)
    c.in-Dollar.multi c.in-Dollar.end_only c.in-Dollar.is c.ends_by_lf-by_lf.ensures c.look_if-in-Dollar.ensures

pub returns-in-EndOrNewline : goal.returns-in-EndOrNewline
returns-in-EndOrNewline c lined =
    close_told c.args.tree.now lined c.args.kind c.ends_by_lf-by_lf.result (meaning c.look_if-in-EndOrNewline.result)
    c.in-EndOrNewline.is c.ends_by_lf-by_lf.ensures c.look_if-in-EndOrNewline.ensures

pub returns-after-not-ucp : goal.returns-after-not-ucp
returns-after-not-ucp c lined =
    word_told c.args.tree.now lined c.args.kind c.if-not-ucp.look_if (meaning c.look_if-in-Word.result) c.in-Word.ucp
    c.in-Word.is
    (λ on. elim c.if-not-ucp.branch [
      | then-not-ucp w ↦ (
        w.if-not-ucp.true,
        told_off c.options.result.now.utf _ (ap (λ o. o.utf) c.options.ensures)
            (sym w.look_if-is ∙ on),
      )
      | else-not-ucp w ↦ absurd (let e : false ≡ true = subst (λ b. not b ≡ true) w.if-not-ucp.false
          (sym w.look_if-is ∙ on) in cc)
    ]) c.look_if-in-Word.ensures

pub returns-after-not-ucp-2 : goal.returns-after-not-ucp-2
returns-after-not-ucp-2 c lined =
    not_word_told c.args.tree.now lined c.args.kind c.if-not-ucp-2.look_if (meaning c.look_if-in-NotWord.result)
    c.in-NotWord.ucp c.in-NotWord.is
    (λ on. elim c.if-not-ucp-2.branch [
      | then-not-ucp-2 w ↦ (
        w.if-not-ucp-2.true,
        told_off c.options.result.now.utf _
            (ap (λ o. o.utf) c.options.ensures) (sym w.look_if-is ∙ on),
      )
      | else-not-ucp-2 w ↦ absurd (let e : false ≡ true = subst (λ b. not b ≡ true) w.if-not-ucp-2.false
          (sym w.look_if-is ∙ on) in cc)
    ]) c.look_if-in-NotWord.ensures
