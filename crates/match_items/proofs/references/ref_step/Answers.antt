use Rattle.std.proofs.Common.{◌∙◌, ℕ, Bool, Option, length, chars, slice_range, ap}
use Rattle.std.proofs.lemmas.Str.{IsUtf8-between}
use Rattle.uni_text.proofs.CharLemmas.{IsUtf8-from}
use Rattle.match_items.specs.Items.{after_ref, text_reaches}
use Rattle.match_items.specs.Views.{bare_text, told}
use Rattle.match_items.proofs.TextRefs.{after_ref-text, ref_reaches-text}
use Rattle.match_items.proofs.references.ref_step.Goals as goal

pub text_step-requires-clause-text : goal.text_step-requires-clause-text
text_step-requires-clause-text c =
    let utf = c.if-view.true in
    IsUtf8-between c.args.view.now.subject.now c.args.from c.args.to (c.requires.subject.checked utf)
    c.requires.ordered (c.requires.from.between utf) (c.requires.to.between utf)

pub text_step-requires-clause-rest : goal.text_step-requires-clause-rest
text_step-requires-clause-rest c =
    let utf = c.if-view.true in
    IsUtf8-from c.args.view.now.subject.now c.args.at (c.requires.subject.checked utf) (c.requires.place.between utf)

pub returns-then-view : goal.returns-then-view
returns-then-view c =
    let g = bare_text c.args.view.now in
    let text = chars (slice_range g.subject c.args.from c.args.to) in
    let rest = chars (slice_range g.subject c.args.at (length g.subject)) in
    c.text_step.ensures
    ∙ ap (λ (o : Option ℕ). told o (text_reaches g c.args.caseless text rest))
    (after_ref-text g c.args.from c.args.to c.args.at c.args.caseless c.if-view.true c.requires.place.within)
    ∙ ap (λ (b : Bool). told (after_ref g c.args.from c.args.to c.args.caseless c.args.at) b)
    (ref_reaches-text g c.args.from c.args.to c.args.at c.args.caseless c.if-view.true c.requires.place.within)
