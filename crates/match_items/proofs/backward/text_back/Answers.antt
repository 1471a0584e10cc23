use Rattle.std.proofs.Common.{◌∙◌, ℕ, ◌-◌, sym, ap, arith}
use Rattle.std.specs.List.{slice_get}
use Rattle.match_items.specs.Items.{places_back}
use Rattle.match_items.specs.Views.{bare_text}
use Rattle.match_items.proofs.TextPlaces.{back_none, back_more, back_done}
use Rattle.match_items.proofs.backward.text_back.Goals as goal

pub returns-then-place-eq0-clause-value : goal.returns-then-place-eq0-clause-value
returns-then-place-eq0-clause-value c =
    let g = bare_text c.args.view.now in
    sym (c.loop-left.invariant.back ∙ back_none g c.loop-left.left c.loop-left.place
    (omega (arith, c.loop-left-test.true)) (omega (arith, c.if-place-eq0.true)))

pub loop-left-preserved : goal.loop-left-preserved
loop-left-preserved c =
    let g = bare_text c.args.view.now in
    let at = c.text_before-place.result in
    record {
      place = c.text_before-place.ensures.place;
      back =
          c.loop-left.invariant.back
          ∙ back_more g (c.loop-left.left - 1) c.loop-left.left c.loop-left.place
          (omega (arith, c.loop-left-test.true)) (omega (arith, c.if-place-eq0.false))
          ∙ ap (λ (p : ℕ). slice_get (places_back g (c.loop-left.left - 1) p) (c.loop-left.left - 1))
          (sym c.text_before-place.ensures.value);
    }

pub returns-clause-value : goal.returns-clause-value
returns-clause-value c =
    sym (c.loop-left.invariant.back ∙ back_done (bare_text c.args.view.now) c.loop-left.left c.loop-left.place
    (omega (arith, c.loop-left-test.false)))
