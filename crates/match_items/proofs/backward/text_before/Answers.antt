use Rattle.std.proofs.Common.{◌∙◌, ℕ, sym, ap, arith}
use Rattle.match_items.specs.Views.{bare_text}
use Rattle.match_items.proofs.TextPlaces.{place_before-some}
use Rattle.match_items.proofs.backward.text_before.Goals as goal

pub returns-clause-value : goal.returns-clause-value
returns-clause-value c =
    ap (λ (x : ℕ × ℕ). x.1) c.char_before.ensures.value
    ∙ sym (place_before-some (bare_text c.args.view.now) c.args.at (omega (arith, c.if-at-eq0.false)))
