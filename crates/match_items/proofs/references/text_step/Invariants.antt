use Rattle.std.proofs.Common.{◌≡◌, ◌+◌, ◌-◌, length, drop, chars}
use Rattle.std.specs.Str.{IsCharBoundary}
use Rattle.match_items.specs.Items.{after_text, text_reaches}
use Rattle.match_items.specs.Views.{bare_text}
use Rattle.match_items.proofs.references.text_step.Given as goal

abbrev pub invariant-loop-compared : goal.invariant-loop-compared
invariant-loop-compared l = record {
  text : IsCharBoundary l.text l.compared;
  rest : IsCharBoundary l.rest l.taken;
  after : after_text (bare_text l.view) l.caseless (chars l.text) (chars l.rest) l.at
      ≡ after_text (bare_text l.view) l.caseless (chars (drop l.compared l.text)) (chars (drop l.taken l.rest))
      (l.at + l.taken);
  reaches : text_reaches (bare_text l.view) l.caseless (chars l.text) (chars l.rest)
      ≡ text_reaches (bare_text l.view) l.caseless (chars (drop l.compared l.text)) (chars (drop l.taken l.rest));
}

abbrev pub decreases-loop-compared : goal.decreases-loop-compared
decreases-loop-compared l = length l.text - l.compared
