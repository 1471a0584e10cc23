use Rattle.std.proofs.Common.{◌≡◌, drop}
use Rattle.match_items.specs.Items.{same_front}
use Rattle.match_items.specs.Views.{bare_text}
use Rattle.match_items.proofs.references.same_front.Given as goal

abbrev pub invariant-loop-i : goal.invariant-loop-i
invariant-loop-i l =
    same_front (bare_text l.view) l.caseless l.text l.rest ≡ same_front (bare_text l.view) l.caseless
    (drop l.i l.text) (drop l.i l.rest)
