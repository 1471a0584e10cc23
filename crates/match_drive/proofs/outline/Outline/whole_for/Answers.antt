use Rattle.std.proofs.lemmas.Option.{IfSome_then}
use Rattle.match_drive.proofs.outline.Outline.whole_for.Goals as goal

pub returns-then-goes_by_whole : goal.returns-then-goes_by_whole
returns-then-goes_by_whole c tree known =
    let on = c.if-goes_by_whole.true in
    rw c.as_ref.ensures.value (IfSome_then c.args.self.now.whole known (λ only is. record {
      pattern = is;
      off = c.goes_by_whole.ensures.off on;
      step = c.goes_by_whole.ensures.step on;
      unit = c.goes_by_whole.ensures.unit on;
    }))
