use Rattle.std.proofs.lemmas.Option.{IfSome_then}
use Rattle.match_drive.proofs.outline.Outline.repeat_for.Goals as goal

pub returns-then-goes_by_repeat : goal.returns-then-goes_by_repeat
returns-then-goes_by_repeat c tree known =
    let on = c.if-goes_by_repeat.true in
    rw c.as_ref.ensures.value (IfSome_then c.args.self.now.repeat known (λ first begins. record {
      pattern = begins;
      bytes = c.goes_by_repeat.ensures.bytes on;
      off = c.goes_by_repeat.ensures.off on;
      room = c.goes_by_repeat.ensures.room on;
    }))
