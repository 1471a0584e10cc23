use Rattle.std.proofs.Common.{Some}
use Rattle.std.proofs.lemmas.Result.{on_ok_weaker}
use Rattle.grep_targets.proofs.words.take_path.Goals as goal

pub returns-in-Ok-clause-stands : goal.returns-in-Ok-clause-stands
returns-in-Ok-clause-stands g c =
    on_ok_weaker c.take_kind.result (λ grown. (grown.0, grown.1, (Some c.in-Ok.kind, grown.2)))
    c.take_kind.ensures.stands
