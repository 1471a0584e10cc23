use Rattle.std.proofs.Common.{sym, ◌∙◌, arith}
use Rattle.std.proofs.lemmas.Bool.{ltb-true}
use Rattle.frame_parts.proofs.FarEnds.{far_fails}
use Rattle.frame_parts.proofs.passing.is_far.Goals as goal

pub returns-then-is_of_end : goal.returns-then-is_of_end
returns-then-is_of_end g c = λ t.
    far_fails (g.S.Searchable.searched c.args.on.now).setting.scene c.args.at
    (omega (arith, ltb-true _ _ t, c.saturating_sub.ensures, c.length.ensures)) c.args.kind
    (sym c.is_of_end.ensures ∙ c.if-is_of_end.true)
