use Rattle.std.proofs.Common.{◌∙◌, ◌-◌, [], ◌∷◌, ◌++◌, ap, sym, arith}
use Rattle.dfa_drive.proofs.Downward.{last_is, last_of_none}
use Rattle.dfa_drive.proofs.ends.shortest_of.Goals as goal

pub returns-then-count-eq0 : goal.returns-then-count-eq0
returns-then-count-eq0 c =
    last_of_none c.args.falling (omega (arith, c.len-count.ensures, c.if-count-eq0.true))

pub returns : goal.returns
returns c =
    c.in_ok-push.ensures.ok
    ∙ ap (λ qs. qs ++ c.get.result.now ∷ []) c.new-only.ensures
    ∙ sym (last_is c.args.falling (c.len-count.result - 1) c.get.result.now
    (omega (arith, c.len-count.ensures, c.if-count-eq0.false)) c.get.ensures)
