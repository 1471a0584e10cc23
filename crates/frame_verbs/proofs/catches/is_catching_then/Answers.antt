use Rattle.std.proofs.Common.{◌∙◌}
use Rattle.frame_verbs.proofs.Leaving.{catches_look, catches_look_all, catches_then}
use Rattle.frame_verbs.proofs.catches.is_catching_then.Goals as goal

pub returns-then-frame-eq-KIND_LOOK_OPEN : goal.returns-then-frame-eq-KIND_LOOK_OPEN
returns-then-frame-eq-KIND_LOOK_OPEN c = catches_look c.args.frame.now c.if-frame-eq-KIND_LOOK_OPEN.true

pub returns-then-frame-eq-KIND_LOOK_ALL_OPEN : goal.returns-then-frame-eq-KIND_LOOK_ALL_OPEN
returns-then-frame-eq-KIND_LOOK_ALL_OPEN c = catches_look_all c.args.frame.now c.if-frame-eq-KIND_LOOK_ALL_OPEN.true

pub returns : goal.returns
returns c = c.is_catching.ensures ∙ catches_then c.args.frame.now c.if-frame-eq-KIND_LOOK_OPEN.false
    c.if-frame-eq-KIND_LOOK_ALL_OPEN.false
