use Rattle.frame_verbs.proofs.CatchTurns.{catches_denial, catches_look_test, catches_denial_test, catches_call}
use Rattle.frame_verbs.proofs.CatchTurns.{catches_not}
use Rattle.frame_verbs.proofs.catches.is_catching.Goals as goal

pub returns-then-frame-eq-KIND_DENIAL_OPEN : goal.returns-then-frame-eq-KIND_DENIAL_OPEN
returns-then-frame-eq-KIND_DENIAL_OPEN c = catches_denial c.args.frame.now c.if-frame-eq-KIND_DENIAL_OPEN.true

pub returns-then-frame-eq-KIND_LOOK_TEST : goal.returns-then-frame-eq-KIND_LOOK_TEST
returns-then-frame-eq-KIND_LOOK_TEST c = catches_look_test c.args.frame.now c.if-frame-eq-KIND_LOOK_TEST.true

pub returns-then-frame-eq-KIND_DENIAL_TEST : goal.returns-then-frame-eq-KIND_DENIAL_TEST
returns-then-frame-eq-KIND_DENIAL_TEST c = catches_denial_test c.args.frame.now c.if-frame-eq-KIND_DENIAL_TEST.true

pub returns-then-frame-eq-KIND_CALL_OPEN : goal.returns-then-frame-eq-KIND_CALL_OPEN
returns-then-frame-eq-KIND_CALL_OPEN c = catches_call c.args.frame.now c.if-frame-eq-KIND_CALL_OPEN.true

pub returns : goal.returns
returns c =
    catches_not c.args.frame.now c.if-frame-eq-KIND_DENIAL_OPEN.false c.if-frame-eq-KIND_LOOK_TEST.false
    c.if-frame-eq-KIND_DENIAL_TEST.false c.if-frame-eq-KIND_CALL_OPEN.false
