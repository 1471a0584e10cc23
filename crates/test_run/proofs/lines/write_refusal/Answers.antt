use Rattle.std.proofs.Common.{}
use Rattle.tool_io.proofs.Writing.{writes-same}
use Rattle.test_run.proofs.Saying.{modifier-text, value-text}
use Rattle.test_run.proofs.lines.write_refusal.Goals as goal

pub returns-in-UnknownModifier : goal.returns-in-UnknownModifier
returns-in-UnknownModifier g c =
    rw c.in-UnknownModifier.is (writes-same (modifier-text _ c.bytes.result.now c.bytes.ensures)
    c.write_texts-in-UnknownModifier.ensures)

pub returns-in-BadSubject : goal.returns-in-BadSubject
returns-in-BadSubject g c = rw c.in-BadSubject.is c.write_texts-in-BadSubject.ensures

pub returns-in-BadModifierValue : goal.returns-in-BadModifierValue
returns-in-BadModifierValue g c =
    rw c.in-BadModifierValue.is
    (writes-same (value-text _ c.bytes-in-BadModifierValue.result.now c.bytes-in-BadModifierValue.ensures)
    c.write_texts-in-BadModifierValue.ensures)
