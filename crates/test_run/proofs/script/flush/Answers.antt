use Rattle.test_run.proofs.script.flush.Goals as goal

pub returns-in-Err : goal.returns-in-Err
returns-in-Err g c = record { kept = c.in-Err.ensures.bytes; cause = c.in-Err.ensures.cause }

pub returns-in-Ok : goal.returns-in-Ok
returns-in-Ok g c = record { kept = c.in-Ok.ensures.bytes; cause = c.in-Ok.ensures.cause }
