use Rattle.pat_build.proofs.Checked.{is_checked, is_refused}
use Rattle.pat_build.proofs.reader.in_utf8.Goals as goal

pub returns-in-Ok-clause-ok : goal.returns-in-Ok-clause-ok
returns-in-Ok-clause-ok c = rw c.if-not-utf.false (is_checked c.args.text.now c.in-Ok.ensures.exact)

pub returns-in-Err-clause-why : goal.returns-in-Err-clause-why
returns-in-Err-clause-why c = rw c.if-not-utf.false (is_refused c.args.text.now c.in-Err.ensures.exact)
