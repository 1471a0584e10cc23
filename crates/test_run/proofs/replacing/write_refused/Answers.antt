use Rattle.test_run.proofs.Rewriting.{text-refused}
use Rattle.test_lines.proofs.Writing.{writes-equal, lacks-first}
use Rattle.test_lines.specs.Lines.{replaced_text}
use Rattle.test_run.proofs.replacing.write_refused.Goals as goal

pub returns-in-Memory : goal.returns-in-Memory
returns-in-Memory g c = λ utf given refused. lacks-first (replaced_text utf given) _

pub returns-in_default : goal.returns-in_default
returns-in_default g c = λ utf given refused. writes-equal
    (text-refused utf given c.args.e c.in_default.not-Memory refused) c.write_unreplaced.ensures
