use Rattle.tool_io.proofs.Writing.{writes-same}
use Rattle.grep_main.proofs.Saying.{usage-of}
use Rattle.grep_main.proofs.messages.write_fault.Goals as goal

pub returns : goal.returns
returns g c = writes-same (usage-of c.args.start.now c.args.word.now) c.write_texts.ensures
