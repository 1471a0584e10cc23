use Rattle.std.proofs.Common.{}
use Rattle.tool_io.proofs.Writing.{writes-same}
use Rattle.test_main.proofs.Said.{message-text}
use Rattle.test_main.proofs.messages.write_message.Goals as goal

pub returns : goal.returns
returns g c = writes-same (message-text c.args.name.now c.args.text.now c.as_bytes.result.now
    c.as_bytes.ensures.value) c.write_texts.ensures
