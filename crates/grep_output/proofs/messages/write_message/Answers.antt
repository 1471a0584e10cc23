use Rattle.tool_io.proofs.Writing.{writes-same}
use Rattle.grep_output.proofs.Said.{message-text}
use Rattle.grep_output.proofs.messages.write_message.Goals as goal

pub returns : goal.returns
returns g c = writes-same (message-text c.args.name.now c.as_bytes.result.now c.args.text.now
    c.as_bytes.ensures.value) c.write_texts.ensures
