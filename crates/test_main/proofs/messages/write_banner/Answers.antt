use Rattle.std.proofs.Common.{◌∙◌, append-nil}
use Rattle.tool_io.proofs.Writing.{writes-same}
use Rattle.test_main.proofs.messages.write_banner.Goals as goal

pub returns : goal.returns
returns g c = writes-same (append-nil c.text_if.result.now ∙ c.text_if.ensures) c.write_texts.ensures
