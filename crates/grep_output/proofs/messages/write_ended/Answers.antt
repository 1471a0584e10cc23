use Rattle.grep_output.proofs.messages.write_ended.Goals as goal

pub returns-in-TooMuch : goal.returns-in-TooMuch
returns-in-TooMuch g c = rw c.in-TooMuch.is c.write_message-in-TooMuch.ensures
