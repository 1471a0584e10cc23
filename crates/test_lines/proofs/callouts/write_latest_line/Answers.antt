use Rattle.test_lines.proofs.callouts.write_latest_line.Goals as goal

pub returns-in-Some : goal.returns-in-Some
returns-in-Some g c = rw c.in-Some.is c.write_name.ensures

pub returns-in-None : goal.returns-in-None
returns-in-None g c = rw c.in-None.is c.write_texts.ensures
