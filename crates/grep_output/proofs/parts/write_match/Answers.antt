use Rattle.grep_output.proofs.parts.write_match.Goals as goal

pub returns-in-NoOffsets : goal.returns-in-NoOffsets
returns-in-NoOffsets g c o place groups = rw c.in-NoOffsets.is (c.write_part.ensures o groups)

pub returns-in-Lines : goal.returns-in-Lines
returns-in-Lines g c o place groups = rw c.in-Lines.is (c.write_in_line.ensures o place)

pub returns-in-File : goal.returns-in-File
returns-in-File g c o place groups = rw c.in-File.is (c.write_in_file.ensures o place)
