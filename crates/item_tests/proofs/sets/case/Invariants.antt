use Rattle.item_tests.proofs.sets.case.Given as goal

abbrev pub ghosts-asks : goal.ghosts-asks
ghosts-asks g a = record { name = a.blank.name; parts = a.blank.parts }
