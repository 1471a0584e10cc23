use Rattle.item_tests.proofs.sets.set_case.Given as goal

abbrev pub ghosts-asks : goal.ghosts-asks
ghosts-asks g a = record { name = a.blank.name; parts = a.blank.parts }
