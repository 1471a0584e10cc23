use Rattle.item_tests.proofs.sets.takes_part.Given as goal

abbrev pub ghosts-takes : goal.ghosts-takes
ghosts-takes a = record { name = a.blank.name; parts = a.blank.parts }
