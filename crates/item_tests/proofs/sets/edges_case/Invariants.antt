use Rattle.item_tests.proofs.sets.edges_case.Given as goal

abbrev pub ghosts-asks_edges : goal.ghosts-asks_edges
ghosts-asks_edges g a = record { name = a.blank.name; parts = a.blank.parts }
