use Rattle.test_gen.proofs.counts.count_ends.Given as goal

abbrev pub ghosts-ends_of : goal.ghosts-ends_of
ghosts-ends_of a = record { name = a.blank.name; parts = a.blank.parts }
