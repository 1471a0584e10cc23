use Rattle.item_tests.proofs.items.items_take_characters_and_run.Given as goal

abbrev pub ghosts-all_items : goal.ghosts-all_items
ghosts-all_items g a = record { name = a.blank.name; parts = a.blank.parts }
