use Rattle.match_drive.proofs.outline.Outline.for_search.Goals as goal

pub returns-clause-repeat : goal.returns-clause-repeat
returns-clause-repeat c tree known = c.repeat_for.ensures tree known

pub returns-clause-run : goal.returns-clause-run
returns-clause-run c tree known same = c.run_for.ensures tree known same

pub returns-clause-whole : goal.returns-clause-whole
returns-clause-whole c tree known = c.whole_for.ensures tree known
