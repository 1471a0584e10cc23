use Rattle.pat_save.proofs.Stacks.{top_kid}
use Rattle.pat_save.proofs.pile.take_top.Goals as goal

pub returns-in-Some-clause-gives : goal.returns-in-Some-clause-gives
returns-in-Some-clause-gives c =
    top_kid c.args.pile.now.items c.pop.new.self.items c.in-Some.loose c.in-Some.ensures.items
