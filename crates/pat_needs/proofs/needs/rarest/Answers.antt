use Rattle.pat_needs.proofs.ChoiceLemmas.{chosen}
use Rattle.pat_needs.proofs.needs.rarest.Goals as goal

pub returns : goal.returns
returns c may utf of kept =
    let choice = c.in_ok-choice.choice in
    chosen may utf c.args.anywhere of c.args.needs.now c.args.parts.now choice.at c.in_ok-choice.ensures.0
    c.text_of.result c.in_ok-choice.ensures.1 (c.text_of.ensures may utf c.args.anywhere of kept)
