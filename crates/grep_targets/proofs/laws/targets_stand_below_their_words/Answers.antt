use Rattle.grep_targets.proofs.StandLaws.{stand-below}
use Rattle.grep_targets.proofs.laws.targets_stand_below_their_words.Goals as goal

pub returns : goal.returns
returns c = stand-below
