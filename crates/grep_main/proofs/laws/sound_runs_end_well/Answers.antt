use Rattle.grep_main.proofs.TextLaws.{sound-well}
use Rattle.grep_main.proofs.laws.sound_runs_end_well.Goals as goal

pub returns : goal.returns
returns c = sound-well
