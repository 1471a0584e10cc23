use Rattle.test_main.proofs.Ending.{sound-end-well}
use Rattle.test_main.proofs.laws.sound_scripts_end_well.Goals as goal

pub returns : goal.returns
returns c = sound-end-well
