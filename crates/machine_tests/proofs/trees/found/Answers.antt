use Rattle.std.proofs.Common.{rules}
use Rattle.frame_board.proofs.ByteTexts.{byte_text, byte_place}
use Rattle.machine_tests.proofs.trees.found.Goals as goal

pub run_at-requires : goal.run_at-requires
run_at-requires c = search (rules, byte_text, byte_place)
