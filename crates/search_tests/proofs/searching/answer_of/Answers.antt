use Rattle.std.proofs.Common.{rules}
use Rattle.frame_board.proofs.ByteTexts.{byte_text, byte_place}
use Rattle.search_tests.proofs.searching.answer_of.Goals as goal

pub search-requires : goal.search-requires
search-requires c = search (rules, byte_text, byte_place)
