use Rattle.uni_text.proofs.ValidLemmas.{utf8_valid_len-longest}
use Rattle.uni_text.proofs.laws.valid_part_is_longest.Goals as goal

pub returns : goal.returns
returns c = utf8_valid_len-longest
