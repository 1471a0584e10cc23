use Rattle.grep_main.proofs.TextLaws.{told-asks}
use Rattle.grep_main.proofs.laws.told_words_ask_for_one_list.Goals as goal

pub returns : goal.returns
returns c = told-asks
