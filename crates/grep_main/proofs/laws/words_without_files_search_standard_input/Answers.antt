use Rattle.grep_main.proofs.TextLaws.{standard-alone}
use Rattle.grep_main.proofs.laws.words_without_files_search_standard_input.Goals as goal

pub returns : goal.returns
returns c = standard-alone
