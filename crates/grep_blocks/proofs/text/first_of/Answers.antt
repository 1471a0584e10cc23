use Rattle.std.proofs.Common.{sym, arith}
use Rattle.std.proofs.lemmas.List.{take_all}
use Rattle.grep_blocks.proofs.text.first_of.Goals as goal

pub returns-then-text-lt-FIRST : goal.returns-then-text-lt-FIRST
returns-then-text-lt-FIRST c = sym (take_all 1024 c.args.text.now (omega arith))
