use Rattle.std.proofs.Common.{◌≤◌, length, string_bytes, arith}
use Rattle.std.proofs.lemmas.Grind.{common_steps}
use Rattle.test_main.proofs.Wording.{count-late}
use Rattle.test_main.proofs.words.read_count.Goals as goal

pub returns-then-not-is_empty-clause-refused : goal.returns-then-not-is_empty-clause-refused
returns-then-not-is_empty-clause-refused c =
    let words = c.args.words.now in
    let late : 2 ≤ length words = grind (
      arith,
      common_steps,
      c.in-len1-up.len_at_least,
      c.is_empty.ensures,
      c.if-not-is_empty.true,
    ) in
    count-late string_bytes c.args.plan words late
