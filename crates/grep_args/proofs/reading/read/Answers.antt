-- A plan of the words is within its limits.
use Rattle.std.proofs.Common.{◌≡◌, map, Ok, rules}
use Rattle.std.specs.String.{string_bytes}
use Rattle.grep_args.specs.Words.{plan_of}
use Rattle.grep_args.proofs.Keeping.{plan_within_limits}
use Rattle.grep_args.proofs.reading.read.Goals as goal

pub returns-clause-limits : goal.returns-clause-limits
unfolding plan_of
returns-clause-limits c =
    let words = map string_bytes c.args.words.now in
    let same : plan_of words ≡ Ok c.complete.new.plan = search rules in
    plan_within_limits words c.complete.new.plan same
