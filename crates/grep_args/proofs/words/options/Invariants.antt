use Rattle.std.proofs.Common.{◌≡◌, map, drop, None}
use Rattle.std.specs.String.{string_bytes}
use Rattle.grep_args.specs.Words.{options}
use Rattle.grep_args.proofs.words.options.Given as goal

abbrev pub invariant-loop-n : goal.invariant-loop-n
invariant-loop-n l = options (map string_bytes (drop l.n l.words)) l.n l.awaited l.plan ≡ options
    (map string_bytes l.words) 0 None l.initial.plan
