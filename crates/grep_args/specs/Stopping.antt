-- What an option that couldn't do what it does tells.
use Rattle.std.specs.Prelude.{◌≡◌, ⊤, ℕ, Result, Err}
use Rattle.grep_args.specs.declared.plan.GrepPlan.{GrepPlan}
use Rattle.grep_args.specs.declared.usage.ArgError.{ArgError}
use Rattle.grep_args.specs.declared.usage.ArgError.TheVariants as answer
use Rattle.grep_args.specs.declared.usage.UsageKind.{UsageKind}
use Rattle.grep_args.specs.declared.usage.Stop.{Stop}
use Rattle.grep_args.specs.declared.usage.Stop.TheVariants.{Usage, Memory}

-- the effect's fault, where memory isn't wanting
abbrev pub Stops : Result GrepPlan UsageKind → Stop → Type 0
Stops effect (Usage kind) = effect ≡ Err kind
Stops effect Memory = ⊤

-- the same with the word at fault
abbrev pub stopped_at : Stop → ℕ → ArgError
stopped_at (Usage kind) word = answer.Usage kind word
stopped_at Memory word = answer.Memory
