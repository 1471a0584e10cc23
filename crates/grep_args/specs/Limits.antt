-- What each plan of words keeps to.
use Rattle.std.specs.Prelude.{ℕ, ◌≤◌, Option, IfSome}
use Rattle.grep_args.specs.declared.plan.GrepPlan.{GrepPlan}

abbrev pub AreLimits : ℕ → Option ℕ → Type 0
AreLimits buffer count = (1 ≤ buffer) × (buffer ≤ 1073741824) × IfSome count (λ n. 1 ≤ n)

abbrev pub IsWithinLimits : GrepPlan → Type 0
IsWithinLimits plan = AreLimits plan.max_buffer_size plan.max_count
