-- Where a try of a branch of a lookbehind has ended.
use Rattle.std.specs.Prelude.{ℕ, ◌==◌, if◌then◌else◌}
use Rattle.frame_state.specs.declared.machine.Next.{Next}
use Rattle.frame_state.specs.declared.machine.Next.TheVariants.{End, Back}

-- at the place of its lookbehind, or elsewhere
abbrev pub settled_next : (place at : ℕ) → Next
settled_next place at = if place == at then End else Back
