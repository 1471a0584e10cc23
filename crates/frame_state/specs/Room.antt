-- When the machine stops for want of memory.
use Rattle.std.specs.Prelude.{◌≡◌, ◌<◌, ℕ, ℤ, pos, Bool, false}
use Rattle.pcre_io.specs.declared.callouts.Block.{Block}
use Rattle.frame_store.specs.Stack.{Stack, room}
use Rattle.frame_state.specs.declared.machine.Stop.{Stop}
use Rattle.frame_state.specs.declared.machine.Stop.TheVariants as stop

-- neither want of memory nor a callout stops it
abbrev pub IsSteady : Stop → Type 0
IsSteady stop.Memory = ⊥
IsSteady (stop.Abort n) = ⊥
IsSteady _ = Unit {0}

-- it stops for want of memory only where there was no room for as many records as the frame limit, and no callout stops
-- it
abbrev pub IsShort : Stop → ℕ → Stack → Type 0
IsShort stop.Memory limit store = room store < limit
IsShort (stop.Abort n) limit store = ⊥
IsShort _ limit store = Unit {0}

-- callouts that are never refused, and let each path go on
abbrev pub IsQuiet : Bool → (Block → ℤ) → Type 0
IsQuiet refuses answers = (refuses ≡ false) × ((block : Block) → answers block ≡ pos 0)
