-- The number that digits write.
use Rattle.std.specs.Prelude.{ℕ, nat_le, List, Option, Some, None, if◌then◌else◌}
use Rattle.std.specs.Str.Parse.{digits_value}

-- n, unless it is past 4,294,967,295
abbrev pub within_u32 : ℕ → Option ℕ
within_u32 n = if nat_le n 4294967295 then Some n else None

-- the number that digits of a radix write, unless it is past 4,294,967,295
abbrev pub number_of : ℕ → List ℕ → Option ℕ
number_of radix digits = within_u32 (digits_value radix digits)
