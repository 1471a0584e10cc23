-- The fields of an image: numbers with the least byte first, bools, options and lists.
use Rattle.std.specs.Prelude.{ℕ, ◌+◌, ◌*◌, Bool, true, false, List, [], ◌∷◌, ◌++◌, length, Option, Some, None}
use Rattle.std.specs.Int.{w16, w32, to_le_bytes}
use Rattle.std.specs.List.{flat_map}

-- a number of two or four bytes
abbrev pub two_bytes : ℕ → List ℕ
two_bytes n = to_le_bytes w16 n

abbrev pub four_bytes : ℕ → List ℕ
four_bytes n = to_le_bytes w32 n

abbrev pub bit : Bool → ℕ
bit false = 0
bit true = 1

-- the number with these bits, the least first
abbrev pub number_of : List Bool → ℕ
number_of [] = 0
number_of (b ∷ bs) = bit b + 2 * number_of bs

-- 0, or 1 and the value
abbrev pub optional : {A : Type 0} → (A → List ℕ) → Option A → List ℕ
optional bytes None = 0 ∷ []
optional bytes (Some x) = 1 ∷ bytes x

-- how many there are, and then each
abbrev pub counted : {A : Type 0} → (A → List ℕ) → List A → List ℕ
counted bytes xs = four_bytes (length xs) ++ flat_map bytes xs

-- how many bytes there are, in one byte, and then these
abbrev pub short_text : List ℕ → List ℕ
short_text text = length text ∷ text
