-- Texts whose bytes are each of a set.
use Rattle.std.specs.Prelude.{◌≡◌, ℕ, ◌+◌, ◌<◌, ◌||◌, Bool, List, [], ◌∷◌, Option, None, Some, length}
use Rattle.byte_lanes.specs.Sets.{has_byte, IsIn}
use Rattle.pat_needs.specs.declared.text.ByteText.{ByteText}

-- the sets of a text: the third is read behind the second alone
abbrev pub more_of : Option (List Bool) → List (List Bool)
more_of None = []
more_of (Some set) = set ∷ []

abbrev pub behind_of : Option (List Bool) → Option (List Bool) → List (List Bool)
behind_of None third = []
behind_of (Some set) third = set ∷ more_of third

abbrev pub sets_of : ByteText → List (List Bool)
sets_of t = t.first ∷ behind_of t.second t.third

-- the bytes from place k on are in the sets, each in the set of its turn
abbrev pub Stands : List (List Bool) → List ℕ → ℕ → Type 0
Stands [] bytes k = Unit {0}
Stands (set ∷ sets) bytes k = (k < length bytes) × (IsIn set bytes k × Stands sets bytes (k + 1))

-- what is in one of two sets
abbrev pub IsUnion : List Bool → List Bool → List Bool → Type 0
IsUnion both one other = (b : ℕ) → has_byte both b ≡ (has_byte one b || has_byte other b)

-- each byte is of the set of one text or of that of the other, as far as both go
abbrev pub AreUnions : List (List Bool) → List (List Bool) → List (List Bool) → Type 0
AreUnions [] [] others = Unit {0}
AreUnions [] (one ∷ ones) [] = Unit {0}
AreUnions [] (one ∷ ones) (other ∷ others) = ⊥
AreUnions (both ∷ rest) (one ∷ ones) (other ∷ others) = IsUnion both one other × AreUnions rest ones others
AreUnions (both ∷ rest) [] others = ⊥
AreUnions (both ∷ rest) (one ∷ ones) [] = ⊥

abbrev pub IsUnionOf : Option (List Bool) → Option (List Bool) → Option (List Bool) → Type 0
IsUnionOf (Some both) (Some one) (Some other) = IsUnion both one other
IsUnionOf (Some both) (Some one) None = ⊥
IsUnionOf (Some both) None other = ⊥
IsUnionOf None (Some one) (Some other) = ⊥
IsUnionOf None (Some one) None = Unit {0}
IsUnionOf None None other = Unit {0}
