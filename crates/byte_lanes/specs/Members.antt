-- What is known of the members of a set of bytes.
use Rattle.std.specs.Prelude.{◌≡◌, ℕ, ◌==◌, ◌||◌, Bool, false, List}
use Rattle.byte_lanes.specs.Sets.{has_byte}
use Rattle.byte_lanes.specs.declared.members.Members.{Members}
use Rattle.byte_lanes.specs.declared.members.Members.TheVariants.{No, One, Two, Three, More}

-- these bytes pass the test and no other, unless there may be more
abbrev pub Pass : Members → (ℕ → Bool) → Type 0
Pass No test = (b : ℕ) → test b ≡ false
Pass (One x) test = (b : ℕ) → test b ≡ (b == x)
Pass (Two x y) test = (b : ℕ) → test b ≡ (b == x || b == y)
Pass (Three x y z) test = (b : ℕ) → test b ≡ (b == x || b == y || b == z)
Pass More test = Unit {0}

-- the set has these bytes and no other, unless there may be more
abbrev pub AreMembers : Members → List Bool → Type 0
AreMembers members set = Pass members (has_byte set)
