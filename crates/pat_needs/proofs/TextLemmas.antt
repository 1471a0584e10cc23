-- Texts whose sets hold more.
use Rattle.std.proofs.Common.{◌≡◌, ◌∙◌, ℕ, ◌+◌, ◌<◌, ◌||◌, Bool, true, false, List, [], ◌∷◌, refl}
use Rattle.std.specs.Prelude.{slice_index}
use Rattle.byte_lanes.specs.Sets.{has_byte}
use Rattle.pat_tree.specs.declared.nodes.Item.{Item}
use Rattle.pat_tree.specs.Nested as tree
use Rattle.pat_tree.specs.Nested.{Nested, Row}
use Rattle.pat_needs.specs.Needs.{IsShortBefore, Begins}
use Rattle.pat_needs.specs.Texts.{Stands, AreUnions}

pub clash : (b : Bool) → b ≡ true → b ≡ false → ⊥
clash b h k = cc

-- the second text stands where the first does: each of its sets holds the bytes of the first's
abbrev pub Wider : List (List Bool) → List (List Bool) → Type 0
Wider sets [] = Unit {0}
Wider [] (more ∷ rest) = ⊥
Wider (set ∷ sets) (more ∷ rest) = ((b : ℕ) → b < 256 → has_byte set b ≡ true → has_byte more b ≡ true) × Wider sets
    rest

short_more : (may : Item → ℕ → Bool) (utf : Bool) (old new : List (List Bool)) → Wider old new → (t : Nested)
    → IsShortBefore may utf old t → IsShortBefore may utf new t
short_more may utf old [] w t h = tt
short_more may utf [] (more ∷ rest) w t h = absurd w
short_more may utf (set ∷ sets) (more ∷ rest) w t h = h

pub begins_more : (may : Item → ℕ → Bool) (utf : Bool) (old new : List (List Bool)) → Wider old new → (ts : Row)
    → Begins may utf old ts → Begins may utf new ts
begins_more may utf old [] w ts h = tt
begins_more may utf [] (more ∷ rest) w ts h = absurd w
begins_more may utf (set ∷ sets) (more ∷ rest) w tree.none h = absurd h
begins_more may utf (set ∷ sets) (more ∷ rest) w (tree.more t ts) h = (
  (h.0.0, (h.0.1.0, λ b l may. w.0 b l (h.0.1.1 b l may))),
  (short_more may utf sets rest w.1 t h.1.0, begins_more may utf sets rest w.1 ts h.1.1),
)

or_left : (p q : Bool) → p ≡ true → (p || q) ≡ true
or_left true q h = refl
or_left false q h = absurd cc

or_right : (p q : Bool) → q ≡ true → (p || q) ≡ true
or_right true q h = refl
or_right false q h = h

pub wider_left : (new ones others : List (List Bool)) → AreUnions new ones others → Wider ones new
wider_left [] ones others h = tt
wider_left (both ∷ rest) (one ∷ ones) (other ∷ others) h =
    (λ b l m. h.0 b ∙ or_left (has_byte one b) (has_byte other b) m, wider_left rest ones others h.1)
wider_left (both ∷ rest) [] others h = absurd h
wider_left (both ∷ rest) (one ∷ ones) [] h = absurd h

pub wider_right : (new ones others : List (List Bool)) → AreUnions new ones others → Wider others new
wider_right [] ones others h = tt
wider_right (both ∷ rest) (one ∷ ones) (other ∷ others) h =
    (λ b l m. h.0 b ∙ or_right (has_byte one b) (has_byte other b) m, wider_right rest ones others h.1)
wider_right (both ∷ rest) [] others h = absurd h
wider_right (both ∷ rest) (one ∷ ones) [] h = absurd h

-- Where a text stands, one that holds more stands too.

pub stands_left : (new ones others : List (List Bool)) → AreUnions new ones others → (bytes : List ℕ) (k : ℕ)
    → Stands ones bytes k → Stands new bytes k
stands_left [] ones others h bytes k s = tt
stands_left (both ∷ rest) (one ∷ ones) (other ∷ others) h bytes k s = (
  s.0,
  (
    h.0 (slice_index bytes k) ∙ or_left (has_byte one (slice_index bytes k))
        (has_byte other (slice_index bytes k)) s.1.0,
    stands_left rest ones others h.1 bytes (k + 1) s.1.1,
  ),
)
stands_left (both ∷ rest) [] others h bytes k s = absurd h
stands_left (both ∷ rest) (one ∷ ones) [] h bytes k s = absurd h

pub stands_right : (new ones others : List (List Bool)) → AreUnions new ones others → (bytes : List ℕ) (k : ℕ)
    → Stands others bytes k → Stands new bytes k
stands_right [] ones others h bytes k s = tt
stands_right (both ∷ rest) (one ∷ ones) (other ∷ others) h bytes k s = (
  s.0,
  (
    h.0 (slice_index bytes k) ∙ or_right (has_byte one (slice_index bytes k))
        (has_byte other (slice_index bytes k)) s.1.0,
    stands_right rest ones others h.1 bytes (k + 1) s.1.1,
  ),
)
stands_right (both ∷ rest) [] others h bytes k s = absurd h
stands_right (both ∷ rest) (one ∷ ones) [] h bytes k s = absurd h
