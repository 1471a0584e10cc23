-- The ends as a list that can be computed.
use Rattle.std.specs.Prelude.{◌≡◌, ℕ, zero, suc, ◌+◌, ◌-◌, Bool, true, false, ◌&&◌, ◌⊎◌, not, List, [], ◌∷◌, map}
use Rattle.std.specs.Prelude.{length, Option, Some, None, ◌==◌, nat_le, nat_lt}
use Rattle.pat_tree.specs.declared.nodes.Item.{Item}
use Rattle.pat_tree.specs.Nested as tree
use Rattle.pat_tree.specs.Nested.{Nested, Row, Test, Other}
use Rattle.pat_lengths.specs.Lengths.{SomeLengths}
use Rattle.match_items.specs.Items.{after_item, after_break, holds}
use Rattle.ordered_search.specs.Setting.{Setting, branch_lengths}
use Rattle.dfa_ends.specs.Ends.{Spot, spot, begun, has_one_length, seen, tries, Ends}

unfoldable pub In : Spot → List Spot → Type 0
In y [] = ⊥
In y (x ∷ xs) = (y ≡ x) ⊎ In y xs

abbrev pub same_spot : Spot → Spot → Bool
same_spot x y = (x.place == y.place) && (x.early == y.early)

unfoldable pub has_spot : List Spot → Spot → Bool
has_spot [] y = false
has_spot (x ∷ xs) y = elim (same_spot x y) [ true ↦ true | false ↦ has_spot xs y ]

abbrev pub add : Spot → List Spot → List Spot
add x xs = elim (has_spot xs x) [ true ↦ xs | false ↦ x ∷ xs ]

unfoldable pub union : List Spot → List Spot → List Spot
union [] ys = ys
union (x ∷ xs) ys = add x (union xs ys)

-- from each of them
unfoldable pub every : (Spot → List Spot) → List Spot → List Spot
every f [] = []
every f (x ∷ xs) = union (f x) (every f xs)

unfoldable pub keep_if : (Spot → Bool) → List Spot → List Spot
keep_if p [] = []
keep_if p (x ∷ xs) = elim (p x) [ true ↦ x ∷ keep_if p xs | false ↦ keep_if p xs ]

-- after n turns
unfoldable pub after_turns : (Spot → List Spot) → ℕ → List Spot → List Spot
after_turns f zero xs = xs
after_turns f (suc n) xs = after_turns f n (every f xs)

-- what leads elsewhere: a turn that changes nothing adds nothing
abbrev pub changed : (Spot → List Spot) → Spot → List Spot
changed f x = keep_if (λ y. not (same_spot x y)) (f x)

-- at most k turns more
unfoldable pub further : (Spot → List Spot) → ℕ → List Spot → List Spot
further f zero xs = xs
further f (suc k) [] = []
further f (suc k) (x ∷ xs) = union (x ∷ xs) (further f k (every (changed f) (x ∷ xs)))

unfoldable pub all_within : List Spot → ℕ → Bool
all_within [] p = true
all_within (x ∷ xs) p = nat_le x.place p && all_within xs p

-- those of the greatest place
abbrev pub longest : List Spot → List Spot
longest xs = keep_if (λ y. all_within xs y.place) xs

abbrev pub if_any : List Spot → List Spot → List Spot → List Spot
if_any [] xs ys = ys
if_any (z ∷ zs) xs ys = xs

abbrev pub bounds_meet : ℕ → Option ℕ → Bool
bounds_meet low None = true
bounds_meet low (Some high) = nat_le low high

abbrev pub going_to : Option ℕ → Spot → List Spot
going_to None x = []
going_to (Some p) x = record x { place = p } ∷ []

abbrev pub begun_at : List ℕ → Spot → List Spot
begun_at ps x = map (λ p. begun p x) ps

-- where the lengths of a lookbehind's branch differ, those at its place
abbrev pub counted : Bool → Spot → List Spot → List Spot
counted true x ys = ys
counted false x ys = keep_if (λ y. y.place == x.place) ys

module _ (g : Setting) where
  -- how many turns can change the spot
  abbrev pub most_turns : ℕ → Option ℕ → Spot → ℕ
  most_turns low None x = length g.subject - x.place + x.early
  most_turns low (Some high) x = high - low

  unfoldable pub repeated : (Spot → List Spot) → ℕ → Option ℕ → Spot → List Spot
  repeated f low high x =
      elim (bounds_meet low high) [
        | true ↦ further f (most_turns low high x) (after_turns f low (x ∷ []))
        | false ↦ []
      ]

  unfoldable pub item_ends : Item → Spot → List Spot
  item_ends item x = going_to (after_item g.scene item x.place) x

  -- from the tries of a branch of these lengths
  unfoldable pub try_list : SomeLengths → (Spot → List Spot) → Spot → List Spot
  try_list lengths f x =
      counted (has_one_length lengths) x (every f (begun_at (tries g lengths x.place) x))

  unfoldable mutual
    pub ends_list : Nested → Spot → List Spot
    ends_list tree.empty x = x ∷ []
    ends_list (tree.one item) x = item_ends item x
    ends_list tree.line_break x = going_to (after_break g.scene x.place) x
    ends_list (tree.seq ts) x = all_list ts x
    ends_list (tree.group number ts) x = any_list ts x
    ends_list (tree.repeat body low high lazily) x = repeated (ends_list body) low high x
    ends_list (tree.one_repeat item low high lazily) x = repeated (item_ends item) low high x
    ends_list (tree.atomic ts) x = longest (any_list ts x)
    ends_list (tree.look true true once ts) x = if_any (any_list ts x) (x ∷ []) []
    ends_list (tree.look true false once ts) x = if_any (any_list ts x) [] (x ∷ [])
    ends_list (tree.look false true once ts) x = if_any (behind_list ts x) (x ∷ []) []
    ends_list (tree.look false false once ts) x = if_any (behind_list ts x) [] (x ∷ [])
    ends_list (tree.condition test first second) x =
        test_list test x (ends_list first x) (other_list second x)
    ends_list (tree.anchor kind) x =
        elim (holds g.scene kind x.place) [ true ↦ seen g kind x ∷ [] | false ↦ [] ]
    ends_list (tree.callout c) x = x ∷ []
    ends_list (tree.verb v) x = []
    ends_list (tree.call n) x = []
    ends_list (tree.ref ns caseless) x = []
    ends_list tree.keep_out x = []

    pub all_list : Row → Spot → List Spot
    all_list tree.none x = x ∷ []
    all_list (tree.more t ts) x = every (all_list ts) (ends_list t x)

    pub any_list : Row → Spot → List Spot
    any_list tree.none x = []
    any_list (tree.more t ts) x = union (ends_list t x) (any_list ts x)

    pub behind_list : Row → Spot → List Spot
    behind_list tree.none x = []
    behind_list (tree.more t ts) x =
        union (try_list (branch_lengths g t) (ends_list t) x) (behind_list ts x)

    -- the first list where the test is so, the second where it is not
    pub test_list : Test → Spot → List Spot → List Spot → List Spot
    test_list (tree.assert true true once ts) x xs ys = if_any (any_list ts x) xs ys
    test_list (tree.assert true false once ts) x xs ys = if_any (any_list ts x) ys xs
    test_list (tree.assert false true once ts) x xs ys = if_any (behind_list ts x) xs ys
    test_list (tree.assert false false once ts) x xs ys = if_any (behind_list ts x) ys xs
    test_list (tree.called c test) x xs ys = test_list test x xs ys
    test_list tree.never x xs ys = ys
    test_list tree.in_call x xs ys = ys
    test_list (tree.any_set ns) x xs ys = []
    test_list (tree.in_call_of ns) x xs ys = []

    pub other_list : Other → Spot → List Spot
    other_list tree.no_other x = x ∷ []
    other_list (tree.other t) x = ends_list t x

-- a place into places that fall
unfoldable pub insert : ℕ → List ℕ → List ℕ
insert p [] = p ∷ []
insert p (q ∷ qs) =
    elim (p == q) [
      | true ↦ q ∷ qs
      | false ↦ elim (nat_lt q p) [ true ↦ p ∷ q ∷ qs | false ↦ q ∷ insert p qs ]
    ]

-- the places of a list, falling, each once
unfoldable pub falling : List Spot → List ℕ
falling [] = []
falling (x ∷ xs) = insert x.place (falling xs)

-- the places of the ends from place p, the longest first
abbrev pub end_places : Setting → Nested → ℕ → List ℕ
end_places g t p = falling (ends_list g t (spot p p))

-- The list has the spots of the relation and no others.
abbrev pub ListLaw : Type 0
ListLaw =
    (g : Setting) (t : Nested) (x y : Spot) →
    (In y (ends_list g t x) → Ends g t x y) × (Ends g t x y → In y (ends_list g t x))
