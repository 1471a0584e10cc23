-- The table of names (pcre2api, "Information about a compiled pattern": names in alphabetical order).
use Rattle.std.specs.Cmp.Lexicographic.{slice_cmp}
use Rattle.std.specs.List.{insert}
use Rattle.std.specs.List.Sorted.{IsStrictlySortedBy}
use Rattle.std.specs.Ordering.{nat_cmp, ordering_then}
use Rattle.std.specs.declared.cmp.Ordering.{Ordering}
use Rattle.std.specs.declared.cmp.Ordering.TheVariants.{Less, Equal, Greater}
use Rattle.std.specs.Prelude.{◌≡◌, ℕ, List, [], ◌∷◌, Result, MatchResult}
use Rattle.pat_tree.specs.declared.names.NameEntry.{NameEntry}

-- by the bytes of the name, and then by the group
abbrev pub name_cmp : NameEntry → NameEntry → Ordering
name_cmp a b = ordering_then (slice_cmp nat_cmp a.name b.name) (nat_cmp a.group b.group)

-- each pair once, in order
abbrev pub AreInOrder : List NameEntry → Type 0
AreInOrder = IsStrictlySortedBy name_cmp

-- the table with a pair in its place; a pair that is there changes nothing
abbrev pub with_name : NameEntry → List NameEntry → List NameEntry
with_name e [] = e ∷ []
with_name e (x ∷ xs) = elim (name_cmp x e) [ Less ↦ x ∷ with_name e xs | Equal ↦ x ∷ xs | Greater ↦ e ∷ x ∷ xs ]

-- what a search for a pair tells: that it is there, or where it belongs
abbrev pub IsFound : Result ℕ ℕ → List NameEntry → NameEntry → Type 0
IsFound result xs e = MatchResult result (λ i. with_name e xs ≡ xs) (λ i. with_name e xs ≡ insert xs i e)
