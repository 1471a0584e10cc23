-- Lengths as they are kept: those past 32 bits count as the greatest number.
use Rattle.std.specs.Prelude.{◌≡◌, ◌<◌, ◌||◌, ℕ, Bool, true, false, List, [], ◌∷◌, All, length, Option, Some, None}
use Rattle.std.specs.Prelude.{slice_index_or}
use Rattle.pat_tree.specs.declared.nodes.Cond.{Cond}
use Rattle.pat_tree.specs.declared.nodes.Cond.TheVariants.{Never}
use Rattle.pat_tree.specs.Nested.{Nested, tree_at}
use Rattle.std.specs.List.{list_any}
use Rattle.pat_tree.specs.Parts.{TreeParts, tree_of}
use Rattle.pat_lengths.specs.Passing.{flagged}
use Rattle.pat_lengths.specs.Nodes.{has_shared_number, is_accept, named_in, nodes_outside_lookarounds}
use Rattle.pat_lengths.specs.Lengths.{SomeLengths, counted, only, any_length, in_turn, either, behind, leads_back}
use Rattle.pat_lengths.specs.Lengths.{lengths, lengths_of_group}
use Rattle.pat_tree.specs.Groups.{group_of}
use Rattle.pat_lengths.specs.declared.spans.Span.{Span}

abbrev pub counted_most : Option ℕ → Option ℕ
counted_most None = None
counted_most (Some k) = Some (counted k)

abbrev pub kept : SomeLengths → Option Span
kept None = None
kept (Some a) = Some (record { least = counted a.least; most = counted_most a.most })

-- of a part or a group; a number that isn't kept has no length
abbrev pub span_at : List (Option Span) → ℕ → Option Span
span_at spans k = slice_index_or spans k None

-- what is kept of the first nodes is what they are
abbrev pub KeepSpans : (Nested → SomeLengths) → List Nested → List (Option Span) → Type 0
KeepSpans of trees spans = (k : ℕ) → k < length spans → span_at spans k ≡ kept (of (tree_at trees k))

-- so it is of those of the first nodes that name such groups alone
abbrev pub EachBy : (ℕ → Type 0) → (Nested → SomeLengths) → List Nested → List (Option Span) → Type 0
EachBy P of trees spans =
    (k : ℕ) → k < length spans → All P (named_in (tree_at trees k)) → span_at spans k ≡ kept (of (tree_at trees k))

-- what is kept of groups is what they are, and whether a reference may have any length
pub record KeepGroups (unset_matches : Bool) (whole : Nested) (of_group : ℕ → SomeLengths) (any : Bool)
    (groups : List (Option Span)) : Type 0 where
  pub any_is : any ≡ (unset_matches || has_shared_number whole)
  pub each : (n : ℕ) → span_at groups n ≡ kept (of_group n)

-- Of parts one after the other, of alternatives and of a condition, by the lengths of each.

abbrev pub lengths_of_parts : (ℕ → SomeLengths) → List ℕ → SomeLengths
lengths_of_parts of [] = only 0
lengths_of_parts of (k ∷ ks) = in_turn (of k) (lengths_of_parts of ks)

abbrev pub lengths_of_branches : (ℕ → SomeLengths) → List ℕ → SomeLengths
lengths_of_branches of [] = None
lengths_of_branches of (k ∷ ks) = either (of k) (lengths_of_branches of ks)

abbrev pub lengths_of_second : (ℕ → SomeLengths) → Option ℕ → SomeLengths
lengths_of_second of None = only 0
lengths_of_second of (Some k) = of k

abbrev pub lengths_of_condition : (ℕ → SomeLengths) → Cond → ℕ → Option ℕ → SomeLengths
lengths_of_condition of Never first second = only 0
lengths_of_condition of _ first second = either (of first) (lengths_of_second of second)

-- Of a group at a place, which has any length where it leads back to itself.
abbrev pub span_in : List (Option Span) → Option ℕ → Bool → Option Span
span_in spans place true = kept any_length
span_in spans None false = None
span_in spans (Some k) false = span_at spans k

-- a group's by those of the groups that it names; any where it leads back to itself
abbrev pub one_round : Bool → Nested → (ℕ → SomeLengths) → ℕ → SomeLengths
one_round unset whole f n =
    elim (leads_back whole n) as (λ b. SomeLengths) [
      | true ↦ any_length
      | false ↦ lengths_of_group (lengths unset whole f) (group_of whole n)
    ]

-- what is kept of the groups is what they are in lookbehinds, by fewer than d calls and references inside one another
abbrev pub AreBehind : TreeParts → Bool → ℕ → List (Option Span) → Type 0
AreBehind tree any d of =
    let unset = tree.options.match_unset_backref in
    KeepGroups unset (tree_of tree) (behind unset (tree_of tree) d) any of

-- what is kept of the first nodes is whether they hold ACCEPT, lookarounds inside them apart
abbrev pub KeepAccepts : List Nested → List Bool → Type 0
KeepAccepts trees accepts =
    (k : ℕ) → k < length accepts → flagged accepts k ≡ list_any is_accept (nodes_outside_lookarounds (tree_at trees k))
