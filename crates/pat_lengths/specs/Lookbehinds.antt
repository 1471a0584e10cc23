-- The lookbehinds of a tree from left to right, each with its place, and the first that is refused (pcre2pattern,
-- "Lookbehind assertions").
use Rattle.std.specs.Prelude.{◌≡◌, ℕ, Bool, true, false, List, [], ◌∷◌, ◌++◌, flat_map, Option, None}
use Rattle.std.specs.Option.{option_or}
use Rattle.pat_tree.specs.declared.nodes.Node.TheVariants as node
use Rattle.pat_tree.specs.declared.nodes.Placed.{Placed}
use Rattle.pat_tree.specs.Growing.{AllUnder}
use Rattle.pat_tree.specs.Nested.{Nested, Row, Test, Other, empty, one, line_break, seq, group, repeat, one_repeat}
use Rattle.pat_tree.specs.Nested.{atomic, look, condition, call, ref, anchor, keep_out, verb, callout, none, more}
use Rattle.pat_tree.specs.Nested.{any_set, in_call, in_call_of, never, assert, called, no_other, other}
use Rattle.pat_tree.specs.Parts.{TreeParts, tree_of}
use Rattle.pat_tree.specs.Sound.{TreeRules}
use Rattle.pat_tree.specs.Closing.{StandInTurn}
use Rattle.pat_lengths.specs.Backs.{fault_from, first_fault}
use Rattle.pat_lengths.specs.Lengths.{branch_lengths, branch_fault}
use Rattle.pat_lengths.specs.declared.backs.LengthFault.{LengthFault}

pub record Lookbehind : Type 0 where
  pub at : ℕ
  pub branches : Row

-- the lookbehinds of a part, and the places that are left for what comes after it
abbrev pub Found : Type 0
Found = List Lookbehind × List ℕ

-- those of a part, and then those of what comes after it
abbrev pub and_then : Found → (List ℕ → Found) → Found
and_then found f = (found.0 ++ (f found.1).0, (f found.1).1)

-- where it ends, a part that has a place has the first of those that are left
abbrev pub place_of : List ℕ → ℕ
place_of [] = 0
place_of (at ∷ places) = at

abbrev pub others : List ℕ → List ℕ
others [] = []
others (at ∷ places) = places

abbrev pub behind_at : Bool → ℕ → Row → List Lookbehind
behind_at true at branches = []
behind_at false at branches = record { at = at; branches = branches } ∷ []

-- a lookaround, and before that what is found inside it
abbrev pub looked : Bool → Row → Found → Found
looked ahead branches inner = (behind_at ahead (place_of inner.1) branches ++ inner.0, others inner.1)

unfoldable mutual
  -- The lookbehinds of a tree, where these are the places of its references, calls, lookarounds and conditions, in the
  -- order in which they end, and then those of what comes after it.
  pub found_in : Nested → List ℕ → Found
  found_in empty places = ([], places)
  found_in (one item) places = ([], places)
  found_in line_break places = ([], places)
  found_in (seq ts) places = found_in_row ts places
  found_in (group number ts) places = found_in_row ts places
  found_in (repeat t low high lazily) places = found_in t places
  found_in (one_repeat item low high lazily) places = ([], places)
  found_in (atomic ts) places = found_in_row ts places
  found_in (look ahead positive once ts) places = looked ahead ts (found_in_row ts places)
  found_in (condition test first second) places =
      and_then (and_then (and_then (found_in_test test places) (found_in first)) (found_in_other second))
      (λ left. ([], others left))
  found_in (call n) places = ([], others places)
  found_in (ref ns caseless) places = ([], others places)
  found_in (anchor a) places = ([], places)
  found_in keep_out places = ([], places)
  found_in (verb v) places = ([], places)
  found_in (callout c) places = ([], places)

  pub found_in_row : Row → List ℕ → Found
  found_in_row none places = ([], places)
  found_in_row (more t ts) places = and_then (found_in t places) (found_in_row ts)

  pub found_in_test : Test → List ℕ → Found
  found_in_test (any_set ns) places = ([], places)
  found_in_test in_call places = ([], places)
  found_in_test (in_call_of ns) places = ([], places)
  found_in_test never places = ([], places)
  found_in_test (assert ahead positive once ts) places = looked ahead ts (found_in_row ts places)
  found_in_test (called c test) places = found_in_test test places

  pub found_in_other : Other → List ℕ → Found
  found_in_other no_other places = ([], places)
  found_in_other (other t) places = found_in t places

-- those of a whole pattern with these places
abbrev pub lookbehinds : Nested → List ℕ → List Lookbehind
lookbehinds t places = (found_in t places).0

module _ (unset_matches : Bool) (whole : Nested) where
  -- the first of these branches that is refused, at the place of their lookbehind
  abbrev pub fault_of_branches : ℕ → Row → Option LengthFault
  fault_of_branches at none = None
  fault_of_branches at (more t ts) = option_or (fault_from at (branch_fault (branch_lengths unset_matches whole t)))
      (fault_of_branches at ts)

  -- the first of these lookbehinds
  abbrev pub first_refused : List Lookbehind → Option LengthFault
  first_refused [] = None
  first_refused (b ∷ bs) = option_or (fault_of_branches b.at b.branches) (first_refused bs)

-- the place of a node that is a reference, a call, a lookaround or a condition
abbrev pub place_in : Placed → List ℕ
place_in p = elim (p.node) [
  | node.Ref groups caseless ↦ p.at ∷ []
  | node.Call n ↦ p.at ∷ []
  | node.Look ahead positive once branches ↦ p.at ∷ []
  | node.Cond test yes' no' ↦ p.at ∷ []
  | _ ↦ []
]

abbrev pub places_of : List Placed → List ℕ
places_of ps = flat_map place_in ps

-- Where the nodes of a tree stand in the order in which they end, the leftmost fault is that of the first lookbehind
-- that is refused.
abbrev pub FirstRefusedLaw : Type 0
FirstRefusedLaw = (tree : TreeParts) → TreeRules tree → StandInTurn tree.nodes → AllUnder tree.nodes tree.root →
    first_fault tree ≡ first_refused tree.options.match_unset_backref (tree_of tree)
    (lookbehinds (tree_of tree) (places_of tree.nodes))
