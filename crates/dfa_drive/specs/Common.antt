-- Which patterns both matchers have the forms of (pcre2matching, "Disadvantages of the alternative
-- algorithm").
use Rattle.std.specs.Prelude.{◌≡◌}
use Rattle.std.specs.List.{All}
use Rattle.pat_tree.specs.Nested as tree
use Rattle.pat_tree.specs.Nested.{Nested}
use Rattle.dfa_ends.specs.pat_check.Support.{dfa_support}
use Rattle.dfa_ends.specs.pat_check.declared.support.DfaSupport.TheVariants.{Yes}
use Rattle.dfa_ends.specs.pat_check.Nodes.{all_nodes}
use Rattle.dfa_ends.specs.TwoMatchers.{Ordered, IsCommon, IsCommonVerb}

-- A node is no verb but FAIL, no call, no callout and no atomic group, and where it is a repeat, its
-- minimum is at most its maximum.
abbrev pub IsFree : Nested → Type 0
IsFree (tree.verb v) = IsCommonVerb v
IsFree (tree.call n) = ⊥
IsFree (tree.callout c) = ⊥
IsFree (tree.atomic ts) = ⊥
IsFree (tree.repeat body low high lazily) = Ordered low high
IsFree _ = Unit {0}

-- These are the patterns that the search for all ends supports and whose nodes are all of this kind.
abbrev pub CommonLaw : Type 0
CommonLaw =
    (t : Nested) →
    (IsCommon t → (dfa_support t ≡ Yes) × All IsFree (all_nodes t))
    × (dfa_support t ≡ Yes → All IsFree (all_nodes t) → IsCommon t)
