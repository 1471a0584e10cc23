-- The first bytes of a node by those of its children.
use Rattle.std.proofs.Common.{◌≡◌, ℕ, Bool, true, List, [], ◌∷◌, map, Option, Some, None, All, refl, sym, ap, ◌∙◌}
use Rattle.std.proofs.lemmas.List.Elements.{All-head}
use Rattle.byte_lanes.specs.declared.line_end.EndKind.{EndKind}
use Rattle.pat_tree.specs.Nested.{Nested, tree_at, row, nest, test_of, other_of}
use Rattle.pat_tree.specs.declared.nodes.Cond.{Cond}
use Rattle.pat_tree.specs.declared.nodes.Cond.TheVariants.{AnySet, InCall, InCallOf, Never, Assert}
use Rattle.pat_tree.specs.declared.nodes.Node.{Node}
use Rattle.pat_tree.specs.declared.nodes.Node.TheVariants as node
use Rattle.pat_tree.specs.Parts.{TreeParts}
use Rattle.pat_tree.specs.Rules.{tests_of, is_test}
use Rattle.pat_lengths.proofs.OrderLemmas.{by_test}
use Rattle.pat_lengths.proofs.OtherNodes.{IfOther, by_other}
use Rattle.pat_check.specs.Lead.{SomeLead, lead, lead_in_turn, lead_of_one, lead_of_test, lead_of_other, passes}
use Rattle.pat_check.specs.Lead.{then_lead, either_lead}
use Rattle.pat_check.specs.Starts.{lead_in, lead_of_parts, lead_of_branches, lead_of_second, lead_of_condition}

module _ (utf : Bool) (newlines breaks : EndKind) (class_has : ℕ → ℕ → Bool) (fold : ℕ → ℕ) where
  abbrev lead_of : Nested → SomeLead
  lead_of t = lead utf newlines breaks class_has fold t

  pub parts_lead : (trees : List Nested) (ks : List ℕ) →
      lead_of_parts (λ k. lead utf newlines breaks class_has fold (tree_at trees k)) ks ≡ lead_in_turn utf newlines
      breaks class_has fold (row (map (tree_at trees) ks))
  unfolding lead
  parts_lead trees [] = refl
  parts_lead trees (k ∷ ks) = ap (then_lead (lead_of (tree_at trees k))) (parts_lead trees ks)

  pub branches_lead : (trees : List Nested) (ks : List ℕ) →
      lead_of_branches (λ k. lead utf newlines breaks class_has fold (tree_at trees k)) ks ≡ lead_of_one utf newlines
      breaks class_has fold (row (map (tree_at trees) ks))
  unfolding lead
  branches_lead trees [] = refl
  branches_lead trees (k ∷ ks) = ap (either_lead (lead_of (tree_at trees k))) (branches_lead trees ks)

  second_lead : (trees : List Nested) (second : Option ℕ) →
      lead_of_second (λ k. lead utf newlines breaks class_has fold (tree_at trees k)) second ≡ lead_of_other utf
      newlines breaks class_has fold (other_of trees second)
  unfolding lead
  second_lead trees None = refl
  second_lead trees (Some k) = refl

  tested_lead : (x : SomeLead) (t : Nested) → is_test t ≡ true
      → lead_of_test utf newlines breaks class_has fold (test_of t) x ≡ x
  unfolding lead
  tested_lead x t h = by_test (λ t. lead_of_test utf newlines breaks class_has fold (test_of t) x ≡ x)
      (λ ahead positive once ts. refl) (λ c ahead positive once ts. refl) t h

  pub condition_lead : (trees : List Nested) (test : Cond) (first : ℕ) (second : Option ℕ)
      → All (λ k. is_test (tree_at trees k) ≡ true) (tests_of test) →
      lead_of_condition (λ k. lead utf newlines breaks class_has fold (tree_at trees k)) test first second ≡ lead utf
      newlines breaks class_has fold (nest trees (node.Cond test first second))
  unfolding lead
  condition_lead trees (AnySet groups) first second h =
      ap (either_lead (lead_of (tree_at trees first))) (second_lead trees second)
  condition_lead trees InCall first second h = ap (either_lead (lead_of (tree_at trees first)))
      (second_lead trees second)
  condition_lead trees (InCallOf groups) first second h =
      ap (either_lead (lead_of (tree_at trees first))) (second_lead trees second)
  condition_lead trees Never first second h = refl
  condition_lead trees (Assert k) first second h =
      ap (either_lead (lead_of (tree_at trees first))) (second_lead trees second)
      ∙ sym (tested_lead _ (tree_at trees k) (All-head (λ k. is_test (tree_at trees k) ≡ true) k [] h))

pub other_lead : (tree : TreeParts) (fold : ℕ → ℕ) (trees : List Nested) (n : Node)
    → IfOther n (lead_in tree fold (nest trees n) ≡ passes)
unfolding lead
other_lead tree fold trees =
    by_other (λ n. lead_in tree fold (nest trees n) ≡ passes) refl (λ ahead positive once branches. refl)
    (λ kind. refl) refl (λ v. refl)
    (λ number from to at len. refl)
