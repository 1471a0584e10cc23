-- A finished tree keeps the rules that the law on start optimisations goes by.
use Rattle.std.proofs.Common.{◌≡◌, ℕ, zero, suc, ◌<◌, ◌≤◌, true, List, [], ◌∷◌, ◌++◌, map, length, All, Option, Some}
use Rattle.std.proofs.Common.{None, get_or, subst, arith}
use Rattle.std.proofs.lemmas.Bool.{false≢true}
use Rattle.std.proofs.lemmas.List.{get_or_default}
use Rattle.std.proofs.lemmas.List.Elements.{All-head, All-tail}
use Rattle.pat_tree.specs.declared.nodes.Node.{Node}
use Rattle.pat_tree.specs.declared.nodes.Node.TheVariants as node
use Rattle.pat_tree.specs.declared.nodes.Cond.{Cond}
use Rattle.pat_tree.specs.declared.nodes.Cond.TheVariants as cond
use Rattle.pat_tree.specs.declared.nodes.Placed.{Placed}
use Rattle.pat_tree.specs.Nested as tree
use Rattle.pat_tree.specs.Nested.{Nested, Other, nest, row, tree_at, trees, test_of, cond_of, other_of}
use Rattle.pat_tree.specs.Parts.{TreeParts, tree_of}
use Rattle.pat_tree.specs.Rules.{kids_of, tests_of, number_in, asserted_by, is_test, IsOrdered, IsDefine, defines}
use Rattle.pat_tree.specs.Sound.{TreeRules}
use Rattle.pat_tree.proofs.Reached.{reached_node}
use Rattle.search_starts.specs.StartLaw.{IsDefinition, IsRegular, AreRegular, IsRegularTest, IsRegularOther}

tested : (t : Nested) → is_test t ≡ true → IsRegular t → (o : Other)
    → IsDefinition (test_of t) o × IsRegularTest (test_of t)
tested (tree.look ahead positive once ts) e h o = (tt, h)
tested (tree.seq (tree.more (tree.callout c) (tree.more (tree.look ahead positive once ts) tree.none))) e h o =
    (tt, h.1.0)
tested _ e h o = absurd (false≢true e)

module _ (ts : List Nested) where
  abbrev IsKidRegular : ℕ → Type 0
  IsKidRegular k = IsRegular (tree_at ts k)

  regular_row : (ks : List ℕ) → All IsKidRegular ks → AreRegular (row (map (tree_at ts) ks))
  regular_row [] h = tt
  regular_row (k ∷ ks) h = (All-head IsKidRegular k ks h, regular_row ks (All-tail IsKidRegular k ks h))

  regular_other : (no' : Option ℕ) → All IsKidRegular (number_in no') → IsRegularOther (other_of ts no')
  regular_other None h = tt
  regular_other (Some k) h = All-head IsKidRegular k [] h

  regular_cond : (test : Cond) (yes' : ℕ) (no' : Option ℕ) → defines test no'
      → All (λ k. is_test (tree_at ts k) ≡ true) (tests_of test) →
      All IsKidRegular (tests_of test ++ yes' ∷ number_in no')
      → IsRegular (tree.condition (cond_of ts test) (tree_at ts yes') (other_of ts no'))
  regular_cond (cond.AnySet groups) yes' no' d e h = (
    tt,
    tt,
    All-head IsKidRegular yes' (number_in no') h,
    regular_other no' (All-tail IsKidRegular yes' (number_in no') h),
  )
  regular_cond cond.InCall yes' no' d e h = (
    tt,
    tt,
    All-head IsKidRegular yes' (number_in no') h,
    regular_other no' (All-tail IsKidRegular yes' (number_in no') h),
  )
  regular_cond (cond.InCallOf groups) yes' no' d e h = (
    tt,
    tt,
    All-head IsKidRegular yes' (number_in no') h,
    regular_other no' (All-tail IsKidRegular yes' (number_in no') h),
  )
  regular_cond cond.Never yes' None d e h = (tt, tt, All-head IsKidRegular yes' [] h, tt)
  regular_cond cond.Never yes' (Some k) d e h = absurd (cc d)
  regular_cond (cond.Assert k) yes' no' d e h =
      let later = All-tail IsKidRegular k (yes' ∷ number_in no') h in
      let one = tested (tree_at ts k) (All-head (λ j. is_test (tree_at ts j) ≡ true) k [] e)
      (All-head IsKidRegular k (yes' ∷ number_in no') h) (other_of ts no') in (
        one.0,
        one.1,
        All-head IsKidRegular yes' (number_in no') later,
        regular_other no' (All-tail IsKidRegular yes' (number_in no') later),
      )

  regular_node : (n : Node) → IsOrdered n → IsDefine n → All (λ k. is_test (tree_at ts k) ≡ true) (asserted_by n) →
      All IsKidRegular (kids_of n) → IsRegular (nest ts n)
  regular_node node.Empty o d e h = tt
  regular_node (node.One item) o d e h = tt
  regular_node node.Break o d e h = tt
  regular_node (node.Seq kids) o d e h = regular_row kids h
  regular_node (node.Group number branches) o d e h = regular_row branches h
  regular_node (node.Repeat body min max lazy) o d e h = (o, All-head IsKidRegular body [] h)
  regular_node (node.OneRepeat item min max lazy) o d e h = tt
  regular_node (node.Atomic branches) o d e h = regular_row branches h
  regular_node (node.Look ahead positive once branches) o d e h = regular_row branches h
  regular_node (node.Cond test yes' no') o d e h = regular_cond test yes' no' d e h
  regular_node (node.Call n) o d e h = tt
  regular_node (node.Ref groups caseless) o d e h = tt
  regular_node (node.Anchor kind) o d e h = tt
  regular_node node.KeepOut o d e h = tt
  regular_node (node.VerbNode v) o d e h = tt
  regular_node (node.Callout number from to at len) o d e h = tt

module _ (t : TreeParts) (rules : TreeRules t) where
  regular_under : (fuel q : ℕ) → q < fuel → q ≤ t.root → IsRegular (tree_at (trees t.nodes) q)
  regular_under zero q l m = absurd (omega (arith, l))
  regular_under (suc fuel) q l m =
      let d : Placed = record { node = node.Empty; at = 0 } in
      let p = get_or t.nodes q d in
      let inside : q < length t.nodes = omega (arith, m, rules.root) in
      let r = reached_node t.nodes q p rules.nodes.below inside (get_or_default t.nodes q d p inside) in
      let each = rules.nodes.each q d inside in
      let kids : All (IsKidRegular (trees t.nodes)) (kids_of p.node) = λ i o j.
      let below : get_or (kids_of p.node) i o < q = r.1 i o j in
      regular_under fuel (get_or (kids_of p.node) i o) (omega (arith, below, l)) (omega (arith, below, m)) in
      subst IsRegular r.0 (regular_node (trees t.nodes) p.node each.ordered each.define each.test kids)

  pub regular_whole : IsRegular (tree_of t)
  regular_whole = regular_under (suc t.root) t.root (omega arith) (omega arith)
