-- A tree without places of its nodes is checked as the tree is, and has its image.
use Rattle.std.proofs.Common.{◌≡◌, ℕ, ◌+◌, ◌<◌, ◌≤◌, Bool, true, false, ◌||◌, List, [], ◌∷◌, ◌++◌, length, map}
use Rattle.std.proofs.Common.{Option, None, Some, refl, sym, ap, ◌∙◌, subst, arith, All, if◌then◌else◌, max}
use Rattle.std.specs.List.{AllByRecursion, list_all, flat_map, IsDistinct}
use Rattle.std.specs.Prelude.{codes, nat_eq}
use Rattle.std.proofs.lemmas.List.{length-map, map-append}
use Rattle.std.proofs.lemmas.List.Elements.{All-from_recursion, recursion_from_All}
use Rattle.pat_tree.specs.declared.nodes.Node.{Node}
use Rattle.pat_tree.specs.declared.nodes.Placed.{Placed}
use Rattle.pat_tree.specs.Closing.{TakeTheLast}
use Rattle.pat_tree.specs.Growing.{AllUnder, AreBelow, EndsIn, loose, loose_after, without}
use Rattle.pat_tree.specs.Nested.{Nested, nest, trees, trees_after, tree_at}
use Rattle.pat_tree.specs.Parts.{TreeParts}
use Rattle.pat_tree.specs.Refs.{bad_ref, has_group, is_group, least_of, named_by, refs}
use Rattle.pat_tree.specs.Rules.{asserted_by, is_test, kids_of, numbers_of}
use Rattle.pat_tree.specs.Sound.{NodeRules, Sound, TreeRules, children, greatest, group_numbers}
use Rattle.pat_tree.proofs.Named.{bad_at, bad_ref_same}
use Rattle.pat_save.specs.Checked.{AreChecked, IsChecked, IsCheckedSaved, IsNode}
use Rattle.pat_save.specs.Fields.{counted, four_bytes}
use Rattle.pat_save.specs.Image.{image_of, node_bytes, options_bytes, placed_bytes, record_bytes, tables_bytes}
use Rattle.pat_save.specs.Image.{text_bytes}
use Rattle.pat_save.specs.Sized.{AreSized, IsSized, IsSizedNode, plain, plain_node, plain_saved, plain_tree}
use Rattle.pat_save.specs.declared.saved.Saved.{Saved}

abbrev bare : List Placed → List Placed
bare = map plain_node

all_bare : (P : Node → Type 0) (ps : List Placed) → AllByRecursion (λ p. P p.node) ps
    → AllByRecursion (λ p. P p.node) (bare ps)
all_bare P [] all = tt
all_bare P (p ∷ ps) all = (all.0, all_bare P ps all.1)

each_bare : (P : Node → Type 0) (ps : List Placed) → All (λ p. P p.node) ps → All (λ p. P p.node) (bare ps)
each_bare P ps all =
    All-from_recursion (λ p. P p.node) (bare ps) (all_bare P ps (recursion_from_All (λ p. P p.node) ps all))

no_place : (ps : List Placed) → AllByRecursion (λ p. p.at ≡ 0) (bare ps)
no_place [] = tt
no_place (p ∷ ps) = (refl, no_place ps)

trees_bare_after : (before : List Nested) (ps : List Placed) → trees_after before (bare ps) ≡ trees_after before ps
unfolding trees_after
trees_bare_after before [] = refl
trees_bare_after before (p ∷ ps) = trees_bare_after (before ++ nest before p.node ∷ []) ps

trees_bare : (ps : List Placed) → trees (bare ps) ≡ trees ps
unfolding trees
trees_bare ps = trees_bare_after [] ps

loose_bare_after : (n : ℕ) (before : List ℕ) (ps : List Placed) → loose_after n before (bare ps) ≡ loose_after n before ps
unfolding loose_after
loose_bare_after n before [] = refl
loose_bare_after n before (p ∷ ps) = loose_bare_after (n + 1) (without (kids_of p.node) before ++ n ∷ []) ps

loose_bare : (ps : List Placed) → loose (bare ps) ≡ loose ps
unfolding loose
loose_bare ps = loose_bare_after 0 [] ps

children_bare : (ps : List Placed) → children (bare ps) ≡ children ps
unfolding children
children_bare [] = refl
children_bare (p ∷ ps) = ap (λ ks. kids_of p.node ++ ks) (children_bare ps)

numbers_bare : (ps : List Placed) → group_numbers (bare ps) ≡ group_numbers ps
unfolding group_numbers
numbers_bare [] = refl
numbers_bare (p ∷ ps) = ap (λ ns. numbers_of p.node ++ ns) (numbers_bare ps)

group_bare : (ps : List Placed) (n : ℕ) → has_group (bare ps) n ≡ has_group ps n
group_bare [] n = refl
group_bare (p ∷ ps) n = ap (λ b. is_group n p.node || b) (group_bare ps n)

below_bare : (n : ℕ) (ps : List Placed) → AreBelow n ps → AreBelow n (bare ps)
below_bare n [] below = tt
below_bare n (p ∷ ps) below = (below.0, below_bare (n + 1) ps below.1)

turns_bare : (before ps : List Placed) → TakeTheLast before ps → TakeTheLast (bare before) (bare ps)
turns_bare before [] turns = tt
turns_bare before (p ∷ ps) turns = (
  record { front = turns.0.front; is = loose_bare before ∙ turns.0.is },
  subst (λ l. TakeTheLast l (bare ps)) (map-append plain_node before (p ∷ []))
      (turns_bare (before ++ p ∷ []) ps turns.1),
)

then_none : {A : Type 0} (t : Bool) (a : Option A) (b : A) → (if t then a else Some b) ≡ None → (t ≡ true) × (a ≡ None)
then_none true a b h = (refl, h)
then_none false a b h = absurd cc

-- which groups are named doesn't hang on places
refs_bare : (stands : ℕ → Bool) (ps : List Placed) → bad_ref stands (refs ps) ≡ None
    → bad_ref stands (refs (bare ps)) ≡ None
unfolding refs
refs_bare stands [] none = none
refs_bare stands (p ∷ ps) none =
    let both = then_none (list_all stands (named_by p.node)) (bad_ref stands (refs ps))
    (least_of p.at (bad_ref stands (refs ps))) (sym (bad_at stands p.at (named_by p.node) (refs ps)) ∙ none) in
    bad_at stands 0 (named_by p.node) (refs (bare ps))
    ∙ ap (λ (t : Bool). if t then bad_ref stands (refs (bare ps)) else Some
    (least_of 0 (bad_ref stands (refs (bare ps))))) both.0
    ∙ refs_bare stands ps both.1

rules_bare : (c v : ℕ) (ps : List Placed) (x : Node) → NodeRules c v ps x → NodeRules c v (bare ps) x
rules_bare c v ps x rules = record {
  kids = subst (λ n. All (λ k. k < n) (kids_of x)) (sym (length-map ps plain_node)) rules.kids;
  classes = rules.classes;
  verb_names = rules.verb_names;
  numbered = rules.numbered;
  named = rules.named;
  ordered = rules.ordered;
  define = rules.define;
  test = subst (λ ts. All (λ k. is_test (tree_at ts k) ≡ true) (asserted_by x)) (sym (trees_bare ps)) rules.test;
}

sound_bare : (c v : ℕ) (ps : List Placed) → Sound c v ps → Sound c v (bare ps)
sound_bare c v ps sound = record {
  below = below_bare 0 ps sound.below;
  once = subst (IsDistinct nat_eq) (sym (children_bare ps)) sound.once;
  each = each_bare (NodeRules c v (bare ps)) ps (λ i d lt. rules_bare c v ps _ (sound.each i d lt));
}

tree_rules : (t : TreeParts) → TreeRules t → TreeRules (plain_tree t)
tree_rules t rules =
    let count = length-map t.nodes plain_node in
    let same = group_bare t.nodes in
    record {
      nodes = sound_bare (length t.classes) (length t.verb_names) t.nodes rules.nodes;
      root = omega (arith, count, rules.root);
      refs = bad_ref_same (has_group (bare t.nodes)) (has_group t.nodes) same (refs (bare t.nodes))
          ∙ refs_bare (has_group t.nodes) t.nodes rules.refs;
      names = λ i d lt. same _ ∙ rules.names i d lt;
      ordered = rules.ordered;
      node_count = omega (arith, count, rules.node_count);
      class_count = rules.class_count;
      verb_name_count = rules.verb_name_count;
    }

tree_plain : (t : TreeParts) (text : List ℕ) → IsChecked t text → IsChecked (plain_tree t) text
tree_plain t text is = record {
  rules = tree_rules t is.rules;
  turns = turns_bare [] t.nodes is.turns;
  whole = loose_bare t.nodes ∙ is.whole;
  nodes = each_bare (IsNode t.options.utf text) t.nodes is.nodes;
  classes = is.classes;
  few_names = is.few_names;
  names = is.names;
  verb_names = is.verb_names;
  checked = is.checked;
}

tree_sized : (t : TreeParts) → IsSized t → IsSized (plain_tree t)
tree_sized t is = record {
  match_limit = is.match_limit;
  names = is.names;
  classes = is.classes;
  nodes = each_bare IsSizedNode t.nodes is.nodes;
}

each_plain : (list : List Saved) → AllByRecursion IsCheckedSaved list → AllByRecursion IsCheckedSaved (plain list)
each_plain [] all = tt
each_plain (s ∷ list) all =
    (record { short = all.0.short; tree = tree_plain s.tree s.text all.0.tree }, each_plain list all.1)

pub checked_plain : (list : List Saved) → AreChecked list → AreChecked (plain list)
checked_plain list are = record {
  few = omega (arith, length-map list plain_saved, are.few);
  each = All-from_recursion IsCheckedSaved (plain list)
      (each_plain list (recursion_from_All IsCheckedSaved list are.each));
}

pub each_sized : (list : List Saved) → AllByRecursion (λ s. IsSized s.tree) list
    → AllByRecursion (λ s. IsSized s.tree × All (λ p. p.at ≡ 0) s.tree.nodes) (plain list)
each_sized [] all = tt
each_sized (s ∷ list) all =
    let none = All-from_recursion (λ p. p.at ≡ 0) (bare s.tree.nodes) (no_place s.tree.nodes) in
    ((tree_sized s.tree all.0, none), each_sized list all.1)

-- ---- images

nodes_same : (ps : List Placed) → flat_map placed_bytes (bare ps) ≡ flat_map placed_bytes ps
nodes_same [] = refl
nodes_same (p ∷ ps) = ap (λ bytes. node_bytes p.node ++ bytes) (nodes_same ps)

counted_same : (ps : List Placed) → counted placed_bytes (bare ps) ≡ counted placed_bytes ps
counted_same ps = ap (λ n. four_bytes n ++ flat_map placed_bytes (bare ps)) (length-map ps plain_node)
    ∙ ap (λ bytes. four_bytes (length ps) ++ bytes) (nodes_same ps)

record_same : (s : Saved) → record_bytes (plain_saved s) ≡ record_bytes s
record_same s =
    let front : List ℕ = options_bytes s.tree.options ++ text_bytes s.text in
    ap (λ ns. options_bytes s.tree.options ++ text_bytes s.text ++ four_bytes (greatest ns) ++ tables_bytes s.tree
    ++ counted placed_bytes (bare s.tree.nodes)) (numbers_bare s.tree.nodes)
    ∙ ap (λ bytes. options_bytes s.tree.options ++ text_bytes s.text
    ++ four_bytes (greatest (group_numbers s.tree.nodes)) ++ tables_bytes s.tree ++ bytes) (counted_same s.tree.nodes)

records_same : (list : List Saved) → flat_map record_bytes (plain list) ≡ flat_map record_bytes list
records_same [] = refl
records_same (s ∷ list) = ap (λ bytes. bytes ++ flat_map record_bytes (plain list)) (record_same s)
    ∙ ap (λ bytes. record_bytes s ++ bytes) (records_same list)

pub image_plain : (list : List Saved) → image_of (plain list) ≡ image_of list
unfolding image_of
image_plain list =
    ap (λ n. codes "PCP1" ++ four_bytes n ++ flat_map record_bytes (plain list)) (length-map list plain_saved)
    ∙ ap (λ bytes. codes "PCP1" ++ four_bytes (length list) ++ bytes) (records_same list)

-- ---- what is loaded has no places

node_plain : (p : Placed) → p.at ≡ 0 → plain_node p ≡ p
node_plain p none = ap (λ at. let q : Placed = record { node = p.node; at = at } in q) (sym none)

nodes_plain : (ps : List Placed) → AllByRecursion (λ p. p.at ≡ 0) ps → bare ps ≡ ps
nodes_plain [] all = refl
nodes_plain (p ∷ ps) all = ap (λ q. q ∷ bare ps) (node_plain p all.0) ∙ ap (λ qs. p ∷ qs) (nodes_plain ps all.1)

saved_plain : (s : Saved) → All (λ p. p.at ≡ 0) s.tree.nodes → plain_saved s ≡ s
saved_plain s none =
    ap (λ (ps : List Placed). let r : Saved = record { tree = record (s.tree) { nodes = ps }; text = s.text } in r)
    (nodes_plain s.tree.nodes (recursion_from_All (λ p. p.at ≡ 0) s.tree.nodes none))

pub list_plain : (list : List Saved) → AllByRecursion (λ s. All (λ p. p.at ≡ 0) s.tree.nodes) list → plain list ≡ list
list_plain [] all = refl
list_plain (s ∷ list) all = ap (λ r. r ∷ plain list) (saved_plain s all.0)
    ∙ ap (λ l. s ∷ l) (list_plain list all.1)
