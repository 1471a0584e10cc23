-- What fits as an image is a list of checked trees, and such a list fits.
use Rattle.std.proofs.Common.{◌≡◌, ℕ, zero, suc, ◌+◌, ◌-◌, ◌^◌, ◌<◌, ◌≤◌, Bool, true, false, not, ◌&&◌, ◌==◌}
use Rattle.std.proofs.Common.{List, [], ◌∷◌, ◌++◌, length, Option, Some, None, refl, sym, ap, ◌∙◌, subst}
use Rattle.std.proofs.Common.{append_assoc, append-nil, arith, inl, inr, All, cond, get_or, if◌then◌else◌, max}
use Rattle.std.specs.Prelude.{is_none, IfSome, IfOk, IfErr, Result, Ok, Err}
use Rattle.std.specs.List.{list_all, AllByRecursion, IsDistinct}
use Rattle.std.proofs.lemmas.Bool.{eqb-true, eq-eqb}
use Rattle.std.proofs.lemmas.Bool.Decides.{nat_tests}
use Rattle.std.proofs.lemmas.List.{get_or-drop, length-append, nil_from_length, take-append-drop}
use Rattle.std.proofs.lemmas.List.Elements.{All-from_recursion, recursion_from_All, All-nil, All-cons, All-head}
use Rattle.std.proofs.lemmas.List.Sums.{AllPass-from_list_all, list_all-from_AllPass}
use Rattle.pat_tree.specs.declared.names.NameEntry.{NameEntry}
use Rattle.pat_tree.specs.declared.nodes.Cond.TheVariants as test
use Rattle.pat_tree.specs.declared.nodes.Node.{Node}
use Rattle.pat_tree.specs.declared.nodes.Node.TheVariants as node
use Rattle.pat_tree.specs.declared.nodes.Placed.{Placed}
use Rattle.pat_tree.specs.Closing.{StandInTurn, TakeTheLast}
use Rattle.pat_tree.specs.Growing.{AllUnder, EndsIn, Grows, loose, loose_after, without}
use Rattle.pat_tree.specs.Nested.{trees, tree_at}
use Rattle.pat_tree.specs.Parts.{TreeParts}
use Rattle.pat_tree.specs.Refs.{refs, has_group, bad_ref, is_in}
use Rattle.pat_tree.specs.Rules.{kids_of, asserted_by, is_test, number_in, numbers_of}
use Rattle.pat_tree.specs.Sound.{NodeRules, Sound, TreeRules, children, greatest, group_numbers}
use Rattle.pat_tree.proofs.Growing.{grows_not, grows_then, makes_push, tree_on}
use Rattle.pat_tree.proofs.Keeping.{greatest-append, sound_push}
use Rattle.pat_tree.proofs.Loose.{fresh_at_end}
use Rattle.pat_save.specs.Checked.{AreChecked, IsChecked, IsCheckedSaved, IsClass, IsName, IsNode, IsVerbName}
use Rattle.pat_save.specs.Sized.{AreSized, IsLoaded, IsSized, IsSizedNode, IsSizedPart, plain}
use Rattle.pat_save.specs.declared.errors.LoadError.{LoadError}
use Rattle.pat_save.specs.declared.errors.LoadError.TheVariants as load
use Rattle.pat_save.specs.Reading.{◌>>=◌, Gives}
use Rattle.pat_save.specs.declared.saved.Saved.{Saved}
use Rattle.pat_save.specs.declared.taken_nodes.Around.{Around}
use Rattle.pat_save.specs.ReadNodes.{free_in}
use Rattle.std.specs.Prelude.{bytes_eq, codes, take, drop}
use Rattle.pat_save.specs.Image.{image_of, record_bytes}
use Rattle.pat_save.specs.ReadImage.{list_of, records_at}
use Rattle.pat_save.proofs.Forms.{AreBytes, Follow, Holds, bind_some, chosen_some, found_is}
use Rattle.pat_save.proofs.ImageForms.{records_bytes, records_form}
use Rattle.pat_save.proofs.ImageForms.{FitList, FitNodes, FitTables, FitsPlaced, FitsSaved, FitsTree, around_in}
use Rattle.pat_save.proofs.ImageForms.{tables_of}
use Rattle.pat_save.proofs.Sorting.{and_both, both_true}
use Rattle.pat_save.proofs.TableForms.{AreSizedOptions, IsNameEntry, IsSizedClass, IsText, joined_all, split_all}
use Rattle.pat_save.proofs.Plain.{checked_plain, each_sized, image_plain, list_plain}
use Rattle.pat_save.proofs.Turns.{kids_few}
use Rattle.pat_save.proofs.NodeRules.{Few, NodeIs, fits, keeps}

-- ---- loose nodes are nodes

below_without : (ks xs : List ℕ) (n : ℕ) → AllByRecursion (λ k. k < n) xs → AllByRecursion (λ k. k < n) (without ks xs)
below_without ks [] n all = tt
below_without ks (x ∷ xs) n all =
    elim (is_in x ks) as (λ b. AllByRecursion (λ k. k < n) (cond b (without ks xs) (x ∷ without ks xs))) [
      | true ↦ below_without ks xs n all.1
      | false ↦ (all.0, below_without ks xs n all.1)
    ]

below_more : (xs : List ℕ) (n : ℕ) → AllByRecursion (λ k. k < n) xs → AllByRecursion (λ k. k < n + 1) (xs ++ n ∷ [])
below_more [] n all = (omega arith, tt)
below_more (x ∷ xs) n all = (omega (arith, all.0), below_more xs n all.1)

loose_below_after : (n : ℕ) (before : List ℕ) (ps : List Placed) → AllByRecursion (λ k. k < n) before
    → AllByRecursion (λ k. k < n + length ps) (loose_after n before ps)
unfolding loose_after
loose_below_after n before [] all = let e : n ≡ n + 0 = omega arith in subst
    (λ m. AllByRecursion (λ k. k < m) before) e all
loose_below_after n before (p ∷ ps) all =
    let e : (n + 1) + length ps ≡ n + suc (length ps) = omega arith in
    subst (λ m. AllByRecursion (λ k. k < m) (loose_after (n + 1) (without (kids_of p.node) before ++ n ∷ []) ps)) e
    (loose_below_after (n + 1) (without (kids_of p.node) before ++ n ∷ []) ps
    (below_more (without (kids_of p.node) before) n (below_without (kids_of p.node) before n all)))

pub loose_below : (ps : List Placed) → AllByRecursion (λ k. k < length ps) (loose ps)
unfolding loose
loose_below ps = let e : 0 + length ps ≡ length ps = omega arith in
    subst (λ m. AllByRecursion (λ k. k < m) (loose_after 0 [] ps)) e (loose_below_after 0 [] ps tt)

last_below : (front ks : List ℕ) (n : ℕ) → AllByRecursion (λ k. k < n) (front ++ ks) → AllByRecursion (λ k. k < n) ks
last_below [] ks n all = all
last_below (x ∷ front) ks n all = last_below front ks n all.1

-- children are nodes that stand before
pub kids_below : (ps : List Placed) (ks : List ℕ) → EndsIn ps ks → All (λ k. k < length ps) ks
kids_below ps ks ends = All-from_recursion (λ k. k < length ps) ks
    (last_below ends.front ks (length ps) (subst (AllByRecursion (λ k. k < length ps)) ends.is (loose_below ps)))

-- numbers within their types, and no place
abbrev IsBare : TreeParts → Type 0
IsBare t = IsSized t × All (λ p. p.at ≡ 0) t.nodes

-- ---- the rules of what is read

pub rules_of : (around : Around) (text : List ℕ) (known : List Placed) (x : Node) → NodeIs around text known x
    → NodeRules around.classes around.verb_names known x
rules_of around text known x is = record {
  kids = kids_below known (kids_of x) is.ends;
  classes = is.classes;
  verb_names = is.verb_names;
  numbered = is.numbered;
  named = is.named;
  ordered = is.ordered;
  define = is.define;
  test = is.test;
}

sound_more : (around : Around) (text : List ℕ) (known ps : List Placed)
    → Sound around.classes around.verb_names known → Follow (FitsPlaced around text) known ps
    → Sound around.classes around.verb_names (known ++ ps)
sound_more around text known [] sound fit =
    subst (Sound around.classes around.verb_names) (sym (append-nil known)) sound
sound_more around text known (p ∷ ps) sound fit =
    let is = keeps around text known p.node fit.0.0 in
    subst (Sound around.classes around.verb_names) (append_assoc known (p ∷ []) ps)
    (sound_more around text (known ++ p ∷ []) ps
    (sound_push around.classes around.verb_names known p sound (rules_of around text known p.node is)
    (fresh_at_end is.ends))
    fit.1)

none_sound : (c v : ℕ) → Sound c v []
unfolding children IsDistinct
none_sound c v = record { below = tt; once = tt; each = All-nil (λ p. NodeRules c v [] p.node) }

turns_more : (around : Around) (text : List ℕ) (known ps : List Placed) → Follow (FitsPlaced around text) known ps
    → TakeTheLast known ps
turns_more around text known [] fit = tt
turns_more around text known (p ∷ ps) fit =
    ((keeps around text known p.node fit.0.0).ends, turns_more around text (known ++ p ∷ []) ps fit.1)

nodes_more : (around : Around) (text : List ℕ) (known ps : List Placed) → Follow (FitsPlaced around text) known ps
    → AllByRecursion (λ p. IsNode around.utf text p.node) ps
nodes_more around text known [] fit = tt
nodes_more around text known (p ∷ ps) fit =
    ((keeps around text known p.node fit.0.0).node, nodes_more around text (known ++ p ∷ []) ps fit.1)

sized_more : (around : Around) (text : List ℕ) (known ps : List Placed) → Follow (FitsPlaced around text) known ps
    → AllByRecursion (λ p. IsSizedNode p.node) ps × AllByRecursion (λ p. p.at ≡ 0) ps
sized_more around text known [] fit = (tt, tt)
sized_more around text known (p ∷ ps) fit =
    let more = sized_more around text (known ++ p ∷ []) ps fit.1 in
    (((keeps around text known p.node fit.0.0).sized, more.0), (fit.0.1, more.1))

some_holds : {A : Type 0} (f : A → Type 0) (o : Option A) → Holds f o → IfSome o f
some_holds f None h = tt
some_holds f (Some x) h = h

holds_some : {A : Type 0} (f : A → Type 0) (o : Option A) → IfSome o f → Holds f o
holds_some f None h = tt
holds_some f (Some x) h = h

none_of : {A : Type 0} (o : Option A) → is_none o ≡ true → o ≡ None
none_of None e = refl
none_of (Some x) e = absurd cc

pub root_below : (ps : List Placed) (root : ℕ) → loose ps ≡ root ∷ [] → root < length ps
root_below ps root e = (subst (AllByRecursion (λ k. k < length ps)) e (loose_below ps)).0

names_short : (xs : List NameEntry) → AllByRecursion IsNameEntry xs
    → AllByRecursion (λ entry. IsName 128 entry.name) xs × AllByRecursion (λ entry. entry.group < 2 ^ 16) xs
names_short [] all = (tt, tt)
names_short (x ∷ xs) all =
    let more = names_short xs all.1 in ((all.0.0, more.0), (omega (arith, all.0.1), more.1))

pub tree_checked : (text : List ℕ) (t : TreeParts) → IsText t.options.utf text → FitsTree t.options text t
    → AreSizedOptions t.options → IsChecked t text × IsBare t
tree_checked text t text_fits fit limit =
    let around = around_in t.options t in
    let a = both_true (list_all (λ entry. has_group t.nodes entry.group) t.names
    && is_none (bad_ref (has_group t.nodes) (refs t.nodes)))
    (greatest (group_numbers t.nodes) == greatest (group_numbers t.nodes)) fit.stand in
    let b = both_true (list_all (λ entry. has_group t.nodes entry.group) t.names)
    (is_none (bad_ref (has_group t.nodes) (refs t.nodes))) a.0 in
    let sound = sound_more around text [] t.nodes (none_sound around.classes around.verb_names) fit.nodes.0 in
    let names = names_short t.names fit.tables.0.1 in
    let classes = split_all (IsClass t.options.utf) IsSizedClass t.classes fit.tables.1.1.0 in
    let sized = sized_more around text [] t.nodes fit.nodes.0 in (
      record {
        rules = record {
          nodes = sound;
          root = root_below t.nodes t.root fit.root;
          refs = none_of (bad_ref (has_group t.nodes) (refs t.nodes)) b.1;
          names = AllPass-from_list_all (λ entry. has_group t.nodes entry.group) t.names b.0;
          ordered = fit.tables.0.0;
          node_count = omega (arith, fit.nodes.1);
          class_count = omega (arith, fit.tables.1.1.1);
          verb_name_count = omega (arith, fit.tables.1.0.1);
        };
        turns = turns_more around text [] t.nodes fit.nodes.0;
        whole = fit.root;
        nodes = All-from_recursion (λ p. IsNode t.options.utf text p.node) t.nodes
            (nodes_more around text [] t.nodes fit.nodes.0);
        classes = classes.0;
        few_names = omega (arith, fit.tables.0.2);
        names = All-from_recursion (λ entry. IsName 128 entry.name) t.names names.0;
        verb_names = All-from_recursion (IsVerbName t.options.utf) t.verb_names fit.tables.1.0.0;
        checked = text_fits.1;
      },
      (
        record {
          match_limit = some_holds (λ n. n < 2 ^ 32) t.options.match_limit limit;
          names = All-from_recursion (λ entry. entry.group < 2 ^ 16) t.names names.1;
          classes = classes.1;
          nodes = All-from_recursion (λ p. IsSizedNode p.node) t.nodes sized.0;
        },
        All-from_recursion (λ p. p.at ≡ 0) t.nodes sized.1,
      ),
    )

each_checked : (list : List Saved) → AllByRecursion FitsSaved list
    → AllByRecursion IsCheckedSaved list × AllByRecursion (λ s. IsBare s.tree) list
each_checked [] all = (tt, tt)
each_checked (s ∷ list) all =
    let one = tree_checked s.text s.tree all.0.text all.0.tree all.0.options in
    let more = each_checked list all.1 in
    ((record { short = all.0.text.0; tree = one.0 }, more.0), (one.1, more.1))

all_sized : (list : List Saved) → AllByRecursion (λ s. IsBare s.tree) list → AllByRecursion (λ s. IsSized s.tree) list
all_sized [] all = tt
all_sized (s ∷ list) all = (all.0.0, all_sized list all.1)

all_without_places : (list : List Saved) → AllByRecursion (λ s. IsBare s.tree) list
    → AllByRecursion (λ s. All (λ p. p.at ≡ 0) s.tree.nodes) list
all_without_places [] all = tt
all_without_places (s ∷ list) all = (all.0.1, all_without_places list all.1)

pub list_checked : (list : List Saved) → FitList list → AreChecked list × AreSized list × (plain list ≡ list)
list_checked list fit =
    let all = each_checked list fit.0 in (
      record { few = fit.1; each = All-from_recursion IsCheckedSaved list all.0 },
      All-from_recursion (λ s. IsSized s.tree) list (all_sized list all.1),
      list_plain list (all_without_places list all.1),
    )

-- ---- what is checked fits

grows_by : (known ps : List Placed) → Grows known (known ++ ps)
grows_by known [] = subst (Grows known) (sym (append-nil known)) (grows_not known)
grows_by known (p ∷ ps) =
    subst (Grows known) (append_assoc known (p ∷ []) ps)
    (grows_then (makes_push known p).grows (grows_by (known ++ p ∷ []) ps))

asserted_below : (n : ℕ) (t : Node) → All (λ k. k < n) (kids_of t) → All (λ k. k < n) (asserted_by t)
asserted_below n (node.Cond (test.Assert k) yes' no') h =
    All-cons (λ x. x < n) k [] (All-head (λ x. x < n) k (yes' ∷ number_in no') h) (All-nil (λ x. x < n))
asserted_below n _ h = λ i d m. absurd (omega (arith, m))

-- the test of a node is one among the nodes before it
test_before : (known ps : List Placed) (x : Node) → All (λ k. k < length known) (kids_of x)
    → All (λ k. is_test (tree_at (trees (known ++ ps)) k) ≡ true) (asserted_by x)
    → All (λ k. is_test (tree_at (trees known) k) ≡ true) (asserted_by x)
test_before known ps x below tests i d lt =
    let k = get_or (asserted_by x) i d in
    subst (λ t. is_test t ≡ true) (tree_on (grows_by known ps) k (asserted_below (length known) x below i d lt))
    (tests i d lt)

node_is : (around : Around) (text : List ℕ) (known : List Placed) (p : Placed) (ps : List Placed)
    → NodeRules around.classes around.verb_names (known ++ p ∷ ps) p.node → EndsIn known (kids_of p.node)
    → length (kids_of p.node) < 2 ^ 32 → IsNode around.utf text p.node → IsSizedNode p.node
    → NodeIs around text known p.node
node_is around text known p ps rules ends few is sized = record {
  ends = ends;
  few = few;
  classes = rules.classes;
  verb_names = rules.verb_names;
  numbered = rules.numbered;
  named = rules.named;
  ordered = rules.ordered;
  define = rules.define;
  test = test_before known (p ∷ ps) p.node (kids_below known (kids_of p.node) ends) rules.test;
  node = is;
  sized = sized;
}

fit_more : (around : Around) (text : List ℕ) (known ps : List Placed) → Few around text
    → length (known ++ ps) ≤ 4294967295
    → AllByRecursion (λ p. NodeRules around.classes around.verb_names (known ++ ps) p.node) ps → TakeTheLast known ps
    → AllByRecursion (λ p. IsNode around.utf text p.node) ps → AllByRecursion (λ p. IsSizedNode p.node) ps
    → AllByRecursion (λ p. p.at ≡ 0) ps → Follow (FitsPlaced around text) known ps
fit_more around text known [] few count rules turns is sized places = tt
fit_more around text known (p ∷ ps) few count rules turns is sized places =
    let kids = kids_few known (p ∷ ps) 0 p turns (omega arith) in
    let small : length (kids_of p.node) < 2 ^ 32 = omega (arith, kids, count, length-append known (p ∷ ps)) in
    let same = append_assoc known (p ∷ []) ps in (
      (fits around text known p.node few (node_is around text known p ps rules.0 turns.0 small is.0 sized.0), places.0),
      fit_more around text (known ++ p ∷ []) ps few
          (subst (λ (l : List Placed). length l ≤ 4294967295) (sym same) count)
          (subst (λ (l : List Placed). AllByRecursion (λ q. NodeRules around.classes around.verb_names l q.node) ps)
          (sym same)
          rules.1) turns.1 is.1 sized.1 places.1,
    )

number_greatest : (x : Node) → IsSizedNode x → greatest (numbers_of x) < 2 ^ 16
number_greatest (node.Group None branches) sized = omega arith
number_greatest (node.Group (Some n) branches) sized =
    let is : n < 2 ^ 16 = All-head (λ n. n < 2 ^ 16) n [] sized in omega arith
number_greatest _ sized = omega arith

most_short : (ps : List Placed) → AllByRecursion (λ p. IsSizedNode p.node) ps → greatest (group_numbers ps) < 2 ^ 16
unfolding group_numbers
most_short [] all = omega arith
most_short (p ∷ ps) all =
    omega (
      arith,
      greatest-append (numbers_of p.node) (group_numbers ps),
      number_greatest p.node all.0,
      most_short ps all.1,
    )

entries_fit : (xs : List NameEntry) → AllByRecursion (λ entry. IsName 128 entry.name) xs
    → AllByRecursion (λ entry. entry.group < 2 ^ 16) xs → AllByRecursion IsNameEntry xs
entries_fit [] names groups = tt
entries_fit (x ∷ xs) names groups = ((names.0, omega (arith, groups.0)), entries_fit xs names.1 groups.1)

pub tree_fits : (text : List ℕ) (t : TreeParts) → length text ≤ 65536 → IsChecked t text → IsBare t
    → FitsTree t.options text t
tree_fits text t short is sized =
    let around = around_in t.options t in
    let nodes = recursion_from_All (λ p. IsSizedNode p.node) t.nodes sized.0.nodes in
    record {
      options_are = refl;
      most = omega (arith, most_short t.nodes nodes);
      tables = (
        (
          is.rules.ordered,
          entries_fit t.names (recursion_from_All (λ entry. IsName 128 entry.name) t.names is.names)
              (recursion_from_All (λ entry. entry.group < 2 ^ 16) t.names sized.0.names),
          omega (arith, is.few_names),
        ),
        (
          (
            recursion_from_All (IsVerbName t.options.utf) t.verb_names is.verb_names,
            omega
                (arith, is.rules.verb_name_count),
          ),
          (
            joined_all (IsClass t.options.utf) IsSizedClass t.classes is.classes sized.0.classes,
            omega (arith, is.rules.class_count),
          ),
        ),
      );
      nodes = (
        fit_more around text [] t.nodes
            (record {
              classes = omega (arith, is.rules.class_count);
              verb_names = omega (arith, is.rules.verb_name_count);
              short = short;
            })
            is.rules.node_count
            (recursion_from_All (λ p. NodeRules around.classes around.verb_names t.nodes p.node) t.nodes
            is.rules.nodes.each)
            is.turns
            (recursion_from_All (λ p. IsNode t.options.utf text p.node) t.nodes is.nodes)
            nodes
            (recursion_from_All (λ p. p.at ≡ 0) t.nodes sized.1),
        omega (arith, is.rules.node_count),
      );
      root = is.whole;
      stand = and_both (list_all (λ entry. has_group t.nodes entry.group) t.names
          && is_none (bad_ref (has_group t.nodes) (refs t.nodes)))
          (greatest (group_numbers t.nodes) == greatest (group_numbers t.nodes))
          (and_both (list_all (λ entry. has_group t.nodes entry.group) t.names)
          (is_none (bad_ref (has_group t.nodes) (refs t.nodes)))
          (list_all-from_AllPass (λ entry. has_group t.nodes entry.group) t.names is.rules.names)
          (ap is_none is.rules.refs))
          (eq-eqb (greatest (group_numbers t.nodes)) (greatest (group_numbers t.nodes)) refl);
    }

each_fits : (list : List Saved) → AllByRecursion IsCheckedSaved list → AllByRecursion (λ s. IsBare s.tree) list
    → AllByRecursion FitsSaved list
each_fits [] checked sized = tt
each_fits (s ∷ list) checked sized = (
  record {
    options = holds_some (λ n. n < 2 ^ 32) s.tree.options.match_limit sized.0.0.match_limit;
    text = (checked.0.short, checked.0.tree.checked);
    tree = tree_fits s.text s.tree checked.0.short checked.0.tree sized.0;
  },
  each_fits list checked.1 sized.1,
)

pub list_fits : (list : List Saved) → AreChecked list → AreSized list → FitList (plain list)
list_fits list checked sized =
    let are = checked_plain list checked in (
      each_fits (plain list) (recursion_from_All IsCheckedSaved (plain list) are.each)
          (each_sized list (recursion_from_All (λ s. IsSized s.tree) list sized)),
      are.few,
    )

-- ---- whole images

if_some : {A : Type 0} (b : Bool) (o : Option A) (y : A) → cond b o None ≡ Some y → (b ≡ true) × (o ≡ Some y)
if_some true o y e = (refl, e)
if_some false o y e = absurd cc

same_bytes : (xs ys : List ℕ) → bytes_eq xs ys ≡ true → xs ≡ ys
same_bytes [] [] e = refl
same_bytes [] (y ∷ ys) e = absurd cc
same_bytes (x ∷ xs) [] e = absurd cc
same_bytes (x ∷ xs) (y ∷ ys) e =
    let b = both_true (x == y) (bytes_eq xs ys) e in
    ap (λ (z : ℕ). z ∷ xs) (eqb-true x y b.0) ∙ ap (λ (zs : List ℕ). y ∷ zs) (same_bytes xs ys b.1)

pub list_takes : (bytes : List ℕ) (list : List Saved) → AreBytes bytes → list_of bytes ≡ Some list
    → FitList list × (image_of list ≡ bytes)
unfolding list_of image_of
list_takes bytes list fits e =
    let g = if_some (bytes_eq (take 4 bytes) (codes "PCP1"))
    (records_at (drop 4 bytes) >>= λ l. cond (length l.1 == 0) (Some l.0) None) list e in
    let p = bind_some (records_at (drop 4 bytes)) (λ l. cond (length l.1 == 0) (Some l.0) None) list g.1 in
    let h = chosen_some (length p.0.1 == 0) p.0.0 list p.2 in
    let t = records_form.takes (drop 4 bytes) p.0 (λ i. rw get_or-drop (fits (4 + i))) p.1 in
    let end : p.0.1 ≡ [] = nil_from_length p.0.1 (eqb-true (length p.0.1) 0 h.0) in
    let behind : drop 4 bytes ≡ records_bytes p.0.0 = t.parts ∙ ap (λ (u : List ℕ). records_bytes p.0.0 ++ u) end
    ∙ append-nil (records_bytes p.0.0) in
    let letters : take 4 bytes ≡ codes "PCP1" = same_bytes (take 4 bytes) (codes "PCP1") g.0 in
    let whole : codes "PCP1" ++ records_bytes p.0.0 ≡ bytes =
    ap (λ (u : List ℕ). u ++ records_bytes p.0.0) (sym letters)
    ∙ ap (λ (u : List ℕ). take 4 bytes ++ u) (sym behind) ∙ take-append-drop 4 bytes in
    subst (λ (l : List Saved). FitList l × (codes "PCP1" ++ records_bytes l ≡ bytes)) h.1 (t.fit, whole)

pub list_again : (list : List Saved) → FitList list → list_of (image_of list) ≡ Some list
unfolding list_of image_of
list_again list fit =
    ap (λ (o : Option (List Saved × List ℕ)). o >>= λ l. if length l.1 == 0 then Some l.0 else None)
    (ap records_at (sym (append-nil (records_bytes list))) ∙ records_form.again list [] fit)

-- ---- what reading answers

pub is_found : (r : Result (List Saved) LoadError) (bytes : List ℕ) → AreBytes bytes → Gives (λ x. x) r (list_of bytes)
    → IfOk r (λ list. AreChecked list × AreSized list × (plain list ≡ list) × (image_of list ≡ bytes))
is_found (Ok list) bytes fit e =
    let t = list_takes bytes list fit e in
    let c = list_checked list t.0 in (c.0, c.1, c.2, t.1)
is_found (Err e) bytes fit h = tt

answered : (r : Result (List Saved) LoadError) (list : List Saved) → Gives (λ x. x) r (Some list) → IsLoaded r list
answered (Ok x) list e = found_is x list (sym e)
answered (Err load.Memory) list e = λ bad. absurd cc
answered (Err load.Bad) list e = absurd cc
answered (Err load.TooLarge) list e = absurd e

pub is_loaded : (r : Result (List Saved) LoadError) (bytes : List ℕ) → Gives (λ x. x) r (list_of bytes)
    → (list : List Saved) → AreChecked list → AreSized list → image_of list ≡ bytes → IsLoaded r (plain list)
is_loaded r bytes gives list checked sized same =
    let is : list_of bytes ≡ Some (plain list) = ap list_of (sym same ∙ sym (image_plain list))
    ∙ list_again (plain list) (list_fits list checked sized) in
    answered r (plain list) (subst (λ (o : Option (List Saved)). Gives (λ x. x) r o) is gives)

pub never_large : (P : Type 0) (r : Result (List Saved) LoadError) (read : Option (List Saved)) → Gives (λ x. x) r read
    → IfErr r (λ e. e ≡ load.TooLarge → P)
never_large P (Ok x) read gives = tt
never_large P (Err load.Memory) read gives = λ e. absurd cc
never_large P (Err load.Bad) read gives = λ e. absurd cc
never_large P (Err load.TooLarge) read gives = absurd gives
