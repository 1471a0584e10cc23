-- What a finished tree and a subject owe to the machine.
use Rattle.std.proofs.Common.{◌≡◌, ◌∙◌, ℕ, zero, suc, ◌-◌, ◌<◌, ◌≤◌, ℤ, Bool, true, false, ◌==◌, ◌&&◌, ◌||◌, not}
use Rattle.std.proofs.Common.{if◌then◌else◌, List, [], ◌∷◌, ◌++◌, Option, Some, None, All, length, take, drop}
use Rattle.std.proofs.Common.{get_or, chars, sum_by, ◌+◌, refl, sym, ap, subst, arith, inl, inr}
use Rattle.std.specs.Prelude.{slice_get, slice_index_or, nat_eq}
use Rattle.std.specs.List.{IsDistinct, list_any, AllByRecursion}
use Rattle.std.specs.Option.{unwrap_or}
use Rattle.std.proofs.Math.Path.{fun_ext}
use Rattle.std.proofs.lemmas.Bool.{cases_Bool, cases_lt, eqb-true, le-leb, le-ltb, false≢true}
use Rattle.std.proofs.lemmas.Str.{chars-nil}
use Rattle.std.specs.Char.{len_utf8}
use Rattle.std.proofs.lemmas.List.{get_or_past}
use Rattle.std.proofs.lemmas.List.Elements.{All-head, All-tail, All-weaker}
use Rattle.std.proofs.lemmas.Map.Steps.{length-le_from_distinct_below}
use Rattle.std.proofs.lemmas.Bool.Decides.{nat_tests}
use Rattle.pat_tree.specs.declared.nodes.Item.{Item}
use Rattle.pat_tree.specs.declared.options.Options.{Options}
use Rattle.pat_tree.specs.declared.options.MatchOptions.{MatchOptions}
use Rattle.pat_tree.specs.declared.nodes.Node.{Node}
use Rattle.pat_tree.specs.declared.nodes.Node.TheVariants as node
use Rattle.pat_tree.specs.declared.nodes.Placed.{Placed}
use Rattle.pat_tree.specs.Nested.{trees, tree_at, nest}
use Rattle.pat_tree.specs.Rules.{kids_of, numbers_of, verb_names_of}
use Rattle.pat_tree.specs.Refs.{named_by, is_in, is_group, has_group}
use Rattle.pat_tree.specs.Sound.{NodeRules, TreeRules, children, group_numbers, greatest}
use Rattle.pat_tree.specs.declared.options.PartialMode.{PartialMode}
use Rattle.frame_state.specs.ordered_search.Places.{is_off}
use Rattle.pat_tree.specs.Parts.{TreeParts}
use Rattle.node_flow.specs.Followers.{rest}
use Rattle.node_flow.specs.Linked.{IsLinked}
use Rattle.node_flow.specs.Branches.{branch_child, branch_of}
use Rattle.node_flow.specs.LookBranches.{look_branch_child, look_branch_of}
use Rattle.node_flow.specs.Order.{StandInTurn, order, rank, past}
use Rattle.node_flow.proofs.InTurn.{children_stand_in_turn, root_in_order}
use Rattle.node_flow.proofs.Telling.{hang_together}
use Rattle.node_flow.proofs.TreeLaws.{followers_hang_together}
use Rattle.pat_lengths.specs.Backs.{first_fault}
use Rattle.frame_board.proofs.Measured.{measured_whole}
use Rattle.char_sets.specs.Table.{CharSet, table_has, IsTableOf}
use Rattle.pcre_io.specs.declared.callouts.Block.{Block}
use Rattle.match_items.specs.declared.view.View.{View}
use Rattle.match_items.specs.Subjects.{IsText}
use Rattle.match_items.specs.Scene.{Scene}
use Rattle.match_items.specs.Items.{one_less, is_none_left, after_item, item_reaches, run_places, longest_run}
use Rattle.match_items.specs.Items.{run_reaches, characters, width, after_text, after_ref, text_reaches, ref_reaches}
use Rattle.match_items.specs.Views.{text_scene, told, maximum, fold_in}
use Rattle.match_items.proofs.TextGround.{places_stand}
use Rattle.frame_board.specs.Told.{place_in}
use Rattle.frame_state.specs.ordered_search.Setting.{class_holds}
use Rattle.frame_state.proofs.ordered_search.Classes.{class_is}
use Rattle.frame_state.specs.Ground.{IsNode}
use Rattle.frame_board.specs.Ready.{setting_in, IsBoardSearch, ground_in}

-- a node of no tree
abbrev nowhere : Placed
nowhere = record { node = node.Empty; at = 0 }

-- what is told, read again
pub place_told : (o : Option ℕ) (reaches : Bool) → place_in (told o reaches) ≡ o
place_told (Some q) reaches = refl
place_told None true = refl
place_told None false = refl

-- A maximum that no run reaches is none.

-- the place after one item, and those that follow
abbrev places_on : Option ℕ → (ℕ → List ℕ) → List ℕ
places_on o more = elim o as (λ _. List ℕ) [ None ↦ [] | Some q ↦ q ∷ more q ]

run_unbounded : (g : Scene) (item : Item) (n m p : ℕ) → n ≤ m
    → run_places g item n (Some m) p ≡ run_places g item n None p
unfolding run_places
run_unbounded g item zero m p le = refl
run_unbounded g item (suc n) zero p le = absurd (omega (arith, le))
run_unbounded g item (suc n) (suc m) p le =
    let less : suc m - 1 ≡ m = omega arith in
    let some_left : (suc m == 0) ≡ false = grind (arith, nat_tests) in
    ap (λ (b : Bool). elim b as (λ _. List ℕ) [
      | true ↦ []
      | false ↦
          places_on (after_item g item p) (run_places g item n (Some (suc m - 1)))
    ]) some_left
    ∙ ap (λ x. places_on (after_item g item p) (run_places g item n (Some x))) less
    ∙ ap (places_on (after_item g item p)) (fun_ext (λ q. run_unbounded g item n m q (omega (arith, le))))

module _ (g : Scene) (item : Item) (p : ℕ) (short : length g.subject < 4294967295) where
  all_of : (m : ℕ) → m ≡ 4294967295 → longest_run g item None p ≡ longest_run g item (Some m) p
  all_of m e = sym (run_unbounded g item (length g.subject) m p (omega (arith, short, e)))

  some_of : (m : ℕ) (b : Bool) → (m == 4294967295) ≡ b
      → longest_run g item (if b then None else Some m) p ≡ longest_run g item (Some m) p
  some_of m true e = all_of m (eqb-true m 4294967295 e)
  some_of m false e = refl

  -- the greatest number of 32 bits in the place of no maximum
  pub run_as : (most : Option ℕ) (m : ℕ) → m ≡ unwrap_or most 4294967295
      → longest_run g item (maximum m) p ≡ longest_run g item most p
  run_as None m e = ap (λ x. longest_run g item (maximum x) p) e
  run_as (Some k) m e = ap (λ x. longest_run g item (maximum x) p) e ∙ some_of k (k == 4294967295) refl

-- The same of what the tests of a run tell of the subject's end.

run_few : (g : Scene) (item : Item) (n : ℕ) (most : Option ℕ) (p : ℕ) → length (run_places g item n most p) ≤ n
unfolding run_places
run_few g item zero most p = omega arith
run_few g item (suc n) most p =
    elim (is_none_left most) as (λ (b : Bool). length
    (elim b as (λ _. List ℕ) [
      | true ↦ []
      | false ↦ places_on (after_item g item p)
          (run_places g item n (one_less most))
    ]) ≤ suc n) [
      | true ↦ omega arith
      | false ↦ elim (after_item g item p) as (λ (o : Option ℕ). length
          (places_on o (run_places g item n (one_less most))) ≤ suc n) [
            | None ↦ omega arith
            | Some q ↦ let few = run_few g item n (one_less most) q in omega (arith, few)
          ]
    ]

reaches_unbounded : (g : Scene) (item : Item) (m p : ℕ) (ps : List ℕ) → length ps < m
    → run_reaches g item (Some m) p ps ≡ run_reaches g item None p ps
unfolding run_reaches
reaches_unbounded g item m p [] less =
    let some_left : (m == 0) ≡ false = grind (arith, nat_tests) in ap (λ b. not b && item_reaches g item p) some_left
reaches_unbounded g item m p (q ∷ qs) less = ap (λ b. item_reaches g item p || b)
    (reaches_unbounded g item (m - 1) q qs (omega (arith, less)))

module _ (g : Scene) (item : Item) (p : ℕ) (short : length g.subject < 4294967295) where
  abbrev reaches_with : Option ℕ → Bool
  reaches_with most = run_reaches g item most p (longest_run g item most p)

  some_reaches : (m : ℕ) (b : Bool) → (m == 4294967295) ≡ b
      → reaches_with (if b then None else Some m) ≡ reaches_with (Some m)
  some_reaches m true e =
      let most : m ≡ 4294967295 = eqb-true m 4294967295 e in
      let few = run_few g item (length g.subject) (Some m) p in
      ap (run_reaches g item None p) (all_of g item p short m most)
      ∙ sym (reaches_unbounded g item m p (longest_run g item (Some m) p) (omega (arith, few, short, most)))
  some_reaches m false e = refl

  pub reaches_as : (most : Option ℕ) (m : ℕ) → m ≡ unwrap_or most 4294967295
      → reaches_with (maximum m) ≡ reaches_with most
  reaches_as None m e = ap (λ x. reaches_with (maximum x)) e
  reaches_as (Some k) m e = ap (λ x. reaches_with (maximum x)) e ∙ some_reaches k (k == 4294967295) refl

-- What is asked only where partial matches are looked for.

pub asked_for : (p : PartialMode) (b x : Bool) → is_off p ≡ false → b ≡ x → b ≡ (not (is_off p) && x)
asked_for p b x e h = h ∙ sym (ap (λ z. not z && x) e)

-- An empty text stands everywhere.

no_characters : (g : Scene) → characters g [] ≡ []
no_characters g = by_utf g.options.utf
  where
    by_utf : (b : Bool) → elim b as (λ _. List ℕ) [ true ↦ chars [] | false ↦ [] ] ≡ []
    by_utf true = chars-nil
    by_utf false = refl

no_width : (g : Scene) → width g [] ≡ 0
no_width g = by_utf g.options.utf
  where
    by_utf : (b : Bool) → elim b as (λ _. ℕ) [ true ↦ sum_by len_utf8 [] | false ↦ length {A = ℕ} [] ] ≡ 0
    by_utf true = refl
    by_utf false = refl

empty_text : (g : Scene) (caseless : Bool) (ys : List ℕ) (p : ℕ) → after_text g caseless [] ys p ≡ Some p
empty_text g caseless ys p =
    let same : p + 0 ≡ p = omega arith in
    ap (λ b. elim b as (λ _. Option ℕ) [ true ↦ Some (p + width g []) | false ↦ None ])
    (le-leb 0 (length ys) (omega arith))
    ∙ ap (λ n. Some (p + n)) (no_width g)
    ∙ ap Some same

pub empty_ref : (g : Scene) (from to p : ℕ) (caseless : Bool) → to < from → after_ref g from to caseless p ≡ Some p
empty_ref g from to p caseless less =
    let none : to - from ≡ 0 = omega arith in
    ap (λ n. after_text g caseless (characters g (take n (drop from g.subject))) (characters g (drop p g.subject)) p)
    none
    ∙ ap (λ xs. after_text g caseless xs (characters g (drop p g.subject)) p) (no_characters g)
    ∙ empty_text g caseless (characters g (drop p g.subject)) p

pub empty_reaches : (g : Scene) (from to p : ℕ) (caseless : Bool) → to < from → ref_reaches g from to caseless p ≡ false
empty_reaches g from to p caseless less =
    let none : to - from ≡ 0 = omega arith in
    ap (λ n. text_reaches g caseless (characters g (take n (drop from g.subject))) (characters g (drop p g.subject)))
    none
    ∙ ap (λ xs. text_reaches g caseless xs (characters g (drop p g.subject))) (no_characters g)
    ∙ le-ltb (length (characters g (drop p g.subject))) 0 (omega arith)

-- Scenes.

classes_same : (tree : TreeParts) (table : List CharSet) → IsTableOf tree table
    → table_has table ≡ (λ n c. class_holds tree.options.utf (slice_get tree.classes n) c)
classes_same tree table h = fun_ext (λ n. fun_ext (λ c. h.answers n c ∙ class_is tree n c))

-- a view of the tree's options shows what the search is about
pub scene_same : (tree : TreeParts) (table : List CharSet) (view : View) (answers : Block → ℤ) → IsTableOf tree table
    → view.options.now ≡ tree.options →
    text_scene view table ≡ (setting_in tree view.matching.now view.subject.now view.start answers).scene
scene_same tree table view answers h e =
    ap (λ (has : ℕ → ℕ → Bool). record (text_scene view table) { class_has = has }) (classes_same tree table h)
    ∙ ap (λ (o : Options). record (setting_in tree view.matching.now view.subject.now view.start answers).scene
    { options = o; fold = fold_in o.utf }) e

-- The children of a node are fewer than its number.

all_left : (P : ℕ → Type 0) (xs ys : List ℕ) → AllByRecursion P (xs ++ ys) → AllByRecursion P xs
all_left P [] ys h = tt
all_left P (x ∷ xs) ys h = (h.0, all_left P xs ys h.1)

distinct_left : (xs ys : List ℕ) → IsDistinct nat_eq (xs ++ ys) → IsDistinct nat_eq xs
unfolding IsDistinct
distinct_left [] ys h = tt
distinct_left (x ∷ xs) ys h = (all_left (λ y. nat_eq x y ≡ false) xs ys h.0, distinct_left xs ys h.1)

distinct_right : (xs ys : List ℕ) → IsDistinct nat_eq (xs ++ ys) → IsDistinct nat_eq ys
unfolding IsDistinct
distinct_right [] ys h = h
distinct_right (x ∷ xs) ys h = distinct_right xs ys h.1

member_below : (q : ℕ) (ks : List ℕ) (k : ℕ) → All (λ x. x < q) ks → list_any (nat_eq k) ks ≡ true → k < q
member_below q [] k a e = absurd (false≢true e)
member_below q (x ∷ ks) k a e = elim (cases_Bool (nat_eq k x)) [
  | inl h ↦ let same = eqb-true k x h in let first = All-head (λ x. x < q) x ks a in omega (arith, same, first)
  | inr h ↦ member_below q ks k (All-tail (λ x. x < q) x ks a) (rw h at e)
]

kids_distinct : (ps : List Placed) (i : ℕ) (d : Placed) → IsDistinct nat_eq (children ps) → i < length ps
    → IsDistinct nat_eq (kids_of (slice_index_or ps i d).node)
unfolding children
kids_distinct [] i d h l = absurd (omega (arith, l))
kids_distinct (p ∷ ps) zero d h l = distinct_left (kids_of p.node) (children ps) h
kids_distinct (p ∷ ps) (suc i) d h l = kids_distinct ps i d (distinct_right (kids_of p.node) (children ps) h)
    (omega (arith, l))

few_kids : (ps : List Placed) (q : ℕ) (n : Node) → ((other : Placed) → n ≡ (slice_index_or ps q other).node)
    → q ≤ 4294967295 → All (λ k. k < q) (kids_of n) →
    IsDistinct nat_eq (children ps) → length (kids_of n) ≤ 4294967295
few_kids ps q n here few below once = elim (cases_lt q (length ps)) [
  | inl l ↦
      let distinct : IsDistinct nat_eq (kids_of n) = subst (λ m. IsDistinct nat_eq (kids_of m)) (sym (here nowhere))
      (kids_distinct ps q nowhere once l) in
      let count : length (kids_of n) ≤ q = length-le_from_distinct_below (kids_of n) q distinct
      (λ k e. member_below q (kids_of n) k below e) in
      omega arith
  | inr ge ↦
      let none : n ≡ node.Empty = here nowhere ∙ ap (λ (p : Placed). p.node) (get_or_past ps q nowhere ge) in
      let empty : length (kids_of n) ≡ 0 = ap (λ m. length (kids_of m)) none in
      omega (arith, empty)
]

-- The node of a part.

module _ (t : TreeParts) (table : List CharSet) (matching : MatchOptions) (subject : List ℕ) (start : ℕ)
    (answers : Block → ℤ)
    (h : IsBoardSearch t table matching subject) where
  module _ (q : ℕ) (n : Node) (here : (other : Placed) → n ≡ (slice_index_or t.nodes q other).node) (le : q ≤ t.root)
      (few : q ≤ 4294967295)
      (is : nest (trees t.nodes) n ≡ tree_at (trees t.nodes) q) (below : All (λ k. k < q) (kids_of n))
      (rules : NodeRules (length t.classes) (length t.verb_names) t.nodes n)
      (once : IsDistinct nat_eq (children t.nodes))
      (grouped : All (λ k. k ≤ greatest (group_numbers t.nodes)) (numbers_of n))
      (stand : All (λ k. has_group t.nodes k ≡ true) (named_by n)) (under : is_in q (order t.nodes t.root) ≡ true) where
    pub node_is : IsNode (ground_in t matching subject start answers) q n
    node_is = record {
      is = is;
      below = below;
      linked = subst (IsLinked (rest t.nodes t.root) (rest t.nodes t.root q)) (sym (here nowhere))
          (h.linked q le nowhere);
      branched = subst (λ m. All (λ k. branch_of t.nodes t.root k ≡ branch_child m (branch_of t.nodes t.root q) k)
          (kids_of m)) (sym (here nowhere)) (h.branches.each q le nowhere);
      looked = subst (λ m. All (λ k. look_branch_of t.nodes t.root k
          ≡ look_branch_child m (look_branch_of t.nodes t.root q) k) (kids_of m)) (sym (here nowhere))
          (h.look_branches.each q le nowhere);
      under = subst (λ m. All (λ k. is_in k (order t.nodes t.root) ≡ true) (kids_of m)) (sym (here nowhere))
          (h.under q under nowhere);
      in_turn = subst (λ m. StandInTurn (rank t.nodes t.root) (past t.nodes t.root) (suc (rank t.nodes t.root q))
          (kids_of m) (past t.nodes t.root q)) (sym (here nowhere)) (h.in_turn q under nowhere);
      spans = λ k. omega arith;
      classes = rules.classes;
      names = All-weaker (λ k. k < length t.verb_names) (λ k. k < 4294967295) (λ k l. omega (arith, l, h.names))
          (verb_names_of n) rules.verb_names;
      ordered = rules.ordered;
      tests = rules.test;
      few = few_kids t.nodes q n here few below once;
      named = λ i d l. h.numbered (get_or (named_by n) i d) (stand i d l);
      numbered = λ i d l. (rules.numbered i d l, grouped i d l);
    }

-- A group that stands is numbered from 1 on.

member_above : (n : ℕ) (ks rest : List ℕ) → All (λ k. 1 ≤ k) ks → is_in n ks ≡ true
    → (0 < n) × (n ≤ greatest (ks ++ rest))
member_above n [] rest a e = absurd (false≢true e)
member_above n (k ∷ ks) rest a e = elim (cases_Bool (k == n)) [
  | inl h ↦
      let same = eqb-true k n h in
      let some = All-head (λ k. 1 ≤ k) k ks a in
      (omega (arith, same, some), omega (arith, same))
  | inr h ↦ let later = member_above n ks rest (All-tail (λ k. 1 ≤ k) k ks a) (rw h at e) in
      (later.0, omega (arith, later.1))
]

greatest_behind : (ks rest : List ℕ) → greatest rest ≤ greatest (ks ++ rest)
greatest_behind [] rest = omega arith
greatest_behind (k ∷ ks) rest = let later = greatest_behind ks rest in omega (arith, later)

numbered_from : (class_count name_count : ℕ) (all ps : List Placed)
    → All (λ p. NodeRules class_count name_count all p.node) ps →
    (n : ℕ) → has_group ps n ≡ true → (0 < n) × (n ≤ greatest (group_numbers ps))
unfolding group_numbers
numbered_from class_count name_count all [] a n e = absurd (false≢true e)
numbered_from class_count name_count all (p ∷ ps) a n e = elim (cases_Bool (is_group n p.node)) [
  | inl h ↦ member_above n (numbers_of p.node) (group_numbers ps)
      (All-head (λ p. NodeRules class_count name_count all p.node) p ps a).numbered h
  | inr h ↦
      let later = numbered_from class_count name_count all ps
      (All-tail (λ p. NodeRules class_count name_count all p.node) p ps a) n (rw h at e) in
      let behind = greatest_behind (numbers_of p.node) (group_numbers ps) in
      (later.0, omega (arith, later.1, behind))
]

-- what is known of a finished tree, and what is asked of a search of it
pub board_search : (t : TreeParts) (table : List CharSet) (matching : MatchOptions) (subject : List ℕ) → TreeRules t
    → first_fault t ≡ None →
    IsTableOf t table → IsText t.options subject → greatest (group_numbers t.nodes) ≤ 65535
    → matching.match_limit ≤ 4294967295 →
    IsBoardSearch t table matching subject
board_search t table matching subject rules fixed shown searched groups few = record {
  measured = measured_whole t rules fixed;
  shown = shown;
  searched = searched;
  groups = groups;
  few = few;
  names = rules.verb_name_count;
  last = (followers_hang_together t rules).last;
  chained = (followers_hang_together t rules).chained;
  linked = (followers_hang_together t rules).linked;
  branches = hang_together branch_child t rules;
  look_branches = hang_together look_branch_child t rules;
  under = λ q inside other. (children_stand_in_turn t rules q inside other).0;
  in_turn = λ q inside other. (children_stand_in_turn t rules q inside other).1;
  root_under = root_in_order t rules;
  numbered = numbered_from (length t.classes) (length t.verb_names) t.nodes t.nodes rules.nodes.each;
  along = places_stand;
}
