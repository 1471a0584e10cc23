-- The branches of lookbehinds have the same lengths whatever stands around them.
use Rattle.std.proofs.Common.{◌≡◌, ◌∙◌, ℕ, zero, suc, ◌<◌, ◌≤◌, Bool, true, false, List, [], ◌∷◌, ◌++◌, map}
use Rattle.std.proofs.Common.{flat_map, All, Option, Some, None, get_or, refl, sym, ap, subst, arith, length}
use Rattle.std.specs.Prelude.{◌||◌, slice_get}
use Rattle.std.specs.List.{list_any}
use Rattle.std.specs.Option.{option_or}
use Rattle.std.proofs.lemmas.Bool.{false≢true}
use Rattle.std.proofs.lemmas.List.{get_or_default}
use Rattle.std.proofs.lemmas.List.Elements.{All-nil, All-cons, All-head, All-tail, All-append}
use Rattle.pat_tree.specs.declared.nodes.Node as parts
use Rattle.pat_tree.specs.declared.nodes.Node.TheVariants as part
use Rattle.pat_tree.specs.declared.nodes.Placed.{Placed}
use Rattle.pat_tree.specs.declared.nodes.Verb.{Verb}
use Rattle.pat_tree.specs.declared.nodes.Verb.TheVariants.{Accept, Fail, Commit, Prune, Skip, Then, Mark}
use Rattle.pat_tree.specs.Nested as tree
use Rattle.pat_tree.specs.Nested.{Nested, Row, Test, Other, nest, row, tree_at, trees}
use Rattle.pat_tree.specs.Parts.{TreeParts, tree_of}
use Rattle.pat_tree.specs.Rules.{kids_of, asserted_by, is_test}
use Rattle.pat_tree.specs.Sound.{TreeRules}
use Rattle.pat_tree.proofs.Reached.{reached_node}
use Rattle.node_flow.specs.Order.{order}
use Rattle.node_flow.proofs.TreeLaws.{parts_come_first}
use Rattle.pat_lengths.specs.declared.backs.Back.{Back}
use Rattle.pat_lengths.specs.declared.backs.LengthFault.{LengthFault}
use Rattle.pat_lengths.specs.Nodes.{all_nodes, has_lookbehind, nodes, nodes_in, nodes_of_test, nodes_of_other}
use Rattle.pat_lengths.specs.Nodes.{is_accept, captures}
use Rattle.pat_lengths.specs.Lengths.{SomeLengths, in_turn, either, in_turns, lengths}
use Rattle.pat_lengths.specs.Lengths.{lengths_in_turn, lengths_of_one, lengths_of_other, of_test, behind, any_length}
use Rattle.pat_lengths.specs.Lengths.{branch_lengths, branch_fault, by_calls, can_be_empty}
use Rattle.pat_lengths.specs.Backs.{AreBacks, behind_branches, fault_from, lengths_at, fault_among, fault_of_node}
use Rattle.pat_lengths.specs.Backs.{back_at, lengths_back, fault_in, first_fault}
use Rattle.pat_lengths.proofs.BackLemmas.{some_none, limited}
use Rattle.pat_lengths.proofs.OrderLemmas.{node_first, nodes_at}
use Rattle.dfa_ends.specs.pat_check.Support.{node_support, or_later, support_of_all, dfa_support}
use Rattle.dfa_ends.specs.pat_check.declared.support.DfaSupport.{DfaSupport}
use Rattle.dfa_ends.specs.pat_check.declared.support.DfaSupport.TheVariants.{Yes, Item, Cond}
use Rattle.dfa_paths.specs.Fragment.{HasBack, always_counts}

-- What holds of all nodes of a tree, by the children.

module _ (P : Nested → Type 0) where
  front_all : (xs ys : List Nested) → All P (xs ++ ys) → All P xs
  front_all [] ys a = All-nil P
  front_all (x ∷ xs) ys a =
      All-cons P x xs (All-head P x (xs ++ ys) a) (front_all xs ys (All-tail P x (xs ++ ys) a))

  back_all : (xs ys : List Nested) → All P (xs ++ ys) → All P ys
  back_all [] ys a = a
  back_all (x ∷ xs) ys a = back_all xs ys (All-tail P x (xs ++ ys) a)

  flat_parts : (f : ℕ → List Nested) (ks : List ℕ) → All P (flat_map f ks) →
      All (λ k. All P (f k)) ks
  flat_parts f [] a = All-nil (λ k. All P (f k))
  flat_parts f (k ∷ ks) a =
      All-cons (λ k. All P (f k)) k ks (front_all (f k) (flat_map f ks) a)
      (flat_parts f ks (back_all (f k) (flat_map f ks) a))

  flat_join : (f : ℕ → List Nested) (ks : List ℕ) → All (λ k. All P (f k)) ks →
      All P (flat_map f ks)
  flat_join f [] a = All-nil P
  flat_join f (k ∷ ks) a =
      All-append P (f k) (flat_map f ks) (All-head (λ k. All P (f k)) k ks a)
      (flat_join f ks (All-tail (λ k. All P (f k)) k ks a))

  module _ (ts : List Nested) (n : parts.Node)
      (tests : All (λ k. is_test (tree_at ts k) ≡ true) (asserted_by n)) where
    parted : All P (all_nodes (nest ts n)) →
        All P (nest ts n ∷ flat_map (nodes_at true ts) (kids_of n))
    parted a = subst (All P) (node_first true ts n tt tests) a

    pub all_here : All P (all_nodes (nest ts n)) → P (nest ts n)
    all_here a = All-head P (nest ts n) (flat_map (nodes_at true ts) (kids_of n)) (parted a)

    pub all_below : All P (all_nodes (nest ts n)) →
        All (λ k. All P (all_nodes (tree_at ts k))) (kids_of n)
    all_below a =
        flat_parts (nodes_at true ts) (kids_of n)
        (All-tail P (nest ts n) (flat_map (nodes_at true ts) (kids_of n)) (parted a))

    pub all_joined : P (nest ts n) → All (λ k. All P (all_nodes (tree_at ts k))) (kids_of n) →
        All P (all_nodes (nest ts n))
    all_joined p a =
        subst (All P) (sym (node_first true ts n tt tests))
        (All-cons P (nest ts n) (flat_map (nodes_at true ts) (kids_of n)) p
        (flat_join (nodes_at true ts) (kids_of n) a))

-- A tree of forms that are supported has no call, reference or ACCEPT.

abbrev pub IsServed : Nested → Type 0
IsServed t = node_support t ≡ Yes

item_not : {A : Type 0} → Item ≡ Yes → A
item_not e = absurd cc

none_append : (xs ys : List Nested) → list_any is_accept xs ≡ false →
    list_any is_accept ys ≡ false → list_any is_accept (xs ++ ys) ≡ false
none_append [] ys e f = f
none_append (x ∷ xs) ys e f =
    let h = or_none (is_accept x) (list_any is_accept xs) e in
    ap (λ b. b || list_any is_accept (xs ++ ys)) h.0 ∙ none_append xs ys h.1 f
  where
    or_none : (a b : Bool) → (a || b) ≡ false → (a ≡ false) × (b ≡ false)
    or_none true b e = absurd (false≢true (sym e))
    or_none false b e = (refl, e)

verb_goes_on : (v : Verb) → IsServed (tree.verb v) → is_accept (tree.verb v) ≡ false
verb_goes_on (Fail name) e = refl
verb_goes_on (Accept name) e = item_not e
verb_goes_on (Commit name) e = refl
verb_goes_on (Prune name) e = refl
verb_goes_on (Skip name) e = refl
verb_goes_on (Then name) e = refl
verb_goes_on (Mark name) e = refl

abbrev AllServed : List Nested → Type 0
AllServed ts = All IsServed ts

-- the tail of nodes, and the parts of a condition's
rest_served : (t : Nested) (ts : List Nested) → AllServed (t ∷ ts) → AllServed ts
rest_served t ts a = All-tail IsServed t ts a

first_of : (xs ys zs : List Nested) → AllServed ((xs ++ ys) ++ zs) → AllServed ys
first_of xs ys zs a = back_all IsServed xs ys (front_all IsServed (xs ++ ys) zs a)

second_of : (xs ys zs : List Nested) → AllServed ((xs ++ ys) ++ zs) → AllServed zs
second_of xs ys zs a = back_all IsServed (xs ++ ys) zs a

mutual
  unfolding nodes

  no_accept : (t : Nested) → AllServed (nodes true t) →
      list_any is_accept (nodes false t) ≡ false
  no_accept tree.empty a = refl
  no_accept (tree.one item) a = refl
  no_accept tree.line_break a = refl
  no_accept (tree.seq ts) a =
      no_accept_in ts (rest_served (tree.seq ts) (nodes_in true ts) a)
  no_accept (tree.group n ts) a =
      no_accept_in ts (rest_served (tree.group n ts) (nodes_in true ts) a)
  no_accept (tree.repeat t low high lazily) a =
      no_accept t (rest_served (tree.repeat t low high lazily) (nodes true t) a)
  no_accept (tree.one_repeat item low high lazily) a = refl
  no_accept (tree.atomic ts) a =
      no_accept_in ts (rest_served (tree.atomic ts) (nodes_in true ts) a)
  no_accept (tree.look ahead positive once ts) a = refl
  no_accept (tree.condition test first second) a =
      let r : AllServed ((nodes_of_test true test ++ nodes true first)
      ++ nodes_of_other true second) = rest_served (tree.condition test first second) _ a in
      none_append (nodes_of_test false test ++ nodes false first) (nodes_of_other false second)
      (none_append (nodes_of_test false test) (nodes false first) (no_accept_test test)
      (no_accept first (first_of (nodes_of_test true test) (nodes true first) (nodes_of_other true second) r)))
      (no_accept_other second (second_of (nodes_of_test true test) (nodes true first) (nodes_of_other true second) r))
  no_accept (tree.call n) a = refl
  no_accept (tree.ref ns caseless) a = refl
  no_accept (tree.anchor kind) a = refl
  no_accept tree.keep_out a = refl
  no_accept (tree.verb v) a =
      ap (λ b. b || false) (verb_goes_on v (All-head IsServed (tree.verb v) [] a))
  no_accept (tree.callout c) a = refl

  no_accept_in : (ts : Row) → AllServed (nodes_in true ts) →
      list_any is_accept (nodes_in false ts) ≡ false
  no_accept_in tree.none a = refl
  no_accept_in (tree.more t ts) a =
      none_append (nodes false t) (nodes_in false ts)
      (no_accept t (front_all IsServed (nodes true t) (nodes_in true ts) a))
      (no_accept_in ts (back_all IsServed (nodes true t) (nodes_in true ts) a))

  no_accept_test : (test : Test) → list_any is_accept (nodes_of_test false test) ≡ false
  no_accept_test (tree.any_set ns) = refl
  no_accept_test tree.in_call = refl
  no_accept_test (tree.in_call_of ns) = refl
  no_accept_test tree.never = refl
  no_accept_test (tree.assert ahead positive once ts) = refl
  no_accept_test (tree.called c test) = no_accept_test test

  no_accept_other : (o : Other) → AllServed (nodes_of_other true o) →
      list_any is_accept (nodes_of_other false o) ≡ false
  no_accept_other tree.no_other a = refl
  no_accept_other (tree.other t) a = no_accept t a

ap_both : (op : SomeLengths → SomeLengths → SomeLengths) (a b c d : SomeLengths) → a ≡ b →
    c ≡ d → op a c ≡ op b d
ap_both op a b c d e h = ap (λ x. op x c) e ∙ ap (λ y. op b y) h

-- Its lengths are its own.
module _ (u u' : Bool) (w w' : Nested) (f f' : ℕ → SomeLengths) where
  test_same : (test : Test) (x : SomeLengths) → of_test u w f test x ≡ of_test u' w' f' test x
  unfolding lengths
  test_same tree.never x = refl
  test_same (tree.any_set ns) x = refl
  test_same tree.in_call x = refl
  test_same (tree.in_call_of ns) x = refl
  test_same (tree.assert ahead positive once ts) x = refl
  test_same (tree.called c test) x = refl

  mutual
    unfolding nodes lengths

    same : (t : Nested) → AllServed (nodes true t) → lengths u w f t ≡ lengths u' w' f' t
    same tree.empty a = refl
    same (tree.one item) a = refl
    same tree.line_break a = refl
    same (tree.seq ts) a =
        same_in_turn ts (rest_served (tree.seq ts) (nodes_in true ts) a)
    same (tree.group n ts) a =
        same_of_one ts (rest_served (tree.group n ts) (nodes_in true ts) a)
    same (tree.repeat t low high lazily) a =
        ap (λ x. in_turns low high x)
        (same t (rest_served (tree.repeat t low high lazily) (nodes true t) a))
    same (tree.one_repeat item low high lazily) a = refl
    same (tree.atomic ts) a =
        same_of_one ts (rest_served (tree.atomic ts) (nodes_in true ts) a)
    same (tree.look ahead positive once ts) a = refl
    same (tree.condition test first second) a =
        let r : AllServed ((nodes_of_test true test ++ nodes true first)
        ++ nodes_of_other true second) = rest_served (tree.condition test first second) _ a in
        test_same test (either (lengths u w f first) (lengths_of_other u w f second))
        ∙ ap (λ x. of_test u' w' f' test (either x (lengths_of_other u w f second)))
        (same first (first_of (nodes_of_test true test) (nodes true first) (nodes_of_other true second) r))
        ∙ ap (λ x. of_test u' w' f' test (either (lengths u' w' f' first) x))
        (same_of_other second (second_of (nodes_of_test true test) (nodes true first) (nodes_of_other true second) r))
    same (tree.call n) a = item_not (All-head IsServed (tree.call n) [] a)
    same (tree.ref ns caseless) a = item_not (All-head IsServed (tree.ref ns caseless) [] a)
    same (tree.anchor kind) a = refl
    same tree.keep_out a = refl
    same (tree.verb v) a = refl
    same (tree.callout c) a = refl

    same_in_turn : (ts : Row) → AllServed (nodes_in true ts) →
        lengths_in_turn u w f ts ≡ lengths_in_turn u' w' f' ts
    same_in_turn tree.none a = refl
    same_in_turn (tree.more t ts) a =
        ap_both in_turn _ _ _ _ (same t (front_all IsServed (nodes true t) (nodes_in true ts) a))
        (same_in_turn ts (back_all IsServed (nodes true t) (nodes_in true ts) a))

    same_of_one : (ts : Row) → AllServed (nodes_in true ts) →
        lengths_of_one u w f ts ≡ lengths_of_one u' w' f' ts
    same_of_one tree.none a = refl
    same_of_one (tree.more t ts) a =
        ap_both either _ _ _ _ (same t (front_all IsServed (nodes true t) (nodes_in true ts) a))
        (same_of_one ts (back_all IsServed (nodes true t) (nodes_in true ts) a))

    same_of_other : (o : Other) → AllServed (nodes_of_other true o) →
        lengths_of_other u w f o ≡ lengths_of_other u' w' f' o
    same_of_other tree.no_other a = refl
    same_of_other (tree.other t) a = same t a

-- of a branch
without_accept : (u : Bool) (w t : Nested) → AllServed (all_nodes t) →
    branch_lengths u w t ≡ lengths u w (behind u w (suc (captures w))) t
without_accept u w t a =
    ap (λ b. (let z : SomeLengths = elim b [
      | true ↦ any_length
      | false ↦ lengths u w (behind u w (suc (captures w))) t
    ] in z)) (no_accept t a)

has_back : (u : Bool) (w t : Nested) (n : Back) → AllServed (all_nodes t) →
    branch_lengths u w t ≡ lengths_back n → HasBack t n
has_back u w t n a e = λ u' w'.
    without_accept u' w' t a
    ∙ same u' u w' w (behind u' w' (suc (captures w'))) (behind u w (suc (captures w))) t a
    ∙ sym (without_accept u w t a) ∙ e

abbrev least_of : SomeLengths → ℕ
least_of None = 0
least_of (Some x) = x.least

abbrev most_of : SomeLengths → ℕ
most_of None = 0
most_of (Some x) = elim x.most [ None ↦ 0 | Some most ↦ most ]

same_lengths : (a b : Back) → lengths_back a ≡ lengths_back b → a ≡ b
same_lengths a b e =
    let least : a.least ≡ b.least = ap least_of e in
    let most : a.most ≡ b.most = ap most_of e in
    let one : Back = record { least = b.least; most = a.most } in
    let first : a ≡ one = ap (λ n. record { least = n; most = a.most }) least in
    first ∙ ap (λ n. record { least = b.least; most = n }) most

-- What is known of the parts of a tree.

-- a length that isn't refused, whatever the pattern around it
abbrev pub HasKnown : Nested → Type 0
HasKnown t = (b : Back) × HasBack t b × (branch_fault (lengths_back b) ≡ None)

abbrev pub HaveKnown : Row → Type 0
HaveKnown tree.none = Unit {0}
HaveKnown (tree.more t ts) = HasKnown t × HaveKnown ts

abbrev pub IsMeasured : Nested → Type 0
IsMeasured (tree.look false positive once ts) = HaveKnown ts
IsMeasured _ = Unit {0}

-- the branches of each lookbehind in a tree have such lengths
abbrev pub IsReady : Nested → Type 0
IsReady t = All IsMeasured (all_nodes t)

abbrev pub is_behind : Nested → Bool
is_behind (tree.look false positive once ts) = true
is_behind _ = false

-- a list tells these lengths
abbrev pub AreTold : List Placed → ℕ → List Back → Type 0
AreTold ps root backs =
    (k : ℕ) (b : Back) → k ≤ root → HasBack (tree_at (trees ps) k) b → branch_fault (lengths_back b) ≡ None →
    back_at backs k ≡ b

pub are_told : (t : TreeParts) (backs : List Back) → AreBacks t backs → AreTold t.nodes t.root backs
are_told t backs h k b l is fine =
    let e = is t.options.match_unset_backref (tree_of t) in
    same_lengths _ _ (sym (h.each k l (ap branch_fault e ∙ fine)) ∙ e)

-- of a branch of a lookbehind
known_at : (ts : List Nested) (ks : List ℕ) (i k : ℕ) → HaveKnown (row (map (tree_at ts) ks)) →
    slice_get ks i ≡ Some k → HasKnown (tree_at ts k)
known_at ts [] i k h e = cc
known_at ts (x ∷ ks) zero k h e =
    let same : x ≡ k = cc in subst (λ j. HasKnown (tree_at ts j)) same h.0
known_at ts (x ∷ ks) (suc i) k h e = known_at ts ks i k h.1 e

pub known_branch : (ts : List Nested) (m : parts.Node) (i k : ℕ) → IsMeasured (nest ts m) →
    is_behind (nest ts m) ≡ true → slice_get (behind_branches m) i ≡ Some k →
    HasKnown (tree_at ts k)
known_branch ts (part.Look false positive once ks) i k h b e = known_at ts ks i k h e
known_branch ts (part.Look true positive once ks) i k h b e = absurd (false≢true b)
known_branch ts _ i k h b e = absurd (false≢true b)

-- No lookbehind of a checked tree has a fault.

both_none : (a b : Option LengthFault) → option_or a b ≡ None → (a ≡ None) × (b ≡ None)
both_none None b e = (refl, e)
both_none (Some x) b e = absurd (some_none x e)

fault_none : (at : ℕ) (o : Option ℕ) → fault_from at o ≡ None → o ≡ None
fault_none at None e = refl
fault_none at (Some n) e = absurd (some_none _ e)

module _ (t : TreeParts) (rules : TreeRules t) where
  abbrev ts : List Nested
  ts = trees t.nodes

  known_of : (k : ℕ) → AllServed (all_nodes (tree_at ts k)) →
      branch_fault (lengths_at t k) ≡ None → HasKnown (tree_at ts k)
  known_of k a e =
      let u = t.options.match_unset_backref in
      let l = limited (lengths_at t k) e in (
        l.0,
        has_back u (tree_of t) (tree_at ts k) l.0 a l.1,
        sym (ap branch_fault l.1) ∙ e,
      )

  known_among : (at : ℕ) (ks : List ℕ) → All (λ k. AllServed (all_nodes (tree_at ts k))) ks →
      fault_among t at ks ≡ None → HaveKnown (row (map (tree_at ts) ks))
  known_among at [] a e = tt
  known_among at (k ∷ ks) a e =
      let h = both_none (fault_from at (branch_fault (lengths_at t k))) (fault_among t at ks) e in (
        known_of k (All-head (λ k. AllServed (all_nodes (tree_at ts k))) k ks a)
            (fault_none at (branch_fault (lengths_at t k)) h.0),
        known_among at ks (All-tail (λ k. AllServed (all_nodes (tree_at ts k))) k ks a) h.1,
      )

  known_node : (n : parts.Node) (at : ℕ) →
      All (λ k. AllServed (all_nodes (tree_at ts k))) (kids_of n) →
      fault_among t at (behind_branches n) ≡ None → IsMeasured (nest ts n)
  known_node (part.Look false positive once ks) at a e = known_among at ks a e
  known_node (part.Look true positive once ks) at a e = tt
  known_node _ at a e = tt

  fault_append : (xs ys : List ℕ) → fault_in t (xs ++ ys) ≡ None →
      (fault_in t xs ≡ None) × (fault_in t ys ≡ None)
  fault_append [] ys e = (refl, e)
  fault_append (x ∷ xs) ys e =
      let p : Placed = get_or t.nodes x (record { node = part.Empty; at = 0 }) in
      let h = both_none (fault_of_node t p) (fault_in t (xs ++ ys)) e in
      let r = fault_append xs ys h.1 in
      (ap (λ a. option_or a (fault_in t xs)) h.0 ∙ r.0, r.1)

  fault_flat : (f : ℕ → List ℕ) (ks : List ℕ) → fault_in t (flat_map f ks) ≡ None →
      All (λ k. fault_in t (f k) ≡ None) ks
  fault_flat f [] e = All-nil (λ k. fault_in t (f k) ≡ None)
  fault_flat f (k ∷ ks) e =
      let h = fault_append (f k) (flat_map f ks) e in
      All-cons (λ k. fault_in t (f k) ≡ None) k ks h.0 (fault_flat f ks h.1)

  ready_under : (fuel q : ℕ) → q < fuel → q ≤ t.root → AllServed (all_nodes (tree_at ts q)) →
      fault_in t (order t.nodes q) ≡ None → IsReady (tree_at ts q)
  ready_under zero q l m a e = absurd (omega (arith, l))
  ready_under (suc fuel) q l m a e =
      let d : Placed = record { node = part.Empty; at = 0 } in
      let p = get_or t.nodes q d in
      let inside : q < length t.nodes = omega (arith, m, rules.root) in
      let r = reached_node t.nodes q p rules.nodes.below inside
      (get_or_default t.nodes q d p inside) in
      let tests = (rules.nodes.each q d inside).test in
      let served : All (λ k. AllServed (all_nodes (tree_at ts k))) (kids_of p.node) = all_below
      IsServed ts p.node tests (subst (λ x. AllServed (all_nodes x)) (sym r.0) a) in
      let first : fault_in t (q ∷ flat_map (order t.nodes) (kids_of p.node)) ≡ None = subst
      (λ xs. fault_in t xs ≡ None) (parts_come_first t rules q m d) e in
      let h = both_none (fault_of_node t p) (fault_in t (flat_map (order t.nodes)
      (kids_of p.node))) first in
      let later : All (λ k. fault_in t (order t.nodes k) ≡ None) (kids_of p.node) = fault_flat
      (order t.nodes) (kids_of p.node) h.1 in
      let kids : All (λ k. IsReady (tree_at ts k)) (kids_of p.node) = λ i o j.
      let k = get_or (kids_of p.node) i o in
      let below : k < q = r.1 i o j in
      ready_under fuel k (omega (arith, below, l)) (omega (arith, below, m)) (served i o j)
      (later i o j) in
      subst IsReady r.0
      (all_joined IsMeasured ts p.node tests (known_node p.node p.at served h.0) kids)

served_all : (ts : List Nested) → support_of_all ts ≡ Yes → AllServed ts
served_all [] e = All-nil IsServed
served_all (t ∷ ts) e =
    let h = first_yes (node_support t) (support_of_all ts) e in
    All-cons IsServed t ts h.0 (served_all ts h.1)
  where
    first_yes : (a b : DfaSupport) → or_later a b ≡ Yes → (a ≡ Yes) × (b ≡ Yes)
    first_yes Yes b e = (refl, e)
    first_yes Item b e = absurd cc
    first_yes Cond b e = absurd cc

pub ready_whole : (t : TreeParts) → TreeRules t → first_fault t ≡ None →
    dfa_support (tree_of t) ≡ Yes → IsReady (tree_of t)
ready_whole t rules e served =
    ready_under t rules (suc t.root) t.root (omega arith) (omega arith)
    (served_all (all_nodes (tree_of t)) served) e

-- whether it can be empty is its own too
pub empty_same : (t : Nested) (s : DfaSupport) → s ≡ dfa_support t → s ≡ Yes →
    (u u' : Bool) → can_be_empty u t ≡ can_be_empty u' t
empty_same t s e served u u' =
    rw (same u u' t t (by_calls u t (suc (captures t))) (by_calls u' t (suc (captures t))) t
    (served_all (all_nodes t) (sym e ∙ served))) refl

pub always_same : (t : Nested) (s : DfaSupport) (lookbehind empty always : Bool) (u : Bool) →
    s ≡ dfa_support t → s ≡ Yes → lookbehind ≡ has_lookbehind t → empty ≡ can_be_empty u t →
    always ≡ (lookbehind || empty) → (unset_matches : Bool) →
    always ≡ always_counts unset_matches t
always_same t s lookbehind empty always u e served l c a unset_matches =
    a ∙ ap (λ b. b || empty) l
    ∙ ap (λ b. has_lookbehind t || b) (c ∙ empty_same t s e served u unset_matches)
