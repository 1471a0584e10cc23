-- What a search over nodes comes to.
use Rattle.std.proofs.Common.{◌≡◌, ◌∙◌, ℕ, zero, suc, ◌+◌, ◌<◌, ◌≤◌, ◌||◌, ◌==◌, Bool, true, false, List, [], ◌∷◌}
use Rattle.std.proofs.Common.{◌++◌, take, All, get_or, length, replicate, slice_set, Option, Some, None, inl, inr}
use Rattle.std.proofs.Common.{refl, sym, ap, subst, arith, append-nil, append_assoc, length-append}
use Rattle.std.specs.List.{list_any, Contains}
use Rattle.std.proofs.lemmas.Bool.{false≢true, cases_eq, cases_lt, or_left, or_right, or_parts, or_from}
use Rattle.std.proofs.lemmas.Grind.{flat_map-append}
use Rattle.std.proofs.lemmas.List.{get_or-set_same, get_or-set_other, get_or_past, length-replicate, length-set}
use Rattle.std.proofs.lemmas.List.{take-append-le, take_all, take_more}
use Rattle.std.proofs.lemmas.List.Elements.{All-nil, All-cons, All-head, All-tail, All-append, All-weaker}
use Rattle.std.proofs.lemmas.List.Elements.{All-contains, All-more, Contains-append_left, Contains-append_right}
use Rattle.std.proofs.lemmas.List.Elements.{Contains-append_cases, Contains-push, Contains-push_cases}
use Rattle.pat_tree.specs.declared.nodes.Node.{Node}
use Rattle.pat_tree.specs.declared.nodes.Node.TheVariants as node
use Rattle.pat_tree.specs.Groups.{group_of}
use Rattle.pat_tree.specs.Nested.{Nested, nest, tree_at}
use Rattle.pat_tree.specs.Rules.{kids_of, number_in, asserted_by, is_test}
use Rattle.pat_lengths.specs.Leading.{names_of, places_of, unset, is_reached, IsListed, IsBegun, Grows, under_node}
use Rattle.pat_lengths.specs.Leading.{Comes, Leads, Closed}
use Rattle.pat_lengths.specs.Lengths.{named_in_group, names_of_group, lead_to, leads_back}
use Rattle.pat_lengths.specs.Nodes.{named_by, named_in, all_nodes, captures}
use Rattle.pat_lengths.specs.Passing.{flagged, IsAt, place_of}
use Rattle.pat_lengths.specs.declared.leading.Reached.{Reached}
use Rattle.pat_lengths.proofs.KidLemmas.{any_first, names_some, named_flat}
use Rattle.pat_lengths.proofs.LeadingStable.{any_more, leads, next, comes_back}
use Rattle.pat_lengths.proofs.OrderLemmas.{nodes_at, same_any}
use Rattle.pat_lengths.proofs.RoundLemmas.{lost}

-- Nodes are reached.

unset_one : (flags : List Bool) (i : ℕ) → i < length flags → flagged flags i ≡ false
    → unset (slice_set flags i true) + 1 ≡ unset flags
unset_one [] i lt h = absurd (omega (arith, lt))
unset_one (true ∷ flags) zero lt h = absurd (false≢true (sym h))
unset_one (false ∷ flags) zero lt h = omega arith
unset_one (true ∷ flags) (suc i) lt h = unset_one flags i (omega (arith, lt)) h
unset_one (false ∷ flags) (suc i) lt h = let rest = unset_one flags i (omega (arith, lt)) h in omega (arith, rest)

pub grows_new : (old new : Reached) (id : ℕ) → id < length old.seen.items → is_reached old id ≡ false →
    new.seen.items ≡ slice_set old.seen.items id true → new.nodes.items ≡ old.nodes.items ++ id ∷ []
    → Grows old new (id ∷ [])
grows_new old new id lt none seen nodes = record {
  kept = kept;
  added = All-cons (λ k. is_reached new k ≡ true) id [] here (All-nil (λ k. is_reached new k ≡ true));
  only = λ k e. elim (cases_eq k id) [
    | inl same ↦ inr (subst (Contains (id ∷ [])) (sym same) (Contains-push [] id))
    | inr other ↦ inl (sym (there k other) ∙ e)
  ];
  later = id ∷ [];
  front = nodes;
  size = ap length seen ∙ length-set old.seen.items id true;
  listed = λ l. record {
    listed = λ k e. subst (λ xs. Contains xs k) (sym nodes) (elim (cases_eq k id) [
      | inl same ↦ Contains-append_right old.nodes.items (id ∷ []) k
          (subst (Contains (id ∷ [])) (sym same) (Contains-push [] id))
      | inr other ↦ Contains-append_left old.nodes.items (id ∷ []) k (l.listed k (sym (there k other) ∙ e))
    ]);
    within = subst (All (λ k. is_reached new k ≡ true)) (sym nodes)
        (All-append (λ k. is_reached new k ≡ true) old.nodes.items (id ∷ [])
        (All-weaker (λ k. is_reached old k ≡ true) (λ k. is_reached new k ≡ true) kept old.nodes.items l.within)
        (All-cons (λ k. is_reached new k ≡ true) id [] here (All-nil (λ k. is_reached new k ≡ true))));
    count =
        let grown : length new.nodes.items ≡ length old.nodes.items + 1 = ap length nodes
        ∙ length-append old.nodes.items (id ∷ []) in
        let fewer : unset new.seen.items + 1 ≡ unset old.seen.items = ap (λ xs. unset xs + 1) seen
        ∙ unset_one old.seen.items id lt none in
        let same : length new.seen.items ≡ length old.seen.items = ap length seen ∙ length-set old.seen.items id true in
        omega (arith, l.count, grown, fewer, same);
  };
}
  where
    here : is_reached new id ≡ true
    here = ap (λ xs. flagged xs id) seen ∙ get_or-set_same old.seen.items id true false lt

    there : (k : ℕ) → (k ≡ id → ⊥) → is_reached new k ≡ is_reached old k
    there k other = ap (λ xs. flagged xs k) seen ∙ get_or-set_other old.seen.items id k true false other

    kept : (k : ℕ) → is_reached old k ≡ true → is_reached new k ≡ true
    kept k e = elim (cases_eq k id) [
      | inl same ↦ ap (is_reached new) same ∙ here
      | inr other ↦ there k other ∙ e
    ]

pub grows_on : (a b c : Reached) (xs ys : List ℕ) → Grows a b xs → Grows b c ys → Grows a c (xs ++ ys)
grows_on a b c xs ys p q = record {
  kept = λ k e. q.kept k (p.kept k e);
  added = All-append (λ k. is_reached c k ≡ true) xs ys
      (All-weaker (λ k. is_reached b k ≡ true) (λ k. is_reached c k ≡ true) q.kept xs p.added) q.added;
  only = λ k e. elim (q.only k e) [
    | inl before ↦ elim (p.only k before) [
      | inl first ↦ inl first
      | inr at ↦ inr (Contains-append_left xs ys k at)
    ]
    | inr at ↦ inr (Contains-append_right xs ys k at)
  ];
  later = p.later ++ q.later;
  front = q.front ∙ ap (λ (z : List ℕ). z ++ q.later) p.front ∙ append_assoc a.nodes.items p.later q.later;
  size = q.size ∙ p.size;
  listed = λ l. q.listed (p.listed l);
}

left : (P : ℕ → Type 0) (xs ys : List ℕ) → All P (xs ++ ys) → All P xs
left P [] ys a = All-nil P
left P (x ∷ xs) ys a = All-cons P x xs (All-head P x (xs ++ ys) a) (left P xs ys (All-tail P x (xs ++ ys) a))

right : (P : ℕ → Type 0) (xs ys : List ℕ) → All P (xs ++ ys) → All P ys
right P [] ys a = a
right P (x ∷ xs) ys a = right P xs ys (All-tail P x (xs ++ ys) a)

pub begun : (count : ℕ) (r : Reached) → r.seen.items ≡ replicate count false → r.nodes.items ≡ [] → IsBegun count r
begun count r seen nodes = record {
  none = none;
  size = size;
  listed = record {
    listed = λ k e. absurd (false≢true (sym (none k) ∙ e));
    within = subst (All (λ k. is_reached r k ≡ true)) (sym nodes) (All-nil (λ k. is_reached r k ≡ true));
    count =
        let empty : length r.nodes.items ≡ 0 = ap length nodes in
        let all : unset r.seen.items ≡ count = ap unset seen ∙ all_unset count in
        omega (arith, empty, all, size);
  };
}
  where
    none_set : (n k : ℕ) → flagged (replicate n false) k ≡ false
    none_set zero k = refl
    none_set (suc n) zero = refl
    none_set (suc n) (suc k) = none_set n k

    all_unset : (n : ℕ) → unset (replicate n false) ≡ n
    all_unset zero = refl
    all_unset (suc n) = ap suc (all_unset n)

    none : (k : ℕ) → is_reached r k ≡ false
    none k = ap (λ xs. flagged xs k) seen ∙ none_set count k

    size : length r.seen.items ≡ count
    size = ap length seen ∙ length-replicate count false

pub grows_push : (a b c : Reached) (ids : List ℕ) (i d : ℕ) → i < length ids → Grows a b (take i ids)
    → Grows b c (get_or ids i d ∷ []) → Grows a c (take (i + 1) ids)
grows_push a b c ids i d lt p q = subst (Grows a c) (sym (take_more ids i d lt))
    (grows_on a b c (take i ids) (get_or ids i d ∷ []) p q)

pub grows_placed : (a b c : Reached) (places : List (Option ℕ)) (ns : List ℕ) (i d : ℕ) → i < length ns
    → Grows a b (places_of places (take i ns)) →
    Grows b c (number_in (place_of places (get_or ns i d))) → Grows a c (places_of places (take (i + 1) ns))
grows_placed a b c places ns i d lt p q =
    let at : ℕ → List ℕ = λ n. number_in (place_of places n) in
    let x = get_or ns i d in
    let more : places_of places (take (i + 1) ns) ≡ places_of places (take i ns) ++ at x =
    ap (places_of places) (take_more ns i d lt) ∙ flat_map-append at (take i ns) (x ∷ [])
    ∙ ap (λ (ys : List ℕ). places_of places (take i ns) ++ ys) (append-nil (at x)) in
    subst (Grows a c) (sym more) (grows_on a b c (places_of places (take i ns)) (at x) p q)

pub placed_all : (P : ℕ → Type 0) (places : List (Option ℕ)) (ns : List ℕ) (i d : ℕ) → i < length ns
    → All P (places_of places ns) → All P (number_in (place_of places (get_or ns i d)))
placed_all P places [] i d lt all = absurd (omega (arith, lt))
placed_all P places (x ∷ xs) zero d lt all = left P (number_in (place_of places x)) (places_of places xs) all
placed_all P places (x ∷ xs) (suc i) d lt all = placed_all P places xs i d (omega (arith, lt))
    (right P (number_in (place_of places x)) (places_of places xs) all)

pub reached_below : (r : Reached) (k : ℕ) → is_reached r k ≡ true → k < length r.seen.items
reached_below r k e = elim (cases_lt k (length r.seen.items)) [
  | inl lt ↦ lt
  | inr le ↦ absurd (false≢true (sym (get_or_past r.seen.items k false le) ∙ e))
]

one_there : (o : Option ℕ) (k : ℕ) → Contains (number_in o) k → o ≡ Some k
one_there None k c = absurd (omega (arith, c.1))
one_there (Some x) k c = elim (Contains-push_cases [] x k c) [
  | inl none ↦ absurd (omega (arith, none.1))
  | inr same ↦ ap Some same
]

-- What the nodes under a node name.

module _ (whole : Nested) (trees : List Nested) (root m : ℕ) (places : List (Option ℕ))
    (at : (n : ℕ) → IsAt trees root (place_of places n) (group_of whole n)) where
  abbrev under : ℕ → List ℕ
  under k = under_node trees k

  abbrev asks : ℕ → ℕ → Bool
  asks d x = x == m || leads whole m d x

  same_names : (n : Node) → named_by (nest trees n) ≡ names_of n
  same_names (node.Call x) = refl
  same_names (node.Ref groups caseless) = refl
  same_names _ = refl

  pub under_is : (k : ℕ) (n : Node) → nest trees n ≡ tree_at trees k
      → All (λ j. is_test (tree_at trees j) ≡ true) (asserted_by n) → (q : ℕ → Bool) →
      list_any q (under k) ≡ (list_any q (names_of n) || list_any (λ j. list_any q (under j)) (kids_of n))
  under_is k n is tests q =
      ap (λ t. list_any q (named_in t)) (sym is)
      ∙ named_flat q (all_nodes (nest trees n))
      ∙ any_first (names_some q) true trees n tt tests
      ∙ ap (λ (ns : List ℕ). list_any q ns || list_any (λ j. list_any (names_some q) (nodes_at true trees j))
      (kids_of n)) (same_names n)
      ∙ ap (λ b. list_any q (names_of n) || b)
      (same_any (λ j. list_any (names_some q) (nodes_at true trees j)) (λ j. list_any q (under j)) (kids_of n)
      (λ i d l. sym (named_flat q (all_nodes _))))

  -- the group at a place
  at_place : (x j : ℕ) → place_of places x ≡ Some j → names_of_group whole x ≡ under j
  at_place x j e = ap named_in_group (subst (λ o. IsAt trees root o (group_of whole x)) e (at x)).1

  pub in_range : (x j : ℕ) → place_of places x ≡ Some j → j ≤ root
  in_range x j e = (subst (λ o. IsAt trees root o (group_of whole x)) e (at x)).0

  pub no_group : (d x : ℕ) → place_of places x ≡ None → leads whole m d x ≡ false
  no_group d x e = lost whole m d x (subst (λ o. IsAt trees root o (group_of whole x)) e (at x))

  abbrev LeadsIn : ℕ → Type 0
  LeadsIn k = Leads whole trees m k

  pub leads_start : (k : ℕ) → place_of places m ≡ Some k → LeadsIn k
  leads_start k e d h = record { after = d; is = ap (λ ns. lead_to whole d ns m) (at_place m k e) ∙ h }

  none_yet : (ns : List ℕ) → lead_to whole 0 ns m ≡ false
  unfolding lead_to
  none_yet ns = refl

  any_at : (q : ℕ → Bool) (xs : List ℕ) (x : ℕ) → Contains xs x → q x ≡ true → list_any q xs ≡ true
  any_at q [] x c h = absurd (omega (arith, c.1))
  any_at q (y ∷ ys) x (zero, lt, same) h = or_left (q y) (list_any q ys) (ap q same ∙ h)
  any_at q (y ∷ ys) x (suc i, lt, same) h = or_right (q y) (list_any q ys)
      (any_at q ys x (i, omega (arith, lt), same) h)

  -- a place of a group that is named
  record Named (ns : List ℕ) (j : ℕ) : Type 0 where
    group : ℕ
    is : Contains ns group
    place : place_of places group ≡ Some j

  named_at : (ns : List ℕ) (j : ℕ) → Contains (places_of places ns) j → Named ns j
  named_at [] j c = absurd (omega (arith, c.1))
  named_at (x ∷ xs) j c = elim (Contains-append_cases (number_in (place_of places x)) (places_of places xs) j c) [
    | inl here ↦ record {
      group = x;
      is = Contains-append_left (x ∷ []) xs x (Contains-push [] x);
      place = one_there (place_of places x) j here;
    }
    | inr there ↦ let r = named_at xs j there in record {
      group = r.group;
      is = Contains-append_right (x ∷ []) xs r.group r.is;
      place = r.place;
    }
  ]

  -- of a node that is reached
  module _ (k : ℕ) (n : Node) (is : nest trees n ≡ tree_at trees k)
      (tests : All (λ j. is_test (tree_at trees j) ≡ true) (asserted_by n)) (from : LeadsIn k) where
    leads_any : (d : ℕ) → list_any (asks d) (under k) ≡ true → Comes whole m
    leads_any d h = from (suc d) (next whole m d (under k) ∙ h)

    leads_kid : (j : ℕ) → Contains (kids_of n) j → LeadsIn j
    leads_kid j c zero h = absurd (false≢true (sym (none_yet (under j)) ∙ h))
    leads_kid j c (suc d) h =
        let inner : list_any (asks d) (under j) ≡ true = sym (next whole m d (under j)) ∙ h in
        leads_any d (under_is k n is tests (asks d) ∙ or_right (list_any (asks d) (names_of n)) _
        (any_at (λ i. list_any (asks d) (under i)) (kids_of n) j c inner))

    leads_named : (j : ℕ) → Contains (places_of places (names_of n)) j → LeadsIn j
    leads_named j c d h =
        let r = named_at (names_of n) j c in
        let told : leads whole m d r.group ≡ true = ap (λ ns. lead_to whole d ns m) (at_place r.group j r.place) ∙ h in
        leads_any d (under_is k n is tests (asks d) ∙ or_left (list_any (asks d) (names_of n)) _
        (any_at (asks d) (names_of n) r.group r.is (or_right (r.group == m) (leads whole m d r.group) told)))

    pub leads_on : (j : ℕ) → Contains (kids_of n ++ places_of places (names_of n)) j → LeadsIn j
    leads_on j c = elim (Contains-append_cases (kids_of n) (places_of places (names_of n)) j c) [
      | inl kid ↦ leads_kid j kid
      | inr named ↦ leads_named j named
    ]

    pub found : list_any (λ x. x == m) (names_of n) ≡ true → leads_back whole m ≡ true
    found h =
        let c = leads_any 0 (under_is k n is tests (asks 0)
        ∙ or_left (list_any (asks 0) (names_of n)) _
        (any_more (λ x. x == m) (asks 0) (λ x e. or_left (x == m) (leads whole m 0 x) e) (names_of n) h)) in
        comes_back whole m c.after c.is

  -- The search.

  pub start_in : (n x : ℕ) → n ≡ root + 1 → All (λ k. k < n) (number_in (place_of places x))
  start_in n x size = by_place (place_of places x) refl
    where
      by_place : (o : Option ℕ) → place_of places x ≡ o → All (λ k. k < n) (number_in o)
      by_place None e = All-nil (λ k. k < n)
      by_place (Some j) e = let low = in_range x j e in
          All-cons (λ k. k < n) j [] (omega (arith, low, size)) (All-nil (λ k. k < n))

  pub all_in : (n : ℕ) (ns : List ℕ) → n ≡ root + 1 → All (λ k. k < n) (places_of places ns)
  all_in n [] size = All-nil (λ k. k < n)
  all_in n (x ∷ xs) size = All-append (λ k. k < n) (number_in (place_of places x)) (places_of places xs)
      (start_in n x size) (all_in n xs size)

  pub start_reached : (b r : Reached) → Grows b r (number_in (place_of places m)) → (k : ℕ)
      → place_of places m ≡ Some k → is_reached r k ≡ true
  start_reached b r g k e = All-head (λ j. is_reached r j ≡ true) k []
      (subst (λ o. All (λ j. is_reached r j ≡ true) (number_in o)) e g.added)

  pub start_sound : (b r : Reached) → ((k : ℕ) → is_reached b k ≡ false) → Grows b r (number_in (place_of places m))
      → (k : ℕ) → is_reached r k ≡ true → LeadsIn k
  start_sound b r none g k e = elim (g.only k e) [
    | inl old ↦ absurd (false≢true (sym (none k) ∙ old))
    | inr here ↦ leads_start k (one_there (place_of places m) k here)
  ]

  pub sound_on : (old new : Reached) (k : ℕ) (n : Node) → nest trees n ≡ tree_at trees k
      → All (λ j. is_test (tree_at trees j) ≡ true) (asserted_by n) →
      ((j : ℕ) → is_reached old j ≡ true → LeadsIn j) → is_reached old k ≡ true
      → Grows old new (kids_of n ++ places_of places (names_of n)) →
      (j : ℕ) → is_reached new j ≡ true → LeadsIn j
  sound_on old new k n is tests sound here g j e = elim (g.only j e) [
    | inl before ↦ sound j before
    | inr added ↦ leads_on k n is tests (sound k here) j added
  ]

  abbrev ClosedIn : Reached → ℕ → Type 0
  ClosedIn r k = Closed trees places m r.seen.items k

  pub closed_more : (old new : Reached) → ((k : ℕ) → is_reached old k ≡ true → is_reached new k ≡ true) → (k : ℕ)
      → ClosedIn old k → ClosedIn new k
  closed_more old new kept k c q own below = c q (λ x e f. own x e (λ j p. kept j (f j p)))
      (λ j l h. below j l (kept j h))

  module _ (seen : List Bool) (q : ℕ → Bool) where
    abbrev Got : ℕ → Type 0
    Got j = flagged seen j ≡ true

    own_none : ((x : ℕ) → (x == m) ≡ false → ((j : ℕ) → place_of places x ≡ Some j → Got j) → q x ≡ false) →
        (ns : List ℕ) → list_any (λ x. x == m) ns ≡ false → All Got (places_of places ns) → list_any q ns ≡ false
    own_none f [] h a = refl
    own_none f (x ∷ xs) h a =
        let parts = or_parts (x == m) (list_any (λ x. x == m) xs) h in
        or_from (q x) (list_any q xs)
        (f x parts.0 (λ j e. All-head Got j [] (subst (λ o. All Got (number_in o)) e
        (left Got (number_in (place_of places x)) (places_of places xs) a))))
        (own_none f xs parts.1 (right Got (number_in (place_of places x)) (places_of places xs) a))

    pub kids_none : (k : ℕ) → ((j : ℕ) → j < k → Got j → list_any q (under j) ≡ false) → (ks : List ℕ)
        → All (λ j. j < k) ks → All Got ks → list_any (λ j. list_any q (under j)) ks ≡ false
    kids_none k g [] below a = refl
    kids_none k g (j ∷ js) below a =
        or_from (list_any q (under j)) _ (g j (All-head (λ j. j < k) j js below) (All-head Got j js a))
        (kids_none k g js (All-tail (λ j. j < k) j js below) (All-tail Got j js a))

  pub closed_by : (seen : List Bool) (k : ℕ) (n : Node) → nest trees n ≡ tree_at trees k
      → All (λ j. is_test (tree_at trees j) ≡ true) (asserted_by n) → All (λ j. j < k) (kids_of n) →
      list_any (λ x. x == m) (names_of n) ≡ false → All (λ j. flagged seen j ≡ true)
      (kids_of n ++ places_of places (names_of n)) → Closed trees places m seen k
  closed_by seen k n is tests below none all q own kids =
      under_is k n is tests q
      ∙ or_from (list_any q (names_of n)) _
      (own_none seen q own (names_of n) none (right (λ j. flagged seen j ≡ true) (kids_of n)
      (places_of places (names_of n)) all))
      (kids_none seen q k kids (kids_of n) below (left (λ j. flagged seen j ≡ true) (kids_of n)
      (places_of places (names_of n)) all))

  pub closed_now : (r : Reached) (k : ℕ) (n : Node) → nest trees n ≡ tree_at trees k
      → All (λ j. is_test (tree_at trees j) ≡ true) (asserted_by n) → All (λ j. j < k) (kids_of n) →
      list_any (λ x. x == m) (names_of n) ≡ false → All (λ j. is_reached r j ≡ true)
      (kids_of n ++ places_of places (names_of n)) → ClosedIn r k
  closed_now r k n is tests below none all = closed_by r.seen.items k n is tests below none all

  pub closed_on : (old new : Reached) (ids : List ℕ) (i d : ℕ) → Grows old new ids → i < length old.nodes.items
      → All (ClosedIn old) (take i old.nodes.items) →
      ClosedIn new (get_or old.nodes.items i d) → All (ClosedIn new) (take (i + 1) new.nodes.items)
  closed_on old new ids i d g lt all here =
      subst (All (ClosedIn new))
      (sym (ap (take (i + 1)) g.front ∙ take-append-le (i + 1) old.nodes.items g.later (omega (arith, lt))))
      (All-more (ClosedIn new) old.nodes.items i d lt
      (All-weaker (ClosedIn old) (ClosedIn new) (closed_more old new g.kept) (take i old.nodes.items) all) here)

  -- Where all that has a flag is closed, nothing leads back.
  module _ (seen : List Bool) (closed : (k : ℕ) → flagged seen k ≡ true → Closed trees places m seen k) where
    abbrev Before : ℕ → Type 0
    Before d = (j : ℕ) → flagged seen j ≡ true → lead_to whole d (under j) m ≡ false

    never : (d k : ℕ) → flagged seen k ≡ true → lead_to whole d (under k) m ≡ false
    never zero k h = none_yet (under k)
    never (suc d) k h = next whole m d (under k) ∙ below (λ j g. never d j g) (suc k) k (omega arith) h
      where
        by_place : Before d → (x : ℕ) (o : Option ℕ) → place_of places x ≡ o
            → ((j : ℕ) → place_of places x ≡ Some j → flagged seen j ≡ true) → leads whole m d x ≡ false
        by_place before x None e f = no_group d x e
        by_place before x (Some j) e f = ap (λ ns. lead_to whole d ns m) (at_place x j e) ∙ before j (f j e)

        below : Before d → (n k : ℕ) → k < n → flagged seen k ≡ true → list_any (asks d) (under k) ≡ false
        below before zero k lt h = absurd (omega (arith, lt))
        below before (suc n) k lt h =
            closed k h (asks d) (λ x e f. or_from (x == m) (leads whole m d x) e
            (by_place before x (place_of places x) refl f))
            (λ j l g. below before n j (omega (arith, l, lt)) g)

    pub nowhere : ((k : ℕ) → place_of places m ≡ Some k → flagged seen k ≡ true) → leads_back whole m ≡ false
    nowhere start = by_place (place_of places m) refl
      where
        by_place : (o : Option ℕ) → place_of places m ≡ o → leads whole m (suc (captures whole)) m ≡ false
        by_place None e = no_group (suc (captures whole)) m e
        by_place (Some k) e = ap (λ ns. lead_to whole (suc (captures whole)) ns m) (at_place m k e)
            ∙ never (suc (captures whole)) k (start k e)

  pub at_end : (r : Reached) (n : ℕ) → IsListed r → length r.nodes.items ≤ n → All (ClosedIn r) (take n r.nodes.items) →
      ((k : ℕ) → place_of places m ≡ Some k → is_reached r k ≡ true) → leads_back whole m ≡ false
  at_end r n l le all start =
      nowhere r.seen.items (λ k e. All-contains (ClosedIn r) r.nodes.items k
      (subst (All (ClosedIn r)) (take_all n r.nodes.items le) all) (l.listed k e)) start
