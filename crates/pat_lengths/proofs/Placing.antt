-- Each lookbehind has its place, where the nodes stand in the order in which they end.
use Rattle.std.proofs.Common.{◌≡◌, ◌∙◌, ℕ, ◌<◌, true, false, List, [], ◌∷◌, ◌++◌, map, flat_map, Option, Some, None}
use Rattle.std.proofs.Common.{All, length, get_or, refl, sym, ap, subst, arith, append_assoc, append-nil}
use Rattle.std.proofs.Common.{length-append}
use Rattle.std.specs.Option.{option_or}
use Rattle.std.proofs.lemmas.Grind.{flat_map-append}
use Rattle.std.proofs.lemmas.List.Elements.{All-head}
use Rattle.std.proofs.Math.Seq.{get_or-append_seam}
use Rattle.pat_tree.specs.declared.nodes.Cond.{Cond}
use Rattle.pat_tree.specs.declared.nodes.Cond.TheVariants.{AnySet, InCall, InCallOf, Never, Assert}
use Rattle.pat_tree.specs.declared.nodes.Node.{Node}
use Rattle.pat_tree.specs.declared.nodes.Node.TheVariants as node
use Rattle.pat_tree.specs.declared.nodes.Placed.{Placed}
use Rattle.pat_tree.specs.Growing.{AllUnder, loose, loose_after}
use Rattle.pat_tree.specs.Nested.{Nested, tree_at, trees, row, nest, test_of, cond_of, other_of}
use Rattle.pat_tree.specs.Parts.{TreeParts, tree_of}
use Rattle.pat_tree.specs.Rules.{kids_of, tests_of, number_in, asserted_by, is_test}
use Rattle.pat_tree.specs.Sound.{TreeRules, NodeRules}
use Rattle.pat_tree.specs.Closing.{TakeTheLast, StandInTurn}
use Rattle.pat_tree.proofs.Loose.{replaces_push}
use Rattle.pat_tree.proofs.Reached.{reached_node}
use Rattle.node_flow.specs.Order.{order}
use Rattle.node_flow.proofs.Orders.{first}
use Rattle.pat_lengths.specs.Backs.{placed_at, fault_among, fault_of_node, fault_in}
use Rattle.pat_lengths.specs.declared.backs.LengthFault.{LengthFault}
use Rattle.pat_lengths.specs.Lookbehinds.{Lookbehind, Found, and_then, others, behind_at, looked, found_in}
use Rattle.pat_lengths.specs.Lookbehinds.{found_in_row, found_in_test, found_in_other, lookbehinds}
use Rattle.pat_lengths.specs.Lookbehinds.{fault_of_branches, first_refused, place_in, places_of, FirstRefusedLaw}
use Rattle.pat_lengths.proofs.OrderLemmas.{by_test}

abbrev behind : List Lookbehind → Found → Found
behind bs found = (bs ++ found.0, found.1)

flat_flat : {A : Type 0} (f : ℕ → List A) (g : ℕ → List ℕ) (ks : List ℕ)
    → flat_map f (flat_map g ks) ≡ flat_map (λ k. flat_map f (g k)) ks
flat_flat f g [] = refl
flat_flat f g (k ∷ ks) = flat_map-append f (g k) (flat_map g ks) ∙ ap (λ l. flat_map f (g k) ++ l) (flat_flat f g ks)

tested_found : (t : Nested) (places : List ℕ) → is_test t ≡ true → found_in_test (test_of t) places ≡ found_in t places
unfolding found_in
tested_found t places h =
    by_test (λ t. found_in_test (test_of t) places ≡ found_in t places) (λ ahead positive once ts. refl)
    (λ c ahead positive once ts.
    let inner = looked ahead ts (found_in_row ts places) in
    ap (λ (l : List Lookbehind). let f : Found = (l, inner.1) in f) (sym (append-nil inner.0)))
    t h

module _ (nodes : List Placed) where
  abbrev kid : ℕ → Nested
  kid k = tree_at (trees nodes) k

  -- what a node itself is
  abbrev behinds_of : Placed → List Lookbehind
  behinds_of p = elim (p.node) [
    | node.Look ahead positive once branches ↦
        behind_at ahead p.at (row (map kid branches))
    | _ ↦ []
  ]

  abbrev behinds_at : ℕ → List Lookbehind
  behinds_at k = behinds_of (placed_at nodes k)

  -- those of a node and of the nodes under it
  abbrev under : ℕ → List Lookbehind
  under q = flat_map behinds_at (order nodes q)

  -- these are the places of a node and of the nodes under it
  abbrev Fits : ℕ → List ℕ → Type 0
  Fits q places = (later : List ℕ) → found_in (kid q) (places ++ later) ≡ (under q, later)

  -- these are the places of such nodes, in turn
  abbrev Cover : List ℕ → List ℕ → Type 0
  Cover [] places = places ≡ []
  Cover (k ∷ ks) places = (own : List ℕ) × (rest : List ℕ) × (places ≡ own ++ rest) × Fits k own × Cover ks rest

  row_found : (ks places : List ℕ) → Cover ks places → (later : List ℕ)
      → found_in_row (row (map kid ks)) (places ++ later) ≡ (flat_map under ks, later)
  unfolding found_in
  row_found [] places c later = ap (λ (l : List ℕ). let f : Found = ([], l ++ later) in f) c
  row_found (k ∷ ks) places c later =
      let own = c.0 in
      let rest = c.1 in
      let after = found_in_row (row (map kid ks)) in
      ap (λ l. and_then (found_in (kid k) l) after) (ap (λ l. l ++ later) c.2 ∙ append_assoc own rest later)
      ∙ ap (λ f. and_then f after) (c.3 (rest ++ later))
      ∙ ap (behind (under k)) (row_found ks rest c.4 later)

  one_found : (k : ℕ) (places : List ℕ) → Cover (k ∷ []) places → (later : List ℕ)
      → found_in (kid k) (places ++ later) ≡ (under k, later)
  one_found k places c later =
      let is : places ≡ c.0 = c.2 ∙ ap (λ l. c.0 ++ l) c.4 ∙ append-nil c.0 in
      ap (λ l. found_in (kid k) (l ++ later)) is ∙ c.3 later

  record Split (front ks places : List ℕ) : Type 0 where
    one : List ℕ
    two : List ℕ
    is : places ≡ one ++ two
    ahead : Cover front one
    last : Cover ks two

  split : (front ks places : List ℕ) → Cover (front ++ ks) places → Split front ks places
  split [] ks places c = record { one = []; two = places; is = refl; ahead = refl; last = c }
  split (k ∷ front) ks places c =
      let s = split front ks c.1 c.4 in
      record {
        one = c.0 ++ s.one;
        two = s.two;
        is = c.2 ∙ ap (λ l. c.0 ++ l) s.is ∙ sym (append_assoc c.0 s.one s.two);
        ahead = (c.0, s.one, refl, c.3, s.ahead);
        last = s.last;
      }

  join : (front : List ℕ) (q : ℕ) (one two : List ℕ) → Cover front one → Fits q two
      → Cover (front ++ q ∷ []) (one ++ two)
  join [] q one two c f = (two, [], ap (λ l. l ++ two) c ∙ sym (append-nil two), f, refl)
  join (k ∷ front) q one two c f = (
    c.0,
    c.1 ++ two,
    ap (λ l. l ++ two) c.2 ∙ append_assoc c.0 c.1 two,
    c.3,
    join front q c.1 two c.4 f,
  )

  test_found : (test : Cond) (places : List ℕ) → Cover (tests_of test) places
      → All (λ k. is_test (kid k) ≡ true) (tests_of test) → (later : List ℕ) →
      found_in_test (cond_of (trees nodes) test) (places ++ later) ≡ (flat_map under (tests_of test), later)
  unfolding found_in
  test_found (AnySet groups) places c h later = ap (λ (l : List ℕ). let f : Found = ([], l ++ later) in f) c
  test_found InCall places c h later = ap (λ (l : List ℕ). let f : Found = ([], l ++ later) in f) c
  test_found (InCallOf groups) places c h later = ap (λ (l : List ℕ). let f : Found = ([], l ++ later) in f) c
  test_found Never places c h later = ap (λ (l : List ℕ). let f : Found = ([], l ++ later) in f) c
  test_found (Assert k) places c h later =
      tested_found (kid k) (places ++ later) (All-head (λ k. is_test (kid k) ≡ true) k [] h)
      ∙ one_found k places c later
      ∙ ap (λ (l : List Lookbehind). let f : Found = (l, later) in f) (sym (append-nil (under k)))

  second_found : (second : Option ℕ) (places : List ℕ) → Cover (number_in second) places → (later : List ℕ) →
      found_in_other (other_of (trees nodes) second) (places ++ later) ≡ (flat_map under (number_in second), later)
  unfolding found_in
  second_found None places c later = ap (λ (l : List ℕ). let f : Found = ([], l ++ later) in f) c
  second_found (Some k) places c later = one_found k places c later
      ∙ ap (λ (l : List Lookbehind). let f : Found = (l, later) in f) (sym (append-nil (under k)))

  condition_found : (test : Cond) (one : ℕ) (second : Option ℕ) (at : ℕ) (places : List ℕ)
      → Cover (tests_of test ++ one ∷ number_in second) places →
      All (λ k. is_test (kid k) ≡ true) (tests_of test) → (later : List ℕ) →
      found_in (nest (trees nodes) (node.Cond test one second)) (places ++ at ∷ later)
      ≡ (flat_map under (tests_of test ++ one ∷ number_in second), later)
  unfolding found_in
  condition_found test one second at places c h later =
      let s = split (tests_of test) (one ∷ number_in second) places c in
      let own = s.last.0 in
      let rest = s.last.1 in
      let left = at ∷ later in
      let test_of_it = found_in_test (cond_of (trees nodes) test) in
      let first_of_it = found_in (kid one) in
      let second_of_it = found_in_other (other_of (trees nodes) second) in
      let end : List ℕ → Found = λ l. ([], others l) in
      let a = flat_map under (tests_of test) in
      let b = under one in
      let e = flat_map under (number_in second) in
      let is : places ++ left ≡ s.one ++ (own ++ (rest ++ left)) =
      ap (λ l. l ++ left) (s.is ∙ ap (λ l. s.one ++ l) s.last.2) ∙ append_assoc s.one (own ++ rest) left
      ∙ ap (λ l. s.one ++ l) (append_assoc own rest left) in
      ap (λ l. and_then (and_then (and_then (test_of_it l) first_of_it) second_of_it) end) is
      ∙ ap (λ f. and_then (and_then (and_then f first_of_it) second_of_it) end)
      (test_found test s.one s.ahead h (own ++ (rest ++ left)))
      ∙ ap (λ f. and_then (and_then (behind a f) second_of_it) end) (s.last.3 (rest ++ left))
      ∙ ap (λ f. and_then (behind (a ++ b) f) end) (second_found second rest s.last.4 left)
      ∙ ap (λ (l : List Lookbehind). let f : Found = (l, later) in f)
      (append-nil ((a ++ b) ++ e) ∙ append_assoc a b e
      ∙ sym (flat_map-append under (tests_of test) (one ∷ number_in second)))

  abbrev nothing : (at : ℕ) (places later : List ℕ) → places ≡ []
      → (let f : Found = ([], places ++ later) in f) ≡ ([], later)
  nothing at places later c = ap (λ (l : List ℕ). let f : Found = ([], l ++ later) in f) c

  node_found : (n : Node) (at : ℕ) (places : List ℕ) → Cover (kids_of n) places
      → All (λ k. is_test (kid k) ≡ true) (asserted_by n) → (later : List ℕ) →
      found_in (nest (trees nodes) n) (places ++ (place_in (record { node = n; at = at }) ++ later))
      ≡ (behinds_of (record { node = n; at = at }) ++ flat_map under (kids_of n), later)
  unfolding found_in
  node_found node.Empty at places c h later = nothing at places later c
  node_found (node.One item) at places c h later = nothing at places later c
  node_found node.Break at places c h later = nothing at places later c
  node_found (node.Seq kids) at places c h later = row_found kids places c later
  node_found (node.Group number branches) at places c h later = row_found branches places c later
  node_found (node.Repeat body min max lazy) at places c h later =
      one_found body places c later ∙ ap (λ (l : List Lookbehind). let f : Found = (l, later) in f)
      (sym (append-nil (under body)))
  node_found (node.OneRepeat item min max lazy) at places c h later = nothing at places later c
  node_found (node.Atomic branches) at places c h later = row_found branches places c later
  node_found (node.Look ahead positive once branches) at places c h later =
      ap (looked ahead (row (map kid branches))) (row_found branches places c (at ∷ later))
  node_found (node.Cond test one second) at places c h later = condition_found test one second at places c h later
  node_found (node.Call n) at places c h later =
      ap (λ (l : List ℕ). let f : Found = ([], others (l ++ at ∷ later)) in f) c
  node_found (node.Ref groups caseless) at places c h later =
      ap (λ (l : List ℕ). let f : Found = ([], others (l ++ at ∷ later)) in f) c
  node_found (node.Anchor kind) at places c h later = nothing at places later c
  node_found node.KeepOut at places c h later = nothing at places later c
  node_found (node.VerbNode v) at places c h later = nothing at places later c
  node_found (node.Callout number from to place len) at places c h later = nothing at places later c

module _ (t : TreeParts) (rules : TreeRules t) where
  -- a node whose children's places are these
  fits_node : (q : ℕ) (p : Placed) (places : List ℕ) → q < length t.nodes
      → ((other : Placed) → get_or t.nodes q other ≡ p) → Cover t.nodes (kids_of p.node) places →
      Fits t.nodes q (places ++ place_in p)
  fits_node q p places inside is c later =
      let r = reached_node t.nodes q p rules.nodes.below inside (sym (is p)) in
      let rule = subst (λ x. NodeRules (length t.classes) (length t.verb_names) t.nodes x.node) (is p)
      (rules.nodes.each q p inside) in
      let below = flat_map (order t.nodes) (kids_of p.node) in
      let whole : under t.nodes q ≡ behinds_of t.nodes p ++ flat_map (under t.nodes) (kids_of p.node) =
      ap (flat_map (behinds_at t.nodes)) (first t.nodes q p inside (sym (is p)) r.1)
      ∙ ap (λ x. behinds_of t.nodes x ++ flat_map (behinds_at t.nodes) below)
      (is (record { node = node.Empty; at = 0 }))
      ∙ ap (λ l. behinds_of t.nodes p ++ l) (flat_flat (behinds_at t.nodes) (order t.nodes) (kids_of p.node)) in
      ap (λ u. found_in u ((places ++ place_in p) ++ later)) (sym r.0)
      ∙ ap (found_in (nest (trees t.nodes) p.node)) (append_assoc places (place_in p) later)
      ∙ node_found t.nodes p.node p.at places c rule.test later
      ∙ ap (λ (l : List Lookbehind). let f : Found = (l, later) in f) (sym whole)

  covered : (before ps : List Placed) → t.nodes ≡ before ++ ps → TakeTheLast before ps
      → Cover t.nodes (loose before) (places_of before) → Cover t.nodes (loose t.nodes) (places_of t.nodes)
  covered before [] e h c = subst (λ l. Cover t.nodes (loose l) (places_of l)) (sym (e ∙ append-nil before)) c
  covered before (p ∷ ps) e h c =
      let front = h.0.front in
      let q = length before in
      let s = split t.nodes front (kids_of p.node) (places_of before)
      (subst (λ l. Cover t.nodes l (places_of before)) h.0.is c) in
      let inside : q < length t.nodes = omega (arith, ap length e, length-append before (p ∷ ps)) in
      let is : (other : Placed) → get_or t.nodes q other ≡ p = λ other. ap (λ l. get_or l q other) e
      ∙ get_or-append_seam before p ps other in
      let joined = join t.nodes front q s.one (s.two ++ place_in p) s.ahead (fits_node q p s.two inside is s.last) in
      let places : s.one ++ (s.two ++ place_in p) ≡ places_of (before ++ p ∷ []) =
      sym (append_assoc s.one s.two (place_in p)) ∙ ap (λ l. l ++ place_in p) (sym s.is)
      ∙ ap (λ l. places_of before ++ l) (sym (append-nil (place_in p)))
      ∙ sym (flat_map-append place_in before (p ∷ [])) in
      covered (before ++ p ∷ []) ps (e ∙ sym (append_assoc before (p ∷ []) ps)) h.1
      (subst (λ l. Cover t.nodes l (places_of (before ++ p ∷ []))) (sym (replaces_push before p front h.0.is))
      (subst (Cover t.nodes (front ++ q ∷ [])) places joined))

  none_covered : Cover t.nodes (loose []) (places_of [])
  unfolding loose loose_after
  none_covered = refl

  all_found : StandInTurn t.nodes → AllUnder t.nodes t.root
      → lookbehinds (tree_of t) (places_of t.nodes) ≡ under t.nodes t.root
  all_found turns all_under =
      let c = subst (λ l. Cover t.nodes l (places_of t.nodes)) all_under (covered [] t.nodes refl turns none_covered) in
      ap (λ l. (found_in (tree_of t) l).0) (sym (append-nil (places_of t.nodes)))
      ∙ ap (λ f. f.0) (one_found t.nodes t.root (places_of t.nodes) c [])

  abbrev refused : List Lookbehind → Option LengthFault
  refused = first_refused t.options.match_unset_backref (tree_of t)

  branches_refused : (at : ℕ) (ks : List ℕ) → fault_of_branches t.options.match_unset_backref (tree_of t) at
      (row (map (kid t.nodes) ks)) ≡ fault_among t at ks
  branches_refused at [] = refl
  branches_refused at (k ∷ ks) = ap (option_or _) (branches_refused at ks)

  node_refused : (n : Node) (at : ℕ) (bs : List Lookbehind) →
      refused (behinds_of t.nodes (record { node = n; at = at }) ++ bs) ≡ option_or
      (fault_of_node t (record { node = n; at = at })) (refused bs)
  node_refused (node.Look false positive once branches) at bs =
      ap (λ o. option_or o (refused bs)) (branches_refused at branches)
  node_refused _ at bs = refl

  all_refused : (ks : List ℕ) → fault_in t ks ≡ refused (flat_map (behinds_at t.nodes) ks)
  all_refused [] = refl
  all_refused (k ∷ ks) =
      let p = placed_at t.nodes k in
      ap (option_or (fault_of_node t p)) (all_refused ks)
      ∙ sym (node_refused p.node p.at (flat_map (behinds_at t.nodes) ks))

pub first_refused_is : FirstRefusedLaw
first_refused_is t rules turns all_under = all_refused t rules (order t.nodes t.root)
    ∙ ap (refused t rules) (sym (all_found t rules turns all_under))
