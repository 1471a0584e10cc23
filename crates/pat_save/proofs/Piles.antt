-- The pile of loose nodes, as nodes are added.
use Rattle.std.proofs.Common.{◌≡◌, ℕ, zero, suc, ◌+◌, ◌<◌, ◌≤◌, Bool, true, false, List, [], ◌∷◌, ◌++◌, length, map}
use Rattle.std.proofs.Common.{refl, sym, ap, ◌∙◌, subst, append_assoc, append-nil, arith, All, Option, Some, None, ◌||◌}
use Rattle.std.specs.List.{AllByRecursion}
use Rattle.std.proofs.lemmas.List.{map-append}
use Rattle.std.proofs.lemmas.List.Elements.{All-from_recursion, recursion_from_All}
use Rattle.pat_tree.specs.declared.nodes.Node.{Node}
use Rattle.pat_tree.specs.declared.nodes.Node.TheVariants as node
use Rattle.pat_tree.specs.declared.nodes.Placed.{Placed}
use Rattle.pat_tree.specs.Growing.{Grows, loose}
use Rattle.pat_tree.specs.Nested.{Nested, Row, callout, look, more, nest, none, row, seq, trees, tree_at}
use Rattle.pat_tree.specs.Rules.{is_test, kids_of}
use Rattle.pat_tree.proofs.Growing.{makes_push, tree_on}
use Rattle.pat_tree.proofs.Loose.{replaces_push}
use Rattle.pat_tree.proofs.Marks.{has_group_push}
use Rattle.pat_tree.specs.Parts.{DraftParts, with_node}
use Rattle.pat_tree.specs.Refs.{has_group, is_group, marked}
use Rattle.pat_save.specs.Grown.{IsGrown}
use Rattle.pat_save.specs.declared.reading.Growing.{Growing}
use Rattle.pat_save.specs.declared.pile.Loose.{Loose}
use Rattle.pat_save.specs.declared.pile.Role.{Role}
use Rattle.pat_save.specs.declared.pile.Role.TheVariants as role
use Rattle.pat_save.specs.Pile.{IsPile, Takes, free_of, ids_of, pair_role, role_of, role_with, row_role, serves}
use Rattle.pat_save.specs.declared.errors.LoadError.{LoadError}
use Rattle.pat_save.specs.declared.errors.LoadError.TheVariants as load
use Rattle.pat_save.specs.declared.taken_nodes.Around.{Around}
use Rattle.pat_save.specs.Reading.{Fails, ◌>>=◌, made}
use Rattle.pat_save.specs.ReadNodes.{Free, free_in, node_at, placed_after}
use Rattle.std.proofs.lemmas.List.Elements.{All-nil}
use Rattle.pat_tree.specs.Growing.{loose_after}
use Rattle.pat_save.specs.ReadImage.{Tables, around_of, nodes_at, only_of, rooted, rooted_at}
use Rattle.pat_save.proofs.Forms.{AreBytes, bind_some, chosen_none_of, found, found_is, made_none, made_some}
use Rattle.pat_save.proofs.ImageForms.{only_is, placed_of}
use Rattle.pat_save.proofs.Trees.{root_below}
use Rattle.pat_save.proofs.NodeForms.{node_form}
use Rattle.pat_save.proofs.NodeRules.{NodeIs, keeps}
use Rattle.pat_save.proofs.Trees.{loose_below}

-- ---- what a tree serves as

pub serves_is : (t : Nested) → serves (role_of t) ≡ is_test t
serves_is (look ahead positive once branches) = refl
serves_is (callout c) = refl
serves_is (seq (more (callout c) (more (look ahead positive once branches) none))) = refl
serves_is _ = refl

is_look : Role → Bool
is_look role.Look = true
is_look _ = false

is_callout : Role → Bool
is_callout role.Callout = true
is_callout _ = false

row_no_look : (r : Row) → is_look (role_of (seq r)) ≡ false
unfolding is_look
row_no_look (more (callout c) (more (look ahead positive once branches) none)) = refl
row_no_look _ = refl

row_no_callout : (r : Row) → is_callout (role_of (seq r)) ≡ false
unfolding is_callout
row_no_callout (more (callout c) (more (look ahead positive once branches) none)) = refl
row_no_callout _ = refl

behind_callout : (x : Role) → is_look x ≡ false → pair_role role.Callout x ≡ role.Other
unfolding is_look
behind_callout role.Look e = absurd cc
behind_callout _ e = refl

no_callout : (x y : Role) → is_callout x ≡ false → pair_role x y ≡ role.Other
unfolding is_callout
no_callout role.Callout y e = absurd cc
no_callout _ y e = refl

one_role : (t : Nested) → role_of (seq (more t none)) ≡ role.Other
one_role (callout c) = refl
one_role _ = refl

two_roles : (t u : Nested) → pair_role (role_of t) (role_of u) ≡ role_of (seq (more t (more u none)))
two_roles (callout c) (look ahead positive once branches) = refl
two_roles (callout c) (seq r) = behind_callout (role_of (seq r)) (row_no_look r)
two_roles (callout c) _ = refl
two_roles (seq r) u = no_callout (role_of (seq r)) (role_of u) (row_no_callout r)
two_roles _ u = refl

many_roles : (t u v : Nested) (r : Row) → role_of (seq (more t (more u (more v r)))) ≡ role.Other
many_roles (callout c) (look ahead positive once branches) v r = refl
many_roles (callout c) _ v r = refl
many_roles _ u v r = refl

module _ (ts : List Nested) where
  -- each serves as its tree does
  Serve : List Loose → Type 0
  Serve kids = AllByRecursion (λ l. l.role ≡ role_of (tree_at ts l.id)) kids

  row_is : (kids : List Loose) → Serve kids → row_role kids ≡ role_of (seq (row (map (tree_at ts) (ids_of kids))))
  unfolding Serve
  row_is [] serve = refl
  row_is (a ∷ []) serve = sym (one_role (tree_at ts a.id))
  row_is (a ∷ b ∷ []) serve =
      ap (λ (x : Role). pair_role x b.role) serve.0 ∙ ap
      (λ (x : Role). pair_role (role_of (tree_at ts a.id)) x) serve.1.0
      ∙ two_roles (tree_at ts a.id) (tree_at ts b.id)
  row_is (a ∷ b ∷ c ∷ kids) serve =
      sym (many_roles (tree_at ts a.id) (tree_at ts b.id) (tree_at ts c.id) (row (map (tree_at ts) (ids_of kids))))

  with_is : (kids : List Loose) (x : Node) → Serve kids → ids_of kids ≡ kids_of x → role_with kids x ≡ role_of
      (nest ts x)
  with_is kids (node.Seq ids) serve same =
      row_is kids serve ∙ ap (λ (l : List ℕ). role_of (seq (row (map (tree_at ts) l)))) same
  with_is kids (node.Look ahead positive once branches) serve same = refl
  with_is kids (node.Callout number from to at len) serve same = refl
  with_is kids _ serve same = refl

-- ---- the pile

same_free : (ts : List Nested) (pile : List Loose) → AllByRecursion (λ l. l.role ≡ role_of (tree_at ts l.id)) pile
    → free_of pile ≡ map (λ k. (k, is_test (tree_at ts k))) (ids_of pile)
same_free ts [] roles = refl
same_free ts (l ∷ pile) roles =
    ap (λ (b : Bool). let x : ℕ × Bool = (l.id, b) in x ∷ free_of pile)
    (ap serves roles.0 ∙ serves_is (tree_at ts l.id))
    ∙ ap (λ (f : Free). (l.id, is_test (tree_at ts l.id)) ∷ f) (same_free ts pile roles.1)

pub free_is : (known : List Placed) (pile : List Loose) → IsPile known pile → free_of pile ≡ free_in known
free_is known pile is =
    same_free (trees known) pile
    (recursion_from_All (λ l. l.role ≡ role_of (tree_at (trees known) l.id)) pile is.roles)
    ∙ ap (map (λ k. (k, is_test (tree_at (trees known) k)))) (sym is.ids)

front_all : {A : Type 0} (P : A → Type 0) (xs ys : List A) → AllByRecursion P (xs ++ ys) → AllByRecursion P xs
front_all P [] ys all = tt
front_all P (x ∷ xs) ys all = (all.0, front_all P xs ys all.1)

back_all : {A : Type 0} (P : A → Type 0) (xs ys : List A) → AllByRecursion P (xs ++ ys) → AllByRecursion P ys
back_all P [] ys all = all
back_all P (x ∷ xs) ys all = back_all P xs ys all.1

push_all : {A : Type 0} (P : A → Type 0) (xs : List A) (x : A) → AllByRecursion P xs → P x
    → AllByRecursion P (xs ++ x ∷ [])
push_all P [] x all here = (here, tt)
push_all P (y ∷ xs) x all here = (all.0, push_all P xs x all.1 here)

-- what stands for trees goes on as nodes are added
roles_on : {a b : List Placed} → Grows a b → (pile : List Loose) → AllByRecursion (λ k. k < length a) (ids_of pile)
    → AllByRecursion (λ l. l.role ≡ role_of (tree_at (trees a) l.id)) pile
    → AllByRecursion (λ l. l.role ≡ role_of (tree_at (trees b) l.id)) pile
roles_on g [] below roles = tt
roles_on g (l ∷ pile) below roles =
    (roles.0 ∙ ap role_of (sym (tree_on g l.id below.0)), roles_on g pile below.1 roles.1)

pub pile_push : (known : List Placed) (old new : List Loose) (p : Placed) (serve : Role) (id : ℕ) → id ≡ length known
    → IsPile known old → Takes old new p.node serve
    → IsPile (known ++ p ∷ []) (new ++ (let l : Loose = record { id = id; role = serve } in l) ∷ [])
unfolding Serve
pile_push known old new p serve id at is took =
    let parts : loose known ≡ ids_of new ++ kids_of p.node =
    is.ids ∙ ap ids_of took.is ∙ map-append (λ (l : Loose). l.id) new took.kids
    ∙ ap (λ (l : List ℕ). ids_of new ++ l) took.ids_are in
    let all = subst (AllByRecursion (λ l. l.role ≡ role_of (tree_at (trees known) l.id))) took.is
    (recursion_from_All (λ l. l.role ≡ role_of (tree_at (trees known) l.id)) old is.roles) in
    let made = makes_push known p in
    let here : serve ≡ role_of (tree_at (trees (known ++ p ∷ [])) id) =
    took.role_is
    ∙ with_is (trees known) took.kids p.node
    (back_all (λ l. l.role ≡ role_of (tree_at (trees known) l.id)) new took.kids all) took.ids_are
    ∙ ap role_of (sym made.is) ∙ ap (λ (k : ℕ). role_of (tree_at (trees (known ++ p ∷ [])) k)) (sym at) in
    record {
      ids = replaces_push known p (ids_of new) parts
          ∙ ap (λ (k : ℕ). ids_of new ++ k ∷ []) (sym at)
          ∙ sym (map-append (λ (l : Loose). l.id) new (record { id = id; role = serve } ∷ []));
      roles = All-from_recursion (λ l. l.role ≡ role_of (tree_at (trees (known ++ p ∷ [])) l.id))
          (new ++ (let l : Loose = record { id = id; role = serve } in l) ∷ [])
          (push_all (λ l. l.role ≡ role_of (tree_at (trees (known ++ p ∷ [])) l.id)) new
          (record { id = id; role = serve })
          (roles_on made.grows new
          (front_all (λ k. k < length known) (ids_of new) (kids_of p.node)
          (subst (AllByRecursion (λ k. k < length known)) parts (loose_below known)))
          (front_all (λ l. l.role ≡ role_of (tree_at (trees known) l.id)) new took.kids all))
          here);
    }

-- ---- a node that is read

module _ (around : Around) (text : List ℕ) (known : List Placed) (pile : List Loose) (is : IsPile known pile)
    (bytes : List ℕ) where
  pub node_read : (x : Node) (rest : List ℕ) → AreBytes bytes → node_at around text (free_of pile) bytes ≡ Some
      (x, rest)
      → NodeIs around text known x
  node_read x rest fits e =
      let same : node_at around text (free_in known) bytes ≡ Some (x, rest) = rw (free_is known pile is) at e in
      keeps around text known x ((node_form around text (free_in known)).takes bytes (x, rest) fits same).fit

  pub placed_read : (x : Node) (rest : List ℕ) → node_at around text (free_of pile) bytes ≡ Some (x, rest)
      → made (λ p. known ++ p ∷ []) (placed_after around text known) bytes
      ≡ Some (known ++ (let p : Placed = record { node = x; at = 0 } in p) ∷ [], rest)
  unfolding placed_after
  placed_read x rest e =
      let same : node_at around text (free_in known) bytes ≡ Some (x, rest) = rw (free_is known pile is) at e in
      made_some (λ p. known ++ p ∷ []) (made placed_of (node_at around text (free_in known))) bytes (placed_of x) rest
      (made_some placed_of (node_at around text (free_in known)) bytes x rest same)

  pub placed_fails : (e : LoadError) → Fails e (node_at around text (free_of pile) bytes)
      → Fails e (made (λ p. known ++ p ∷ []) (placed_after around text known) bytes)
  unfolding placed_after
  placed_fails load.Memory h = tt
  placed_fails load.Bad h =
      let same : node_at around text (free_in known) bytes ≡ None = rw (free_is known pile is) at h in
      made_none (λ p. known ++ p ∷ []) (made placed_of (node_at around text (free_in known))) bytes
      (made_none placed_of (node_at around text (free_in known)) bytes same)
  placed_fails load.TooLarge h = h

-- a tree that has grown by this node
pub grown_more : (around : Around) (g h : Growing) (p : Placed) (serve : Role) (id : ℕ) (left : List Loose)
    → IsGrown around g → h.draft ≡ with_node g.draft p
    → ((n : ℕ) → marked h.groups n ≡ (marked g.groups n || is_group n p.node)) → id ≡ length g.draft.nodes
    → Takes g.pile.items left p.node serve
    → h.pile.items ≡ left ++ (let l : Loose = record { id = id; role = serve } in l) ∷ [] → IsGrown around h
grown_more around g h p serve id left is grows marks at took piled = record {
  classes = is.classes ∙ ap (λ (d : DraftParts). length d.classes) (sym grows);
  verb_names = is.verb_names ∙ ap (λ (d : DraftParts). length d.verb_names) (sym grows);
  marks = λ n.
      marks n ∙ ap (λ (b : Bool). b || is_group n p.node) (is.marks n) ∙ sym (has_group_push g.draft.nodes p n)
      ∙ ap (λ (d : DraftParts). has_group d.nodes n) (sym grows);
  pile = rw (grows, piled) (pile_push g.draft.nodes g.pile.items left p serve id at is.pile took);
}

empty_pile : IsPile [] []
unfolding loose loose_after
empty_pile = record { ids = refl; roles = All-nil (λ l. l.role ≡ role_of (tree_at (trees []) l.id)) }

abbrev tables_in : DraftParts → Tables
tables_in d = (d.names, (d.verb_names, d.classes))

-- a tree without a node
pub fresh_grown : (around : Around) (utf : Bool) (g : Growing) → around ≡ around_of utf (tables_in g.draft)
    → g.draft.nodes ≡ [] → g.groups ≡ [] → g.pile.items ≡ [] → IsGrown around g
fresh_grown around utf g is nodes groups pile = record {
  classes = ap (λ (a : Around). a.classes) is;
  verb_names = ap (λ (a : Around). a.verb_names) is;
  marks = λ n. rw (nodes, groups) refl;
  pile = rw (nodes, pile) empty_pile;
}

both_same : {A B : Type 0} (a c : A) (b d : B) → (let p : A × B = (a, b) in p) ≡ (c, d) → (a ≡ c) × (b ≡ d)
both_same {A} {B} a c b d e = (ap (λ (p : A × B). p.0) e, ap (λ (p : A × B). p.1) e)

-- the root is a node
pub root_in : (around : Around) (text bytes : List ℕ) (root : ℕ) (nodes : List Placed) (rest : List ℕ)
    → rooted_at around text bytes ≡ Some ((root, nodes), rest) → root < length nodes
unfolding rooted_at
root_in around text bytes root nodes rest e =
    let p = bind_some (nodes_at around text bytes) (λ y. rooted y.0 >>= λ x. found (x, y.1)) ((root, nodes), rest) e in
    let q = bind_some (rooted p.0.0) (λ x. found (x, p.0.1)) ((root, nodes), rest) p.2 in
    let r = bind_some (only_of (loose p.0.0)) (λ x. found (x, p.0.0)) q.0 q.1 in
    let made_of : (ℕ × List Placed) × List ℕ = (q.0, p.0.1) in
    let first : ℕ × List Placed = (r.0, p.0.0) in
    let same : (r.0 ≡ root) × (p.0.0 ≡ nodes) = both_same r.0 root p.0.0 nodes
    (found_is first q.0 r.2 ∙ ap (λ (x : (ℕ × List Placed) × List ℕ). x.0)
    (found_is made_of ((root, nodes), rest) q.2)) in
    let alone : loose nodes ≡ root ∷ [] =
    ap loose (sym same.1) ∙ only_is (loose p.0.0) r.0 r.1 ∙ ap (λ (k : ℕ). k ∷ []) same.0 in
    root_below nodes root alone

pub rooted_fails : (around : Around) (text bytes : List ℕ) (e : LoadError) → Fails e (nodes_at around text bytes)
    → Fails e (rooted_at around text bytes)
unfolding rooted_at
rooted_fails around text bytes load.Memory h = tt
rooted_fails around text bytes load.Bad h = chosen_none_of rooted (nodes_at around text) bytes h
rooted_fails around text bytes load.TooLarge h = h
