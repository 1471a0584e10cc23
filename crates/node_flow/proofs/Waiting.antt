-- The parts under the root are taken one by one, while the others wait.
use Rattle.std.proofs.Common.{◌≡◌, ◌∙◌, ℕ, suc, ◌<◌, ◌≤◌, List, [], ◌∷◌, ◌++◌, flat_map, reverse, All, length}
use Rattle.std.proofs.Common.{get_or, refl, sym, ap, subst, arith, length-append, append_assoc}
use Rattle.std.proofs.lemmas.Grind.{flat_map-append}
use Rattle.std.proofs.lemmas.List.{reverse-append, reverse-reverse, get_or_append_left, get_or_default, get_or_push}
use Rattle.std.proofs.lemmas.List.Elements.{All-append, All-cons, All-head, All-tail, All-nil}
use Rattle.pat_tree.specs.declared.nodes.Node.{Node}
use Rattle.pat_tree.specs.declared.nodes.Node.TheVariants.{Empty}
use Rattle.pat_tree.specs.declared.nodes.Placed.{Placed}
use Rattle.pat_tree.specs.Rules.{kids_of}
use Rattle.node_flow.specs.Order.{order}
use Rattle.node_flow.proofs.Orders.{first}
use Rattle.node_flow.proofs.Building.{within}

-- where a node is taken, and its children wait
pub taken : (ps : List Placed) (done waiting : List ℕ) (id : ℕ) (n : Node)
    → ((other : Placed) → n ≡ (get_or ps id other).node) → All (λ k. k < id) (kids_of n) →
    (done ++ id ∷ []) ++ flat_map (order ps) (reverse (waiting ++ reverse (kids_of n))) ≡ done ++ flat_map (order ps)
    (reverse (waiting ++ id ∷ []))
taken ps done waiting id n here below =
    let kids = kids_of n in
    let d : Placed = record { node = Empty; at = 0 } in
    let p = get_or ps id d in
    let is : n ≡ p.node = here d in
    let l : id < length ps = within ps id n here in
    let own : order ps id ≡ id ∷ flat_map (order ps) kids =
    rw is (first ps id p l (get_or_default ps id d p l) (subst (λ m. All (λ k. k < id) (kids_of m)) is below)) in
    let rest = flat_map (order ps) (reverse waiting) in
    let turned : reverse (waiting ++ reverse kids) ≡ kids ++ reverse waiting = reverse-append waiting (reverse kids)
    ∙ ap (λ ks. ks ++ reverse waiting) (reverse-reverse kids) in
    let last : reverse (waiting ++ id ∷ []) ≡ id ∷ reverse waiting = reverse-append waiting (id ∷ []) in
    append_assoc done (id ∷ []) (flat_map (order ps) (reverse (waiting ++ reverse kids)))
    ∙ ap (λ ks. done ++ id ∷ flat_map (order ps) ks) turned
    ∙ ap (λ xs. done ++ id ∷ xs) (flat_map-append (order ps) kids (reverse waiting))
    ∙ ap (λ xs. done ++ (xs ++ rest)) (sym own)
    ∙ ap (λ ks. done ++ flat_map (order ps) ks) (sym last)

pub fewer : (ps : List Placed) (waiting : List ℕ) (id : ℕ) (n : Node)
    → ((other : Placed) → n ≡ (get_or ps id other).node) → All (λ k. k < id) (kids_of n) →
    length (flat_map (order ps) (reverse (waiting ++ reverse (kids_of n)))) < length
    (flat_map (order ps) (reverse (waiting ++ id ∷ [])))
fewer ps waiting id n here below =
    let e : suc (length (flat_map (order ps) (reverse (waiting ++ reverse (kids_of n))))) ≡ length
    (flat_map (order ps) (reverse (waiting ++ id ∷ []))) = ap length (taken ps [] waiting id n here below) in
    omega (arith, e)

pub all_front : (P : ℕ → Type 0) (xs ys : List ℕ) → All P (xs ++ ys) → All P xs
all_front P xs ys h = λ i d l. subst P (get_or_append_left xs ys d i l) (h i d (omega (arith, l, length-append xs ys)))

pub all_last : (P : ℕ → Type 0) (xs : List ℕ) (y : ℕ) → All P (xs ++ y ∷ []) → P y
all_last P xs y h = subst P (get_or_push xs y y (length xs) refl)
    (h (length xs) y (omega (arith, length-append xs (y ∷ []))))

all_reverse : (P : ℕ → Type 0) (xs : List ℕ) → All P xs → All P (reverse xs)
all_reverse P [] h = h
all_reverse P (x ∷ xs) h =
    subst (All P) (sym (reverse-append (x ∷ []) xs))
    (All-append P (reverse xs) (x ∷ []) (all_reverse P xs (All-tail P x xs h))
    (All-cons P x [] (All-head P x xs h) (All-nil P)))

pub all_waiting : (P : ℕ → Type 0) (waiting kids : List ℕ) → All P waiting → All P kids
    → All P (waiting ++ reverse kids)
all_waiting P waiting kids h k = All-append P waiting (reverse kids) h (all_reverse P kids k)

pub lower : (xs : List ℕ) (k n : ℕ) → k ≤ n → All (λ x. x < k) xs → All (λ x. x ≤ n) xs
lower xs k n l h = λ i d m. omega (arith, l, h i d m)
