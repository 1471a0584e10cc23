-- Lists of tasks and of states.
use Rattle.std.proofs.Common.{◌≡◌, ◌∙◌, ℕ, zero, suc, ◌+◌, ◌<◌, ◌≤◌, ◌⊎◌, Bool, true, false, List, [], ◌∷◌, ◌++◌}
use Rattle.std.proofs.Common.{length, Some, refl, sym, ap, subst, inl, inr, arith, length-append, length-set}
use Rattle.std.proofs.Common.{eqb-true}
use Rattle.std.specs.Prelude.{◌==◌, slice_get, slice_set}
use Rattle.dfa_paths.specs.declared.graph.Node.{Node}
use Rattle.dfa_paths.specs.declared.graph.Node.TheVariants.{One, Break, Anchor, Split, Goto, Look, Atomic, Dead, Match}
use Rattle.dfa_graph.specs.declared.build.Task.{Task}
use Rattle.dfa_graph.specs.declared.build.Work.{Work}
use Rattle.dfa_paths.specs.Graph.{IsNodeIn, IsGraph}
use Rattle.dfa_graph.specs.Building.{so_at, else_at, look_node}
use Rattle.dfa_paths.proofs.Coming.{node_same}

-- Lists of tasks.

unfoldable pub AllTasks : (Task → Type 0) → List Task → Type 0
AllTasks P [] = Unit {0}
AllTasks P (t ∷ ts) = P t × AllTasks P ts

-- what their works come to together
unfoldable pub sum_of : (Work → ℕ) → List Task → ℕ
sum_of f [] = 0
sum_of f (t ∷ ts) = f t.work + sum_of f ts

pub sum_append : (f : Work → ℕ) (ts us : List Task) →
    sum_of f (ts ++ us) ≡ sum_of f ts + sum_of f us
unfolding sum_of
sum_append f [] us = let m : sum_of f us ≡ 0 + sum_of f us = omega arith in m
sum_append f (t ∷ ts) us =
    let e = sum_append f ts us in
    let m : f t.work + sum_of f (ts ++ us) ≡ f t.work + sum_of f ts + sum_of f us = omega (arith, e)
    in m

-- some task fills the state
unfoldable pub Fills : ℕ → List Task → Type 0
Fills q [] = ⊥
Fills q (t ∷ ts) = (q ≡ t.at) ⊎ Fills q ts

unfoldable pub Apart : List Task → Type 0
Apart [] = Unit {0}
Apart (t ∷ ts) = (Fills t.at ts → ⊥) × Apart ts

pub all_append : (P : Task → Type 0) (xs ys : List Task) → AllTasks P xs → AllTasks P ys →
    AllTasks P (xs ++ ys)
unfolding AllTasks
all_append P [] ys h k = k
all_append P (x ∷ xs) ys h k = (h.0, all_append P xs ys h.1 k)

pub all_front : (P : Task → Type 0) (xs ys : List Task) → AllTasks P (xs ++ ys) → AllTasks P xs
unfolding AllTasks
all_front P [] ys h = tt
all_front P (x ∷ xs) ys h = (h.0, all_front P xs ys h.1)

pub all_back : (P : Task → Type 0) (xs ys : List Task) → AllTasks P (xs ++ ys) → AllTasks P ys
unfolding AllTasks
all_back P [] ys h = h
all_back P (x ∷ xs) ys h = all_back P xs ys h.1

pub all_wider : (P Q : Task → Type 0) (xs : List Task) → ((t : Task) → P t → Q t) → AllTasks P xs →
    AllTasks Q xs
unfolding AllTasks
all_wider P Q [] f h = tt
all_wider P Q (x ∷ xs) f h = (f x h.0, all_wider P Q xs f h.1)

pub fills_append : (q : ℕ) (xs ys : List Task) → Fills q (xs ++ ys) → Fills q xs ⊎ Fills q ys
unfolding Fills
fills_append q [] ys h = inr h
fills_append q (x ∷ xs) ys h =
    elim h [
      | inl a ↦ inl (inl a)
      | inr b ↦ elim (fills_append q xs ys b) [ inl c ↦ inl (inr c) | inr d ↦ inr d ]
    ]

pub fills_front : (q : ℕ) (xs ys : List Task) → Fills q xs → Fills q (xs ++ ys)
unfolding Fills
fills_front q [] ys h = absurd h
fills_front q (x ∷ xs) ys h = elim h [ inl a ↦ inl a | inr b ↦ inr (fills_front q xs ys b) ]

pub fills_back : (q : ℕ) (xs ys : List Task) → Fills q ys → Fills q (xs ++ ys)
unfolding Fills
fills_back q [] ys h = h
fills_back q (x ∷ xs) ys h = inr (fills_back q xs ys h)

pub apart_append : (xs ys : List Task) → Apart xs → Apart ys →
    ((q : ℕ) → Fills q xs → Fills q ys → ⊥) → Apart (xs ++ ys)
unfolding Apart Fills
apart_append [] ys h k f = k
apart_append (x ∷ xs) ys h k f = (
  λ i. (elim (fills_append x.at xs ys i) [ inl a ↦ h.0 a | inr b ↦ f x.at (inl refl) b ]),
  apart_append xs ys h.1 k (λ q i j. f q (inr i) j),
)

pub apart_front : (xs ys : List Task) → Apart (xs ++ ys) → Apart xs
unfolding Apart
apart_front [] ys h = tt
apart_front (x ∷ xs) ys h = (λ i. h.0 (fills_front x.at xs ys i), apart_front xs ys h.1)

-- the last task's state is no other's
pub apart_last : (xs : List Task) (t : Task) → Apart (xs ++ t ∷ []) → Fills t.at xs → ⊥
unfolding Apart Fills
apart_last [] t h i = i
apart_last (x ∷ xs) t h i =
    elim i [
      | inl a ↦ h.0 (fills_back x.at xs (t ∷ []) (inl (sym a)))
      | inr b ↦ apart_last xs t h.1 b
    ]

-- Lists of states.

pub get_set : (ns : List Node) (i : ℕ) (n : Node) → i < length ns →
    slice_get (slice_set ns i n) i ≡ Some n
get_set [] i n l = absurd (omega (arith, l))
get_set (m ∷ ms) zero n l = refl
get_set (m ∷ ms) (suc i) n l = get_set ms i n (omega (arith, l))

pub get_other : (ns : List Node) (i q : ℕ) (n : Node) → (q ≡ i → ⊥) →
    slice_get (slice_set ns i n) q ≡ slice_get ns q
get_other [] i q n ne = refl
get_other (m ∷ ms) zero zero n ne = absurd (ne refl)
get_other (m ∷ ms) zero (suc q) n ne = refl
get_other (m ∷ ms) (suc i) zero n ne = refl
get_other (m ∷ ms) (suc i) (suc q) n ne = get_other ms i q n (λ e. ne (ap suc e))

pub get_front : (ns ms : List Node) (q : ℕ) → q < length ns → slice_get
    (ns ++ ms) q ≡ slice_get ns q
get_front [] ms q l = absurd (omega (arith, l))
get_front (n ∷ ns) ms zero l = refl
get_front (n ∷ ns) ms (suc q) l = get_front ns ms q (omega (arith, l))

wider_node : (n states states' classes : ℕ) (m : Node) → states ≤ states' →
    IsNodeIn states classes m → IsNodeIn states' classes m
wider_node n states states' classes (One item next) l h = let a : next < states = h.0 in
    (omega (arith, a, l), h.1)
wider_node n states states' classes (Break next) l h = omega (arith, h, l)
wider_node n states states' classes (Anchor kind next) l h = omega (arith, h, l)
wider_node n states states' classes (Split a b) l h = (omega (arith, h.0, l), omega (arith, h.1, l))
wider_node n states states' classes (Goto next) l h = omega (arith, h, l)
wider_node n states states' classes (Look back entry yes' no') l h =
    (omega (arith, h.0, l), omega (arith, h.1, l), omega (arith, h.2, l))
wider_node n states states' classes (Atomic entry next) l h =
    (omega (arith, h.0, l), omega (arith, h.1, l))
wider_node n states states' classes Dead l h = tt
wider_node n states states' classes Match l h = tt

-- states that are not written yet
pub AreDead : List Node → Type 0
AreDead ds = (q : ℕ) (n : Node) → slice_get ds q ≡ Some n → n ≡ Dead

pub one_dead : AreDead (Dead ∷ [])
unfolding AreDead
one_dead zero n e = sym (node_same Dead n e)
one_dead (suc q) n e = cc

pub two_dead : AreDead (Dead ∷ Dead ∷ [])
unfolding AreDead
two_dead zero n e = sym (node_same Dead n e)
two_dead (suc zero) n e = sym (node_same Dead n e)
two_dead (suc (suc q)) n e = cc

pub three_dead : AreDead (Dead ∷ Dead ∷ Dead ∷ [])
unfolding AreDead
three_dead zero n e = sym (node_same Dead n e)
three_dead (suc zero) n e = sym (node_same Dead n e)
three_dead (suc (suc zero)) n e = sym (node_same Dead n e)
three_dead (suc (suc (suc q))) n e = cc

-- the second of two new states
pub second_new : (ns : List Node) (q : ℕ) → q ≡ length ns + 1 →
    slice_get (ns ++ Dead ∷ Dead ∷ []) q ≡ Some Dead
second_new [] zero e = absurd (omega (arith, e))
second_new [] (suc zero) e = refl
second_new [] (suc (suc q)) e = absurd (omega (arith, e))
second_new (n ∷ ns) zero e = absurd (omega (arith, e))
second_new (n ∷ ns) (suc q) e = second_new ns q (omega (arith, e))

-- either of two new states
pub either_new : (ns : List Node) (q : ℕ) → length ns ≤ q → q < length ns + 2 →
    slice_get (ns ++ Dead ∷ Dead ∷ []) q ≡ Some Dead
either_new [] zero l m = refl
either_new [] (suc zero) l m = refl
either_new [] (suc (suc q)) l m = absurd (omega (arith, m))
either_new (n ∷ ns) zero l m = absurd (omega (arith, l))
either_new (n ∷ ns) (suc q) l m = either_new ns q (omega (arith, l)) (omega (arith, m))

-- the two ways of a lookbehind
pub so_in : (positive : Bool) (n : ℕ) → (n ≤ so_at positive n) × (so_at positive n < n + 2)
so_in true n = (omega arith, omega arith)
so_in false n = (omega arith, omega arith)

pub else_in : (positive : Bool) (n : ℕ) → (n ≤ else_at positive n) × (else_at positive n < n + 2)
else_in true n = (omega arith, omega arith)
else_in false n = (omega arith, omega arith)

pub ways_apart : (positive : Bool) (n : ℕ) → so_at positive n ≡ else_at positive n → ⊥
ways_apart true n e = omega (arith, e)
ways_apart false n e = omega (arith, e)

pub look_in : (states classes entry a b : ℕ) (positive : Bool) → entry < states → a < states →
    b < states → IsNodeIn states classes (look_node entry positive a b)
look_in states classes entry a b true l m k = (l, m, k)
look_in states classes entry a b false l m k = (l, k, m)

get_append : (ns ds : List Node) (q : ℕ) (n : Node) → AreDead ds → slice_get (ns ++ ds) q ≡ Some n →
    (slice_get ns q ≡ Some n) ⊎ (n ≡ Dead)
unfolding AreDead
get_append [] ds q n d e = inr (d q n e)
get_append (m ∷ ms) ds zero n d e = inl e
get_append (m ∷ ms) ds (suc q) n d e = get_append ms ds q n d e

pub graph_longer : (classes : ℕ) (ns ds : List Node) → AreDead ds → IsGraph classes ns →
    IsGraph classes (ns ++ ds)
graph_longer classes ns ds d h q n e =
    let l = length-append ns ds in
    elim (get_append ns ds q n d e) [
      | inl a ↦ wider_node 0 (length ns) (length (ns ++ ds)) classes n (omega (arith, l)) (h q n a)
      | inr b ↦ subst (IsNodeIn (length (ns ++ ds)) classes) (sym b) tt
    ]

is_it : (q i : ℕ) (b : Bool) → (q == i) ≡ b → (q ≡ i) ⊎ (q ≡ i → ⊥)
is_it q i true e = inl (eqb-true q i e)
is_it q i false e = inr (λ s. grind (arith, e, s))

pub graph_set : (classes : ℕ) (ns : List Node) (i : ℕ) (n : Node) → i < length ns →
    IsGraph classes ns → IsNodeIn (length ns) classes n →
    IsGraph classes (slice_set ns i n)
graph_set classes ns i n l h k q m e =
    subst (λ len. IsNodeIn len classes m) (sym (length-set ns i n))
    (elim (is_it q i (q == i) refl) [
      | inl s ↦ subst (IsNodeIn (length ns) classes)
          (node_same n m (sym (get_set ns i n l) ∙ sym (ap (slice_get (slice_set ns i n)) s) ∙ e)) k
      | inr s ↦ h q m (sym (get_other ns i q n s) ∙ e)
    ])
