-- What a visit of a state gives.
use Rattle.std.proofs.Common.{◌≡◌, ◌∙◌, ℕ, ◌<◌, ◌≤◌, Bool, true, false, List, [], ◌∷◌, ◌++◌, length}
use Rattle.std.proofs.Common.{Option, Some, None, refl, Result, Ok, Err, sym, ap, subst, inl, inr, arith, eqb-true}
use Rattle.std.specs.Prelude.{◌==◌, IfOk}
use Rattle.match_items.specs.Scene.{Scene}
use Rattle.match_items.specs.Laws.{Stands}
use Rattle.dfa_paths.specs.pat_lengths.declared.backs.Back.{Back}
use Rattle.dfa_ends.specs.Ends.{Among}
use Rattle.dfa_paths.specs.declared.graph.Node.{Node}
use Rattle.dfa_paths.specs.declared.graph.Node.TheVariants.{One, Break, Anchor, Split, Goto, Look, Atomic, Dead, Match}
use Rattle.dfa_lists.specs.declared.lists.Seed.{Seed}
use Rattle.dfa_paths.specs.Graph.{moves, nests, Inner, Furthest, IsFurthest, IsEndBehind, Follows, Leaps}
use Rattle.dfa_lists.specs.Lists.{IsVisited, waiting, way_of, gone_here, gone_later, Waits}
use Rattle.dfa_paths.proofs.Places.{among_one}
use Rattle.dfa_lists.proofs.Closing.{two_moves}
use Rattle.dfa_lists.proofs.Following.{EndsStand, followed_by}
use Rattle.dfa_lists.proofs.Running.{no_seed_more}

-- a state that nests nothing
follows_plain : (g : Scene) (B : Inner) (i : ℕ) (n : Node) (a : ℕ) → nests n ≡ false →
    Follows g B n i a → Among a (moves g n i)
follows_plain g B i (Look back entry yes' no') a e h = cc
follows_plain g B i (Atomic entry next) a e h = cc
follows_plain g B i (One item next) a e h = h
follows_plain g B i (Break next) a e h = h
follows_plain g B i (Anchor kind next) a e h = h
follows_plain g B i (Split x y) a e h = h
follows_plain g B i (Goto next) a e h = h
follows_plain g B i Dead a e h = h
follows_plain g B i Match a e h = h

no_leap : (B : Inner) (n : Node) (i j a : ℕ) → nests n ≡ false → Leaps B n i j a → ⊥
no_leap B (Look back entry yes' no') i j a e h = h
no_leap B (Atomic entry next) i j a e h = cc
no_leap B (One item next) i j a e h = h
no_leap B (Break next) i j a e h = h
no_leap B (Anchor kind next) i j a e h = h
no_leap B (Split x y) i j a e h = h
no_leap B (Goto next) i j a e h = h
no_leap B Dead i j a e h = h
no_leap B Match i j a e h = h

no_state_more : (xs : List ℕ) → xs ≡ xs ++ []
no_state_more [] = refl
no_state_more (x ∷ xs) = ap (λ ys. x ∷ ys) (no_state_more xs)

-- What a visit gives.

pub plain_visit : (g : Scene) (B : Inner) (n : Node) (i : ℕ) (seeds seeds' : List ℕ)
    (later : List Seed) → nests n ≡ false → seeds' ≡ seeds ++ moves g n i →
    length (moves g n i) ≤ 2 →
    IsVisited g B n i (waiting seeds later) (waiting seeds' later)
unfolding Waits
plain_visit g B n i seeds seeds' later plain e few = record {
  more = moves g n i;
  leaps = [];
  seeds_are = e;
  later_are = no_seed_more later;
  each_follows = λ a h. followed_by g B i n a h;
  all_follow = λ a h. follows_plain g B i n a plain h;
  each_leaps = λ a j w. absurd w;
  all_leap = λ a j h l. absurd (no_leap B n i j a plain h);
  few = few;
}

pub plain_node : (n : Node) → ((w : Option Back) (x y z : ℕ) → n ≡ Look w x y z → ⊥) →
    ((x y : ℕ) → n ≡ Atomic x y → ⊥) → nests n ≡ false
plain_node (Look back entry yes' no') f h = absurd (f back entry yes' no' refl)
plain_node (Atomic entry next) f h = absurd (h entry next refl)
plain_node (One item next) f h = refl
plain_node (Break next) f h = refl
plain_node (Anchor kind next) f h = refl
plain_node (Split x y) f h = refl
plain_node (Goto next) f h = refl
plain_node Dead f h = refl
plain_node Match f h = refl

-- as the code answers it
pub plain_visits : {E : Type 0} (r : Result Bool E) (g : Scene) (B : Inner) (n : Node) (i : ℕ)
    (seeds seeds' : List ℕ) (later later' : List Seed) →
    ((w : Option Back) (x y z : ℕ) → n ≡ Look w x y z → ⊥) →
    ((x y : ℕ) → n ≡ Atomic x y → ⊥) → IfOk r (λ _. seeds' ≡ seeds ++ moves g n i) →
    IfOk r (λ _. later' ≡ later) → IfOk r (λ _. IsVisited g B n i (waiting seeds later) (waiting seeds' later'))
plain_visits (Ok x) g B n i seeds seeds' later later' f h e same =
    subst (λ ss. IsVisited g B n i (waiting seeds later) (waiting seeds' ss)) (sym same)
    (plain_visit g B n i seeds seeds' later (plain_node n f h) e (two_moves g i n))
plain_visits (Err x) g B n i seeds seeds' later later' f h e same = tt

pub look_visit : (g : Scene) (B : Inner) (back : Option Back) (entry hit miss i : ℕ) (some : Option ℕ)
    (seeds seeds' : List ℕ) (later : List Seed) → IsEndBehind g B back entry i some →
    seeds' ≡ seeds ++ way_of some hit miss ∷ [] →
    IsVisited g B (Look back entry hit miss) i (waiting seeds later) (waiting seeds' later)
unfolding Among Waits
look_visit g B back entry hit miss i None seeds seeds' later far e = record {
  more = miss ∷ [];
  leaps = [];
  seeds_are = e;
  later_are = no_seed_more later;
  each_follows = λ a h. inr (far, among_one a miss h);
  all_follow = λ a h. (elim h [
    | inl y ↦ absurd (far y.0.0 y.0.1 y.0.2 y.0.3)
    | inr y ↦ inl y.1
  ]);
  each_leaps = λ a j w. absurd w;
  all_leap = λ a j h l. absurd h;
  few = omega arith;
}
look_visit g B back entry hit miss i (Some k) seeds seeds' later far e = record {
  more = hit ∷ [];
  leaps = [];
  seeds_are = e;
  later_are = no_seed_more later;
  each_follows = λ a h. inl ((far.0, k, far.1, far.2), among_one a hit h);
  all_follow = λ a h. (elim h [
    | inl y ↦ inl y.1
    | inr y ↦ absurd (y.0 far.0 k far.1 far.2)
  ]);
  each_leaps = λ a j w. absurd w;
  all_leap = λ a j h l. absurd h;
  few = omega arith;
}

-- Where a lookaround begins.

-- those of a lookahead begin at the place
from_here : (g : Scene) (B : Inner) (entry i : ℕ) (some : Option ℕ) →
    IsFurthest B entry i some → IsEndBehind g B None entry i some
from_here g B entry i None far = λ p k h y. far k (subst (λ x. B entry x k) h y)
from_here g B entry i (Some j) far = (i, refl, far.0)

pub ends_here : {E : Type 0} (r : Result (Option ℕ) E) (g : Scene) (B : Inner) (entry i : ℕ) →
    IfOk r (IsFurthest B entry i) → IfOk r (IsEndBehind g B None entry i)
ends_here (Ok some) g B entry i far = from_here g B entry i some far
ends_here (Err x) g B entry i far = tt

same_end : (B : Inner) (entry i j k : ℕ) → Furthest B entry i j → Furthest B entry i k → j ≡ k
same_end B entry i j k x y =
    let a = x.1 k y.0 in
    let b = y.1 j x.0 in
    omega (arith, a, b)

pub dead_visit : (g : Scene) (B : Inner) (entry next i : ℕ) (seeds : List ℕ)
    (later : List Seed) → IsFurthest B entry i None →
    IsVisited g B (Atomic entry next) i (waiting seeds later) (waiting seeds later)
unfolding Among Waits
dead_visit g B entry next i seeds later far = record {
  more = [];
  leaps = [];
  seeds_are = no_state_more seeds;
  later_are = no_seed_more later;
  each_follows = λ a h. absurd h;
  all_follow = λ a h. far i h.0.0;
  each_leaps = λ a j w. absurd w;
  all_leap = λ a j h l. far j h.0.0;
  few = omega arith;
}

-- the furthest end is here
pub here_visit : (g : Scene) (B : Inner) (entry next i j : ℕ) (seeds seeds' : List ℕ)
    (later : List Seed) → Furthest B entry i j → j ≡ i → seeds' ≡ seeds ++ next ∷ [] →
    IsVisited g B (Atomic entry next) i (waiting seeds later) (waiting seeds' later)
unfolding Among Waits
here_visit g B entry next i j seeds seeds' later far same e = record {
  more = next ∷ [];
  leaps = [];
  seeds_are = e;
  later_are = no_seed_more later;
  each_follows = λ a h. (subst (λ k. Furthest B entry i k) same far, among_one a next h);
  all_follow = λ a h. inl h.1;
  each_leaps = λ a j w. absurd w;
  all_leap = λ a k h l. (let m = same_end B entry i j k far h.0 in absurd (omega
      (arith, m, l, same)));
  few = omega arith;
}

-- or past the place
pub past_visit : (g : Scene) (B : Inner) (entry next i j : ℕ) (seeds : List ℕ)
    (later later' : List Seed) → Furthest B entry i j → i < j →
    later' ≡ later ++ record { at = j; state = next } ∷ [] →
    IsVisited g B (Atomic entry next) i (waiting seeds later) (waiting seeds later')
unfolding Among Waits
past_visit g B entry next i j seeds later later' far past e = record {
  more = [];
  leaps = record { at = j; state = next } ∷ [];
  seeds_are = no_state_more seeds;
  later_are = e;
  each_follows = λ a h. absurd h;
  all_follow = λ a h. (let m = same_end B entry i j i far h.0 in absurd (omega (arith, m, past)));
  each_leaps = λ a k w. (elim w [
    | inl y ↦ (
      (subst (λ p. Furthest B entry i p) (sym y.1) far, y.0),
      (let same = y.1 in omega (arith, same, past)),
    )
    | inr y ↦ absurd y
  ]);
  all_leap = λ a k h l. inl (h.1, same_end B entry i k j h.0 far);
  few = omega arith;
}

gone_visit : (g : Scene) (B : Inner) (entry next i j : ℕ) (here_is : Bool)
    (seeds seeds' : List ℕ) (later later' : List Seed) → (j == i) ≡ here_is → i ≤ j →
    Furthest B entry i j →
    seeds' ≡ seeds ++ (elim here_is [ true ↦ next ∷ [] | false ↦ [] ]) →
    later' ≡ later ++ (elim here_is [
      | true ↦ []
      | false ↦ record { at = j; state = next } ∷ []
    ]) →
    IsVisited g B (Atomic entry next) i (waiting seeds later) (waiting seeds' later')
gone_visit g B entry next i j true seeds seeds' later later' same l far es el =
    subst (λ ss. IsVisited g B (Atomic entry next) i (waiting seeds later) (waiting seeds' ss))
    (no_seed_more later ∙ sym el)
    (here_visit g B entry next i j seeds seeds' later far (eqb-true j i same) es)
gone_visit g B entry next i j false seeds seeds' later later' same l far es el =
    subst (λ xs. IsVisited g B (Atomic entry next) i (waiting seeds later) (waiting xs later'))
    (no_state_more seeds ∙ sym es)
    (past_visit g B entry next i j seeds later later' far (past_of i j same l) el)
  where
    past_of : (i j : ℕ) → (j == i) ≡ false → i ≤ j → i < j
    past_of i j e l = grind (arith, e, l)

pub atomic_visit : (g : Scene) (B : Inner) (entry next i : ℕ) (some : Option ℕ)
    (seeds seeds' : List ℕ) (later later' : List Seed) → EndsStand g B → Stands g i →
    IsFurthest B entry i some → seeds' ≡ seeds ++ gone_here i some next →
    later' ≡ later ++ gone_later i some next →
    IsVisited g B (Atomic entry next) i (waiting seeds later) (waiting seeds' later')
atomic_visit g B entry next i None seeds seeds' later later' inner stands far es el =
    subst (λ xs. IsVisited g B (Atomic entry next) i (waiting seeds later) (waiting xs later'))
    (no_state_more seeds ∙ sym es)
    (subst (λ ss. IsVisited g B (Atomic entry next) i (waiting seeds later) (waiting seeds ss))
    (no_seed_more later ∙ sym el) (dead_visit g B entry next i seeds later far))
atomic_visit g B entry next i (Some j) seeds seeds' later later' inner stands far es el =
    gone_visit g B entry next i j (j == i) seeds seeds' later later' refl
    (inner entry i j far.0 stands).0 far es el
