-- Tasks and their keys, as a search goes on.
use Rattle.std.proofs.Common.{◌≡◌, ◌∙◌, ◌<◌, ◌≤◌, ℕ, suc, ◌-◌, ◌&&◌, ◌==◌, Bool, true, false, List, [], ◌∷◌, All}
use Rattle.std.proofs.Common.{arith, refl, sym, ap, Option, Some, None}
use Rattle.std.specs.Prelude.{nat_le}
use Rattle.std.proofs.lemmas.Bool.Decides.{nat_tests}
use Rattle.std.proofs.lemmas.List.Elements.{All-nil, All-cons}
use Rattle.pat_tree.specs.Nested as tree
use Rattle.pat_tree.specs.Nested.{Nested, Row, none, more}
use Rattle.ordered_search.specs.Stream.{State, Stream, Search, and_then}
use Rattle.ordered_search.specs.Setting.{Setting}
use Rattle.ordered_search.specs.Parts.{in_order, is_over}
use Rattle.ordered_search.specs.Run.{run, level}
use Rattle.ordered_search.specs.Plain.{ArePlain}
use Rattle.search_costs.specs.Tasks.{Task, part, closing, turning, task_search, onward, Key, keys, IsPlainTask, IsBegun}
use Rattle.search_costs.specs.Tasks.{IsDeeper, key, turning_key}
use Rattle.fail_sites.specs.Left.{Left}
use Rattle.fail_sites.specs.Graph.{parts_then, over_at_once, moved_key, moved}
use Rattle.fail_sites.specs.Stands.{over_at, IsOfKey, of_part, of_closing, of_turning, AreOfKeys, no_task, and_task}
use Rattle.fail_sites.specs.Stands.{IsSearchOf, standing}

-- A search that stands with this left meets what follows from it with that left.
pub record Leads (g : Setting) (l : Left) (n p : ℕ) (f : Search) (s : State) : Type 0 where
  pub search : Search
  pub state : State
  pub of : IsSearchOf g n p l search
  pub is : (u : ℕ) → f (standing p u s) ≡ search (standing p u state)

-- Whether a turn is over.

pub over_is : (low : ℕ) (high : Option ℕ) (began s : State)
    → is_over low high began s ≡ over_at low high began.place s.place
over_is low None began s = refl
over_is low (Some n) began s = refl

and_true : (b : Bool) → (b && true) ≡ b
and_true true = refl
and_true false = refl

same_place : (p : ℕ) → (p == p) ≡ true
same_place p = grind (arith, nat_tests)

pub over_begun : (low : ℕ) (high : Option ℕ) (p : ℕ) → over_at low high p p ≡ over_at_once low high
over_begun low None p = ap (λ b. nat_le low 1 && b) (same_place p) ∙ and_true (nat_le low 1)
over_begun low (Some n) p = refl

other_place : (b : Bool) (q p : ℕ) → q < p → (b && (q == p)) ≡ false
other_place true q p le = grind (arith, nat_tests)
other_place false q p le = refl

pub over_past : (low : ℕ) (high : Option ℕ) (q p : ℕ) → q < p → over_at low high q p ≡ false
over_past low None q p le = other_place (nat_le low 1) q p le
over_past low (Some n) q p le = refl

-- with fewer Steps left
pub fewer_of : (n m p : ℕ) → m ≤ n → {left : List Task} {ks : List Key} → AreOfKeys n p left ks → AreOfKeys m p left ks
fewer_of n m p le no_task = no_task
fewer_of n m p le (and_task h hs) = and_task (one_fewer h) (fewer_of n m p le hs)
  where
    one_fewer : {a : Task} {k : Key} → IsOfKey n p a k → IsOfKey m p a k
    one_fewer (of_part deep plain) = of_part (omega (arith, le, deep)) plain
    one_fewer (of_closing from) = of_closing from
    one_fewer (of_turning deep plain from over) = of_turning (omega (arith, le, deep)) plain from over

-- past a character
pub moved_of : (n p q : ℕ) → p < q → {left : List Task} {ks : List Key} → AreOfKeys n p left ks
    → AreOfKeys n q left (moved ks)
moved_of n p q le no_task = no_task
moved_of n p q le (and_task h hs) = and_task (one_moved h) (moved_of n p q le hs)
  where
    one_moved : {a : Task} {k : Key} → IsOfKey n p a k → IsOfKey n q a (moved_key k)
    one_moved (of_part deep plain) = of_part deep plain
    one_moved (of_closing from) = of_closing (omega (arith, le, from))
    one_moved (of_turning {low = low} {high = high} {began = began} deep plain from over) =
        of_turning deep plain (omega (arith, le, from)) (over_past low high began.place q (omega (arith, le, from)))

-- the parts of a sequence
abbrev pub row_tasks : ℕ → Row → List Task → List Task
row_tasks d none left = left
row_tasks d (more t ts) left = part d t ∷ row_tasks d ts left

pub row_of : (n p d : ℕ) → n < d → (ts : Row) → ArePlain ts → {left : List Task} {ks : List Key} → AreOfKeys n p left ks
    → AreOfKeys n p (row_tasks d ts left) (parts_then ts ks)
row_of n p d deep none plain hs = hs
row_of n p d deep (more t ts) plain hs = and_task (of_part deep plain.0) (row_of n p d deep ts plain.1 hs)

-- As the law of costs has them.

key_is : {n p : ℕ} {a : Task} {k : Key} (s : State) → s.place ≡ p → IsOfKey n p a k → key s a ≡ k
key_is s at (of_part deep plain) = refl
key_is s at (of_closing from) = refl
key_is s at (of_turning {low = low} {body = body} {high = high} {lazily = lazily} {began = began} deep plain from
    over) =
    ap (turning_key body low high lazily)
    (over_is low high began s ∙ ap (over_at low high began.place) at ∙ over)

pub keys_are : {n p : ℕ} {left : List Task} {ks : List Key} (s : State) → s.place ≡ p → AreOfKeys n p left ks
    → keys s left ≡ ks
keys_are s at no_task = refl
keys_are s at (and_task h hs) = let one = key_is s at h in let rest = keys_are s at hs in cc (one, rest)

pub all_plain : {n p : ℕ} {left : List Task} {ks : List Key} → AreOfKeys n p left ks → All IsPlainTask left
all_plain no_task = All-nil IsPlainTask
all_plain (and_task h hs) = All-cons IsPlainTask _ _ (one_plain h) (all_plain hs)
  where
    one_plain : {n p : ℕ} {a : Task} {k : Key} → IsOfKey n p a k → IsPlainTask a
    one_plain (of_part deep plain) = plain
    one_plain (of_closing from) = tt
    one_plain (of_turning deep plain from over) = plain

pub all_begun : {n p : ℕ} {left : List Task} {ks : List Key} → AreOfKeys n p left ks → All (IsBegun p) left
all_begun {p = p} no_task = All-nil (IsBegun p)
all_begun {p = p} (and_task h hs) = All-cons (IsBegun p) _ _ (one_begun h) (all_begun hs)
  where
    one_begun : {n p : ℕ} {a : Task} {k : Key} → IsOfKey n p a k → IsBegun p a
    one_begun (of_part deep plain) = tt
    one_begun (of_closing from) = from
    one_begun (of_turning deep plain from over) = from

pub all_deep : {n p : ℕ} {left : List Task} {ks : List Key} → AreOfKeys n p left ks → All (IsDeeper n) left
all_deep {n = n} no_task = All-nil (IsDeeper n)
all_deep {n = n} (and_task h hs) = All-cons (IsDeeper n) _ _ (one_deep h) (all_deep hs)
  where
    one_deep : {n p : ℕ} {a : Task} {k : Key} → IsOfKey n p a k → IsDeeper n a
    one_deep (of_part deep plain) = deep
    one_deep (of_closing from) = tt
    one_deep (of_turning deep plain from over) = deep

-- The first task, and those behind it.
module _ (g : Setting) where
  pub on_part : (d : ℕ) (t : Nested) (left : List Task) (s : State)
      → onward g (part (suc d) t ∷ left) s ≡ and_then (level g (run g d) t s) (onward g left)
  unfolding in_order task_search run
  on_part d t left s = refl

  pub on_task : (a : Task) (left : List Task) (s : State)
      → onward g (a ∷ left) s ≡ and_then (task_search g a s) (onward g left)
  unfolding in_order
  on_task a left s = refl
