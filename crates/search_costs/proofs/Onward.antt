-- What is left of a search, with more depth and to the cut; it goes forward.
use Rattle.std.proofs.Common.{◌<◌, ◌≤◌, ℕ, zero, suc, ◌+◌, ◌-◌, List, [], ◌∷◌, All, arith}
use Rattle.std.proofs.Common.{None}
use Rattle.std.specs.Prelude.{map, nat_le}
use Rattle.std.proofs.lemmas.List.Elements.{All-head, All-tail}
use Rattle.pat_tree.specs.Nested as tree
use Rattle.pat_tree.specs.Nested.{Nested}
use Rattle.match_items.specs.Items.{one_less}
use Rattle.match_items.specs.Subjects.{IsText}
use Rattle.ordered_search.specs.Stream.{State, by_halt, too_many_units, reached, captured, note, state, step, Stream}
use Rattle.ordered_search.specs.Stream.{ends, ◌▸◌, gives}
use Rattle.ordered_search.specs.Setting.{Setting, hold, held}
use Rattle.ordered_search.specs.Parts.{in_order, is_over}
use Rattle.ordered_search.specs.Run.{run}
use Rattle.ordered_search.proofs.Late.{LateEnd, Late, late_ends, late_gives, late_if, late_and_then}
use Rattle.ordered_search.proofs.CutLaw.{late_run}
use Rattle.ordered_search.proofs.ForwardStreams.{IsOnWay, Forward, forward_gives, forward_hold, forward_if}
use Rattle.ordered_search.proofs.ForwardStreams.{with_capture}
use Rattle.ordered_search.proofs.ForwardSearch.{forward_run}
use Rattle.search_costs.specs.Tasks.{Task, part, closing, turning, task_search, onward, IsBegun, IsDeeper}
use Rattle.search_costs.proofs.DeeperStreams.{IsExtended, extends_same, extends_if}
use Rattle.search_costs.proofs.DeeperSearch.{AreExtended, extends_in_order, extends_run}

-- with this depth
abbrev pub deepened : ℕ → Task → Task
deepened n (part d t) = part n t
deepened n (closing k from) = closing k from
deepened n (turning d body low high lazily began) = turning n body low high lazily began

abbrev pub all_deepened : ℕ → List Task → List Task
all_deepened n left = map (deepened n) left

abbrev depth_of : Task → ℕ
depth_of (part d t) = d
depth_of (closing k from) = 0
depth_of (turning d body low high lazily began) = d

-- a depth that none of them passes
abbrev pub deepest : List Task → ℕ
deepest [] = 0
deepest (a ∷ left) = depth_of a + deepest left

late_before : (n m : ℕ) (x : Stream) → n ≤ m → Late m x → Late n x
unfolding Late LateEnd
late_before zero m (ends e) le h = tt
late_before (suc n) zero (ends e) le h = absurd (omega arith)
late_before (suc n) (suc m) (ends e) le h = h
late_before n m (note k ▸ x) le h = late_before n m x le h
late_before n m (state how s ▸ x) le h = late_before n m x le h
late_before zero m (step ▸ x) le h = tt
late_before (suc n) zero (step ▸ x) le h = absurd (omega arith)
late_before (suc n) (suc m) (step ▸ x) le h = late_before n m x (omega arith) h

module _ (g : Setting) where
  extends_task : (n : ℕ) (a : Task) → depth_of a ≤ n → IsExtended (task_search g a) (task_search g (deepened n a))
  unfolding task_search
  extends_task n (part d t) le s = extends_run g d n t le s
  extends_task n (closing k from) le s = extends_same _
  extends_task n (turning d body low high lazily began) le s =
      extends_if (is_over low high began s) (extends_same (gives reached s))
      (extends_run g d n (tree.repeat body (low - 1) (one_less high) lazily) le s)

  extends_tasks : (n : ℕ) (left : List Task) → deepest left ≤ n
      → AreExtended (map (task_search g) left) (map (task_search g) (all_deepened n left))
  extends_tasks n [] le = tt
  extends_tasks n (a ∷ left) le = (extends_task n a (omega (arith, le)), extends_tasks n left (omega (arith, le)))

  pub extends_onward : (n : ℕ) (left : List Task) → deepest left ≤ n
      → IsExtended (onward g left) (onward g (all_deepened n left))
  extends_onward n left le = extends_in_order _ _ (extends_tasks n left le)

  -- To the cut.

  late_deep : (n d : ℕ) (t : Nested) → n < d → (s : State) → Late (suc n) (run g d t s)
  late_deep n d t deep s = late_before (suc n) d (run g d t s) (omega arith) (late_run g d t s)

  late_closing : (n k from : ℕ) (s : State) → Late n (task_search g (closing k from) s)
  unfolding task_search hold held
  late_closing n k from s =
      late_if n (nat_le (s.units + 1) g.matching.frame_limit) _ _ (late_gives n reached _)
      (late_ends n (by_halt too_many_units) (λ e. cc))

  late_task : (n : ℕ) (a : Task) → IsDeeper n a → (s : State) → Late (suc n) (task_search g a s)
  unfolding task_search
  late_task n (part d t) deep s = late_deep n d t deep s
  late_task n (closing k from) deep s = late_closing (suc n) k from s
  late_task n (turning d body low high lazily began) deep s =
      late_if (suc n) (is_over low high began s) _ _ (late_gives (suc n) reached s)
      (late_deep n d (tree.repeat body (low - 1) (one_less high) lazily) deep s)

  pub late_onward : (n : ℕ) (left : List Task) → All (IsDeeper n) left → (s : State) → Late (suc n) (onward g left s)
  unfolding in_order
  late_onward n [] deep s = late_gives (suc n) reached s
  late_onward n (a ∷ left) deep s =
      late_and_then (suc n) _ _ (late_task n a (All-head (IsDeeper n) a left deep) s)
      (late_onward n left (All-tail (IsDeeper n) a left deep))

  -- Forward.

  pub forward_task : IsText g.options g.subject → (a : Task) (s : State) → IsBegun s.place a → IsOnWay g None s
      → Forward g None s.place (task_search g a s)
  unfolding task_search
  forward_task text (part d t) s begun on = forward_run g text d None t s on
  forward_task text (closing k from) s begun on =
      forward_hold g None s.place (captured k from s) (omega arith) (with_capture g None s k from begun on)
  forward_task text (turning d body low high lazily began) s begun on =
      forward_if g None s.place (is_over low high began s) _ _ (forward_gives g None s.place s (omega arith) on)
      (forward_run g text d None (tree.repeat body (low - 1) (one_less high) lazily) s on)
