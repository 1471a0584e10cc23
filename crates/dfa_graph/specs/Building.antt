-- The building of a graph, task by task.
use Rattle.std.specs.Prelude.{◌≡◌, ℕ, zero, suc, ◌+◌, ◌-◌, ◌<◌, ◌≤◌, Bool, true, false, List, [], ◌∷◌, ◌++◌, map}
use Rattle.std.specs.Prelude.{drop, length, Option, Some, None, ◌==◌, slice_get, slice_set, slice_index_or}
use Rattle.std.specs.Prelude.{option_map}
use Rattle.std.specs.Prelude as list
use Rattle.pat_tree.specs.declared.nodes.Placed as placed
use Rattle.pat_tree.specs.declared.nodes.Node as parts
use Rattle.pat_tree.specs.declared.nodes.Node.TheVariants as part
use Rattle.pat_tree.specs.declared.nodes.Verb.{Verb}
use Rattle.pat_tree.specs.declared.nodes.Verb.TheVariants.{Fail}
use Rattle.pat_tree.specs.Rules.{kids_of, asserted_by, classes_of, IsOrdered, is_test}
use Rattle.pat_tree.specs.Nested as tree
use Rattle.pat_tree.specs.Nested.{Nested, Row, row, tree_at, nest, trees, test_of, other_of}
use Rattle.pat_tree.specs.declared.nodes.Cond.{Cond}
use Rattle.pat_tree.specs.declared.nodes.Cond.TheVariants as cond
use Rattle.pat_lengths.specs.Backs.{back_at}
use Rattle.pat_lengths.specs.declared.backs.Back.{Back}
use Rattle.dfa_paths.specs.declared.graph.Node.{Node}
use Rattle.dfa_paths.specs.declared.graph.Node.TheVariants.{One, Break, Anchor, Split, Goto, Look, Atomic, Dead}
use Rattle.dfa_graph.specs.declared.build.Work.{Work}
use Rattle.dfa_graph.specs.declared.build.Work.TheVariants as work
use Rattle.dfa_graph.specs.declared.build.Work.TheVariants.{All, Any, Turn, Ask, Behind}
use Rattle.dfa_graph.specs.declared.build.Task.{Task}
use Rattle.dfa_graph.specs.declared.build.Step.{Step}
use Rattle.dfa_graph.specs.declared.build.Step.TheVariants.{Refuse, Write, Hand, Chain, Loop, Fork, Skip, Keep}
use Rattle.dfa_graph.specs.declared.build.Step.TheVariants.{Assert, Choose, Seek, Decide, Reach}
use Rattle.dfa_paths.specs.Fragment as fragment
use Rattle.dfa_paths.specs.Fragment.{Part, IsNode, Placed, AllPlaced, AnyPlaced, BehindPlaced, TestPlaced, OtherPlaced}

-- the part of a work
abbrev pub part_of : Work → ℕ
part_of (work.Part p) = p
part_of (All p from) = p
part_of (Any p from) = p
part_of (Turn p) = p
part_of (work.Turns p low high) = p
part_of (Ask p yes' no') = p
part_of (Behind p from) = p

-- a minimum is at most its maximum
abbrev pub IsRange : ℕ → Option ℕ → Type 0
IsRange low None = Unit {0}
IsRange low (Some high) = low ≤ high

abbrev pub IsTurnRange : Work → Type 0
IsTurnRange (work.Turns p low high) = IsRange low high
IsTurnRange _ = Unit {0}

-- the parts of a sequence, the branches of a group
abbrev pub ids_of : parts.Node → List ℕ
ids_of (part.Seq kids) = kids
ids_of (part.Group number branches) = branches
ids_of (part.Atomic branches) = branches
ids_of (part.Look ahead positive once branches) = branches
ids_of _ = []

abbrev pub second_step : ℕ → Option ℕ → Step
second_step next None = Write (Goto next)
second_step next (Some q) = Hand (work.Part q)

-- a condition: it is false, or a lookaround decides
abbrev pub cond_step : ℕ → Cond → ℕ → Option ℕ → Step
cond_step next cond.Never yes' no' = second_step next no'
cond_step next cond.InCall yes' no' = second_step next no'
cond_step next (cond.Assert k) yes' no' = Hand (Ask k yes' no')
cond_step next _ yes' no' = Refuse

-- a step that nests something, if so many levels may be nested
abbrev pub nested_step : ℕ → Step → Step
nested_step zero s = Refuse
nested_step (suc d) s = s

abbrev pub ask_second : Option ℕ → ℕ → Option ℕ → Step
ask_second None yes' no' = Refuse
ask_second (Some k) yes' no' = Hand (Ask k yes' no')

-- a condition on a lookaround, before which a callout may stand
abbrev pub ask_step : ℕ → ℕ → Option ℕ → ℕ → parts.Node → Step
ask_step p yes' no' d (part.Look true positive once branches) =
    nested_step d (Choose (Any p 0) positive (work.Part yes') (option_map work.Part no'))
ask_step p yes' no' d (part.Look false positive once branches) =
    nested_step d (Decide (Behind p 0) positive (work.Part yes') (option_map work.Part no'))
ask_step p yes' no' d (part.Seq kids) = ask_second (slice_get kids 1) yes' no'
ask_step p yes' no' d _ = Refuse

abbrev pub verb_step : Verb → Step
verb_step (Fail name) = Write Dead
verb_step _ = Refuse

-- a lookaround
abbrev pub look_step : ℕ → Bool → Bool → Step
look_step p true positive = Assert (Any p 0) positive
look_step p false positive = Seek (Behind p 0) positive

-- so many levels may be nested in the part
abbrev pub part_step : ℕ → ℕ → ℕ → parts.Node → Step
part_step p d next part.Empty = Write (Goto next)
part_step p d next (part.One item) = Write (One item next)
part_step p d next part.Break = Write (Break next)
part_step p d next (part.Seq kids) = Hand (All p 0)
part_step p d next (part.Group number branches) = Hand (Any p 0)
part_step p d next (part.Repeat body min max lazy) = Hand (work.Turns p min max)
part_step p d next (part.OneRepeat item min max lazy) = Hand (work.Turns p min max)
part_step p d next (part.Atomic branches) = nested_step d (Keep (Any p 0))
part_step p d next (part.Look ahead positive once branches) =
    nested_step d (look_step p ahead positive)
part_step p d next (part.Cond test yes' no') = cond_step next test yes' no'
part_step p d next (part.Anchor kind) = Write (Anchor kind next)
part_step p d next (part.VerbNode v) = verb_step v
part_step p d next (part.Callout number from to at len) = Write (Goto next)
part_step p d next _ = Refuse

abbrev pub one_less : Option ℕ → Option ℕ
one_less = option_map (λ n. n - 1)

-- the parts of a sequence from one on
abbrev pub all_step : ℕ → ℕ → ℕ → Option ℕ → Step
all_step p from next None = Write (Goto next)
all_step p from next (Some k) = Chain (work.Part k) (All p (from + 1))

-- the branches of a group from one on, and whether it is the last
abbrev pub any_step : ℕ → ℕ → Option ℕ → Bool → Step
any_step p from None last = Write Dead
any_step p from (Some k) true = Hand (work.Part k)
any_step p from (Some k) false = Fork (work.Part k) (Any p (from + 1))

-- the branches of a lookbehind from one on: each is tried so far back, and where none has an end,
-- the state before the next follows
abbrev pub behind_step : List Back → ℕ → ℕ → ℕ → Option ℕ → Step
behind_step backs p from next None = Write (Goto (next - 1))
behind_step backs p from next (Some k) =
    Reach (back_at backs k) (work.Part k) (Behind p (from + 1))

abbrev pub turn_step : ℕ → parts.Node → Step
turn_step next (part.Repeat body min max lazy) = Hand (work.Part body)
turn_step next (part.OneRepeat item min max lazy) = Write (One item next)
turn_step next _ = Refuse

abbrev pub turns_step : ℕ → ℕ → ℕ → Option ℕ → Step
turns_step p next (suc low) high = Chain (Turn p) (work.Turns p low (one_less high))
turns_step p next zero None = Loop (Turn p)
turns_step p next zero (Some zero) = Write (Goto next)
turns_step p next zero (Some (suc high)) = Skip (Turn p) (work.Turns p 0 (Some high))

abbrev pub node_of : List placed.Placed → ℕ → parts.Node
node_of ps p = (slice_index_or ps p (record { node = part.Empty; at = 0 })).node

abbrev pub step_of : List placed.Placed → List Back → Work → ℕ → ℕ → Step
step_of ps backs (work.Part p) d next = part_step p d next (node_of ps p)
step_of ps backs (All p from) d next = all_step p from next (slice_get (ids_of (node_of ps p)) from)
step_of ps backs (Any p from) d next =
    any_step p from (slice_get (ids_of (node_of ps p)) from)
    (from + 1 == length (ids_of (node_of ps p)))
step_of ps backs (Turn p) d next = turn_step next (node_of ps p)
step_of ps backs (work.Turns p low high) d next = turns_step p next low high
step_of ps backs (Ask p yes' no') d next = ask_step p yes' no' d (node_of ps p)
step_of ps backs (Behind p from) d next =
    behind_step backs p from next (slice_get (ids_of (node_of ps p)) from)

-- What a step makes of the states and of the tasks that are left.

-- a lookaround that goes on in the first way where it is true
abbrev pub look_node : ℕ → Bool → ℕ → ℕ → Node
look_node entry true yes' no' = Look None entry yes' no'
look_node entry false yes' no' = Look None entry no' yes'

-- the ways of a lookbehind are two states side by side, of which the second is that of an end:
-- where it goes on if it is true, and where else
abbrev pub so_at : Bool → ℕ → ℕ
so_at true n = n + 1
so_at false n = n

abbrev pub else_at : Bool → ℕ → ℕ
else_at true n = n
else_at false n = n + 1

abbrev pub states_after : Step → Task → List Node → List Node
states_after Refuse t nodes = nodes
states_after (Write n) t nodes = slice_set nodes t.at n
states_after (Hand a) t nodes = nodes
states_after (Chain a b) t nodes = nodes ++ Dead ∷ []
states_after (Loop a) t nodes =
    slice_set (nodes ++ Dead ∷ []) t.at (Split (length nodes) t.next)
states_after (Fork a b) t nodes =
    slice_set (nodes ++ Dead ∷ Dead ∷ []) t.at (Split (length nodes) (length nodes + 1))
states_after (Skip a b) t nodes =
    slice_set (nodes ++ Dead ∷ Dead ∷ []) t.at (Split (length nodes) t.next)
states_after (Keep a) t nodes =
    slice_set (nodes ++ Dead ∷ []) t.at (Atomic (length nodes) t.next)
states_after (Assert a positive) t nodes =
    slice_set (nodes ++ Dead ∷ Dead ∷ []) t.at
    (look_node (length nodes) positive t.next (length nodes + 1))
states_after (Choose a positive b None) t nodes =
    slice_set (nodes ++ Dead ∷ Dead ∷ []) t.at
    (look_node (length nodes) positive (length nodes + 1) t.next)
states_after (Choose a positive b (Some c)) t nodes =
    slice_set (nodes ++ Dead ∷ Dead ∷ Dead ∷ []) t.at
    (look_node (length nodes) positive (length nodes + 1) (length nodes + 2))
states_after (Seek a positive) t nodes =
    slice_set (nodes ++ Dead ∷ Dead ∷ []) (so_at positive (length nodes)) (Goto t.next)
states_after (Decide a positive b None) t nodes =
    slice_set (nodes ++ Dead ∷ Dead ∷ []) (else_at positive (length nodes)) (Goto t.next)
states_after (Decide a positive b (Some c)) t nodes = nodes ++ Dead ∷ Dead ∷ []
states_after (Reach back a b) t nodes =
    slice_set (nodes ++ Dead ∷ Dead ∷ []) t.at
    (Look (Some back) (length nodes) t.next (length nodes + 1))

abbrev pub is_refused : Step → Bool
is_refused Refuse = true
is_refused _ = false

abbrev pub task_in : ℕ → Work → ℕ → ℕ → Task
task_in d w at next = record { work = w; depth = d; at = at; next = next }

abbrev pub tasks_after : Step → Task → ℕ → List Task → List Task
tasks_after Refuse t new ts = ts
tasks_after (Write n) t new ts = ts
tasks_after (Hand a) t new ts = ts ++ task_in t.depth a t.at t.next ∷ []
tasks_after (Chain a b) t new ts =
    ts ++ task_in t.depth a t.at new ∷ task_in t.depth b new t.next ∷ []
tasks_after (Loop a) t new ts = ts ++ task_in t.depth a new t.at ∷ []
tasks_after (Fork a b) t new ts =
    ts ++ task_in t.depth a new t.next ∷ task_in t.depth b (new + 1) t.next ∷ []
tasks_after (Skip a b) t new ts =
    ts ++ task_in t.depth a new (new + 1) ∷ task_in t.depth b (new + 1) t.next ∷ []
tasks_after (Keep a) t new ts = ts ++ task_in (t.depth - 1) a new 1 ∷ []
tasks_after (Assert a positive) t new ts = ts ++ task_in (t.depth - 1) a new 1 ∷ []
tasks_after (Choose a positive b None) t new ts =
    ts ++ task_in t.depth b (new + 1) t.next ∷ task_in (t.depth - 1) a new 1 ∷ []
tasks_after (Choose a positive b (Some c)) t new ts =
    ts ++ task_in t.depth b (new + 1) t.next ∷ task_in t.depth c (new + 2) t.next
    ∷ task_in (t.depth - 1) a new 1 ∷ []
tasks_after (Seek a positive) t new ts = ts ++ task_in t.depth a t.at (new + 1) ∷ []
tasks_after (Decide a positive b None) t new ts =
    ts ++ task_in t.depth b (so_at positive new) t.next
    ∷ task_in t.depth a t.at (new + 1) ∷ []
tasks_after (Decide a positive b (Some c)) t new ts =
    ts ++ task_in t.depth b (so_at positive new) t.next
    ∷ task_in t.depth c (else_at positive new) t.next ∷ task_in t.depth a t.at (new + 1) ∷ []
tasks_after (Reach back a b) t new ts =
    ts ++ task_in t.depth b (new + 1) t.next ∷ task_in (t.depth - 1) a new 1 ∷ []

-- a graph in the making: its states, and the tasks that are left
pub record DraftParts : Type 0 where
  pub nodes : List Node
  pub tasks : List Task

abbrev pub draft_after : Step → Task → DraftParts → DraftParts
draft_after s t d = record {
  nodes = states_after s t d.nodes;
  tasks = tasks_after s t (length d.nodes) d.tasks;
}

-- What the tasks mean.

abbrev pub TurnPlaced : List Node → Nested → ℕ → Part
TurnPlaced final (tree.repeat body low high lazily) d e next = Placed final body d e next
TurnPlaced final (tree.one_repeat item low high lazily) d e next =
    IsNode final (One item next) e
TurnPlaced final _ d e next = ⊥

module _ (ps : List placed.Placed) where
  abbrev pub tree_of : ℕ → Nested
  tree_of p = tree_at (trees ps) p

  abbrev pub row_from : ℕ → ℕ → Row
  row_from p from = row (map (tree_at (trees ps)) (drop from (ids_of (node_of ps p))))

  -- the graph holds what a work places
  abbrev pub WorkPlaced : List Node → Work → ℕ → Part
  WorkPlaced final (work.Part p) d e next = Placed final (tree_of p) d e next
  WorkPlaced final (All p from) d e next = AllPlaced final (row_from p from) d e next
  WorkPlaced final (Any p from) d e next = AnyPlaced final (row_from p from) d e next
  WorkPlaced final (Turn p) d e next = TurnPlaced final (tree_of p) d e next
  WorkPlaced final (work.Turns p low high) d e next =
      fragment.Turns final (TurnPlaced final (tree_of p) d) low high e next
  WorkPlaced final (Ask p yes' no') d e next =
      TestPlaced final (test_of (tree_of p)) d (λ q. Placed final (tree_of yes') d q next)
      (λ q. OtherPlaced final (other_of (trees ps) no') d q next) e
  WorkPlaced final (Behind p from) d e next =
      BehindPlaced final (row_from p from) (d - 1) next (next - 1) e

-- What is known of a part of a finished tree.
pub record IsPart (ps : List placed.Placed) (classes p : ℕ) : Type 0 where
  pub is : nest (trees ps) (node_of ps p) ≡ tree_at (trees ps) p
  pub below : list.All (λ k. k < p) (kids_of (node_of ps p))
  pub classes_in : list.All (λ n. n < classes) (classes_of (node_of ps p))
  pub ordered : IsOrdered (node_of ps p)
  pub tested : list.All (λ k. is_test (tree_at (trees ps) k) ≡ true) (asserted_by (node_of ps p))
