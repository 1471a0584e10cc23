-- A task is done as its step says: the tasks that are left then place the whole as well.
use Rattle.std.proofs.Common.{◌≡◌, ◌∙◌, ℕ, ◌+◌, ◌<◌, ◌≤◌, Bool, false, List, [], ◌∷◌, ◌++◌, ◌-◌, length, Some, None}
use Rattle.std.proofs.Common.{refl, sym, ap, subst, inl, inr, arith, length-append, length-set}
use Rattle.std.specs.Prelude.{slice_get, slice_set}
use Rattle.pat_tree.specs.declared.nodes.Placed as placed
use Rattle.pat_lengths.specs.declared.backs.Back.{Back}
use Rattle.dfa_paths.specs.declared.graph.Node.{Node}
use Rattle.dfa_paths.specs.declared.graph.Node.TheVariants.{Split, Goto, Look, Atomic, Dead}
use Rattle.dfa_graph.specs.declared.build.Work.{Work}
use Rattle.dfa_graph.specs.declared.build.Task.{Task}
use Rattle.dfa_graph.specs.declared.build.Step.{Step}
use Rattle.dfa_graph.specs.declared.build.Step.TheVariants as step
use Rattle.dfa_paths.specs.Graph.{IsNodeIn, IsGraph}
use Rattle.dfa_paths.specs.Fragment.{IsNode}
use Rattle.dfa_graph.specs.Building.{part_of, step_of, states_after, so_at, else_at, look_node, task_in, tasks_after}
use Rattle.dfa_graph.specs.Building.{is_refused, WorkPlaced, IsPart}
use Rattle.dfa_paths.proofs.Behind.{AreTold}
use Rattle.dfa_graph.proofs.Steps.{IsWork, IsStep, StepPlaced, step_means}
use Rattle.dfa_graph.proofs.Works.{step_ok}
use Rattle.dfa_graph.proofs.Tasks.{AllTasks, Fills, Apart, all_front, fills_append, get_set, get_other, get_front}
use Rattle.dfa_graph.proofs.Tasks.{AreDead, one_dead, two_dead, three_dead, second_new, either_new, so_in, else_in}
use Rattle.dfa_graph.proofs.Tasks.{ways_apart, look_in, graph_longer, graph_set}
use Rattle.dfa_graph.proofs.Building.{IsInside, Keeps, Building, fills_inside, top_inside, top_work, replaced, written}

module _ (ps : List placed.Placed) (root classes : ℕ) where
  module _ (nodes : List Node) (rest : List Task) (t : Task)
      (h : Building ps root classes nodes (rest ++ t ∷ []))
    where
      module _ (backs : List Back) (told : AreTold ps root backs)
          (ok : IsPart ps classes (part_of t.work)) where
        here : (final : List Node) →
            StepPlaced ps final (step_of ps backs t.work t.depth t.next) t.depth t.at t.next →
            WorkPlaced ps final t.work t.depth t.at t.next
        here final p =
            step_means ps classes backs t.work t.depth t.next root ok
            (top_work ps root classes nodes rest t h) told final t.at p

        -- as many states more, and one written
        grown : (ds : List Node) (n : Node) (q : ℕ) → q < length nodes → (q ≡ t.at → ⊥) →
            slice_get (slice_set (nodes ++ ds) t.at n) q ≡ slice_get nodes q
        grown ds n q l ne = get_other (nodes ++ ds) t.at q n ne ∙ get_front nodes ds q l

        at_len : t.at < length nodes
        at_len = let k = top_inside ps root classes nodes rest t h in k.0

        next_len : t.next < length nodes
        next_len = let k = top_inside ps root classes nodes rest t h in k.1

        wide : (ds : List Node) (n : Node) →
            length (slice_set (nodes ++ ds) t.at n) ≡ length nodes + length ds
        wide ds n = length-set (nodes ++ ds) t.at n ∙ length-append nodes ds

        -- a state is written, and so many are new
        split_kept : (ds : List Node) (n : Node) (us : List Task) (final : List Node) →
            (Fills t.at us → ⊥) →
            Keeps ps root classes (slice_set (nodes ++ ds) t.at n) final (rest ++ us) →
            IsNode final n t.at
        split_kept ds n us final none k =
            let l = at_len in
            let w = wide ds n in
            let m = length-append nodes ds in
            written ps root classes nodes rest t h (slice_set (nodes ++ ds) t.at n) final us n
            (omega (arith, l, w)) none
            (get_set (nodes ++ ds) t.at n (omega (arith, l, m))) k

        split_graph : (ds : List Node) (a b : ℕ) → AreDead ds → a < length nodes + length ds →
            b < length nodes + length ds →
            IsGraph classes (slice_set (nodes ++ ds) t.at (Split a b))
        split_graph ds a b d l m =
            let w = length-append nodes ds in
            let k = at_len in
            graph_set classes (nodes ++ ds) t.at (Split a b) (omega (arith, k, w))
            (graph_longer classes nodes ds d h.graph)
            (omega (arith, l, w), omega (arith, m, w))

        node_graph : (ds : List Node) (n : Node) → AreDead ds →
            IsNodeIn (length nodes + length ds) classes n →
            IsGraph classes (slice_set (nodes ++ ds) t.at n)
        node_graph ds n d k =
            let w = length-append nodes ds in
            let l = at_len in
            graph_set classes (nodes ++ ds) t.at n (omega (arith, l, w))
            (graph_longer classes nodes ds d h.graph)
            (subst (λ m. IsNodeIn m classes n) (sym w) k)

        nothing_more : (ts : List Task) → ts ++ [] ≡ ts
        nothing_more [] = refl
        nothing_more (u ∷ us) = ap (λ vs. u ∷ vs) (nothing_more us)

        write_done : (n : Node) → step_of ps backs t.work t.depth t.next ≡ step.Write n →
            IsNodeIn (length nodes) classes n →
            Building ps root classes (slice_set nodes t.at n) (rest ++ [])
        unfolding AllTasks Fills Apart
        write_done n e k =
            replaced ps root classes nodes rest t h (slice_set nodes t.at n) []
            (let w = length-set nodes t.at n in omega (arith, w))
            (λ q l ne. get_other nodes t.at q n ne) (λ q i. absurd i) tt tt tt
            (graph_set classes nodes t.at n at_len h.graph k)
            (λ final j d. here final (subst (λ s. StepPlaced ps final s t.depth t.at t.next) (sym e)
            (written ps root classes nodes rest t h (slice_set nodes t.at n) final [] n
            (let w = length-set nodes t.at n in let l = at_len in omega (arith, l, w)) (λ i. i)
            (get_set nodes t.at n at_len) j)))

        hand_done : (a : Work) → step_of ps backs t.work t.depth t.next ≡ step.Hand a →
            IsWork ps root a →
            Building ps root classes nodes (rest ++ task_in t.depth a t.at t.next ∷ [])
        unfolding AllTasks Fills Apart
        hand_done a e k =
            replaced ps root classes nodes rest t h nodes (task_in t.depth a t.at t.next ∷ [])
            (omega arith) (λ q l ne. refl)
            (λ q i. elim i [ inl x ↦ inl x | inr y ↦ absurd y ]) (λ i. i, tt)
            (top_inside ps root classes nodes rest t h, tt)
            (k, tt) h.graph
            (λ final j d. here final
            (subst (λ s. StepPlaced ps final s t.depth t.at t.next) (sym e) d.0))

        chain_done : (a b : Work) → step_of ps backs t.work t.depth t.next ≡ step.Chain a b →
            IsWork ps root a →
            IsWork ps root b →
            Building ps root classes (nodes ++ Dead ∷ [])
            (rest ++ task_in t.depth a t.at (length nodes) ∷ task_in t.depth b
            (length nodes) t.next ∷ [])
        unfolding AllTasks Fills Apart
        chain_done a b e k m =
            let w = length-append nodes (Dead ∷ []) in
            let l = at_len in
            let r = next_len in
            replaced ps root classes nodes rest t h (nodes ++ Dead ∷ [])
            (task_in t.depth a t.at (length nodes) ∷ task_in t.depth b (length nodes) t.next ∷ [])
            (omega (arith, w))
            (λ q l ne. get_front nodes (Dead ∷ []) q l)
            (λ q i. elim i [
              | inl x ↦ inl x
              | inr y ↦ elim y
                  [ inl x ↦ inr (omega (arith, x)) | inr z ↦ absurd z ]
            ])
            (λ i. (elim i [ inl x ↦ omega (arith, l, x) | inr y ↦ y ]), (λ i. i, tt))
            ((omega (arith, l, w), omega (arith, w)), ((omega (arith, w), omega (arith, r, w)), tt))
            (k, (m, tt))
            (graph_longer classes nodes (Dead ∷ []) one_dead h.graph)
            (λ final j d. here final
            (subst (λ s. StepPlaced ps final s t.depth t.at t.next) (sym e)
            (length nodes, d.0, d.1.0)))

        loop_done : (a : Work) → step_of ps backs t.work t.depth t.next ≡ step.Loop a →
            IsWork ps root a →
            Building ps root classes
            (slice_set (nodes ++ Dead ∷ []) t.at (Split (length nodes) t.next))
            (rest ++ task_in t.depth a (length nodes) t.at ∷ [])
        unfolding AllTasks Fills Apart
        loop_done a e k =
            let w = wide (Dead ∷ []) (Split (length nodes) t.next) in
            let l = at_len in
            let r = next_len in
            replaced ps root classes nodes rest t h
            (slice_set (nodes ++ Dead ∷ []) t.at (Split (length nodes) t.next))
            (task_in t.depth a (length nodes) t.at ∷ []) (omega (arith, w))
            (grown (Dead ∷ []) (Split (length nodes) t.next))
            (λ q i. elim i [ inl x ↦ inr (omega (arith, x)) | inr y ↦ absurd y ]) (λ i. i, tt)
            ((omega (arith, w), omega (arith, l, w)), tt) (k, tt)
            (split_graph (Dead ∷ []) (length nodes) t.next one_dead (omega arith)
            (omega (arith, r)))
            (λ final j d. here final
            (subst (λ s. StepPlaced ps final s t.depth t.at t.next) (sym e) (
              length nodes,
              split_kept (Dead ∷ []) (Split (length nodes) t.next)
                  (task_in t.depth a (length nodes) t.at ∷ []) final
                  (λ i. elim i [ inl x ↦ omega (arith, l, x) | inr y ↦ y ]) j,
              d.0,
            )))

        fork_done : (a b : Work) → step_of ps backs t.work t.depth t.next ≡ step.Fork a b →
            IsWork ps root a →
            IsWork ps root b →
            Building ps root classes (slice_set (nodes ++ Dead ∷ Dead ∷ []) t.at
            (Split (length nodes) (length nodes + 1)))
            (rest ++ task_in t.depth a (length nodes) t.next ∷ task_in t.depth b
            (length nodes + 1) t.next ∷ [])
        unfolding AllTasks Fills Apart
        fork_done a b e k m =
            let w = wide (Dead ∷ Dead ∷ []) (Split (length nodes) (length nodes + 1)) in
            let l = at_len in
            let r = next_len in
            replaced ps root classes nodes rest t h (slice_set (nodes ++ Dead ∷ Dead ∷ []) t.at
            (Split (length nodes) (length nodes + 1)))
            (task_in t.depth a (length nodes) t.next ∷ task_in t.depth b
            (length nodes + 1) t.next ∷ []) (omega (arith, w))
            (grown (Dead ∷ Dead ∷ []) (Split (length nodes) (length nodes + 1)))
            (λ q i. elim i [
              | inl x ↦ inr (omega (arith, x))
              | inr y ↦ elim y
                  [ inl x ↦ inr (omega (arith, x)) | inr z ↦ absurd z ]
            ])
            (λ i. (elim i [ inl x ↦ omega (arith, x) | inr y ↦ y ]), (λ i. i, tt))
            ((omega (arith, w), omega (arith, r, w)), ((omega (arith, w), omega (arith, r, w)), tt))
            (k, (m, tt))
            (split_graph (Dead ∷ Dead ∷ []) (length nodes) (length nodes + 1) two_dead (omega arith)
            (omega arith))
            (λ final j d. here final
            (subst (λ s. StepPlaced ps final s t.depth t.at t.next) (sym e) (
              length nodes,
              length nodes + 1,
              split_kept (Dead ∷ Dead ∷ [])
                  (Split (length nodes) (length nodes + 1))
                  (task_in t.depth a (length nodes) t.next ∷ task_in t.depth b
                  (length nodes + 1) t.next ∷ []) final
                  (λ i. elim i [
                    | inl x ↦ omega (arith, l, x)
                    | inr y ↦ elim y
                        [ inl x ↦ omega (arith, l, x) | inr z ↦ z ]
                  ]) j,
              d.0,
              d.1.0,
            )))

        skip_done : (a b : Work) → step_of ps backs t.work t.depth t.next ≡ step.Skip a b →
            IsWork ps root a →
            IsWork ps root b →
            Building ps root classes
            (slice_set (nodes ++ Dead ∷ Dead ∷ []) t.at (Split (length nodes) t.next))
            (rest ++ task_in t.depth a (length nodes) (length nodes + 1) ∷ task_in t.depth b
            (length nodes + 1) t.next ∷ [])
        unfolding AllTasks Fills Apart
        skip_done a b e k m =
            let w = wide (Dead ∷ Dead ∷ []) (Split (length nodes) t.next) in
            let l = at_len in
            let r = next_len in
            replaced ps root classes nodes rest t h
            (slice_set (nodes ++ Dead ∷ Dead ∷ []) t.at (Split (length nodes) t.next))
            (task_in t.depth a (length nodes) (length nodes + 1) ∷ task_in t.depth b
            (length nodes + 1) t.next ∷ [])
            (omega (arith, w))
            (grown (Dead ∷ Dead ∷ []) (Split (length nodes) t.next))
            (λ q i. elim i [
              | inl x ↦ inr (omega (arith, x))
              | inr y ↦ elim y
                  [ inl x ↦ inr (omega (arith, x)) | inr z ↦ absurd z ]
            ])
            (λ i. (elim i [ inl x ↦ omega (arith, x) | inr y ↦ y ]), (λ i. i, tt))
            ((omega (arith, w), omega (arith, w)), ((omega (arith, w), omega (arith, r, w)), tt))
            (k, (m, tt))
            (split_graph (Dead ∷ Dead ∷ []) (length nodes) t.next two_dead (omega arith)
            (omega (arith, r)))
            (λ final j d. here final
            (subst (λ s. StepPlaced ps final s t.depth t.at t.next) (sym e) (
              length nodes,
              length nodes + 1,
              split_kept (Dead ∷ Dead ∷ [])
                  (Split (length nodes) t.next)
                  (task_in t.depth a (length nodes) (length nodes + 1) ∷ task_in t.depth b
                  (length nodes + 1) t.next ∷ []) final
                  (λ i. elim i [
                    | inl x ↦ omega (arith, l, x)
                    | inr y ↦ elim y
                        [ inl x ↦ omega (arith, l, x) | inr z ↦ z ]
                  ]) j,
              d.0,
              d.1.0,
            )))

        keep_done : (a : Work) → step_of ps backs t.work t.depth t.next ≡ step.Keep a →
            IsWork ps root a →
            Building ps root classes
            (slice_set (nodes ++ Dead ∷ []) t.at (Atomic (length nodes) t.next))
            (rest ++ task_in (t.depth - 1) a (length nodes) 1 ∷ [])
        unfolding AllTasks Fills Apart
        keep_done a e k =
            let w = wide (Dead ∷ []) (Atomic (length nodes) t.next) in
            let l = at_len in
            let r = next_len in
            let some = h.some in
            replaced ps root classes nodes rest t h
            (slice_set (nodes ++ Dead ∷ []) t.at (Atomic (length nodes) t.next))
            (task_in (t.depth - 1) a (length nodes) 1 ∷ []) (omega (arith, w))
            (grown (Dead ∷ []) (Atomic (length nodes) t.next))
            (λ q i. elim i [ inl x ↦ inr (omega (arith, x)) | inr y ↦ absurd y ]) (λ i. i, tt)
            ((omega (arith, w), omega (arith, some, w)), tt) (k, tt)
            (node_graph (Dead ∷ []) (Atomic (length nodes) t.next) one_dead
            (omega arith, omega (arith, r)))
            (λ final j d. here final
            (subst (λ s. StepPlaced ps final s t.depth t.at t.next) (sym e) (
              length nodes,
              split_kept (Dead ∷ []) (Atomic (length nodes) t.next)
                  (task_in (t.depth - 1) a (length nodes) 1 ∷ []) final
                  (λ i. elim i [ inl x ↦ omega (arith, l, x) | inr y ↦ y ]) j,
              d.0,
            )))

        -- a state that no task fills stays as it is
        unwritten : (n : Node) (us : List Task) (final : List Node) →
            (Fills (length nodes + 1) us → ⊥) →
            Keeps ps root classes (slice_set (nodes ++ Dead ∷ Dead ∷ []) t.at n) final
            (rest ++ us) →
            IsNode final Dead (length nodes + 1)
        unwritten n us final none k =
            let l = at_len in
            let w = wide (Dead ∷ Dead ∷ []) n in
            k (length nodes + 1) (omega (arith, w))
            (λ i. elim (fills_append (length nodes + 1) rest us i) [
              | inl a ↦
                  let m = fills_inside ps root classes (length nodes) (length nodes + 1) rest
                  (all_front (IsInside (length nodes)) rest (t ∷ []) h.inside) a in
                  omega (arith, m)
              | inr b ↦ none b
            ])
            ∙ get_other (nodes ++ Dead ∷ Dead ∷ []) t.at (length nodes + 1) n
            (λ e. omega (arith, e, l))
            ∙ second_new nodes (length nodes + 1) refl

        assert_done : (a : Work) (positive : Bool) →
            step_of ps backs t.work t.depth t.next ≡ step.Assert a positive → IsWork ps root a →
            Building ps root classes (slice_set (nodes ++ Dead ∷ Dead ∷ []) t.at
            (look_node (length nodes) positive t.next (length nodes + 1)))
            (rest ++ task_in (t.depth - 1) a (length nodes) 1 ∷ [])
        unfolding AllTasks Fills Apart
        assert_done a positive e k =
            let n = look_node (length nodes) positive t.next (length nodes + 1) in
            let w = wide (Dead ∷ Dead ∷ []) n in
            let l = at_len in
            let r = next_len in
            let some = h.some in
            replaced ps root classes nodes rest t h (slice_set (nodes ++ Dead ∷ Dead ∷ []) t.at n)
            (task_in (t.depth - 1) a (length nodes) 1 ∷ []) (omega (arith, w))
            (grown (Dead ∷ Dead ∷ []) n)
            (λ q i. elim i [ inl x ↦ inr (omega (arith, x)) | inr y ↦ absurd y ]) (λ i. i, tt)
            ((omega (arith, w), omega (arith, some, w)), tt) (k, tt)
            (node_graph (Dead ∷ Dead ∷ []) n two_dead
            (look_in (length nodes + 2) classes (length nodes) t.next (length nodes + 1) positive
            (omega arith) (omega (arith, r)) (omega arith)))
            (λ final j d. here final
            (subst (λ s. StepPlaced ps final s t.depth t.at t.next) (sym e) (
              length nodes,
              length nodes + 1,
              split_kept (Dead ∷ Dead ∷ []) n
                  (task_in (t.depth - 1) a (length nodes) 1 ∷ []) final
                  (λ i. elim i [ inl x ↦ omega (arith, l, x) | inr y ↦ y ]) j,
              unwritten n (task_in (t.depth - 1) a (length nodes) 1 ∷ []) final
                  (λ i. elim i [ inl x ↦ omega (arith, x) | inr y ↦ y ]) j,
              d.0,
            )))

        -- a state is written that asks nested paths, those of a, and goes on to b
        asked : (n : Node) (a b : Work) → IsWork ps root a → IsWork ps root b →
            IsNodeIn (length nodes + 2) classes n →
            ((final : List Node) → IsNode final n t.at →
            WorkPlaced ps final a (t.depth - 1) (length nodes) 1 →
            WorkPlaced ps final b t.depth (length nodes + 1) t.next →
            StepPlaced ps final (step_of ps backs t.work t.depth t.next) t.depth t.at t.next) →
            Building ps root classes (slice_set (nodes ++ Dead ∷ Dead ∷ []) t.at n)
            (rest ++ task_in t.depth b (length nodes + 1) t.next
            ∷ task_in (t.depth - 1) a (length nodes) 1 ∷ [])
        unfolding AllTasks Fills Apart
        asked n a b k m inside placed =
            let w = wide (Dead ∷ Dead ∷ []) n in
            let l = at_len in
            let r = next_len in
            let some = h.some in
            replaced ps root classes nodes rest t h (slice_set (nodes ++ Dead ∷ Dead ∷ []) t.at n)
            (task_in t.depth b (length nodes + 1) t.next
            ∷ task_in (t.depth - 1) a (length nodes) 1 ∷ []) (omega (arith, w))
            (grown (Dead ∷ Dead ∷ []) n)
            (λ q i. elim i [
              | inl x ↦ inr (omega (arith, x))
              | inr y ↦ elim y [ inl x ↦ inr (omega (arith, x)) | inr z ↦ absurd z ]
            ])
            (λ i. (elim i [ inl x ↦ omega (arith, x) | inr y ↦ y ]), (λ i. i, tt)) (
              (omega (arith, w), omega (arith, r, w)),
              ((omega (arith, w), omega (arith, some, w)), tt),
            )
            (m, (k, tt))
            (node_graph (Dead ∷ Dead ∷ []) n two_dead inside)
            (λ final j d. here final
            (placed final
            (split_kept (Dead ∷ Dead ∷ []) n
            (task_in t.depth b (length nodes + 1) t.next
            ∷ task_in (t.depth - 1) a (length nodes) 1 ∷ []) final
            (λ i. elim i [
              | inl x ↦ omega (arith, l, x)
              | inr y ↦ elim y [ inl x ↦ omega (arith, l, x) | inr z ↦ z ]
            ]) j) d.1.0 d.0))

        choose_one : (a b : Work) (positive : Bool) →
            step_of ps backs t.work t.depth t.next ≡ step.Choose a positive b None →
            IsWork ps root a →
            IsWork ps root b →
            Building ps root classes (slice_set (nodes ++ Dead ∷ Dead ∷ []) t.at
            (look_node (length nodes) positive (length nodes + 1) t.next))
            (rest ++ task_in t.depth b (length nodes + 1) t.next
            ∷ task_in (t.depth - 1) a (length nodes) 1 ∷ [])
        choose_one a b positive e k m =
            let r = next_len in
            asked (look_node (length nodes) positive (length nodes + 1) t.next) a b k m
            (look_in (length nodes + 2) classes (length nodes) (length nodes + 1) t.next positive
            (omega arith) (omega arith) (omega (arith, r)))
            (λ final n p q.
            subst (λ s. StepPlaced ps final s t.depth t.at t.next) (sym e)
            (length nodes, length nodes + 1, n, p, q))

        choose_two : (a b c : Work) (positive : Bool) →
            step_of ps backs t.work t.depth t.next ≡ step.Choose a positive b (Some c) →
            IsWork ps root a → IsWork ps root b → IsWork ps root c →
            Building ps root classes (slice_set (nodes ++ Dead ∷ Dead ∷ Dead ∷ []) t.at
            (look_node (length nodes) positive (length nodes + 1) (length nodes + 2)))
            (rest ++ task_in t.depth b (length nodes + 1) t.next
            ∷ task_in t.depth c (length nodes + 2) t.next
            ∷ task_in (t.depth - 1) a (length nodes) 1 ∷ [])
        unfolding AllTasks Fills Apart
        choose_two a b c positive e k m o =
            let n = look_node (length nodes) positive (length nodes + 1) (length nodes + 2) in
            let w = wide (Dead ∷ Dead ∷ Dead ∷ []) n in
            let l = at_len in
            let r = next_len in
            let some = h.some in
            replaced ps root classes nodes rest t h
            (slice_set (nodes ++ Dead ∷ Dead ∷ Dead ∷ []) t.at n)
            (task_in t.depth b (length nodes + 1) t.next
            ∷ task_in t.depth c (length nodes + 2) t.next
            ∷ task_in (t.depth - 1) a (length nodes) 1 ∷ []) (omega (arith, w))
            (grown (Dead ∷ Dead ∷ Dead ∷ []) n)
            (λ q i. elim i [
              | inl x ↦ inr (omega (arith, x))
              | inr y ↦ elim y [
                | inl x ↦ inr (omega (arith, x))
                | inr z ↦ elim z [ inl x ↦ inr (omega (arith, x)) | inr u ↦ absurd u ]
              ]
            ]) (
              (λ i. elim i [
                | inl x ↦ omega (arith, x)
                | inr y ↦ elim y [ inl x ↦ omega (arith, x) | inr z ↦ z ]
              ]),
              ((λ i. elim i [ inl x ↦ omega (arith, x) | inr y ↦ y ]), (λ i. i, tt)),
            ) (
              (omega (arith, w), omega (arith, r, w)),
              (
                (omega (arith, w), omega (arith, r, w)),
                ((omega (arith, w), omega (arith, some, w)), tt),
              ),
            )
            (m, (o, (k, tt)))
            (node_graph (Dead ∷ Dead ∷ Dead ∷ []) n three_dead
            (look_in (length nodes + 3) classes (length nodes) (length nodes + 1)
            (length nodes + 2) positive
            (omega arith) (omega arith) (omega arith)))
            (λ final j d. here final
            (subst (λ s. StepPlaced ps final s t.depth t.at t.next) (sym e) (
              length nodes,
              length nodes + 1,
              length nodes + 2,
              split_kept (Dead ∷ Dead ∷ Dead ∷ []) n
                  (task_in t.depth b (length nodes + 1) t.next
                  ∷ task_in t.depth c (length nodes + 2) t.next
                  ∷ task_in (t.depth - 1) a (length nodes) 1 ∷ []) final
                  (λ i. elim i [
                    | inl x ↦ omega (arith, l, x)
                    | inr y ↦ elim y [
                      | inl x ↦ omega (arith, l, x)
                      | inr z ↦ elim z [ inl x ↦ omega (arith, l, x) | inr u ↦ u ]
                    ]
                  ]) j,
              d.1.1.0,
              d.0,
              d.1.0,
            )))

        -- a new state that no task fills stays as it is
        kept_new : (nodes' final : List Node) (us : List Task) (q : ℕ) → length nodes ≤ q →
            q < length nodes' → (Fills q us → ⊥) → Keeps ps root classes nodes' final (rest ++ us) →
            slice_get final q ≡ slice_get nodes' q
        kept_new nodes' final us q l m none k =
            k q m (λ i. elim (fills_append q rest us i) [
              | inl a ↦
                  let b = fills_inside ps root classes (length nodes) q rest
                  (all_front (IsInside (length nodes)) rest (t ∷ []) h.inside) a in
                  omega (arith, b, l)
              | inr b ↦ none b
            ])

        -- two states are new, and one of these is written
        abbrev Wayed : ℕ → List Node
        Wayed q = slice_set (nodes ++ Dead ∷ Dead ∷ []) q (Goto t.next)

        two_wide : length (nodes ++ Dead ∷ Dead ∷ []) ≡ length nodes + 2
        two_wide = length-append nodes (Dead ∷ Dead ∷ [])

        way_wide : (q : ℕ) → length (Wayed q) ≡ length nodes + 2
        way_wide q = length-set (nodes ++ Dead ∷ Dead ∷ []) q (Goto t.next) ∙ two_wide

        way_same : (q p : ℕ) → length nodes ≤ q → p < length nodes → (p ≡ t.at → ⊥) →
            slice_get (Wayed q) p ≡ slice_get nodes p
        way_same q p l m ne =
            get_other (nodes ++ Dead ∷ Dead ∷ []) q p (Goto t.next) (λ e. omega (arith, e, l, m))
            ∙ get_front nodes (Dead ∷ Dead ∷ []) p m

        way_graph : (q : ℕ) → q < length nodes + 2 → IsGraph classes (Wayed q)
        way_graph q m =
            let w = two_wide in
            let r = next_len in
            graph_set classes (nodes ++ Dead ∷ Dead ∷ []) q (Goto t.next) (omega (arith, m, w))
            (graph_longer classes nodes (Dead ∷ Dead ∷ []) two_dead h.graph) (omega (arith, r, w))

        way_kept : (q : ℕ) (final : List Node) (us : List Task) → length nodes ≤ q →
            q < length nodes + 2 → (Fills q us → ⊥) → Keeps ps root classes (Wayed q) final
            (rest ++ us) →
            IsNode final (Goto t.next) q
        way_kept q final us l m none k =
            let w = way_wide q in
            let v = two_wide in
            kept_new (Wayed q) final us q l (omega (arith, m, w)) none k
            ∙ get_set (nodes ++ Dead ∷ Dead ∷ []) q (Goto t.next) (omega (arith, m, v))

        dead_kept : (q p : ℕ) (final : List Node) (us : List Task) → length nodes ≤ p →
            p < length nodes + 2 → (q ≡ p → ⊥) → (Fills p us → ⊥) →
            Keeps ps root classes (Wayed q) final (rest ++ us) → IsNode final Dead p
        dead_kept q p final us l m ne none k =
            let w = way_wide q in
            kept_new (Wayed q) final us p l (omega (arith, m, w)) none k
            ∙ get_other (nodes ++ Dead ∷ Dead ∷ []) q p (Goto t.next) (λ e. ne (sym e))
            ∙ either_new nodes p l m

        seek_done : (a : Work) (positive : Bool) →
            step_of ps backs t.work t.depth t.next ≡ step.Seek a positive → IsWork ps root a →
            Building ps root classes (Wayed (so_at positive (length nodes)))
            (rest ++ task_in t.depth a t.at (length nodes + 1) ∷ [])
        unfolding AllTasks Fills Apart
        seek_done a positive e k =
            let q = so_at positive (length nodes) in
            let p = else_at positive (length nodes) in
            let so = so_in positive (length nodes) in
            let no' = else_in positive (length nodes) in
            let so_low : length nodes ≤ q = so.0 in
            let no_low : length nodes ≤ p = no'.0 in
            let w = way_wide q in
            let l = at_len in
            replaced ps root classes nodes rest t h (Wayed q)
            (task_in t.depth a t.at (length nodes + 1) ∷ []) (omega (arith, w))
            (λ i m ne. way_same q i so_low m ne)
            (λ i j. elim j [ inl x ↦ inl x | inr y ↦ absurd y ]) (λ i. i, tt)
            ((omega (arith, l, w), omega (arith, w)), tt) (k, tt) (way_graph q so.1)
            (λ final j d. here final
            (subst (λ s. StepPlaced ps final s t.depth t.at t.next) (sym e) (
              length nodes,
              way_kept q final (task_in t.depth a t.at (length nodes + 1) ∷ []) so_low so.1
                  (λ i. elim i [ inl x ↦ omega (arith, l, x, so_low) | inr y ↦ y ]) j,
              dead_kept q p final (task_in t.depth a t.at (length nodes + 1) ∷ []) no_low no'.1
                  (ways_apart positive (length nodes))
                  (λ i. elim i [ inl x ↦ omega (arith, l, x, no_low) | inr y ↦ y ]) j,
              d.0,
            )))

        decide_one : (a b : Work) (positive : Bool) →
            step_of ps backs t.work t.depth t.next ≡ step.Decide a positive b None →
            IsWork ps root a → IsWork ps root b →
            Building ps root classes (Wayed (else_at positive (length nodes)))
            (rest ++ task_in t.depth b (so_at positive (length nodes)) t.next
            ∷ task_in t.depth a t.at (length nodes + 1) ∷ [])
        unfolding AllTasks Fills Apart
        decide_one a b positive e k m =
            let q = so_at positive (length nodes) in
            let p = else_at positive (length nodes) in
            let so = so_in positive (length nodes) in
            let no' = else_in positive (length nodes) in
            let so_low : length nodes ≤ q = so.0 in
            let so_high : q < length nodes + 2 = so.1 in
            let no_low : length nodes ≤ p = no'.0 in
            let w = way_wide p in
            let l = at_len in
            let r = next_len in
            let us : List Task = task_in t.depth b q t.next
            ∷ task_in t.depth a t.at (length nodes + 1) ∷ [] in
            replaced ps root classes nodes rest t h (Wayed p) us (omega (arith, w))
            (λ i o ne. way_same p i no_low o ne)
            (λ i j. elim j [
              | inl x ↦ inr (omega (arith, x, so_low))
              | inr y ↦ elim y [ inl x ↦ inl x | inr z ↦ absurd z ]
            ])
            (λ i. (elim i [ inl x ↦ omega (arith, x, l, so_low) | inr y ↦ y ]), (λ i. i, tt)) (
              (omega (arith, so_high, w), omega (arith, r, w)),
              ((omega (arith, l, w), omega (arith, w)), tt),
            )
            (m, (k, tt)) (way_graph p no'.1)
            (λ final j d. here final
            (subst (λ s. StepPlaced ps final s t.depth t.at t.next) (sym e) (
              length nodes,
              d.0,
              way_kept p final us no_low no'.1
                  (λ i. elim i [
                    | inl x ↦ ways_apart positive (length nodes) (sym x)
                    | inr y ↦ elim y [ inl x ↦ omega (arith, l, x, no_low) | inr z ↦ z ]
                  ]) j,
              d.1.0,
            )))

        decide_two : (a b c : Work) (positive : Bool) →
            step_of ps backs t.work t.depth t.next ≡ step.Decide a positive b (Some c) →
            IsWork ps root a → IsWork ps root b → IsWork ps root c →
            Building ps root classes (nodes ++ Dead ∷ Dead ∷ [])
            (rest ++ task_in t.depth b (so_at positive (length nodes)) t.next
            ∷ task_in t.depth c (else_at positive (length nodes)) t.next
            ∷ task_in t.depth a t.at (length nodes + 1) ∷ [])
        unfolding AllTasks Fills Apart
        decide_two a b c positive e k m o =
            let q = so_at positive (length nodes) in
            let p = else_at positive (length nodes) in
            let so = so_in positive (length nodes) in
            let no' = else_in positive (length nodes) in
            let so_low : length nodes ≤ q = so.0 in
            let so_high : q < length nodes + 2 = so.1 in
            let no_low : length nodes ≤ p = no'.0 in
            let no_high : p < length nodes + 2 = no'.1 in
            let w = two_wide in
            let l = at_len in
            let r = next_len in
            let us : List Task = task_in t.depth b q t.next ∷ task_in t.depth c p t.next
            ∷ task_in t.depth a t.at (length nodes + 1) ∷ [] in
            replaced ps root classes nodes rest t h (nodes ++ Dead ∷ Dead ∷ []) us
            (omega (arith, w))
            (λ i u ne. get_front nodes (Dead ∷ Dead ∷ []) i u)
            (λ i j. elim j [
              | inl x ↦ inr (omega (arith, x, so_low))
              | inr y ↦ elim y [
                | inl x ↦ inr (omega (arith, x, no_low))
                | inr z ↦ elim z [ inl x ↦ inl x | inr u ↦ absurd u ]
              ]
            ]) (
              (λ i. elim i [
                | inl x ↦ ways_apart positive (length nodes) x
                | inr y ↦ elim y [ inl x ↦ omega (arith, x, l, so_low) | inr z ↦ z ]
              ]),
              ((λ i. elim i [ inl x ↦ omega (arith, x, l, no_low) | inr y ↦ y ]), (λ i. i, tt)),
            ) (
              (omega (arith, so_high, w), omega (arith, r, w)),
              (
                (omega (arith, no_high, w), omega (arith, r, w)),
                ((omega (arith, l, w), omega (arith, w)), tt),
              ),
            )
            (m, (o, (k, tt)))
            (graph_longer classes nodes (Dead ∷ Dead ∷ []) two_dead h.graph)
            (λ final j d. here final
            (subst (λ s. StepPlaced ps final s t.depth t.at t.next) (sym e)
            (length nodes, d.0, d.1.0, d.1.1.0)))

        reach_done : (back : Back) (a b : Work) →
            step_of ps backs t.work t.depth t.next ≡ step.Reach back a b → IsWork ps root a →
            IsWork ps root b →
            Building ps root classes (slice_set (nodes ++ Dead ∷ Dead ∷ []) t.at
            (Look (Some back) (length nodes) t.next (length nodes + 1)))
            (rest ++ task_in t.depth b (length nodes + 1) t.next
            ∷ task_in (t.depth - 1) a (length nodes) 1 ∷ [])
        reach_done back a b e k m =
            let l = at_len in
            let r = next_len in
            asked (Look (Some back) (length nodes) t.next (length nodes + 1)) a b k m
            (omega arith, omega (arith, r), omega arith)
            (λ final n p q.
            subst (λ s. StepPlaced ps final s t.depth t.at t.next) (sym e)
            (length nodes, length nodes + 1, n, p, q, omega (arith, l)))

        step_done : (s : Step) → step_of ps backs t.work t.depth t.next ≡ s →
            IsStep ps root (length nodes) classes s →
            is_refused s ≡ false →
            Building ps root classes (states_after s t nodes)
            (tasks_after s t (length nodes) rest)
        step_done step.Refuse e k f = cc
        step_done (step.Write n) e k f =
            subst (λ ts. Building ps root classes (slice_set nodes t.at n) ts) (nothing_more rest)
            (write_done n e k)
        step_done (step.Hand a) e k f = hand_done a e k
        step_done (step.Chain a b) e k f = chain_done a b e k.0 k.1
        step_done (step.Loop a) e k f = loop_done a e k
        step_done (step.Fork a b) e k f = fork_done a b e k.0 k.1
        step_done (step.Skip a b) e k f = skip_done a b e k.0 k.1
        step_done (step.Keep a) e k f = keep_done a e k
        step_done (step.Assert a positive) e k f = assert_done a positive e k
        step_done (step.Choose a positive b None) e k f = choose_one a b positive e k.0 k.1
        step_done (step.Choose a positive b (Some c)) e k f =
            choose_two a b c positive e k.0 k.1 k.2
        step_done (step.Seek a positive) e k f = seek_done a positive e k
        step_done (step.Decide a positive b None) e k f = decide_one a b positive e k.0 k.1
        step_done (step.Decide a positive b (Some c)) e k f =
            decide_two a b c positive e k.0 k.1 k.2
        step_done (step.Reach back a b) e k f = reach_done back a b e k.0 k.1

        pub done : is_refused (step_of ps backs t.work t.depth t.next) ≡ false →
            Building ps root classes (states_after (step_of ps backs t.work t.depth t.next) t nodes)
            (tasks_after (step_of ps backs t.work t.depth t.next) t (length nodes) rest)
        done f =
            step_done (step_of ps backs t.work t.depth t.next) refl
            (step_ok ps classes backs t.work t.depth t.next root (length nodes) ok
            (top_work ps root classes nodes rest t h)
            next_len) f

  pub next_step : (backs : List Back) → AreTold ps root backs → (nodes nodes' : List Node)
      (ts rest ts' : List Task) (t : Task) (s : Step) → Building ps root classes nodes ts →
      ts ≡ rest ++ t ∷ [] →
      IsPart ps classes (part_of t.work) → s ≡ step_of ps backs t.work t.depth t.next →
      is_refused s ≡ false → nodes' ≡ states_after s t nodes →
      ts' ≡ tasks_after s t (length nodes) rest → Building ps root classes nodes' ts'
  next_step backs told nodes nodes' ts rest ts' t s h pop ok is f en et =
      subst (λ ns. Building ps root classes ns ts') (sym en)
      (subst (λ us. Building ps root classes (states_after s t nodes) us) (sym et)
      (subst (λ s. Building ps root classes (states_after s t nodes)
      (tasks_after s t (length nodes) rest)) (sym is)
      (done nodes rest t (subst (λ us. Building ps root classes nodes us) pop h) backs told ok
      (ap is_refused (sym is) ∙ f))))
