-- The tasks that are left: whoever does them has placed the whole.
use Rattle.std.proofs.Common.{◌≡◌, ◌∙◌, ℕ, zero, suc, ◌+◌, ◌<◌, ◌≤◌, ◌⊎◌, true, List, [], ◌∷◌, ◌++◌, length, Some}
use Rattle.std.proofs.Common.{None, refl, sym, subst, inl, inr, arith, length-append, length-set}
use Rattle.std.specs.Prelude.{slice_get, slice_set}
use Rattle.pat_tree.specs.declared.nodes.Placed as placed
use Rattle.dfa_paths.specs.declared.graph.Node.{Node}
use Rattle.dfa_paths.specs.declared.graph.Node.TheVariants.{Dead, Match}
use Rattle.dfa_graph.specs.declared.build.Work.TheVariants as work
use Rattle.dfa_graph.specs.declared.build.Task.{Task}
use Rattle.dfa_graph.specs.declared.build.Step.{Step}
use Rattle.dfa_graph.specs.declared.build.Step.TheVariants as step
use Rattle.pat_check.specs.Size.{whole_size}
use Rattle.dfa_paths.specs.Graph.{IsNodeIn, IsGraph, IsFlat, takers}
use Rattle.dfa_paths.specs.Plain.{is_plain}
use Rattle.dfa_paths.specs.Fragment.{IsNode, Placed, AreStatesOf, most_nested}
use Rattle.dfa_graph.specs.Building.{states_after, so_at, else_at, task_in, tree_of, WorkPlaced}
use Rattle.dfa_paths.proofs.Behind.{IsReady}
use Rattle.dfa_paths.proofs.Coming.{node_same}
use Rattle.dfa_graph.proofs.Steps.{IsWork}
use Rattle.dfa_graph.proofs.Tasks.{AllTasks, Fills, Apart, all_append, all_front, all_back, all_wider, fills_append}
use Rattle.dfa_graph.proofs.Tasks.{fills_front, fills_back, apart_append, apart_front, apart_last}

-- The invariant.

abbrev pub IsInside : ℕ → Task → Type 0
IsInside n t = (t.at < n) × (t.next < n)

module _ (ps : List placed.Placed) (root classes : ℕ) where
  abbrev pub Done : List Node → List Task → Type 0
  Done final ts = AllTasks (λ t. WorkPlaced ps final t.work t.depth t.at t.next) ts

  -- the final graph has each state that no task fills
  abbrev pub Keeps : List Node → List Node → List Task → Type 0
  Keeps nodes final ts = (q : ℕ) → q < length nodes → (Fills q ts → ⊥) →
      slice_get final q ≡ slice_get nodes q

  abbrev pub Goal : List Node → Type 0
  Goal final = Placed final (tree_of ps root) most_nested 0 1 × IsNode final Match 1

  pub record Building (nodes : List Node) (ts : List Task) : Type 0 where
    pub apart : Apart ts
    pub inside : AllTasks (IsInside (length nodes)) ts
    pub works : AllTasks (λ t. IsWork ps root t.work) ts
    pub owed : (final : List Node) → Keeps nodes final ts → Done final ts → Goal final
    pub graph : IsGraph classes nodes
    pub some : 2 ≤ length nodes

  pub fills_inside : (n q : ℕ) (ts : List Task) → AllTasks (IsInside n) ts → Fills q ts → q < n
  unfolding AllTasks Fills
  fills_inside n q [] h i = absurd i
  fills_inside n q (t ∷ ts) h i =
      elim i [
        | inl a ↦ let l = h.0.0 in omega (arith, a, l)
        | inr b ↦ fills_inside n q ts h.1 b
      ]

  module _ (nodes : List Node) (rest : List Task) (t : Task) (h : Building nodes (rest ++ t ∷ []))
    where
      pub top_inside : IsInside (length nodes) t
      unfolding AllTasks
      top_inside = (all_back (IsInside (length nodes)) rest (t ∷ []) h.inside).0

      pub top_work : IsWork ps root t.work
      unfolding AllTasks
      top_work = (all_back (λ t. IsWork ps root t.work) rest (t ∷ []) h.works).0

      not_rest : Fills t.at rest → ⊥
      not_rest = apart_last rest t h.apart

      -- a task gives way to others
      pub replaced : (nodes' : List Node) (us : List Task) → length nodes ≤ length nodes' →
          ((q : ℕ) → q < length nodes → (q ≡ t.at → ⊥) → slice_get nodes' q ≡ slice_get nodes q) →
          ((q : ℕ) → Fills q us → (q ≡ t.at) ⊎ (length nodes ≤ q)) → Apart us →
          AllTasks (IsInside (length nodes')) us → AllTasks (λ t. IsWork ps root t.work) us →
          IsGraph classes nodes' →
          ((final : List Node) → Keeps nodes' final (rest ++ us) → Done final us →
          WorkPlaced ps final t.work t.depth t.at t.next) →
          Building nodes' (rest ++ us)
      unfolding Fills AllTasks
      replaced nodes' us l same at_us apart inside works graph means = record {
        apart = apart_append rest us (apart_front rest (t ∷ []) h.apart) apart
            (λ q i j. elim (at_us q j) [
              | inl a ↦ not_rest (subst (λ k. Fills k rest) a i)
              | inr b ↦
                  let k = fills_inside (length nodes) q rest
                  (all_front (IsInside (length nodes)) rest (t ∷ []) h.inside) i in
                  omega (arith, b, k)
            ]);
        inside = all_append (IsInside (length nodes')) rest us
            (all_wider (IsInside (length nodes)) (IsInside (length nodes')) rest
            (λ u i. (omega (arith, i.0, l), omega (arith, i.1, l)))
            (all_front (IsInside (length nodes)) rest (t ∷ []) h.inside)) inside;
        works = all_append (λ t. IsWork ps root t.work) rest us
            (all_front (λ t. IsWork ps root t.work) rest (t ∷ []) h.works) works;
        owed = λ final k d.
            h.owed final
            (λ q m none.
            k q (omega (arith, m, l)) (λ i. elim (fills_append q rest us i) [
              | inl a ↦ none (fills_front q rest (t ∷ []) a)
              | inr b ↦ elim (at_us q b) [
                | inl c ↦ none (fills_back q rest (t ∷ []) (inl c))
                | inr c ↦ omega (arith, c, m)
              ]
            ])
            ∙ same q m (λ e. none (fills_back q rest (t ∷ []) (inl e))))
            (all_append (λ t. WorkPlaced ps final t.work t.depth t.at t.next) rest (t ∷ [])
            (all_front (λ t. WorkPlaced ps final t.work t.depth t.at t.next) rest us d) (
              means final k
                  (all_back (λ t. WorkPlaced ps final t.work t.depth t.at t.next) rest us d),
              tt,
            ));
        graph = graph;
        some = omega (arith, h.some, l);
      }

      -- a state that was written is kept
      pub written : (nodes' final : List Node) (us : List Task) (n : Node) → t.at < length nodes' →
          (Fills t.at us → ⊥) →
          slice_get nodes' t.at ≡ Some n → Keeps nodes' final (rest ++ us) → IsNode final n t.at
      written nodes' final us n l none e k =
          k t.at l (λ i. elim (fills_append t.at rest us i) [ inl a ↦ not_rest a | inr b ↦ none b ])
          ∙ e

  first_states : (q : ℕ) (n : Node) → slice_get (Dead ∷ Match ∷ []) q ≡ Some n →
      IsNodeIn 2 classes n
  first_states zero n e = subst (IsNodeIn 2 classes) (node_same Dead n e) tt
  first_states (suc zero) n e = subst (IsNodeIn 2 classes) (node_same Match n e) tt
  first_states (suc (suc q)) n e = cc

  pub starts : (nodes : List Node) (ts : List Task) → nodes ≡ Dead ∷ Match ∷ [] →
      ts ≡ task_in most_nested (work.Part root) 0 1 ∷ [] → IsReady (tree_of ps root) →
      Building nodes ts
  unfolding AllTasks Fills Apart
  starts nodes ts en et ready =
      subst (λ ns. Building ns ts) (sym en)
      (subst (λ us. Building (Dead ∷ Match ∷ []) us) (sym et) (record {
        apart = (λ i. i, tt);
        inside = ((omega arith, omega arith), tt);
        works = (record { inside = omega arith; range = tt; asked = tt; ready = ready }, tt);
        owed = λ final k d. (
          d.0,
          k 1 (omega arith)
              (λ i. elim i [ inl x ↦ absurd (omega (arith, x)) | inr y ↦ y ]),
        );
        graph = first_states;
        some = omega arith;
      }))

  pub ended : (nodes : List Node) (ts : List Task) → Building nodes ts → ts ≡ [] →
      length nodes ≤ 1048576 → takers nodes ≤ whole_size (tree_of ps root) →
      (is_plain (tree_of ps root) ≡ true → IsFlat nodes) →
      AreStatesOf classes nodes (tree_of ps root)
  unfolding AllTasks Fills
  ended nodes ts h e few bounded plain =
      let goal = (subst (λ us. Building nodes us) e h).owed nodes (λ q l none. refl) tt in
      record {
        placed = goal.0;
        ends = goal.1;
        graph = h.graph;
        some = h.some;
        few = few;
        bounded = bounded;
        plain = plain;
      }

  so_wide : (ds : List Node) (at : ℕ) (n : Node) (nodes : List Node) → length ds ≤ 3 →
      length (slice_set (nodes ++ ds) at n) ≤ length nodes + 3
  so_wide ds at n nodes l =
      let w = length-set (nodes ++ ds) at n ∙ length-append nodes ds in
      omega (arith, w, l)

  -- as the code does a step
  pub popped : (nodes : List Node) (ts rest : List Task) (t : Task) → Building nodes ts →
      ts ≡ rest ++ t ∷ [] →
      IsInside (length nodes) t × IsWork ps root t.work
  popped nodes ts rest t h pop =
      let k = subst (λ us. Building nodes us) pop h in
      (top_inside nodes rest t k, top_work nodes rest t k)

  pub three_more : (s : Step) (t : Task) (nodes : List Node) →
      length (states_after s t nodes) ≤ length nodes + 3
  three_more step.Refuse t nodes = omega arith
  three_more (step.Write n) t nodes = let w = length-set nodes t.at n in omega (arith, w)
  three_more (step.Hand a) t nodes = omega arith
  three_more (step.Chain a b) t nodes = let w = length-append nodes (Dead ∷ []) in
      omega (arith, w)
  three_more (step.Loop a) t nodes = so_wide (Dead ∷ []) t.at _ nodes (omega arith)
  three_more (step.Fork a b) t nodes = so_wide (Dead ∷ Dead ∷ []) t.at _ nodes (omega arith)
  three_more (step.Skip a b) t nodes = so_wide (Dead ∷ Dead ∷ []) t.at _ nodes (omega arith)
  three_more (step.Keep a) t nodes = so_wide (Dead ∷ []) t.at _ nodes (omega arith)
  three_more (step.Assert a positive) t nodes =
      so_wide (Dead ∷ Dead ∷ []) t.at _ nodes (omega arith)
  three_more (step.Choose a positive b None) t nodes =
      so_wide (Dead ∷ Dead ∷ []) t.at _ nodes (omega arith)
  three_more (step.Choose a positive b (Some c)) t nodes =
      so_wide (Dead ∷ Dead ∷ Dead ∷ []) t.at _ nodes (omega arith)
  three_more (step.Seek a positive) t nodes =
      so_wide (Dead ∷ Dead ∷ []) (so_at positive (length nodes)) _ nodes (omega arith)
  three_more (step.Decide a positive b None) t nodes =
      so_wide (Dead ∷ Dead ∷ []) (else_at positive (length nodes)) _ nodes (omega arith)
  three_more (step.Decide a positive b (Some c)) t nodes =
      let w = length-append nodes (Dead ∷ Dead ∷ []) in omega (arith, w)
  three_more (step.Reach back a b) t nodes =
      so_wide (Dead ∷ Dead ∷ []) t.at _ nodes (omega arith)
