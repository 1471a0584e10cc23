-- A fragment means its tree.
use Rattle.std.proofs.Common.{◌≡◌, ℕ, zero, suc, true, false, List, Some, refl, sym, subst, inl, inr, arith}
use Rattle.std.specs.Prelude.{slice_get}
use Rattle.pat_tree.specs.declared.nodes.Verb.TheVariants.{Accept, Fail, Commit, Prune, Skip, Then, Mark}
use Rattle.pat_tree.specs.Nested as tree
use Rattle.pat_tree.specs.Nested.{Nested, Row, Test, Other}
use Rattle.match_items.specs.Scene.{Scene}
use Rattle.dfa_paths.specs.Fragment.{Rising}
use Rattle.dfa_ends.specs.ordered_search.Setting.{Setting}
use Rattle.dfa_ends.specs.Ends.{spot, Spot, Way, Among, HasOne, HasNone, AnyEndsBehind, ItemEnds, Ends, AllEnd}
use Rattle.dfa_ends.specs.Ends.{AnyEnds, OtherEnds}
use Rattle.dfa_paths.specs.declared.graph.Node.{Node}
use Rattle.dfa_paths.specs.declared.graph.Node.TheVariants.{One, Split, Match}
use Rattle.dfa_paths.specs.Graph.{matched, moved, Deep}
use Rattle.dfa_paths.specs.Fragment.{Part, most_nested, IsNode, Placed, AllPlaced, AnyPlaced, OtherPlaced}
use Rattle.dfa_paths.specs.Fragment.{BehindPlaced, FragmentLaw, PathLaw, GraphParts, AreEnds}
use Rattle.dfa_paths.proofs.Coming.{IsInner, From, size, Short, longer, at_split, ComeAll, comes_here, item_comes}
use Rattle.dfa_paths.proofs.Coming.{break_comes, anchor_comes, turns_come, dead_short, Asked, more_comes}
use Rattle.dfa_paths.proofs.Coming.{behind_comes_to, behind_comes_not, look_comes, miss_comes, atomic_comes}
use Rattle.dfa_paths.proofs.Coming.{TestInner, test_comes}
use Rattle.dfa_paths.proofs.Going.{GoAll, goes_here, go_here, item_goes, break_goes, anchor_goes, turns_go, ask_goes}
use Rattle.dfa_paths.proofs.Going.{ask_goes_not, more_hits, more_misses, atomic_goes, moved_to, TestGoes, test_goes}
use Rattle.dfa_paths.proofs.Going.{at_end}

-- By the tree: nested paths are those of a smaller one, which lead to other ends.
module _ (g : Setting) (nodes : List Node) (last : slice_get nodes 1 ≡ Some Match) where
  abbrev Come : ℕ → ℕ → Part → Way → Type 0
  Come d end P w = ComeAll g nodes (Deep g.scene nodes d) end P w

  abbrev Go : ℕ → ℕ → Part → Way → Type 0
  Go d end P w = GoAll g nodes (Deep g.scene nodes d) end P w

  abbrev Nested_at : ℕ → Way → ℕ → Type 0
  Nested_at d w entry = IsInner (Deep g.scene nodes d) w entry

  -- nested paths end where a part can end that is placed from their state on
  inner : (d : ℕ) (P : Part) (w : Way) (entry : ℕ) → ((j : ℕ) → Come d j P w) →
      ((j : ℕ) → Go d j P w) → P entry 1 → Nested_at (suc d) w entry
  unfolding Deep
  inner d P w entry come go p = record {
    ends_so = λ x j b. (
        let n = suc (size g nodes (Deep g.scene nodes d) j entry x.place b) in
        let c = come j n entry 1 x p (b, omega arith) in
        let e = at_end g nodes (Deep g.scene nodes d) j 1 c.0.place last c.2.0 in
        (c.0.early, subst (λ k. w x (spot k c.0.early)) e c.1));
    so_ends = λ x y u. go y.place entry 1 x y p u (matched 1 y.place last refl);
  }

  mutual
    unfolding Placed Ends Among

    comes : (d end : ℕ) (t : Nested) → Come d end (Placed nodes t d) (Ends g t)
    comes d end tree.empty n e next x p s =
        (x, refl, comes_here g nodes (Deep g.scene nodes d) end n e next x p s)
    comes d end (tree.one item) n e next x p s =
        item_comes g nodes (Deep g.scene nodes d) end item n e next x p s
    comes d end tree.line_break n e next x p s =
        break_comes g nodes (Deep g.scene nodes d) end n e next x p s
    comes d end (tree.seq ts) n e next x p s = all_come d end ts n e next x p s
    comes d end (tree.group number ts) n e next x p s = any_come d end ts n e next x p s
    comes d end (tree.repeat body low high lazily) n e next x p s =
        turns_come g nodes (Deep g.scene nodes d) end (Placed nodes body d) (Ends g body)
        (comes d end body) low high n e next x p s
    comes d end (tree.one_repeat item low high lazily) n e next x p s =
        turns_come g nodes (Deep g.scene nodes d) end (λ e next. IsNode nodes (One item next) e)
        (ItemEnds g item) (item_comes g nodes (Deep g.scene nodes d) end item) low high n e next x
        p s
    comes zero end (tree.atomic ts) n e next x p s = absurd p
    comes (suc d) end (tree.atomic ts) n e next x p s =
        atomic_comes g nodes (Deep g.scene nodes (suc d)) end (AnyEnds g ts) p.0
        (inner d (AnyPlaced nodes ts d) (AnyEnds g ts) p.0 (λ j. any_come d j ts)
        (λ j. any_go d j ts) p.2) n e next x p.1 s
    comes zero end (tree.look true positive once ts) n e next x p s = absurd p
    comes (suc d) end (tree.look true true once ts) n e next x p s =
        look_comes g nodes (Deep g.scene nodes (suc d)) end (AnyEnds g ts) p.0 p.1
        (inner d (AnyPlaced nodes ts d) (AnyEnds g ts) p.0 (λ j. any_come d j ts)
        (λ j. any_go d j ts) p.4) n e next x p.2 p.3 p.5.0 p.5.1 s
    comes (suc d) end (tree.look true false once ts) n e next x p s =
        miss_comes g nodes (Deep g.scene nodes (suc d)) end (AnyEnds g ts) p.0 p.2
        (inner d (AnyPlaced nodes ts d) (AnyEnds g ts) p.0 (λ j. any_come d j ts)
        (λ j. any_go d j ts) p.4) n e next x p.1 p.3 p.5.0 p.5.1 s
    comes zero end (tree.look false positive once ts) n e next x p s = absurd p
    comes (suc d) end (tree.look false true once ts) n e next x p s =
        behind_comes_to g nodes (Deep g.scene nodes (suc d)) end (AnyEndsBehind g ts x) n next p.0
        p.1 x (behind_come d end ts n p.0 p.1 e x p.2 s) p.3.0 p.3.1
    comes (suc d) end (tree.look false false once ts) n e next x p s =
        behind_comes_not g nodes (Deep g.scene nodes (suc d)) end (AnyEndsBehind g ts x) n next p.0
        p.1 x (behind_come d end ts n p.0 p.1 e x p.2 s) p.3.0 p.3.1
    comes d end (tree.condition test first second) n e next x p s =
        test_comes g nodes (Deep g.scene nodes d) end test d (λ q. Placed nodes first d q next)
        (λ q. OtherPlaced nodes second d q next) (Ends g first) (OtherEnds g second) next
        (test_inner d end test) (λ n e x p s. comes d end first n e next x p s)
        (λ n e x p s. other_comes d end second n e next x p s) n e x p s
    comes d end (tree.call m) n e next x p s = absurd p
    comes d end (tree.ref ns caseless) n e next x p s = absurd p
    comes d end (tree.anchor kind) n e next x p s =
        anchor_comes g nodes (Deep g.scene nodes d) end kind n e next x p s
    comes d end tree.keep_out n e next x p s = absurd p
    comes d end (tree.verb (Fail name)) n e next x p s =
        absurd (dead_short g nodes (Deep g.scene nodes d) end n e x.place p s)
    comes d end (tree.verb (Accept name)) n e next x p s = absurd p
    comes d end (tree.verb (Commit name)) n e next x p s = absurd p
    comes d end (tree.verb (Prune name)) n e next x p s = absurd p
    comes d end (tree.verb (Skip name)) n e next x p s = absurd p
    comes d end (tree.verb (Then name)) n e next x p s = absurd p
    comes d end (tree.verb (Mark name)) n e next x p s = absurd p
    comes d end (tree.callout c) n e next x p s =
        (x, refl, comes_here g nodes (Deep g.scene nodes d) end n e next x p s)

    behind_come : (d end : ℕ) (ts : Row) (n hit miss e : ℕ) (x : Spot) →
        BehindPlaced nodes ts d hit miss e →
        Short g nodes (Deep g.scene nodes (suc d)) end n e x.place →
        Asked g nodes (Deep g.scene nodes (suc d)) end (AnyEndsBehind g ts x) n hit miss x.place
    behind_come d end tree.none n hit miss e x p s =
        inr (
          λ y h. h,
          comes_here g nodes (Deep g.scene nodes (suc d)) end n e miss x (inr p) s,
        )
    behind_come d end (tree.more t ts) n hit miss e x p s =
        more_comes g nodes (Deep g.scene nodes (suc d)) end t ts p.0 p.1 hit p.2 miss p.3
        (inner d (Placed nodes t d) (Ends g t) p.1 (λ j. comes d j t) (λ j. goes d j t) p.5) n e x
        p.4 (λ k r. behind_come d end ts k hit miss p.2 x p.6 r) s

    all_come : (d end : ℕ) (ts : Row) → Come d end (AllPlaced nodes ts d) (AllEnd g ts)
    all_come d end tree.none n e next x p s =
        (x, refl, comes_here g nodes (Deep g.scene nodes d) end n e next x p s)
    all_come d end (tree.more t ts) n e next x p s =
        let r = comes d end t n e p.0 x p.1 s in
        let q = all_come d end ts n p.0 next r.0 p.2 r.2 in
        (q.0, (r.0, r.1, q.1), q.2)

    any_come : (d end : ℕ) (ts : Row) → Come d end (AnyPlaced nodes ts d) (AnyEnds g ts)
    any_come d end tree.none n e next x p s =
        absurd (dead_short g nodes (Deep g.scene nodes d) end n e x.place p s)
    any_come d end (tree.more t ts) zero e next x p s = absurd (omega (arith, s.1))
    any_come d end (tree.more t ts) (suc n) e next x p s =
        elim p [
          | inl u ↦ let r = comes d end t (suc n) e next x u.1 s in (r.0, inl r.1, r.2)
          | inr v ↦
              elim (at_split g nodes (Deep g.scene nodes d) end n e v.0 v.1 x.place v.2 s.0 s.1) [
                | inl a ↦
                    let r = comes d end t n v.0 next x v.3 a in (
                      r.0,
                      inl r.1,
                      longer g nodes (Deep g.scene nodes d) end n (suc n) next r.0.place (omega arith)
                          r.2,
                    )
                | inr b ↦
                    let r = any_come d end ts n v.1 next x v.4 b in (
                      r.0,
                      inr r.1,
                      longer g nodes (Deep g.scene nodes d) end n (suc n) next r.0.place (omega arith)
                          r.2,
                    )
              ]
        ]

    other_comes : (d end : ℕ) (o : Other) → Come d end (OtherPlaced nodes o d) (OtherEnds g o)
    other_comes d end tree.no_other n e next x p s =
        (x, refl, comes_here g nodes (Deep g.scene nodes d) end n e next x p s)
    other_comes d end (tree.other t) n e next x p s = comes d end t n e next x p s

    goes : (d end : ℕ) (t : Nested) → Go d end (Placed nodes t d) (Ends g t)
    goes d end tree.empty e next x y p t f =
        go_here g nodes (Deep g.scene nodes d) end e next x y p t f
    goes d end (tree.one item) e next x y p t f =
        item_goes g nodes (Deep g.scene nodes d) end item e next x y p t f
    goes d end tree.line_break e next x y p t f =
        break_goes g nodes (Deep g.scene nodes d) end e next x y p t f
    goes d end (tree.seq ts) e next x y p t f = all_go d end ts e next x y p t f
    goes d end (tree.group number ts) e next x y p t f = any_go d end ts e next x y p t f
    goes d end (tree.repeat body low high lazily) e next x y p t f =
        turns_go g nodes (Deep g.scene nodes d) end (Placed nodes body d) (Ends g body)
        (goes d end body) low high e next x y p t f
    goes d end (tree.one_repeat item low high lazily) e next x y p t f =
        turns_go g nodes (Deep g.scene nodes d) end (λ e next. IsNode nodes (One item next) e)
        (ItemEnds g item) (item_goes g nodes (Deep g.scene nodes d) end item) low high e next x y p
        t f
    goes zero end (tree.atomic ts) e next x y p t f = absurd p
    goes (suc d) end (tree.atomic ts) e next x y p t f =
        atomic_goes g nodes (Deep g.scene nodes (suc d)) end (AnyEnds g ts) p.0
        (inner d (AnyPlaced nodes ts d) (AnyEnds g ts) p.0 (λ j. any_come d j ts)
        (λ j. any_go d j ts) p.2) e next x y p.1 t f
    goes zero end (tree.look true positive once ts) e next x y p t f = absurd p
    goes (suc d) end (tree.look true true once ts) e next x y p t f =
        ask_goes g nodes (Deep g.scene nodes (suc d)) end (AnyEnds g ts) p.0 p.1 p.2
        (inner d (AnyPlaced nodes ts d) (AnyEnds g ts) p.0 (λ j. any_come d j ts)
        (λ j. any_go d j ts) p.4) e x p.3 t.0
        (moved_to g nodes (Deep g.scene nodes (suc d)) end p.1 next x y p.5.0 t.1 f)
    goes (suc d) end (tree.look true false once ts) e next x y p t f =
        ask_goes_not g nodes (Deep g.scene nodes (suc d)) end (AnyEnds g ts) p.0 p.1 p.2
        (inner d (AnyPlaced nodes ts d) (AnyEnds g ts) p.0 (λ j. any_come d j ts)
        (λ j. any_go d j ts) p.4) e x p.3 t.0
        (moved_to g nodes (Deep g.scene nodes (suc d)) end p.2 next x y p.5.1 t.1 f)
    goes zero end (tree.look false positive once ts) e next x y p t f = absurd p
    goes (suc d) end (tree.look false true once ts) e next x y p t f =
        behind_hits d end ts p.0 p.1 e x p.2 t.0
        (go_here g nodes (Deep g.scene nodes (suc d)) end p.0 next x y p.3.0 t.1 f)
    goes (suc d) end (tree.look false false once ts) e next x y p t f =
        behind_misses d end ts p.0 p.1 e x p.2 t.0
        (go_here g nodes (Deep g.scene nodes (suc d)) end p.1 next x y p.3.1 t.1 f)
    goes d end (tree.condition test first second) e next x y p t f =
        test_goes g nodes (Deep g.scene nodes d) end test d (λ q. Placed nodes first d q next)
        (λ q. OtherPlaced nodes second d q next) (Ends g first) (OtherEnds g second) next
        (test_inner d end test) (test_ways d end test) (λ e x y p t f. goes d end first e next x y p t f)
        (λ e x y p t f. other_goes d end second e next x y p t f) e x y p t f
    goes d end (tree.call m) e next x y p t f = absurd p
    goes d end (tree.ref ns caseless) e next x y p t f = absurd p
    goes d end (tree.anchor kind) e next x y p t f =
        anchor_goes g nodes (Deep g.scene nodes d) end kind e next x y p t f
    goes d end tree.keep_out e next x y p t f = absurd p
    goes d end (tree.verb v) e next x y p t f = absurd t
    goes d end (tree.callout c) e next x y p t f =
        go_here g nodes (Deep g.scene nodes d) end e next x y p t f

    behind_hits : (d end : ℕ) (ts : Row) (hit miss e : ℕ) (x : Spot) →
        BehindPlaced nodes ts d hit miss e → HasOne (AnyEndsBehind g ts x) →
        From g nodes (Deep g.scene nodes (suc d)) end hit x.place →
        From g nodes (Deep g.scene nodes (suc d)) end e x.place
    behind_hits d end tree.none hit miss e x p h f = absurd h.1
    behind_hits d end (tree.more t ts) hit miss e x p h f =
        more_hits g nodes (Deep g.scene nodes (suc d)) end t ts p.0 p.1 hit p.2 p.3
        (inner d (Placed nodes t d) (Ends g t) p.1 (λ j. comes d j t) (λ j. goes d j t) p.5) e x
        p.4 (λ k r. behind_hits d end ts hit miss p.2 x p.6 k r) h f

    behind_misses : (d end : ℕ) (ts : Row) (hit miss e : ℕ) (x : Spot) →
        BehindPlaced nodes ts d hit miss e → HasNone (AnyEndsBehind g ts x) →
        From g nodes (Deep g.scene nodes (suc d)) end miss x.place →
        From g nodes (Deep g.scene nodes (suc d)) end e x.place
    behind_misses d end tree.none hit miss e x p h f =
        goes_here g nodes (Deep g.scene nodes (suc d)) end e miss x.place (inr p) f
    behind_misses d end (tree.more t ts) hit miss e x p h f =
        more_misses g nodes (Deep g.scene nodes (suc d)) end t ts p.0 p.1 hit p.2 p.3
        (inner d (Placed nodes t d) (Ends g t) p.1 (λ j. comes d j t) (λ j. goes d j t) p.5) e x
        p.4 h (behind_misses d end ts hit miss p.2 x p.6 (λ y k. h y (inr k)) f)

    all_go : (d end : ℕ) (ts : Row) → Go d end (AllPlaced nodes ts d) (AllEnd g ts)
    all_go d end tree.none e next x y p t f =
        go_here g nodes (Deep g.scene nodes d) end e next x y p t f
    all_go d end (tree.more u ts) e next x y p t f =
        goes d end u e p.0 x t.0 p.1 t.1 (all_go d end ts p.0 next t.0 y p.2 t.2 f)

    any_go : (d end : ℕ) (ts : Row) → Go d end (AnyPlaced nodes ts d) (AnyEnds g ts)
    any_go d end tree.none e next x y p t f = absurd t
    any_go d end (tree.more u tree.none) e next x y p t f =
        elim p [
          | inl a ↦ elim t [ inl c ↦ goes d end u e next x y a.1 c f | inr d ↦ absurd d ]
          | inr b ↦ elim t [
            | inl c ↦ moved e x.place b.0 (Split b.0 b.1) b.2 (inl refl)
                (goes d end u b.0 next x y b.3 c f)
            | inr d ↦ absurd d
          ]
        ]
    any_go d end (tree.more u (tree.more v ts)) e next x y p t f =
        elim p [
          | inl a ↦ absurd a.0
          | inr b ↦ elim t [
            | inl c ↦ moved e x.place b.0 (Split b.0 b.1) b.2 (inl refl)
                (goes d end u b.0 next x y b.3 c f)
            | inr c ↦ moved e x.place b.1 (Split b.0 b.1) b.2 (inr (inl refl))
                (any_go d end (tree.more v ts) b.1 next x y b.4 c f)
          ]
        ]

    other_goes : (d end : ℕ) (o : Other) → Go d end (OtherPlaced nodes o d) (OtherEnds g o)
    other_goes d end tree.no_other e next x y p t f =
        go_here g nodes (Deep g.scene nodes d) end e next x y p t f
    other_goes d end (tree.other u) e next x y p t f = goes d end u e next x y p t f

    test_inner : (d end : ℕ) (test : Test) →
        TestInner g nodes (Deep g.scene nodes d) end test d
    test_inner zero end (tree.assert true positive once ts) = tt
    test_inner (suc d) end (tree.assert true positive once ts) =
        λ entry p.
        inner d (AnyPlaced nodes ts d) (AnyEnds g ts) entry (λ j. any_come d j ts)
        (λ j. any_go d j ts) p
    test_inner zero end (tree.assert false positive once ts) = tt
    test_inner (suc d) end (tree.assert false positive once ts) =
        λ n hit miss e x p s. behind_come d end ts n hit miss e x p s
    test_inner d end (tree.called c test) = test_inner d end test
    test_inner d end tree.never = tt
    test_inner d end tree.in_call = tt
    test_inner d end (tree.any_set ns) = tt
    test_inner d end (tree.in_call_of ns) = tt

    test_ways : (d end : ℕ) (test : Test) →
        TestGoes g nodes (Deep g.scene nodes d) end test d
    test_ways zero end (tree.assert false positive once ts) = tt
    test_ways (suc d) end (tree.assert false positive once ts) =
        λ hit miss e x p. (
          λ h f. behind_hits d end ts hit miss e x p h f,
          λ h f. behind_misses d end ts hit miss e x p h f,
        )
    test_ways d end (tree.assert true positive once ts) = tt
    test_ways d end (tree.called c test) = test_ways d end test
    test_ways d end tree.never = tt
    test_ways d end tree.in_call = tt
    test_ways d end (tree.any_set ns) = tt
    test_ways d end (tree.in_call_of ns) = tt

pub fragment_law : FragmentLaw
fragment_law g nodes d t e next last p = record {
  goes = λ x y end u f. goes g nodes last d end t e next x y p u f;
  comes = λ x end f. (
      let n = suc (size g nodes (Deep g.scene nodes d) end e x.place f) in
      let c = comes g nodes last d end t n e next x p (f, omega arith) in
      (c.0, c.1, c.2.0));
}

pub path_law : PathLaw
unfolding Deep
path_law g classes nodes t h p q = (
  λ a. (
      let m = fragment_law g nodes most_nested t 0 1 h.ends h.placed in
      let c = m.comes (spot p p) q a in
      let e = at_end g nodes (Deep g.scene nodes most_nested) q 1 c.0.place h.ends c.2 in
      (c.0.early, subst (λ k. Ends g t (spot p p) (spot k c.0.early)) e c.1)),
  λ i. (fragment_law g nodes most_nested t 0 1 h.ends h.placed).goes (spot p p) (spot q i.0) q i.1
      (matched 1 q h.ends refl),
)

-- where the states' paths end
abbrev pub Reached : Scene → List Node → ℕ → ℕ → Type 0
Reached scene nodes place end = Deep scene nodes (suc most_nested) 0 place end

pub ends_are : (scene : Scene) (graph : GraphParts) (place : ℕ) (found : List ℕ) →
    ((end : ℕ) → Among end found → Reached scene graph.nodes place end) →
    ((end : ℕ) → Reached scene graph.nodes place end → Among end found) → Rising found →
    AreEnds scene graph place found
ends_are scene graph place found sound full r = record {
  each_is_an_end = λ classes t h g e end a.
      (path_law g classes graph.nodes t h.states place end).0
      (subst (λ s. Reached s graph.nodes place end) (sym e) (sound end a));
  all_are_found = λ classes t h g e end i.
      full end (subst (λ s. Reached s graph.nodes place end) e
      ((path_law g classes graph.nodes t h.states place end).1 i));
  rising = r;
}

-- of states that are read as these
pub ends_are_of : (scene : Scene) (graph : GraphParts) (read : List Node) (place : ℕ)
    (found : List ℕ) → read ≡ graph.nodes →
    ((end : ℕ) → Among end found → Reached scene read place end) →
    ((end : ℕ) → Reached scene read place end → Among end found) → Rising found →
    AreEnds scene graph place found
ends_are_of scene graph read place found e sound full r =
    ends_are scene graph place found
    (subst (λ ns. (end : ℕ) → Among end found → Reached scene ns place end) e sound)
    (subst (λ ns. (end : ℕ) → Reached scene ns place end → Among end found) e full) r
