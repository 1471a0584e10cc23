-- A path of a graph meets the subject's end where the graph's tree reaches it.
use Rattle.std.proofs.Common.{◌≡◌, ◌∙◌, ℕ, zero, suc, ◌⊎◌, Bool, true, false, List, [], ◌∷◌, ◌++◌, Some, None, refl}
use Rattle.std.proofs.Common.{sym, ap, subst, inl, inr, arith}
use Rattle.std.proofs.lemmas.Bool.{false≢true}
use Rattle.std.specs.Prelude.{◌||◌, slice_get}
use Rattle.std.specs.List.{list_any}
use Rattle.pat_tree.specs.declared.nodes.Verb.TheVariants.{Accept, Fail, Commit, Prune, Skip, Then, Mark}
use Rattle.pat_tree.specs.Nested as tree
use Rattle.pat_tree.specs.Nested.{Nested, Row, Test, Other}
use Rattle.pat_lengths.specs.Nodes.{nodes as parts_of, is_lookbehind, all_nodes, nodes_in, nodes_of_test}
use Rattle.pat_lengths.specs.Nodes.{nodes_of_other}
use Rattle.pat_lengths.specs.declared.backs.Back.{Back}
use Rattle.dfa_ends.specs.ordered_search.Setting.{Setting, branch_lengths}
use Rattle.dfa_ends.specs.Ends.{Spot, spot, Spots, Way, Among, HasOne, HasNone, begun, TryEnds, TryReaches, ItemEnds}
use Rattle.dfa_ends.specs.Ends.{ItemReaches, Ends, AllEnd, AnyEnds, AnyEndsBehind, IsSo, IsNot, OtherEnds, Reaches}
use Rattle.dfa_ends.specs.Ends.{AllReach, AnyReaches, AnyReachesBehind, TestReaches, OtherReaches}
use Rattle.dfa_ends.proofs.ListLaw.{onward, onward_item}
use Rattle.dfa_paths.specs.declared.graph.Node.{Node}
use Rattle.dfa_paths.specs.declared.graph.Node.TheVariants.{One, Split, Look, Match}
use Rattle.dfa_paths.specs.Graph as graph
use Rattle.dfa_paths.specs.Graph.{Inner, Begins, Tried, Deep}
use Rattle.dfa_paths.specs.Meets.{Meeting, MeetsBehind, HasEndBehind, Probes, probed, further, met, DeepMeets}
use Rattle.dfa_paths.specs.Fragment.{Part, IsNode, IsLast, Placed, AllPlaced, AnyPlaced, BehindPlaced, TestPlaced}
use Rattle.dfa_paths.specs.Fragment.{OtherPlaced, HasBack}
use Rattle.dfa_paths.proofs.Probes.{at_branch, not_goto}
use Rattle.dfa_paths.proofs.Counting.{Good, Lowered, IsBefore, good_on, good_begun}
use Rattle.dfa_paths.proofs.Coming.{IsInner, try_so, try_is}
use Rattle.dfa_paths.proofs.Fragments.{fragment_law}
use Rattle.dfa_paths.proofs.Going.{at_end, decide}
use Rattle.dfa_paths.proofs.Meeting as meeting
use Rattle.dfa_paths.proofs.Meeting.{Short, Keeps, Asked, ChosenReach, Chosen}
use Rattle.dfa_paths.proofs.Passing as passing

true_of : (b : Bool) → (b ≡ false → ⊥) → b ≡ true
true_of true f = refl
true_of false f = absurd (f refl)

or_none : (a b : Bool) → (a || b) ≡ false → (a ≡ false) × (b ≡ false)
or_none true b e = absurd (false≢true (sym e))
or_none false b e = (refl, e)

any_parts : (xs ys : List Nested) → list_any is_lookbehind (xs ++ ys) ≡ false →
    (list_any is_lookbehind xs ≡ false) × (list_any is_lookbehind ys ≡ false)
any_parts [] ys e = (refl, e)
any_parts (x ∷ xs) ys e =
    let h = or_none (is_lookbehind x) (list_any is_lookbehind (xs ++ ys)) e in
    let r = any_parts xs ys h.1 in
    (ap (λ b. b || list_any is_lookbehind xs) h.0 ∙ r.0, r.1)

module _ (g : Setting) (nodes : List Node) (last : slice_get nodes 1 ≡ Some Match)
    (counts : Bool) (before : IsBefore g counts) where
  -- a search that does not count meets no lookbehind
  abbrev Quiet : List Nested → Type 0
  Quiet ts = counts ≡ false → list_any is_lookbehind ts ≡ false

  quiet_first : (xs ys : List Nested) → Quiet (xs ++ ys) → Quiet xs
  quiet_first xs ys q off = (any_parts xs ys (q off)).0

  quiet_second : (xs ys : List Nested) → Quiet (xs ++ ys) → Quiet ys
  quiet_second xs ys q off = (any_parts xs ys (q off)).1

  loud : (counts ≡ false → true ≡ false) → counts ≡ true
  loud q = true_of counts (λ off. false≢true (sym (q off)))

  always : (ts : List Nested) → counts ≡ true → Quiet ts
  always ts sure off = absurd (false≢true (sym off ∙ sure))

  abbrev B : ℕ → Inner
  B d = Deep g.scene nodes d

  abbrev M : ℕ → Meeting
  M d = DeepMeets g.scene nodes counts d

  abbrev Come : ℕ → Part → Spots → Way → Type 0
  Come d P R w = meeting.ComeAll g nodes counts (B d) (M d) P R w

  abbrev Go : ℕ → Part → Spots → Way → Type 0
  Go d P R w = passing.GoAll g nodes counts (B d) (M d) P R w

  -- what holds of the two branches of a condition holds of the condition
  abbrev OfTest : ((ℕ → Type 0) → Spots → Way → ℕ → Type 0) → ℕ → Test → Type 0
  OfTest To d test =
      Quiet (nodes_of_test true test) → (first : Nested) (second : Other) (next : ℕ) →
      To (λ e. Placed nodes first d e next) (Reaches g first) (Ends g first) next →
      To (λ e. OtherPlaced nodes second d e next) (OtherReaches g second) (OtherEnds g second)
      next →
      To (TestPlaced nodes test d (λ e. Placed nodes first d e next)
      (λ e. OtherPlaced nodes second d e next))
      (λ x. ChosenReach g nodes counts (B d) (M d) (TestReaches g test x) (IsSo g test x)
      (IsNot g test x) (Reaches g first x) (OtherReaches g second x))
      (Chosen g nodes counts (B d) (M d) (IsSo g test) (IsNot g test) (Ends g first)
      (OtherEnds g second)) next

  -- where nested paths end
  inner : (d : ℕ) (t : Nested) (entry : ℕ) → Placed nodes t d entry 1 →
      IsInner (B (suc d)) (Ends g t) entry
  unfolding Deep
  inner d t entry p =
      let law = fragment_law g nodes d t entry 1 last p in
      record {
        ends_so = λ x j b. (
            let c = law.comes x j b in
            let e = at_end g nodes (B d) j 1 c.0.place last c.2 in
            (c.0.early, subst (λ k. Ends g t x (spot k c.0.early)) e c.1));
        so_ends = λ x y u. law.goes x y y.place u (matched_here y.place);
      }
    where
      matched_here : (j : ℕ) → graph.Accepts g.scene nodes (B d) j 1 j
      matched_here j = graph.matched 1 j last refl

  -- and of a group of branches
  inner_any : (d : ℕ) (ts : Row) (entry : ℕ) → AnyPlaced nodes ts d entry 1 →
      IsInner (B (suc d)) (AnyEnds g ts) entry
  unfolding Placed Ends
  inner_any d ts entry p =
      let i = inner d (tree.group None ts) entry p in
      record { ends_so = λ x j b. i.ends_so x j b; so_ends = λ x y u. i.so_ends x y u }

  -- nested paths meet the end where a part reaches it that is placed from their state on
  meets_so : (d : ℕ) (P : Part) (R : Spots) (w : Way) (entry : ℕ) → Come d P R w → P entry 1 →
      meeting.MeetsSo g nodes counts (B (suc d)) (M (suc d)) R entry
  unfolding DeepMeets
  meets_so d P R w entry come p x good f =
      let n = suc (meeting.size g nodes counts (B d) (M d) entry x.place f) in
      elim (come n entry 1 x good p (f, omega arith)) [
        | inl r ↦ r
        | inr r ↦
            absurd (meeting.at_match g nodes counts (B d) (M d) 1 r.0.place last r.2.0)
      ]

  nested_on : (d entry : ℕ) (x : Spot) → passing.On g nodes counts (B d) (M d) entry x →
      M (suc d) entry x.place ⊎ Lowered g counts x
  unfolding DeepMeets
  nested_on d entry x h = h

  meets_by : (d : ℕ) (P : Part) (R : Spots) (w : Way) (entry : ℕ) → Go d P R w → P entry 1 →
      passing.MeetsBy g nodes counts (B (suc d)) (M (suc d)) R entry
  meets_by d P R w entry go p x good r = nested_on d entry x ((go entry 1 x good p).0 r)

  lowers_by : (d : ℕ) (P : Part) (R : Spots) (w : Way) (entry : ℕ) → Go d P R w → P entry 1 →
      passing.LowersBy g nodes counts (B (suc d)) (M (suc d)) w entry
  lowers_by d P R w entry go p x y good t l =
      nested_on d entry x ((go entry 1 x good p).1 y t (inr l))

  keeps : (d : ℕ) (t : Nested) → Keeps g nodes counts (B d) (M d) (Ends g t)
  keeps d t x y good u = good_on g counts x y good (onward g t x y u)

  -- Lookbehinds: one of them counts wherever it stands.

  begins_so : (t : Nested) (back : Back) → HasBack t back → (p : ℕ) (x : Spot) →
      Begins g.scene (Some back) x.place p → Reaches g t (begun p x) →
      TryReaches g (branch_lengths g t) (Reaches g t) x
  begins_so t back known p x b r =
      subst (λ l. TryReaches g l (Reaches g t) x)
      (sym (known g.options.match_unset_backref g.whole)) (p, b, r)

  begins_is : (t : Nested) (back : Back) → HasBack t back → (x : Spot) →
      TryReaches g (branch_lengths g t) (Reaches g t) x →
      (p : ℕ) × Begins g.scene (Some back) x.place p × Reaches g t (begun p x)
  begins_is t back known x r =
      subst (λ l. TryReaches g l (Reaches g t) x)
      (known g.options.match_unset_backref g.whole) r

  ahead_comes : (d : ℕ) (ts : Row) →
      Come d (AnyPlaced nodes ts d) (AnyReaches g ts) (AnyEnds g ts) → (n entry hit miss e : ℕ)
      (x : Spot) → Good g counts x → IsNode nodes (Look None entry hit miss) e →
      AnyPlaced nodes ts d entry 1 →
      Short g nodes counts (B (suc d)) (M (suc d)) n e x.place →
      Asked g nodes counts (B (suc d)) (M (suc d)) (AnyReaches g ts x) (AnyEnds g ts x) n hit
      miss x
  ahead_comes d ts come n entry hit miss e x good is p s =
      meeting.ask_comes g nodes counts (B (suc d)) (M (suc d)) (AnyReaches g ts) (AnyEnds g ts)
      entry hit miss (inner_any d ts entry p)
      (meets_so d (AnyPlaced nodes ts d) (AnyReaches g ts) (AnyEnds g ts) entry come p) n e x good
      is s

  branch_so : (d : ℕ) (t : Nested) → Come d (Placed nodes t d) (Reaches g t) (Ends g t) →
      counts ≡ true → (back : Back) (entry : ℕ) → HasBack t back → Placed nodes t d entry 1 →
      (x : Spot) → Good g counts x → MeetsBehind g.scene (M (suc d)) back entry x.place →
      TryReaches g (branch_lengths g t) (Reaches g t) x
  branch_so d t come sure back entry known p x good y =
      begins_so t back known y.0 x y.1
      (meets_so d (Placed nodes t d) (Reaches g t) (Ends g t) entry come p (begun y.0 x)
      (good_begun g counts sure y.0 x good) y.2)

  mutual
    unfolding Placed Ends Reaches Among parts_of

    pub comes : (d : ℕ) (t : Nested) → Quiet (all_nodes t) →
        Come d (Placed nodes t d) (Reaches g t) (Ends g t)
    comes d tree.empty q n e next x good p s =
        inr (x, refl, meeting.comes_here g nodes counts (B d) (M d) n e next x p s)
    comes d (tree.one item) q n e next x good p s =
        meeting.item_comes g nodes counts (B d) (M d) item n e next x good p s
    comes d tree.line_break q n e next x good p s =
        meeting.break_comes g nodes counts (B d) (M d) n e next x good p s
    comes d (tree.seq ts) q n e next x good p s = all_come d ts q n e next x good p s
    comes d (tree.group number ts) q n e next x good p s = any_come d ts q n e next x good p s
    comes d (tree.repeat body low high lazily) q n e next x good p s =
        meeting.turns_come g nodes counts (B d) (M d) (Placed nodes body d)
        (Reaches g body) (Ends g body) (comes d body q) (keeps d body) low high n e next x good p s
    comes d (tree.one_repeat item low high lazily) q n e next x good p s =
        meeting.turns_come g nodes counts (B d) (M d)
        (λ e next. IsNode nodes (One item next) e) (ItemReaches g item) (ItemEnds g item)
        (meeting.item_comes g nodes counts (B d) (M d) item)
        (λ x y good u. good_on g counts x y good (onward_item g item x y u)) low high n e next x
        good p s
    comes zero (tree.atomic ts) q n e next x good p s = absurd p
    comes (suc d) (tree.atomic ts) q n e next x good p s =
        meeting.atomic_comes g nodes counts (B (suc d)) (M (suc d)) (AnyReaches g ts)
        (AnyEnds g ts) p.0 (inner_any d ts p.0 p.2)
        (meets_so d (AnyPlaced nodes ts d) (AnyReaches g ts) (AnyEnds g ts) p.0
        (any_come d ts q) p.2) n e next x good p.1 s
    comes zero (tree.look true positive once ts) q n e next x good p s = absurd p
    comes (suc d) (tree.look true true once ts) q n e next x good p s =
        meeting.hit_comes g nodes counts (B (suc d)) (M (suc d)) (AnyReaches g ts x)
        (AnyEnds g ts x) n p.1 p.2 next x (ahead_comes d ts (any_come d ts q) n p.0 p.1 p.2 e x good p.3 p.4 s)
        (inl p.5.0) p.5.1
    comes (suc d) (tree.look true false once ts) q n e next x good p s =
        meeting.miss_comes g nodes counts (B (suc d)) (M (suc d)) (AnyReaches g ts x)
        (AnyEnds g ts x) n p.1 p.2 next x (ahead_comes d ts (any_come d ts q) n p.0 p.1 p.2 e x good p.3 p.4 s)
        p.5.0 (inl p.5.1)
    comes zero (tree.look false positive once ts) q n e next x good p s = absurd p
    comes (suc d) (tree.look false true once ts) q n e next x good p s =
        meeting.hit_comes g nodes counts (B (suc d)) (M (suc d)) (AnyReachesBehind g ts x)
        (AnyEndsBehind g ts x) n p.0 p.1 next x
        (behind_come d ts (loud q) n p.0 p.1 e x good p.2 s) p.3.0 p.3.1
    comes (suc d) (tree.look false false once ts) q n e next x good p s =
        meeting.miss_comes g nodes counts (B (suc d)) (M (suc d)) (AnyReachesBehind g ts x)
        (AnyEndsBehind g ts x) n p.0 p.1 next x
        (behind_come d ts (loud q) n p.0 p.1 e x good p.2 s) p.3.0 p.3.1
    comes d (tree.condition test first second) q n e next x good p s =
        test_come d test (quiet_first (nodes_of_test true test) (all_nodes first)
        (quiet_first (nodes_of_test true test ++ all_nodes first) (nodes_of_other true second) q))
        first second next
        (λ n e x good p s. comes d first
        (quiet_second (nodes_of_test true test) (all_nodes first)
        (quiet_first (nodes_of_test true test ++ all_nodes first) (nodes_of_other true second) q))
        n e next x good p s)
        (λ n e x good p s. other_come d second
        (quiet_second (nodes_of_test true test ++ all_nodes first) (nodes_of_other true second) q)
        n e next x good p s) n e x good p s
    comes d (tree.call m) q n e next x good p s = absurd p
    comes d (tree.ref ns caseless) q n e next x good p s = absurd p
    comes d (tree.anchor kind) q n e next x good p s =
        meeting.anchor_comes g nodes counts (B d) (M d) before kind n e next x good p s
    comes d tree.keep_out q n e next x good p s = absurd p
    comes d (tree.verb (Fail name)) q n e next x good p s =
        absurd (meeting.dead_short g nodes counts (B d) (M d) n e x.place p s)
    comes d (tree.verb (Accept name)) q n e next x good p s = absurd p
    comes d (tree.verb (Commit name)) q n e next x good p s = absurd p
    comes d (tree.verb (Prune name)) q n e next x good p s = absurd p
    comes d (tree.verb (Skip name)) q n e next x good p s = absurd p
    comes d (tree.verb (Then name)) q n e next x good p s = absurd p
    comes d (tree.verb (Mark name)) q n e next x good p s = absurd p
    comes d (tree.callout c) q n e next x good p s =
        inr (x, refl, meeting.comes_here g nodes counts (B d) (M d) n e next x p s)

    all_come : (d : ℕ) (ts : Row) → Quiet (nodes_in true ts) →
        Come d (AllPlaced nodes ts d) (AllReach g ts) (AllEnd g ts)
    all_come d tree.none q n e next x good p s =
        inr (x, refl, meeting.comes_here g nodes counts (B d) (M d) n e next x p s)
    all_come d (tree.more t ts) q n e next x good p s =
        elim (comes d t (quiet_first (all_nodes t) (nodes_in true ts) q) n e p.0 x good p.1 s) [
          | inl r ↦ inl (inl r)
          | inr r ↦
              elim (all_come d ts (quiet_second (all_nodes t) (nodes_in true ts) q) n p.0 next r.0
              (keeps d t x r.0 good r.1) p.2 r.2) [
                | inl u ↦ inl (inr (r.0, (r.1, u)))
                | inr u ↦ inr (u.0, (r.0, r.1, u.1), u.2)
              ]
        ]

    any_come : (d : ℕ) (ts : Row) → Quiet (nodes_in true ts) →
        Come d (AnyPlaced nodes ts d) (AnyReaches g ts) (AnyEnds g ts)
    any_come d tree.none q n e next x good p s =
        absurd (meeting.dead_short g nodes counts (B d) (M d) n e x.place p s)
    any_come d (tree.more t ts) q zero e next x good p s = absurd (omega (arith, s.1))
    any_come d (tree.more t ts) q (suc n) e next x good p s =
        elim p [
          | inl u ↦
              elim (comes d t (quiet_first (all_nodes t) (nodes_in true ts) q) (suc n) e next x good
              u.1 s) [ inl r ↦ inl (inl r) | inr r ↦ inr (r.0, inl r.1, r.2) ]
          | inr v ↦
              elim (meeting.at_split g nodes counts (B d) (M d) n e v.0 v.1 x.place v.2 s.0 s.1) [
                | inl a ↦
                    elim (comes d t (quiet_first (all_nodes t) (nodes_in true ts) q) n v.0 next x
                    good v.3 a) [
                      | inl r ↦ inl (inl r)
                      | inr r ↦ inr (
                        r.0,
                        inl r.1,
                        meeting.longer g nodes counts (B d) (M d) n (suc n) next r.0.place
                            (omega arith) r.2,
                      )
                    ]
                | inr b ↦
                    elim (any_come d ts (quiet_second (all_nodes t) (nodes_in true ts) q) n v.1
                    next x good v.4 b) [
                      | inl r ↦ inl (inr r)
                      | inr r ↦ inr (
                        r.0,
                        inr r.1,
                        meeting.longer g nodes counts (B d) (M d) n (suc n) next r.0.place
                            (omega arith) r.2,
                      )
                    ]
              ]
        ]

    other_come : (d : ℕ) (o : Other) → Quiet (nodes_of_other true o) →
        Come d (OtherPlaced nodes o d) (OtherReaches g o) (OtherEnds g o)
    other_come d tree.no_other q n e next x good p s =
        inr (x, refl, meeting.comes_here g nodes counts (B d) (M d) n e next x p s)
    other_come d (tree.other t) q n e next x good p s = comes d t q n e next x good p s

    probes_so : (d : ℕ) (ts : Row) → counts ≡ true → (hit miss e : ℕ) (x : Spot) →
        Good g counts x → BehindPlaced nodes ts d hit miss e →
        Probes g.scene nodes counts (M (suc d)) x.place e → AnyReachesBehind g ts x
    probes_so d tree.none sure hit miss e x good p y =
        absurd (not_goto g.scene nodes counts (M (suc d)) x.place e miss p y)
    probes_so d (tree.more t ts) sure hit miss e x good p y =
        elim (at_branch g.scene nodes counts (M (suc d)) x.place e p.0 p.1 hit p.2 p.4 y) [
          | inl z ↦ inl (branch_so d t (comes d t (always (all_nodes t) sure)) sure p.0 p.1 p.3 p.5 x good z)
          | inr z ↦ inr (probes_so d ts sure hit miss p.2 x good p.6 z.1)
        ]

    behind_come : (d : ℕ) (ts : Row) → counts ≡ true → (n hit miss e : ℕ) (x : Spot) →
        Good g counts x → BehindPlaced nodes ts d hit miss e →
        Short g nodes counts (B (suc d)) (M (suc d)) n e x.place →
        Asked g nodes counts (B (suc d)) (M (suc d)) (AnyReachesBehind g ts x)
        (AnyEndsBehind g ts x) n hit miss x
    behind_come d tree.none sure n hit miss e x good p s =
        inr (inr (
          λ y h. h,
          meeting.comes_here g nodes counts (B (suc d)) (M (suc d)) n e miss x (inr p) s,
        ))
    behind_come d (tree.more t ts) sure zero hit miss e x good p s = absurd (omega (arith, s.1))
    behind_come d (tree.more t ts) sure (suc n) hit miss e x good p s =
        elim (meeting.at_look g nodes counts (B (suc d)) (M (suc d)) n e x.place (Some p.0) p.1 hit
        p.2 p.4 s.0 s.1) [
          | inl y ↦ elim y [
            | inl z ↦ inl (inl (branch_so d t (comes d t (always (all_nodes t) sure)) sure p.0 p.1 p.3 p.5 x good z))
            | inr z ↦ inl (inr (probes_so d ts sure hit miss p.2 x good p.6 z.1))
          ]
          | inr r ↦ elim r [
            | inl a ↦
                let i = inner d t p.1 p.5 in
                let u = i.ends_so (begun a.0.0 x) a.0.1 a.0.3.0 in
                let y = try_so g nodes (B (suc d)) 0 t p.0 p.3 a.0.0 x (spot a.0.1 u.0) a.0.2 u.1 a.0.3.1 in
                inr (inl (
                  (spot a.0.1 u.0, inl y),
                  meeting.longer g nodes counts (B (suc d)) (M (suc d)) n (suc n) hit x.place
                      (omega arith) a.1,
                ))
            | inr b ↦ elim (behind_come d ts sure n hit miss p.2 x good p.6 b.1) [
              | inl t ↦ inl (inr t)
              | inr r ↦ elim r [
                | inl c ↦ inr (inl (
                  (c.0.0, inr c.0.1),
                  meeting.longer g nodes counts (B (suc d)) (M (suc d)) n (suc n) hit x.place
                      (omega arith) c.1,
                ))
                | inr c ↦ inr (inr (
                  λ y h. (elim h [
                    | inl u ↦
                        let i = inner d t p.1 p.5 in
                        let v = try_is g nodes (B (suc d)) 0 t p.0 p.3 x y u in
                        b.0 v.0 y.place v.1 (i.so_ends (begun v.0 x) y v.2, v.3)
                    | inr u ↦ c.0 y u
                  ]),
                  meeting.longer g nodes counts (B (suc d)) (M (suc d)) n (suc n) miss x.place
                      (omega arith) c.1,
                ))
              ]
            ]
          ]
        ]

    test_come : (d : ℕ) (test : Test) → OfTest (meeting.ComeTo g nodes counts (B d) (M d)) d test
    test_come d tree.never q first second next h k n e x good p s =
        elim (k n e x good p s) [
          | inl r ↦ inl (inr (inr (tt, r)))
          | inr r ↦ inr (r.0, inr (tt, r.1), r.2)
        ]
    test_come d tree.in_call q first second next h k n e x good p s =
        elim (k n e x good p s) [
          | inl r ↦ inl (inr (inr (tt, r)))
          | inr r ↦ inr (r.0, inr (tt, r.1), r.2)
        ]
    test_come d (tree.any_set ns) q first second next h k n e x good p s = absurd p
    test_come d (tree.in_call_of ns) q first second next h k n e x good p s = absurd p
    test_come zero (tree.assert true positive once ts) q first second next h k n e x good p s =
        absurd p
    test_come (suc d) (tree.assert true true once ts) q first second next h k n e x good p s =
        meeting.choose_comes g nodes counts (B (suc d)) (M (suc d)) (AnyReaches g ts)
        (λ x. HasOne (AnyEnds g ts x)) (λ x. HasNone (AnyEnds g ts x)) (Reaches g first)
        (OtherReaches g second) (Ends g first) (OtherEnds g second)
        (λ e. Placed nodes first (suc d) e next) (λ e. OtherPlaced nodes second (suc d) e next) next n
        p.1 p.2 x h k good p.5.0 p.5.1
        (ahead_comes d ts (any_come d ts q) n p.0 p.1 p.2 e x good p.3 p.4 s)
    test_come (suc d) (tree.assert true false once ts) q first second next h k n e x good p s =
        meeting.choose_comes g nodes counts (B (suc d)) (M (suc d)) (AnyReaches g ts)
        (λ x. HasNone (AnyEnds g ts x)) (λ x. HasOne (AnyEnds g ts x)) (Reaches g first)
        (OtherReaches g second) (Ends g first) (OtherEnds g second)
        (λ e. Placed nodes first (suc d) e next) (λ e. OtherPlaced nodes second (suc d) e next) next n
        p.2 p.1 x h k good p.5.1 p.5.0
        (meeting.turned g nodes counts (B (suc d)) (M (suc d)) (AnyReaches g ts x) (AnyEnds g ts x)
        n p.1 p.2 x (ahead_comes d ts (any_come d ts q) n p.0 p.1 p.2 e x good p.3 p.4 s))
    test_come zero (tree.assert false positive once ts) q first second next h k n e x good p s =
        absurd p
    test_come (suc d) (tree.assert false true once ts) q first second next h k n e x good p s =
        meeting.choose_comes g nodes counts (B (suc d)) (M (suc d)) (AnyReachesBehind g ts)
        (λ x. HasOne (AnyEndsBehind g ts x)) (λ x. HasNone (AnyEndsBehind g ts x))
        (Reaches g first) (OtherReaches g second) (Ends g first) (OtherEnds g second)
        (λ e. Placed nodes first (suc d) e next) (λ e. OtherPlaced nodes second (suc d) e next) next n
        p.0 p.1 x h k good p.3.0 p.3.1 (behind_come d ts (loud q) n p.0 p.1 e x good p.2 s)
    test_come (suc d) (tree.assert false false once ts) q first second next h k n e x good p s =
        meeting.choose_comes g nodes counts (B (suc d)) (M (suc d)) (AnyReachesBehind g ts)
        (λ x. HasNone (AnyEndsBehind g ts x)) (λ x. HasOne (AnyEndsBehind g ts x))
        (Reaches g first) (OtherReaches g second) (Ends g first) (OtherEnds g second)
        (λ e. Placed nodes first (suc d) e next) (λ e. OtherPlaced nodes second (suc d) e next) next n
        p.1 p.0 x h k good p.3.1 p.3.0
        (meeting.turned g nodes counts (B (suc d)) (M (suc d)) (AnyReachesBehind g ts x)
        (AnyEndsBehind g ts x) n p.0 p.1 x (behind_come d ts (loud q) n p.0 p.1 e x good p.2 s))
    test_come d (tree.called c test) q first second next h k n e x good p s =
        test_come d test q first second next h k n e x good p s

  -- The other way.

  abbrev On : ℕ → ℕ → Spot → Type 0
  On d e x = passing.On g nodes counts (B d) (M d) e x

  split_on : (d e p q a : ℕ) (x : Spot) → IsNode nodes (Split p q) e →
      Among a (p ∷ q ∷ []) → On d a x → On d e x
  split_on d e p q a x is among f =
      passing.step_on g nodes counts (B d) (M d) e a (Split p q) x is among f

  last_reach : (ts : Row) → IsLast nodes ts → (x : Spot) → AnyReaches g ts x → ⊥
  unfolding Reaches
  last_reach tree.none l x r = r
  last_reach (tree.more t ts) l x r = l

  last_end : (ts : Row) → IsLast nodes ts → (x y : Spot) → AnyEnds g ts x y → ⊥
  unfolding Ends
  last_end tree.none l x y u = u
  last_end (tree.more t ts) l x y u = l

  -- a branch that has no end
  no_try : (d : ℕ) (t : Nested) (back : Back) (entry : ℕ) → HasBack t back →
      IsInner (B (suc d)) (Ends g t) entry → (x : Spot) →
      HasNone (TryEnds g (branch_lengths g t) (Ends g t) x) → (q k : ℕ) →
      Begins g.scene (Some back) x.place q → Tried (B (suc d)) (Some back) x.place entry q k → ⊥
  no_try d t back entry known i x none q k c u =
      let r = i.ends_so (begun q x) k u.0 in
      none (spot k r.0) (try_so g nodes (B (suc d)) 0 t back known q x (spot k r.0) c r.1 u.1)

  one_try : (d : ℕ) (t : Nested) (back : Back) (entry : ℕ) → HasBack t back →
      IsInner (B (suc d)) (Ends g t) entry → (x : Spot) →
      HasOne (TryEnds g (branch_lengths g t) (Ends g t) x) →
      HasEndBehind g.scene (B (suc d)) back entry x.place
  one_try d t back entry known i x one =
      let v = try_is g nodes (B (suc d)) 0 t back known x one.0 one.1 in
      (v.0, one.0.place, v.1, (i.so_ends (begun v.0 x) one.0 v.2, v.3))

  rows_by : (d : ℕ) (ts : Row) →
      Go d (AnyPlaced nodes ts d) (AnyReaches g ts) (AnyEnds g ts) → (entry : ℕ) →
      AnyPlaced nodes ts d entry 1 →
      passing.MeetsBy g nodes counts (B (suc d)) (M (suc d)) (AnyReaches g ts) entry
  rows_by d ts go entry p =
      meets_by d (AnyPlaced nodes ts d) (AnyReaches g ts) (AnyEnds g ts) entry go p

  branch_by : (d : ℕ) (t : Nested) → Go d (Placed nodes t d) (Reaches g t) (Ends g t) →
      counts ≡ true → (back : Back) (entry : ℕ) → HasBack t back → Placed nodes t d entry 1 →
      (x : Spot) → Good g counts x → TryReaches g (branch_lengths g t) (Reaches g t) x →
      MeetsBehind g.scene (M (suc d)) back entry x.place
  branch_by d t go sure back entry known p x good r =
      let y = begins_is t back known x r in
      elim (meets_by d (Placed nodes t d) (Reaches g t) (Ends g t) entry go p (begun y.0 x)
      (good_begun g counts sure y.0 x good) y.2) [
        | inl m ↦ (y.0, y.1, m)
        | inr l ↦ absurd (false≢true (sym l.0 ∙ sure))
      ]

  behind_hits : (d : ℕ) (ts : Row) (hit miss e : ℕ) (x : Spot) →
      BehindPlaced nodes ts d hit miss e → HasOne (AnyEndsBehind g ts x) →
      On (suc d) hit x → On (suc d) e x
  unfolding Placed Ends
  behind_hits d tree.none hit miss e x p h f = absurd h.1
  behind_hits d (tree.more t ts) hit miss e x p h f =
      let n = Look (Some p.0) p.1 hit p.2 in
      elim (decide g nodes (B (suc d)) 0 t x) [
        | inl one ↦
            passing.step_on g nodes counts (B (suc d)) (M (suc d)) e hit n x p.4
            (inl (one_try d t p.0 p.1 p.3 (inner d t p.1 p.5) x one, refl)) f
        | inr none ↦
            passing.step_on g nodes counts (B (suc d)) (M (suc d)) e p.2 n x p.4
            (inr (no_try d t p.0 p.1 p.3 (inner d t p.1 p.5) x none, refl))
            (behind_hits d ts hit miss p.2 x p.6
            (elim h.1 [ inl u ↦ absurd (none h.0 u) | inr u ↦ (h.0, u) ]) f)
      ]

  behind_misses : (d : ℕ) (ts : Row) (hit miss e : ℕ) (x : Spot) →
      BehindPlaced nodes ts d hit miss e → HasNone (AnyEndsBehind g ts x) →
      On (suc d) miss x → On (suc d) e x
  unfolding Placed Ends
  behind_misses d tree.none hit miss e x p h f =
      passing.here_on g nodes counts (B (suc d)) (M (suc d)) e miss x (inr p) f
  behind_misses d (tree.more t ts) hit miss e x p h f =
      passing.step_on g nodes counts (B (suc d)) (M (suc d)) e p.2
      (Look (Some p.0) p.1 hit p.2) x p.4
      (inr (no_try d t p.0 p.1 p.3 (inner d t p.1 p.5) x (λ y u. h y (inl u)), refl))
      (behind_misses d ts hit miss p.2 x p.6 (λ y k. h y (inr k)) f)

  mutual
    unfolding Placed Ends Reaches Among parts_of

    pub goes : (d : ℕ) (t : Nested) → Quiet (all_nodes t) →
        Go d (Placed nodes t d) (Reaches g t) (Ends g t)
    goes d tree.empty q e next x good p =
        (λ r. absurd r, λ y t f. passing.go_here g nodes counts (B d) (M d) e next x y p t f)
    goes d (tree.one item) q e next x good p =
        passing.item_on g nodes counts (B d) (M d) item e next x good p
    goes d tree.line_break q e next x good p =
        passing.break_on g nodes counts (B d) (M d) e next x good p
    goes d (tree.seq ts) q e next x good p = all_go d ts q e next x good p
    goes d (tree.group number ts) q e next x good p = any_go d ts q e next x good p
    goes d (tree.repeat body low high lazily) q e next x good p =
        passing.turns_on g nodes counts (B d) (M d) (Placed nodes body d) (Reaches g body)
        (Ends g body) (goes d body q) (keeps d body) low high e next x good p
    goes d (tree.one_repeat item low high lazily) q e next x good p =
        passing.turns_on g nodes counts (B d) (M d) (λ e next. IsNode nodes (One item next) e)
        (ItemReaches g item) (ItemEnds g item) (passing.item_on g nodes counts (B d) (M d) item)
        (λ x y good u. good_on g counts x y good (onward_item g item x y u)) low high e next x good
        p
    goes zero (tree.atomic ts) q e next x good p = absurd p
    goes (suc d) (tree.atomic ts) q e next x good p =
        passing.atomic_on g nodes counts (B (suc d)) (M (suc d)) (AnyReaches g ts) (AnyEnds g ts)
        p.0 (inner_any d ts p.0 p.2) (rows_by d ts (any_go d ts q) p.0 p.2)
        (lowers_by d (AnyPlaced nodes ts d) (AnyReaches g ts) (AnyEnds g ts) p.0 (any_go d ts q) p.2)
        e next x good p.1
    goes zero (tree.look true positive once ts) q e next x good p = absurd p
    goes (suc d) (tree.look true true once ts) q e next x good p = (
      λ r. passing.ask_reach g nodes counts (B (suc d)) (M (suc d)) (AnyReaches g ts) p.0 p.1 p.2
          (rows_by d ts (any_go d ts q) p.0 p.4) e x good p.3 r,
      λ y t f. passing.ask_hit g nodes counts (B (suc d)) (M (suc d)) (AnyEnds g ts) p.0 p.1 p.2
          (inner_any d ts p.0 p.4) e x p.3 t.0
          (passing.go_here g nodes counts (B (suc d)) (M (suc d)) p.1 next x y (inl p.5.0) t.1 f),
    )
    goes (suc d) (tree.look true false once ts) q e next x good p = (
      λ r. passing.ask_reach g nodes counts (B (suc d)) (M (suc d)) (AnyReaches g ts) p.0 p.1 p.2
          (rows_by d ts (any_go d ts q) p.0 p.4) e x good p.3 r,
      λ y t f. passing.ask_miss g nodes counts (B (suc d)) (M (suc d)) (AnyEnds g ts) p.0 p.1 p.2
          (inner_any d ts p.0 p.4) e x p.3 t.0
          (passing.go_here g nodes counts (B (suc d)) (M (suc d)) p.2 next x y (inl p.5.1) t.1 f),
    )
    goes zero (tree.look false positive once ts) q e next x good p = absurd p
    goes (suc d) (tree.look false true once ts) q e next x good p = (
      λ r. behind_reach d ts (loud q) p.0 p.1 e x good p.2 r,
      λ y t f. behind_hits d ts p.0 p.1 e x p.2 t.0
          (passing.go_here g nodes counts (B (suc d)) (M (suc d)) p.0 next x y p.3.0 t.1 f),
    )
    goes (suc d) (tree.look false false once ts) q e next x good p = (
      λ r. behind_reach d ts (loud q) p.0 p.1 e x good p.2 r,
      λ y t f. behind_misses d ts p.0 p.1 e x p.2 t.0
          (passing.go_here g nodes counts (B (suc d)) (M (suc d)) p.1 next x y p.3.1 t.1 f),
    )
    goes d (tree.condition test first second) q e next x good p =
        test_go d test (quiet_first (nodes_of_test true test) (all_nodes first)
        (quiet_first (nodes_of_test true test ++ all_nodes first) (nodes_of_other true second) q))
        first second next
        (λ e x good p. goes d first
        (quiet_second (nodes_of_test true test) (all_nodes first)
        (quiet_first (nodes_of_test true test ++ all_nodes first) (nodes_of_other true second) q))
        e next x good p)
        (λ e x good p. other_go d second
        (quiet_second (nodes_of_test true test ++ all_nodes first) (nodes_of_other true second) q)
        e next x good p) e x good p
    goes d (tree.call m) q e next x good p = absurd p
    goes d (tree.ref ns caseless) q e next x good p = absurd p
    goes d (tree.anchor kind) q e next x good p =
        passing.anchor_on g nodes counts (B d) (M d) kind e next x good p
    goes d tree.keep_out q e next x good p = absurd p
    goes d (tree.verb v) q e next x good p = (λ r. absurd r, λ y t f. absurd t)
    goes d (tree.callout c) q e next x good p =
        (λ r. absurd r, λ y t f. passing.go_here g nodes counts (B d) (M d) e next x y p t f)

    all_go : (d : ℕ) (ts : Row) → Quiet (nodes_in true ts) →
        Go d (AllPlaced nodes ts d) (AllReach g ts) (AllEnd g ts)
    all_go d tree.none q e next x good p =
        (λ r. absurd r, λ y t f. passing.go_here g nodes counts (B d) (M d) e next x y p t f)
    all_go d (tree.more u ts) q e next x good p =
        let h = goes d u (quiet_first (all_nodes u) (nodes_in true ts) q) e p.0 x good p.1 in (
          λ r. (elim r [
            | inl a ↦ h.0 a
            | inr b ↦ h.1 b.0 b.1.0
                ((all_go d ts (quiet_second (all_nodes u) (nodes_in true ts) q) p.0 next b.0
                (keeps d u x b.0 good b.1.0) p.2).0 b.1.1)
          ]),
          λ y t f. h.1 t.0 t.1
              ((all_go d ts (quiet_second (all_nodes u) (nodes_in true ts) q) p.0 next t.0
              (keeps d u x t.0 good t.1) p.2).1 y t.2 f),
        )

    any_go : (d : ℕ) (ts : Row) → Quiet (nodes_in true ts) →
        Go d (AnyPlaced nodes ts d) (AnyReaches g ts) (AnyEnds g ts)
    any_go d tree.none q e next x good p = (λ r. absurd r, λ y t f. absurd t)
    any_go d (tree.more u ts) q e next x good p =
        elim p [
          | inl a ↦
              let h = goes d u (quiet_first (all_nodes u) (nodes_in true ts) q) e next x good a.1 in (
                λ r. (elim r [ inl c ↦ h.0 c | inr z ↦ absurd (last_reach ts a.0 x z) ]),
                λ y t f. (elim t [ inl c ↦ h.1 y c f | inr z ↦ absurd (last_end ts a.0 x y z) ]),
              )
          | inr b ↦
              let h = goes d u (quiet_first (all_nodes u) (nodes_in true ts) q) b.0 next x good b.3 in
              let k = any_go d ts (quiet_second (all_nodes u) (nodes_in true ts) q) b.1 next x good
              b.4 in (
                λ r. (elim r [
                  | inl c ↦ split_on d e b.0 b.1 b.0 x b.2 (inl refl) (h.0 c)
                  | inr c ↦ split_on d e b.0 b.1 b.1 x b.2 (inr (inl refl)) (k.0 c)
                ]),
                λ y t f. (elim t [
                  | inl c ↦ split_on d e b.0 b.1 b.0 x b.2 (inl refl) (h.1 y c f)
                  | inr c ↦ split_on d e b.0 b.1 b.1 x b.2 (inr (inl refl)) (k.1 y c f)
                ]),
              )
        ]

    other_go : (d : ℕ) (o : Other) → Quiet (nodes_of_other true o) →
        Go d (OtherPlaced nodes o d) (OtherReaches g o) (OtherEnds g o)
    other_go d tree.no_other q e next x good p =
        (λ r. absurd r, λ y t f. passing.go_here g nodes counts (B d) (M d) e next x y p t f)
    other_go d (tree.other u) q e next x good p = goes d u q e next x good p

    probes_by : (d : ℕ) (ts : Row) → counts ≡ true → (hit miss e : ℕ) (x : Spot) →
        Good g counts x → BehindPlaced nodes ts d hit miss e → AnyReachesBehind g ts x →
        Probes g.scene nodes counts (M (suc d)) x.place e
    probes_by d tree.none sure hit miss e x good p r = absurd r
    probes_by d (tree.more t ts) sure hit miss e x good p r =
        elim r [
          | inl a ↦ probed e p.0 p.1 hit p.2 p.4
              (branch_by d t (goes d t (always (all_nodes t) sure)) sure p.0 p.1 p.3 p.5 x good a)
          | inr b ↦ further e p.0 p.1 hit p.2 p.4 p.7
              (probes_by d ts sure hit miss p.2 x good p.6 b)
        ]

    behind_reach : (d : ℕ) (ts : Row) → counts ≡ true → (hit miss e : ℕ) (x : Spot) →
        Good g counts x → BehindPlaced nodes ts d hit miss e → AnyReachesBehind g ts x →
        On (suc d) e x
    behind_reach d tree.none sure hit miss e x good p r = absurd r
    behind_reach d (tree.more t ts) sure hit miss e x good p r =
        let n = Look (Some p.0) p.1 hit p.2 in
        elim r [
          | inl a ↦ inl (met e x.place n p.4
              (inr (inl (branch_by d t (goes d t (always (all_nodes t) sure)) sure p.0 p.1 p.3 p.5 x good a))))
          | inr b ↦ elim (decide g nodes (B (suc d)) 0 t x) [
            | inl one ↦ inl (met e x.place n p.4
                (inr (inr (
                  one_try d t p.0 p.1 p.3 (inner d t p.1 p.5) x one,
                  probes_by d ts sure hit miss p.2 x good p.6 b,
                ))))
            | inr none ↦
                passing.step_on g nodes counts (B (suc d)) (M (suc d)) e p.2 n x p.4
                (inr (no_try d t p.0 p.1 p.3 (inner d t p.1 p.5) x none, refl))
                (behind_reach d ts sure hit miss p.2 x good p.6 b)
          ]
        ]

    test_go : (d : ℕ) (test : Test) → OfTest (passing.GoTo g nodes counts (B d) (M d)) d test
    test_go d tree.never q first second next h k e x good p = (
      λ r. (elim r [
        | inl a ↦ absurd a
        | inr b ↦ elim b [ inl c ↦ absurd c.0 | inr c ↦ (k e x good p).0 c.1 ]
      ]),
      λ y t f. (elim t [ inl a ↦ absurd a.0 | inr b ↦ (k e x good p).1 y b.1 f ]),
    )
    test_go d tree.in_call q first second next h k e x good p = (
      λ r. (elim r [
        | inl a ↦ absurd a
        | inr b ↦ elim b [ inl c ↦ absurd c.0 | inr c ↦ (k e x good p).0 c.1 ]
      ]),
      λ y t f. (elim t [ inl a ↦ absurd a.0 | inr b ↦ (k e x good p).1 y b.1 f ]),
    )
    test_go d (tree.any_set ns) q first second next h k e x good p = absurd p
    test_go d (tree.in_call_of ns) q first second next h k e x good p = absurd p
    test_go zero (tree.assert true positive once ts) q first second next h k e x good p = absurd p
    test_go (suc d) (tree.assert true true once ts) q first second next h k e x good p =
        passing.choose_on g nodes counts (B (suc d)) (M (suc d)) (AnyReaches g ts x)
        (HasOne (AnyEnds g ts x)) (HasNone (AnyEnds g ts x)) (Reaches g first)
        (OtherReaches g second) (Ends g first) (OtherEnds g second)
        (λ e. Placed nodes first (suc d) e next) (λ e. OtherPlaced nodes second (suc d) e next) next e p.1 p.2 x h k
        good
        p.5.0 p.5.1
        (λ r. passing.ask_reach g nodes counts (B (suc d)) (M (suc d)) (AnyReaches g ts) p.0 p.1
        p.2 (rows_by d ts (any_go d ts q) p.0 p.4) e x good p.3 r)
        (λ u f. passing.ask_hit g nodes counts (B (suc d)) (M (suc d)) (AnyEnds g ts) p.0 p.1 p.2
        (inner_any d ts p.0 p.4) e x p.3 u f)
        (λ u f. passing.ask_miss g nodes counts (B (suc d)) (M (suc d)) (AnyEnds g ts) p.0 p.1 p.2
        (inner_any d ts p.0 p.4) e x p.3 u f)
    test_go (suc d) (tree.assert true false once ts) q first second next h k e x good p =
        passing.choose_on g nodes counts (B (suc d)) (M (suc d)) (AnyReaches g ts x)
        (HasNone (AnyEnds g ts x)) (HasOne (AnyEnds g ts x)) (Reaches g first)
        (OtherReaches g second) (Ends g first) (OtherEnds g second)
        (λ e. Placed nodes first (suc d) e next) (λ e. OtherPlaced nodes second (suc d) e next) next e p.2 p.1 x h k
        good
        p.5.1 p.5.0
        (λ r. passing.ask_reach g nodes counts (B (suc d)) (M (suc d)) (AnyReaches g ts) p.0 p.1
        p.2 (rows_by d ts (any_go d ts q) p.0 p.4) e x good p.3 r)
        (λ u f. passing.ask_miss g nodes counts (B (suc d)) (M (suc d)) (AnyEnds g ts) p.0 p.1 p.2
        (inner_any d ts p.0 p.4) e x p.3 u f)
        (λ u f. passing.ask_hit g nodes counts (B (suc d)) (M (suc d)) (AnyEnds g ts) p.0 p.1 p.2
        (inner_any d ts p.0 p.4) e x p.3 u f)
    test_go zero (tree.assert false positive once ts) q first second next h k e x good p = absurd p
    test_go (suc d) (tree.assert false true once ts) q first second next h k e x good p =
        passing.choose_on g nodes counts (B (suc d)) (M (suc d)) (AnyReachesBehind g ts x)
        (HasOne (AnyEndsBehind g ts x)) (HasNone (AnyEndsBehind g ts x)) (Reaches g first)
        (OtherReaches g second) (Ends g first) (OtherEnds g second)
        (λ e. Placed nodes first (suc d) e next) (λ e. OtherPlaced nodes second (suc d) e next) next e p.0
        p.1 x h k good p.3.0 p.3.1
        (λ r. behind_reach d ts (loud q) p.0 p.1 e x good p.2 r)
        (λ u f. behind_hits d ts p.0 p.1 e x p.2 u f)
        (λ u f. behind_misses d ts p.0 p.1 e x p.2 u f)
    test_go (suc d) (tree.assert false false once ts) q first second next h k e x good p =
        passing.choose_on g nodes counts (B (suc d)) (M (suc d)) (AnyReachesBehind g ts x)
        (HasNone (AnyEndsBehind g ts x)) (HasOne (AnyEndsBehind g ts x)) (Reaches g first)
        (OtherReaches g second) (Ends g first) (OtherEnds g second)
        (λ e. Placed nodes first (suc d) e next) (λ e. OtherPlaced nodes second (suc d) e next) next e p.1
        p.0 x h k good p.3.1 p.3.0
        (λ r. behind_reach d ts (loud q) p.0 p.1 e x good p.2 r)
        (λ u f. behind_misses d ts p.0 p.1 e x p.2 u f)
        (λ u f. behind_hits d ts p.0 p.1 e x p.2 u f)
    test_go d (tree.called c test) q first second next h k e x good p =
        test_go d test q first second next h k e x good p
