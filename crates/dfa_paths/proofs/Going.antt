-- How a path goes through a fragment.
use Rattle.std.proofs.Common.{◌≡◌, ◌∙◌, ℕ, zero, suc, ◌-◌, ◌≤◌, ◌⊎◌, Bool, true, false, List, [], ◌∷◌, Option, Some}
use Rattle.std.proofs.Common.{None, refl, sym, ap, subst, inl, inr, arith}
use Rattle.std.specs.Prelude.{slice_get}
use Rattle.pat_tree.specs.declared.nodes.Item.{Item}
use Rattle.pat_tree.specs.declared.nodes.AnchorKind.{AnchorKind}
use Rattle.pat_tree.specs.Nested as tree
use Rattle.pat_tree.specs.Nested.{Nested, Row, Test}
use Rattle.match_items.specs.Items.{after_item, after_break, holds}
use Rattle.pat_lengths.specs.declared.backs.Back.{Back}
use Rattle.dfa_ends.specs.ordered_search.Setting.{Setting, branch_lengths}
use Rattle.dfa_ends.specs.EndList.{In, ends_list}
use Rattle.dfa_ends.proofs.ListLaw.{list_law}
use Rattle.dfa_ends.specs.Ends.{spot, Spot, Way, Among, HasOne, HasNone, GoesTo, Times, begun, TryEnds}
use Rattle.dfa_ends.specs.Ends.{AnyEndsBehind, ItemEnds, BreakEnds, AnchorEnds, Ends, AnyEnds, IsSo, IsNot}
use Rattle.dfa_paths.specs.declared.graph.Node.{Node}
use Rattle.dfa_paths.specs.declared.graph.Node.TheVariants.{One, Break, Anchor, Split, Goto, Look, Atomic, Match}
use Rattle.dfa_paths.specs.Graph.{moves, lands, Inner, Accepts, matched, moved, landed, ended, missed, went}
use Rattle.dfa_paths.specs.Fragment.{Part, IsAt, IsNode, Copies, Options, Loop, Turns, Placed, TestPlaced, HasBack}
use Rattle.dfa_paths.specs.Fragment.{BehindPlaced}
use Rattle.dfa_paths.proofs.Coming.{node_same, look_match, atomic_match, here_begins, begins_here, IsInner, place_of}
use Rattle.dfa_paths.proofs.Coming.{From, Bounded, try_so, try_is, FurthestEnd, Chosen, TestInner}
use Rattle.dfa_paths.proofs.Short.{none_some}
use Rattle.dfa_paths.proofs.Turns.{split}

module _ (g : Setting) (nodes : List Node) (B : Inner) (end : ℕ) where
  -- The other way.

  abbrev pub GoAll : Part → Way → Type 0
  GoAll P w = (e next : ℕ) (x y : Spot) → P e next → w x y → From g nodes B end next y.place →
      From g nodes B end e x.place

  pub goes_here : (e next i : ℕ) → IsAt nodes e next → From g nodes B end next i →
      From g nodes B end e i
  unfolding Among
  goes_here e next i p f =
      elim p [
        | inl a ↦ subst (λ q. From g nodes B end q i) (sym a) f
        | inr b ↦ moved e i next (Goto next) b (inl refl) f
      ]

  pub go_here : (e next : ℕ) (x y : Spot) → IsAt nodes e next → y ≡ x →
      From g nodes B end next y.place →
      From g nodes B end e x.place
  go_here e next x y p t f =
      goes_here e next x.place p (subst (λ i. From g nodes B end next i) (place_of y x t) f)

  lands_of : (o : Option ℕ) (x y : Spot) → GoesTo o x y → o ≡ Some y.place
  lands_of None x y h = absurd h
  lands_of (Some p) x y h = ap Some (sym (place_of y _ h))

  pub item_goes : (item : Item) → GoAll (λ e next. IsNode nodes (One item next) e) (ItemEnds g item)
  item_goes item e next x y p t f =
      landed e x.place y.place (One item next) p
      (lands_of (after_item g.scene item x.place) x y t) f

  pub break_goes : GoAll (λ e next. IsNode nodes (Break next) e) (BreakEnds g)
  break_goes e next x y p t f =
      landed e x.place y.place (Break next) p (lands_of (after_break g.scene x.place) x y t) f

  among_if : (b : Bool) (next : ℕ) → b ≡ true →
      Among next (elim b as (λ _. List ℕ) [ true ↦ next ∷ [] | false ↦ [] ])
  unfolding Among
  among_if true next e = inl refl
  among_if false next e = cc

  pub anchor_goes : (kind : AnchorKind) →
      GoAll (λ e next. IsNode nodes (Anchor kind next) e) (AnchorEnds g kind)
  anchor_goes kind e next x y p t f =
      moved e x.place next (Anchor kind next) p (among_if (holds g.scene kind x.place) next t.0)
      (subst (λ i. From g nodes B end next i) (place_of y _ t.1) f)

  copies_go : (P : Part) (w : Way) → GoAll P w → (k : ℕ) → GoAll (Copies nodes P k) (Times w k)
  unfolding Copies Times
  copies_go P w h zero e next x y p t f = go_here e next x y p t f
  copies_go P w h (suc k) e next x y p t f =
      h e p.0 x t.0 p.1 t.1 (copies_go P w h k p.0 next t.0 y p.2 t.2 f)

  options_go : (P : Part) (w : Way) → GoAll P w → (k c e next : ℕ) (x y : Spot) → c ≤ k →
      Options nodes P k e next →
      Times w c x y → From g nodes B end next y.place → From g nodes B end e x.place
  unfolding Options Times Among
  options_go P w h zero zero e next x y l p t f = go_here e next x y p t f
  options_go P w h zero (suc c) e next x y l p t f = absurd (omega (arith, l))
  options_go P w h (suc k) zero e next x y l p t f =
      moved e x.place next (Split p.0 next) p.3 (inr (inl refl))
      (subst (λ i. From g nodes B end next i) (place_of y x t) f)
  options_go P w h (suc k) (suc c) e next x y l p t f =
      moved e x.place p.0 (Split p.0 next) p.3 (inl refl)
      (h p.0 p.1 x t.0 p.4 t.1 (goes_here p.1 p.2 t.0.place p.5
      (options_go P w h k c p.2 next t.0 y (omega (arith, l)) p.6 t.2 f)))

  loop_go : (P : Part) (w : Way) → GoAll P w → (c e next : ℕ) (x y : Spot) → Loop nodes P e next →
      Times w c x y →
      From g nodes B end next y.place → From g nodes B end e x.place
  unfolding Times Among
  loop_go P w h zero e next x y p t f =
      moved e x.place next (Split p.0 next) p.1 (inr (inl refl))
      (subst (λ i. From g nodes B end next i) (place_of y x t) f)
  loop_go P w h (suc c) e next x y p t f =
      moved e x.place p.0 (Split p.0 next) p.1 (inl refl)
      (h p.0 e x t.0 p.2 t.1 (loop_go P w h c e next t.0 y p t.2 f))

  pub turns_go : (P : Part) (w : Way) → GoAll P w → (low : ℕ) (high : Option ℕ) →
      GoAll (Turns nodes P low high) (Bounded g nodes B end w low high)
  turns_go P w h low None e next x y p t f =
      let r = split w low t.0 x y t.1 t.2 in
      copies_go P w h low e p.0 x r.0 p.1 r.1 (loop_go P w h (t.0 - low) p.0 next r.0 y p.2 r.2 f)
  turns_go P w h low (Some high) e next x y p t f =
      let r = split w low t.0 x y t.1.0 t.2 in
      let u : t.0 ≤ high = t.1.1 in
      copies_go P w h low e p.0 x r.0 p.1 r.1
      (options_go P w h (high - low) (t.0 - low) p.0 next r.0 y (omega (arith, u)) p.2.1 r.2 f)

  pub ask_goes : (w : Way) (entry hit miss : ℕ) → IsInner B w entry → (e : ℕ) (x : Spot) →
      IsNode nodes (Look None entry hit miss) e → HasOne (w x) → From g nodes B end hit x.place →
      From g nodes B end e x.place
  ask_goes w entry hit miss inner e x p h f =
      ended e x.place None entry hit miss x.place h.0.place p (begins_here g.scene x.place)
      (inner.so_ends x h.0 h.1) f

  pub ask_goes_not : (w : Way) (entry hit miss : ℕ) → IsInner B w entry → (e : ℕ) (x : Spot) →
      IsNode nodes (Look None entry hit miss) e → HasNone (w x) → From g nodes B end miss x.place →
      From g nodes B end e x.place
  ask_goes_not w entry hit miss inner e x p h f =
      missed e x.place None entry hit miss p
      (λ q k c b. (
      let same = here_begins g.scene x.place q c in
      let r = inner.ends_so x k (subst (λ v. B entry v k) same b) in
      h (spot k r.0) r.1)) f

  -- the branches of a lookbehind

  decided : (t : Nested) (x : Spot) (zs : List Spot) →
      ((y : Spot) → In y zs → Ends g (tree.look false true true (tree.more t tree.none)) x y) →
      ((y : Spot) → Ends g (tree.look false true true (tree.more t tree.none)) x y → In y zs) →
      HasOne (TryEnds g (branch_lengths g t) (Ends g t) x)
      ⊎ HasNone (TryEnds g (branch_lengths g t) (Ends g t) x)
  unfolding In Ends
  decided t x [] sound full = inr (λ y h. full x ((y, inl h), refl))
  decided t x (z ∷ zs) sound full =
      let e = sound z (inl refl) in
      elim e.0.1 [ inl h ↦ inl (e.0.0, h) | inr h ↦ absurd h ]

  pub decide : (t : Nested) (x : Spot) →
      HasOne (TryEnds g (branch_lengths g t) (Ends g t) x)
      ⊎ HasNone (TryEnds g (branch_lengths g t) (Ends g t) x)
  decide t x =
      let u = tree.look false true true (tree.more t tree.none) in
      decided t x (ends_list g u x) (λ y h. (list_law g u x y).0 h) (λ y h. (list_law g u x y).1 h)

  pub more_hits : (t : Nested) (ts : Row) (back : Back) (entry hit m : ℕ) → HasBack t back →
      IsInner B (Ends g t) entry → (e : ℕ) (x : Spot) → IsNode nodes
      (Look (Some back) entry hit m) e →
      (HasOne (AnyEndsBehind g ts x) → From g nodes B end hit x.place →
      From g nodes B end m x.place) →
      HasOne (AnyEndsBehind g (tree.more t ts) x) → From g nodes B end hit x.place →
      From g nodes B end e x.place
  unfolding Ends
  more_hits t ts back entry hit m known inner e x p rest h f =
      elim (decide t x) [
        | inl a ↦
            let v = try_is g nodes B end t back known x a.0 a.1 in
            ended e x.place (Some back) entry hit m v.0 a.0.place p v.1
            (inner.so_ends (begun v.0 x) a.0 v.2, v.3) f
        | inr b ↦ missed e x.place (Some back) entry hit m p
            (λ q k c d. (
            let r = inner.ends_so (begun q x) k d.0 in
            b (spot k r.0) (try_so g nodes B end t back known q x (spot k r.0) c r.1 d.1)))
            (rest (elim h.1 [ inl u ↦ absurd (b h.0 u) | inr u ↦ (h.0, u) ]) f)
      ]

  pub more_misses : (t : Nested) (ts : Row) (back : Back) (entry hit m : ℕ) → HasBack t back →
      IsInner B (Ends g t) entry → (e : ℕ) (x : Spot) → IsNode nodes
      (Look (Some back) entry hit m) e →
      HasNone (AnyEndsBehind g (tree.more t ts) x) → From g nodes B end m x.place →
      From g nodes B end e x.place
  unfolding Ends
  more_misses t ts back entry hit m known inner e x p h f =
      missed e x.place (Some back) entry hit m p
      (λ q k c d. (
      let r = inner.ends_so (begun q x) k d.0 in
      h (spot k r.0) (inl (try_so g nodes B end t back known q x (spot k r.0) c r.1 d.1)))) f

  pub atomic_goes : (w : Way) (entry : ℕ) → IsInner B w entry → (e next : ℕ) (x y : Spot) →
      IsNode nodes (Atomic entry next) e → FurthestEnd g nodes B end w x y →
      From g nodes B end next y.place → From g nodes B end e x.place
  atomic_goes w entry inner e next x y p t f =
      went e x.place entry next y.place p (inner.so_ends x y t.0)
      (λ k b. let r = inner.ends_so x k b in t.1 (spot k r.0) r.1) f

  -- a place on the way is where the next state goes on
  pub moved_to : (q r : ℕ) (x y : Spot) → q ≡ r → y ≡ x → From g nodes B end r y.place →
      From g nodes B end q x.place
  moved_to q r x y same t f =
      subst (λ k. From g nodes B end k x.place) (sym same)
      (subst (λ i. From g nodes B end r i) (place_of y x t) f)

  abbrev GoTo : (ℕ → Type 0) → Way → ℕ → Type 0
  GoTo P w next = (e : ℕ) (x y : Spot) → P e → w x y → From g nodes B end next y.place →
      From g nodes B end e x.place

  choose_goes : (so not : Spot → Type 0) (v w : Way) (P Q : ℕ → Type 0) (next a b : ℕ) →
      GoTo P v next → GoTo Q w next → (e : ℕ) (x y : Spot) → P a → Q b →
      (so x → From g nodes B end a x.place → From g nodes B end e x.place) →
      (not x → From g nodes B end b x.place → From g nodes B end e x.place) →
      Chosen g nodes B end so not v w x y → From g nodes B end next y.place →
      From g nodes B end e x.place
  choose_goes so not v w P Q next a b h k e x y p q one other t f =
      elim t [
        | inl c ↦ one c.0 (h a x y p c.1 f)
        | inr c ↦ other c.0 (k b x y q c.1 f)
      ]

  -- the same of a test's nested paths, the other way
  abbrev pub TestGoes : Test → ℕ → Type 0
  TestGoes (tree.assert false positive once ts) (suc d) =
      (hit miss e : ℕ) (x : Spot) → BehindPlaced nodes ts d hit miss e →
      (HasOne (AnyEndsBehind g ts x) → From g nodes B end hit x.place →
      From g nodes B end e x.place)
      × (HasNone (AnyEndsBehind g ts x) → From g nodes B end miss x.place →
      From g nodes B end e x.place)
  TestGoes (tree.called c test) d = TestGoes test d
  TestGoes _ d = Unit {0}

  pub test_goes : (test : Test) (d : ℕ) (P Q : ℕ → Type 0) (v w : Way) (next : ℕ) →
      TestInner g nodes B end test d → TestGoes test d → GoTo P v next → GoTo Q w next →
      GoTo (TestPlaced nodes test d P Q)
      (Chosen g nodes B end (IsSo g test) (IsNot g test) v w) next
  unfolding Placed Ends
  test_goes tree.never d P Q v w next inner ways h k e x y p t f =
      elim t [ inl a ↦ absurd a.0 | inr b ↦ k e x y p b.1 f ]
  test_goes tree.in_call d P Q v w next inner ways h k e x y p t f =
      elim t [ inl a ↦ absurd a.0 | inr b ↦ k e x y p b.1 f ]
  test_goes (tree.any_set ns) d P Q v w next inner ways h k e x y p t f = absurd p
  test_goes (tree.in_call_of ns) d P Q v w next inner ways h k e x y p t f = absurd p
  test_goes (tree.assert true positive once ts) zero P Q v w next inner ways h k e x y p t f =
      absurd p
  test_goes (tree.assert true true once ts) (suc d) P Q v w next inner ways h k e x y p t f =
      choose_goes (λ x. HasOne (AnyEnds g ts x)) (λ x. HasNone (AnyEnds g ts x)) v w P Q next
      p.1 p.2 h k e x y p.5.0 p.5.1
      (ask_goes (AnyEnds g ts) p.0 p.1 p.2 (inner p.0 p.4) e x p.3)
      (ask_goes_not (AnyEnds g ts) p.0 p.1 p.2 (inner p.0 p.4) e x p.3) t f
  test_goes (tree.assert true false once ts) (suc d) P Q v w next inner ways h k e x y p t f =
      choose_goes (λ x. HasNone (AnyEnds g ts x)) (λ x. HasOne (AnyEnds g ts x)) v w P Q next
      p.2 p.1 h k e x y p.5.1 p.5.0
      (ask_goes_not (AnyEnds g ts) p.0 p.1 p.2 (inner p.0 p.4) e x p.3)
      (ask_goes (AnyEnds g ts) p.0 p.1 p.2 (inner p.0 p.4) e x p.3) t f
  test_goes (tree.assert false positive once ts) zero P Q v w next inner ways h k e x y p t f =
      absurd p
  test_goes (tree.assert false true once ts) (suc d) P Q v w next inner ways h k e x y p t f =
      let b = ways p.0 p.1 e x p.2 in
      choose_goes (λ x. HasOne (AnyEndsBehind g ts x)) (λ x. HasNone (AnyEndsBehind g ts x)) v w
      P Q next p.0 p.1 h k e x y p.3.0 p.3.1 b.0 b.1 t f
  test_goes (tree.assert false false once ts) (suc d) P Q v w next inner ways h k e x y p t f =
      let b = ways p.0 p.1 e x p.2 in
      choose_goes (λ x. HasNone (AnyEndsBehind g ts x)) (λ x. HasOne (AnyEndsBehind g ts x)) v w
      P Q next p.1 p.0 h k e x y p.3.1 p.3.0 b.1 b.0 t f
  test_goes (tree.called c test) d P Q v w next inner ways h k e x y p t f =
      test_goes test d P Q v w next inner ways h k e x y p t f

pub at_end : (g : Setting) (nodes : List Node) (B : Inner) (end q i : ℕ) →
    slice_get nodes q ≡ Some Match → Accepts g.scene nodes B end q i → i ≡ end
unfolding Among
at_end g nodes B end _ _ e (matched q i f same) = same
at_end g nodes B end _ _ e (moved q i a n f c t) =
    absurd (subst (λ n. Among a (moves g.scene n i)) (node_same n Match (sym f ∙ e)) c)
at_end g nodes B end _ _ e (landed q i j n f l t) =
    absurd (none_some j (subst (λ n. lands g.scene n i ≡ Some j) (node_same n Match (sym f ∙ e)) l))
at_end g nodes B end _ _ e (ended q i back entry hit miss p k f y b t) =
    absurd (look_match back entry hit miss
    (node_same (Look back entry hit miss) Match (sym f ∙ e)))
at_end g nodes B end _ _ e (missed q i back entry hit miss f none t) =
    absurd (look_match back entry hit miss
    (node_same (Look back entry hit miss) Match (sym f ∙ e)))
at_end g nodes B end _ _ e (went q i entry next j f b far t) =
    absurd (atomic_match entry next (node_same (Atomic entry next) Match (sym f ∙ e)))
