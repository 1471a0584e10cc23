-- What a path that begins in a fragment comes to.
use Rattle.std.proofs.Common.{◌≡◌, ◌∙◌, ℕ, zero, suc, ◌+◌, ◌-◌, ◌<◌, ◌≤◌, ◌⊎◌, true, false, List, Option, Some, None}
use Rattle.std.proofs.Common.{Bool, refl, sym, ap, subst, inl, inr, arith}
use Rattle.std.proofs.lemmas.Bool.{false≢true}
use Rattle.std.specs.Prelude.{◌==◌, slice_get}
use Rattle.pat_tree.specs.declared.nodes.Item.{Item}
use Rattle.pat_tree.specs.declared.nodes.AnchorKind.{AnchorKind}
use Rattle.pat_tree.specs.Nested as tree
use Rattle.pat_tree.specs.Nested.{Nested, Row, Test}
use Rattle.match_items.specs.Scene.{Scene}
use Rattle.match_items.specs.Items.{after_item, after_break, holds}
use Rattle.pat_lengths.specs.declared.backs.Back.{Back}
use Rattle.dfa_ends.specs.ordered_search.Setting.{Setting, branch_lengths}
use Rattle.dfa_ends.specs.Ends.{spot, Spot, Way, Among, HasOne, HasNone, Times, Within, Counted, begun, TryEnds}
use Rattle.dfa_ends.specs.Ends.{AnyEndsBehind, seen, ItemEnds, BreakEnds, AnchorEnds, Ends, AnyEnds, IsSo, IsNot}
use Rattle.dfa_paths.specs.declared.graph.Node.{Node}
use Rattle.dfa_paths.specs.declared.graph.Node.TheVariants.{One, Break, Anchor, Split, Goto, Look, Atomic, Dead, Match}
use Rattle.dfa_paths.specs.Graph.{nests, moves, lands, target, Inner, Begins, CountsAt, Tried, Accepts, matched, moved}
use Rattle.dfa_paths.specs.Graph.{landed, ended, missed, went}
use Rattle.dfa_paths.specs.Fragment.{Part, IsAt, IsNode, Copies, Options, Loop, Turns, Placed, AnyPlaced, TestPlaced}
use Rattle.dfa_paths.specs.Fragment.{HasBack, BehindPlaced}
use Rattle.dfa_paths.proofs.Places.{among_one}
use Rattle.dfa_paths.proofs.Short as short
use Rattle.dfa_paths.proofs.Short.{none_some, anchor_if, land_comes}
use Rattle.dfa_paths.proofs.Turns.{join}

pub node_same : (m n : Node) → ◌≡◌ {A = Option Node} (Some m) (Some n) → m ≡ n
node_same m n e = cc

split_match : (a b : ℕ) → ◌≡◌ {A = Node} (Split a b) Match → ⊥
split_match a b e = cc

goto_match : (a : ℕ) → ◌≡◌ {A = Node} (Goto a) Match → ⊥
goto_match a e = cc

one_match : (item : Item) (a : ℕ) → ◌≡◌ {A = Node} (One item a) Match → ⊥
one_match item a e = cc

break_match : (a : ℕ) → ◌≡◌ {A = Node} (Break a) Match → ⊥
break_match a e = cc

anchor_match : (kind : AnchorKind) (a : ℕ) → ◌≡◌ {A = Node} (Anchor kind a) Match → ⊥
anchor_match kind a e = cc

dead_match : ◌≡◌ {A = Node} Dead Match → ⊥
dead_match e = cc

pub look_match : (z : Option Back) (a b c : ℕ) → ◌≡◌ {A = Node} (Look z a b c) Match → ⊥
look_match z a b c e = cc

pub atomic_match : (a b : ℕ) → ◌≡◌ {A = Node} (Atomic a b) Match → ⊥
atomic_match a b e = cc

look_atomic : (z : Option Back) (a b c d e : ℕ) → ◌≡◌ {A = Node} (Look z a b c) (Atomic d e) → ⊥
look_atomic z a b c d e h = cc

same_back : (z : Option Back) (a b c : ℕ) (y : Option Back) (p q r : ℕ) → ◌≡◌ {A = Node} (Look z a b c) (Look y p q r)
    → z ≡ y
same_back z a b c y p q r e = cc

same_entry : (z : Option Back) (a b c : ℕ) (y : Option Back) (p q r : ℕ) → ◌≡◌ {A = Node} (Look z a b c) (Look y p q r)
    → a ≡ p
same_entry z a b c y p q r e = cc

same_hit : (z : Option Back) (a b c : ℕ) (y : Option Back) (p q r : ℕ) → ◌≡◌ {A = Node} (Look z a b c) (Look y p q r)
    → b ≡ q
same_hit z a b c y p q r e = cc

same_miss : (z : Option Back) (a b c : ℕ) (y : Option Back) (p q r : ℕ) → ◌≡◌ {A = Node} (Look z a b c) (Look y p q r)
    → c ≡ r
same_miss z a b c y p q r e = cc

same_inside : (a b p q : ℕ) → ◌≡◌ {A = Node} (Atomic a b) (Atomic p q) → a ≡ p
same_inside a b p q e = cc

same_next : (a b p q : ℕ) → ◌≡◌ {A = Node} (Atomic a b) (Atomic p q) → b ≡ q
same_next a b p q e = cc

-- a lookahead begins at its place
pub here_begins : (g : Scene) (i p : ℕ) → Begins g None i p → p ≡ i
here_begins g i p h = h

pub begins_here : (g : Scene) (i : ℕ) → Begins g None i i
begins_here g i = refl

-- nested paths from a state end as this way does
pub record IsInner (B : Inner) (w : Way) (entry : ℕ) : Type 0 where
  pub ends_so : (x : Spot) (j : ℕ) → B entry x.place j → (e : ℕ) × w x (spot j e)
  pub so_ends : (x y : Spot) → w x y → B entry x.place y.place

turned : (P Q : Type 0) → P ⊎ Q → Q ⊎ P
turned P Q h = elim h [ inl p ↦ inr p | inr q ↦ inl q ]

pub place_of : (y z : Spot) → y ≡ z → y.place ≡ z.place
place_of y z e = ap (λ w. w.place) e

module _ (g : Setting) (nodes : List Node) (B : Inner) (end : ℕ) where
  abbrev pub From : ℕ → ℕ → Type 0
  From = Accepts g.scene nodes B end

  -- how long a path is
  unfoldable pub size : (q i : ℕ) → From q i → ℕ
  size _ _ (matched q i e same) = 0
  size _ _ (moved q i a n e m t) = suc (size a i t)
  size _ _ (landed q i j n e l t) = suc (size (target n) j t)
  size _ _ (ended q i back entry hit miss p k e y b t) = suc (size hit i t)
  size _ _ (missed q i back entry hit miss e none t) = suc (size miss i t)
  size _ _ (went q i entry next j e b far t) = suc (size next j t)

  -- a path of fewer than n steps
  abbrev pub Short : ℕ → ℕ → ℕ → Type 0
  Short = short.Short nodes From size

  move_short : (n q p i : ℕ) → q ≡ p → Short n q i → Short n p i
  move_short = short.move_short nodes From size

  pub longer : (n m q i : ℕ) → n ≤ m → Short n q i → Short m q i
  longer = short.longer nodes From size

  -- the first step of a path, where the state nests nothing
  abbrev Next : ℕ → ℕ → Node → Type 0
  Next m i n =
      (n ≡ Match) ⊎ ((a : ℕ) × Among a (moves g.scene n i) × Short m a i)
      ⊎ ((j : ℕ) × (lands g.scene n i ≡ Some j) × Short m (target n) j)

  nests_not : (q : ℕ) (n k : Node) → nests n ≡ false → slice_get nodes q ≡ Some n →
      slice_get nodes q ≡ Some k → nests k ≡ true → ⊥
  nests_not q n k flat e f h =
      false≢true (sym flat ∙ ap nests (node_same n k (sym e ∙ f)) ∙ h)

  at_node : (m q i : ℕ) (n : Node) → nests n ≡ false → slice_get nodes q ≡ Some n →
      (t : From q i) →
      size q i t < suc m → Next m i n
  unfolding size
  at_node m _ _ n flat e (matched q i f same) l = inl (sym (node_same Match n (sym f ∙ e)))
  at_node m _ _ n flat e (moved q i a k f c t) l =
      subst (Next m i) (node_same k n (sym f ∙ e)) (inr (inl (a, c, (t, omega (arith, l)))))
  at_node m _ _ n flat e (landed q i j k f c t) l =
      subst (Next m i) (node_same k n (sym f ∙ e)) (inr (inr (j, c, (t, omega (arith, l)))))
  at_node m _ _ n flat e (ended q i back entry hit miss p k f y b t) l =
      absurd (nests_not q n (Look back entry hit miss) flat e f refl)
  at_node m _ _ n flat e (missed q i back entry hit miss f none t) l =
      absurd (nests_not q n (Look back entry hit miss) flat e f refl)
  at_node m _ _ n flat e (went q i entry next j f b far t) l =
      absurd (nests_not q n (Atomic entry next) flat e f refl)

  -- the first step at a lookaround
  at_look : (m q i : ℕ) (back : Option Back) (entry hit miss : ℕ) →
      slice_get nodes q ≡ Some (Look back entry hit miss) →
      (t : From q i) → size q i t < suc m →
      (((p : ℕ) × (k : ℕ) × Begins g.scene back i p × Tried B back i entry p k) × Short m hit i)
      ⊎ (((p k : ℕ) → Begins g.scene back i p → Tried B back i entry p k → ⊥) × Short m miss i)
  unfolding size Among
  at_look m _ _ back entry hit miss e (matched q i f same) l =
      absurd (look_match back entry hit miss
      (node_same (Look back entry hit miss) Match (sym e ∙ f)))
  at_look m _ _ back entry hit miss e (moved q i a k f c t) l =
      absurd (subst (λ n. Among a (moves g.scene n i))
      (node_same k (Look back entry hit miss) (sym f ∙ e)) c)
  at_look m _ _ back entry hit miss e (landed q i j k f c t) l =
      absurd (none_some j (subst (λ n. lands g.scene n i ≡ Some j)
      (node_same k (Look back entry hit miss) (sym f ∙ e)) c))
  at_look m _ _ back entry hit miss e (ended q i z a b c p k f x y t) l =
      let s = node_same (Look z a b c) (Look back entry hit miss) (sym f ∙ e) in
      let r : a ≡ entry = same_entry z a b c back entry hit miss s in
      let u : z ≡ back = same_back z a b c back entry hit miss s in
      inl (
        (
          p,
          k,
          subst (λ v. Begins g.scene v i p) u x,
          subst (λ v. Tried B v i entry p k) u (subst (λ v. Tried B z i v p k) r y),
        ),
        move_short m b hit i (same_hit z a b c back entry hit miss s) (t, omega (arith, l)),
      )
  at_look m _ _ back entry hit miss e (missed q i z a b c f none t) l =
      let s = node_same (Look z a b c) (Look back entry hit miss) (sym f ∙ e) in
      let r : a ≡ entry = same_entry z a b c back entry hit miss s in
      let u : z ≡ back = same_back z a b c back entry hit miss s in
      inr (
        subst (λ v. (p k : ℕ) → Begins g.scene v i p → Tried B v i entry p k → ⊥) u
            (subst (λ v. (p k : ℕ) → Begins g.scene z i p → Tried B z i v p k → ⊥) r none),
        move_short m c miss i (same_miss z a b c back entry hit miss s) (t, omega (arith, l)),
      )
  at_look m _ _ back entry hit miss e (went q i a next j f y far t) l =
      absurd (look_atomic back entry hit miss a next
      (node_same (Look back entry hit miss) (Atomic a next) (sym e ∙ f)))

  -- the first step at an atomic group
  at_atomic : (m q i entry next : ℕ) → slice_get nodes q ≡ Some (Atomic entry next) →
      (t : From q i) → size q i t < suc m →
      (j : ℕ) × B entry i j × ((k : ℕ) → B entry i k → k ≤ j) × Short m next j
  unfolding size Among
  at_atomic m _ _ entry next e (matched q i f same) l =
      absurd (atomic_match entry next (node_same (Atomic entry next) Match (sym e ∙ f)))
  at_atomic m _ _ entry next e (moved q i a k f c t) l =
      absurd (subst (λ n. Among a (moves g.scene n i))
      (node_same k (Atomic entry next) (sym f ∙ e)) c)
  at_atomic m _ _ entry next e (landed q i j k f c t) l =
      absurd (none_some j (subst (λ n. lands g.scene n i ≡ Some j)
      (node_same k (Atomic entry next) (sym f ∙ e)) c))
  at_atomic m _ _ entry next e (ended q i z a b c p k f x y t) l =
      absurd (look_atomic z a b c entry next
      (node_same (Look z a b c) (Atomic entry next) (sym f ∙ e)))
  at_atomic m _ _ entry next e (missed q i z a b c f none t) l =
      absurd (look_atomic z a b c entry next
      (node_same (Look z a b c) (Atomic entry next) (sym f ∙ e)))
  at_atomic m _ _ entry next e (went q i a b j f y far t) l =
      let s = node_same (Atomic a b) (Atomic entry next) (sym f ∙ e) in
      let h : a ≡ entry = same_inside a b entry next s in (
        j,
        subst (λ r. B r i j) h y,
        subst (λ r. (k : ℕ) → B r i k → k ≤ j) h far,
        move_short m b next j (same_next a b entry next s) (t, omega (arith, l)),
      )

  pub at_split : (m q a b i : ℕ) → slice_get nodes q ≡ Some (Split a b) → (t : From q i) →
      size q i t < suc m →
      Short m a i ⊎ Short m b i
  unfolding Among
  at_split m q a b i e t l =
      elim (at_node m q i (Split a b) refl e t l) [
        | inl f ↦ absurd (split_match a b f)
        | inr r ↦ elim r [
          | inl c ↦ elim c.1 [
            | inl f ↦ inl (move_short m c.0 a i f c.2)
            | inr f ↦ inr (move_short m c.0 b i (among_one c.0 b f) c.2)
          ]
          | inr c ↦ absurd (none_some c.0 c.1)
        ]
      ]

  at_goto : (m q a i : ℕ) → slice_get nodes q ≡ Some (Goto a) → (t : From q i) →
      size q i t < suc m → Short m a i
  unfolding Among
  at_goto m q a i e t l =
      elim (at_node m q i (Goto a) refl e t l) [
        | inl f ↦ absurd (goto_match a f)
        | inr r ↦ elim r [
          | inl c ↦ move_short m c.0 a i (among_one c.0 a c.1) c.2
          | inr c ↦ absurd (none_some c.0 c.1)
        ]
      ]

  at_dead : (m q i : ℕ) → slice_get nodes q ≡ Some Dead → (t : From q i) → size q i t < suc m → ⊥
  unfolding Among
  at_dead m q i e t l =
      elim (at_node m q i Dead refl e t l) [
        | inl f ↦ dead_match f
        | inr r ↦ elim r [ inl c ↦ c.1 | inr c ↦ none_some c.0 c.1 ]
      ]

  -- what a short path from the fragment comes to: a path from the next state that is not longer
  abbrev Comes : Way → ℕ → ℕ → Spot → Type 0
  Comes w n next x = (y : Spot) × w x y × Short n next y.place

  abbrev pub ComeAll : Part → Way → Type 0
  ComeAll P w = (n e next : ℕ) (x : Spot) → P e next → Short n e x.place → Comes w n next x

  pub comes_here : (n e next : ℕ) (x : Spot) → IsAt nodes e next → Short n e x.place →
      Short n next x.place
  comes_here = short.comes_here nodes From size at_goto

  pub item_comes : (item : Item) → ComeAll (λ e next. IsNode nodes (One item next) e) (ItemEnds g item)
  unfolding Among
  item_comes item zero e next x p s = absurd (omega (arith, s.1))
  item_comes item (suc n) e next x p s =
      elim (at_node n e x.place (One item next) refl p s.0 s.1) [
        | inl f ↦ absurd (one_match item next f)
        | inr r ↦ elim r [
          | inl c ↦ absurd c.1
          | inr c ↦ land_comes nodes From size n next (after_item g.scene item x.place) x c.0 c.1 c.2
        ]
      ]

  pub break_comes : ComeAll (λ e next. IsNode nodes (Break next) e) (BreakEnds g)
  unfolding Among
  break_comes zero e next x p s = absurd (omega (arith, s.1))
  break_comes (suc n) e next x p s =
      elim (at_node n e x.place (Break next) refl p s.0 s.1) [
        | inl f ↦ absurd (break_match next f)
        | inr r ↦ elim r [
          | inl c ↦ absurd c.1
          | inr c ↦ land_comes nodes From size n next (after_break g.scene x.place) x c.0 c.1 c.2
        ]
      ]

  pub anchor_comes : (kind : AnchorKind) →
      ComeAll (λ e next. IsNode nodes (Anchor kind next) e) (AnchorEnds g kind)
  anchor_comes kind zero e next x p s = absurd (omega (arith, s.1))
  anchor_comes kind (suc n) e next x p s =
      elim (at_node n e x.place (Anchor kind next) refl p s.0 s.1) [
        | inl f ↦ absurd (anchor_match kind next f)
        | inr r ↦ elim r [
          | inl c ↦
              let k = anchor_if (holds g.scene kind x.place) next c.0 c.1 in (
                seen g kind x,
                (k.0, refl),
                longer n (suc n) next x.place (omega arith)
                    (move_short n c.0 next x.place k.1 c.2),
              )
          | inr c ↦ absurd (none_some c.0 c.1)
        ]
      ]

  copies_come : (P : Part) (w : Way) → ComeAll P w → (k : ℕ) →
      ComeAll (Copies nodes P k) (Times w k)
  unfolding Copies Times
  copies_come P w h zero n e next x p s = (x, refl, comes_here n e next x p s)
  copies_come P w h (suc k) n e next x p s =
      let r = h n e p.0 x p.1 s in
      let q = copies_come P w h k n p.0 next r.0 p.2 r.2 in
      (q.0, (r.0, r.1, q.1), q.2)

  abbrev AtMost : Way → ℕ → Way
  AtMost w k x y = (c : ℕ) × (c ≤ k) × Times w c x y

  options_come : (P : Part) (w : Way) → ComeAll P w → (k : ℕ) →
      ComeAll (Options nodes P k) (AtMost w k)
  unfolding Options Times
  options_come P w h zero n e next x p s = (x, (0, omega arith, refl), comes_here n e next x p s)
  options_come P w h (suc k) zero e next x p s = absurd (omega (arith, s.1))
  options_come P w h (suc k) (suc n) e next x p s =
      elim (at_split n e p.0 next x.place p.3 s.0 s.1) [
        | inl a ↦
            let r = h n p.0 p.1 x p.4 a in
            let q = options_come P w h k n p.2 next r.0 p.6 (comes_here n p.1 p.2 r.0 p.5 r.2) in (
              q.0,
              (suc q.1.0, omega (arith, q.1.1), (r.0, r.1, q.1.2)),
              longer n (suc n) next
                  q.0.place (omega arith) q.2,
            )
        | inr b ↦ (x, (0, omega arith, refl), longer n (suc n) next x.place (omega arith) b)
      ]

  abbrev AnyTimes : Way → Way
  AnyTimes w x y = (c : ℕ) × Times w c x y

  loop_comes : (P : Part) (w : Way) → ComeAll P w → ComeAll (Loop nodes P) (AnyTimes w)
  unfolding Times
  loop_comes P w h zero e next x p s = absurd (omega (arith, s.1))
  loop_comes P w h (suc n) e next x p s =
      elim (at_split n e p.0 next x.place p.1 s.0 s.1) [
        | inl a ↦
            let r = h n p.0 e x p.2 a in
            let q = loop_comes P w h n e next r.0 p r.2 in
            (q.0, (suc q.1.0, (r.0, r.1, q.1.1)), longer n (suc n) next q.0.place (omega arith) q.2)
        | inr b ↦ (x, (0, refl), longer n (suc n) next x.place (omega arith) b)
      ]

  abbrev pub Bounded : Way → ℕ → Option ℕ → Way
  Bounded w low high x y = (n : ℕ) × Within low high n × Times w n x y

  pub turns_come : (P : Part) (w : Way) → ComeAll P w → (low : ℕ) (high : Option ℕ) →
      ComeAll (Turns nodes P low high) (Bounded w low high)
  turns_come P w h low None n e next x p s =
      let r = copies_come P w h low n e p.0 x p.1 s in
      let q = loop_comes P w h n p.0 next r.0 p.2 r.2 in
      (q.0, (low + q.1.0, omega arith, join w low q.1.0 x r.0 q.0 r.1 q.1.1), q.2)
  turns_come P w h low (Some high) n e next x p s =
      let r = copies_come P w h low n e p.0 x p.1 s in
      let q = options_come P w h (high - low) n p.0 next r.0 p.2.1 r.2 in
      let l : low ≤ high = p.2.0 in (
        q.0,
        (
          low + q.1.0,
          (omega arith, omega (arith, q.1.1, l)),
          join w low q.1.0 x r.0 q.0 r.1
              q.1.2,
        ),
        q.2,
      )

  pub dead_short : (n q i : ℕ) → slice_get nodes q ≡ Some Dead → Short n q i → ⊥
  dead_short zero q i e s = absurd (omega (arith, s.1))
  dead_short (suc n) q i e s = at_dead n q i e s.0 s.1

  -- whether nested paths have an end decides
  ask_comes : (w : Way) (entry hit miss : ℕ) → IsInner B w entry → (n e : ℕ) (x : Spot) →
      IsNode nodes (Look None entry hit miss) e → Short (suc n) e x.place →
      (HasOne (w x) × Short n hit x.place) ⊎ (HasNone (w x) × Short n miss x.place)
  ask_comes w entry hit miss inner n e x p s =
      elim (at_look n e x.place None entry hit miss p s.0 s.1) [
        | inl a ↦
            let h = here_begins g.scene x.place a.0.0 a.0.2 in
            let r = inner.ends_so x a.0.1 (subst (λ q. B entry q a.0.1) h a.0.3) in
            inl ((spot a.0.1 r.0, r.1), a.1)
        | inr b ↦ inr (
          λ y h. b.0 x.place y.place (begins_here g.scene x.place) (inner.so_ends x y h),
          b.1,
        )
      ]

  -- The branches of a lookbehind.

  -- whether there is one decides, by a path that is not longer
  abbrev pub Asked : (Spot → Type 0) → ℕ → ℕ → ℕ → ℕ → Type 0
  Asked Y n hit miss i = (HasOne Y × Short n hit i) ⊎ (HasNone Y × Short n miss i)

  asked_longer : (Y : Spot → Type 0) (n hit miss i : ℕ) → Asked Y n hit miss i →
      Asked Y (suc n) hit miss i
  asked_longer Y n hit miss i h =
      elim h [
        | inl a ↦ inl (a.0, longer n (suc n) hit i (omega arith) a.1)
        | inr b ↦ inr (b.0, longer n (suc n) miss i (omega arith) b.1)
      ]

  asked_here : (w : Way) (entry hit miss : ℕ) → IsInner B w entry → (n e : ℕ) (x : Spot) →
      IsNode nodes (Look None entry hit miss) e → Short n e x.place →
      Asked (w x) n hit miss x.place
  asked_here w entry hit miss inner zero e x p s = absurd (omega (arith, s.1))
  asked_here w entry hit miss inner (suc n) e x p s =
      asked_longer (w x) n hit miss x.place (ask_comes w entry hit miss inner n e x p s)

  pub counted_so : (b : Bool) (x y : Spot) → CountsAt b x.place y.place → Counted b x y
  counted_so true x y c = c
  counted_so false x y c = c

  pub counted_is : (b : Bool) (x y : Spot) → Counted b x y → CountsAt b x.place y.place
  counted_is true x y c = c
  counted_is false x y c = c

  pub try_so : (t : Nested) (back : Back) → HasBack t back → (p : ℕ) (x y : Spot) →
      Begins g.scene (Some back) x.place p → Ends g t (begun p x) y →
      CountsAt (back.least == back.most) x.place y.place →
      TryEnds g (branch_lengths g t) (Ends g t) x y
  try_so t back known p x y b h c =
      subst (λ l. TryEnds g l (Ends g t) x y) (sym (known g.options.match_unset_backref g.whole))
      (p, b, h, counted_so (back.least == back.most) x y c)

  pub try_is : (t : Nested) (back : Back) → HasBack t back → (x y : Spot) →
      TryEnds g (branch_lengths g t) (Ends g t) x y →
      (p : ℕ) × Begins g.scene (Some back) x.place p × Ends g t (begun p x) y
      × CountsAt (back.least == back.most) x.place y.place
  try_is t back known x y h =
      let k = subst (λ l. TryEnds g l (Ends g t) x y)
      (known g.options.match_unset_backref g.whole) h in
      (k.0, k.1, k.2, counted_is (back.least == back.most) x y k.3)

  pub more_comes : (t : Nested) (ts : Row) (back : Back) (entry hit m miss : ℕ) → HasBack t back →
      IsInner B (Ends g t) entry → (n e : ℕ) (x : Spot) → IsNode nodes (Look (Some back) entry hit m) e →
      ((k : ℕ) → Short k m x.place → Asked (AnyEndsBehind g ts x) k hit miss x.place) →
      Short n e x.place → Asked (AnyEndsBehind g (tree.more t ts) x) n hit miss x.place
  unfolding Ends
  more_comes t ts back entry hit m miss known inner zero e x p rest s =
      absurd (omega (arith, s.1))
  more_comes t ts back entry hit m miss known inner (suc n) e x p rest s =
      elim (at_look n e x.place (Some back) entry hit m p s.0 s.1) [
        | inl a ↦
            let r = inner.ends_so (begun a.0.0 x) a.0.1 a.0.3.0 in
            let y = try_so t back known a.0.0 x (spot a.0.1 r.0) a.0.2 r.1 a.0.3.1 in
            inl ((spot a.0.1 r.0, inl y), longer n (suc n) hit x.place (omega arith) a.1)
        | inr b ↦ elim (rest n b.1) [
          | inl c ↦ inl (
            (c.0.0, inr c.0.1),
            longer n (suc n) hit x.place (omega arith) c.1,
          )
          | inr c ↦ inr (
            λ y h. (elim h [
              | inl u ↦
                  let v = try_is t back known x y u in
                  b.0 v.0 y.place v.1 (inner.so_ends (begun v.0 x) y v.2, v.3)
              | inr u ↦ c.0 y u
            ]),
            longer n (suc n) miss x.place (omega arith) c.1,
          )
        ]
      ]

  pub behind_comes_to : (Y : Spot → Type 0) (n next hit miss : ℕ) (x : Spot) →
      Asked Y n hit miss x.place → IsAt nodes hit next → IsNode nodes Dead miss →
      (y : Spot) × (HasOne Y × (y ≡ x)) × Short n next y.place
  behind_comes_to Y n next hit miss x a same dead =
      elim a [
        | inl b ↦ (x, (b.0, refl), comes_here n hit next x same b.1)
        | inr b ↦ absurd (dead_short n miss x.place dead b.1)
      ]

  pub behind_comes_not : (Y : Spot → Type 0) (n next hit miss : ℕ) (x : Spot) →
      Asked Y n hit miss x.place → IsNode nodes Dead hit → IsAt nodes miss next →
      (y : Spot) × (HasNone Y × (y ≡ x)) × Short n next y.place
  behind_comes_not Y n next hit miss x a dead same =
      elim a [
        | inl b ↦ absurd (dead_short n hit x.place dead b.1)
        | inr b ↦ (x, (b.0, refl), comes_here n miss next x same b.1)
      ]

  pub look_comes : (w : Way) (entry hit : ℕ) → IsInner B w entry → (n e next : ℕ) (x : Spot) →
      (miss : ℕ) → IsNode nodes (Look None entry hit miss) e → hit ≡ next → IsNode nodes Dead miss →
      Short n e x.place → Comes (λ x y. HasOne (w x) × (y ≡ x)) n next x
  look_comes w entry hit inner zero e next x miss p same dead s = absurd (omega (arith, s.1))
  look_comes w entry hit inner (suc n) e next x miss p same dead s =
      elim (ask_comes w entry hit miss inner n e x p s) [
        | inl a ↦ (
          x,
          (a.0, refl),
          longer n (suc n) next x.place (omega arith) (move_short n hit next x.place same a.1),
        )
        | inr b ↦ absurd (dead_short n miss x.place dead b.1)
      ]

  pub miss_comes : (w : Way) (entry miss : ℕ) → IsInner B w entry → (n e next : ℕ) (x : Spot) →
      (hit : ℕ) → IsNode nodes (Look None entry hit miss) e → IsNode nodes Dead hit → miss ≡ next →
      Short n e x.place → Comes (λ x y. HasNone (w x) × (y ≡ x)) n next x
  miss_comes w entry miss inner zero e next x hit p dead same s = absurd (omega (arith, s.1))
  miss_comes w entry miss inner (suc n) e next x hit p dead same s =
      elim (ask_comes w entry hit miss inner n e x p s) [
        | inl a ↦ absurd (dead_short n hit x.place dead a.1)
        | inr b ↦ (
          x,
          (b.0, refl),
          longer n (suc n) next x.place (omega arith) (move_short n miss next x.place same b.1),
        )
      ]

  abbrev pub FurthestEnd : Way → Way
  FurthestEnd w x y = w x y × ((z : Spot) → w x z → z.place ≤ y.place)

  pub atomic_comes : (w : Way) (entry : ℕ) → IsInner B w entry → (n e next : ℕ) (x : Spot) →
      IsNode nodes (Atomic entry next) e → Short n e x.place → Comes (FurthestEnd w) n next x
  atomic_comes w entry inner zero e next x p s = absurd (omega (arith, s.1))
  atomic_comes w entry inner (suc n) e next x p s =
      let r = at_atomic n e x.place entry next p s.0 s.1 in
      let a = inner.ends_so x r.0 r.1 in (
        spot r.0 a.0,
        (a.1, λ z h. r.2 z.place (inner.so_ends x z h)),
        longer n (suc n) next r.0 (omega arith) r.3,
      )

  -- from a state on, to a state
  abbrev ComeTo : (ℕ → Type 0) → Way → ℕ → Type 0
  ComeTo P w next = (n e : ℕ) (x : Spot) → P e → Short n e x.place → Comes w n next x

  -- one of two ways, where the one is chosen
  abbrev pub Chosen : (Spot → Type 0) → (Spot → Type 0) → Way → Way → Way
  Chosen so not v w x y = (so x × v x y) ⊎ (not x × w x y)

  choose_comes : (so not : Spot → Type 0) (v w : Way) (P Q : ℕ → Type 0) (next n a b : ℕ)
      (x : Spot) → ComeTo P v next → ComeTo Q w next → P a → Q b →
      (so x × Short n a x.place) ⊎ (not x × Short n b x.place) →
      Comes (Chosen so not v w) n next x
  choose_comes so not v w P Q next n a b x h k p q asked =
      elim asked [
        | inl c ↦ let r = h n a x p c.1 in (r.0, inl (c.0, r.1), r.2)
        | inr c ↦ let r = k n b x q c.1 in (r.0, inr (c.0, r.1), r.2)
      ]

  -- what is known of a test's nested paths
  abbrev pub TestInner : Test → ℕ → Type 0
  TestInner (tree.assert true positive once ts) (suc d) =
      (entry : ℕ) → AnyPlaced nodes ts d entry 1 → IsInner B (AnyEnds g ts) entry
  TestInner (tree.assert false positive once ts) (suc d) =
      (n hit miss e : ℕ) (x : Spot) → BehindPlaced nodes ts d hit miss e → Short n e x.place →
      Asked (AnyEndsBehind g ts x) n hit miss x.place
  TestInner (tree.called c test) d = TestInner test d
  TestInner _ d = Unit {0}

  pub test_comes : (test : Test) (d : ℕ) (P Q : ℕ → Type 0) (v w : Way) (next : ℕ) →
      TestInner test d → ComeTo P v next → ComeTo Q w next →
      ComeTo (TestPlaced nodes test d P Q) (Chosen (IsSo g test) (IsNot g test) v w) next
  unfolding Placed Ends
  test_comes tree.never d P Q v w next inner h k n e x p s =
      let r = k n e x p s in (r.0, inr (tt, r.1), r.2)
  test_comes tree.in_call d P Q v w next inner h k n e x p s =
      let r = k n e x p s in (r.0, inr (tt, r.1), r.2)
  test_comes (tree.any_set ns) d P Q v w next inner h k n e x p s = absurd p
  test_comes (tree.in_call_of ns) d P Q v w next inner h k n e x p s = absurd p
  test_comes (tree.assert true positive once ts) zero P Q v w next inner h k n e x p s = absurd p
  test_comes (tree.assert true true once ts) (suc d) P Q v w next inner h k n e x p s =
      choose_comes (λ x. HasOne (AnyEnds g ts x)) (λ x. HasNone (AnyEnds g ts x)) v w P Q next n
      p.1 p.2 x h k p.5.0 p.5.1
      (asked_here (AnyEnds g ts) p.0 p.1 p.2 (inner p.0 p.4) n e x p.3 s)
  test_comes (tree.assert true false once ts) (suc d) P Q v w next inner h k n e x p s =
      choose_comes (λ x. HasNone (AnyEnds g ts x)) (λ x. HasOne (AnyEnds g ts x)) v w P Q next n
      p.2 p.1 x h k p.5.1 p.5.0
      (turned _ _ (asked_here (AnyEnds g ts) p.0 p.1 p.2 (inner p.0 p.4) n e x p.3 s))
  test_comes (tree.assert false positive once ts) zero P Q v w next inner h k n e x p s = absurd p
  test_comes (tree.assert false true once ts) (suc d) P Q v w next inner h k n e x p s =
      choose_comes (λ x. HasOne (AnyEndsBehind g ts x)) (λ x. HasNone (AnyEndsBehind g ts x)) v w
      P Q next n p.0 p.1 x h k p.3.0 p.3.1 (inner n p.0 p.1 e x p.2 s)
  test_comes (tree.assert false false once ts) (suc d) P Q v w next inner h k n e x p s =
      choose_comes (λ x. HasNone (AnyEndsBehind g ts x)) (λ x. HasOne (AnyEndsBehind g ts x)) v w
      P Q next n p.1 p.0 x h k p.3.1 p.3.0 (turned _ _ (inner n p.0 p.1 e x p.2 s))
  test_comes (tree.called c test) d P Q v w next inner h k n e x p s =
      test_comes test d P Q v w next inner h k n e x p s
