-- What a path that meets the subject's end passes in a fragment.
use Rattle.std.proofs.Common.{◌≡◌, ◌∙◌, ℕ, zero, suc, ◌+◌, ◌-◌, ◌<◌, ◌≤◌, ◌⊎◌, Bool, false, List, Option, Some, None}
use Rattle.std.proofs.Common.{refl, sym, subst, inl, inr, arith}
use Rattle.std.proofs.lemmas.Bool.{false≢true}
use Rattle.std.specs.Prelude.{IsTrue, not, slice_get}
use Rattle.pat_tree.specs.declared.nodes.Item.{Item}
use Rattle.pat_tree.specs.declared.nodes.AnchorKind.{AnchorKind}
use Rattle.match_items.specs.Items.{after_item, after_break, holds}
use Rattle.pat_lengths.specs.declared.backs.Back.{Back}
use Rattle.dfa_ends.specs.ordered_search.Setting.{Setting}
use Rattle.dfa_ends.specs.Ends.{Spot, spot, Spots, Way, Among, HasOne, HasNone, Times, Within, Below, seen, ItemEnds}
use Rattle.dfa_ends.specs.Ends.{BreakEnds, AnchorEnds, ItemReaches, BreakReaches, AnchorReaches}
use Rattle.dfa_paths.specs.declared.graph.Node.{Node}
use Rattle.dfa_paths.specs.declared.graph.Node.TheVariants.{One, Break, Anchor, Split, Goto, Look, Atomic, Dead, Match}
use Rattle.dfa_paths.specs.Graph.{Inner, Furthest, Begins, Tried, Follows, Leaps, lands, target}
use Rattle.dfa_paths.specs.Meets.{Meeting, Asks, Telling, Meets, met, followed, leapt, took}
use Rattle.dfa_paths.specs.Fragment.{Part, IsAt, IsNode, Copies, Options, Loop, Turns}
use Rattle.dfa_paths.proofs.Places.{among_one}
use Rattle.dfa_paths.proofs.Counting.{Good, IsBefore, item_counts, break_counts, anchor_counts}
use Rattle.dfa_paths.proofs.Short as short
use Rattle.dfa_paths.proofs.Short.{none_some, anchor_if, land_comes}
use Rattle.dfa_paths.proofs.Coming.{IsInner, node_same, here_begins, begins_here}
use Rattle.dfa_paths.proofs.Turns.{join}

-- nothing tells
untold : IsTrue false ⊎ ⊥ → ⊥
untold h = elim h [ inl t ↦ false≢true t | inr z ↦ z ]

-- a further turn may be made, which meets the end
abbrev pub TurnReaches : (ℕ → Type 0) → Way → Spots → Spots
TurnReaches may w R x = (c : ℕ) × (z : Spot) × may c × Times w c x z × R z

module _ (g : Setting) (nodes : List Node) (counts : Bool) (B : Inner) (M : Meeting) where
  abbrev pub From : ℕ → ℕ → Type 0
  From = Meets g.scene nodes counts B M

  -- how long a path is
  unfoldable pub size : (q i : ℕ) → From q i → ℕ
  size _ _ (met q i n e y) = 0
  size _ _ (followed q i a n e f t) = suc (size a i t)
  size _ _ (leapt q i j a n e f t) = suc (size a j t)
  size _ _ (took q i j n e l t) = suc (size (target n) j t)

  -- a path of fewer than n steps
  abbrev pub Short : ℕ → ℕ → ℕ → Type 0
  Short = short.Short nodes From size

  move_short : (n q p i : ℕ) → q ≡ p → Short n q i → Short n p i
  move_short = short.move_short nodes From size

  pub longer : (n m q i : ℕ) → n ≤ m → Short n q i → Short m q i
  longer = short.longer nodes From size

  -- the first step of a path
  abbrev Next : ℕ → ℕ → Node → Type 0
  Next m i n =
      Telling g.scene nodes counts B M n i
      ⊎ ((a : ℕ) × Follows g.scene B n i a × Short m a i)
      ⊎ ((j : ℕ) × (a : ℕ) × Leaps B n i j a × Short m a j)
      ⊎ ((j : ℕ) × (lands g.scene n i ≡ Some j) × Short m (target n) j)

  at_node : (m q i : ℕ) (n : Node) → slice_get nodes q ≡ Some n → (t : From q i) →
      size q i t < suc m → Next m i n
  unfolding size
  at_node m _ _ n e (met q i k f y) l =
      subst (Next m i) (node_same k n (sym f ∙ e)) (inl y)
  at_node m _ _ n e (followed q i a k f c t) l =
      subst (Next m i) (node_same k n (sym f ∙ e)) (inr (inl (a, c, (t, omega (arith, l)))))
  at_node m _ _ n e (leapt q i j a k f c t) l =
      subst (Next m i) (node_same k n (sym f ∙ e))
      (inr (inr (inl (j, a, c, (t, omega (arith, l))))))
  at_node m _ _ n e (took q i j k f c t) l =
      subst (Next m i) (node_same k n (sym f ∙ e)) (inr (inr (inr (j, c, (t, omega (arith, l))))))

  pub at_split : (m q a b i : ℕ) → slice_get nodes q ≡ Some (Split a b) → (t : From q i) →
      size q i t < suc m → Short m a i ⊎ Short m b i
  unfolding Among
  at_split m q a b i e t l =
      elim (at_node m q i (Split a b) e t l) [
        | inl y ↦ absurd (untold y)
        | inr r ↦ elim r [
          | inl c ↦ elim c.1 [
            | inl f ↦ inl (move_short m c.0 a i f c.2)
            | inr f ↦ inr (move_short m c.0 b i (among_one c.0 b f) c.2)
          ]
          | inr s ↦ elim s [ inl c ↦ absurd c.2 | inr c ↦ absurd (none_some c.0 c.1) ]
        ]
      ]

  at_goto : (m q a i : ℕ) → slice_get nodes q ≡ Some (Goto a) → (t : From q i) →
      size q i t < suc m → Short m a i
  unfolding Among
  at_goto m q a i e t l =
      elim (at_node m q i (Goto a) e t l) [
        | inl y ↦ absurd (untold y)
        | inr r ↦ elim r [
          | inl c ↦ move_short m c.0 a i (among_one c.0 a c.1) c.2
          | inr s ↦ elim s [ inl c ↦ absurd c.2 | inr c ↦ absurd (none_some c.0 c.1) ]
        ]
      ]

  at_dead : (m q i : ℕ) → slice_get nodes q ≡ Some Dead → (t : From q i) → size q i t < suc m → ⊥
  unfolding Among
  at_dead m q i e t l =
      elim (at_node m q i Dead e t l) [
        | inl y ↦ untold y
        | inr r ↦ elim r [
          | inl c ↦ c.1
          | inr s ↦ elim s [ inl c ↦ c.2 | inr c ↦ none_some c.0 c.1 ]
        ]
      ]

  -- the end of a path meets nothing
  pub at_match : (q i : ℕ) → slice_get nodes q ≡ Some Match → From q i → ⊥
  unfolding Among
  at_match q i e t =
      elim (at_node (size q i t) q i Match e t (omega arith)) [
        | inl y ↦ untold y
        | inr r ↦ elim r [
          | inl c ↦ c.1
          | inr s ↦ elim s [ inl c ↦ c.2 | inr c ↦ none_some c.0 c.1 ]
        ]
      ]

  pub dead_short : (n q i : ℕ) → slice_get nodes q ≡ Some Dead → Short n q i → ⊥
  dead_short zero q i e s = absurd (omega (arith, s.1))
  dead_short (suc n) q i e s = at_dead n q i e s.0 s.1

  -- the first step at a lookaround
  pub at_look : (m q i : ℕ) (back : Option Back) (entry hit miss : ℕ) →
      slice_get nodes q ≡ Some (Look back entry hit miss) → (t : From q i) →
      size q i t < suc m →
      Asks g.scene nodes counts B M back entry miss i
      ⊎ (((p : ℕ) × (k : ℕ) × Begins g.scene back i p × Tried B back i entry p k) × Short m hit i)
      ⊎ (((p k : ℕ) → Begins g.scene back i p → Tried B back i entry p k → ⊥) × Short m miss i)
  at_look m q i back entry hit miss e t l =
      elim (at_node m q i (Look back entry hit miss) e t l) [
        | inl y ↦ elim y [ inl t ↦ absurd (false≢true t) | inr z ↦ inl z ]
        | inr r ↦ elim r [
          | inl c ↦ elim c.1 [
            | inl f ↦ inr (inl (f.0, move_short m c.0 hit i f.1 c.2))
            | inr f ↦ inr (inr (f.0, move_short m c.0 miss i f.1 c.2))
          ]
          | inr s ↦ elim s [ inl c ↦ absurd c.2 | inr c ↦ absurd (none_some c.0 c.1) ]
        ]
      ]

  -- the first step at an atomic group
  at_atomic : (m q i entry next : ℕ) → slice_get nodes q ≡ Some (Atomic entry next) →
      (t : From q i) → size q i t < suc m →
      M entry i ⊎ ((j : ℕ) × Furthest B entry i j × Short m next j)
  at_atomic m q i entry next e t l =
      elim (at_node m q i (Atomic entry next) e t l) [
        | inl y ↦ elim y [ inl t ↦ absurd (false≢true t) | inr z ↦ inl z ]
        | inr r ↦ elim r [
          | inl c ↦ inr (i, c.1.0, move_short m c.0 next i c.1.1 c.2)
          | inr s ↦ elim s [
            | inl c ↦ inr (c.0, c.2.0, move_short m c.1 next c.0 c.2.1 c.3)
            | inr c ↦ absurd (none_some c.0 c.1)
          ]
        ]
      ]

  -- What a short path from the fragment comes to: a test of the fragment reaches the end, or a path
  -- from the next state, that is not longer, meets it.
  abbrev pub Comes : Spots → Way → ℕ → ℕ → Spot → Type 0
  Comes R w n next x = R x ⊎ ((y : Spot) × w x y × Short n next y.place)

  abbrev pub ComeAll : Part → Spots → Way → Type 0
  ComeAll P R w =
      (n e next : ℕ) (x : Spot) → Good g counts x → P e next → Short n e x.place →
      Comes R w n next x

  abbrev pub Keeps : Way → Type 0
  Keeps w = (x y : Spot) → Good g counts x → w x y → Good g counts y

  pub comes_here : (n e next : ℕ) (x : Spot) → IsAt nodes e next → Short n e x.place →
      Short n next x.place
  comes_here = short.comes_here nodes From size at_goto

  pub item_comes : (item : Item) →
      ComeAll (λ e next. IsNode nodes (One item next) e) (ItemReaches g item) (ItemEnds g item)
  unfolding Among
  item_comes item zero e next x h p s = absurd (omega (arith, s.1))
  item_comes item (suc n) e next x h p s =
      elim (at_node n e x.place (One item next) p s.0 s.1) [
        | inl y ↦ elim y [ inl t ↦ inl (item_counts g counts item x h t) | inr z ↦ absurd z ]
        | inr r ↦ elim r [
          | inl c ↦ absurd c.1
          | inr r ↦ elim r [
            | inl c ↦ absurd c.2
            | inr c ↦ inr
                (land_comes nodes From size n next (after_item g.scene item x.place) x c.0 c.1 c.2)
          ]
        ]
      ]

  pub break_comes :
      ComeAll (λ e next. IsNode nodes (Break next) e) (BreakReaches g) (BreakEnds g)
  unfolding Among
  break_comes zero e next x h p s = absurd (omega (arith, s.1))
  break_comes (suc n) e next x h p s =
      elim (at_node n e x.place (Break next) p s.0 s.1) [
        | inl y ↦ elim y [ inl t ↦ inl (break_counts g counts x h t) | inr z ↦ absurd z ]
        | inr r ↦ elim r [
          | inl c ↦ absurd c.1
          | inr r ↦ elim r [
            | inl c ↦ absurd c.2
            | inr c ↦ inr
                (land_comes nodes From size n next (after_break g.scene x.place) x c.0 c.1 c.2)
          ]
        ]
      ]

  pub anchor_comes : IsBefore g counts → (kind : AnchorKind) →
      ComeAll (λ e next. IsNode nodes (Anchor kind next) e) (AnchorReaches g kind)
      (AnchorEnds g kind)
  anchor_comes before kind zero e next x h p s = absurd (omega (arith, s.1))
  anchor_comes before kind (suc n) e next x h p s =
      elim (at_node n e x.place (Anchor kind next) p s.0 s.1) [
        | inl y ↦ elim y [ inl t ↦ inl (anchor_counts g counts before kind x h t) | inr z ↦ absurd z ]
        | inr r ↦ elim r [
          | inl c ↦
              let k = anchor_if (holds g.scene kind x.place) next c.0 c.1 in
              inr (
                seen g kind x,
                (k.0, refl),
                longer n (suc n) next x.place (omega arith)
                    (move_short n c.0 next x.place k.1 c.2),
              )
          | inr r ↦ elim r [ inl c ↦ absurd c.2 | inr c ↦ absurd (none_some c.0 c.1) ]
        ]
      ]

  abbrev FewReach : ℕ → Way → Spots → Spots
  FewReach k w R = TurnReaches (λ c. c < k) w R

  copies_come : (P : Part) (R : Spots) (w : Way) → ComeAll P R w → Keeps w → (k : ℕ) →
      ComeAll (Copies nodes P k) (FewReach k w R) (Times w k)
  unfolding Copies Times
  copies_come P R w h keeps zero n e next x good p s = inr (x, refl, comes_here n e next x p s)
  copies_come P R w h keeps (suc k) n e next x good p s =
      elim (h n e p.0 x good p.1 s) [
        | inl r ↦ inl (0, x, omega arith, refl, r)
        | inr r ↦
            elim (copies_come P R w h keeps k n p.0 next r.0 (keeps x r.0 good r.1) p.2 r.2) [
              | inl q ↦ inl (suc q.0, q.1, omega (arith, q.2), (r.0, r.1, q.3), q.4)
              | inr q ↦ inr (q.0, (r.0, r.1, q.1), q.2)
            ]
      ]

  abbrev AtMost : Way → ℕ → Way
  AtMost w k x y = (c : ℕ) × (c ≤ k) × Times w c x y

  options_come : (P : Part) (R : Spots) (w : Way) → ComeAll P R w → Keeps w → (k : ℕ) →
      ComeAll (Options nodes P k) (FewReach k w R) (AtMost w k)
  unfolding Options Times
  options_come P R w h keeps zero n e next x good p s =
      inr (x, (0, omega arith, refl), comes_here n e next x p s)
  options_come P R w h keeps (suc k) zero e next x good p s = absurd (omega (arith, s.1))
  options_come P R w h keeps (suc k) (suc n) e next x good p s =
      elim (at_split n e p.0 next x.place p.3 s.0 s.1) [
        | inl a ↦ elim (h n p.0 p.1 x good p.4 a) [
          | inl r ↦ inl (0, x, omega arith, refl, r)
          | inr r ↦
              elim (options_come P R w h keeps k n p.2 next r.0 (keeps x r.0 good r.1) p.6
              (comes_here n p.1 p.2 r.0 p.5 r.2)) [
                | inl q ↦ inl (suc q.0, q.1, omega (arith, q.2), (r.0, r.1, q.3), q.4)
                | inr q ↦ inr (
                  q.0,
                  (suc q.1.0, omega (arith, q.1.1), (r.0, r.1, q.1.2)),
                  longer n (suc n) next q.0.place (omega arith) q.2,
                )
              ]
        ]
        | inr b ↦ inr (x, (0, omega arith, refl), longer n (suc n) next x.place (omega arith) b)
      ]

  abbrev AnyTimes : Way → Way
  AnyTimes w x y = (c : ℕ) × Times w c x y

  loop_comes : (P : Part) (R : Spots) (w : Way) → ComeAll P R w → Keeps w →
      ComeAll (Loop nodes P) (TurnReaches (λ _. Unit {0}) w R) (AnyTimes w)
  unfolding Times
  loop_comes P R w h keeps zero e next x good p s = absurd (omega (arith, s.1))
  loop_comes P R w h keeps (suc n) e next x good p s =
      elim (at_split n e p.0 next x.place p.1 s.0 s.1) [
        | inl a ↦ elim (h n p.0 e x good p.2 a) [
          | inl r ↦ inl (0, x, tt, refl, r)
          | inr r ↦ elim (loop_comes P R w h keeps n e next r.0 (keeps x r.0 good r.1) p r.2) [
            | inl q ↦ inl (suc q.0, q.1, tt, (r.0, r.1, q.3), q.4)
            | inr q ↦ inr (
              q.0,
              (suc q.1.0, (r.0, r.1, q.1.1)),
              longer n (suc n) next q.0.place (omega arith) q.2,
            )
          ]
        ]
        | inr b ↦ inr (x, (0, refl), longer n (suc n) next x.place (omega arith) b)
      ]

  abbrev Bounded : Way → ℕ → Option ℕ → Way
  Bounded w low high x y = (n : ℕ) × Within low high n × Times w n x y

  keeps_times : (w : Way) → Keeps w → (k : ℕ) → Keeps (Times w k)
  unfolding Times
  keeps_times w keeps zero x y good t = subst (Good g counts) (sym t) good
  keeps_times w keeps (suc k) x y good t =
      keeps_times w keeps k t.0 y (keeps x t.0 good t.1) t.2

  pub turns_come : (P : Part) (R : Spots) (w : Way) → ComeAll P R w → Keeps w → (low : ℕ)
      (high : Option ℕ) →
      ComeAll (Turns nodes P low high) (TurnReaches (Below high) w R) (Bounded w low high)
  turns_come P R w h keeps low None n e next x good p s =
      elim (copies_come P R w h keeps low n e p.0 x good p.1 s) [
        | inl r ↦ inl (r.0, r.1, tt, r.3, r.4)
        | inr r ↦
            elim (loop_comes P R w h keeps n p.0 next r.0 (keeps_times w keeps low x r.0 good r.1)
            p.2 r.2) [
              | inl q ↦ inl (low + q.0, q.1, tt, join w low q.0 x r.0 q.1 r.1 q.3, q.4)
              | inr q ↦ inr (
                q.0,
                (low + q.1.0, omega arith, join w low q.1.0 x r.0 q.0 r.1 q.1.1),
                q.2,
              )
            ]
      ]
  turns_come P R w h keeps low (Some high) n e next x good p s =
      let l : low ≤ high = p.2.0 in
      elim (copies_come P R w h keeps low n e p.0 x good p.1 s) [
        | inl r ↦ inl (r.0, r.1, omega (arith, r.2, l), r.3, r.4)
        | inr r ↦
            elim (options_come P R w h keeps (high - low) n p.0 next r.0
            (keeps_times w keeps low x r.0 good r.1) p.2.1 r.2) [
              | inl q ↦ inl (
                low + q.0,
                q.1,
                omega (arith, q.2, l),
                join w low q.0 x r.0 q.1 r.1 q.3,
                q.4,
              )
              | inr q ↦ inr (
                q.0,
                (
                  low + q.1.0,
                  (omega arith, omega (arith, q.1.1, l)),
                  join w low q.1.0 x r.0 q.0 r.1 q.1.2,
                ),
                q.2,
              )
            ]
      ]

  -- nested paths from a state meet the end only where a part reaches it
  abbrev pub MeetsSo : Spots → ℕ → Type 0
  MeetsSo R entry = (x : Spot) → Good g counts x → M entry x.place → R x

  -- whether there is an end decides, by a path that is not longer
  abbrev pub Asked : Type 0 → Spots → ℕ → ℕ → ℕ → Spot → Type 0
  Asked T Y n hit miss x =
      T ⊎ (HasOne Y × Short n hit x.place) ⊎ (HasNone Y × Short n miss x.place)

  pub ask_comes : (R : Spots) (w : Way) (entry hit miss : ℕ) → IsInner B w entry →
      MeetsSo R entry → (n e : ℕ) (x : Spot) → Good g counts x →
      IsNode nodes (Look None entry hit miss) e → Short n e x.place →
      Asked (R x) (w x) n hit miss x
  ask_comes R w entry hit miss inner so zero e x good p s = absurd (omega (arith, s.1))
  ask_comes R w entry hit miss inner so (suc n) e x good p s =
      elim (at_look n e x.place None entry hit miss p s.0 s.1) [
        | inl y ↦ inl (so x good y)
        | inr r ↦ elim r [
          | inl a ↦
              let h = here_begins g.scene x.place a.0.0 a.0.2 in
              let r = inner.ends_so x a.0.1 (subst (λ q. B entry q a.0.1) h a.0.3) in
              inr (inl ((spot a.0.1 r.0, r.1), longer n (suc n) hit x.place (omega arith) a.1))
          | inr b ↦ inr (inr (
            λ y h. b.0 x.place y.place (begins_here g.scene x.place) (inner.so_ends x y h),
            longer n (suc n) miss x.place (omega arith) b.1,
          ))
        ]
      ]

  pub hit_comes : (T : Type 0) (Y : Spots) (n hit miss next : ℕ) (x : Spot) →
      Asked T Y n hit miss x → IsAt nodes hit next → IsNode nodes Dead miss →
      T ⊎ ((y : Spot) × (HasOne Y × (y ≡ x)) × Short n next y.place)
  hit_comes T Y n hit miss next x a same dead =
      elim a [
        | inl t ↦ inl t
        | inr r ↦ elim r [
          | inl b ↦ inr (x, (b.0, refl), comes_here n hit next x same b.1)
          | inr b ↦ absurd (dead_short n miss x.place dead b.1)
        ]
      ]

  pub miss_comes : (T : Type 0) (Y : Spots) (n hit miss next : ℕ) (x : Spot) →
      Asked T Y n hit miss x → IsNode nodes Dead hit → IsAt nodes miss next →
      T ⊎ ((y : Spot) × (HasNone Y × (y ≡ x)) × Short n next y.place)
  miss_comes T Y n hit miss next x a dead same =
      elim a [
        | inl t ↦ inl t
        | inr r ↦ elim r [
          | inl b ↦ absurd (dead_short n hit x.place dead b.1)
          | inr b ↦ inr (x, (b.0, refl), comes_here n miss next x same b.1)
        ]
      ]

  abbrev pub FurthestEnd : Way → Way
  FurthestEnd w x y = w x y × ((z : Spot) → w x z → z.place ≤ y.place)

  pub atomic_comes : (R : Spots) (w : Way) (entry : ℕ) → IsInner B w entry → MeetsSo R entry →
      ComeAll (λ e next. IsNode nodes (Atomic entry next) e) R (FurthestEnd w)
  atomic_comes R w entry inner so zero e next x good p s = absurd (omega (arith, s.1))
  atomic_comes R w entry inner so (suc n) e next x good p s =
      elim (at_atomic n e x.place entry next p s.0 s.1) [
        | inl y ↦ inl (so x good y)
        | inr r ↦
            let a = inner.ends_so x r.0 r.1.0 in
            inr (
              spot r.0 a.0,
              (a.1, λ z h. r.1.1 z.place (inner.so_ends x z h)),
              longer n (suc n) next r.0 (omega arith) r.2,
            )
      ]

  -- from a state on, to a state
  abbrev pub ComeTo : (ℕ → Type 0) → Spots → Way → ℕ → Type 0
  ComeTo P R w next =
      (n e : ℕ) (x : Spot) → Good g counts x → P e → Short n e x.place → Comes R w n next x

  abbrev pub ChosenReach : Type 0 → Type 0 → Type 0 → Type 0 → Type 0 → Type 0
  ChosenReach T so not r s = T ⊎ (so × r) ⊎ (not × s)

  abbrev pub Chosen : Spots → Spots → Way → Way → Way
  Chosen so not v w x y = (so x × v x y) ⊎ (not x × w x y)

  -- a condition, by what its test comes to
  pub choose_comes : (T so not R S : Spots) (v w : Way) (P Q : ℕ → Type 0) (next n a b : ℕ)
      (x : Spot) → ComeTo P R v next → ComeTo Q S w next → Good g counts x → P a → Q b →
      T x ⊎ (so x × Short n a x.place) ⊎ (not x × Short n b x.place) →
      Comes (λ x. ChosenReach (T x) (so x) (not x) (R x) (S x)) (Chosen so not v w) n next x
  choose_comes T so not R S v w P Q next n a b x h k good p q asked =
      elim asked [
        | inl t ↦ inl (inl t)
        | inr r ↦ elim r [
          | inl c ↦ elim (h n a x good p c.1) [
            | inl r ↦ inl (inr (inl (c.0, r)))
            | inr r ↦ inr (r.0, inl (c.0, r.1), r.2)
          ]
          | inr c ↦ elim (k n b x good q c.1) [
            | inl r ↦ inl (inr (inr (c.0, r)))
            | inr r ↦ inr (r.0, inr (c.0, r.1), r.2)
          ]
        ]
      ]

  -- and where it asks that there is no end
  pub turned : (T : Type 0) (Y : Spots) (n hit miss : ℕ) (x : Spot) → Asked T Y n hit miss x →
      T ⊎ (HasNone Y × Short n miss x.place) ⊎ (HasOne Y × Short n hit x.place)
  turned T Y n hit miss x asked =
      elim asked [
        | inl t ↦ inl t
        | inr r ↦ elim r [ inl c ↦ inr (inr c) | inr c ↦ inr (inl c) ]
      ]
