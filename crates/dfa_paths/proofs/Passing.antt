-- How a path comes to meet the subject's end through a fragment.
use Rattle.std.proofs.Common.{◌≡◌, ℕ, zero, suc, ◌-◌, ◌<◌, ◌≤◌, ◌⊎◌, Bool, true, false, List, [], ◌∷◌, Option, Some}
use Rattle.std.proofs.Common.{None, refl, sym, ap, subst, inl, inr, arith}
use Rattle.std.proofs.lemmas.Bool.{cases_lt}
use Rattle.pat_tree.specs.declared.nodes.Item.{Item}
use Rattle.pat_tree.specs.declared.nodes.AnchorKind.{AnchorKind}
use Rattle.match_items.specs.Items.{after_item, item_reaches, after_break, break_reaches, holds}
use Rattle.dfa_ends.specs.ordered_search.Setting.{Setting}
use Rattle.dfa_ends.specs.Ends.{Spot, spot, Spots, Way, Among, HasOne, HasNone, GoesTo, Times, Within, Below}
use Rattle.dfa_ends.specs.Ends.{ItemEnds, BreakEnds, AnchorEnds, ItemReaches, BreakReaches, AnchorReaches}
use Rattle.dfa_paths.specs.declared.graph.Node.{Node}
use Rattle.dfa_paths.specs.declared.graph.Node.TheVariants.{One, Break, Anchor, Split, Goto, Look, Atomic}
use Rattle.dfa_paths.specs.Graph.{Inner, Follows}
use Rattle.dfa_paths.specs.Meets.{Meeting, met, followed, leapt, took}
use Rattle.dfa_paths.specs.Fragment.{Part, IsAt, IsNode, Copies, Options, Loop, Turns}
use Rattle.dfa_paths.proofs.Counting.{Good, Lowered, same_lowered, anchor_lowered, test_tells, anchor_tells}
use Rattle.dfa_paths.proofs.Coming.{IsInner, here_begins, begins_here}
use Rattle.dfa_paths.proofs.Meeting.{From, Keeps, TurnReaches, FurthestEnd, ChosenReach}
use Rattle.dfa_paths.proofs.Turns.{split}

place_of : (y z : Spot) → y ≡ z → y.place ≡ z.place
place_of y z e = ap (λ w. w.place) e

module _ (g : Setting) (nodes : List Node) (counts : Bool) (B : Inner) (M : Meeting) where
  -- the rest meets the end, or the earliest place was lowered on the way, which tells it
  abbrev pub On : ℕ → Spot → Type 0
  On e x = From g nodes counts B M e x.place ⊎ Lowered g counts x

  -- a test of the part reaches the end, or what follows meets it
  abbrev pub GoAll : Part → Spots → Way → Type 0
  GoAll P R w =
      (e next : ℕ) (x : Spot) → Good g counts x → P e next →
      (R x → On e x) × ((y : Spot) → w x y → On next y → On e x)

  pub step_on : (e a : ℕ) (n : Node) (x : Spot) → IsNode nodes n e →
      Follows g.scene B n x.place a → On a x → On e x
  step_on e a n x is f h =
      elim h [ inl t ↦ inl (followed e x.place a n is f t) | inr l ↦ inr l ]

  moved_on : (q a : ℕ) (x : Spot) → q ≡ a → On a x → On q x
  moved_on q a x e h = subst (λ k. On k x) (sym e) h

  pub here_on : (e next : ℕ) (x : Spot) → IsAt nodes e next → On next x → On e x
  unfolding Among
  here_on e next x p h =
      elim p [
        | inl a ↦ moved_on e next x a h
        | inr b ↦ step_on e next (Goto next) x b (inl refl) h
      ]

  pub go_here : (e next : ℕ) (x y : Spot) → IsAt nodes e next → y ≡ x → On next y → On e x
  go_here e next x y p t h = here_on e next x p (subst (On next) t h)

  lands_of : (o : Option ℕ) (x y : Spot) → GoesTo o x y →
      (o ≡ Some y.place) × (y.early ≡ x.early)
  lands_of None x y h = absurd h
  lands_of (Some p) x y h = (ap Some (sym (place_of y _ h)), ap (λ w. w.early) h)

  pub item_on : (item : Item) →
      GoAll (λ e next. IsNode nodes (One item next) e) (ItemReaches g item) (ItemEnds g item)
  item_on item e next x good p = (
    λ r. (elim (test_tells g counts (item_reaches g.scene item x.place) x r.0 r.1 counts refl) [
      | inl t ↦ inl (met e x.place (One item next) p (inl t))
      | inr l ↦ inr l
    ]),
    λ y t h. (
        let k = lands_of (after_item g.scene item x.place) x y t in
        elim h [
          | inl f ↦ inl (took e x.place y.place (One item next) p k.0 f)
          | inr l ↦ inr (same_lowered g counts x y k.1 l)
        ]),
  )

  pub break_on : GoAll (λ e next. IsNode nodes (Break next) e) (BreakReaches g) (BreakEnds g)
  break_on e next x good p = (
    λ r. (elim (test_tells g counts (break_reaches g.scene x.place) x r.0 r.1 counts refl) [
      | inl t ↦ inl (met e x.place (Break next) p (inl t))
      | inr l ↦ inr l
    ]),
    λ y t h. (
        let k = lands_of (after_break g.scene x.place) x y t in
        elim h [
          | inl f ↦ inl (took e x.place y.place (Break next) p k.0 f)
          | inr l ↦ inr (same_lowered g counts x y k.1 l)
        ]),
  )

  among_if : (b : Bool) (next : ℕ) → b ≡ true →
      Among next (elim b as (λ _. List ℕ) [ true ↦ next ∷ [] | false ↦ [] ])
  unfolding Among
  among_if true next e = inl refl
  among_if false next e = cc

  pub anchor_on : (kind : AnchorKind) →
      GoAll (λ e next. IsNode nodes (Anchor kind next) e) (AnchorReaches g kind)
      (AnchorEnds g kind)
  anchor_on kind e next x good p = (
    λ r. (elim (anchor_tells g counts kind x good r counts refl) [
      | inl t ↦ inl (met e x.place (Anchor kind next) p (inl t))
      | inr l ↦ inr l
    ]),
    λ y t h. (elim h [
      | inl f ↦ inl (followed e x.place next (Anchor kind next) p
          (among_if (holds g.scene kind x.place) next t.0)
          (subst (λ i. From g nodes counts B M next i) (place_of y _ t.1) f))
      | inr l ↦
          let low = subst (Lowered g counts) t.1 l in
          elim (anchor_lowered g counts kind x good low.0 low.1) [
            | inl t ↦ inl (met e x.place (Anchor kind next) p (inl t))
            | inr l ↦ inr l
          ]
    ]),
  )

  copies_reach : (P : Part) (R : Spots) (w : Way) → GoAll P R w → Keeps g nodes counts B M w →
      (k e next : ℕ) (x : Spot) → Good g counts x → Copies nodes P k e next → (c : ℕ)
      (z : Spot) → c < k → Times w c x z → R z → On e x
  unfolding Copies Times
  copies_reach P R w h keeps zero e next x good p c z l t r = absurd (omega (arith, l))
  copies_reach P R w h keeps (suc k) e next x good p zero z l t r =
      (h e p.0 x good p.1).0 (subst R t r)
  copies_reach P R w h keeps (suc k) e next x good p (suc c) z l t r =
      (h e p.0 x good p.1).1 t.0 t.1
      (copies_reach P R w h keeps k p.0 next t.0 (keeps x t.0 good t.1) p.2 c z
      (omega (arith, l)) t.2 r)

  copies_go : (P : Part) (R : Spots) (w : Way) → GoAll P R w → Keeps g nodes counts B M w →
      (k e next : ℕ) (x y : Spot) → Good g counts x → Copies nodes P k e next → Times w k x y →
      On next y → On e x
  unfolding Copies Times
  copies_go P R w h keeps zero e next x y good p t f = go_here e next x y p t f
  copies_go P R w h keeps (suc k) e next x y good p t f =
      (h e p.0 x good p.1).1 t.0 t.1
      (copies_go P R w h keeps k p.0 next t.0 y (keeps x t.0 good t.1) p.2 t.2 f)

  options_reach : (P : Part) (R : Spots) (w : Way) → GoAll P R w → Keeps g nodes counts B M w →
      (k e next : ℕ) (x : Spot) → Good g counts x → Options nodes P k e next → (c : ℕ)
      (z : Spot) → c < k → Times w c x z → R z → On e x
  unfolding Options Times Among
  options_reach P R w h keeps zero e next x good p c z l t r = absurd (omega (arith, l))
  options_reach P R w h keeps (suc k) e next x good p zero z l t r =
      step_on e p.0 (Split p.0 next) x p.3 (inl refl) ((h p.0 p.1 x good p.4).0 (subst R t r))
  options_reach P R w h keeps (suc k) e next x good p (suc c) z l t r =
      step_on e p.0 (Split p.0 next) x p.3 (inl refl)
      ((h p.0 p.1 x good p.4).1 t.0 t.1 (here_on p.1 p.2 t.0 p.5
      (options_reach P R w h keeps k p.2 next t.0 (keeps x t.0 good t.1) p.6 c z
      (omega (arith, l)) t.2 r)))

  options_go : (P : Part) (R : Spots) (w : Way) → GoAll P R w → Keeps g nodes counts B M w →
      (k c e next : ℕ) (x y : Spot) → Good g counts x → c ≤ k → Options nodes P k e next →
      Times w c x y → On next y → On e x
  unfolding Options Times Among
  options_go P R w h keeps zero zero e next x y good l p t f = go_here e next x y p t f
  options_go P R w h keeps zero (suc c) e next x y good l p t f = absurd (omega (arith, l))
  options_go P R w h keeps (suc k) zero e next x y good l p t f =
      step_on e next (Split p.0 next) x p.3 (inr (inl refl)) (subst (On next) t f)
  options_go P R w h keeps (suc k) (suc c) e next x y good l p t f =
      step_on e p.0 (Split p.0 next) x p.3 (inl refl)
      ((h p.0 p.1 x good p.4).1 t.0 t.1 (here_on p.1 p.2 t.0 p.5
      (options_go P R w h keeps k c p.2 next t.0 y (keeps x t.0 good t.1) (omega (arith, l)) p.6
      t.2 f)))

  loop_reach : (P : Part) (R : Spots) (w : Way) → GoAll P R w → Keeps g nodes counts B M w →
      (c e next : ℕ) (x z : Spot) → Good g counts x → Loop nodes P e next → Times w c x z →
      R z → On e x
  unfolding Times Among
  loop_reach P R w h keeps zero e next x z good p t r =
      step_on e p.0 (Split p.0 next) x p.1 (inl refl) ((h p.0 e x good p.2).0 (subst R t r))
  loop_reach P R w h keeps (suc c) e next x z good p t r =
      step_on e p.0 (Split p.0 next) x p.1 (inl refl)
      ((h p.0 e x good p.2).1 t.0 t.1
      (loop_reach P R w h keeps c e next t.0 z (keeps x t.0 good t.1) p t.2 r))

  loop_go : (P : Part) (R : Spots) (w : Way) → GoAll P R w → Keeps g nodes counts B M w →
      (c e next : ℕ) (x y : Spot) → Good g counts x → Loop nodes P e next → Times w c x y →
      On next y → On e x
  unfolding Times Among
  loop_go P R w h keeps zero e next x y good p t f =
      step_on e next (Split p.0 next) x p.1 (inr (inl refl)) (subst (On next) t f)
  loop_go P R w h keeps (suc c) e next x y good p t f =
      step_on e p.0 (Split p.0 next) x p.1 (inl refl)
      ((h p.0 e x good p.2).1 t.0 t.1
      (loop_go P R w h keeps c e next t.0 y (keeps x t.0 good t.1) p t.2 f))

  keeps_times : (w : Way) → Keeps g nodes counts B M w → (k : ℕ) →
      Keeps g nodes counts B M (Times w k)
  unfolding Times
  keeps_times w keeps zero x y good t = subst (Good g counts) (sym t) good
  keeps_times w keeps (suc k) x y good t =
      keeps_times w keeps k t.0 y (keeps x t.0 good t.1) t.2

  abbrev Bounded : Way → ℕ → Option ℕ → Way
  Bounded w low high x y = (n : ℕ) × Within low high n × Times w n x y

  -- the turns that must be made, then the others
  module _ (P : Part) (R : Spots) (w : Way) (h : GoAll P R w)
      (keeps : Keeps g nodes counts B M w) (low : ℕ) where
    turns_reach : (high : Option ℕ) (e next : ℕ) (x : Spot) → Good g counts x →
        Turns nodes P low high e next → (c : ℕ) (z : Spot) → Below high c → Times w c x z →
        R z → On e x
    turns_reach None e next x good p c z b t r =
        elim (cases_lt c low) [
          | inl l ↦ copies_reach P R w h keeps low e p.0 x good p.1 c z l t r
          | inr l ↦
              let s = split w low c x z l t in
              copies_go P R w h keeps low e p.0 x s.0 good p.1 s.1
              (loop_reach P R w h keeps (c - low) p.0 next s.0 z
              (keeps_times w keeps low x s.0 good s.1) p.2 s.2 r)
        ]
    turns_reach (Some high) e next x good p c z b t r =
        elim (cases_lt c low) [
          | inl l ↦ copies_reach P R w h keeps low e p.0 x good p.1 c z l t r
          | inr l ↦
              let s = split w low c x z l t in
              copies_go P R w h keeps low e p.0 x s.0 good p.1 s.1
              (options_reach P R w h keeps (high - low) p.0 next s.0
              (keeps_times w keeps low x s.0 good s.1) p.2.1 (c - low) z (omega (arith, b, l))
              s.2 r)
        ]

    turns_go : (high : Option ℕ) (e next : ℕ) (x y : Spot) → Good g counts x →
        Turns nodes P low high e next → Bounded w low high x y → On next y → On e x
    turns_go None e next x y good p t f =
        let s = split w low t.0 x y t.1 t.2 in
        copies_go P R w h keeps low e p.0 x s.0 good p.1 s.1
        (loop_go P R w h keeps (t.0 - low) p.0 next s.0 y
        (keeps_times w keeps low x s.0 good s.1) p.2 s.2 f)
    turns_go (Some high) e next x y good p t f =
        let s = split w low t.0 x y t.1.0 t.2 in
        let u : t.0 ≤ high = t.1.1 in
        copies_go P R w h keeps low e p.0 x s.0 good p.1 s.1
        (options_go P R w h keeps (high - low) (t.0 - low) p.0 next s.0 y
        (keeps_times w keeps low x s.0 good s.1) (omega (arith, u)) p.2.1 s.2 f)

    pub turns_on : (high : Option ℕ) →
        GoAll (Turns nodes P low high) (TurnReaches (Below high) w R) (Bounded w low high)
    turns_on high e next x good p = (
      λ r. turns_reach high e next x good p r.0 r.1 r.2 r.3 r.4,
      λ y t f. turns_go high e next x y good p t f,
    )

  -- a part that reaches the end makes nested paths from a state meet it
  abbrev pub MeetsBy : Spots → ℕ → Type 0
  MeetsBy R entry = (x : Spot) → Good g counts x → R x → M entry x.place ⊎ Lowered g counts x

  pub ask_reach : (R : Spots) (entry hit miss : ℕ) → MeetsBy R entry → (e : ℕ) (x : Spot) →
      Good g counts x → IsNode nodes (Look None entry hit miss) e → R x → On e x
  ask_reach R entry hit miss by e x good p r =
      elim (by x good r) [
        | inl y ↦ inl (met e x.place (Look None entry hit miss) p (inr y))
        | inr l ↦ inr l
      ]

  pub ask_hit : (w : Way) (entry hit miss : ℕ) → IsInner B w entry → (e : ℕ) (x : Spot) →
      IsNode nodes (Look None entry hit miss) e → HasOne (w x) → On hit x → On e x
  ask_hit w entry hit miss inner e x p h f =
      step_on e hit (Look None entry hit miss) x p
      (inl ((x.place, h.0.place, begins_here g.scene x.place, inner.so_ends x h.0 h.1), refl)) f

  pub ask_miss : (w : Way) (entry hit miss : ℕ) → IsInner B w entry → (e : ℕ) (x : Spot) →
      IsNode nodes (Look None entry hit miss) e → HasNone (w x) → On miss x → On e x
  ask_miss w entry hit miss inner e x p h f =
      step_on e miss (Look None entry hit miss) x p
      (inr (
        λ q k c b. (
            let same = here_begins g.scene x.place q c in
            let r = inner.ends_so x k (subst (λ v. B entry v k) same b) in
            h (spot k r.0) r.1),
        refl,
      )) f

  -- an end before which the earliest place was lowered makes them meet it too
  abbrev pub LowersBy : Way → ℕ → Type 0
  LowersBy w entry =
      (x y : Spot) → Good g counts x → w x y → Lowered g counts y →
      M entry x.place ⊎ Lowered g counts x

  pub atomic_on : (R : Spots) (w : Way) (entry : ℕ) → IsInner B w entry → MeetsBy R entry →
      LowersBy w entry →
      GoAll (λ e next. IsNode nodes (Atomic entry next) e) R (FurthestEnd g nodes counts B M w)
  atomic_on R w entry inner by lowers e next x good p = (
    λ r. told (by x good r),
    λ y t f. (elim f [
      | inl f ↦ inl (leapt e x.place y.place next (Atomic entry next) p (
        (
          inner.so_ends x y t.0,
          λ k b. (let r = inner.ends_so x k b in t.1 (spot k r.0) r.1),
        ),
        refl,
      ) f)
      | inr l ↦ told (lowers x y good t.0 l)
    ]),
  )
    where
      told : M entry x.place ⊎ Lowered g counts x → On e x
      told h = elim h [
        | inl y ↦ inl (met e x.place (Atomic entry next) p (inr y))
        | inr l ↦ inr l
      ]

  -- from a state on, to a state
  abbrev pub GoTo : (ℕ → Type 0) → Spots → Way → ℕ → Type 0
  GoTo P R w next =
      (e : ℕ) (x : Spot) → Good g counts x → P e →
      (R x → On e x) × ((y : Spot) → w x y → On next y → On e x)

  -- a condition, by what its test leads to
  pub choose_on : (T U N : Type 0) (R S : Spots) (v w : Way) (P Q : ℕ → Type 0)
      (next e a b : ℕ) (x : Spot) → GoTo P R v next → GoTo Q S w next → Good g counts x →
      P a → Q b → (T → On e x) → (U → On a x → On e x) → (N → On b x → On e x) →
      (ChosenReach g nodes counts B M T U N (R x) (S x) → On e x)
      × ((y : Spot) → (U × v x y) ⊎ (N × w x y) → On next y → On e x)
  choose_on T U N R S v w P Q next e a b x h k good p q told so not = (
    λ r. (elim r [
      | inl t ↦ told t
      | inr r ↦ elim r [
        | inl c ↦ so c.0 ((h a x good p).0 c.1)
        | inr c ↦ not c.0 ((k b x good q).0 c.1)
      ]
    ]),
    λ y t f. (elim t [
      | inl c ↦ so c.0 ((h a x good p).1 y c.1 f)
      | inr c ↦ not c.0 ((k b x good q).1 y c.1 f)
    ]),
  )
