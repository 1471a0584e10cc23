-- What follows a state at one place, where a search stands, and how many tests it makes.
use Rattle.std.proofs.Common.{◌≡◌, ◌∙◌, ℕ, zero, suc, ◌+◌, ◌-◌, ◌*◌, ◌<◌, ◌≤◌, ◌⊎◌, Bool, true, false, List, [], ◌∷◌}
use Rattle.std.proofs.Common.{◌++◌, length, Option, Some, None, refl, sym, ap, subst, inl, inr, arith, ltb-true}
use Rattle.std.proofs.Common.{ltb-false}
use Rattle.std.proofs.lemmas.Nat.{mul-le}
use Rattle.std.specs.Prelude.{◌||◌, not, nat_lt, slice_get, slice_index, IsTrue, IsCharBoundary}
use Rattle.pat_tree.specs.declared.nodes.Item.TheVariants.{AnyAll}
use Rattle.match_items.specs.Scene.{Scene}
use Rattle.match_items.specs.Laws.{Stands, StandsAlong}
use Rattle.dfa_ends.specs.Ends.{Among}
use Rattle.dfa_ends.proofs.Steps.{break_steps}
use Rattle.dfa_paths.specs.declared.graph.Node.{Node}
use Rattle.dfa_paths.specs.declared.graph.Node.TheVariants.{One, Break, Anchor, Split, Goto, Look, Atomic, Dead, Match}
use Rattle.dfa_lists.specs.declared.lists.Seed.{Seed}
use Rattle.dfa_paths.specs.Graph.{takes, is_match, moves, lands, target, Inner, Furthest, Begins, Tried, Follows}
use Rattle.dfa_paths.specs.Graph.{Accepts, matched, moved, landed, ended, missed, went, Deep, SomeAccepts, Comes}
use Rattle.dfa_paths.specs.Graph.{Leaps, here, on, IsNodeIn, count_if}
use Rattle.dfa_paths.specs.Fragment.{Rising}
use Rattle.dfa_lists.specs.Lists.{IsClosed, closure, kept, is_stop, stops, stops_from}
use Rattle.dfa_paths.proofs.Places.{among_push}
use Rattle.dfa_lists.proofs.Landing.{SomeHolds, Leads}

-- something that waits accepts
abbrev pub SomeWaits : Scene → List Node → Inner → ℕ → List Seed → Type 0
SomeWaits g nodes B end = SomeHolds (Accepts g nodes B end)

-- nested paths end where a search can stand, at their place or later
abbrev pub EndsStand : Scene → Inner → Type 0
EndsStand g B = (entry i k : ℕ) → B entry i k → Stands g i → (i ≤ k) × Stands g k

rising_push : (xs : List ℕ) (y : ℕ) → Rising xs → ((q : ℕ) → Among q xs → q < y) →
    Rising (xs ++ y ∷ [])
unfolding Rising Among
rising_push [] y r b = (λ q h. absurd h, tt)
rising_push (x ∷ xs) y r b = (
  λ q h. (elim (among_push xs y q h) [
    | inl a ↦ r.0 q a
    | inr c ↦ subst (λ k. x < k) (sym c) (b x (inl refl))
  ]),
  rising_push xs y r.1 (λ q h. b q (inr h)),
)

pub rising_kept : (hit : Bool) (at : ℕ) (xs : List ℕ) → Rising xs →
    ((q : ℕ) → Among q xs → q < at) →
    Rising (kept hit at xs)
rising_kept true at xs r b = rising_push xs at r b
rising_kept false at xs r b = r

pub match_is : (n : Node) → is_match n ≡ true → n ≡ Match
match_is (One item next) e = cc
match_is (Break next) e = cc
match_is (Anchor kind next) e = cc
match_is (Split first second) e = cc
match_is (Goto next) e = cc
match_is (Look back entry hit miss) e = cc
match_is (Atomic entry next) e = cc
match_is Dead e = cc
match_is Match e = refl

none_not : (j : ℕ) → ◌≡◌ {A = Option ℕ} None (Some j) → ⊥
none_not j e = cc

pub lands_takes : (g : Scene) (i j : ℕ) (n : Node) → lands g n i ≡ Some j → takes n ≡ true
lands_takes g i j (One item next) e = refl
lands_takes g i j (Break next) e = refl
lands_takes g i j (Anchor kind next) e = absurd (none_not j e)
lands_takes g i j (Split first second) e = absurd (none_not j e)
lands_takes g i j (Goto next) e = absurd (none_not j e)
lands_takes g i j (Look back entry hit miss) e = absurd (none_not j e)
lands_takes g i j (Atomic entry next) e = absurd (none_not j e)
lands_takes g i j Dead e = absurd (none_not j e)
lands_takes g i j Match e = absurd (none_not j e)

-- what is taken ends past its place, at a place
pub lands_past : (g : Scene) (i j : ℕ) (n : Node) → StandsAlong g → Stands g i →
    lands g n i ≡ Some j → (i < j) × Stands g j
lands_past g i j (One item next) along stands e =
    let f = along.forward item i j stands e in (f.0, f.1)
lands_past g i j (Break next) along stands e =
    ((break_steps g AnyAll i j e).0, along.breaks i j stands e)
lands_past g i j (Anchor kind next) along stands e = absurd (none_not j e)
lands_past g i j (Split first second) along stands e = absurd (none_not j e)
lands_past g i j (Goto next) along stands e = absurd (none_not j e)
lands_past g i j (Look back entry hit miss) along stands e = absurd (none_not j e)
lands_past g i j (Atomic entry next) along stands e = absurd (none_not j e)
lands_past g i j Dead along stands e = absurd (none_not j e)
lands_past g i j Match along stands e = absurd (none_not j e)

pub target_in : (g : Scene) (i j states classes : ℕ) (n : Node) → IsNodeIn states classes n →
    lands g n i ≡ Some j →
    target n < states
target_in g i j states classes (One item next) ok e = ok.0
target_in g i j states classes (Break next) ok e = ok
target_in g i j states classes (Anchor kind next) ok e = absurd (none_not j e)
target_in g i j states classes (Split first second) ok e = absurd (none_not j e)
target_in g i j states classes (Goto next) ok e = absurd (none_not j e)
target_in g i j states classes (Look back entry hit miss) ok e = absurd (none_not j e)
target_in g i j states classes (Atomic entry next) ok e = absurd (none_not j e)
target_in g i j states classes Dead ok e = absurd (none_not j e)
target_in g i j states classes Match ok e = absurd (none_not j e)

pub at_or_past : (i j : ℕ) → i ≤ j → (j ≡ i) ⊎ (i < j)
at_or_past zero zero l = inl refl
at_or_past zero (suc j) l = inr (omega arith)
at_or_past (suc i) zero l = absurd (omega (arith, l))
at_or_past (suc i) (suc j) l =
    elim (at_or_past i j (omega (arith, l))) [
      | inl e ↦ inl (ap suc e)
      | inr m ↦ inr (omega (arith, m))
    ]

-- what moves to a state is followed by it
pub followed_by : (g : Scene) (B : Inner) (i : ℕ) (n : Node) (a : ℕ) → Among a (moves g n i) →
    Follows g B n i a
unfolding Among
followed_by g B i (Look back entry yes' no') a h = absurd h
followed_by g B i (Atomic entry next) a h = absurd h
followed_by g B i (One item next) a h = h
followed_by g B i (Break next) a h = h
followed_by g B i (Anchor kind next) a h = h
followed_by g B i (Split x y) a h = h
followed_by g B i (Goto next) a h = h
followed_by g B i Dead a h = h
followed_by g B i Match a h = h

-- Paths at one place.
module _ (g : Scene) (nodes : List Node) (B : Inner) (end : ℕ) where
  -- a path that goes through a state of this place: it ends there, a leaf takes something, or it
  -- leaps
  abbrev pub Gone : ℕ → List ℕ → List Seed → Bool → Type 0
  Gone i leaves leaps hit =
      ((hit ≡ true) × (i ≡ end))
      ⊎ (Leads g nodes i (Accepts g nodes B end) leaves ⊎ SomeWaits g nodes B end leaps)

  module _ (i : ℕ) (start leaves : List ℕ) (leaps : List Seed) (hit : Bool)
      (on_from : (entry k : ℕ) → B entry i k → i ≤ k)
      (h : IsClosed g nodes B i start (closure leaves leaps hit)) where
    pub leave : (q j : ℕ) → Accepts g nodes B end q j → j ≡ i → Comes g nodes B i start q →
        Gone i leaves leaps hit
    unfolding Leads
    leave _ _ (matched q j e same) here_is c =
        inl (h.comes_hit q c (Match, e, refl), sym here_is ∙ same)
    leave _ _ (moved q j a n e m t) here_is c =
        leave a j t here_is
        (on q a n c e (followed_by g B i n a (subst (λ k. Among a (moves g n k)) here_is m)))
    leave _ _ (landed q j k n e l t) here_is c =
        let there = subst (λ p. lands g n p ≡ Some k) here_is l in
        inr (inl (q, n, k, h.all_are_kept q c (n, e, lands_takes g i k n there), e, there, t))
    leave _ _ (ended q j back entry yes' no' p k e b y t) here_is c =
        let there = subst (λ x. Tried B back x entry p k) here_is y in
        leave yes' j t here_is
        (on q yes' (Look back entry yes' no') c e
        (inl ((p, k, subst (λ x. Begins g back x p) here_is b, there), refl)))
    leave _ _ (missed q j back entry yes' no' e none t) here_is c =
        leave no' j t here_is
        (on q no' (Look back entry yes' no') c e
        (inr (
          subst (λ x. (p k : ℕ) → Begins g back x p → Tried B back x entry p k → ⊥) here_is none,
          refl,
        )))
    leave _ _ (went q j entry next k e b far t) here_is c =
        let furthest : Furthest B entry i k = subst (λ p. Furthest B entry p k) here_is (b, far) in
        elim (at_or_past i k (on_from entry k furthest.0)) [
          | inl same ↦ leave next k t same
              (on q next (Atomic entry next) c e
              (subst (λ p. Furthest B entry i p) same furthest, refl))
          | inr past ↦ inr (inr (
            next,
            k,
            h.all_leap next k (q, Atomic entry next, c, e, (furthest, refl), past),
            t,
          ))
        ]

  -- a state accepts what one accepts that follows it
  before : (q i a : ℕ) (n : Node) → slice_get nodes q ≡ Some n → Follows g B n i a →
      Accepts g nodes B end a i → Accepts g nodes B end q i
  before q i a (Look back entry yes' no') e f t =
      elim f [
        | inl y ↦ ended q i back entry yes' no' y.0.0 y.0.1 e y.0.2 y.0.3
            (subst (λ r. Accepts g nodes B end r i) y.1 t)
        | inr y ↦ missed q i back entry yes' no' e y.0
            (subst (λ r. Accepts g nodes B end r i) y.1 t)
      ]
  before q i a (Atomic entry next) e f t =
      went q i entry next i e f.0.0 f.0.1 (subst (λ r. Accepts g nodes B end r i) f.1 t)
  before q i a (One item next) e f t = moved q i a (One item next) e f t
  before q i a (Break next) e f t = moved q i a (Break next) e f t
  before q i a (Anchor kind next) e f t = moved q i a (Anchor kind next) e f t
  before q i a (Split x y) e f t = moved q i a (Split x y) e f t
  before q i a (Goto next) e f t = moved q i a (Goto next) e f t
  before q i a Dead e f t = moved q i a Dead e f t
  before q i a Match e f t = moved q i a Match e f t

  pub leap_before : (q i j a : ℕ) (n : Node) → slice_get nodes q ≡ Some n → Leaps B n i j a →
      Accepts g nodes B end a j → Accepts g nodes B end q i
  leap_before q i j a (Atomic entry next) e f t =
      went q i entry next j e f.0.0 f.0.1 (subst (λ r. Accepts g nodes B end r j) f.1 t)
  leap_before q i j a (Look back entry yes' no') e f t = absurd f
  leap_before q i j a (One item next) e f t = absurd f
  leap_before q i j a (Break next) e f t = absurd f
  leap_before q i j a (Anchor kind next) e f t = absurd f
  leap_before q i j a (Split x y) e f t = absurd f
  leap_before q i j a (Goto next) e f t = absurd f
  leap_before q i j a Dead e f t = absurd f
  leap_before q i j a Match e f t = absurd f

  pub enter : (i : ℕ) (start : List ℕ) (q : ℕ) → Comes g nodes B i start q →
      Accepts g nodes B end q i → SomeAccepts g nodes B end i start
  enter i start _ (here q m) a = (q, m, a)
  enter i start _ (on q a n c e f) t = enter i start q c (before q i a n e f t)

-- what is accepted lies between the place and the subject's end
accepts_stand : (g : Scene) (nodes : List Node) (B : Inner) (end q i : ℕ) → StandsAlong g →
    EndsStand g B → Accepts g nodes B end q i → Stands g i → (i ≤ end) × Stands g end
accepts_stand g nodes B end _ _ along inner (matched q i e same) stands =
    (omega (arith, same), subst (Stands g) same stands)
accepts_stand g nodes B end _ _ along inner (moved q i a n e m t) stands =
    accepts_stand g nodes B end a i along inner t stands
accepts_stand g nodes B end _ _ along inner (landed q i j n e k t) stands =
    let f = lands_past g i j n along stands k in
    let w = accepts_stand g nodes B end (target n) j along inner t f.1 in
    let a = f.0 in
    let b = w.0 in
    (omega (arith, a, b), w.1)
accepts_stand g nodes B end _ _ along inner (ended q i back entry yes' no' p k e b y t) stands =
    accepts_stand g nodes B end yes' i along inner t stands
accepts_stand g nodes B end _ _ along inner (missed q i back entry yes' no' e none t) stands =
    accepts_stand g nodes B end no' i along inner t stands
accepts_stand g nodes B end _ _ along inner (went q i entry next j e b far t) stands =
    let f = inner entry i j b stands in
    let w = accepts_stand g nodes B end next j along inner t f.1 in
    let a = f.0 in
    let b = w.0 in
    (omega (arith, a, b), w.1)

pub deep_stand : (g : Scene) (nodes : List Node) (d : ℕ) → StandsAlong g →
    EndsStand g (Deep g nodes d)
unfolding Deep
deep_stand g nodes zero along entry i k h stands = absurd h
deep_stand g nodes (suc d) along entry i k h stands =
    accepts_stand g nodes (Deep g nodes d) k entry i along (deep_stand g nodes d along) h stands

pub deep_within : (g : Scene) (nodes : List Node) (d q i end : ℕ) → StandsAlong g →
    Deep g nodes d q i end → Stands g i → (i ≤ end) × (end ≤ length g.subject)
deep_within g nodes d q i end along h stands =
    let w = deep_stand g nodes d along q i end h stands in
    (w.0, w.1.within)

-- what comes at a place comes from one of the first states
pub comes_from : (g : Scene) (nodes : List Node) (B : Inner) (i : ℕ) (start : List ℕ) (q : ℕ) →
    Comes g nodes B i start q → (s : ℕ) × Among s start
comes_from g nodes B i start _ (here q a) = (q, a)
comes_from g nodes B i start _ (on q a n c e m) = comes_from g nodes B i start q c

pub leaps_in : (B : Inner) (i j a states classes : ℕ) (n : Node) → IsNodeIn states classes n →
    Leaps B n i j a → a < states
leaps_in B i j a states classes (Atomic entry next) ok h =
    subst (λ k. k < states) (sym h.1) ok.1
leaps_in B i j a states classes (Look back entry yes' no') ok h = absurd h
leaps_in B i j a states classes (One item next) ok h = absurd h
leaps_in B i j a states classes (Break next) ok h = absurd h
leaps_in B i j a states classes (Anchor kind next) ok h = absurd h
leaps_in B i j a states classes (Split x y) ok h = absurd h
leaps_in B i j a states classes (Goto next) ok h = absurd h
leaps_in B i j a states classes Dead ok h = absurd h
leaps_in B i j a states classes Match ok h = absurd h

pub leaps_stand : (g : Scene) (B : Inner) (i j a : ℕ) (n : Node) → EndsStand g B → Stands g i →
    Leaps B n i j a → Stands g j
leaps_stand g B i j a (Atomic entry next) inner stands h = (inner entry i j h.0.0 stands).1
leaps_stand g B i j a (Look back entry yes' no') inner stands h = absurd h
leaps_stand g B i j a (One item next) inner stands h = absurd h
leaps_stand g B i j a (Break next) inner stands h = absurd h
leaps_stand g B i j a (Anchor kind next) inner stands h = absurd h
leaps_stand g B i j a (Split x y) inner stands h = absurd h
leaps_stand g B i j a (Goto next) inner stands h = absurd h
leaps_stand g B i j a Dead inner stands h = absurd h
leaps_stand g B i j a Match inner stands h = absurd h

mul_more : (n k : ℕ) → n * (k + 1) ≡ n * k + n
mul_more n k = omega arith

count_grows : (b : Bool) (k : ℕ) → k ≤ count_if b k
count_grows true k = omega arith
count_grows false k = omega arith

count_one : (b : Bool) (k : ℕ) → b ≡ true → count_if b k ≡ k + 1
count_one true k e = omega arith
count_one false k e = cc

either : (a b c : Bool) → (a ≡ false → b ≡ false → c ≡ true → ⊥) → (a || b || not c) ≡ true
either true b c h = refl
either false true c h = refl
either false false false h = refl
either false false true h = absurd (h refl refl refl)

-- where a search stands, a character begins, or the text ends
stop_of : (utf : Bool) (bytes : List ℕ) (i : ℕ) → (IsTrue utf → IsCharBoundary bytes i) →
    is_stop utf bytes i ≡ true
stop_of false bytes i h = refl
stop_of true bytes i h =
    either (nat_lt (slice_index bytes i) 128) (nat_lt 191 (slice_index bytes i))
    (nat_lt i (length bytes))
    (λ a b c. (
    let low = ltb-false _ _ a in
    let high = ltb-false _ _ b in
    let wide = (h refl).1 (ltb-true _ _ c) low in
    absurd (omega (arith, high, wide))))

stands_stop : (g : Scene) (i : ℕ) → Stands g i → is_stop g.options.utf g.subject i ≡ true
stands_stop g i h = stop_of g.options.utf g.subject i h.between

stops_next : (utf : Bool) (bytes : List ℕ) (at : ℕ) → at ≤ length bytes →
    stops_from utf bytes at ≡ count_if (is_stop utf bytes at) (stops_from utf bytes (at + 1))
unfolding stops
stops_next utf bytes at l =
    let d : length bytes + 1 - at ≡ suc (length bytes + 1 - (at + 1)) = omega (arith, l) in
    ap (stops utf bytes at) d

-- each leaf makes a test at most, and where there is one, a character begins or the text ends
pub more : (g : Scene) (n old tests tests' at place : ℕ) (leaves : List ℕ) → at ≤ length g.subject →
    tests + n * stops_from g.options.utf g.subject at
    ≤ old + n * stops_from g.options.utf g.subject place →
    tests' ≤ tests + length leaves → length leaves ≤ n →
    ((q : ℕ) → Among q leaves → Stands g at) →
    tests' + n * stops_from g.options.utf g.subject (at + 1)
    ≤ old + n * stops_from g.options.utf g.subject place
unfolding Among
more g n old tests tests' at place [] l few t f stands =
    let k = stops_from g.options.utf g.subject at in
    let k' = stops_from g.options.utf g.subject (at + 1) in
    let e = stops_next g.options.utf g.subject at l in
    let grows : k' ≤ k = subst (λ i. k' ≤ i) (sym e)
    (count_grows (is_stop g.options.utf g.subject at) k') in
    let m : n * k' ≤ n * k = mul-le n k' n k (omega arith) grows in
    omega (arith, few, t, m)
more g n old tests tests' at place (q ∷ qs) l few t f stands =
    let k = stops_from g.options.utf g.subject at in
    let k' = stops_from g.options.utf g.subject (at + 1) in
    let e : k ≡ k' + 1 = stops_next g.options.utf g.subject at l
    ∙ count_one (is_stop g.options.utf g.subject at) k' (stands_stop g at (stands q (inl refl))) in
    let m : n * k ≡ n * k' + n = ap (λ i. n * i) e ∙ mul_more n k' in
    omega (arith, few, t, f, m)

-- what is left makes no test
pub no_more : (a b c : ℕ) → a + b ≤ c → a ≤ c
no_more a b c l = omega (arith, l)
