-- The loop that follows what takes nothing.
use Rattle.std.proofs.Common.{◌≡◌, ◌∙◌, ℕ, zero, suc, ◌+◌, ◌*◌, ◌<◌, ◌≤◌, ◌⊎◌, Bool, true, false, List, [], ◌∷◌}
use Rattle.std.proofs.Common.{◌++◌, length, replicate, Some, refl, sym, ap, subst, inl, inr, arith, length-set}
use Rattle.std.proofs.Common.{length-append}
use Rattle.std.specs.Prelude.{◌&&◌, ◌||◌, not, slice_get, slice_index_or, slice_set}
use Rattle.std.proofs.lemmas.List.{length-replicate}
use Rattle.match_items.specs.Scene.{Scene}
use Rattle.match_items.specs.Items.{holds}
use Rattle.dfa_ends.specs.Ends.{Among}
use Rattle.dfa_paths.specs.declared.graph.Node.{Node}
use Rattle.dfa_paths.specs.declared.graph.Node.TheVariants.{One, Break, Anchor, Split, Goto, Look, Atomic, Dead, Match}
use Rattle.dfa_lists.specs.declared.lists.Seed.{Seed}
use Rattle.dfa_paths.specs.Graph.{takes, is_match, moves, Inner, Follows, Leaps, Comes, here, on, AllBelow, IsNodeIn}
use Rattle.dfa_paths.specs.Graph.{IsGraph, count_if, takers}
use Rattle.dfa_lists.specs.Lists.{IsTaking, IsMatching, IsClosed, IsVisited, closure, waiting, Leaping, Waits, kept}
use Rattle.dfa_lists.proofs.Landing.{waits_first, waits_second, waits_append}
use Rattle.dfa_paths.proofs.Coming.{node_same}
use Rattle.dfa_paths.proofs.Places.{among_first, among_second, among_append, among_one, among_last, among_push}
use Rattle.dfa_paths.proofs.Places.{or_left, or_right, or_cases}
use Rattle.dfa_lists.proofs.Kept.{kept_old, kept_new, kept_cases}

unfoldable pub Marked : List Bool → ℕ → Type 0
Marked marks q = slice_index_or marks q false ≡ true

unfoldable pub unmarked : List Bool → ℕ
unmarked [] = 0
unmarked (true ∷ ms) = unmarked ms
unmarked (false ∷ ms) = 1 + unmarked ms

-- how many states that take something are not marked
unfoldable pub unmarked_takers : List Node → List Bool → ℕ
unmarked_takers [] ms = 0
unmarked_takers (n ∷ ns) [] = 0
unmarked_takers (n ∷ ns) (m ∷ ms) = count_if (takes n && not m) (unmarked_takers ns ms)

-- q is marked, or waits
abbrev pub Seen : List Bool → List ℕ → ℕ → Type 0
Seen marks seeds q = Marked marks q ⊎ Among q seeds

-- what the state q does is not lost
pub record IsCovered (g : Scene) (B : Inner) (i : ℕ) (marks : List Bool) (seeds leaves : List ℕ)
    (leaps : List Seed) (hit : Bool)
    (q : ℕ) (n : Node) : Type 0 where
  pub moves_on : (a : ℕ) → Follows g B n i a → Seen marks seeds a
  pub leaps_on : (a j : ℕ) → Leaps B n i j a → i < j → Waits a j leaps
  pub is_kept : takes n ≡ true → Among q leaves
  pub is_told : is_match n ≡ true → hit ≡ true

pub record Going (g : Scene) (nodes : List Node) (B : Inner) (i : ℕ) (start seeds : List ℕ)
    (marks : List Bool) (leaves : List ℕ) (old later : List Seed) (hit : Bool) : Type 0 where
  pub leaps : List Seed
  pub later_is : later ≡ old ++ leaps
  pub size : length marks ≡ length nodes
  pub few : length leaves + unmarked_takers nodes marks ≤ takers nodes
  pub seeds_in : AllBelow (length nodes) seeds
  pub met : (q : ℕ) → Among q start → Seen marks seeds q
  pub covered : (q : ℕ) (n : Node) → Marked marks q → slice_get nodes q ≡ Some n →
      IsCovered g B i marks seeds leaves leaps hit q n
  pub seeds_come : (q : ℕ) → Among q seeds → Comes g nodes B i start q
  pub leaves_come : (q : ℕ) → Among q leaves → Comes g nodes B i start q × IsTaking nodes q
  pub leaps_come : (a j : ℕ) → Waits a j leaps → Leaping g nodes B i start a j
  pub hit_comes : hit ≡ true → (q : ℕ) × Comes g nodes B i start q × IsMatching nodes q

marked_set : (ms : List Bool) (q p : ℕ) → Marked ms p → Marked (slice_set ms q true) p
unfolding Marked
marked_set [] q p h = h
marked_set (m ∷ ms) zero zero h = refl
marked_set (m ∷ ms) zero (suc p) h = h
marked_set (m ∷ ms) (suc q) zero h = h
marked_set (m ∷ ms) (suc q) (suc p) h = marked_set ms q p h

marked_new : (ms : List Bool) (q : ℕ) → q < length ms → Marked (slice_set ms q true) q
unfolding Marked
marked_new [] q l = absurd (omega (arith, l))
marked_new (m ∷ ms) zero l = refl
marked_new (m ∷ ms) (suc q) l = marked_new ms q (omega (arith, l))

pub marked_old : (ms : List Bool) (q p : ℕ) → Marked (slice_set ms q true) p → Marked ms p ⊎ (p ≡ q)
unfolding Marked
marked_old [] q p h = inl h
marked_old (m ∷ ms) zero zero h = inr refl
marked_old (m ∷ ms) zero (suc p) h = inl h
marked_old (m ∷ ms) (suc q) zero h = inl h
marked_old (m ∷ ms) (suc q) (suc p) h =
    elim (marked_old ms q p h) [ inl a ↦ inl a | inr b ↦ inr (ap suc b) ]

pub unmarked_less : (ms : List Bool) (q : ℕ) → q < length ms → slice_index_or ms q false ≡ false →
    unmarked (slice_set ms q true) + 1 ≡ unmarked ms
unfolding unmarked
unmarked_less [] q l e = absurd (omega (arith, l))
unmarked_less (true ∷ ms) zero l e = cc
unmarked_less (false ∷ ms) zero l e = omega arith
unmarked_less (true ∷ ms) (suc q) l e = unmarked_less ms q (omega (arith, l)) e
unmarked_less (false ∷ ms) (suc q) l e =
    let r = unmarked_less ms q (omega (arith, l)) e in omega (arith, r)

count_here : (b : Bool) (w : ℕ) → count_if b (count_if (b && false) w) ≡ count_if (b && true) w
count_here true w = refl
count_here false w = refl

count_swap : (a b : Bool) (w : ℕ) → count_if a (count_if b w) ≡ count_if b (count_if a w)
count_swap true true w = refl
count_swap true false w = refl
count_swap false true w = refl
count_swap false false w = refl

takers_less : (ns : List Node) (ms : List Bool) (q : ℕ) (n : Node) → slice_get ns q ≡ Some n →
    q < length ms → slice_index_or ms q false ≡ false →
    count_if (takes n) (unmarked_takers ns (slice_set ms q true)) ≡ unmarked_takers ns ms
unfolding unmarked_takers
takers_less [] ms q n e l u = cc
takers_less (m ∷ ns) [] q n e l u = absurd (omega (arith, l))
takers_less (m ∷ ns) (true ∷ ms) zero n e l u = cc
takers_less (m ∷ ns) (false ∷ ms) zero n e l u =
    subst (λ k. count_if (takes k) (count_if (takes m && false) (unmarked_takers ns ms))
    ≡ count_if (takes m && true) (unmarked_takers ns ms)) (node_same m n e)
    (count_here (takes m) (unmarked_takers ns ms))
takers_less (m ∷ ns) (b ∷ ms) (suc q) n e l u =
    count_swap (takes n) (takes m && not b) (unmarked_takers ns (slice_set ms q true))
    ∙ ap (λ w. count_if (takes m && not b) w) (takers_less ns ms q n e (omega (arith, l)) u)

count_most : (a b : Bool) (w t : ℕ) → w ≤ t → count_if (a && b) w ≤ count_if a t
count_most true true w t l = omega (arith, l)
count_most true false w t l = omega (arith, l)
count_most false b w t l = l

takers_most : (ns : List Node) (ms : List Bool) → unmarked_takers ns ms ≤ takers ns
unfolding unmarked_takers takers
takers_most [] ms = omega arith
takers_most (n ∷ ns) [] = omega arith
takers_most (n ∷ ns) (m ∷ ms) =
    count_most (takes n) (not m) (unmarked_takers ns ms) (takers ns) (takers_most ns ms)

few_kept : (b : Bool) (q : ℕ) (qs : List ℕ) (w w' t : ℕ) → length qs + w ≤ t → count_if b w' ≡ w →
    length (kept b q qs) + w' ≤ t
few_kept true q qs w w' t l e =
    let n = length-append qs (q ∷ []) in
    let s : 1 + w' ≡ w = e in
    omega (arith, l, s, n)
few_kept false q qs w w' t l e = let s : w' ≡ w = e in omega (arith, l, s)

moves_if : (b : Bool) (p states a : ℕ) → p < states →
    Among a (elim b as (λ _. List ℕ) [ true ↦ p ∷ [] | false ↦ [] ]) → a < states
unfolding Among
moves_if true p states a l h =
    let e = among_one a p h in subst (λ k. k < states) (sym e) l
moves_if false p states a l h = absurd h

follows_in : (g : Scene) (B : Inner) (i states classes : ℕ) (n : Node) (a : ℕ) →
    IsNodeIn states classes n → Follows g B n i a → a < states
unfolding Among
follows_in g B i states classes (One item next) a ok h = absurd h
follows_in g B i states classes (Break next) a ok h = absurd h
follows_in g B i states classes (Anchor kind next) a ok h =
    moves_if (holds g kind i) next states a ok h
follows_in g B i states classes (Split first second) a ok h =
    elim h [
      | inl e ↦ subst (λ k. k < states) (sym e) ok.0
      | inr r ↦ let e = among_one a second r in subst (λ k. k < states) (sym e) ok.1
    ]
follows_in g B i states classes (Goto next) a ok h =
    let e = among_one a next h in subst (λ k. k < states) (sym e) ok
follows_in g B i states classes (Look back entry hit miss) a ok h =
    elim h [
      | inl y ↦ subst (λ k. k < states) (sym y.1) ok.1
      | inr y ↦ subst (λ k. k < states) (sym y.1) ok.2
    ]
follows_in g B i states classes (Atomic entry next) a ok h =
    subst (λ k. k < states) (sym h.1) ok.1
follows_in g B i states classes Dead a ok h = absurd h
follows_in g B i states classes Match a ok h = absurd h

len_if : (b : Bool) (p : ℕ) → length {A = ℕ} (elim b [ true ↦ p ∷ [] | false ↦ [] ]) ≤ 2
len_if true p = omega arith
len_if false p = omega arith

pub two_moves : (g : Scene) (i : ℕ) (n : Node) → length (moves g n i) ≤ 2
two_moves g i (One item next) = omega arith
two_moves g i (Break next) = omega arith
two_moves g i (Anchor kind next) = len_if (holds g kind i) next
two_moves g i (Split first second) = omega arith
two_moves g i (Goto next) = omega arith
two_moves g i (Look back entry hit miss) = omega arith
two_moves g i (Atomic entry next) = omega arith
two_moves g i Dead = omega arith
two_moves g i Match = omega arith

index_any : (ms : List Bool) (q : ℕ) (a b : Bool) → q < length ms →
    slice_index_or ms q a ≡ slice_index_or ms q b
index_any [] q a b l = absurd (omega (arith, l))
index_any (m ∷ ms) zero a b l = refl
index_any (m ∷ ms) (suc q) a b l = index_any ms q a b (omega (arith, l))

-- what was read is the mark
pub read_mark : (marks : List Bool) (q : ℕ) (r b : Bool) → q < length marks →
    r ≡ slice_index_or marks q r → r ≡ b → slice_index_or marks q false ≡ b
read_mark marks q r b l e f = index_any marks q false r l ∙ sym e ∙ f

more_assoc : (xs ys zs : List Seed) → (xs ++ ys) ++ zs ≡ xs ++ (ys ++ zs)
more_assoc [] ys zs = refl
more_assoc (x ∷ xs) ys zs = ap (λ ts. x ∷ ts) (more_assoc xs ys zs)

module _ (g : Scene) (nodes : List Node) (B : Inner) (i : ℕ) (start rest : List ℕ)
    (marks : List Bool) (leaves : List ℕ) (old later : List Seed)
    (hit : Bool) (q : ℕ) where
  -- it stays seen where its seed goes, once it is marked
  seen_popped : (marks' : List Bool) (seeds' : List ℕ) →
      ((p : ℕ) → Marked marks p → Marked marks' p) →
      Marked marks' q → ((p : ℕ) → Among p rest → Among p seeds') → (p : ℕ) →
      Seen marks (rest ++ q ∷ []) p → Seen marks' seeds' p
  seen_popped marks' seeds' keeps new stays p h =
      elim h [
        | inl a ↦ inl (keeps p a)
        | inr b ↦ elim (among_push rest q p b) [
          | inl c ↦ inr (stays p c)
          | inr d ↦ inl (subst (Marked marks') (sym d) new)
        ]
      ]

  module _ (h : Going g nodes B i start (rest ++ q ∷ []) marks leaves old later hit) where
    pub top_in : q < length nodes
    top_in = h.seeds_in q (among_last rest q)

    pub top_marks : q < length marks
    top_marks = let l = top_in in omega (arith, h.size, l)

    pub pop_marked : slice_index_or marks q false ≡ true →
        Going g nodes B i start rest marks leaves old later hit
    unfolding Marked
    pop_marked m = record {
      leaps = h.leaps;
      later_is = h.later_is;
      size = h.size;
      few = h.few;
      seeds_in = λ p j. h.seeds_in p (among_first rest _ p j);
      met = λ p j. seen_popped marks rest (λ r k. k) m (λ r k. k) p (h.met p j);
      covered = λ p n j e. (
          let c = h.covered p n j e in
          record {
            moves_on = λ a k. seen_popped marks rest (λ r k. k) m (λ r k. k) a (c.moves_on a k);
            leaps_on = c.leaps_on;
            is_kept = c.is_kept;
            is_told = c.is_told;
          });
      seeds_come = λ p j. h.seeds_come p (among_first rest _ p j);
      leaves_come = h.leaves_come;
      leaps_come = h.leaps_come;
      hit_comes = h.hit_comes;
    }

    module _ (n : Node) (e : slice_get nodes q ≡ Some n) (seeds' : List ℕ) (later' : List Seed)
        (v : IsVisited g B n i (waiting rest later) (waiting seeds' later')) where
      top_comes : Comes g nodes B i start q
      top_comes = h.seeds_come q (among_last rest q)

      -- what is covered after it
      Covered : ℕ → Node → Type 0
      Covered p k =
          IsCovered g B i (slice_set marks q true) (rest ++ v.more) (kept (takes n) q leaves)
          (h.leaps ++ v.leaps) (hit || is_match n) p k

      old_covered : (p : ℕ) (k : Node) →
          IsCovered g B i marks (rest ++ q ∷ []) leaves h.leaps hit p k → Covered p k
      unfolding Covered
      old_covered p k c = record {
        moves_on = λ a j. seen_popped _ _ (marked_set marks q) (marked_new marks q top_marks)
            (among_first rest v.more) a (c.moves_on a j);
        leaps_on = λ a j y l. waits_first a j h.leaps v.leaps (c.leaps_on a j y l);
        is_kept = λ t. kept_old (takes n) q leaves p (c.is_kept t);
        is_told = λ t. or_left hit (is_match n) (c.is_told t);
      }

      top_covered : Covered q n
      unfolding Covered
      top_covered = record {
        moves_on = λ a j. inr (among_second rest v.more a (v.all_follow a j));
        leaps_on = λ a j y l. waits_second a j h.leaps v.leaps (v.all_leap a j y l);
        is_kept = λ t. kept_new (takes n) q leaves t;
        is_told = λ t. or_right hit (is_match n) t;
      }

      new_covered : (p : ℕ) (k : Node) → Marked (slice_set marks q true) p →
          slice_get nodes p ≡ Some k → Covered p k
      new_covered p k m f =
          elim (marked_old marks q p m) [
            | inl a ↦ old_covered p k (h.covered p k a f)
            | inr b ↦
                let same = node_same n k (sym e ∙ ap (slice_get nodes) (sym b) ∙ f) in
                subst (λ r. Covered r k) (sym b) (subst (λ k. Covered q k) same top_covered)
          ]

      pub pop_new : (classes : ℕ) → IsGraph classes nodes → slice_index_or marks q false ≡ false →
          Going g nodes B i start (rest ++ v.more) (slice_set marks q true)
          (kept (takes n) q leaves) old later' (hit || is_match n)
      unfolding Covered
      pop_new classes ok un = record {
        leaps = h.leaps ++ v.leaps;
        later_is = v.later_are ∙ ap (λ ts. ts ++ v.leaps) h.later_is
            ∙ more_assoc old h.leaps v.leaps;
        size = length-set marks q true ∙ h.size;
        few = few_kept (takes n) q leaves _ _ _ h.few (takers_less nodes marks q n e top_marks un);
        seeds_in = λ p j. (elim (among_append rest v.more p j) [
          | inl a ↦ h.seeds_in p (among_first rest _ p a)
          | inr b ↦ follows_in g B i (length nodes) classes n p (ok q n e) (v.each_follows p b)
        ]);
        met = λ p j. seen_popped _ _ (marked_set marks q) (marked_new marks q top_marks)
            (among_first rest v.more) p (h.met p j);
        covered = new_covered;
        seeds_come = λ p j. (elim (among_append rest v.more p j) [
          | inl a ↦ h.seeds_come p (among_first rest _ p a)
          | inr b ↦ on q p n top_comes e (v.each_follows p b)
        ]);
        leaves_come = λ p j. (elim (kept_cases (takes n) q leaves p j) [
          | inl a ↦ h.leaves_come p a
          | inr b ↦ subst (λ r. Comes g nodes B i start r × IsTaking nodes r) (sym b.0)
              (top_comes, (n, e, b.1))
        ]);
        leaps_come = λ a j w. (elim (waits_append a j h.leaps v.leaps w) [
          | inl b ↦ h.leaps_come a j b
          | inr b ↦ let y = v.each_leaps a j b in (q, n, top_comes, e, y.0, y.1)
        ]);
        hit_comes = λ t. (elim (or_cases hit (is_match n) t) [
          | inl a ↦ h.hit_comes a
          | inr b ↦ (q, top_comes, (n, e, b))
        ]);
      }

pub all_false : (n q : ℕ) → slice_index_or (replicate n false) q false ≡ true → ⊥
all_false zero q e = cc
all_false (suc n) zero e = cc
all_false (suc n) (suc q) e = all_false n q e

nothing_more : (ts : List Seed) → ts ≡ ts ++ []
nothing_more [] = refl
nothing_more (t ∷ ts) = ap (λ us. t ∷ us) (nothing_more ts)

-- the start: nothing is marked
pub begin : (g : Scene) (nodes : List Node) (B : Inner) (i : ℕ) (start : List ℕ)
    (marks : List Bool) (leaves : List ℕ) (later : List Seed) →
    marks ≡ replicate (length nodes) false → AllBelow (length nodes) start → leaves ≡ [] →
    Going g nodes B i start start marks leaves later later false
unfolding Among Marked Waits
begin g nodes B i start marks leaves later m s l = record {
  leaps = [];
  later_is = nothing_more later;
  size = ap length m ∙ length-replicate (length nodes) false;
  few = (let t = takers_most nodes marks in let z = ap length l in omega (arith, t, z));
  seeds_in = s;
  met = λ q j. inr j;
  covered = λ q n j e. absurd
      (all_false (length nodes) q (subst (λ ms. slice_index_or ms q false ≡ true) m j));
  seeds_come = λ q j. here q j;
  leaves_come = λ q j. absurd (subst (Among q) l j);
  leaps_come = λ a j w. absurd w;
  hit_comes = λ e. cc;
}

-- When no seed is left, all that comes is marked.
module _ (g : Scene) (nodes : List Node) (B : Inner) (i : ℕ) (start seeds : List ℕ)
    (marks : List Bool) (leaves : List ℕ) (old later : List Seed)
    (hit : Bool) (none : seeds ≡ [])
    (h : Going g nodes B i start seeds marks leaves old later hit) where
  seen_marked : (q : ℕ) → Seen marks seeds q → Marked marks q
  unfolding Among
  seen_marked q s = elim s [ inl a ↦ a | inr b ↦ absurd (subst (Among q) none b) ]

  pub comes_marked : (q : ℕ) → Comes g nodes B i start q → Marked marks q
  comes_marked _ (here q j) = seen_marked q (h.met q j)
  comes_marked _ (on q a n c e j) =
      seen_marked a ((h.covered q n (comes_marked q c) e).moves_on a j)

  pub closed : (leaps : List Seed) × (later ≡ old ++ leaps)
      × IsClosed g nodes B i start (closure leaves leaps hit)
  closed = (
    h.leaps,
    h.later_is,
    record {
      each_comes = h.leaves_come;
      all_are_kept = λ q c t. (h.covered q t.0 (comes_marked q c) t.1).is_kept t.2;
      hit_comes = h.hit_comes;
      comes_hit = λ q c t. (h.covered q t.0 (comes_marked q c) t.1).is_told t.2;
      each_leaps = h.leaps_come;
      all_leap = λ a j y. (h.covered y.0 y.1 (comes_marked y.0 y.2) y.3).leaps_on a j y.4 y.5;
      few = omega (arith, h.few);
    },
  )

-- The steps of the loop.

pub at_pop : (g : Scene) (nodes : List Node) (B : Inner) (i : ℕ) (start seeds rest : List ℕ)
    (marks : List Bool) (leaves : List ℕ) (old later : List Seed)
    (hit : Bool) (q : ℕ) → seeds ≡ rest ++ q ∷ [] →
    Going g nodes B i start seeds marks leaves old later hit →
    Going g nodes B i start (rest ++ q ∷ []) marks leaves old later hit
at_pop g nodes B i start seeds rest marks leaves old later hit q e h =
    subst (λ xs. Going g nodes B i start xs marks leaves old later hit) e h

module _ (g : Scene) (nodes : List Node) (B : Inner) (i : ℕ) (start seeds rest : List ℕ)
    (marks : List Bool) (leaves : List ℕ) (old later : List Seed)
    (hit : Bool) (q : ℕ) (pop : seeds ≡ rest ++ q ∷ [])
    (h : Going g nodes B i start seeds marks leaves old later hit) where
  top : Going g nodes B i start (rest ++ q ∷ []) marks leaves old later hit
  top = at_pop g nodes B i start seeds rest marks leaves old later hit q pop h

  pub popped_in : q < length nodes
  popped_in = top_in g nodes B i start rest marks leaves old later hit q top

  pub popped_marks : q < length marks
  popped_marks = let l = popped_in in omega (arith, h.size, l)

  pub passed_over : slice_index_or marks q false ≡ true →
      Going g nodes B i start rest marks leaves old later hit
  passed_over m = pop_marked g nodes B i start rest marks leaves old later hit q top m

  -- the state is visited
  pub visited : (n : Node) (classes : ℕ) → slice_get nodes q ≡ Some n → IsGraph classes nodes →
      slice_index_or marks q false ≡ false →
      (marks' : List Bool) (seeds' leaves' : List ℕ) (later' : List Seed) (hit' : Bool) →
      marks' ≡ slice_set marks q true →
      IsVisited g B n i (waiting rest later) (waiting seeds' later') →
      leaves' ≡ kept (takes n) q leaves →
      hit' ≡ (hit || is_match n) →
      Going g nodes B i start seeds' marks' leaves' old later' hit'
  visited n classes e ok un marks' seeds' leaves' later' hit' em v el eh =
      subst (λ ms. Going g nodes B i start seeds' ms leaves' old later' hit') (sym em)
      (subst (λ xs. Going g nodes B i start xs (slice_set marks q true) leaves' old later' hit')
      (sym v.seeds_are)
      (subst (λ xs. Going g nodes B i start (rest ++ v.more) (slice_set marks q true) xs old later'
      hit') (sym el)
      (subst (λ b. Going g nodes B i start (rest ++ v.more) (slice_set marks q true)
      (kept (takes n) q leaves) old later' b) (sym eh)
      (pop_new g nodes B i start rest marks leaves old later hit q top n e seeds' later' v classes ok
      un))))

  pub fewer : (n : Node) (marks' : List Bool) (seeds' : List ℕ) (later' : List Seed) →
      slice_index_or marks q false ≡ false → marks' ≡ slice_set marks q true →
      IsVisited g B n i (waiting rest later) (waiting seeds' later') →
      3 * unmarked marks' + length seeds' < 3 * unmarked marks + length seeds
  fewer n marks' seeds' later' un em v =
      let s = ap length v.seeds_are in
      let p = ap length pop in
      let k = length-append rest (q ∷ []) in
      let f = unmarked_less marks q popped_marks un in
      let u = ap unmarked em in
      let m = length-append rest v.more in
      let two = v.few in
      omega (arith, s, p, k, f, u, m, two)

pub or_then : (a b c : Bool) → a ≡ true → a ≡ (a || c)
or_then true b c e = refl
or_then false b c e = cc

pub or_else : (a b c : Bool) → a ≡ false → b ≡ c → b ≡ (a || c)
or_else true b c e f = cc
or_else false b c e f = f
