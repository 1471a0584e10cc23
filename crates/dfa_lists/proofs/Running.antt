-- The loop over the places.
use Rattle.std.proofs.Common.{◌≡◌, ◌∙◌, ℕ, zero, suc, ◌+◌, ◌-◌, ◌*◌, ◌<◌, ◌≤◌, ◌⊎◌, Bool, false, List, [], ◌∷◌, ◌++◌}
use Rattle.std.proofs.Common.{length, Some, None, refl, sym, ap, subst, inl, inr, arith}
use Rattle.std.proofs.lemmas.Bool.{false≢true}
use Rattle.std.specs.Prelude.{slice_get, slice_index_or}
use Rattle.match_items.specs.Scene.{Scene}
use Rattle.match_items.specs.Laws.{Stands, StandsAlong}
use Rattle.dfa_ends.specs.Ends.{Among}
use Rattle.dfa_paths.specs.declared.graph.Node.{Node}
use Rattle.dfa_lists.specs.declared.lists.Seed.{Seed}
use Rattle.dfa_paths.specs.Graph.{Inner, IsFurthest, Accepts, matched, landed, Comes, here, AllBelow, IsGraph}
use Rattle.dfa_paths.specs.Graph.{IsFlat, takers}
use Rattle.dfa_lists.specs.Lists as lists
use Rattle.dfa_paths.specs.Fragment.{Rising}
use Rattle.dfa_lists.specs.Lists.{IsClosed, IsTakenAt, closure, progress, kept, waiting_at, elsewhere, Waits}
use Rattle.dfa_lists.specs.Lists.{Leaping, stops_from}
use Rattle.dfa_paths.proofs.Places.{among_at, get_in}
use Rattle.dfa_lists.proofs.Kept.{kept_old, kept_new, kept_cases}
use Rattle.dfa_lists.proofs.Landing.{landed_none, holds_later, holds_still, Landing, landed_cases, parted}
use Rattle.dfa_lists.proofs.Landing.{waits_here, waits_elsewhere, waits_append}
use Rattle.dfa_lists.proofs.Following.{SomeWaits, EndsStand, rising_kept, match_is, lands_past, target_in, Gone}
use Rattle.dfa_lists.proofs.Following.{leave, leap_before, enter, comes_from, leaps_in, leaps_stand, more}

pub record Running (g : Scene) (nodes : List Node) (B : Inner) (entry place at : ℕ)
    (pending : List Seed) (found : List ℕ) (old tests : ℕ) : Type 0 where
  pub from : place ≤ at
  pub within : at ≤ length g.subject + 1
  pub pending_in : (q j : ℕ) → Waits q j pending →
      (at ≤ j) × (j ≤ length g.subject) × (q < length nodes)
  pub standing : (q j : ℕ) → Waits q j pending → Stands g j
  pub sound : (end : ℕ) → Among end found → Accepts g nodes B end entry place
  pub pending_sound : (q j end : ℕ) → Waits q j pending → Accepts g nodes B end q j →
      Accepts g nodes B end entry place
  pub full : (end : ℕ) → Accepts g nodes B end entry place →
      Among end found ⊎ SomeWaits g nodes B end pending
  pub below : (q : ℕ) → Among q found → q < at
  pub rising : Rising found
  pub few : IsFlat nodes →
      tests + takers nodes * stops_from g.options.utf g.subject at
      ≤ old + takers nodes * stops_from g.options.utf g.subject place

-- One place is done: what waits there is closed, its leaves take what stands there.
module _ (g : Scene) (nodes : List Node) (B : Inner) (classes entry place at : ℕ)
    (pending : List Seed) (found leaves : List ℕ) (leaps : List Seed)
    (hit : Bool) (old tests tests' : ℕ) (along : StandsAlong g) (inner : EndsStand g B)
    (ok : IsGraph classes nodes)
    (h : Running g nodes B entry place at pending found old tests) (some : at ≤ length g.subject)
    (c : IsClosed g nodes B at (waiting_at at pending) (closure leaves leaps hit))
    (t : IsFlat nodes → tests' ≤ tests + length leaves) where
  Later : List Seed
  Later = lists.landed g nodes at leaves (elsewhere at pending ++ leaps)

  leaves_below : AllBelow (length nodes) leaves
  leaves_below q a = let k = (c.each_comes q a).1 in get_in nodes q k.0 k.1

  -- where something comes, something waited
  comes_stand : (q : ℕ) → Comes g nodes B at (waiting_at at pending) q → Stands g at
  comes_stand q k =
      let s = comes_from g nodes B at (waiting_at at pending) q k in
      h.standing s.0 at (waits_here s.0 at pending s.1)

  leaf_stands : (q : ℕ) → Among q leaves → Stands g at
  leaf_stands q a = comes_stand q (c.each_comes q a).0

  -- what comes at this place goes on from the entry
  comes_sound : (q end : ℕ) → Comes g nodes B at (waiting_at at pending) q →
      Accepts g nodes B end q at →
      Accepts g nodes B end entry place
  comes_sound q end k a =
      let s = enter g nodes B end at (waiting_at at pending) q k a in
      h.pending_sound s.0 at end (waits_here s.0 at pending s.1) s.2

  found_sound : (end : ℕ) → Among end (kept hit at found) → Accepts g nodes B end entry place
  found_sound end a =
      elim (kept_cases hit at found end a) [
        | inl b ↦ h.sound end b
        | inr b ↦
            let m = c.hit_comes b.1 in
            let e = m.2.1 ∙ ap Some (match_is m.2.0 m.2.2) in
            subst (λ k. Accepts g nodes B k entry place) (sym b.0)
            (comes_sound m.0 at m.1 (matched m.0 at e refl))
      ]

  -- what waits later waited before, leaps, or a leaf takes what leads to it
  abbrev pub Cause : ℕ → ℕ → Type 0
  Cause q j =
      (Waits q j pending × (j ≡ at → ⊥))
      ⊎ (Leaping g nodes B at (waiting_at at pending) q j ⊎ Landing g nodes at leaves q j)

  causes : (q j : ℕ) → Waits q j Later → Cause q j
  unfolding Later
  causes q j w =
      elim (landed_cases g nodes at leaves (elsewhere at pending ++ leaps) q j leaves_below w) [
        | inl a ↦ elim (waits_append q j (elsewhere at pending) leaps a) [
          | inl b ↦ inl (waits_elsewhere q j at pending b)
          | inr b ↦ inr (inl (c.each_leaps q j b))
        ]
        | inr b ↦ inr (inr b)
      ]

  pub causes_of : (q j : ℕ) →
      Waits q j (lists.landed g nodes at leaves (elsewhere at pending ++ leaps)) → Cause q j
  unfolding Later
  causes_of q j w = causes q j w

  pub past : (a b : ℕ) → a ≤ b → (b ≡ a → ⊥) → a + 1 ≤ b
  past a b l ne = grind (arith, l, ne)

  later_in : (q j : ℕ) → Waits q j Later →
      (at + 1 ≤ j) × (j ≤ length g.subject) × (q < length nodes)
  unfolding Landing
  later_in q j w =
      elim (causes q j w) [
        | inl b ↦ let k = h.pending_in q j b.0 in (past at j k.0 b.1, k.1, k.2)
        | inr r ↦ elim r [
          | inl b ↦
              let later = b.5 in (
                omega (arith, later),
                (leaps_stand g B at j q b.1 inner (comes_stand b.0 b.2) b.4).within,
                leaps_in B at j q (length nodes) classes b.1 (ok b.0 b.1 b.3) b.4,
              )
          | inr b ↦
              let f = lands_past g at j b.1 along (leaf_stands b.0 b.2) b.4 in
              let later = f.0 in (
                omega (arith, later),
                f.1.within,
                subst (λ p. p < length nodes) (sym b.5)
                    (target_in g at j (length nodes) classes b.1 (ok b.0 b.1 b.3) b.4),
              )
        ]
      ]

  later_stands : (q j : ℕ) → Waits q j Later → Stands g j
  unfolding Landing
  later_stands q j w =
      elim (causes q j w) [
        | inl b ↦ h.standing q j b.0
        | inr r ↦ elim r [
          | inl b ↦ leaps_stand g B at j q b.1 inner (comes_stand b.0 b.2) b.4
          | inr b ↦ (lands_past g at j b.1 along (leaf_stands b.0 b.2) b.4).1
        ]
      ]

  later_sound : (q j end : ℕ) → Waits q j Later → Accepts g nodes B end q j →
      Accepts g nodes B end entry place
  unfolding Landing
  later_sound q j end w a =
      elim (causes q j w) [
        | inl b ↦ h.pending_sound q j end b.0 a
        | inr r ↦ elim r [
          | inl b ↦ comes_sound b.0 end b.2 (leap_before g nodes B end b.0 at j q b.1 b.3 b.4 a)
          | inr b ↦ comes_sound b.0 end (c.each_comes b.0 b.2).0
              (landed b.0 at j b.1 b.3 b.4 (subst (λ p. Accepts g nodes B end p j) b.5 a))
        ]
      ]

  -- nested paths go on from here
  inner_on : Stands g at → (e k : ℕ) → B e at k → at ≤ k
  inner_on s e k b = (inner e at k b s).0

  gone_full : (end : ℕ) → Gone g nodes B end at leaves leaps hit →
      Among end (kept hit at found) ⊎ SomeWaits g nodes B end Later
  unfolding Later
  gone_full end gone =
      elim gone [
        | inl e ↦ inl (subst (λ k. Among k (kept hit at found)) e.1 (kept_new hit at found e.0))
        | inr r ↦ inr
            (holds_later g nodes at (Accepts g nodes B end) leaves (elsewhere at pending) leaps r)
      ]

  later_full : (end : ℕ) → Accepts g nodes B end entry place →
      Among end (kept hit at found) ⊎ SomeWaits g nodes B end Later
  unfolding Later
  later_full end a =
      elim (h.full end a) [
        | inl b ↦ inl (kept_old hit at found end b)
        | inr b ↦ elim (parted b.0 b.1 at pending b.2) [
          | inl d ↦
              let s = h.standing b.0 b.1 b.2 in
              gone_full end
              (leave g nodes B end at (waiting_at at pending) leaves leaps hit
              (inner_on (subst (Stands g) d.0 s)) c b.0 b.1 b.3 d.0 (here b.0 d.1))
          | inr d ↦ inr
              (holds_still g nodes at (Accepts g nodes B end) leaves (elsewhere at pending) leaps
              (b.0, b.1, d.1, b.3))
        ]
      ]

  pub place_done : (pending' : List Seed) (found' : List ℕ) →
      pending' ≡ lists.landed g nodes at leaves (elsewhere at pending ++ leaps) →
      found' ≡ kept hit at found →
      Running g nodes B entry place (at + 1) pending' found' old tests'
  unfolding Later
  place_done pending' found' ep ef =
      subst (λ ss. Running g nodes B entry place (at + 1) ss found' old tests') (sym ep)
      (subst (λ xs. Running g nodes B entry place (at + 1)
      (lists.landed g nodes at leaves (elsewhere at pending ++ leaps)) xs old tests') (sym ef)
      (record {
        from = omega (arith, h.from);
        within = omega (arith, some);
        pending_in = later_in;
        standing = later_stands;
        sound = found_sound;
        pending_sound = later_sound;
        full = later_full;
        below = λ q a. (elim (kept_cases hit at found q a) [
          | inl b ↦ let l = h.below q b in omega (arith, l)
          | inr b ↦ let e = b.0 in omega (arith, e)
        ]);
        rising = rising_kept hit at found h.rising h.below;
        few = λ flat. more g (takers nodes) old tests tests' at place leaves some (h.few flat)
            (t flat) c.few leaf_stands;
      }))

pub starts : (g : Scene) (nodes : List Node) (B : Inner) (entry place : ℕ)
    (pending : List Seed) (found : List ℕ) (tests : ℕ) →
    Stands g place → entry < length nodes →
    pending ≡ record { at = place; state = entry } ∷ [] → found ≡ [] →
    Running g nodes B entry place place pending found tests tests
unfolding Among Waits Rising
starts g nodes B entry place pending found tests stands m e f =
    let l = stands.within in
    subst (λ ss. Running g nodes B entry place place ss found tests tests) (sym e)
    (subst (λ xs. Running g nodes B entry place place (record { at = place; state = entry } ∷ []) xs
    tests tests) (sym f) (record {
      from = omega arith;
      within = omega (arith, l);
      pending_in = λ q j w. (elim w [
        | inl a ↦
            let same = a.1 in
            (omega (arith, same), omega (arith, same, l), subst (λ k. k < length nodes) (sym a.0) m)
        | inr b ↦ absurd b
      ]);
      standing = λ q j w. (elim w [
        | inl a ↦ subst (Stands g) (sym a.1) stands
        | inr b ↦ absurd b
      ]);
      sound = λ end a. absurd a;
      pending_sound = λ q j end w a. (elim w [
        | inl b ↦ subst (λ k. Accepts g nodes B end k place) b.0
            (subst (λ k. Accepts g nodes B end q k) b.1 a)
        | inr b ↦ absurd b
      ]);
      full = λ end a. inr (entry, place, inl (refl, refl), a);
      below = λ q a. absurd a;
      rising = tt;
      few = λ flat. omega arith;
    }))

some_waits : (q j : ℕ) (ss : List Seed) → ss ≡ [] → Waits q j ss → ⊥
unfolding Waits
some_waits q j ss e w = subst (λ xs. Waits q j xs) e w

-- nothing waits: all ends are found
pub all_found : (g : Scene) (nodes : List Node) (B : Inner) (entry place at : ℕ)
    (pending : List Seed) (found : List ℕ) (old tests : ℕ) →
    Running g nodes B entry place at pending found old tests → pending ≡ [] → (end : ℕ) →
    Accepts g nodes B end entry place → Among end found
all_found g nodes B entry place at pending found old tests h e end a =
    elim (h.full end a) [ inl b ↦ b | inr b ↦ absurd (some_waits b.0 b.1 pending e b.2) ]

pub first_waits : (ss : List Seed) → 0 < length ss → (q : ℕ) × (j : ℕ) × Waits q j ss
unfolding Waits
first_waits [] l = absurd (omega (arith, l))
first_waits (s ∷ ss) l = (s.state, s.at, inl (refl, refl))

-- something waits, so the place is not past the end
pub goes_on : (g : Scene) (nodes : List Node) (B : Inner) (entry place at : ℕ)
    (pending : List Seed) (found : List ℕ) (old tests : ℕ) →
    Running g nodes B entry place at pending found old tests → 0 < length pending →
    at ≤ length g.subject
goes_on g nodes B entry place at pending found old tests h l =
    let w = first_waits pending l in
    let k = h.pending_in w.0 w.1 w.2 in
    omega (arith, k.0, k.1)

some_here : (start : List ℕ) → 0 < length start → (q : ℕ) × Among q start
unfolding Among
some_here [] l = absurd (omega (arith, l))
some_here (q ∷ qs) l = (q, inl refl)

-- something waits at the place
pub stands_here : (g : Scene) (nodes : List Node) (B : Inner) (entry place at : ℕ)
    (pending : List Seed) (found : List ℕ) (old tests : ℕ) →
    Running g nodes B entry place at pending found old tests → (start : List ℕ) →
    start ≡ waiting_at at pending → 0 < length start → Stands g at
stands_here g nodes B entry place at pending found old tests h start e l =
    let s = some_here start l in
    h.standing s.0 at (waits_here s.0 at pending (subst (Among s.0) e s.1))

pub waiting_below : (g : Scene) (nodes : List Node) (B : Inner) (entry place at : ℕ)
    (pending : List Seed) (found : List ℕ) (old tests : ℕ) →
    Running g nodes B entry place at pending found old tests →
    AllBelow (length nodes) (waiting_at at pending)
waiting_below g nodes B entry place at pending found old tests h q a =
    (h.pending_in q at (waits_here q at pending a)).2

pub leaves_in : (g : Scene) (nodes : List Node) (B : Inner) (i : ℕ) (start leaves : List ℕ)
    (leaps : List Seed) (hit : Bool) →
    IsClosed g nodes B i start (closure leaves leaps hit) → AllBelow (length nodes) leaves
leaves_in g nodes B i start leaves leaps hit c q a =
    let k = (c.each_comes q a).1 in get_in nodes q k.0 k.1

pub below_like : (n : ℕ) (xs ys : List ℕ) → xs ≡ ys → AllBelow n ys → AllBelow n xs
below_like n xs ys e h = subst (AllBelow n) (sym e) h

-- the place is done, as the code does it
pub place_follows : (g : Scene) (nodes : List Node) (B : Inner) (classes entry place at : ℕ)
    (pending read : List Seed) (seeds found found' : List ℕ)
    (others later : List Seed) (old tests tests' : ℕ) →
    StandsAlong g → EndsStand g B → IsGraph classes nodes →
    Running g nodes B entry place at pending found old tests →
    0 < length pending →
    read ≡ pending → seeds ≡ waiting_at at read → others ≡ elsewhere at read →
    IsTakenAt g nodes B at seeds (progress others found tests) (progress later found' tests') →
    Running g nodes B entry place (at + 1) later found' old tests'
place_follows g nodes B classes entry place at pending read seeds found found' others later old
    tests tests' along inner ok h some er es eo t =
    let start = es ∙ ap (λ ss. waiting_at at ss) er in
    let rest = eo ∙ ap (λ ss. elsewhere at ss) er in
    place_done g nodes B classes entry place at pending found t.leaves t.leaps t.hit old tests
    tests' along inner ok h (goes_on g nodes B entry place at pending found old tests h some)
    (subst (λ xs. IsClosed g nodes B at xs (closure t.leaves t.leaps t.hit)) start t.closed) t.few later
    found'
    (t.later_is ∙ ap (λ ss. lists.landed g nodes at t.leaves (ss ++ t.leaps)) rest) t.found_is

from_none : (g : Scene) (nodes : List Node) (B : Inner) (i q : ℕ) → Comes g nodes B i [] q → ⊥
unfolding Among
from_none g nodes B i q c = let s = comes_from g nodes B i [] q c in s.1

none_closed : (g : Scene) (nodes : List Node) (B : Inner) (i : ℕ) →
    IsClosed g nodes B i [] (closure [] [] false)
unfolding Among Waits
none_closed g nodes B i = record {
  each_comes = λ q a. absurd a;
  all_are_kept = λ q c t. absurd (from_none g nodes B i q c);
  hit_comes = λ e. absurd (false≢true e);
  comes_hit = λ q c t. absurd (from_none g nodes B i q c);
  each_leaps = λ a j w. absurd w;
  all_leap = λ a j y. absurd (from_none g nodes B i y.0 y.2);
  few = omega arith;
}

pub no_seed_more : (ts : List Seed) → ts ≡ ts ++ []
no_seed_more [] = refl
no_seed_more (t ∷ ts) = ap (λ us. t ∷ us) (no_seed_more ts)

-- where nothing waits at the place, nothing is taken there
pub none_taken : (g : Scene) (nodes : List Node) (B : Inner) (i : ℕ) (start found : List ℕ)
    (others : List Seed) (tests : ℕ) → length start ≡ 0 →
    IsTakenAt g nodes B i start (progress others found tests) (progress others found tests)
none_taken g nodes B i [] found others tests e = record {
  leaves = [];
  leaps = [];
  hit = false;
  closed = none_closed g nodes B i;
  found_is = refl;
  later_is = no_seed_more others ∙ sym (landed_none g nodes i (others ++ []));
  few = λ flat. omega arith;
}
none_taken g nodes B i (q ∷ qs) found others tests e = absurd (omega (arith, e))

-- the furthest of the ends that were found

last_of_rising : (xs : List ℕ) (d k : ℕ) → Rising xs → 0 < length xs → Among k xs →
    k ≤ slice_index_or xs (length xs - 1) d
unfolding Rising Among
last_of_rising [] d k r l a = absurd a
last_of_rising (x ∷ []) d k r l a =
    let z : slice_index_or (x ∷ []) (length (x ∷ []) - 1) d ≡ x = refl in
    elim a [ inl e ↦ omega (arith, e, z) | inr b ↦ absurd b ]
last_of_rising (x ∷ y ∷ ys) d k r l a =
    let last : length (x ∷ y ∷ ys) - 1 ≡ suc (length (y ∷ ys) - 1) = omega arith in
    let on : slice_index_or (x ∷ y ∷ ys) (length (x ∷ y ∷ ys) - 1) d
    ≡ slice_index_or (y ∷ ys) (length (y ∷ ys) - 1) d = ap
    (λ i. slice_index_or (x ∷ y ∷ ys) i d) last in
    elim a [
      | inl e ↦
          let far = last_of_rising (y ∷ ys) d y r.1 (omega arith) (inl refl) in
          let past = r.0 y (inl refl) in
          omega (arith, e, far, past, on)
      | inr b ↦
          let far = last_of_rising (y ∷ ys) d k r.1 (omega arith) b in
          omega (arith, far, on)
    ]

pub no_end : (B : Inner) (entry place : ℕ) (found : List ℕ) → length found ≡ 0 →
    ((end : ℕ) → B entry place end → Among end found) → IsFurthest B entry place None
unfolding Among
no_end B entry place [] e full k b = full k b
no_end B entry place (x ∷ xs) e full k b = absurd (omega (arith, e))

pub last_end : (B : Inner) (entry place : ℕ) (found : List ℕ) (d last : ℕ) → 0 < length found →
    last ≡ slice_index_or found (length found - 1) d → Rising found →
    ((end : ℕ) → Among end found → B entry place end) →
    ((end : ℕ) → B entry place end → Among end found) →
    IsFurthest B entry place (Some last)
last_end B entry place found d last l e rising sound full = (
  sound last (subst (λ k. Among k found) (sym e) (among_at found (length found - 1) d
      (omega (arith, l)))),
  λ k b. (let far = last_of_rising found d k rising l (full k b) in omega (arith, far, e)),
)

value_of : (xs : List ℕ) (i d v : ℕ) → slice_get xs i ≡ Some v →
    (i < length xs) × (v ≡ slice_index_or xs i d)
value_of [] i d v e = cc
value_of (x ∷ xs) zero d v e = let s : x ≡ v = cc in (omega arith, sym s)
value_of (x ∷ xs) (suc i) d v e =
    let r = value_of xs i d v e in
    let l = r.0 in
    (omega (arith, l), r.1)

-- the last of them, by their count
pub last_found : (B : Inner) (entry place : ℕ) (found : List ℕ) (count last : ℕ) →
    count ≡ length found → slice_get found (count - 1) ≡ Some last → Rising found →
    ((end : ℕ) → Among end found → B entry place end) →
    ((end : ℕ) → B entry place end → Among end found) →
    IsFurthest B entry place (Some last)
last_found B entry place found count last n e rising sound full =
    let r = value_of found (count - 1) 0 last e in
    let l = r.0 in
    last_end B entry place found 0 last (omega (arith, l))
    (r.1 ∙ ap (λ i. slice_index_or found (i - 1) 0) n) rising sound full
