-- What the lists tell of the subject's end.
use Rattle.std.proofs.Common.{◌≡◌, ◌∙◌, ℕ, ◌+◌, ◌<◌, ◌≤◌, ◌⊎◌, Bool, true, false, List, [], ◌∷◌, ◌++◌, length}
use Rattle.std.proofs.Common.{replicate, Option, Some, None, refl, Result, Ok, Err, sym, ap, subst, inl, inr, arith}
use Rattle.std.proofs.lemmas.Bool.{false≢true}
use Rattle.std.specs.Prelude.{◌||◌, IfOk, slice_get, slice_index_or, slice_set}
use Rattle.char_sets.specs.Table.{CharSet}
use Rattle.match_items.specs.declared.view.View.{View}
use Rattle.match_items.specs.Scene.{Scene}
use Rattle.match_items.specs.Views.{bare_text, text_scene}
use Rattle.match_items.specs.Laws.{Stands, StandsAlong}
use Rattle.dfa_paths.specs.pat_lengths.declared.backs.Back.{Back}
use Rattle.dfa_ends.specs.Ends.{Among}
use Rattle.dfa_paths.specs.declared.graph.Node.{Node}
use Rattle.dfa_paths.specs.declared.graph.Node.TheVariants.{One, Break, Anchor, Split, Goto, Look, Atomic, Dead, Match}
use Rattle.dfa_lists.specs.declared.lists.Seed.{Seed}
use Rattle.dfa_lists.specs.declared.lists.Branch.{Branch}
use Rattle.dfa_paths.specs.Graph.{nests, lands, Inner, Furthest, IsEndBehind, Follows, Leaps, Comes, here, on}
use Rattle.dfa_paths.specs.Graph.{IsGraph, IsFlat}
use Rattle.dfa_paths.specs.Meets.{tells, Meeting, MeetsBehind, Probes, probed, further, Asks, Inside, Telling, Meets}
use Rattle.dfa_paths.specs.Meets.{met, followed, leapt, took, SomeTells, IsTold}
use Rattle.dfa_lists.specs.Lists as lists
use Rattle.dfa_lists.specs.Lists.{IsClosed, IsTakenAt, closure, progress, branch_in, waiting_at, elsewhere, Waits}
use Rattle.dfa_paths.proofs.Coming.{node_same}
use Rattle.dfa_paths.proofs.Probes.{at_branch, no_branch}
use Rattle.dfa_paths.proofs.Places.{among_last}
use Rattle.dfa_lists.proofs.Landing.{SomeHolds, Leads, holds_later, holds_still, Landing, parted, waits_here}
use Rattle.dfa_lists.proofs.Closing.{Marked, Going, marked_old, all_false, comes_marked}
use Rattle.dfa_lists.proofs.Running.{Running, causes_of, goes_on}
use Rattle.dfa_lists.proofs.Following.{EndsStand, lands_takes, at_or_past}

-- A flag.

pub told_by : (P Q : Type 0) (a b : Bool) → (P → Q) → (Q → P) → IsTold P a b → IsTold Q a b
told_by P Q a b to from h = record {
  stays = h.stays;
  raised = λ q. h.raised (from q);
  causes = λ e. (elim (h.causes e) [ inl o ↦ inl o | inr p ↦ inr (to p) ]);
}

pub told_like : (P : Type 0) (a a' b : Bool) → a ≡ a' → IsTold P a b → IsTold P a' b
told_like P a a' b e h = subst (λ c. IsTold P c b) e h

pub told_not : (P : Type 0) (a b : Bool) → b ≡ a → (P → ⊥) → IsTold P a b
told_not P a b e none = record {
  stays = λ t. e ∙ t;
  raised = λ p. absurd (none p);
  causes = λ t. inl (sym e ∙ t);
}

pub told_or : (P : Type 0) (a b c : Bool) → b ≡ (a || c) → (c ≡ true → P) → (P → c ≡ true) →
    IsTold P a b
told_or P true b c e to from = record {
  stays = λ t. e;
  raised = λ p. e;
  causes = λ t. inl refl;
}
told_or P false b c e to from = record {
  stays = λ t. absurd (false≢true t);
  raised = λ p. e ∙ from p;
  causes = λ t. inr (to (sym e ∙ t));
}

-- The loop that follows what takes nothing.

pub record GoingTold (g : Scene) (nodes : List Node) (B : Inner) (M : Meeting) (counts : Bool)
    (i : ℕ) (start : List ℕ) (marks : List Bool) (old told : Bool) : Type 0 where
  pub stays : old ≡ true → told ≡ true
  pub covered : (q : ℕ) (n : Node) → Marked marks q → slice_get nodes q ≡ Some n →
      Telling g nodes counts B M n i → told ≡ true
  pub comes : told ≡ true → (old ≡ true) ⊎ SomeTells g nodes counts B M i start

pub begin_told : (g : Scene) (nodes : List Node) (B : Inner) (M : Meeting) (counts : Bool)
    (i : ℕ) (start : List ℕ) (marks : List Bool) (told : Bool) →
    marks ≡ replicate (length nodes) false →
    GoingTold g nodes B M counts i start marks told told
unfolding Marked
begin_told g nodes B M counts i start marks told m = record {
  stays = λ t. t;
  covered = λ q n j e y. absurd
      (all_false (length nodes) q (subst (λ ms. slice_index_or ms q false ≡ true) m j));
  comes = λ t. inl t;
}

pub visited_told : (g : Scene) (nodes : List Node) (B : Inner) (M : Meeting) (counts : Bool)
    (i : ℕ) (start seeds rest : List ℕ) (marks marks' : List Bool) (leaves : List ℕ)
    (others later : List Seed) (hit old told told' : Bool) (q : ℕ) (n : Node) →
    seeds ≡ rest ++ q ∷ [] →
    Going g nodes B i start seeds marks leaves others later hit → slice_get nodes q ≡ Some n →
    marks' ≡ slice_set marks q true → IsTold (Telling g nodes counts B M n i) told told' →
    GoingTold g nodes B M counts i start marks old told →
    GoingTold g nodes B M counts i start marks' old told'
visited_told g nodes B M counts i start seeds rest marks marks' leaves others later hit old told
    told' q n pop going e em here_told h =
    let comes_q : Comes g nodes B i start q = going.seeds_come q
    (subst (Among q) (sym pop) (among_last rest q)) in
    record {
      stays = λ t. here_told.stays (h.stays t);
      covered = λ p k j f y. (elim (marked_old marks q p (subst (λ ms. Marked ms p) em j)) [
        | inl a ↦ here_told.stays (h.covered p k a f y)
        | inr b ↦
            let same = node_same k n (sym f ∙ ap (slice_get nodes) b ∙ e) in
            here_told.raised (subst (λ k. Telling g nodes counts B M k i) same y)
      ]);
      comes = λ t. (elim (here_told.causes t) [
        | inl o ↦ h.comes o
        | inr y ↦ inr (q, n, comes_q, e, y)
      ]);
    }

-- no seed is left
pub closed_told : (g : Scene) (nodes : List Node) (B : Inner) (M : Meeting) (counts : Bool)
    (i : ℕ) (start seeds : List ℕ) (marks : List Bool) (leaves : List ℕ)
    (others later : List Seed) (hit old told : Bool) → seeds ≡ [] →
    Going g nodes B i start seeds marks leaves others later hit →
    GoingTold g nodes B M counts i start marks old told →
    IsTold (SomeTells g nodes counts B M i start) old told
closed_told g nodes B M counts i start seeds marks leaves others later hit old told none going h =
    record {
      stays = h.stays;
      raised = λ y.
          h.covered y.0 y.1
          (comes_marked g nodes B i start seeds marks leaves others later hit none going y.0 y.2)
          y.3 y.4;
      causes = h.comes;
    }

-- The loop over the places.

leaps_follow : (g : Scene) (B : Inner) (i j a : ℕ) (n : Node) → j ≡ i → Leaps B n i j a →
    Follows g B n i a
leaps_follow g B i j a (Atomic entry next) e h = (subst (Furthest B entry i) e h.0, h.1)
leaps_follow g B i j a (Look back entry yes' no') e h = absurd h
leaps_follow g B i j a (One item next) e h = absurd h
leaps_follow g B i j a (Break next) e h = absurd h
leaps_follow g B i j a (Anchor kind next) e h = absurd h
leaps_follow g B i j a (Split x y) e h = absurd h
leaps_follow g B i j a (Goto next) e h = absurd h
leaps_follow g B i j a Dead e h = absurd h
leaps_follow g B i j a Match e h = absurd h

leaps_on : (B : Inner) (i j a : ℕ) (n : Node) → ((entry k : ℕ) → B entry i k → i ≤ k) →
    Leaps B n i j a → i ≤ j
leaps_on B i j a (Atomic entry next) f h = f entry j h.0.0
leaps_on B i j a (Look back entry yes' no') f h = absurd h
leaps_on B i j a (One item next) f h = absurd h
leaps_on B i j a (Break next) f h = absurd h
leaps_on B i j a (Anchor kind next) f h = absurd h
leaps_on B i j a (Split x y) f h = absurd h
leaps_on B i j a (Goto next) f h = absurd h
leaps_on B i j a Dead f h = absurd h
leaps_on B i j a Match f h = absurd h

module _ (g : Scene) (nodes : List Node) (counts : Bool) (B : Inner) (M : Meeting) where
  abbrev On : ℕ → ℕ → Type 0
  On q i = Meets g nodes counts B M q i

  -- something that waits meets the end
  abbrev pub SomeMeets : List Seed → Type 0
  SomeMeets = SomeHolds On

  abbrev Gone : ℕ → List ℕ → List ℕ → List Seed → Type 0
  Gone i start leaves leaps =
      SomeTells g nodes counts B M i start ⊎ (Leads g nodes i On leaves ⊎ SomeMeets leaps)

  module _ (i : ℕ) (start leaves : List ℕ) (leaps : List Seed) (hit : Bool)
      (on_from : (entry k : ℕ) → B entry i k → i ≤ k)
      (h : IsClosed g nodes B i start (closure leaves leaps hit)) where
    leave : (q j : ℕ) → On q j → j ≡ i → Comes g nodes B i start q → Gone i start leaves leaps
    unfolding Leads
    leave _ _ (met q j n e y) here_is c =
        inl (q, n, c, e, subst (Telling g nodes counts B M n) here_is y)
    leave _ _ (followed q j a n e f t) here_is c =
        leave a j t here_is (on q a n c e (subst (λ k. Follows g B n k a) here_is f))
    leave _ _ (leapt q j k a n e f t) here_is c =
        let there : Leaps B n i k a = subst (λ p. Leaps B n p k a) here_is f in
        elim (at_or_past i k (leaps_on B i k a n on_from there)) [
          | inl same ↦ leave a k t same (on q a n c e (leaps_follow g B i k a n same there))
          | inr past ↦ inr (inr (a, k, h.all_leap a k (q, n, c, e, there, past), t))
        ]
    leave _ _ (took q j k n e l t) here_is c =
        let there = subst (λ p. lands g n p ≡ Some k) here_is l in
        inr (inl (q, n, k, h.all_are_kept q c (n, e, lands_takes g i k n there), e, there, t))

  enter : (i : ℕ) (start : List ℕ) (q : ℕ) → Comes g nodes B i start q → On q i →
      (s : ℕ) × Among s start × On s i
  enter i start _ (here q m) a = (q, m, a)
  enter i start _ (on q a n c e f) t = enter i start q c (followed q i a n e f t)

pub record RunningTold (g : Scene) (nodes : List Node) (counts : Bool) (B : Inner) (M : Meeting)
    (entry place : ℕ) (pending : List Seed) (told : Bool) : Type 0 where
  pub sound : told ≡ true → Meets g nodes counts B M entry place
  pub pending_sound : (q j : ℕ) → Waits q j pending → Meets g nodes counts B M q j →
      Meets g nodes counts B M entry place
  pub full : Meets g nodes counts B M entry place →
      (told ≡ true) ⊎ SomeMeets g nodes counts B M pending

-- One place is done.
module _ (g : Scene) (nodes : List Node) (counts : Bool) (B : Inner) (M : Meeting)
    (classes entry place at : ℕ) (pending : List Seed) (found leaves : List ℕ)
    (leaps : List Seed) (hit : Bool) (old tests tests' : ℕ) (along : StandsAlong g)
    (inner : EndsStand g B) (ok : IsGraph classes nodes)
    (h : Running g nodes B entry place at pending found old tests) (some : at ≤ length g.subject)
    (c : IsClosed g nodes B at (waiting_at at pending) (closure leaves leaps hit))
    (t : IsFlat nodes → tests' ≤ tests + length leaves) (told told' : Bool)
    (m : RunningTold g nodes counts B M entry place pending told)
    (y : IsTold (SomeTells g nodes counts B M at (waiting_at at pending)) told told') where
  abbrev Later : List Seed
  Later = lists.landed g nodes at leaves (elsewhere at pending ++ leaps)

  abbrev Here : ℕ → ℕ → Type 0
  Here q j = Meets g nodes counts B M q j

  comes_sound : (q : ℕ) → Comes g nodes B at (waiting_at at pending) q → Here q at →
      Here entry place
  comes_sound q k a =
      let s = enter g nodes counts B M at (waiting_at at pending) q k a in
      m.pending_sound s.0 at (waits_here s.0 at pending s.1) s.2

  later_sound : (q j : ℕ) → Waits q j Later → Here q j → Here entry place
  unfolding Landing
  later_sound q j w a =
      elim (causes_of g nodes B classes entry place at pending found leaves leaps hit old tests tests'
      along inner ok h some c t q j w) [
        | inl b ↦ m.pending_sound q j b.0 a
        | inr r ↦ elim r [
          | inl b ↦ comes_sound b.0 b.2 (leapt b.0 at j q b.1 b.3 b.4 a)
          | inr b ↦ comes_sound b.0 (c.each_comes b.0 b.2).0
              (took b.0 at j b.1 b.3 b.4 (subst (λ p. Here p j) b.5 a))
        ]
      ]

  inner_on : Stands g at → (e k : ℕ) → B e at k → at ≤ k
  inner_on s e k b = (inner e at k b s).0

  gone_full : Gone g nodes counts B M at (waiting_at at pending) leaves leaps →
      (told' ≡ true) ⊎ SomeMeets g nodes counts B M Later
  gone_full gone =
      elim gone [
        | inl e ↦ inl (y.raised e)
        | inr r ↦ inr (holds_later g nodes at Here leaves (elsewhere at pending) leaps r)
      ]

  later_full : Here entry place → (told' ≡ true) ⊎ SomeMeets g nodes counts B M Later
  later_full a =
      elim (m.full a) [
        | inl b ↦ inl (y.stays b)
        | inr b ↦ elim (parted b.0 b.1 at pending b.2) [
          | inl d ↦
              let s = h.standing b.0 b.1 b.2 in
              gone_full
              (leave g nodes counts B M at (waiting_at at pending) leaves leaps hit
              (inner_on (subst (Stands g) d.0 s)) c b.0 b.1 b.3 d.0 (here b.0 d.1))
          | inr d ↦ inr
              (holds_still g nodes at Here leaves (elsewhere at pending) leaps
              (b.0, b.1, d.1, b.3))
        ]
      ]

  place_told : (pending' : List Seed) → pending' ≡ Later →
      RunningTold g nodes counts B M entry place pending' told'
  place_told pending' ep =
      subst (λ ss. RunningTold g nodes counts B M entry place ss told') (sym ep) (record {
        sound = λ e. (elim (y.causes e) [
          | inl o ↦ m.sound o
          | inr z ↦ comes_sound z.0 z.2 (met z.0 at z.1 z.3 z.4)
        ]);
        pending_sound = later_sound;
        full = later_full;
      })

pub starts_told : (g : Scene) (nodes : List Node) (counts : Bool) (B : Inner) (M : Meeting)
    (entry place : ℕ) (pending : List Seed) (told : Bool) →
    pending ≡ record { at = place; state = entry } ∷ [] → told ≡ false →
    RunningTold g nodes counts B M entry place pending told
unfolding Waits
starts_told g nodes counts B M entry place pending told e f =
    subst (λ ss. RunningTold g nodes counts B M entry place ss told) (sym e) (record {
      sound = λ t. absurd (false≢true (sym f ∙ t));
      pending_sound = λ q j w a. (elim w [
        | inl b ↦ subst (λ k. Meets g nodes counts B M k place) b.0
            (subst (λ k. Meets g nodes counts B M q k) b.1 a)
        | inr b ↦ absurd b
      ]);
      full = λ a. inr (entry, place, inl (refl, refl), a);
    })

-- the place is done, as the code does it
pub told_follows : (g : Scene) (nodes : List Node) (counts : Bool) (B : Inner) (M : Meeting)
    (classes entry place at : ℕ) (pending read : List Seed) (seeds found found' : List ℕ)
    (others later : List Seed) (old tests tests' : ℕ) (told told' : Bool) →
    StandsAlong g → EndsStand g B → IsGraph classes nodes →
    Running g nodes B entry place at pending found old tests →
    0 < length pending →
    read ≡ pending → seeds ≡ waiting_at at read → others ≡ elsewhere at read →
    IsTakenAt g nodes B at seeds (progress others found tests) (progress later found' tests') →
    RunningTold g nodes counts B M entry place pending told →
    IsTold (SomeTells g nodes counts B M at seeds) told told' →
    RunningTold g nodes counts B M entry place later told'
told_follows g nodes counts B M classes entry place at pending read seeds found found' others later
    old tests tests' told told' along inner ok h some er es eo t m y =
    let start = es ∙ ap (λ ss. waiting_at at ss) er in
    let rest = eo ∙ ap (λ ss. elsewhere at ss) er in
    place_told g nodes counts B M classes entry place at pending found t.leaves t.leaps t.hit old
    tests tests' along inner ok h (goes_on g nodes B entry place at pending found old tests h some)
    (subst (λ xs. IsClosed g nodes B at xs (closure t.leaves t.leaps t.hit)) start t.closed) t.few told told'
    m (subst (λ xs. IsTold (SomeTells g nodes counts B M at xs) told told') start y) later
    (t.later_is ∙ ap (λ ss. lists.landed g nodes at t.leaves (ss ++ t.leaps)) rest)

from_none : (g : Scene) (nodes : List Node) (B : Inner) (i q : ℕ) → Comes g nodes B i [] q → ⊥
unfolding Among
from_none g nodes B i _ (here q a) = a
from_none g nodes B i _ (on q a n c e f) = from_none g nodes B i q c

-- where nothing waits, nothing is told
pub none_told : (g : Scene) (nodes : List Node) (counts : Bool) (B : Inner) (M : Meeting) (i : ℕ)
    (start : List ℕ) (told told' : Bool) → length start ≡ 0 → told' ≡ told →
    IsTold (SomeTells g nodes counts B M i start) told told'
none_told g nodes counts B M i [] told told' e same =
    told_not _ told told' same (λ y. from_none g nodes B i y.0 y.2)
none_told g nodes counts B M i (q ∷ qs) told told' e same = absurd (omega (arith, e))

some_waits : (q j : ℕ) (ss : List Seed) → ss ≡ [] → Waits q j ss → ⊥
unfolding Waits
some_waits q j ss e w = subst (λ xs. Waits q j xs) e w

-- nothing waits: all is told
pub all_told : (g : Scene) (nodes : List Node) (counts : Bool) (B : Inner) (M : Meeting)
    (entry place : ℕ) (pending : List Seed) (told : Bool) → pending ≡ [] →
    RunningTold g nodes counts B M entry place pending told →
    Meets g nodes counts B M entry place → told ≡ true
all_told g nodes counts B M entry place pending told e h a =
    elim (h.full a) [ inl b ↦ b | inr b ↦ absurd (some_waits b.0 b.1 pending e b.2) ]

-- What a visit tells.

module _ (g : Scene) (nodes : List Node) (counts : Bool) (B : Inner) (M : Meeting) where
  plain_inside : (n : Node) (i : ℕ) → nests n ≡ false → Inside g nodes counts B M n i → ⊥
  plain_inside (Look back entry yes' no') i e h = false≢true (sym e)
  plain_inside (Atomic entry next) i e h = false≢true (sym e)
  plain_inside (One item next) i e h = h
  plain_inside (Break next) i e h = h
  plain_inside (Anchor kind next) i e h = h
  plain_inside (Split x y) i e h = h
  plain_inside (Goto next) i e h = h
  plain_inside Dead i e h = h
  plain_inside Match i e h = h

  plain_told : (n : Node) (i : ℕ) (a b : Bool) → nests n ≡ false →
      b ≡ (a || tells g counts n i) → IsTold (Telling g nodes counts B M n i) a b
  plain_told n i a b flat e =
      told_or _ a b (tells g counts n i) e (λ t. inl t)
      (λ y. (elim y [ inl t ↦ t | inr z ↦ absurd (plain_inside n i flat z) ]))

  pub look_told : (back : Option Back) (entry hit miss i : ℕ) (a b : Bool) →
      IsTold (Asks g nodes counts B M back entry miss i) a b →
      IsTold (Telling g nodes counts B M (Look back entry hit miss) i) a b
  look_told back entry hit miss i a b h =
      told_by _ _ a b (λ z. inr z) (λ y. (elim y [ inl t ↦ absurd (false≢true t) | inr z ↦ z ])) h

  pub atomic_told : (entry next i : ℕ) (a b : Bool) → IsTold (M entry i) a b →
      IsTold (Telling g nodes counts B M (Atomic entry next) i) a b
  atomic_told entry next i a b h =
      told_by _ _ a b (λ z. inr z) (λ y. (elim y [ inl t ↦ absurd (false≢true t) | inr z ↦ z ])) h

tells_same : (v : View) (table : List CharSet) (counts : Bool) (n : Node) (i : ℕ) →
    tells (bare_text v) counts n i ≡ tells (text_scene v table) counts n i
tells_same v table counts n i = refl

-- as the code answers it
pub plain_tells : {E : Type 0} (r : Result Bool E) (v : View) (table : List CharSet)
    (nodes : List Node) (counts : Bool) (B : Inner) (M : Meeting) (n : Node) (i : ℕ) (a b : Bool) →
    nests n ≡ false → IfOk r (λ _. b ≡ (a || tells (bare_text v) counts n i)) →
    IfOk r (λ _. IsTold (Telling (text_scene v table) nodes counts B M n i) a b)
plain_tells (Ok x) v table nodes counts B M n i a b flat e =
    plain_told (text_scene v table) nodes counts B M n i a b flat
    (e ∙ ap (λ t. a || t) (tells_same v table counts n i))
plain_tells (Err x) v table nodes counts B M n i a b flat e = tt

-- Lookbehinds.

module _ (g : Scene) (nodes : List Node) (counts : Bool) (M : Meeting) (i : ℕ) where
  -- the branches from a state on, of which those before q are done
  pub record Probing (first q : ℕ) (old told : Bool) : Type 0 where
    pub stays : old ≡ true → told ≡ true
    pub rest : Probes g nodes counts M i first → (told ≡ true) ⊎ Probes g nodes counts M i q
    pub before : Probes g nodes counts M i q → Probes g nodes counts M i first
    pub causes : told ≡ true → (old ≡ true) ⊎ Probes g nodes counts M i first

  pub begin_probing : (first : ℕ) (old : Bool) → Probing first first old old
  begin_probing first old =
      record { stays = λ t. t; rest = λ p. inr p; before = λ p. p; causes = λ t. inl t }

  pub one_probed : (first q : ℕ) (back : Back) (entry hit miss : ℕ) (old told told' : Bool) →
      slice_get nodes q ≡ Some (Look (Some back) entry hit miss) → q < miss →
      IsTold (MeetsBehind g M back entry i) told told' → Probing first q old told →
      Probing first miss old told'
  one_probed first q back entry hit miss old told told' e l t h = record {
    stays = λ o. t.stays (h.stays o);
    rest = λ p. (elim (h.rest p) [
      | inl o ↦ inl (t.stays o)
      | inr r ↦ elim (at_branch g nodes counts M i q back entry hit miss e r) [
        | inl y ↦ inl (t.raised y)
        | inr y ↦ inr y.1
      ]
    ]);
    before = λ p. h.before (further q back entry hit miss e l p);
    causes = λ o. (elim (t.causes o) [
      | inl a ↦ h.causes a
      | inr y ↦ inr (h.before (probed q back entry hit miss e y))
    ]);
  }

  -- no branch follows, or none whose state is later
  pub last_probed : (first q : ℕ) (back : Back) (entry hit miss : ℕ) (old told told' : Bool) →
      slice_get nodes q ≡ Some (Look (Some back) entry hit miss) → miss ≤ q →
      IsTold (MeetsBehind g M back entry i) told told' → Probing first q old told →
      IsTold (Probes g nodes counts M i first) old told'
  last_probed first q back entry hit miss old told told' e l t h = record {
    stays = λ o. t.stays (h.stays o);
    raised = λ p. (elim (h.rest p) [
      | inl o ↦ t.stays o
      | inr r ↦ elim (at_branch g nodes counts M i q back entry hit miss e r) [
        | inl y ↦ t.raised y
        | inr y ↦ let past = y.0 in absurd (omega (arith, past, l))
      ]
    ]);
    causes = λ o. (elim (t.causes o) [
      | inl a ↦ h.causes a
      | inr y ↦ inr (h.before (probed q back entry hit miss e y))
    ]);
  }

  pub all_probed : (first q : ℕ) (old told : Bool) → ((back : Back) (entry hit miss : ℕ) →
      slice_get nodes q ≡ Some (Look (Some back) entry hit miss) → ⊥) →
      Probing first q old told → IsTold (Probes g nodes counts M i first) old told
  all_probed first q old told none h = record {
    stays = h.stays;
    raised = λ p. (elim (h.rest p) [ inl o ↦ o | inr r ↦ absurd (no_branch g nodes counts M i q none r) ]);
    causes = h.causes;
  }

branch_same : (a b : Branch) → ◌≡◌ {A = Option Branch} (Some a) (Some b) → a ≡ b
branch_same a b e = cc

none_branch : (b : Branch) → ◌≡◌ {A = Option Branch} None (Some b) → ⊥
none_branch b e = cc

-- a state that stands for a branch
pub branch_is : (n : Node) (b : Branch) → branch_in n ≡ Some b →
    (hit : ℕ) × (n ≡ Look (Some b.back) b.entry hit b.miss)
branch_is (Look (Some back) entry hit miss) b e =
    let same = branch_same (record { back = back; entry = entry; miss = miss }) b e in
    (hit, ap (λ (c : Branch). Look (Some c.back) c.entry hit c.miss) same)
branch_is (Look None entry hit miss) b e = absurd (none_branch b e)
branch_is (One item next) b e = absurd (none_branch b e)
branch_is (Break next) b e = absurd (none_branch b e)
branch_is (Anchor kind next) b e = absurd (none_branch b e)
branch_is (Split x y) b e = absurd (none_branch b e)
branch_is (Goto next) b e = absurd (none_branch b e)
branch_is (Atomic entry next) b e = absurd (none_branch b e)
branch_is Dead b e = absurd (none_branch b e)
branch_is Match b e = absurd (none_branch b e)

-- The steps of the loop over the branches, as the code makes them.
module _ (g : Scene) (nodes : List Node) (counts : Bool) (M : Meeting) (classes i first q : ℕ)
    (n : Node) (r : Option Branch) (b : Branch) (is : slice_get nodes q ≡ Some n)
    (read : r ≡ branch_in n) (some : r ≡ Some b) where
  branch_there : (hit : ℕ) × (slice_get nodes q ≡ Some (Look (Some b.back) b.entry hit b.miss))
  branch_there = let h = branch_is n b (sym read ∙ some) in (h.0, is ∙ ap Some h.1)

  pub branch_inside : IsGraph classes nodes →
      (b.entry < length nodes) × (b.miss < length nodes)
  branch_inside ok =
      let h = branch_there in
      let k = ok q (Look (Some b.back) b.entry h.0 b.miss) h.1 in
      (k.0, k.2)

  pub on_probed : (old told told' : Bool) → q < b.miss →
      IsTold (MeetsBehind g M b.back b.entry i) told told' →
      Probing g nodes counts M i first q old told →
      Probing g nodes counts M i first b.miss old told'
  on_probed old told told' l t h =
      let k = branch_there in
      one_probed g nodes counts M i first q b.back b.entry k.0 b.miss old told told' k.1 l t h

  pub end_probed : (old told told' : Bool) → b.miss ≤ q →
      IsTold (MeetsBehind g M b.back b.entry i) told told' →
      Probing g nodes counts M i first q old told →
      IsTold (Probes g nodes counts M i first) old told'
  end_probed old told told' l t h =
      let k = branch_there in
      last_probed g nodes counts M i first q b.back b.entry k.0 b.miss old told told' k.1 l t h

some_branch : (b : Branch) (r : Option Branch) → r ≡ Some b → r ≡ None → ⊥
some_branch b r e f = cc

pub probed_all : (g : Scene) (nodes : List Node) (counts : Bool) (M : Meeting) (i first q : ℕ)
    (n : Node) (r : Option Branch) (old told : Bool) → slice_get nodes q ≡ Some n →
    r ≡ branch_in n → r ≡ None → Probing g nodes counts M i first q old told →
    IsTold (Probes g nodes counts M i first) old told
probed_all g nodes counts M i first q n r old told is read none h =
    all_probed g nodes counts M i first q old told
    (λ back entry hit miss e. (
    let same = node_same n (Look (Some back) entry hit miss) (sym is ∙ e) in
    some_branch (record { back = back; entry = entry; miss = miss }) r (read ∙ ap branch_in same)
    none)) h

-- A branch has no end, or the later ones are tried too.

pub asked_none : (g : Scene) (nodes : List Node) (counts : Bool) (B : Inner) (M : Meeting)
    (back : Back) (entry miss i : ℕ) (some : Option ℕ) (a b : Bool) → some ≡ None →
    IsEndBehind g B (Some back) entry i some → IsTold (MeetsBehind g M back entry i) a b →
    IsTold (Asks g nodes counts B M (Some back) entry miss i) a b
asked_none g nodes counts B M back entry miss i None a b e none t =
    told_by _ _ a b (λ y. inl y) (λ y. (elim y [
      | inl z ↦ z
      | inr z ↦ absurd (none z.0.0 z.0.1 z.0.2 z.0.3)
    ])) t
asked_none g nodes counts B M back entry miss i (Some j) a b e none t = absurd cc

pub asked_some : (g : Scene) (nodes : List Node) (counts : Bool) (B : Inner) (M : Meeting)
    (back : Back) (entry miss i j : ℕ) (some : Option ℕ) (a b c : Bool) → some ≡ Some j →
    IsEndBehind g B (Some back) entry i some → IsTold (MeetsBehind g M back entry i) a b →
    IsTold (Probes g nodes counts M i miss) b c →
    IsTold (Asks g nodes counts B M (Some back) entry miss i) a c
asked_some g nodes counts B M back entry miss i j None a b c e far t r = absurd cc
asked_some g nodes counts B M back entry miss i j (Some k) a b c e far t r = record {
  stays = λ o. r.stays (t.stays o);
  raised = λ y. (elim y [ inl z ↦ r.stays (t.raised z) | inr z ↦ r.raised z.1 ]);
  causes = λ o. (elim (r.causes o) [
    | inl x ↦ elim (t.causes x) [ inl y ↦ inl y | inr y ↦ inr (inl y) ]
    | inr x ↦ inr (inr ((far.0, k, far.1, far.2), x))
  ]);
}
