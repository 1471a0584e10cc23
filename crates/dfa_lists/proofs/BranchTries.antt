-- The tries of a branch of a lookbehind: where they begin, and what they come to.
use Rattle.std.proofs.Common.{◌≡◌, ◌∙◌, ℕ, zero, suc, ◌+◌, ◌<◌, ◌≤◌, ◌⊎◌, Bool, true, false, List, [], ◌∷◌, length}
use Rattle.std.proofs.Common.{Option, Some, None, refl, Result, Ok, Err, sym, ap, subst, inl, inr, drop, arith}
use Rattle.std.specs.Prelude.{slice_get, IfOk, ◌==◌}
use Rattle.std.specs.Option.{option_or}
use Rattle.std.proofs.lemmas.List.{drop_all}
use Rattle.char_sets.specs.Table.{CharSet}
use Rattle.match_items.specs.declared.view.View.{View}
use Rattle.match_items.specs.Scene.{Scene}
use Rattle.match_items.specs.Items.{places_back, previous}
use Rattle.match_items.specs.Views.{bare_text, text_scene}
use Rattle.dfa_ends.specs.Ends.{Among}
use Rattle.dfa_paths.specs.pat_lengths.declared.backs.Back.{Back}
use Rattle.dfa_paths.specs.Graph.{Inner, IsFurthest, IsEndBehind, Tried}
use Rattle.dfa_paths.specs.Meets.{IsTold}
use Rattle.dfa_lists.specs.declared.tries.Try.{Try}
use Rattle.dfa_lists.specs.Tries.{places_of, IsTryEnd}

-- Where they begin.

-- the places before one don't ask the classes
pub places_same : (v : View) (table : List CharSet) (n p : ℕ) →
    places_back (bare_text v) n p ≡ places_back (text_scene v table) n p
unfolding places_back
places_same v table zero p = refl
places_same v table (suc n) zero = refl
places_same v table (suc n) (suc p) = ap (λ ps. suc p ∷ ps) (places_same v table n _)

pub tries_same : (v : View) (table : List CharSet) (t : Option Try) →
    places_of (bare_text v) t ≡ places_of (text_scene v table) t
tries_same v table None = refl
tries_same v table (Some t) = places_same v table t.left t.place

module _ (g : Scene) where
  long_back : (n p : ℕ) → length (places_back g n p) ≤ n + 1
  unfolding places_back
  long_back zero p = omega arith
  long_back (suc n) p =
      elim (previous g p)
      as (λ o. length (let z : List ℕ = elim o [ None ↦ p ∷ [] | Some c ↦ p ∷ places_back g n c.1 ] in z)
      ≤ suc n + 1) [
        | None ↦ omega arith
        | Some c ↦ let r = long_back n c.1 in omega (arith, r)
      ]

  -- those from so many characters back on
  drop_back : (least k m p : ℕ) → m ≡ least + k → drop least (places_back g m p) ≡ (
      let z : List ℕ = elim (slice_get (places_back g least p) least) [ None ↦ [] | Some q ↦ places_back g k q ] in z)
  unfolding places_back
  drop_back zero k m p e = ap (λ n. places_back g n p) (omega (arith, e))
  drop_back (suc n) k zero p e = absurd (omega (arith, e))
  drop_back (suc n) k (suc m) p e =
      elim (previous g p)
      as (λ o. drop (suc n) (let z : List ℕ = elim o [ None ↦ p ∷ [] | Some c ↦ p ∷ places_back g m c.1 ] in z)
      ≡ (let y : List ℕ = elim (slice_get
      (let w : List ℕ = elim o [ None ↦ p ∷ [] | Some c ↦ p ∷ places_back g n c.1 ] in w) (suc n)) [
        | None ↦ []
        | Some q ↦ places_back g k q
      ] in y)) [
        | None ↦ drop_all (suc n) (p ∷ []) (omega arith)
        | Some c ↦ drop_back n k m c.1 (omega (arith, e))
      ]

  pub first_some : (least most left at q : ℕ) → most ≡ least + left →
      slice_get (places_back g least at) least ≡ Some q →
      places_back g left q ≡ drop least (places_back g most at)
  first_some least most left at q e h =
      sym (drop_back least left most at e
      ∙ ap (λ o. (let z : List ℕ = elim o [ None ↦ [] | Some q ↦ places_back g left q ] in z)) h)

  pub first_none : (least most left at : ℕ) → most ≡ least + left →
      slice_get (places_back g least at) least ≡ None → [] ≡ drop least (places_back g most at)
  first_none least most left at e h =
      sym (drop_back least left most at e
      ∙ ap (λ o. (let z : List ℕ = elim o [ None ↦ [] | Some q ↦ places_back g left q ] in z)) h)

  pub first_short : (least most at : ℕ) → most < least → [] ≡ drop least (places_back g most at)
  first_short least most at l =
      let long = long_back most at in
      sym (drop_all least (places_back g most at) (omega (arith, long, l)))

  later_back : (n p : ℕ) → places_back g (suc n) p ≡ p ∷ (
      let z : List ℕ = elim (slice_get (places_back g 1 p) 1) [ None ↦ [] | Some q ↦ places_back g n q ] in z)
  unfolding places_back
  later_back n p =
      elim (previous g p)
      as (λ o. (let z : List ℕ = elim o [ None ↦ p ∷ [] | Some c ↦ p ∷ places_back g n c.1 ] in z) ≡ p ∷ (
      let y : List ℕ = elim (slice_get
      (let w : List ℕ = elim o [ None ↦ p ∷ [] | Some c ↦ p ∷ places_back g 0 c.1 ] in w) 1) [
        | None ↦ []
        | Some q ↦ places_back g n q
      ] in y)) [
        | None ↦ refl
        | Some c ↦ refl
      ]

  pub later_some : (left n p q : ℕ) → left ≡ suc n → slice_get (places_back g 1 p) 1 ≡ Some q →
      places_back g left p ≡ p ∷ places_back g n q
  later_some left n p q e h =
      ap (λ m. places_back g m p) e ∙ later_back n p
      ∙ ap (λ o. p ∷ (let z : List ℕ = elim o [ None ↦ [] | Some q ↦ places_back g n q ] in z)) h

  pub later_none : (left n p : ℕ) → left ≡ suc n → slice_get (places_back g 1 p) 1 ≡ None →
      places_back g left p ≡ p ∷ []
  later_none left n p e h =
      ap (λ m. places_back g m p) e ∙ later_back n p
      ∙ ap (λ o. p ∷ (let z : List ℕ = elim o [ None ↦ [] | Some q ↦ places_back g n q ] in z)) h

  pub none_later : (left p : ℕ) → left ≡ 0 → places_back g left p ≡ p ∷ []
  unfolding places_back
  none_later left p e = ap (λ m. places_back g m p) e

-- What they come to.

-- an end of one, where `T p k` says that k is an end of the try from p that counts
abbrev pub EndOf : (ℕ → ℕ → Type 0) → ℕ → Option ℕ → Type 0
EndOf T p None = (k : ℕ) → T p k → ⊥
EndOf T p (Some j) = T p j

-- an end that is furthest is an end
pub furthest_try : {E : Type 0} (r : Result (Option ℕ) E) (B : Inner) (entry from i : ℕ) (each : Bool) →
    each ≡ true → IfOk r (IsFurthest B entry from) → IfOk r (IsTryEnd B entry from each i)
furthest_try (Ok None) B entry from i true e far = λ k b c. far k b
furthest_try (Ok (Some j)) B entry from i true e far = (far.0, tt)
furthest_try (Ok None) B entry from i false e far = absurd cc
furthest_try (Ok (Some j)) B entry from i false e far = absurd cc
furthest_try (Err x) B entry from i each e far = tt

pub end_is : (B : Inner) (back : Back) (i entry p : ℕ) (end : Option ℕ) →
    IsTryEnd B entry p (back.least == back.most) i end → EndOf (Tried B (Some back) i entry) p end
end_is B back i entry p None h = λ k t. h k t.0 t.1
end_is B back i entry p (Some j) h = h

-- an end at the place
pub place_try : (B : Inner) (entry from i : ℕ) → B entry from i → IsTryEnd B entry from false i (Some i)
place_try B entry from i b = (b, refl)

pub no_place_try : (B : Inner) (entry from i : ℕ) → (B entry from i → ⊥) → IsTryEnd B entry from false i None
no_place_try B entry from i none k b c = none (subst (λ j. B entry from j) c b)

-- `M p` says that the try from p meets the subject's end
module _ (T : ℕ → ℕ → Type 0) (M : ℕ → Type 0) where
  abbrev pub SomeSoFar : List ℕ → List ℕ → Option ℕ → Type 0
  SomeSoFar all rest None = (p k : ℕ) → Among p all → T p k → Among p rest
  SomeSoFar all rest (Some j) = (p : ℕ) × Among p all × T p j

  -- all tries, of which the rest are left
  pub record Trying (all rest : List ℕ) (some : Option ℕ) (old told : Bool) : Type 0 where
    pub inside : (p : ℕ) → Among p rest → Among p all
    pub ends : SomeSoFar all rest some
    pub stays : old ≡ true → told ≡ true
    pub meets : (p : ℕ) → Among p all → M p → (told ≡ true) ⊎ Among p rest
    pub causes : told ≡ true → (old ≡ true) ⊎ ((p : ℕ) × Among p all × M p)

  pub begin_trying : (all : List ℕ) (old : Bool) → Trying all all None old old
  begin_trying all old = record {
    inside = λ p a. a;
    ends = λ p k a t. a;
    stays = λ t. t;
    meets = λ p a m. inr a;
    causes = λ t. inl t;
  }

  so_far : (all rest : List ℕ) (p : ℕ) (some end : Option ℕ) →
      ((q : ℕ) → Among q (p ∷ rest) → Among q all) → SomeSoFar all (p ∷ rest) some → EndOf T p end →
      SomeSoFar all rest (option_or some end)
  unfolding Among
  so_far all rest p (Some j) end i h e = h
  so_far all rest p None (Some j) i h e = (p, i p (inl refl), e)
  so_far all rest p None None i h e = λ q k a t. (elim (h q k a t) [
    | inl s ↦ absurd (e k (subst (λ x. T x k) s t))
    | inr r ↦ r
  ])

  -- one is made
  pub tried_on : (all rest : List ℕ) (p : ℕ) (some end : Option ℕ) (old told told' : Bool) →
      Trying all (p ∷ rest) some old told → EndOf T p end → IsTold (M p) told told' →
      Trying all rest (option_or some end) old told'
  unfolding Among
  tried_on all rest p some end old told told' h e t = record {
    inside = λ q a. h.inside q (inr a);
    ends = so_far all rest p some end h.inside h.ends e;
    stays = λ o. t.stays (h.stays o);
    meets = λ q a m. (elim (h.meets q a m) [
      | inl o ↦ inl (t.stays o)
      | inr r ↦ elim r [ inl s ↦ inl (t.raised (subst M s m)) | inr z ↦ inr z ]
    ]);
    causes = λ o. (elim (t.causes o) [
      | inl x ↦ h.causes x
      | inr m ↦ inr (p, h.inside p (inl refl), m)
    ]);
  }

  abbrev pub AllEnds : List ℕ → Option ℕ → Type 0
  AllEnds all None = (p k : ℕ) → Among p all → T p k → ⊥
  AllEnds all (Some j) = (p : ℕ) × Among p all × T p j

  -- all are made
  pub all_tried : (all rest : List ℕ) (some : Option ℕ) (old told : Bool) → rest ≡ [] →
      Trying all rest some old told → AllEnds all some
  unfolding Among
  all_tried all rest None old told e h = λ p k a t. subst (Among p) e (h.ends p k a t)
  all_tried all rest (Some j) old told e h = h.ends

  pub told_of_all : (all rest : List ℕ) (some : Option ℕ) (old told : Bool) → rest ≡ [] →
      Trying all rest some old told → IsTold ((p : ℕ) × Among p all × M p) old told
  unfolding Among
  told_of_all all rest some old told e h = record {
    stays = h.stays;
    raised = λ y. (elim (h.meets y.0 y.1 y.2) [ inl o ↦ o | inr r ↦ absurd (subst (Among y.0) e r) ]);
    causes = h.causes;
  }

  -- the tries of a branch, by the places where they begin
  module _ (v : View) (table : List CharSet) where
    pub first_trying : (least most at : ℕ) (next : Option Try) (told : Bool) →
        places_of (bare_text v) next ≡ drop least (places_back (bare_text v) most at) →
        Trying (drop least (places_back (text_scene v table) most at)) (places_of (text_scene v table) next) None
        told told
    first_trying least most at next told e =
        let all = drop least (places_back (text_scene v table) most at) in
        let same : all ≡ places_of (text_scene v table) next =
        sym (sym (tries_same v table next) ∙ e ∙ ap (drop least) (places_same v table most at)) in
        subst (λ rest. Trying all rest None told told) same (begin_trying all told)

    -- those after one
    pub rest_is : (next later : Option Try) (t : Try) → next ≡ Some t →
        places_of (bare_text v) (Some t) ≡ t.place ∷ places_of (bare_text v) later →
        places_of (text_scene v table) next ≡ t.place ∷ places_of (text_scene v table) later
    rest_is next later t is e =
        ap (places_of (text_scene v table)) is ∙ sym (tries_same v table (Some t)) ∙ e
        ∙ ap (λ ps. t.place ∷ ps) (tries_same v table later)

    pub later_trying : (all : List ℕ) (next later : Option Try) (t : Try) (some end : Option ℕ)
        (old told told' : Bool) → next ≡ Some t →
        places_of (bare_text v) (Some t) ≡ t.place ∷ places_of (bare_text v) later →
        Trying all (places_of (text_scene v table) next) some old told → EndOf T t.place end →
        IsTold (M t.place) told told' →
        Trying all (places_of (text_scene v table) later) (option_or some end) old told'
    later_trying all next later t some end old told told' is e h f m =
        tried_on all (places_of (text_scene v table) later) t.place some end old told told'
        (subst (λ rest. Trying all rest some old told) (rest_is next later t is e) h) f m

-- so it is of a branch
pub ended_behind : (g : Scene) (B : Inner) (back : Back) (entry i : ℕ) (some : Option ℕ) →
    AllEnds (Tried B (Some back) i entry) (λ p. B entry p i) (drop back.least (places_back g back.most i)) some →
    IsEndBehind g B (Some back) entry i some
ended_behind g B back entry i None h = h
ended_behind g B back entry i (Some j) h = h

pub none_left : (g : Scene) (next : Option Try) → next ≡ None → places_of g next ≡ []
none_left g next e = ap (places_of g) e

-- Whether a place is among ends.

pub not_passed : (ends : List ℕ) (k p x m : ℕ) → slice_get ends k ≡ Some x → (x ≡ p → ⊥) → m ≡ suc k →
    Among p (drop k ends) → Among p (drop m ends)
unfolding Among
not_passed [] k p x m h other e a = cc
not_passed (y ∷ ys) zero p x m h other e a = elim a [
  | inl is ↦ absurd (other (let s : y ≡ x = cc in sym s ∙ sym is))
  | inr r ↦ subst (λ n. Among p (drop n (y ∷ ys))) (sym e) r
]
not_passed (y ∷ ys) (suc k) p x m h other e a =
    subst (λ n. Among p (drop n (y ∷ ys))) (sym e) (not_passed ys k p x (suc k) h other refl a)

pub read_in : (ends : List ℕ) (k p : ℕ) → slice_get ends k ≡ Some p → Among p ends
unfolding Among
read_in [] k p h = cc
read_in (y ∷ ys) zero p h = inl cc
read_in (y ∷ ys) (suc k) p h = inr (read_in ys k p h)

pub all_passed : (ends : List ℕ) (k p : ℕ) → length ends ≤ k → Among p (drop k ends) → ⊥
unfolding Among
all_passed ends k p l a = subst (Among p) (drop_all k ends l) a
