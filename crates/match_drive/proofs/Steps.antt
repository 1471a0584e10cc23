-- How a search goes from place to place.
use Rattle.std.proofs.Common.{inl, inr, ◌≡◌, ℕ, zero, suc, ◌+◌, ◌-◌, ◌<◌, ◌≤◌, ◌⊎◌, Bool, true, false, ◌&&◌, max}
use Rattle.std.proofs.Common.{List, [], ◌∷◌, length, Option, Some, None, nat_lt, if◌then◌else◌, refl, sym, ap, subst}
use Rattle.std.proofs.Common.{◌∙◌, arith}
use Rattle.std.specs.Prelude.{IfSome, IsSomeAnd}
use Rattle.std.proofs.lemmas.Option.{IfSome_then}
use Rattle.std.proofs.lemmas.Bool.{and_parts, and_left, and_right, ltb-true, lt-ltb, le-ltb}
use Rattle.byte_lanes.specs.declared.line_end.EndKind.TheVariants.{CrLf}
use Rattle.byte_lanes.specs.Newlines.{stands, newline_len}
use Rattle.ordered_search.specs.PlaceAnswer as place
use Rattle.ordered_search.specs.PlaceAnswer.{Signal, Exhausted, Walked, answers, place_answer}
use Rattle.ordered_search.specs.Setting.{Setting}
use Rattle.ordered_search.specs.Places.{passes_crlf, next_place, last_place, within, place_after, is_excluded, up_to}
use Rattle.ordered_search.specs.MatchAnswer.{Found, none_found, failed_at, tried, from_place, match_answer, found_by}
use Rattle.ordered_search.specs.MatchAnswer.{found_at}
use Rattle.match_drive.specs.Rest.{behind, found_from, IsLeft, IsPassed, IsTried, IsNextTried}
use Rattle.ordered_search.proofs.StartPlaces.{no_stand, crlf_then, up_to_is, up_to_past, up_to_keeps, last_within}
use Rattle.ordered_search.proofs.StartPlaces.{start_within, next_inside, next_later, after_later}

-- Bytes.

no_crlf_after : (bytes : List ℕ) (p : ℕ) → nat_lt 0 (newline_len CrLf bytes p) ≡ true
    → nat_lt 0 (newline_len CrLf bytes (p + 1)) ≡ false
no_crlf_after bytes p h = by_stand (stands (13 ∷ (10 ∷ [])) bytes (p + 1)) refl
  where
    by_stand : (b : Bool) → stands (13 ∷ (10 ∷ [])) bytes (p + 1) ≡ b
        → nat_lt 0 (newline_len CrLf bytes (p + 1)) ≡ false
    by_stand true e = absurd (let lf = (crlf_then bytes p h).1 in
        let cr = (no_stand 13 (10 ∷ []) bytes (p + 1) e).1 in cc)
    by_stand false e = ap (λ b. nat_lt 0 (max (if b then 2 else 0) 0)) e

-- how many places are left
abbrev pub places_left : ℕ → Option ℕ → ℕ
places_left n None = 0
places_left n (Some p) = suc n - p

-- there is a place, and another is no earlier
abbrev pub IsNoEarlier : Option ℕ → ℕ → Type 0
IsNoEarlier from q = IsSomeAnd from (λ p. p ≤ q)

-- a later place leaves fewer
pub left_less : (n p : ℕ) (next later : Option ℕ) → next ≡ Some p → p ≤ n → IfSome later (λ q. p < q)
    → places_left n later < places_left n next
left_less n p next later is h low = subst (λ o. places_left n later < places_left n o) (sym is) (by_later later low)
  where
    by_later : (later : Option ℕ) → IfSome later (λ q. p < q) → places_left n later < suc n - p
    by_later None low = omega (arith, h)
    by_later (Some q) low = omega (arith, h, low)

pub none_earlier : (from : Option ℕ) (p : ℕ) (later : Option ℕ) → IsNoEarlier from p → IfSome later (λ q. p < q)
    → IfSome later (IsNoEarlier from)
none_earlier from p None h low = tt
none_earlier None p (Some q) h low = absurd h
none_earlier (Some n) p (Some q) h low = omega (arith, h, low)

no_earlier : (from : Option ℕ) (p q : ℕ) → IsNoEarlier from p → p ≤ q → IsNoEarlier from q
no_earlier None p q h k = absurd h
no_earlier (Some n) p q h k = omega arith

pub behind_later : (g : Setting) (p q : ℕ) → p ≤ q → p ≤ behind g p q
behind_later g p q h = by_test (nat_lt p q && passes_crlf g (q - 1))
  where
    by_test : (b : Bool) → p ≤ (elim b [ true ↦ q + 1 | false ↦ q ])
    by_test true = omega arith
    by_test false = h

module _ (g : Setting) (begun : g.start ≤ length g.subject) where
  pub step_is : (p last : ℕ) (found next : Option ℕ) → last ≡ last_place g → found ≡ next_place g p
      → next ≡ up_to last found → next ≡ up_to (last_place g) (next_place g p)
  step_is p last found next e f h = h ∙ ap (λ l. up_to l found) e ∙ ap (up_to (last_place g)) f

  pub step_later : (at p : ℕ) → at ≤ p → IfSome (up_to (last_place g) (next_place g p)) (λ q. at < q)
  step_later at p h = IfSome_then (up_to (last_place g) (next_place g p))
      (up_to_keeps (λ q. p < q) (last_place g) (next_place g p) (next_later g begun p))
      (λ q both. omega (arith, h, both.0))

  -- Enough room for the places that are left.

  Covers : ℕ → Option ℕ → Type 0
  Covers n None = Unit {0}
  Covers n (Some p) = (p ≤ last_place g) × (length g.subject < n + p)

  after_covers : (n p : ℕ) (signal : Signal) → length g.subject < suc n + p → Covers n (place_after g p signal)
  unfolding Covers
  after_covers n p signal room = of_later (place_after g p signal) (after_later g begun p signal)
    where
      of_later : (o : Option ℕ) → IfSome o (λ q. (p < q) × (q ≤ last_place g)) → Covers n o
      of_later None h = tt
      of_later (Some q) h = (h.1, omega (arith, h.0))

  -- one place of a search, where the later places give the same
  by_place : (p : ℕ) (w : Walked) (f h : Signal → Found) → ((signal : Signal) → f signal ≡ h signal)
      → (a : place.PlaceAnswer) → found_by p w f a ≡ found_by p w h a
  by_place p w f h e (place.Failed signal) = ap (failed_at p w) (e signal)
  by_place p w f h e (place.Matched o) = refl
  by_place p w f h e place.Partial = refl
  by_place p w f h e place.MatchLimit = refl
  by_place p w f h e place.FrameLimit = refl
  by_place p w f h e place.Loop = refl
  by_place p w f h e (place.Abort n) = refl
  by_place p w f h e place.NoDepth = refl

  pub from_is : (n p : ℕ) → from_place g (suc n) (Some p) ≡ found_at p (tried g p)
      (λ signal. from_place g n (place_after g p signal))
  unfolding from_place
  from_is n p = refl

  pub none_left : (n : ℕ) → from_place g n None ≡ none_found
  unfolding from_place
  none_left zero = refl
  none_left (suc n) = refl

  covered : (n m : ℕ) (o : Option ℕ) → Covers n o → Covers m o → from_place g n o ≡ from_place g m o
  unfolding Covers
  covered n m None h k = none_left n ∙ sym (none_left m)
  covered zero m (Some p) h k = absurd (omega (arith, h.0, h.1, last_within g begun))
  covered (suc n) zero (Some p) h k = absurd (omega (arith, k.0, k.1, last_within g begun))
  covered (suc n) (suc m) (Some p) h k =
      from_is n p
      ∙ by_place p (tried g p) (λ signal. from_place g n (place_after g p signal))
      (λ signal. from_place g m (place_after g p signal))
      (λ signal. covered n m (place_after g p signal) (after_covers n p signal h.1) (after_covers m p signal k.1))
      (tried g p).answer
      ∙ sym (from_is m p)

  from_covered : (n : ℕ) (o : Option ℕ) → Covers n o → from_place g n o ≡ found_from g o
  unfolding Covers
  from_covered n None h = none_left n
  from_covered n (Some p) h = covered n (length g.subject + 1 - p) (Some p) h
      (h.0, omega (arith, h.0, last_within g begun))

  first_covered : (n : ℕ) → length g.subject < n + g.start → Covers n (within g (Some g.start))
  unfolding Covers
  first_covered n room =
      subst (Covers n) (sym (up_to_is (last_place g) g.start (start_within g begun))) (start_within g begun, room)

  pub enough_places : (more : ℕ) → from_place g ((length g.subject + 1 - g.start) + more)
      (within g (Some g.start)) ≡ match_answer g
  enough_places more =
      let n = length g.subject + 1 - g.start in
      covered (n + more) n (within g (Some g.start)) (first_covered (n + more) (omega (arith, begun)))
      (first_covered n (omega (arith, begun)))

  -- What is found from a place on: what is found there, and from the place after it on.

  found_place : (p : ℕ) → p ≤ last_place g → found_from g (Some p) ≡ found_at p (tried g p)
      (λ signal. found_from g (place_after g p signal))
  found_place p h =
      let left : length g.subject + 1 - p ≡ suc (length g.subject - p) = omega (arith, h, last_within g begun) in
      let room : length g.subject < suc (length g.subject - p) + p = omega (arith, h, last_within g begun) in
      ap (λ n. from_place g n (Some p)) left
      ∙ from_is (length g.subject - p) p
      ∙ by_place p (tried g p) (λ signal. from_place g (length g.subject - p) (place_after g p signal))
      (λ signal. found_from g (place_after g p signal))
      (λ signal. from_covered (length g.subject - p) (place_after g p signal)
      (after_covers (length g.subject - p) p signal room)) (tried g p).answer

  pub found_tried : (p : ℕ) → p ≤ last_place g → is_excluded g p ≡ false
      → found_from g (Some p) ≡ found_at p (place_answer g p) (λ signal. found_from g (place_after g p signal))
  found_tried p h e =
      found_place p h
      ∙ ap (λ b. found_at p (elim b [ true ↦ answers (place.Failed Exhausted) | false ↦ place_answer g p ])
      (λ signal. found_from g (place_after g p signal))) e

  -- a place that fails so tells nothing
  failed_silently : (p : ℕ) (later : Found) → failed_at p (answers (place.Failed Exhausted)) later ≡ later
  failed_silently p later = refl

  pub found_failed : (p : ℕ) → p ≤ last_place g → tried g p ≡ answers (place.Failed Exhausted)
      → found_from g (Some p) ≡ found_from g (within g (next_place g p))
  found_failed p h e =
      found_place p h
      ∙ ap (λ w. found_at p w (λ signal. found_from g (place_after g p signal))) e
      ∙ failed_silently p (found_from g (within g (next_place g p)))

  pub excluded_fails : (p : ℕ) → is_excluded g p ≡ true → tried g p ≡ answers (place.Failed Exhausted)
  excluded_fails p e =
      ap (λ b. elim b [ true ↦ answers (place.Failed Exhausted) | false ↦ place_answer g p ]) e

  pub found_excluded : (p : ℕ) → p ≤ last_place g → is_excluded g p ≡ true
      → found_from g (Some p) ≡ found_from g (within g (next_place g p))
  found_excluded p h e = found_failed p h (excluded_fails p e)

  pub match_found : match_answer g ≡ found_from g (Some g.start)
  match_found = ap (from_place g (length g.subject + 1 - g.start))
      (up_to_is (last_place g) g.start (start_within g begun))

  -- Places that fail silently, one after the other.

  pub behind_none : (p : ℕ) → behind g p p ≡ p
  behind_none p = ap (λ b. elim (b && passes_crlf g (p - 1)) [ true ↦ p + 1 | false ↦ p ]) (le-ltb p p (omega arith))

  behind_more : (p k : ℕ) → p ≤ k → Some (behind g p (k + 1)) ≡ elim (passes_crlf g k)
      [ true ↦ Some (k + 2) | false ↦ Some (k + 1) ]
  behind_more p k h =
      let e : (k + 1) - 1 ≡ k = omega arith in
      ap (λ b. Some (elim (b && passes_crlf g ((k + 1) - 1)) [ true ↦ (k + 1) + 1 | false ↦ k + 1 ]))
      (lt-ltb p (k + 1) (omega (arith, h)))
      ∙ ap (λ i. Some (elim (passes_crlf g i) [ true ↦ (k + 1) + 1 | false ↦ k + 1 ])) e
      ∙ by_crlf (passes_crlf g k)
    where
      by_crlf : (b : Bool) → Some (elim b [ true ↦ (k + 1) + 1 | false ↦ k + 1 ]) ≡ elim b
          [ true ↦ Some (k + 2) | false ↦ Some (k + 1) ]
      by_crlf true = ap Some (let e : (k + 1) + 1 ≡ k + 2 = omega arith in e)
      by_crlf false = refl

  -- after a CRLF that is passed whole none stands at its LF
  pub passed_once : (k : ℕ) → passes_crlf g k ≡ true → passes_crlf g (k + 1) ≡ false
  passed_once k h =
      let parts = and_parts _ _ (and_parts _ _ h).0 in
      and_left _ _ (and_right _ _ (no_crlf_after g.subject k parts.1))

  -- the place behind is k, or that after an LF at k
  behind_cases : (p k : ℕ) → (behind g p k ≡ k) ⊎ ((behind g p k ≡ k + 1) × (passes_crlf g k ≡ false))
  behind_cases p k = by_test (nat_lt p k && passes_crlf g (k - 1)) refl
    where
      by_test : (b : Bool) → (nat_lt p k && passes_crlf g (k - 1)) ≡ b
          → (elim b [ true ↦ k + 1 | false ↦ k ] ≡ k) ⊎
          ((elim b [ true ↦ k + 1 | false ↦ k ] ≡ k + 1) × (passes_crlf g k ≡ false))
      by_test true e =
          let parts = and_parts _ _ e in
          let low = ltb-true p k parts.0 in
          let before : (k - 1) + 1 ≡ k = omega (arith, low) in
          inr (refl, subst (λ i. passes_crlf g i ≡ false) before (passed_once (k - 1) parts.1))
      by_test false e = inl refl

  passed_by : g.options.utf ≡ false → (p n : ℕ) → p ≤ last_place g → p + n ≤ length g.subject → p + n ≤ last_place g + 1
      → ((k : ℕ) → p ≤ k → k < p + n → tried g k ≡ answers (place.Failed Exhausted))
      → found_from g (up_to (last_place g) (Some (behind g p (p + n)))) ≡ found_from g (Some p)
  passed_by not_utf p zero low high most all =
      let e : p + 0 ≡ p = omega arith in
      ap (λ k. found_from g (up_to (last_place g) (Some (behind g p k)))) e
      ∙ ap (λ k. found_from g (up_to (last_place g) (Some k))) (behind_none p)
      ∙ ap (found_from g) (up_to_is (last_place g) p low)
  passed_by not_utf p (suc n) low high most all =
      let k = p + n in
      let e : p + suc n ≡ k + 1 = omega arith in
      let before = passed_by not_utf p n low (omega (arith, high)) (omega (arith, most))
      (λ i a b. all i a (omega (arith, b))) in
      ap (λ q. found_from g (up_to (last_place g) (Some (behind g p q)))) e
      ∙ ap (λ o. found_from g (up_to (last_place g) o)) (behind_more p k (omega arith))
      ∙ one_more k (behind_cases p k) before (omega (arith, high)) (omega (arith, most))
      (all k (omega arith) (omega arith))
    where
      one_more : (k : ℕ) → (behind g p k ≡ k) ⊎ ((behind g p k ≡ k + 1) × (passes_crlf g k ≡ false))
          → found_from g (up_to (last_place g) (Some (behind g p k))) ≡ found_from g (Some p)
          → k < length g.subject → k ≤ last_place g
          → tried g k ≡ answers (place.Failed Exhausted)
          → found_from g
          (up_to (last_place g) (elim (passes_crlf g k) [ true ↦ Some (k + 2) | false ↦ Some (k + 1) ]))
          ≡ found_from g (Some p)
      one_more k (inl is) before inside within_last out =
          ap (λ o. found_from g (up_to (last_place g) o)) (sym (next_inside g begun not_utf k inside))
          ∙ sym (found_failed k within_last out)
          ∙ ap (found_from g) (sym (up_to_is (last_place g) k within_last))
          ∙ ap (λ q. found_from g (up_to (last_place g) (Some q))) (sym is)
          ∙ before
      one_more k (inr both) before inside within_last out =
          ap (λ b. found_from g (up_to (last_place g) (elim b [ true ↦ Some (k + 2) | false ↦ Some (k + 1) ]))) both.1
          ∙ ap (λ q. found_from g (up_to (last_place g) (Some q))) (sym both.0)
          ∙ before

  -- all places from one up to another fail silently
  pub passed : g.options.utf ≡ false → (p q : ℕ) → p ≤ last_place g → p ≤ q → q ≤ length g.subject
      → q ≤ last_place g + 1
      → ((k : ℕ) → p ≤ k → k < q → tried g k ≡ answers (place.Failed Exhausted))
      → found_from g (up_to (last_place g) (Some (behind g p q))) ≡ found_from g (Some p)
  passed not_utf p q low ordered high most all =
      let e : p + (q - p) ≡ q = omega (arith, ordered) in
      subst (λ k. found_from g (up_to (last_place g) (Some (behind g p k))) ≡ found_from g (Some p)) e
      (passed_by not_utf p (q - p) low (omega (arith, e, high)) (omega (arith, e, most))
      (λ k a b. all k a (omega (arith, e, b))))

  -- all places from one up to the last one fail silently
  none_by : (n p : ℕ) → last_place g < p + n → p ≤ last_place g
      → ((k : ℕ) → p ≤ k → k ≤ last_place g → tried g k ≡ answers (place.Failed Exhausted))
      → found_from g (Some p) ≡ none_found
  none_by zero p far low all = absurd (omega (arith, far, low))
  none_by (suc n) p far low all =
      found_failed p low (all p (omega arith) low)
      ∙ by_next (place_after g p Exhausted) (after_later g begun p Exhausted)
      (λ q forth inside. none_by n q (omega (arith, far, forth)) inside
      (λ k a b. all k (omega (arith, a, forth)) b))
    where
      by_next : (o : Option ℕ) → IfSome o (λ q. (p < q) × (q ≤ last_place g))
          → ((q : ℕ) → p < q → q ≤ last_place g → found_from g (Some q) ≡ none_found)
          → found_from g o ≡ none_found
      by_next None h later = refl
      by_next (Some q) h later = later q h.0 h.1

  pub none_passed : (p : ℕ) → p ≤ last_place g
      → ((k : ℕ) → p ≤ k → k ≤ last_place g → tried g k ≡ answers (place.Failed Exhausted))
      → found_from g (Some p) ≡ none_found
  none_passed p low all = none_by (suc (last_place g)) p (omega arith) low all

  -- The pieces of the walk.

  -- the place behind is tried
  pub tried_next : (from : Option ℕ) (p q : ℕ) → found_from g (Some p) ≡ found_from g from → IsNoEarlier from p
      → IsPassed g p q → q ≤ last_place g → is_excluded g q ≡ false → IsTried g from q
  tried_next from p q same low passed within_last out = record {
    same = ap (found_from g) (sym (up_to_is (last_place g) q within_last)) ∙ passed.same ∙ same;
    later = no_earlier from p q low passed.later;
    within = within_last;
    not_excluded = out;
  }

  -- the place behind is past the last one
  pub none_next : (from : Option ℕ) (p q : ℕ) → found_from g (Some p) ≡ found_from g from → IsPassed g p q
      → last_place g < q → found_from g from ≡ none_found
  none_next from p q same passed past = sym same ∙ sym passed.same
      ∙ ap (found_from g) (up_to_past (last_place g) q past)

  -- the place behind is excluded
  pub excluded_next : (from : Option ℕ) (p q : ℕ) → found_from g (Some p) ≡ found_from g from → IsPassed g p q
      → q ≤ last_place g → is_excluded g q ≡ true
      → found_from g (up_to (last_place g) (next_place g q)) ≡ found_from g from
  excluded_next from p q same passed within_last out =
      sym (found_excluded q within_last out) ∙ ap (found_from g) (sym (up_to_is (last_place g) q within_last))
      ∙ passed.same ∙ same

-- The first place that is tried.
module _ (g : Setting) where
  pub next_same : (from next : Option ℕ) → IsNextTried g from next → found_from g next ≡ found_from g from
  next_same from None h = sym h
  next_same from (Some q) h = h.same

  pub next_within : (from next : Option ℕ) → IsNextTried g from next → IfSome next (λ p. p ≤ last_place g)
  next_within from None h = tt
  next_within from (Some q) h = h.within

  pub next_not_excluded : (from next : Option ℕ) → IsNextTried g from next → IfSome next (λ p. is_excluded g p ≡ false)
  next_not_excluded from None h = tt
  next_not_excluded from (Some q) h = h.not_excluded

  pub tried_later : (from next : Option ℕ) (p : ℕ) → IsNextTried g from next → IfSome from (λ q. p < q)
      → IfSome next (λ q. p < q)
  tried_later from None p h low = tt
  tried_later None (Some q) p h low = absurd h.later
  tried_later (Some n) (Some q) p h low = omega (arith, h.later, low)

  -- what is left at a place that is tried
  -- what is found from a place that is tried
  pub found_here : (begun : g.start ≤ length g.subject) (next : Option ℕ) (p : ℕ) → next ≡ Some p
      → IfSome next (λ p. p ≤ last_place g) → IfSome next (λ p. is_excluded g p ≡ false)
      → found_from g next ≡ found_at p (place_answer g p) (λ signal. found_from g (place_after g p signal))
  found_here begun next p is low out = ap (found_from g) is ∙ found_tried g begun p (rw is at low) (rw is at out)

  pub left_at : (begun : g.start ≤ length g.subject) (whole : Found) (first mark next : Option ℕ) (p : ℕ)
      → next ≡ Some p
      → IsLeft whole first mark (found_from g next) → IfSome next (λ p. p ≤ last_place g)
      → IfSome next (λ p. is_excluded g p ≡ false)
      → IsLeft whole first mark (found_at p (place_answer g p) (λ signal. found_from g (place_after g p signal)))
  left_at begun whole first mark next p is left low out =
      subst (IsLeft whole first mark) (found_here begun next p is low out) left

  pub tried_from : (p : ℕ) (next : Option ℕ) → IsNextTried g (Some p) next → IfSome next (λ q. p ≤ q)
  tried_from p None h = tt
  tried_from p (Some q) h = h.later
