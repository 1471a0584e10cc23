-- The ends answered are the admitted places of the ordered search.
use Rattle.std.proofs.Common.{◌≡◌, ℕ, zero, suc, ◌<◌, ◌≤◌, ◌⊎◌, Bool, true, false, List, [], ◌∷◌, Option, Some, None}
use Rattle.std.proofs.Common.{refl, sym, ap, subst, ◌∙◌, inl, inr, arith, eqb-true, ltb-true, ltb-false}
use Rattle.std.specs.Prelude.{◌==◌, nat_lt, IsTrue}
use Rattle.pat_tree.specs.declared.options.PartialMode.{PartialMode}
use Rattle.pat_tree.specs.declared.options.PartialMode.TheVariants.{Off, Soft, Hard}
use Rattle.pat_tree.specs.Nested.{Nested}
use Rattle.ordered_search.specs.Stream.{first_state, exhausted, Stream}
use Rattle.ordered_search.specs.Setting.{Setting}
use Rattle.ordered_search.specs.Run.{run}
use Rattle.ordered_search.specs.Laws.{ending}
use Rattle.ordered_search.specs.PlaceAnswer.{Exhausted}
use Rattle.ordered_search.specs.Places.{place_after, is_excluded}
use Rattle.dfa_ends.specs.Ends.{Spot, spot, Among}
use Rattle.dfa_ends.specs.EndList.{In, ends_list, insert, falling, end_places}
use Rattle.dfa_ends.specs.DfaAnswer.{is_admitted, admitted, last_of, DfaAnswer, EndsFrom, NoMatch, decision}
use Rattle.dfa_ends.specs.DfaAnswer.{ends_from, decision_at, from_place}
use Rattle.dfa_ends.specs.TwoMatchers.{Occurs, Agrees, with_frame_limit}
use Rattle.dfa_ends.specs.Answered.{Falls, AreAnswered, IsLeastAnswered, AnswerLaw}
use Rattle.dfa_ends.proofs.EndsLaw.{ends_law}
use Rattle.dfa_ends.proofs.ListLaw.{list_law}

never : false ≡ true → ⊥
never e = cc

-- Places that fall.

from_insert_case : (p q r : ℕ) (qs : List ℕ) (b c : Bool) → (p == q) ≡ b →
    (Among r (insert p qs) → (r ≡ p) ⊎ Among r qs) →
    Among r (elim b [
      | true ↦ q ∷ qs
      | false ↦ elim c [ true ↦ p ∷ q ∷ qs | false ↦ q ∷ insert p qs ]
    ]) → (r ≡ p) ⊎ Among r (q ∷ qs)
unfolding Among
from_insert_case p q r qs true c e f h = inr h
from_insert_case p q r qs false true e f h = h
from_insert_case p q r qs false false e f h =
    elim h [
      | inl a ↦ inr (inl a)
      | inr b ↦ elim (f b) [ inl x ↦ inl x | inr y ↦ inr (inr y) ]
    ]

from_insert : (p r : ℕ) (qs : List ℕ) → Among r (insert p qs) → (r ≡ p) ⊎ Among r qs
unfolding insert Among
from_insert p r [] h = elim h [ inl a ↦ inl a | inr b ↦ absurd b ]
from_insert p r (q ∷ qs) h =
    from_insert_case p q r qs (p == q) (nat_lt q p) refl (from_insert p r qs) h

to_insert_case : (p q r : ℕ) (qs : List ℕ) (b c : Bool) → (p == q) ≡ b →
    ((r ≡ p) ⊎ Among r qs → Among r (insert p qs)) → (r ≡ p) ⊎ Among r (q ∷ qs) →
    Among r (elim b [
      | true ↦ q ∷ qs
      | false ↦ elim c [ true ↦ p ∷ q ∷ qs | false ↦ q ∷ insert p qs ]
    ])
unfolding Among
to_insert_case p q r qs true c e f h =
    elim h [ inl a ↦ inl (a ∙ eqb-true p q e) | inr b ↦ b ]
to_insert_case p q r qs false true e f h = h
to_insert_case p q r qs false false e f h =
    elim h [
      | inl a ↦ inr (f (inl a))
      | inr b ↦ elim b [ inl x ↦ inl x | inr y ↦ inr (f (inr y)) ]
    ]

to_insert : (p r : ℕ) (qs : List ℕ) → (r ≡ p) ⊎ Among r qs → Among r (insert p qs)
unfolding insert Among
to_insert p r [] h = h
to_insert p r (q ∷ qs) h =
    to_insert_case p q r qs (p == q) (nat_lt q p) refl (to_insert p r qs) h

above_insert : (p q r : ℕ) (qs : List ℕ) → p < q → ((r : ℕ) → Among r qs → r < q) →
    Among r (insert p qs) → r < q
above_insert p q r qs l above h =
    elim (from_insert p r qs h) [ inl a ↦ omega (arith, a, l) | inr b ↦ above r b ]

falls_insert_case : (p q : ℕ) (qs : List ℕ) (b c : Bool) → (p == q) ≡ b → nat_lt q p ≡ c →
    ((r : ℕ) → Among r qs → r < q) → Falls qs → Falls (insert p qs) →
    Falls (elim b [
      | true ↦ q ∷ qs
      | false ↦ elim c [ true ↦ p ∷ q ∷ qs | false ↦ q ∷ insert p qs ]
    ])
unfolding Falls Among
falls_insert_case p q qs true c e l above f k = (above, f)
falls_insert_case p q qs false true e l above f k =
    let less : q < p = ltb-true q p l in (
      (λ r h. elim h [
        | inl a ↦ omega (arith, a, less)
        | inr b ↦ let below = above r b in omega (arith, below, less)
      ]),
      (above, f),
    )
falls_insert_case p q qs false false e l above f k =
    let le : p ≤ q = ltb-false q p l in
    let less : p < q = grind (arith, e, le) in
    ((λ r h. above_insert p q r qs less above h), k)

falls_insert : (p : ℕ) (qs : List ℕ) → Falls qs → Falls (insert p qs)
unfolding insert Falls Among
falls_insert p [] f = ((λ r h. absurd h), tt)
falls_insert p (q ∷ qs) f =
    falls_insert_case p q qs (p == q) (nat_lt q p) refl refl f.0 f.1 (falls_insert p qs f.1)

pub falls_falling : (xs : List Spot) → Falls (falling xs)
unfolding falling Falls
falls_falling [] = tt
falls_falling (x ∷ xs) = falls_insert x.place (falling xs) (falls_falling xs)

pub from_falling : (xs : List Spot) (q : ℕ) → Among q (falling xs) → (e : ℕ) × In (spot q e) xs
unfolding falling Among In
from_falling [] q h = absurd h
from_falling (x ∷ xs) q h =
    elim (from_insert x.place q (falling xs) h) [
      | inl a ↦ (x.early, inl (ap (λ p. spot p x.early) a))
      | inr b ↦ let r = from_falling xs q b in (r.0, inr r.1)
    ]

pub to_falling : (xs : List Spot) (y : Spot) → In y xs → Among y.place (falling xs)
unfolding falling In
to_falling [] y h = absurd h
to_falling (x ∷ xs) y h =
    to_insert x.place y.place (falling xs)
    (elim h [ inl a ↦ inl (ap (λ z. z.place) a) | inr b ↦ inr (to_falling xs y b) ])

-- Ends that are admitted.

top_case : (n q : ℕ) (b : Bool) (ps : List ℕ) → Among q (elim b [ true ↦ n ∷ ps | false ↦ ps ]) →
    ((q ≡ n) × (b ≡ true)) ⊎ Among q ps
unfolding Among
top_case n q true ps h = elim h [ inl a ↦ inl (a, refl) | inr b ↦ inr b ]
top_case n q false ps h = inr h

in_top : (n q : ℕ) (b : Bool) (ps : List ℕ) → ((q ≡ n) × (b ≡ true)) ⊎ Among q ps →
    Among q (elim b [ true ↦ n ∷ ps | false ↦ ps ])
unfolding Among
in_top n q true ps h = elim h [ inl a ↦ inl a.0 | inr b ↦ inr b ]
in_top n q false ps h = elim h [ inl a ↦ absurd (never a.1) | inr b ↦ b ]

falls_top : (n : ℕ) (b : Bool) (ps : List ℕ) → ((q : ℕ) → Among q ps → q < n) → Falls ps →
    Falls (elim b [ true ↦ n ∷ ps | false ↦ ps ])
unfolding Falls
falls_top n true ps l f = (l, f)
falls_top n false ps l f = f

module _ (g : Setting) (p : ℕ) where
  among_admitted : (q : ℕ) (ps : List ℕ) → Among q (admitted g p ps) →
      Among q ps × IsTrue (is_admitted g p q)
  unfolding admitted Among
  among_admitted q [] h = absurd h
  among_admitted q (r ∷ ps) h =
      elim (top_case r q (is_admitted g p r) (admitted g p ps) h) [
        | inl a ↦ (inl a.0, subst (λ k. is_admitted g p k ≡ true) (sym a.0) a.1)
        | inr b ↦ let k = among_admitted q ps b in (inr k.0, k.1)
      ]

  admitted_among : (q : ℕ) (ps : List ℕ) → Among q ps → IsTrue (is_admitted g p q) →
      Among q (admitted g p ps)
  unfolding admitted Among
  admitted_among q [] h i = absurd h
  admitted_among q (r ∷ ps) h i =
      in_top r q (is_admitted g p r) (admitted g p ps)
      (elim h [
        | inl a ↦ inl (a, subst (λ k. is_admitted g p k ≡ true) a i)
        | inr b ↦ inr (admitted_among q ps b i)
      ])

  admitted_falls : (ps : List ℕ) → Falls ps → Falls (admitted g p ps)
  unfolding admitted Falls
  admitted_falls [] f = tt
  admitted_falls (r ∷ ps) f =
      falls_top r (is_admitted g p r) (admitted g p ps)
      (λ q h. f.0 q (among_admitted q ps h).0) (admitted_falls ps f.1)

  -- at one place, by a stream that agrees
  module _ (t : Nested) (x : Stream) (law : Agrees g t p x) (done : ending x ≡ exhausted) where
    met : (q : ℕ) → Among q (admitted g p (end_places g t p)) →
        Occurs q x × IsTrue (is_admitted g p q)
    met q h =
        let a = among_admitted q (end_places g t p) h in
        let y = from_falling (ends_list g t (spot p p)) q a.0 in
        (law.all_are_met done q (y.0, (list_law g t (spot p p) (spot q y.0)).0 y.1), a.1)

    answered : (q : ℕ) → Occurs q x → IsTrue (is_admitted g p q) →
        Among q (admitted g p (end_places g t p))
    answered q o i =
        let e = law.each_is_an_end q o in
        admitted_among q (end_places g t p)
        (to_falling (ends_list g t (spot p p)) (spot q e.0)
        ((list_law g t (spot p p) (spot q e.0)).1 e.1)) i

    all_answered : AreAnswered g p x (admitted g p (end_places g t p))
    all_answered = record {
      each_is_met = met;
      all_are_answered = answered;
      once = admitted_falls (end_places g t p) (falls_falling (ends_list g t (spot p p)));
    }

-- The last of places that fall is the least.

record IsLast (qs : List ℕ) (q : ℕ) : Type 0 where
  alone : last_of qs ≡ q ∷ []
  among : Among q qs
  least : (r : ℕ) → Among r qs → q ≤ r

last_is : (q : ℕ) (qs : List ℕ) → Falls (q ∷ qs) → (r : ℕ) × IsLast (q ∷ qs) r
unfolding last_of Falls Among
last_is q [] f = (
  q,
  record {
    alone = refl;
    among = inl refl;
    least = λ r h. elim h [ inl a ↦ omega (arith, a) | inr b ↦ absurd b ];
  },
)
last_is q (q' ∷ qs) f =
    let k = last_is q' qs f.1 in (
      k.0,
      record {
        alone = k.1.alone;
        among = inr k.1.among;
        least = λ r h. elim h [
          | inl a ↦ let below = f.0 k.0 k.1.among in omega (arith, a, below)
          | inr b ↦ k.1.least r b
        ];
      },
    )

-- The place that decides.

some_same : (a b : DfaAnswer) → ◌≡◌ {A = Option DfaAnswer} (Some a) (Some b) → a ≡ b
some_same a b e = cc

ends_same : (p q : ℕ) (ps qs : List ℕ) → EndsFrom p ps ≡ EndsFrom q qs → (p ≡ q) × (ps ≡ qs)
ends_same p q ps qs e = ((cc), (cc))

not_none : (p : ℕ) (qs : List ℕ) → NoMatch ≡ EndsFrom p qs → ⊥
not_none p qs e = cc

not_nil : (p : ℕ) (ps : List ℕ) → ◌≡◌ {A = List ℕ} (p ∷ ps) [] → ⊥
not_nil p ps e = cc

-- the ends from p, of which there are some
abbrev Chosen : ℕ → ℕ → List ℕ → List ℕ → Type 0
Chosen p q ps qs = (p ≡ q) × (ps ≡ qs) × (ps ≡ [] → ⊥)

-- without partial matching a place decides by its ends
decided : (mode : PartialMode) → mode ≡ Off →
    (p q : ℕ) (ps qs : List ℕ) (hit : Bool) (a : DfaAnswer) →
    decision mode p ps hit ≡ Some a → a ≡ EndsFrom q qs → Chosen p q ps qs
decided Hard off p q ps qs hit a e k = cc
decided Soft off p q ps qs hit a e k = cc
decided Off off p q [] qs true a e k = cc
decided Off off p q [] qs false a e k = cc
decided Off off p q (r ∷ ps) qs hit a e k =
    let same = ends_same p q (r ∷ ps) qs (some_same (EndsFrom p (r ∷ ps)) a e ∙ k) in
    (same.0, same.1, not_nil r ps)

module _ (g : Setting) (shortest : Bool) (off : g.matching.«partial» ≡ Off) (q : ℕ) (qs : List ℕ)
  where
    abbrev Answering : Type 0
    Answering = (ends_from g shortest q ≡ qs) × (ends_from g shortest q ≡ [] → ⊥)

    abbrev Later : ℕ → ℕ → Type 0
    Later n p = from_place g shortest n (place_after g p Exhausted) ≡ EndsFrom q qs → Answering

    answered_by : (n p : ℕ) (o : Option DfaAnswer) → decision_at g shortest p ≡ o → Later n p →
        elim o [
          | Some a ↦ a
          | None ↦ from_place g shortest n (place_after g p Exhausted)
        ] ≡ EndsFrom q qs → Answering
    answered_by n p None is later e = later e
    answered_by n p (Some a) is later e =
        let k = decided g.matching.«partial» off p q (ends_from g shortest p) qs _ a is e in
        subst (λ r. (ends_from g shortest r ≡ qs) × (ends_from g shortest r ≡ [] → ⊥)) k.0 (k.1, k.2)

    answered_if : (n p : ℕ) (b : Bool) → Later n p →
        elim b [
          | true ↦ from_place g shortest n (place_after g p Exhausted)
          | false ↦ elim (decision_at g shortest p) [
            | Some a ↦ a
            | None ↦ from_place g shortest n (place_after g p Exhausted)
          ]
        ] ≡ EndsFrom q qs → Answering
    answered_if n p true later e = later e
    answered_if n p false later e = answered_by n p (decision_at g shortest p) refl later e

    answered_at : (n : ℕ) (o : Option ℕ) → from_place g shortest n o ≡ EndsFrom q qs → Answering
    unfolding from_place
    answered_at zero o e = absurd (not_none q qs e)
    answered_at (suc n) None e = absurd (not_none q qs e)
    answered_at (suc n) (Some p) e =
        answered_if n p (is_excluded g p) (answered_at n (place_after g p Exhausted)) e

least_of_all : (g : Setting) (p : ℕ) (x : Stream) (ps qs : List ℕ) → AreAnswered g p x ps →
    last_of ps ≡ qs → (last_of ps ≡ [] → ⊥) → IsLeastAnswered g p x qs
unfolding last_of
least_of_all g p x [] qs h e some = absurd (some refl)
least_of_all g p x (r ∷ ps) qs h e some =
    let k = last_is r ps h.once in
    let one = h.each_is_met k.0 k.1.among in
    record {
      least = k.0;
      alone = sym e ∙ k.1.alone;
      met = one.0;
      counts = one.1;
      below_all = λ q o i. k.1.least q (h.all_are_answered q o i);
    }

pub answer_law : AnswerLaw
answer_law = record {
  all = λ g off common d limit p qs e done. (
      let x = run (with_frame_limit limit g) d g.whole (first_state g.groups p) in
      subst (AreAnswered g p x) (answered_at g false off p qs _ _ e).0
      (all_answered g p g.whole x (ends_law g off g.whole common d limit p) done));
  shortest = λ g off common d limit p qs e done. (
      let x = run (with_frame_limit limit g) d g.whole (first_state g.groups p) in
      let k = answered_at g true off p qs _ _ e in
      least_of_all g p x _ qs
      (all_answered g p g.whole x (ends_law g off g.whole common d limit p) done)
      k.0 k.1);
}
