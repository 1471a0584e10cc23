-- The walk over the start places.
use Rattle.std.proofs.Common.{◌≡◌, ◌∙◌, ℕ, zero, suc, ◌+◌, ◌-◌, ◌<◌, ◌≤◌, Bool, true, false, length, Option, Some}
use Rattle.std.proofs.Common.{None, refl, sym, ap, subst, inl, inr, arith}
use Rattle.std.proofs.lemmas.Option.{IfSome_then}
use Rattle.std.specs.Prelude.{IfSome, nat_le}
use Rattle.ordered_search.specs.Setting.{Setting}
use Rattle.ordered_search.specs.PlaceAnswer.{Exhausted}
use Rattle.ordered_search.specs.Places.{last_place, place_after, is_excluded}
use Rattle.dfa_ends.specs.DfaAnswer.{DfaAnswer, NoMatch, decision_at, from_place, dfa_answer}
use Rattle.dfa_drive.specs.declared.answer.DfaAnswer.{DfaAnswer as Told}
use Rattle.dfa_drive.specs.Answer.{meant_by, IsDecidedBy}

-- what is left of the walk
pub record IsLeft (g : Setting) (shortest : Bool) (next : Option ℕ) : Type 0 where
  pub fuel : ℕ
  pub enough : IfSome next (λ p. length g.subject < fuel + p)
  pub same : from_place g shortest fuel next ≡ dfa_answer g shortest

module _ (g : Setting) (shortest : Bool) where
  abbrev after : ℕ → ℕ → DfaAnswer
  after n p = from_place g shortest n (place_after g p Exhausted)

  abbrev by_decision : ℕ → ℕ → Option DfaAnswer → DfaAnswer
  by_decision n p o = elim o [ Some a ↦ a | None ↦ after n p ]

  step_is : (n p : ℕ) (b : Bool) (o : Option DfaAnswer) → is_excluded g p ≡ b →
      decision_at g shortest p ≡ o →
      from_place g shortest (suc n) (Some p)
      ≡ elim b [ true ↦ after n p | false ↦ by_decision n p o ]
  unfolding from_place
  step_is n p b o e k =
      ap (λ x. (elim x [ true ↦ after n p | false ↦ by_decision n p (decision_at g shortest p) ])) e
      ∙ ap (λ x. (elim b [ true ↦ after n p | false ↦ by_decision n p x ])) k

  up_to_it : (p last : ℕ) (b : Bool) → nat_le p last ≡ b → p ≤ last →
      ◌≡◌ {A = Option ℕ} (elim b [ true ↦ Some p | false ↦ None ]) (Some p)
  up_to_it p last true e l = refl
  up_to_it p last false e l = absurd (grind (arith, e, l))

  pub walk_begins : (next : Option ℕ) → next ≡ Some g.start → g.start ≤ last_place g →
      last_place g ≤ length g.subject → IsLeft g shortest next
  walk_begins next e low high =
      let m : length g.subject < (length g.subject + 1 - g.start) + g.start = omega
      (arith, low, high) in
      subst (IsLeft g shortest) (sym e) (record {
        fuel = length g.subject + 1 - g.start;
        enough = m;
        same = ap (from_place g shortest (length g.subject + 1 - g.start))
            (sym (up_to_it g.start (last_place g) (nat_le g.start (last_place g)) refl low));
      })

  walk_by : (fuel p : ℕ) (told : Told) → p ≤ length g.subject → length g.subject < fuel + p →
      IsDecidedBy g shortest p (Some told) →
      from_place g shortest fuel (Some p) ≡ meant_by told
  walk_by zero p told l m d = absurd (omega (arith, l, m))
  walk_by (suc n) p told l m d = step_is n p false (Some (meant_by told)) d.0 d.1

  pub walk_ends : (next : Option ℕ) (p : ℕ) (told : Told) → IsLeft g shortest next →
      next ≡ Some p → p ≤ length g.subject → IsDecidedBy g shortest p (Some told) →
      dfa_answer g shortest ≡ meant_by told
  walk_ends next p told left e l d =
      let here = subst (IsLeft g shortest) e left in
      sym here.same ∙ walk_by here.fuel p told l here.enough d

  passed_here : (n p : ℕ) → IsDecidedBy g shortest p None →
      from_place g shortest (suc n) (Some p) ≡ after n p
  passed_here n p d =
      elim d [
        | inl a ↦ step_is n p true (decision_at g shortest p) a refl
        | inr b ↦ passed_none n p (is_excluded g p) refl b
      ]
    where
      passed_none : (n p : ℕ) (b : Bool) → is_excluded g p ≡ b → decision_at g shortest p ≡ None →
          from_place g shortest (suc n) (Some p) ≡ after n p
      passed_none n p true e k = step_is n p true (decision_at g shortest p) e refl
      passed_none n p false e k = step_is n p false None e k

  walk_past : (fuel p : ℕ) (next : Option ℕ) → p ≤ length g.subject →
      length g.subject < fuel + p → from_place g shortest fuel (Some p) ≡ dfa_answer g shortest →
      IsDecidedBy g shortest p None → next ≡ place_after g p Exhausted →
      IfSome next (λ q. p < q) → IsLeft g shortest next
  walk_past zero p next l m same d e later = absurd (omega (arith, l, m))
  walk_past (suc n) p next l m same d e later = record {
    fuel = n;
    enough = IfSome_then next later (λ q k. omega (arith, m, k));
    same = ap (from_place g shortest n) e ∙ sym (passed_here n p d) ∙ same;
  }

  pub walk_on : (next : Option ℕ) (p : ℕ) (next' : Option ℕ) → IsLeft g shortest next →
      next ≡ Some p →
      p ≤ length g.subject → IsDecidedBy g shortest p None →
      next' ≡ place_after g p Exhausted → IfSome next' (λ q. p < q) → IsLeft g shortest next'
  walk_on next p next' left e l d k later =
      let here = subst (IsLeft g shortest) e left in
      walk_past here.fuel p next' l here.enough here.same d k later

  none_from : (n : ℕ) → from_place g shortest n None ≡ NoMatch
  unfolding from_place
  none_from zero = refl
  none_from (suc n) = refl

  pub walk_over : (next : Option ℕ) → IsLeft g shortest next → next ≡ None →
      dfa_answer g shortest ≡ NoMatch
  walk_over next left e =
      let here = subst (IsLeft g shortest) e left in
      sym here.same ∙ none_from here.fuel

-- No place is before the start.

pub later_on : (from p : ℕ) (next : Option ℕ) → from ≤ p → IfSome next (λ q. p < q) →
    IfSome next (λ q. from ≤ q)
later_on from p next l later = IfSome_then next later (λ q k. omega (arith, l, k))

-- How many places are left.

abbrev pub places_left : ℕ → Option ℕ → ℕ
places_left n None = 0
places_left n (Some p) = suc n - p
