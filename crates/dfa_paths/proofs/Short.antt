-- Paths of fewer than so many steps.
use Rattle.std.proofs.Common.{◌≡◌, ℕ, zero, suc, ◌<◌, ◌≤◌, Bool, true, false, List, [], ◌∷◌, Option, Some, None}
use Rattle.std.proofs.Common.{refl, subst, inl, inr, arith}
use Rattle.std.specs.Prelude.{slice_get}
use Rattle.dfa_ends.specs.Ends.{Spot, Among, GoesTo}
use Rattle.dfa_paths.specs.declared.graph.Node.{Node}
use Rattle.dfa_paths.specs.declared.graph.Node.TheVariants.{Goto}
use Rattle.dfa_paths.specs.Fragment.{IsAt}
use Rattle.dfa_paths.proofs.Places.{among_one}

pub none_some : (j : ℕ) → ◌≡◌ {A = Option ℕ} None (Some j) → ⊥
none_some j e = cc

-- what follows an assertion, by whether it holds
pub anchor_if : (b : Bool) (next a : ℕ) →
    Among a (elim b as (λ _. List ℕ) [ true ↦ next ∷ [] | false ↦ [] ]) →
    (b ≡ true) × (a ≡ next)
unfolding Among
anchor_if true next a h = (refl, among_one a next h)
anchor_if false next a h = absurd h

-- by the paths from a state and a place, and how long each is
module _ (nodes : List Node) (From : ℕ → ℕ → Type 0) (size : (q i : ℕ) → From q i → ℕ) where
  abbrev pub Short : ℕ → ℕ → ℕ → Type 0
  Short n q i = (t : From q i) × (size q i t < n)

  pub move_short : (n q p i : ℕ) → q ≡ p → Short n q i → Short n p i
  move_short n q p i e s = subst (λ k. Short n k i) e s

  pub longer : (n m q i : ℕ) → n ≤ m → Short n q i → Short m q i
  longer n m q i l s = (s.0, omega (arith, s.1, l))

  -- the first step at a state that leads to another
  abbrev pub StepsOn : Type 0
  StepsOn =
      (m q a i : ℕ) → slice_get nodes q ≡ Some (Goto a) → (t : From q i) →
      size q i t < suc m → Short m a i

  pub comes_here : StepsOn → (n e next : ℕ) (x : Spot) → IsAt nodes e next →
      Short n e x.place → Short n next x.place
  comes_here at_goto zero e next x p s = absurd (omega (arith, s.1))
  comes_here at_goto (suc n) e next x p s =
      elim p [
        | inl a ↦ move_short (suc n) e next x.place a s
        | inr b ↦ longer n (suc n) next x.place (omega arith) (at_goto n e next x.place b s.0 s.1)
      ]

  pub land_comes : (n next : ℕ) (o : Option ℕ) (x : Spot) (j : ℕ) → o ≡ Some j →
      Short n next j → (y : Spot) × GoesTo o x y × Short (suc n) next y.place
  land_comes n next None x j e s = absurd (none_some j e)
  land_comes n next (Some k) x j e s =
      let same : j ≡ k = cc in (
        record x { place = k },
        refl,
        longer n (suc n) next k (omega arith)
            (subst (λ p. Short n next p) same s),
      )
