-- Lists of states to which one may be added.
use Rattle.std.proofs.Common.{◌≡◌, ℕ, Bool, true, false, List, [], ◌∷◌, ◌⊎◌, refl, inl, inr}
use Rattle.std.proofs.lemmas.Bool.{false≢true}
use Rattle.dfa_ends.specs.Ends.{Among}
use Rattle.dfa_lists.specs.Lists.{kept}
use Rattle.dfa_paths.proofs.Places.{among_first, among_last, among_push}

pub kept_old : (b : Bool) (q : ℕ) (qs : List ℕ) (p : ℕ) → Among p qs → Among p (kept b q qs)
kept_old true q qs p h = among_first qs (q ∷ []) p h
kept_old false q qs p h = h

pub kept_new : (b : Bool) (q : ℕ) (qs : List ℕ) → b ≡ true → Among q (kept b q qs)
kept_new true q qs e = among_last qs q
kept_new false q qs e = absurd (false≢true e)

pub kept_cases : (b : Bool) (q : ℕ) (qs : List ℕ) (p : ℕ) → Among p (kept b q qs) →
    Among p qs ⊎ ((p ≡ q) × (b ≡ true))
kept_cases true q qs p h =
    elim (among_push qs q p h) [ inl a ↦ inl a | inr e ↦ inr (e, refl) ]
kept_cases false q qs p h = inl h
