-- Runs that rise: how they are looked up, and joined.
use Rattle.std.proofs.Common.{◌≡◌, ℕ, ◌+◌, ◌-◌, ◌<◌, ◌≤◌, Bool, true, false, ◌||◌, List, [], ◌∷◌, ◌++◌, length}
use Rattle.std.proofs.Common.{get_or, max, All, refl, sym, ap, subst, ◌∙◌, arith, inl, inr, length-append}
use Rattle.std.proofs.lemmas.Bool.{cases_lt}
use Rattle.std.proofs.lemmas.Bool.Decides.{nat_tests}
use Rattle.std.proofs.lemmas.List.{get_or_default}
use Rattle.std.proofs.lemmas.List.Folds.{list_any-append, list_any_none, list_any_at}
use Rattle.std.proofs.lemmas.List.Elements.{All-append, All-cons, All-nil}
use Rattle.std.proofs.lemmas.List.Sorted.{IsNonDecreasingBy-push}
use Rattle.std.proofs.Math.ListN.{get_or-append}
use Rattle.std.proofs.Math.Seq.{get_or-append_seam}
use Rattle.std.specs.Int.{is_in_range}
use Rattle.std.specs.List.Sorted.{IsNonDecreasingBy}
use Rattle.char_sets.specs.declared.runs.Run.{Run}
use Rattle.char_sets.specs.Runs.{runs_have, IsRising}

abbrev pub run_has : ℕ → Run → Bool
run_has c run = is_in_range run.from run.to c

in_it : (from to c : ℕ) → from ≤ c → c ≤ to → is_in_range from to c ≡ true
in_it from to c low high = grind (arith, nat_tests)

pub after_it : (from to c : ℕ) → to < c → is_in_range from to c ≡ false
after_it from to c high = grind (arith, nat_tests)

pub before_it : (from to c : ℕ) → c < from → is_in_range from to c ≡ false
before_it from to c low = grind (arith, nat_tests)

module _ (runs : List Run) (c first : ℕ) (rising : IsRising runs)
    (below : (k : ℕ) (d : Run) → k < first → (get_or runs k d).to < c)
    (above : (k : ℕ) (d : Run) → first ≤ k → k < length runs → c ≤ (get_or runs k d).to) where
  -- the first run that does not end before c holds it, where it begins at or before it
  pub found : (d : Run) → first < length runs → (get_or runs first d).from ≤ c → runs_have runs c ≡ true
  found d lt reached = list_any_at (run_has c) runs first d lt (in_it _ _ c reached (above first d (omega arith) lt))

  same : (d e : Run) → first < length runs → (get_or runs first d).from ≡ (get_or runs first e).from
  same d e lt = ap (λ (r : Run). r.from) (get_or_default runs first d e lt)

  pub missed : (d : Run) → first < length runs → c < (get_or runs first d).from → runs_have runs c ≡ false
  missed d lt short = list_any_none (run_has c) runs (λ k e l. elim (cases_lt k first) [
    | inl before ↦ after_it _ _ c (below k e before)
    | inr after ↦ before_it _ _ c (omega (arith, short, same d e lt, rising.from first k e after l))
  ])

  pub none : length runs ≤ first → runs_have runs c ≡ false
  none past = list_any_none (run_has c) runs (λ k e l. after_it _ _ c (below k e (omega arith)))

-- what stands before the last element
front_at : (xs : List Run) (y : Run) (k : ℕ) (d : Run) → k < length xs → get_or (xs ++ y ∷ []) k d ≡ get_or xs k d
front_at xs y k d lt = get_or-append xs (y ∷ []) d k lt

long : (xs : List Run) (y : Run) → length (xs ++ y ∷ []) ≡ length xs + 1
long xs y = length-append xs (y ∷ [])

front_rises : (n : Run → ℕ) (xs : List Run) (y : Run) → IsNonDecreasingBy n (xs ++ y ∷ []) → IsNonDecreasingBy n xs
front_rises n xs y rise i j d le lt =
    omega (
      arith,
      rise i j d le (omega (arith, long xs y)),
      ap n (front_at xs y i d (omega arith)),
      ap n (front_at xs y j d lt),
    )

-- the last run may end later, and what comes before it stays
grown_rises : (n : Run → ℕ) (xs : List Run) (y z : Run) → n y ≤ n z → IsNonDecreasingBy n (xs ++ y ∷ [])
    → IsNonDecreasingBy n (xs ++ z ∷ [])
grown_rises n xs y z le rise = IsNonDecreasingBy-push n xs z (front_rises n xs y rise)
    (λ d some. omega (
      arith,
      le,
      rise (length xs - 1) (length xs) d (omega arith) (omega (arith, long xs y)),
      ap n (front_at xs y (length xs - 1) d (omega arith)),
      ap n (get_or-append_seam xs y [] d),
    ))

pub last_of : (P : Run → Type 0) (xs : List Run) (y : Run) → All P (xs ++ y ∷ []) → P y
last_of P xs y all = subst P (get_or-append_seam xs y [] y) (all (length xs) y (omega (arith, long xs y)))

pub last_grown : (P : Run → Type 0) (xs : List Run) (y z : Run) → All P (xs ++ y ∷ []) → P z → All P (xs ++ z ∷ [])
last_grown P xs y z all one = All-append P xs (z ∷ [])
    (λ k d lt. subst P (front_at xs y k d lt) (all k d (omega (arith, long xs y)))) (All-cons P z [] one (All-nil P))

regroup : (x y z : Bool) → (x || ((y || z) || false)) ≡ ((x || (y || false)) || z)
regroup true y z = refl
regroup false true z = refl
regroup false false true = refl
regroup false false false = refl

-- two runs that touch, as one
both : (a b x y m c : ℕ) → a ≤ x → x ≤ y → x ≤ b + 1 → m ≡ max b y
    → is_in_range a m c ≡ (is_in_range a b c || is_in_range x y c)
both a b x y m c first some touch is = grind (arith, nat_tests)

ends_more : (b y m : ℕ) → m ≡ max b y → b ≤ m
ends_more b y m is = omega (arith, is)

module _ (before : List Run) (last next : Run) (m : ℕ) (first : last.from ≤ next.from) (some : next.from ≤ next.to)
    (touch : next.from ≤ last.to + 1) (is : m ≡ max last.to next.to) where
  abbrev pub grown : Run
  grown = record { from = last.from; to = m }

  pub joined_has : (c : ℕ) → runs_have (before ++ grown ∷ [])
      c ≡ (runs_have (before ++ last ∷ []) c || is_in_range next.from next.to c)
  joined_has c =
      list_any-append (run_has c) before (grown ∷ [])
      ∙ ap (λ b. runs_have before c || (b || false)) (both last.from last.to next.from next.to m c first some touch is)
      ∙ regroup (runs_have before c) (run_has c last) (run_has c next)
      ∙ ap (λ b. b || run_has c next) (sym (list_any-append (run_has c) before (last ∷ [])))

  pub joined_rises : IsRising (before ++ last ∷ []) → IsRising (before ++ grown ∷ [])
  joined_rises rising = record {
    from = grown_rises (λ r. r.from) before last grown (omega arith) rising.from;
    to = grown_rises (λ r. r.to) before last grown (ends_more last.to next.to m is) rising.to;
  }
