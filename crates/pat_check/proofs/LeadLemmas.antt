-- First bytes as they are kept, joined as the definition joins them.
use Rattle.std.proofs.Common.{◌≡◌, ◌∙◌, ℕ, suc, ◌-◌, ◌<◌, ◌≤◌, Bool, false, List, Option, Some, None, All, length}
use Rattle.std.proofs.Common.{drop, get_or, refl, sym, arith}
use Rattle.std.proofs.lemmas.List.{get_or_default}
use Rattle.std.proofs.lemmas.List.Elements.{All-get_or}
use Rattle.byte_lanes.specs.Sets.{has_byte}
use Rattle.pat_check.specs.Lead.{SomeLead, begins, then_lead, either_lead}
use Rattle.pat_tree.specs.declared.nodes.Cond.{Cond}
use Rattle.pat_tree.specs.declared.nodes.Cond.TheVariants.{AnySet, InCall, InCallOf, Never, Assert}
use Rattle.pat_check.specs.Starts.{IsSomeLead, AreKept, lead_of_parts, lead_of_branches, lead_of_second}
use Rattle.pat_check.specs.Starts.{lead_of_condition}
use Rattle.pat_check.specs.declared.starts.Start.{Start}
use Rattle.pat_needs.proofs.pat_bounds.Backwards.{back}

pub then_stops : (r : Option Start) (first : Start) (x y : SomeLead) → first.passing ≡ false →
    ((has : ℕ → Bool) → ((b : ℕ) → b < 256 → has_byte first.bytes b ≡ has b) → IsSomeLead r (begins has))
    → IsSomeLead (Some first) x → IsSomeLead r (then_lead x y)
then_stops r first None y e made h = absurd h
then_stops r first (Some a) y e made h = stops r (made a.has h.bytes)
  where
    stopped : a.passing ≡ false
    stopped = sym h.passing ∙ e

    stops : (r : Option Start) → IsSomeLead r (begins a.has) → IsSomeLead r (then_lead (Some a) y)
    stops None k = absurd k
    stops (Some s) k = rw stopped (record { bytes = k.bytes; passing = k.passing ∙ sym stopped })

-- A list taken from its end.

pub parts_back : (starts : List (Option Start)) (of : ℕ → SomeLead) (xs : List ℕ) (i : ℕ)
    (first whole next : Option Start) →
    0 < i → i ≤ length xs → first ≡ get_or starts (get_or xs (i - 1) 0) None →
    (AreKept starts of (drop i xs) → IsSomeLead whole (lead_of_parts of (drop i xs))) →
    ((x y : SomeLead) → IsSomeLead first x → IsSomeLead whole y → IsSomeLead next (then_lead x y)) →
    AreKept starts of (drop (i - 1) xs) → IsSomeLead next (lead_of_parts of (drop (i - 1) xs))
parts_back starts of xs i first whole next p l is rest join =
    rw (back xs i p l) (λ kept. join _ _ (rw is (kept 0 0 (omega arith)))
    (rest (λ k d l. kept (suc k) d (omega (arith, l)))))

pub branches_back : (starts : List (Option Start)) (of : ℕ → SomeLead) (xs : List ℕ) (i : ℕ)
    (first whole next : Option Start) →
    0 < i → i ≤ length xs → first ≡ get_or starts (get_or xs (i - 1) 0) None →
    (AreKept starts of (drop i xs) → IsSomeLead whole (lead_of_branches of (drop i xs))) →
    ((x y : SomeLead) → IsSomeLead first x → IsSomeLead whole y → IsSomeLead next (either_lead x y)) →
    AreKept starts of (drop (i - 1) xs) → IsSomeLead next (lead_of_branches of (drop (i - 1) xs))
branches_back starts of xs i first whole next p l is rest join =
    rw (back xs i p l) (λ kept. join _ _ (rw is (kept 0 0 (omega arith)))
    (rest (λ k d l. kept (suc k) d (omega (arith, l)))))

-- what is read at a number of the list
pub read_at : (starts : List (Option Start)) (xs : List ℕ) (i : ℕ) (first : Option Start) → i < length xs
    → All (λ k. k < length starts) xs →
    first ≡ get_or starts (get_or xs i 0) first → first ≡ get_or starts (get_or xs i 0) None
read_at starts xs i first l all is = is ∙ get_or_default starts (get_or xs i 0) first None
    (All-get_or (λ k. k < length starts) xs i 0 l all)

pub no_definition : (of : ℕ → SomeLead) (test : Cond) (first : ℕ) (second : Option ℕ) → (test ≡ Never → ⊥)
    → either_lead (of first) (lead_of_second of second) ≡ lead_of_condition of test first second
no_definition of Never first second h = absurd (h refl)
no_definition of (AnySet groups) first second h = refl
no_definition of InCall first second h = refl
no_definition of (InCallOf groups) first second h = refl
no_definition of (Assert k) first second h = refl
