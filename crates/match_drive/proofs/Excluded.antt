-- The places that the bytes of every match exclude.
use Rattle.std.proofs.Common.{◌≡◌, ℕ, ◌<◌, Bool, true, false, not, List, length, Option, Some, None, refl, sym, ap, ◌∙◌}
use Rattle.std.specs.Prelude.{slice_index}
use Rattle.std.proofs.lemmas.Bool.{lt-leb}
use Rattle.byte_lanes.specs.Sets.{has_byte}
use Rattle.ordered_search.specs.pat_check.Known.{IsByteSet}
use Rattle.ordered_search.specs.Setting.{Setting, lead_set}
use Rattle.ordered_search.specs.Places.{is_off, is_outside, is_excluded}
use Rattle.match_starts.specs.Bytes.{IsByteOutside}
use Rattle.match_drive.specs.Rest.{IsLeadUsed}

module _ (g : Setting) where
  pub excluded_never : (p : ℕ) → g.options.no_start_optimize ≡ true → is_excluded g p ≡ false
  excluded_never p h = ap (λ b. elim b [ true ↦ false | false ↦ is_outside g (lead_set g) p ]) h

  excluded_by : (p : ℕ) → g.options.no_start_optimize ≡ false → is_excluded g p ≡ is_outside g (lead_set g) p
  excluded_by p h = ap (λ b. elim b [ true ↦ false | false ↦ is_outside g (lead_set g) p ]) h

  -- no set is known
  pub excluded_without : (p : ℕ) → g.options.no_start_optimize ≡ false → IsByteSet None (lead_set g)
      → is_excluded g p ≡ false
  excluded_without p h none = excluded_by p h ∙ by_lead (lead_set g) none
    where
      by_lead : (lead : Option (ℕ → Bool)) → IsByteSet None lead → is_outside g lead p ≡ false
      by_lead None none = refl
      by_lead (Some has) none = absurd none

  -- a byte excludes its place where it isn't in the set
  pub excluded_inside : (set : List Bool) (p : ℕ) → g.options.no_start_optimize ≡ false
      → IsByteSet (Some set) (lead_set g)
      → p < length g.subject → slice_index g.subject p < 256
      → is_excluded g p ≡ not (has_byte set (slice_index g.subject p))
  excluded_inside set p h is inside byte = excluded_by p h ∙ by_lead (lead_set g) is
    where
      by_lead : (lead : Option (ℕ → Bool)) → IsByteSet (Some set) lead
          → is_outside g lead p ≡ not (has_byte set (slice_index g.subject p))
      by_lead None is = absurd is
      by_lead (Some has) is =
          ap (λ b. elim b [ true ↦ is_off g.matching.«partial» | false ↦ not (has (slice_index g.subject p)) ])
          (lt-leb (length g.subject) p inside)
          ∙ ap not (sym (is (slice_index g.subject p) byte))

  pub excluded_by_byte : (set : List Bool) (p : ℕ) → g.options.no_start_optimize ≡ false
      → IsByteSet (Some set) (lead_set g) → p < length g.subject
      → IsByteOutside set (slice_index g.subject p) → is_excluded g p ≡ true
  excluded_by_byte set p h is inside out = excluded_inside set p h is inside out.0 ∙ ap not out.1

  pub lead_is_used : (o : Option (List Bool)) → g.options.no_start_optimize ≡ false → IsByteSet o (lead_set g)
      → IsLeadUsed g o
  lead_is_used None h is = λ p. excluded_without p h is
  lead_is_used (Some set) h is = (h, is)
