-- Runs of the bytes of a set that are too few, or that no end closes behind enough of them.
use Rattle.std.proofs.Common.{◌≡◌, ℕ, ◌+◌, ◌-◌, ◌<◌, ◌≤◌, inl, inr, Bool, false, List, length, arith}
use Rattle.std.specs.Prelude.{slice_index}
use Rattle.std.proofs.lemmas.Bool.{cases_lt}
use Rattle.byte_lanes.specs.Sets.{has_byte, IsIn}
use Rattle.match_starts.specs.Bytes.{IsByteOutside}
use Rattle.match_starts.specs.Spans.{IsOutside, IsShort, IsOpen}

-- Spans of bytes.

module _ (set : List Bool) (bytes : List ℕ) where
  -- a byte that isn't in the set ends what stands from each place before it, and so does the end
  pub short_to : (least at stop : ℕ) → stop < at + least → IsOutside set bytes stop
      → (k : ℕ) → at ≤ k → k ≤ stop → IsShort set bytes least k
  short_to least at stop near out k low high = record {
    stop = stop;
    low = high;
    near = omega (arith, near, low);
    outside = out;
  }

  pub past_end : IsOutside set bytes (length bytes)
  past_end inside = absurd (omega (arith, inside))

  -- from there on up to the next byte of the set none stands
  pub short_past : (least at begin next : ℕ) → 0 < least → at < begin → begin ≤ at + least
      → (at < begin → has_byte set (slice_index bytes (begin - 1)) ≡ false)
      → ((k : ℕ) → begin ≤ k → k < next → IsByteOutside set (slice_index bytes k))
      → (k : ℕ) → at ≤ k → k < next → IsShort set bytes least k
  short_past least at begin next some later near out none k low high =
      elim (cases_lt k begin) [
        | inl before ↦ short_to least at (begin - 1) (omega (arith, later, near))
            (λ inside. out later) k low (omega (arith, before))
        | inr past ↦ short_to least k k (omega (arith, some)) (λ inside. (none k past high).1) k
            (omega arith) (omega arith)
      ]

module _ (set ends : List Bool) (bytes : List ℕ) (least : ℕ) where
  abbrev IsEndless : ℕ → ℕ → Type 0
  IsEndless at end = (i : ℕ) → at + least ≤ i → i < end → ¬ IsIn ends bytes i

  -- where no end is left, none closes what stands from any place on
  pub endless : (at : ℕ) → IsEndless at (length bytes) → (k : ℕ) → at ≤ k → k ≤ length bytes
      → IsOpen set ends bytes least k
  endless at none k low high = record {
    stop = length bytes;
    low = high;
    outside = past_end set bytes;
    none = λ i a b inside. none i (omega (arith, low, a)) inside;
  }

  -- nor where too few bytes are left
  pub none_left : (at : ℕ) → length bytes ≤ at + least → (k : ℕ) → at ≤ k → k ≤ length bytes
      → IsOpen set ends bytes least k
  none_left at few k low high = endless at (λ i a inside. absurd (omega (arith, few, a, inside)))
      k low high

  -- an end closes the bytes of the set right before it alone
  pub open_before : (at begin end : ℕ) → begin ≤ end → at < begin
      → (at < begin → has_byte set (slice_index bytes (begin - 1)) ≡ false) → IsEndless at end
      → (k : ℕ) → at ≤ k → k < begin → IsOpen set ends bytes least k
  open_before at begin end ordered later out none k low high = record {
    stop = begin - 1;
    low = omega (arith, high);
    outside = λ inside. out later;
    none = λ i a b inside. none i (omega (arith, low, a)) (omega (arith, ordered, later, b));
  }

  -- and where those are too few, nothing up to the next byte of the set
  pub open_past : (at begin end next : ℕ) → begin ≤ end → end - begin < least
      → (at < begin → has_byte set (slice_index bytes (begin - 1)) ≡ false) → IsEndless at end
      → ((k : ℕ) → begin ≤ k → k < next → IsByteOutside set (slice_index bytes k))
      → (k : ℕ) → at ≤ k → k < next → IsOpen set ends bytes least k
  open_past at begin end next ordered few out none later k low high =
      elim (cases_lt k begin) [
        | inl before ↦ open_before at begin end ordered (omega (arith, low, before)) out none k low
            before
        | inr past ↦ record {
          stop = k;
          low = omega arith;
          outside = λ inside. (later k past high).1;
          none = λ i a b inside. absurd (omega (arith, few, a, b));
        }
      ]
