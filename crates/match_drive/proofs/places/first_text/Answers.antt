use Rattle.std.proofs.Common.{◌+◌, ◌≤◌, ◌<◌, ℕ, length, arith}
use Rattle.match_drive.proofs.BeginText.{least_of_all}
use Rattle.match_drive.proofs.places.first_text.Goals.{then-bytes-to-gt2, else-bytes-to-gt2}
use Rattle.match_drive.proofs.places.first_text.Goals as goal

module _ (c : goal.After-min) where
  end_within : c.if-bytes-to-gt2.end ≤ length c.args.bytes.now
  end_within = elim c.if-bytes-to-gt2.branch [
    | then-bytes-to-gt2 w ↦ omega (arith, w.end-is, w.if-bytes-to-gt2.true)
    | else-bytes-to-gt2 w ↦ omega (arith, w.end-is)
  ]

  to_fits : c.args.to ≤ c.if-bytes-to-gt2.end
  to_fits = elim c.if-bytes-to-gt2.branch [
    | then-bytes-to-gt2 w ↦ omega (arith, w.end-is)
    | else-bytes-to-gt2 w ↦ omega (arith, w.end-is, c.requires.within)
  ]

  -- it is as far as a text goes that stands before
  goes_far : (i : ℕ) → i < length c.args.bytes.now → i < c.args.to + 2 → i < c.if-bytes-to-gt2.end
  goes_far i inside near = elim c.if-bytes-to-gt2.branch [
    | then-bytes-to-gt2 w ↦ omega (arith, w.end-is, near)
    | else-bytes-to-gt2 w ↦ omega (arith, w.end-is, inside)
  ]

pub returns : goal.returns
returns c =
    let least = c.min.ensures in
    least_of_all c.args.text.now c.args.bytes.now c.if-bytes-to-gt2.end c.args.from c.args.to c.find_from.result
    (end_within c) c.requires.ordered (to_fits c) (goes_far c) c.find_from.ensures c.min.result
    (omega (arith, least)) (omega (arith, least)) (λ l. omega (arith, least, l))
    (omega (arith, least, c.requires.ordered, c.find_from.ensures.low))
