use Rattle.std.proofs.Common.{◌≡◌, ◌+◌, ◌≤◌, ◌<◌, length, List, ℕ, inl, inr, sym, subst, ap, ◌∙◌, arith}
use Rattle.std.specs.Prelude.{min}
use Rattle.std.proofs.lemmas.Bool.{cases_lt}
use Rattle.uni_text.specs.Characters.{IsPlace}
use Rattle.match_items.specs.Subjects.{IsText, IsTextPlace}
use Rattle.pat_tree.specs.declared.options.Options.{Options}
use Rattle.ordered_search.specs.Setting.{Setting}
use Rattle.ordered_search.specs.Places.{last_place}
use Rattle.match_drive.proofs.PastPlaces.{passed_places, behind_stands, end_stands}
use Rattle.ordered_search.proofs.StartPlaces.{last_within}
use Rattle.match_starts.specs.Asked.{passed_over, replied}
use Rattle.match_drive.proofs.places.pass.Given as given
use Rattle.match_drive.proofs.places.pass.Goals as goal

pub bytes_end-end-requires : goal.bytes_end-end-requires
bytes_end-end-requires g c =
    let x = c.args.on.now in
    let s = g.S.Driven.asked x passed_over in
    let high : last_place s ≤ length s.subject = last_within s (g.met.S.Driven.start_is x c.requires.fits).within in
    omega (arith, high, c.requires.last, ap (length {A = ℕ}) c.subject-subject.ensures)

pub first_start-found-requires-clause-ordered : goal.first_start-found-requires-clause-ordered
first_start-found-requires-clause-ordered g c =
    let x = c.args.on.now in
    let s = g.S.Driven.asked x passed_over in
    let high : last_place s ≤ length s.subject = last_within s (g.met.S.Driven.start_is x c.requires.fits).within in
    omega (
      arith,
      high,
      c.requires.last,
      c.requires.from,
      c.bytes_end-end.ensures,
      ap (length {A = ℕ}) c.subject-subject.ensures,
    )

pub first_start-found-requires-clause-within : goal.first_start-found-requires-clause-within
first_start-found-requires-clause-within g c =
    omega (arith, c.bytes_end-end.ensures, ap (length {A = ℕ}) c.subject-subject.ensures)

pub place_from-requires-clause-within : goal.place_from-requires-clause-within
place_from-requires-clause-within g c =
    let x = c.args.on.now in
    let s = g.S.Driven.asked x passed_over in
    omega (arith, c.bytes_end-end.ensures, ap (length {A = ℕ}) c.subject-subject.ensures)

-- it is a place, where it isn't past the last one
to_place : (s : Setting) (begun : s.start ≤ length s.subject) (text : IsText s.options s.subject) (last end q : ℕ)
    → last ≡ last_place s → end ≡ min (last + 1) (length s.subject)
    → q ≤ end → (q < end → IsPlace s.options.utf s.subject q) → q ≤ last_place s → IsTextPlace s.options s.subject q
to_place s begun text last end q is ends high at low = elim (cases_lt q end) [
  | inl inside ↦ let place = at inside in record { within = place.0; between = place.1 }
  | inr past ↦ subst (IsTextPlace s.options s.subject)
      (let e : length s.subject ≡ q = omega (arith, past, high, ends, low, is) in e) (end_stands s begun text)
]

module _ (g : given.Over) (c : goal.After-behind g) where
  ends_at : c.bytes_end-end.result ≡ min (c.args.last + 1) (length (g.S.Driven.asked c.args.on.now passed_over).subject)
  ends_at = c.bytes_end-end.ensures ∙ ap (λ (bs : List ℕ). min (c.args.last + 1) (length bs)) c.subject-subject.ensures

  stands_at : c.place_from.result < c.bytes_end-end.result
      → IsPlace (g.S.Driven.asked c.args.on.now passed_over).options.utf
      (g.S.Driven.asked c.args.on.now passed_over).subject c.place_from.result
  stands_at inside =
      subst (λ (o : Options). IsPlace o.utf (g.S.Driven.asked c.args.on.now passed_over).subject c.place_from.result)
      c.options.ensures
      (subst (λ (bs : List ℕ). IsPlace c.options.result.now.utf bs c.place_from.result) c.subject-subject.ensures
      (c.place_from.ensures.found inside))

pub returns-clause-passed : goal.returns-clause-passed
returns-clause-passed g c reply =
    let x = c.args.on.now in
    let s = g.S.Driven.asked x passed_over in
    let begun = (g.met.S.Driven.start_is x c.requires.fits).within in
    let text = g.met.S.Driven.subject_is x c.requires.fits in
    let q = c.place_from.result in
    let found = c.first_start-found.result in
    let low : c.args.from ≤ last_place s = omega (arith, c.requires.last, c.requires.from) in
    let ordered : c.args.from ≤ q = omega (arith, c.first_start-found.ensures.low, c.place_from.ensures.low) in
    let same : length c.subject-subject.result.now ≡ length s.subject = ap (length {A = ℕ}) c.subject-subject.ensures in
    let high : q ≤ length s.subject = omega (arith, c.place_from.ensures.high, c.bytes_end-end.ensures, same) in
    rw c.behind.ensures
    (passed_places (replied reply s) begun text c.args.from q c.requires.place low ordered high
    (to_place s begun text c.args.last c.bytes_end-end.result q c.requires.last (ends_at g c)
    c.place_from.ensures.high (stands_at g c))
    (λ k a b stands. elim (cases_lt k found) [
      | inl before ↦ c.first_start-found.ensures.before reply k a before stands
      | inr past ↦ absurd (c.place_from.ensures.before k (omega (arith, past)) b
          (subst (λ (o : Options). IsPlace o.utf c.subject-subject.result.now k) (sym c.options.ensures)
          (subst (λ (bs : List ℕ). IsPlace s.options.utf bs k) (sym c.subject-subject.ensures)
          (stands.within, stands.between))))
    ]))

pub returns-clause-place : goal.returns-clause-place
returns-clause-place g c =
    let x = c.args.on.now in
    let s = g.S.Driven.asked x passed_over in
    let begun = (g.met.S.Driven.start_is x c.requires.fits).within in
    let text = g.met.S.Driven.subject_is x c.requires.fits in
    λ low. rw c.behind.ensures
    (behind_stands s begun text c.args.from c.place_from.result
    (to_place s begun text c.args.last c.bytes_end-end.result c.place_from.result c.requires.last (ends_at g c)
    c.place_from.ensures.high (stands_at g c))
    (omega (arith, low, c.behind.ensures, c.requires.last)))
