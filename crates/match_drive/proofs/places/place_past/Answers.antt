use Rattle.std.proofs.Common.{◌≡◌, ◌≤◌, ◌<◌, ℕ, false, length, Some, sym, ap, subst, ◌∙◌, arith, inl, inr}
use Rattle.std.proofs.lemmas.Bool.{cases_Bool}
use Rattle.std.proofs.lemmas.Option.{IfSome_then}
use Rattle.frame_state.specs.declared.answer.Signal.TheVariants as told
use Rattle.frame_state.specs.Answer.{signal_of}
use Rattle.ordered_search.specs.PlaceAnswer.{Signal, Exhausted, Failed, place_answer}
use Rattle.ordered_search.specs.Places.{last_place, place_after, up_to}
use Rattle.ordered_search.proofs.StartPlaces.{last_within}
use Rattle.match_starts.specs.Asked.{passed_over, replied}
use Rattle.match_drive.specs.Rest.{found_from, behind}
use Rattle.match_drive.proofs.PastRun.{next_past}
use Rattle.match_starts.proofs.TextSteps.{byte_place}
use Rattle.match_drive.proofs.places.place_past.Goals.{in-Exhausted, in_default}
use Rattle.match_drive.proofs.places.place_past.Goals as goal

pub returns-clause-same : goal.returns-clause-same
returns-clause-same g c reply failed =
    let x = c.args.on.now in
    let s = g.S.Driven.asked x passed_over in
    let t = replied reply s in
    let p = c.args.at in
    let q = c.bytes_end-end.result in
    let begun = (g.met.S.Driven.start_is x c.requires.fits).within in
    let is : c.args.signal ≡ told.Exhausted = elim c.match-matches.branch [
      | in-Exhausted w ↦ w.in-Exhausted.is
      | in_default w ↦ absurd (let a = w.matches-is in let b = c.if-not-matches.false in cc)
    ] in
    let high : last_place s ≤ length s.subject = last_within s begun in
    let not_utf : s.options.utf ≡ false = elim (cases_Bool s.options.utf) [
      | inl utf ↦ absurd (let alone = c.fails_to-to.ensures.alone utf in omega (arith, alone, c.if-to-at.false))
      | inr bytes ↦ bytes
    ] in
    let low : p ≤ last_place s = omega (arith, c.requires.last, c.requires.at) in
    let before : p < c.fails_to-to.result =
    omega (arith, c.fails_to-to.ensures.low, c.if-to-at.false) in
    let same : length c.subject.result.now ≡ length s.subject =
    ap (length {A = ℕ}) c.subject.ensures in
    let to = c.fails_to-to.ensures.within in
    let end = c.bytes_end-end.ensures in
    let least = c.min.ensures in
    let next : c.up_to.result ≡ up_to (last_place s) (Some (behind s p q)) =
    c.up_to.ensures.value ∙ ap (λ l. up_to l (Some c.behind.result)) c.requires.last
    ∙ ap (λ b. up_to (last_place s) (Some b)) c.behind.ensures in
    let all : (place_answer t p).answer ≡ Failed Exhausted
    → found_from t c.up_to.result ≡ found_from t (place_after t p Exhausted) =
    λ f. ap (found_from t) next
    ∙ next_past t not_utf begun p c.fails_to-to.result q low before
    (c.fails_to-to.ensures.fails reply)
    (omega (arith, end, least, low, before, same, to, c.requires.last, c.requires.at))
    (omega (arith, end, least)) (omega (arith, end, same))
    (omega (arith, end, least, c.requires.last)) f in
    subst (λ (r : Signal). (place_answer t p).answer ≡ Failed r
    → found_from t c.up_to.result ≡ found_from t (place_after t p r)) (ap signal_of (sym is))
    all failed

pub returns-clause-place : goal.returns-clause-place
returns-clause-place g c =
    let x = c.args.on.now in
    let s = g.S.Driven.asked x passed_over in
    let not_utf : s.options.utf ≡ false = elim (cases_Bool s.options.utf) [
      | inl utf ↦ absurd (let alone = c.fails_to-to.ensures.alone utf in omega (arith, alone, c.if-to-at.false))
      | inr bytes ↦ bytes
    ] in
    let high : last_place s ≤ length s.subject = last_within s (g.met.S.Driven.start_is x c.requires.fits).within in
    IfSome_then c.up_to.result c.up_to.ensures.within
    (λ q low. byte_place s.options s.subject not_utf q (omega (arith, low, high, c.requires.last)))
