use Rattle.std.proofs.Common.{◌≡◌, ◌≤◌, ◌<◌, ℕ, Option, length, refl, sym, subst, ap, ◌∙◌, arith}
use Rattle.std.specs.Prelude.{IfSome}
use Rattle.std.proofs.lemmas.Option.{IfSome_then}
use Rattle.match_items.specs.Subjects.{IsTextPlace}
use Rattle.match_starts.specs.Asked.{passed_over, replied}
use Rattle.ordered_search.specs.Places.{next_place, last_place, up_to}
use Rattle.match_drive.specs.Rest.{found_from}
use Rattle.match_drive.proofs.Steps.{left_less, none_earlier, step_is, step_later, tried_next, none_next, excluded_next}
use Rattle.ordered_search.proofs.StartPlaces.{last_within}
use Rattle.match_drive.proofs.PastBegin.{none_past}
use Rattle.match_starts.proofs.TextSteps.{up_to_place}
use Rattle.match_drive.proofs.places.next_tried.Given as given
use Rattle.match_drive.proofs.places.next_tried.Goals as goal

pub pass-place-requires-clause-from : goal.pass-place-requires-clause-from
pass-place-requires-clause-from g c = rw c.in-Some.is at c.places.invariant.within

pub returns-then-stands_at_begin-clause-tried : goal.returns-then-stands_at_begin-clause-tried
returns-then-stands_at_begin-clause-tried g c reply =
    let x = c.args.on.now in
    let s = replied reply (g.S.Driven.asked x passed_over) in
    sym (rw c.in-Some.is at (c.places.invariant.same reply))
    ∙ none_past s (g.met.S.Driven.start_is x c.requires.fits).within (c.if-stands_at_begin.ensures refl) c.in-Some.at
    c.if-at-gt0.true

pub returns-then-place-last-clause-tried : goal.returns-then-place-last-clause-tried
returns-then-place-last-clause-tried g c reply =
    let x = c.args.on.now in
    let s = replied reply (g.S.Driven.asked x passed_over) in
    none_next s (g.met.S.Driven.start_is x c.requires.fits).within c.args.from c.in-Some.at c.pass-place.result
    (rw c.in-Some.is at (c.places.invariant.same reply)) (c.pass-place.ensures.passed reply)
    (omega (arith, c.requires.last, c.if-place-last.true))

pub is_excluded-requires-clause-at : goal.is_excluded-requires-clause-at
is_excluded-requires-clause-at g c =
    let x = c.args.on.now in
    let s = g.S.Driven.asked x passed_over in
    let high : last_place s ≤ length s.subject = last_within s (g.met.S.Driven.start_is x c.requires.fits).within in
    omega (arith, high, c.requires.last, c.if-place-last.false)

pub returns-in_default-refused_to-clause-tried : goal.returns-in_default-refused_to-clause-tried
returns-in_default-refused_to-clause-tried g c reply =
    let x = c.args.on.now in
    let s = replied reply (g.S.Driven.asked x passed_over) in
    tried_next s (g.met.S.Driven.start_is x c.requires.fits).within c.args.from c.in-Some.at c.pass-place.result
    (rw c.in-Some.is at (c.places.invariant.same reply)) (rw c.in-Some.is at c.places.invariant.later)
    (c.pass-place.ensures.passed reply)
    (omega (arith, c.requires.last, c.if-place-last.false)) (sym c.is_excluded.ensures ∙ c.if-is_excluded.false)

pub pass-place-requires-clause-place : goal.pass-place-requires-clause-place
pass-place-requires-clause-place g c = rw c.in-Some.is at c.places.invariant.place

pub returns-in_default-refused_to-clause-place : goal.returns-in_default-refused_to-clause-place
returns-in_default-refused_to-clause-place g c = c.pass-place.ensures.place (omega (arith, c.if-place-last.false))

pub next_place-requires-clause-at : goal.next_place-requires-clause-at
next_place-requires-clause-at g c = c.pass-place.ensures.place (omega (arith, c.if-place-last.false))

pub places-smaller-then-is_excluded : goal.places-smaller-then-is_excluded
places-smaller-then-is_excluded g c =
    let x = c.args.on.now in
    let s = g.S.Driven.asked x passed_over in
    let e : c.up_to-next.result ≡ up_to (last_place s) (next_place s c.pass-place.result) =
    step_is s (g.met.S.Driven.start_is x c.requires.fits).within c.pass-place.result c.args.last c.next_place.result
    c.up_to-next.result c.requires.last c.next_place.ensures.value c.up_to-next.ensures.value in
    let high : last_place s ≤ length s.subject = last_within s (g.met.S.Driven.start_is x c.requires.fits).within in
    let later : c.in-Some.at ≤ c.pass-place.result = (c.pass-place.ensures.passed s.reply).later in
    left_less (length s.subject) c.in-Some.at c.places.next c.up_to-next.result c.in-Some.is
    (omega (arith, high, c.requires.last, c.if-place-last.false, later))
    (subst (λ (o : Option ℕ). IfSome o (λ q. c.in-Some.at < q)) (sym e)
    (step_later s (g.met.S.Driven.start_is x c.requires.fits).within c.in-Some.at c.pass-place.result later))

pub places-preserved-then-is_excluded : goal.places-preserved-then-is_excluded
places-preserved-then-is_excluded g c =
    let x = c.args.on.now in
    let s = g.S.Driven.asked x passed_over in
    let e : c.up_to-next.result ≡ up_to (last_place s) (next_place s c.pass-place.result) =
    step_is s (g.met.S.Driven.start_is x c.requires.fits).within c.pass-place.result c.args.last c.next_place.result
    c.up_to-next.result c.requires.last c.next_place.ensures.value c.up_to-next.ensures.value in
    record {
      same = λ reply.
          ap (found_from (replied reply s)) e
          ∙ excluded_next (replied reply s) (g.met.S.Driven.start_is x c.requires.fits).within c.args.from
          c.in-Some.at c.pass-place.result
          (rw c.in-Some.is at (c.places.invariant.same reply)) (c.pass-place.ensures.passed reply)
          (omega (arith, c.requires.last, c.if-place-last.false))
          (sym c.is_excluded.ensures ∙ c.if-is_excluded.true);
      within = c.up_to-next.ensures.within;
      place = subst (λ (o : Option ℕ). IfSome o (IsTextPlace s.options s.subject)) (sym c.up_to-next.ensures.value)
          (up_to_place (IsTextPlace s.options s.subject) c.args.last c.next_place.result c.next_place.ensures.place);
      later = none_earlier c.args.from c.in-Some.at c.up_to-next.result (rw c.in-Some.is at c.places.invariant.later)
          (subst (λ (o : Option ℕ). IfSome o (λ q. c.in-Some.at < q)) (sym e)
          (step_later s (g.met.S.Driven.start_is x c.requires.fits).within c.in-Some.at c.pass-place.result
          (c.pass-place.ensures.passed s.reply).later));
    }

pub refused_to-requires-clause-place : goal.refused_to-requires-clause-place
refused_to-requires-clause-place g c = c.pass-place.ensures.place (omega (arith, c.if-place-last.false))

pub past_refused-next-requires-clause-fail : goal.past_refused-next-requires-clause-fail
past_refused-next-requires-clause-fail g c = rw c.in-Some-refused_to.is at c.refused_to.ensures

-- it is later than the place that went before
onward : (g : given.Over) (c : goal.After-past_refused-next g)
    → IfSome c.past_refused-next.result (λ q. c.in-Some.at < q)
onward g c =
    let s = g.S.Driven.asked c.args.on.now passed_over in
    let later : c.in-Some.at ≤ c.pass-place.result = (c.pass-place.ensures.passed s.reply).later in
    IfSome_then c.past_refused-next.result c.past_refused-next.ensures.later
    (λ q further. omega (arith, later, further))

pub places-smaller : goal.places-smaller
places-smaller g c =
    let x = c.args.on.now in
    let s = g.S.Driven.asked x passed_over in
    let high : last_place s ≤ length s.subject = last_within s (g.met.S.Driven.start_is x c.requires.fits).within in
    let later : c.in-Some.at ≤ c.pass-place.result = (c.pass-place.ensures.passed s.reply).later in
    left_less (length s.subject) c.in-Some.at c.places.next c.past_refused-next.result c.in-Some.is
    (omega (arith, high, c.requires.last, c.if-place-last.false, later)) (onward g c)

pub places-preserved : goal.places-preserved
places-preserved g c =
    let x = c.args.on.now in
    let s = g.S.Driven.asked x passed_over in
    let begun = (g.met.S.Driven.start_is x c.requires.fits).within in
    let later = rw c.in-Some.is at c.places.invariant.later in
    record {
      same = λ reply.
          c.past_refused-next.ensures.same reply
          ∙ (tried_next (replied reply s) begun c.args.from c.in-Some.at c.pass-place.result
          (rw c.in-Some.is at (c.places.invariant.same reply)) later (c.pass-place.ensures.passed reply)
          (omega (arith, c.requires.last, c.if-place-last.false)) (sym c.is_excluded.ensures
          ∙ c.if-is_excluded.false)).same;
      within = c.past_refused-next.ensures.within;
      place = c.past_refused-next.ensures.place;
      later = none_earlier c.args.from c.in-Some.at c.past_refused-next.result later (onward g c);
    }
