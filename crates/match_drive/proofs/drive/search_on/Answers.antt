use Rattle.std.proofs.Common.{rules, ◌≡◌, ◌≤◌, ℕ, Option, Some, length, refl, sym, subst, ◌∙◌, arith}
use Rattle.std.proofs.lemmas.Option.{IfSome_then}
use Rattle.frame_state.specs.declared.answer.PlaceAnswer.TheVariants.{Failed}
use Rattle.frame_state.specs.Answer.{IsAnswer, IsMark, IsSeen}
use Rattle.ordered_search.specs.PlaceAnswer.{place_answer}
use Rattle.ordered_search.specs.Setting.{Setting}
use Rattle.match_starts.specs.Asked.{passed_over, replied}
use Rattle.ordered_search.specs.Places.{last_place}
use Rattle.ordered_search.specs.MatchAnswer.{none_found, match_answer}
use Rattle.match_drive.specs.Answer.{IsMatchAnswer, IsLastMark, IsShown}
use Rattle.match_drive.specs.Rest.{IsLeft, IsNextTried}
use Rattle.match_drive.proofs.Steps.{left_less, next_within, next_not_excluded, tried_later, tried_from}
use Rattle.ordered_search.proofs.StartPlaces.{last_within}
use Rattle.match_drive.proofs.Walk.{walk_begins, walk_ends, walk_on, shown_at_last, shown_on, shown_first, asked_alike}
use Rattle.match_drive.proofs.Shown.{shown_none, decides}
use Rattle.match_drive.proofs.NoneTold.{none_told}
use Rattle.match_drive.proofs.drive.search_on.Goals as goal

pub places-init : goal.places-init
places-init g c =
    let x = c.args.on.now in
    let s = replied (g.S.Driven.asked x (g.C.Callouts.answers c.args.calls.now)).reply
    (g.S.Driven.asked x passed_over) in
    let next : IsNextTried s (Some s.start) c.next_tried-next.result =
    subst (λ p. IsNextTried s (Some p) c.next_tried-next.result) c.start.ensures
    (c.next_tried-next.ensures.tried s.reply) in
    record {
      left = walk_begins s (g.met.S.Driven.start_is x c.requires).within _ c.next_tried-next.result (search rules) next;
      begun = tried_from s s.start c.next_tried-next.result next;
      within = next_within s (Some s.start) c.next_tried-next.result next;
      place = c.next_tried-next.ensures.place;
      not_excluded = next_not_excluded s (Some s.start) c.next_tried-next.result next;
      peak = search rules;
      groups = search rules;
      frames = search rules;
      rule = λ block. refl;
      seen = shown_first s (g.met.S.Driven.start_is x c.requires).within c.next_tried-next.result
          (g.C.Callouts.seen c.args.calls.now) next;
    }

pub returns-in_default-answer-clause-answer : goal.returns-in_default-answer-clause-answer
returns-in_default-answer-clause-answer g c =
    let x = c.args.on.now in
    let first = g.C.Callouts.answers c.args.calls.now in
    let s = replied (g.S.Driven.asked x first).reply (g.S.Driven.asked x passed_over) in
    let e : g.S.Driven.asked x (g.C.Callouts.answers c.places.calls) ≡ s =
    asked_alike (g.S.Driven.asked x) (g.S.Driven.asked x passed_over) first (g.C.Callouts.answers c.places.calls)
    c.places.invariant.rule (g.met.S.Driven.alike x first) in
    subst (λ (t : Setting). IsMatchAnswer c.decided.result c.try_at-answer.new.scratch.spans (match_answer t))
    (sym (g.met.S.Driven.alike x first))
    (walk_ends s (g.met.S.Driven.start_is x c.requires).within (match_answer s) c.places.first
    c.places.scratch.last_mark c.places.next c.in-Some.place c.in-Some.is
    c.places.invariant.left c.places.invariant.within c.places.invariant.not_excluded
    c.try_at-answer.new.scratch.spans c.try_at-answer.result
    c.try_at-answer.new.scratch.last_mark c.last_mark.result c.decided.result
    (subst (λ (t : Setting). IsAnswer c.try_at-answer.result c.try_at-answer.new.scratch.spans
    (place_answer t c.in-Some.place)) e c.try_at-answer.ensures.answer)
    (subst (λ (t : Setting). IsMark c.try_at-answer.result c.places.scratch.last_mark
    c.try_at-answer.new.scratch.last_mark (place_answer t c.in-Some.place)) e c.try_at-answer.ensures.mark)
    c.last_mark.ensures c.decided.ensures.tells).0

pub returns-in_default-answer-clause-last_mark : goal.returns-in_default-answer-clause-last_mark
returns-in_default-answer-clause-last_mark g c =
    let x = c.args.on.now in
    let first = g.C.Callouts.answers c.args.calls.now in
    let s = replied (g.S.Driven.asked x first).reply (g.S.Driven.asked x passed_over) in
    let e : g.S.Driven.asked x (g.C.Callouts.answers c.places.calls) ≡ s =
    asked_alike (g.S.Driven.asked x) (g.S.Driven.asked x passed_over) first (g.C.Callouts.answers c.places.calls)
    c.places.invariant.rule (g.met.S.Driven.alike x first) in
    subst (λ (t : Setting). IsLastMark c.decided.result c.try_at-answer.new.scratch.last_mark (match_answer t))
    (sym (g.met.S.Driven.alike x first))
    (walk_ends s (g.met.S.Driven.start_is x c.requires).within (match_answer s) c.places.first
    c.places.scratch.last_mark c.places.next c.in-Some.place c.in-Some.is
    c.places.invariant.left c.places.invariant.within c.places.invariant.not_excluded
    c.try_at-answer.new.scratch.spans c.try_at-answer.result
    c.try_at-answer.new.scratch.last_mark c.last_mark.result c.decided.result
    (subst (λ (t : Setting). IsAnswer c.try_at-answer.result c.try_at-answer.new.scratch.spans
    (place_answer t c.in-Some.place)) e c.try_at-answer.ensures.answer)
    (subst (λ (t : Setting). IsMark c.try_at-answer.result c.places.scratch.last_mark
    c.try_at-answer.new.scratch.last_mark (place_answer t c.in-Some.place)) e c.try_at-answer.ensures.mark)
    c.last_mark.ensures c.decided.ensures.tells).1

pub returns-in_default-answer-clause-whole : goal.returns-in_default-answer-clause-whole
returns-in_default-answer-clause-whole g c off =
    let x = c.args.on.now in
    let first = g.C.Callouts.answers c.args.calls.now in
    let s = replied (g.S.Driven.asked x first).reply (g.S.Driven.asked x passed_over) in
    none_told s off c.decided.result c.try_at-answer.new.scratch.spans
    (subst (λ (t : Setting). IsMatchAnswer c.decided.result c.try_at-answer.new.scratch.spans (match_answer t))
    (g.met.S.Driven.alike x first) (returns-in_default-answer-clause-answer g c))

pub returns-in_default-answer-clause-seen : goal.returns-in_default-answer-clause-seen
returns-in_default-answer-clause-seen g c =
    let x = c.args.on.now in
    let first = g.C.Callouts.answers c.args.calls.now in
    let s = replied (g.S.Driven.asked x first).reply (g.S.Driven.asked x passed_over) in
    let e : g.S.Driven.asked x (g.C.Callouts.answers c.places.calls) ≡ s =
    asked_alike (g.S.Driven.asked x) (g.S.Driven.asked x passed_over) first (g.C.Callouts.answers c.places.calls)
    c.places.invariant.rule (g.met.S.Driven.alike x first) in
    subst (λ (t : Setting). IsShown c.decided.result (g.C.Callouts.seen c.args.calls.now)
    (g.C.Callouts.seen c.try_at-answer.new.calls) (match_answer t)) (sym (g.met.S.Driven.alike x first))
    (shown_at_last s (g.met.S.Driven.start_is x c.requires).within (match_answer s) c.places.next c.in-Some.place
    c.in-Some.is c.places.invariant.within c.places.invariant.not_excluded
    c.try_at-answer.new.scratch.spans _ _ _ c.places.invariant.seen c.try_at-answer.result c.decided.result
    (decides c.try_at-answer.result c.in_default-answer.not-Failed)
    (subst (λ (t : Setting). IsAnswer c.try_at-answer.result c.try_at-answer.new.scratch.spans
    (place_answer t c.in-Some.place)) e c.try_at-answer.ensures.answer)
    (subst (λ (t : Setting). IsSeen c.try_at-answer.result (g.C.Callouts.seen c.places.calls)
    (g.C.Callouts.seen c.try_at-answer.new.calls) (place_answer t c.in-Some.place)) e
    c.try_at-answer.ensures.seen)
    c.decided.ensures.memory)

pub returns-clause-seen : goal.returns-clause-seen
returns-clause-seen g c =
    let x = c.args.on.now in
    let first = g.C.Callouts.answers c.args.calls.now in
    let s = replied (g.S.Driven.asked x first).reply (g.S.Driven.asked x passed_over) in
    subst (λ (t : Setting). IsShown c.undecided.result (g.C.Callouts.seen c.args.calls.now)
    (g.C.Callouts.seen c.places.calls) (match_answer t)) (sym (g.met.S.Driven.alike x first))
    (shown_none c.undecided.result _ _ (match_answer s) none_found (rw c.in_default.is at c.places.invariant.seen) refl)

pub returns-clause-answer : goal.returns-clause-answer
returns-clause-answer g c =
    let x = c.args.on.now in
    let first = g.C.Callouts.answers c.args.calls.now in
    let s = replied (g.S.Driven.asked x first).reply (g.S.Driven.asked x passed_over) in
    let left = subst (λ (m : Option ℕ). IsLeft (match_answer s) c.places.first m none_found)
    (sym c.last_mark-2.ensures) (rw c.in_default.is at c.places.invariant.left) in
    subst (λ (t : Setting). IsMatchAnswer c.undecided.result c.places.scratch.spans (match_answer t))
    (sym (g.met.S.Driven.alike x first))
    (c.undecided.ensures.tells c.places.scratch.spans (match_answer s) left).0

pub returns-clause-last_mark : goal.returns-clause-last_mark
returns-clause-last_mark g c =
    let x = c.args.on.now in
    let first = g.C.Callouts.answers c.args.calls.now in
    let s = replied (g.S.Driven.asked x first).reply (g.S.Driven.asked x passed_over) in
    let left = subst (λ (m : Option ℕ). IsLeft (match_answer s) c.places.first m none_found)
    (sym c.last_mark-2.ensures) (rw c.in_default.is at c.places.invariant.left) in
    subst (λ (t : Setting). IsLastMark c.undecided.result c.places.scratch.last_mark (match_answer t))
    (sym (g.met.S.Driven.alike x first))
    (subst (λ (m : Option ℕ). IsLastMark c.undecided.result m (match_answer s)) c.last_mark-2.ensures
    (c.undecided.ensures.tells c.places.scratch.spans (match_answer s) left).1)

pub returns-clause-whole : goal.returns-clause-whole
returns-clause-whole g c off =
    let x = c.args.on.now in
    let first = g.C.Callouts.answers c.args.calls.now in
    let s = replied (g.S.Driven.asked x first).reply (g.S.Driven.asked x passed_over) in
    none_told s off c.undecided.result c.places.scratch.spans
    (subst (λ (t : Setting). IsMatchAnswer c.undecided.result c.places.scratch.spans (match_answer t))
    (g.met.S.Driven.alike x first) (returns-clause-answer g c))

pub places-smaller : goal.places-smaller
places-smaller g c =
    let x = c.args.on.now in
    let s = g.S.Driven.asked x passed_over in
    let high : last_place s ≤ length s.subject = last_within s (g.met.S.Driven.start_is x c.requires).within in
    let low : c.in-Some.place ≤ last_place s = rw c.in-Some.is at c.places.invariant.within in
    left_less (length s.subject) c.in-Some.place c.places.next c.next_tried-next-in-Some.result c.in-Some.is
    (omega (arith, high, low))
    (tried_later (replied s.reply s) c.place_past.result c.next_tried-next-in-Some.result
    c.in-Some.place (c.next_tried-next-in-Some.ensures.tried s.reply) c.place_past.ensures.later)

pub places-preserved : goal.places-preserved
places-preserved g c =
    let x = c.args.on.now in
    let first = g.C.Callouts.answers c.args.calls.now in
    let s = replied (g.S.Driven.asked x first).reply (g.S.Driven.asked x passed_over) in
    let e : g.S.Driven.asked x (g.C.Callouts.answers c.places.calls) ≡ s =
    asked_alike (g.S.Driven.asked x) (g.S.Driven.asked x passed_over) first (g.C.Callouts.answers c.places.calls)
    c.places.invariant.rule (g.met.S.Driven.alike x first) in
    let next = c.next_tried-next-in-Some.ensures.tried s.reply in
    let begun : s.start ≤ c.in-Some.place = rw c.in-Some.is at c.places.invariant.begun in
    record {
      left =
          walk_on s (g.met.S.Driven.start_is x c.requires).within (match_answer s) c.places.first
          c.places.scratch.last_mark c.places.next c.in-Some.place c.in-Some.is
          c.places.invariant.left c.places.invariant.within c.places.invariant.not_excluded
          c.try_at-answer.new.scratch.spans c.in-Failed.signal c.in-Failed.hit_end
          c.try_at-answer.new.scratch.last_mark c.first_hit-first.result c.place_past.result
          c.next_tried-next-in-Some.result
          (subst (λ (t : Setting). IsAnswer (Failed c.in-Failed.signal c.in-Failed.hit_end)
          c.try_at-answer.new.scratch.spans (place_answer t c.in-Some.place)) e c.in-Failed.ensures.answer)
          (subst (λ (t : Setting). IsMark (Failed c.in-Failed.signal c.in-Failed.hit_end) c.places.scratch.last_mark
          c.try_at-answer.new.scratch.last_mark (place_answer t c.in-Some.place)) e c.in-Failed.ensures.mark)
          c.first_hit-first.ensures
          (c.place_past.ensures.same (g.S.Driven.asked x first).reply
          (subst (λ (t : Setting). IsAnswer (Failed c.in-Failed.signal c.in-Failed.hit_end)
          c.try_at-answer.new.scratch.spans (place_answer t c.in-Some.place)) e
          c.in-Failed.ensures.answer).0)
          next;
      begun = IfSome_then c.next_tried-next-in-Some.result
          (tried_later s c.place_past.result c.next_tried-next-in-Some.result c.in-Some.place next
          c.place_past.ensures.later)
          (λ q later. omega (arith, begun, later));
      within = next_within s c.place_past.result c.next_tried-next-in-Some.result next;
      place = c.next_tried-next-in-Some.ensures.place;
      not_excluded = next_not_excluded s c.place_past.result c.next_tried-next-in-Some.result next;
      peak = omega (arith, c.try_at-answer.ensures.peak, c.places.invariant.peak);
      groups = c.try_at-answer.ensures.groups ∙ c.places.invariant.groups;
      frames = c.try_at-answer.ensures.frames ∙ c.places.invariant.frames;
      rule = λ block. c.try_at-answer.ensures.rule block ∙ c.places.invariant.rule block;
      seen =
          shown_on s (g.met.S.Driven.start_is x c.requires).within (match_answer s) c.places.next c.in-Some.place
          c.in-Some.is c.places.invariant.within c.places.invariant.not_excluded
          c.try_at-answer.new.scratch.spans _ _ _ c.places.invariant.seen c.in-Failed.signal c.in-Failed.hit_end
          c.place_past.result c.next_tried-next-in-Some.result
          (subst (λ (t : Setting). IsAnswer (Failed c.in-Failed.signal c.in-Failed.hit_end)
          c.try_at-answer.new.scratch.spans (place_answer t c.in-Some.place)) e c.in-Failed.ensures.answer)
          (subst (λ (t : Setting). IsSeen (Failed c.in-Failed.signal c.in-Failed.hit_end)
          (g.C.Callouts.seen c.places.calls) (g.C.Callouts.seen c.try_at-answer.new.calls)
          (place_answer t c.in-Some.place)) e c.in-Failed.ensures.seen)
          (c.place_past.ensures.same (g.S.Driven.asked x first).reply
          (subst (λ (t : Setting). IsAnswer (Failed c.in-Failed.signal c.in-Failed.hit_end)
          c.try_at-answer.new.scratch.spans (place_answer t c.in-Some.place)) e
          c.in-Failed.ensures.answer).0)
          next;
    }

pub returns-in_default-answer-clause-reserved : goal.returns-in_default-answer-clause-reserved
returns-in_default-answer-clause-reserved g c = λ enough quiet.
    c.decided.ensures.reserved
    (c.try_at-answer.ensures.reserved
    (rw c.places.invariant.groups enough.0, rw c.places.invariant.frames enough.1)
    (quiet.0, λ block. c.places.invariant.rule block ∙ quiet.1 block))
