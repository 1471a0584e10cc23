use Rattle.std.proofs.Common.{refl, sym, ap, ◌∙◌, rules, SFits, w32}
use Rattle.std.proofs.lemmas.Int.{to_z-of_z}
use Rattle.ordered_search.specs.MatchAnswer.{match_answer, PartialFrom, Error}
use Rattle.ordered_search.specs.PlaceAnswer.{Abort}
use Rattle.pcre2_api.specs.Matched.{search_of}
use Rattle.pcre2_api.proofs.Admission.{is_admitted}
use Rattle.pcre2_api.proofs.Matching.{is_placed, is_plain, shown-begun}
use Rattle.pcre2_api.proofs.code.Code.find.Goals as goal

pub returns-in-Match-clause-parts : goal.returns-in-Match-clause-parts
returns-in-Match-clause-parts g c =
    let asked = search_of c.args.self.now c.args.options.now c.args.subject.now c.args.start
    (g.C.Callouts.answers c.args.calls.now) in
    let placed = is_placed asked (match_answer asked) c.in-Match.ensures.plain _ c.in-Match.ensures.answer in
    record { ordered = placed.ordered; within = placed.within; caps = placed.caps; groups = placed.groups }

pub returns-in-Match-clause-found : goal.returns-in-Match-clause-found
returns-in-Match-clause-found g c =
    let asked = search_of c.args.self.now c.args.options.now c.args.subject.now c.args.start
    (g.C.Callouts.answers c.args.calls.now) in
    record {
      begun = c.requires.begun;
      answer = c.in-Match.ensures.answer;
      placed = is_placed asked (match_answer asked) c.in-Match.ensures.plain _ c.in-Match.ensures.answer;
      admitted = is_admitted asked _ c.in-Match.ensures.answer;
    }

pub returns-in-NoMatch-clause-refused : goal.returns-in-NoMatch-clause-refused
returns-in-NoMatch-clause-refused g c =
    let asked = search_of c.args.self.now c.args.options.now c.args.subject.now c.args.start
    (g.C.Callouts.answers c.args.calls.now) in
    (c.requires.begun, c.in-NoMatch.ensures.answer.0, c.in-NoMatch.ensures.answer.1)

pub returns-in-Partial-clause-refused : goal.returns-in-Partial-clause-refused
returns-in-Partial-clause-refused g c =
    let asked = search_of c.args.self.now c.args.options.now c.args.subject.now c.args.start
    (g.C.Callouts.answers c.args.calls.now) in
    let there = is_plain asked (match_answer asked) c.in-Partial.ensures.plain (PartialFrom c.in-Partial.start)
    c.in-Partial.ensures.answer.0 in
    (c.requires.begun, c.in-Partial.ensures.answer.0, c.in-Partial.ensures.answer.1, there.0, there.1, refl)

pub returns-in-MatchLimit-clause-refused : goal.returns-in-MatchLimit-clause-refused
returns-in-MatchLimit-clause-refused g c =
    let asked = search_of c.args.self.now c.args.options.now c.args.subject.now c.args.start
    (g.C.Callouts.answers c.args.calls.now) in
    (c.requires.begun, c.in-MatchLimit.ensures.answer)

pub returns-in-FrameLimit-clause-refused : goal.returns-in-FrameLimit-clause-refused
returns-in-FrameLimit-clause-refused g c =
    let asked = search_of c.args.self.now c.args.options.now c.args.subject.now c.args.start
    (g.C.Callouts.answers c.args.calls.now) in
    (c.requires.begun, c.in-FrameLimit.ensures.answer)

pub returns-in-RecurseLoop-clause-refused : goal.returns-in-RecurseLoop-clause-refused
returns-in-RecurseLoop-clause-refused g c =
    let asked = search_of c.args.self.now c.args.options.now c.args.subject.now c.args.start
    (g.C.Callouts.answers c.args.calls.now) in
    (c.requires.begun, c.in-RecurseLoop.ensures.answer)

pub returns-in-Callout-clause-refused : goal.returns-in-Callout-clause-refused
returns-in-Callout-clause-refused g c =
    let asked = search_of c.args.self.now c.args.options.now c.args.subject.now c.args.start
    (g.C.Callouts.answers c.args.calls.now) in
    let n = c.in-Callout.n in
    let fits : SFits w32 n = search rules in
    (c.requires.begun, c.in-Callout.ensures.answer ∙ ap (λ k. Error (Abort k)) (sym (to_z-of_z w32 n fits)))

pub returns-in-Match-clause-seen : goal.returns-in-Match-clause-seen
returns-in-Match-clause-seen g c =
    let asked = search_of c.args.self.now c.args.options.now c.args.subject.now c.args.start
    (g.C.Callouts.answers c.args.calls.now) in
    c.in-Match.ensures.seen ∙ shown-begun asked (g.C.Callouts.seen c.args.calls.now) c.requires.begun

pub returns-in-NoMatch-clause-shown : goal.returns-in-NoMatch-clause-shown
returns-in-NoMatch-clause-shown g c =
    let asked = search_of c.args.self.now c.args.options.now c.args.subject.now c.args.start
    (g.C.Callouts.answers c.args.calls.now) in
    c.in-NoMatch.ensures.seen ∙ shown-begun asked (g.C.Callouts.seen c.args.calls.now) c.requires.begun

pub returns-in-Partial-clause-shown : goal.returns-in-Partial-clause-shown
returns-in-Partial-clause-shown g c =
    let asked = search_of c.args.self.now c.args.options.now c.args.subject.now c.args.start
    (g.C.Callouts.answers c.args.calls.now) in
    c.in-Partial.ensures.seen ∙ shown-begun asked (g.C.Callouts.seen c.args.calls.now) c.requires.begun

pub returns-in-MatchLimit-clause-shown : goal.returns-in-MatchLimit-clause-shown
returns-in-MatchLimit-clause-shown g c =
    let asked = search_of c.args.self.now c.args.options.now c.args.subject.now c.args.start
    (g.C.Callouts.answers c.args.calls.now) in
    c.in-MatchLimit.ensures.seen ∙ shown-begun asked (g.C.Callouts.seen c.args.calls.now) c.requires.begun

pub returns-in-FrameLimit-clause-shown : goal.returns-in-FrameLimit-clause-shown
returns-in-FrameLimit-clause-shown g c =
    let asked = search_of c.args.self.now c.args.options.now c.args.subject.now c.args.start
    (g.C.Callouts.answers c.args.calls.now) in
    c.in-FrameLimit.ensures.seen ∙ shown-begun asked (g.C.Callouts.seen c.args.calls.now) c.requires.begun

pub returns-in-RecurseLoop-clause-shown : goal.returns-in-RecurseLoop-clause-shown
returns-in-RecurseLoop-clause-shown g c =
    let asked = search_of c.args.self.now c.args.options.now c.args.subject.now c.args.start
    (g.C.Callouts.answers c.args.calls.now) in
    c.in-RecurseLoop.ensures.seen ∙ shown-begun asked (g.C.Callouts.seen c.args.calls.now) c.requires.begun

pub returns-in-Callout-clause-shown : goal.returns-in-Callout-clause-shown
returns-in-Callout-clause-shown g c =
    let asked = search_of c.args.self.now c.args.options.now c.args.subject.now c.args.start
    (g.C.Callouts.answers c.args.calls.now) in
    c.in-Callout.ensures.seen ∙ shown-begun asked (g.C.Callouts.seen c.args.calls.now) c.requires.begun
