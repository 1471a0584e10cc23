use Rattle.std.proofs.Common.{◌≡◌, ◌∙◌, ◌+◌, ◌*◌, ◌<◌, false, true, Err, length, sym, subst, ap, arith, rules}
use Rattle.std.specs.Prelude.{◌==◌}
use Rattle.tool_io.specs.Writes.{Writes}
use Rattle.pat_tree.specs.Pattern.{pattern_of}
use Rattle.test_run.specs.declared.dfa.Search.{Search}
use Rattle.pcre2_api.specs.Walks.{goes_on, place_behind}
use Rattle.pcre2_api.proofs.Starting.{begun-at, begun-checked}
use Rattle.test_run.specs.Dfa.{told_at, told_text, dfa_text, longest}
use Rattle.test_run.specs.DfaSearches.{IsSearch}
use Rattle.test_run.proofs.Listing.{goes-once, goes-past, goes-inside}
use Rattle.test_run.proofs.Ends.{at-first, at-found, at-next, at-end, at-failed, at-refused, at-quiet, at-last}
use Rattle.test_run.proofs.Ends.{at-as, are-ends, are-none, is-failure, begun-none}
use Rattle.test_lines.proofs.Writing.{writes-as, writes-equal, refused-as}
use Rattle.test_run.proofs.dfa.write_all.Goals as goal
use Rattle.test_run.proofs.dfa.write_all.Goals.{then-again+else-at-subject, else-again, in-Ends, in-Nothing}

pub loop-turn-init : goal.loop-turn-init
loop-turn-init g c = at-first (pattern_of c.args.code.now.tree) c.args.how.now.matching c.args.subject.now
    c.args.how.now.start _

pub returns : goal.returns
returns g c =
    let p = pattern_of c.args.code.now.tree in
    let how = c.args.how.now in
    at-last p how.matching c.args.subject.now how.start c.loop-turn._turn c.loop-turn.at c.loop-turn.again
    c.loop-turn.is_shown _ _ _ c.loop-turn.invariant c.write_end-2.result (omega arith) c.write_end-2.ensures

pub returns-in_err-longest : goal.returns-in_err-longest
returns-in_err-longest g c =
    let p = pattern_of c.args.code.now.tree in
    let how = c.args.how.now in
    let subject = c.args.subject.now in
    let at = c.loop-turn.at in
    let e = c.in_err-longest.field-0.0 in
    let same : c.from_residual.result ≡ Err e = search rules in
    let asks = ap (λ m. told_text p.options.utf subject (told_at p m subject at)) c.matching_at-options.ensures in
    subst (λ r. Writes (dfa_text p how.matching subject true how.start) (g.O.Sink.tells c.args.out.now)
    (g.O.Sink.tells c.search_at.new.out) r) (sym same)
    (at-refused p how.matching subject how.start c.loop-turn._turn at c.loop-turn.again c.loop-turn.is_shown _
    (g.O.Sink.tells c.loop-turn.out) (g.O.Sink.tells c.search_at.new.out) c.loop-turn.invariant (omega arith) e
    (refused-as {A = Search} e (writes-equal asks c.in_err-longest.ensures.wrote)))

pub returns-in-Nothing-2 : goal.returns-in-Nothing-2
returns-in-Nothing-2 g c =
    let p = pattern_of c.args.code.now.tree in
    let how = c.args.how.now in
    let subject = c.args.subject.now in
    let at = c.loop-turn.at in
    let again = c.loop-turn.again in
    let mid = g.O.Sink.tells c.search_at.new.out in
    let here = told_at p c.matching_at-options.result subject at in
    let asks = ap (λ m. told_at p m subject at) c.matching_at-options.ensures in
    let nothing = are-none here (subst (λ s. IsSearch s here) c.in-Nothing-2.is c.in_ok-longest.ensures.comes) in
    let quiet = at-quiet p how.matching subject how.start c.loop-turn._turn at again c.loop-turn.is_shown
    (g.O.Sink.tells c.args.out.now) (g.O.Sink.tells c.loop-turn.out) mid c.loop-turn.invariant tt
    (writes-as {A = Search} _ tt (writes-equal (ap (told_text p.options.utf subject) nothing)
    c.in_ok-longest.ensures.wrote)) in
    let goes : goes_on p how.matching subject again at ≡ false = elim c.if-again.branch [
      | then-again+else-at-subject w ↦ goes-past p how.matching subject again at w.if-again.true w.if-at-subject.false
      | else-again w ↦ goes-once p how.matching subject again at w.if-again.false
    ] in
    at-end p how.matching subject how.start c.loop-turn._turn at again c.loop-turn.is_shown
    (g.O.Sink.tells c.args.out.now) mid (g.O.Sink.tells c.write_end.new.out) quiet (omega arith)
    c.write_end.result (sym asks ∙ nothing) goes c.write_end.ensures

pub place_behind-at-requires-clause-checked : goal.place_behind-at-requires-clause-checked
place_behind-at-requires-clause-checked g c =
    let p = pattern_of c.args.code.now.tree in
    let subject = c.args.subject.now in
    let here = told_at p c.matching_at-options.result subject c.loop-turn.at in
    let nothing = are-none here (subst (λ s. IsSearch s here) c.in-Nothing.is c.in_ok-longest.ensures.comes) in
    begun-checked c.args.code.now.tree.options.utf subject c.loop-turn.at
    (begun-none p c.matching_at-options.result subject c.loop-turn.at nothing)

pub place_behind-at-requires-clause-place : goal.place_behind-at-requires-clause-place
place_behind-at-requires-clause-place g c =
    let p = pattern_of c.args.code.now.tree in
    let subject = c.args.subject.now in
    let here = told_at p c.matching_at-options.result subject c.loop-turn.at in
    let nothing = are-none here (subst (λ s. IsSearch s here) c.in-Nothing.is c.in_ok-longest.ensures.comes) in
    begun-at c.args.code.now.tree.options subject c.loop-turn.at
    (begun-none p c.matching_at-options.result subject c.loop-turn.at nothing)

pub returns-in-Failed : goal.returns-in-Failed
returns-in-Failed g c =
    let p = pattern_of c.args.code.now.tree in
    let how = c.args.how.now in
    let subject = c.args.subject.now in
    let at = c.loop-turn.at in
    let here = told_at p c.matching_at-options.result subject at in
    let asks = ap (λ m. told_at p m subject at) c.matching_at-options.ensures in
    let failure = is-failure here (subst (λ s. IsSearch s here) c.in-Failed.is c.in_ok-longest.ensures.comes) in
    at-failed p how.matching subject how.start c.loop-turn._turn at c.loop-turn.again c.loop-turn.is_shown
    (g.O.Sink.tells c.args.out.now) (g.O.Sink.tells c.loop-turn.out) (g.O.Sink.tells c.search_at.new.out)
    c.loop-turn.invariant (omega arith) failure.error tt (sym asks ∙ failure.is)
    (writes-as {A = Search} _ tt (writes-equal (ap (told_text p.options.utf subject) failure.is)
    c.in_ok-longest.ensures.wrote))

pub loop-turn-preserved : goal.loop-turn-preserved
loop-turn-preserved g c =
    let p = pattern_of c.args.code.now.tree in
    let how = c.args.how.now in
    let subject = c.args.subject.now in
    let i = c.loop-turn._turn in
    let at = c.loop-turn.at in
    let again = c.loop-turn.again in
    let is_shown = c.loop-turn.is_shown in
    let old = g.O.Sink.tells c.args.out.now in
    let mid = g.O.Sink.tells c.loop-turn.out in
    let new = g.O.Sink.tells c.search_at.new.out in
    let here = told_at p c.matching_at-options.result subject at in
    let asks = ap (λ m. told_at p m subject at) c.matching_at-options.ensures in
    let more : i < 2 * length subject + 2 = omega arith in
    elim c.match-branch-2.branch [
      | in-Ends w ↦
          let m = are-ends w.in-Ends.longest w.in-Ends.is_empty here
          (subst (λ s. IsSearch s here) w.in-Ends.is c.in_ok-longest.ensures.comes) in
          at-as p how.matching subject how.start (i + 1) c.match-branch-2.at (longest m.start m.found)
          c.match-branch-2.again (m.start == longest m.start m.found) c.match-branch-2.is_shown true old new
          (w.at-is ∙ m.to_is) (w.again-is ∙ m.empty_is) w.is_shown-is
          (at-found p how.matching subject how.start i at again is_shown old mid new c.loop-turn.invariant more
          m.start m.found tt (sym asks ∙ m.is)
          (writes-as {A = Search} _ tt (writes-equal (ap (told_text p.options.utf subject) m.is)
          c.in_ok-longest.ensures.wrote)))
      | in-Nothing w ↦
          let nothing = are-none here (subst (λ s. IsSearch s here) w.in-Nothing.is c.in_ok-longest.ensures.comes) in
          let quiet = at-quiet p how.matching subject how.start i at again is_shown old mid new c.loop-turn.invariant
          tt (writes-as {A = Search} _ tt (writes-equal (ap (told_text p.options.utf subject) nothing)
          c.in_ok-longest.ensures.wrote)) in
          let goes = goes-inside p how.matching subject again at w.if-again.true w.if-at-subject.true in
          at-as p how.matching subject how.start (i + 1) c.match-branch-2.at (place_behind p subject at)
          c.match-branch-2.again false c.match-branch-2.is_shown is_shown old new
          (w.at-is ∙ w.place_behind-at.ensures) w.again-is w.is_shown-is
          (at-next p how.matching subject how.start i at again is_shown old new new quiet more (sym asks ∙ nothing)
          goes)
    ]
