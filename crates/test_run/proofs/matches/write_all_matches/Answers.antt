use Rattle.std.proofs.Common.{◌≡◌, ◌∙◌, ◌+◌, ◌*◌, ◌<◌, false, true, Err, length, sym, subst, ap, arith, rules}
use Rattle.std.specs.Prelude.{◌==◌}
use Rattle.tool_io.specs.Writes.{Writes}
use Rattle.pat_tree.specs.Pattern.{pattern_of}
use Rattle.test_run.specs.declared.matches.Search.{Search}
use Rattle.pcre2_api.specs.Walks.{goes_on, place_behind}
use Rattle.pcre2_api.proofs.Starting.{begun-at}
use Rattle.test_run.specs.Matches.{answered, last_met, search_text, all_text}
use Rattle.test_run.specs.Searches.{IsSearch, TellsMissed}
use Rattle.test_run.proofs.Listing.{on-first, on-found, on-next, on-end, on-failed, on-refused, on-last, on-as}
use Rattle.test_run.proofs.Listing.{is-match, is-none, is-failed, goes-once, goes-past, goes-inside, begun-none}
use Rattle.test_lines.proofs.Writing.{writes-as, writes-equal, refused-as}
use Rattle.test_run.proofs.matches.write_all_matches.Goals as goal
use Rattle.test_run.proofs.matches.write_all_matches.Goals.{then-again+else-at-subject, else-again, in-Found}
use Rattle.test_run.proofs.matches.write_all_matches.Goals.{in-Nothing}

pub loop-turn-init : goal.loop-turn-init
loop-turn-init g c = on-first c.args.tested.now.pattern (pattern_of c.args.tested.now.code.tree) c.args.how.now
    c.args.subject.now c.args.how.now.start _

pub returns : goal.returns
returns g c =
    let t = c.args.tested.now in
    let how = c.args.how.now in
    on-last t.pattern (pattern_of t.code.tree) how c.args.subject.now how.start c.loop-turn._turn c.loop-turn.at
    c.loop-turn.again c.loop-turn.is_shown _ _ _ c.loop-turn.invariant c.write_end-2.result (omega arith)
    c.write_end-2.ensures

pub returns-in_err-to : goal.returns-in_err-to
returns-in_err-to g c =
    let t = c.args.tested.now in
    let p = pattern_of t.code.tree in
    let how = c.args.how.now in
    let subject = c.args.subject.now in
    let at = c.loop-turn.at in
    let e = c.in_err-to.field-0.0 in
    let same : c.from_residual.result ≡ Err e = search rules in
    let asks = ap (λ m. search_text t.pattern p how subject m at) c.matching_at-options.ensures in
    subst (λ r. Writes (all_text t.pattern p how subject (2 * length subject + 2) false false how.start)
    (g.O.Sink.tells c.args.out.now) (g.O.Sink.tells c.search_from.new.out) r) (sym same)
    (on-refused t.pattern p how subject how.start c.loop-turn._turn at c.loop-turn.again c.loop-turn.is_shown _
    (g.O.Sink.tells c.loop-turn.out) (g.O.Sink.tells c.search_from.new.out) c.loop-turn.invariant (omega arith)
    e
    (refused-as {A = Search} e (writes-equal asks c.in_err-to.ensures.wrote)))

pub returns-in-Nothing-2 : goal.returns-in-Nothing-2
returns-in-Nothing-2 g c =
    let t = c.args.tested.now in
    let p = pattern_of t.code.tree in
    let how = c.args.how.now in
    let subject = c.args.subject.now in
    let at = c.loop-turn.at in
    let again = c.loop-turn.again in
    let mid = g.O.Sink.tells c.search_from.new.out in
    let here = answered p how.replies c.matching_at-options.result subject at in
    let asks = ap (λ m. answered p how.replies m subject at) c.matching_at-options.ensures in
    let texts = ap (λ m. search_text t.pattern p how subject m at) c.matching_at-options.ensures in
    let nothing = is-none (length subject) _ here c.in-Nothing.is c.in_ok-to.ensures.comes in
    let goes : goes_on p how.matching subject again at ≡ false = elim c.if-again.branch [
      | then-again+else-at-subject w ↦ goes-past p how.matching subject again at w.if-again.true w.if-at-subject.false
      | else-again w ↦ goes-once p how.matching subject again at w.if-again.false
    ] in
    let named = subst (TellsMissed (last_met p how.replies c.matching_at-options.result subject at)) c.in-Nothing.is
    c.in_ok-to.ensures.missed ∙ ap (λ m. last_met p how.replies m subject at) c.matching_at-options.ensures in
    on-end t.pattern p how subject how.start c.loop-turn._turn at again c.loop-turn.is_shown
    (g.O.Sink.tells c.args.out.now) (g.O.Sink.tells c.loop-turn.out) mid c.loop-turn.invariant (omega arith)
    (g.O.Sink.tells c.write_end.new.out) c.in-Nothing.mark tt c.write_end.result (sym asks ∙ nothing) goes named
    (writes-as {A = Search} _ tt (writes-equal texts c.in_ok-to.ensures.wrote)) c.write_end.ensures

pub place_behind-at-requires-clause-place : goal.place_behind-at-requires-clause-place
place_behind-at-requires-clause-place g c =
    let t = c.args.tested.now in
    let p = pattern_of t.code.tree in
    let how = c.args.how.now in
    let subject = c.args.subject.now in
    let here = answered p how.replies c.matching_at-options.result subject c.loop-turn.at in
    let nothing = is-none (length subject) _ here c.in-Nothing.is c.in_ok-to.ensures.comes in
    begun-at t.code.tree.options subject c.loop-turn.at
    (begun-none t.pattern p how c.matching_at-options.result subject c.loop-turn.at nothing)

pub returns-in-Failed : goal.returns-in-Failed
returns-in-Failed g c =
    let t = c.args.tested.now in
    let p = pattern_of t.code.tree in
    let how = c.args.how.now in
    let subject = c.args.subject.now in
    let at = c.loop-turn.at in
    let here = answered p how.replies c.matching_at-options.result subject at in
    let asks = ap (λ m. answered p how.replies m subject at) c.matching_at-options.ensures in
    let texts = ap (λ m. search_text t.pattern p how subject m at) c.matching_at-options.ensures in
    let failure = is-failed (length subject) here
    (subst (λ s. IsSearch (length subject) s here) c.in-Failed.is c.in_ok-to.ensures.comes) in
    on-failed t.pattern p how subject how.start c.loop-turn._turn at c.loop-turn.again c.loop-turn.is_shown
    (g.O.Sink.tells c.args.out.now) (g.O.Sink.tells c.loop-turn.out) (g.O.Sink.tells c.search_from.new.out)
    c.loop-turn.invariant (omega arith)
    failure.error tt (sym asks ∙ failure.is) (writes-as {A = Search} _ tt (writes-equal texts c.in_ok-to.ensures.wrote))

pub loop-turn-preserved : goal.loop-turn-preserved
loop-turn-preserved g c =
    let t = c.args.tested.now in
    let p = pattern_of t.code.tree in
    let how = c.args.how.now in
    let subject = c.args.subject.now in
    let i = c.loop-turn._turn in
    let at = c.loop-turn.at in
    let again = c.loop-turn.again in
    let is_shown = c.loop-turn.is_shown in
    let old = g.O.Sink.tells c.args.out.now in
    let mid = g.O.Sink.tells c.loop-turn.out in
    let new = g.O.Sink.tells c.search_from.new.out in
    let here = answered p how.replies c.matching_at-options.result subject at in
    let asks = ap (λ m. answered p how.replies m subject at) c.matching_at-options.ensures in
    let texts = ap (λ m. search_text t.pattern p how subject m at) c.matching_at-options.ensures in
    let wrote = writes-as {A = Search} _ tt (writes-equal texts c.in_ok-to.ensures.wrote) in
    let more : i < 2 * length subject + 2 = omega arith in
    elim c.match-branch-2.branch [
      | in-Found w ↦
          let m = is-match (length subject) w.in-Found.to w.in-Found.is_empty here
          (subst (λ s. IsSearch (length subject) s here) w.in-Found.is c.in_ok-to.ensures.comes) in
          let o = m.outcome in
          on-as t.pattern p how subject how.start (i + 1) c.match-branch-2.at o.to c.match-branch-2.again
          (o.keep == o.to) c.match-branch-2.is_shown true old new (w.at-is ∙ m.to_is) (w.again-is ∙ m.empty_is)
          w.is_shown-is
          (on-found t.pattern p how subject how.start i at again is_shown old mid new c.loop-turn.invariant more o tt
          (sym asks ∙ m.is) wrote)
      | in-Nothing w ↦
          let nothing = is-none (length subject) _ here w.in-Nothing.is c.in_ok-to.ensures.comes in
          let goes = goes-inside p how.matching subject again at w.if-again.true w.if-at-subject.true in
          on-as t.pattern p how subject how.start (i + 1) c.match-branch-2.at (place_behind p subject at)
          c.match-branch-2.again false c.match-branch-2.is_shown is_shown old new
          (w.at-is ∙ w.place_behind-at.ensures) w.again-is w.is_shown-is
          (on-next t.pattern p how subject how.start i at again is_shown old mid new c.loop-turn.invariant more tt
          (sym asks ∙ nothing) goes wrote)
    ]
