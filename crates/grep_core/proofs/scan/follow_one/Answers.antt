use Rattle.std.proofs.Common.{◌≡◌, false, Ok, Err, inl, refl, sym, subst, rules}
use Rattle.line_feed.specs.Lines.{Answers, row_of}
use Rattle.line_feed.specs.Answers.{Gives}
use Rattle.grep_output.specs.Ends.{stop_of}
use Rattle.grep_core.specs.Work.{work_of, fed}
use Rattle.grep_core.specs.Follows.{FollowsOne}
use Rattle.grep_core.proofs.Halting.{halts-of}
use Rattle.tool_io.proofs.Printing.{wrote-of}
use Rattle.grep_core.proofs.scan.follow_one.Goals as goal

pub returns-in_err-write_line-in-Ok-Some : goal.returns-in_err-write_line-in-Ok-Some
returns-in_err-write_line-in-Ok-Some g c =
    let job = c.args.job.now in
    let f = c.args.feed.now in
    let new = c.next.follows.lender-at-none in
    let now = g.S.Source.tells c.args.source.now in
    let after = g.S.Source.tells c.next.new.source in
    let row = row_of c.in-Ok-Some.line in
    let e = c.in_err-write_line-in-Ok-Some.field-0.0 in
    let is : c.from_residual.result ≡ Err (stop_of e) = search rules in
    let gives : Gives f new now after row =
    subst (λ o. Answers f new now after (Ok o)) c.in-Ok-Some.field-0-is
    (subst (Answers f new now after) c.in-Ok-Some.is c.next.follows.holds-at-none) in
    subst (FollowsOne (work_of job) (fed f now) (fed new after) (g.O.Sink.tells c.args.out.now)
    (g.O.Sink.tells c.write_line.new.out)) (sym is)
    (inl (record {
      row = row;
      gives = gives;
      wrote = halts-of _ _ _ e (c.in_err-write_line-in-Ok-Some.ensures
          (record { row = row; is_selected = false; begins_group = false }) refl refl);
    }))

pub returns-in_ok-write_line-in-Ok-Some : goal.returns-in_ok-write_line-in-Ok-Some
returns-in_ok-write_line-in-Ok-Some g c =
    let f = c.args.feed.now in
    let new = c.next.follows.lender-at-none in
    let now = g.S.Source.tells c.args.source.now in
    let after = g.S.Source.tells c.next.new.source in
    let row = row_of c.in-Ok-Some.line in
    record {
      row = row;
      gives = subst (λ o. Answers f new now after (Ok o)) c.in-Ok-Some.field-0-is
          (subst (Answers f new now after) c.in-Ok-Some.is c.next.follows.holds-at-none);
      wrote = wrote-of _ _ _ _ (c.in_ok-write_line-in-Ok-Some.ensures
          (record { row = row; is_selected = false; begins_group = false }) refl refl);
    }
