use Rattle.std.proofs.Common.{◌++◌, Ok, ap, sym, subst, ◌∙◌}
use Rattle.line_feed.specs.Answers.{Gives}
use Rattle.line_feed.specs.Lines.{Answers, row_of}
use Rattle.grep_match.specs.Compiled.{patterns_in}
use Rattle.grep_core.proofs.Shortness.{gives-short}
use Rattle.grep_watch.specs.Watched.{HasAsciiNewlines}
use Rattle.grep_watch.proofs.Cutting.{lf-row}
use Rattle.grep_watch.proofs.Watching.{watches_gives, watches_line}
use Rattle.grep_core.proofs.scan.take_turn.Goals as goal

pub known_of-known-requires : goal.known_of-known-requires
known_of-known-requires g c = λ on.
    let f = c.args.scanner.now.feed in
    let new = c.next.follows.lender-at-none in
    let line = c.in-Ok-Some.line in
    let now = g.S.Source.tells c.args.source.now in
    let later = g.S.Source.tells c.next.new.source in
    let gives : Gives f new now later (row_of line) = subst (Answers f new now later)
    (c.in-Ok-Some.is ∙ ap Ok c.in-Ok-Some.field-0-is) c.next.follows.holds-at-none in
    let by_lf = c.ends_in_lf-by_lf.ensures on in
    (lf-row f new now later (row_of line) gives (subst HasAsciiNewlines (sym by_lf) tt) by_lf).plain

pub take_line-requires-clause-known : goal.take_line-requires-clause-known
take_line-requires-clause-known g c =
    c.known_of-known.ensures.known c.args.job.now.plan.now (patterns_in c.args.job.now.patterns.now)
    c.requires.filter (λ quiet.
    let plan = c.args.job.now.plan.now in
    let patterns = patterns_in c.args.job.now.patterns.now in
    let f = c.args.scanner.now.feed in
    let new = c.next.follows.lender-at-none in
    let line = c.in-Ok-Some.line in
    let now = g.S.Source.tells c.args.source.now in
    let later = g.S.Source.tells c.next.new.source in
    let gives : Gives f new now later (row_of line) = subst (Answers f new now later)
    (c.in-Ok-Some.is ∙ ap Ok c.in-Ok-Some.field-0-is) c.next.follows.holds-at-none in
    let had = watches_gives plan patterns c.look.new.self f new now later (row_of line) gives
    (c.look.ensures plan patterns c.requires.watch) in
    c.passes-is_quiet.ensures quiet plan patterns (line.end.now ++ new.held)
    (watches_line plan patterns c.look.new.self line.bytes.now line.end.now new.held had))

pub returns-in_ok-take_line-in-Ok-Some-clause-watch : goal.returns-in_ok-take_line-in-Ok-Some-clause-watch
returns-in_ok-take_line-in-Ok-Some-clause-watch g c = λ next is.
    let plan = c.args.job.now.plan.now in
    let patterns = patterns_in c.args.job.now.patterns.now in
    let f = c.args.scanner.now.feed in
    let new = c.next.follows.lender-at-none in
    let line = c.in-Ok-Some.line in
    let now = g.S.Source.tells c.args.source.now in
    let later = g.S.Source.tells c.next.new.source in
    let gives : Gives f new now later (row_of line) = subst (Answers f new now later)
    (c.in-Ok-Some.is ∙ ap Ok c.in-Ok-Some.field-0-is) c.next.follows.holds-at-none in
    c.leave.ensures plan patterns new.held (watches_gives plan patterns c.look.new.self f new now later (row_of line)
    gives (c.look.ensures plan patterns c.requires.watch))

pub take_line-requires-clause-short : goal.take_line-requires-clause-short
take_line-requires-clause-short g c =
    let f = c.args.scanner.now.feed in
    let new = c.next.follows.lender-at-none in
    let now = g.S.Source.tells c.args.source.now in
    let later = g.S.Source.tells c.next.new.source in
    let row = row_of c.in-Ok-Some.line in
    let gives : Gives f new now later row = subst (Answers f new now later)
    (c.in-Ok-Some.is ∙ ap Ok c.in-Ok-Some.field-0-is) c.next.follows.holds-at-none in
    gives-short c.args.course.now.earlier.longest f new now later row c.requires.longest gives
