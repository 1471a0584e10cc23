use Rattle.grep_multi.proofs.Cutting.{first-at}
use Rattle.grep_blocks.proofs.Parting.{line-from-last}
use Rattle.grep_blocks.proofs.parts.line_of.Goals as goal

pub line_with-requires-else-place-last-clause-start : goal.line_with-requires-else-place-last-clause-start
line_with-requires-else-place-last-clause-start c =
    let job = c.args.job.now in
    let first = first-at job.search.kind job.search.text.now c.args.from c.requires.some in
    let on = c.requires.last first.0 first.1.0 first.1.1.0 in
    on.start

pub line_with-requires-else-place-last-clause-some : goal.line_with-requires-else-place-last-clause-some
line_with-requires-else-place-last-clause-some c =
    let job = c.args.job.now in
    let first = first-at job.search.kind job.search.text.now c.args.from c.requires.some in
    let on = c.requires.last first.0 first.1.0 first.1.1.0 in
    on.some

pub returns-else-place-last : goal.returns-else-place-last
returns-else-place-last c line lines is =
    line-from-last c.args.job.now line lines c.args.last c.line_with-else-place-last.result c.args.place
    (c.requires.last line lines is) c.if-place-last.false c.line_with-else-place-last.ensures.later
    c.line_with-else-place-last.ensures.line
