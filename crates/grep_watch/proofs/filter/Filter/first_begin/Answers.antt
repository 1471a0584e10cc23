use Rattle.regex_hir.specs.Meaning.{meaning}
use Rattle.grep_watch.proofs.Filtering.{begins-at, begins-nowhere}
use Rattle.grep_watch.proofs.filter.Filter.first_begin.Goals as goal

pub returns-in-Some-clause-first : goal.returns-in-Some-clause-first
returns-in-Some-clause-first c =
    begins-at (meaning c.args.self.now.searcher.program.now.hir) c.args.held.now
    (c.in-Some.start, c.in-Some.field-0-1) c.in-Some.ensures.found

pub returns-in-None-clause-first : goal.returns-in-None-clause-first
returns-in-None-clause-first c = begins-nowhere (meaning c.args.self.now.searcher.program.now.hir) c.args.held.now
    c.in-None.ensures.found
