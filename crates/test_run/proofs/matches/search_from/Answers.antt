use Rattle.pcre2_api.specs.Matched.{search_of}
use Rattle.test_lines.specs.Callouts.{reply_of}
use Rattle.test_run.proofs.Searching.{shows-from, shows-by-from, text-found, told-of-found, missed-of-found}
use Rattle.test_run.proofs.Searching.{text-error, told-error, missed-error, lies-in}
use Rattle.test_lines.proofs.Writing.{writes-equal}
use Rattle.test_run.proofs.matches.search_from.Goals as goal

pub returns-in-Ok-clause-wrote : goal.returns-in-Ok-clause-wrote
returns-in-Ok-clause-wrote g c =
    let t = c.args.tested.now in
    writes-equal
    (text-found t.code t.pattern c.args.how.now c.args.options.now c.args.subject.now c.args.start c.in-Ok.found
    c.match_again.new.calls.replies c.match_again.new.calls.blocks.items c.in-Ok.ensures.found
    c.in-Ok.ensures.code.0 c.in-Ok.ensures.code.1
    (shows-from t.code t.pattern c.args.how.now c.args.options.now c.args.subject.now c.args.start c.new.result.items
    c.match_again.new.calls.replies c.match_again.new.calls.blocks.items c.new.ensures.items
    c.in-Ok.ensures.seen))
    c.tell_found.ensures.wrote

pub returns-in-Ok-clause-comes : goal.returns-in-Ok-clause-comes
returns-in-Ok-clause-comes g c =
    let t = c.args.tested.now in
    told-of-found t.code t.pattern c.args.how.now c.args.options.now c.args.subject.now c.args.start c.in-Ok.found
    c.tell_found.result c.in-Ok.ensures.found c.tell_found.ensures.comes

pub returns-in-Ok-clause-missed : goal.returns-in-Ok-clause-missed
returns-in-Ok-clause-missed g c =
    let t = c.args.tested.now in
    missed-of-found t.code t.pattern c.args.how.now c.args.options.now c.args.subject.now c.args.start c.in-Ok.found
    c.tell_found.result c.tell_found.ensures.comes

pub returns-clause-wrote : goal.returns-clause-wrote
returns-clause-wrote g c =
    let t = c.args.tested.now in
    text-error t.code t.pattern c.args.how.now c.args.options.now c.args.subject.now c.args.start c.in-Err.e
    c.match_again.new.calls.replies c.match_again.new.calls.blocks.items c.tell_refused.result
    (g.O.Sink.tells c.args.out.now) (g.O.Sink.tells c.tell_refused.new.out)
    c.in-Err.ensures.refused
    (shows-by-from t.code t.pattern c.args.how.now c.args.options.now c.args.subject.now c.args.start c.in-Err.e
    c.new.result.items c.match_again.new.calls.replies c.match_again.new.calls.blocks.items c.new.ensures.items
    c.in-Err.ensures.shown) c.tell_refused.ensures.comes c.tell_refused.ensures.wrote

pub returns-clause-comes : goal.returns-clause-comes
returns-clause-comes g c =
    let t = c.args.tested.now in
    told-error t.code t.pattern c.args.how.now c.args.options.now c.args.subject.now c.args.start c.in-Err.e
    c.tell_refused.result c.in-Err.ensures.refused c.tell_refused.ensures.comes

pub returns-clause-missed : goal.returns-clause-missed
returns-clause-missed g c =
    let t = c.args.tested.now in
    missed-error t.code t.pattern c.args.how.now c.args.options.now c.args.subject.now c.args.start c.in-Err.e
    c.tell_refused.result c.in-Err.ensures.refused c.tell_refused.ensures.comes

pub tell_refused-requires-clause-lies : goal.tell_refused-requires-clause-lies
tell_refused-requires-clause-lies g c =
    lies-in (search_of c.args.tested.now.code c.args.options.now c.args.subject.now c.args.start
    (reply_of c.args.how.now.replies)) c.in-Err.e c.in-Err.ensures.refused
