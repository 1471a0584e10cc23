use Rattle.std.proofs.Common.{◌∙◌, sym}
use Rattle.std.proofs.lemmas.Result.{IfOk-weaker}
use Rattle.grep_match.specs.Compiled.{patterns_in}
use Rattle.grep_multi.proofs.Growing.{taken-one, taken-each}
use Rattle.grep_multi.proofs.blocks.block_with.Goals as goal

pub returns-then-shows_each-clause-taken : goal.returns-then-shows_each-clause-taken
returns-then-shows_each-clause-taken c =
    let s = c.args.search.now in
    let line = c.args.line in
    IfOk-weaker c.later.result _ _
    (λ block more row o ends number is lists.
    taken-each s.kind s.plan.now (patterns_in s.patterns.now) s.text.now row line line c.args.to o
    c.args.work.now.found ends number is lists c.later.new.work.found block
    (sym c.shows_each.ensures ∙ c.if-shows_each.true) (more row o ends number is lists))
    c.later.ensures.taken

pub returns-clause-taken : goal.returns-clause-taken
returns-clause-taken c = λ row o ends number is lists.
    let s = c.args.search.now in
    taken-one s.kind s.plan.now (patterns_in s.patterns.now) s.text.now row c.args.line c.extend-reach.result c.args.to
    o c.args.work.now.found ends number is lists (sym c.shows_each.ensures ∙ c.if-shows_each.false)
    c.extend-reach.ensures
