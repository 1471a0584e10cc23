use Rattle.std.proofs.Common.{◌∙◌, sym}
use Rattle.grep_match.specs.Compiled.{patterns_in}
use Rattle.grep_multi.proofs.Stepping.{gives-unsearched}
use Rattle.grep_multi.proofs.blocks.Search.next.Goals as goal

pub returns-in-Some-clause-gives : goal.returns-in-Some-clause-gives
returns-in-Some-clause-gives c =
    let s = c.args.self.now in
    let cuts = c.cut_line-line.ensures in
    gives-unsearched s.plan.now (patterns_in s.patterns.now) s.text.now s.kind c.args.from c.cut_line-line.result cuts
    c.clear.new.self c.in-Some.bad c.verdict_at.result (sym c.requires.search.bad ∙ c.in-Some.is) c.clear.ensures
    c.requires.few (c.verdict_at.ensures cuts.line cuts.offset cuts.ends)
