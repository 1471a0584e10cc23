use Rattle.std.proofs.Common.{flat_map}
use Rattle.grep_match.specs.PatternTexts.{escaped, wrapped, options_of}
use Rattle.grep_match.specs.Spelt.{spelling}
use Rattle.grep_match.specs.Compiled.{meant}
use Rattle.grep_match.proofs.PatternTrees.{adds-one}
use Rattle.grep_match.proofs.Spelling.{spelt-in-plan}
use Rattle.grep_match.proofs.patterns.add_string.Goals as goal

pub returns-then-is_spelt-clause-adds : goal.returns-then-is_spelt-clause-adds
returns-then-is_spelt-clause-adds c =
    let options = options_of c.args.plan.now in
    adds-one {A = Unit {0}} tt options (wrapped c.args.plan.now (flat_map escaped c.args.line.now))
    (meant options c.args.patterns.now.items) (meant options c.push_text.new.patterns.items)
    (spelling options c.args.line.now)
    (spelt-in-plan c.args.plan.now c.args.line.now (c.is_spelt.ensures c.if-is_spelt.true))
    (c.in_ok-push_text.ensures.adds options)
