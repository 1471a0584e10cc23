use Rattle.std.proofs.Common.{◌∙◌, sym}
use Rattle.grep_main.proofs.FilePatterns.{adds-standard, adds-named, standard-asked}
use Rattle.grep_main.proofs.pattern_files.add_file.Goals as goal

pub returns-then-eq-clause-adds : goal.returns-then-eq-clause-adds
returns-then-eq-clause-adds g c =
    let adds = c.add_standard.ensures in
    adds-standard c.args.plan.now c.args.word.now (g.F.FileSet.tells c.args.files.now).contents
    (g.F.FileSet.tells c.args.files.now).faults (g.F.FileSet.tells c.args.files.now).faults c.args.texts.now
    c.add_standard.new.texts (g.E.Sink.tells c.args.err.now) (g.E.Sink.tells c.add_standard.new.err)
    c.add_standard.result
    c.args.is_used.now c.add_standard.new.is_used (g.S.Source.tells c.args.input.now)
    (g.S.Source.tells c.add_standard.new.input) adds.0 (sym c.eq.ensures ∙ c.if-eq.true) adds.1 adds.2

pub returns-else-eq-clause-adds : goal.returns-else-eq-clause-adds
returns-else-eq-clause-adds g c =
    let adds = c.add_named.ensures.adds in
    adds-named c.args.plan.now c.args.word.now (g.F.FileSet.tells c.args.files.now).contents
    (g.F.FileSet.tells c.args.files.now).faults (g.F.FileSet.tells c.add_named.new.files).faults c.args.texts.now
    c.add_named.new.texts (g.E.Sink.tells c.args.err.now) (g.E.Sink.tells c.add_named.new.err) c.add_named.result
    c.args.is_used.now (g.S.Source.tells c.args.input.now) adds.0 (sym c.eq.ensures ∙ c.if-eq.false) adds.1 adds.2
    adds.3

pub returns-then-eq-clause-unused : goal.returns-then-eq-clause-unused
returns-then-eq-clause-unused g c =
    standard-asked c.args.word.now (g.S.Source.tells c.args.input.now) (g.S.Source.tells c.add_standard.new.input)
    (sym c.eq.ensures ∙ c.if-eq.true)
