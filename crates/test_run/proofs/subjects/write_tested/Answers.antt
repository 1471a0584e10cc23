use Rattle.std.proofs.Common.{◌∙◌, sym, ap}
use Rattle.std.specs.Option.{option_copied}
use Rattle.pat_tree.specs.Pattern.{pattern_of}
use Rattle.test_run.proofs.Tested.{searched-is}
use Rattle.test_lines.proofs.Writing.{writes-equal}
use Rattle.test_run.proofs.subjects.write_tested.Goals as goal

pub returns-in-None : goal.returns-in-None
returns-in-None g c =
    let t = c.args.tested.now in
    writes-equal
    (searched-is t.pattern (pattern_of t.code.tree) t.code.tree.names t.modifiers c.args.entry.now
    c.bytes-subject.result.now c.how_of-how.result c.bytes-subject.ensures c.how_of-how.ensures
    (sym c.is_dfa.ensures ∙ c.if-is_dfa.false) (sym c.replacement_of-replacement.ensures
    ∙ ap option_copied c.in-None.is))
    c.write_matches.ensures
