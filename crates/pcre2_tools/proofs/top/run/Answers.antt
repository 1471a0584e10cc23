use Rattle.std.proofs.Common.{sym, ap, ◌∙◌, map, string_bytes, codes}
use Rattle.pcre2_tools.specs.ToolText.{is_grep, is_test}
use Rattle.pcre2_tools.proofs.Naming.{says-none, says-other, runs-said, runs-grep, runs-test}
use Rattle.tool_io.specs.Printed.{printed}
use Rattle.grep_main.specs.Stages.{streams}
use Rattle.pcre2_tools.proofs.top.run.Goals as goal

pub returns-in_default-clause-text : goal.returns-in_default-clause-text
returns-in_default-clause-text g c =
    runs-said g.F.Src.Source.tells (g.S.Source.tells c.args.input.now) (g.F.FileSet.tells c.args.files.now)
    (map string_bytes c.args.words.now) (codes "unknown tool") 2 c.say.result
    (printed (g.O.Sink.tells c.args.out.now) (g.E.Sink.tells c.args.err.now))
    (printed (g.O.Sink.tells c.args.out.now) (g.E.Sink.tells c.say.new.err))
    (says-none g.F.Src.Source.tells string_bytes c.args.words.now c.in_default.len_below)
    (c.say.ensures (g.O.Sink.tells c.args.out.now))

pub returns-then-is_grep-clause-text : goal.returns-then-is_grep-clause-text
returns-then-is_grep-clause-text g c =
    let files = g.F.FileSet.tells c.args.files.now in
    runs-grep g.F.Src.Source.tells string_bytes c.args.words.now c.tool-item.result c.in-len1-up.len_at_least
    c.tool-item.is (streams files (g.S.Source.tells c.args.input.now)
    (printed (g.O.Sink.tells c.args.out.now) (g.E.Sink.tells c.args.err.now)))
    (streams (g.F.FileSet.tells c.run_grep.new.files) (g.S.Source.tells c.run_grep.new.input)
    (printed (g.O.Sink.tells c.run_grep.new.out) (g.E.Sink.tells c.run_grep.new.err))) c.run_grep.result
    (sym (c.is_grep.ensures ∙ ap is_grep c.as_str.ensures.value) ∙ c.if-is_grep.true) c.run_grep.ensures.text

pub returns-then-is_test-clause-text : goal.returns-then-is_test-clause-text
returns-then-is_test-clause-text g c =
    let files = g.F.FileSet.tells c.args.files.now in
    runs-test g.F.Src.Source.tells string_bytes c.args.words.now c.tool-item.result c.in-len1-up.len_at_least
    c.tool-item.is (streams files (g.S.Source.tells c.args.input.now)
    (printed (g.O.Sink.tells c.args.out.now) (g.E.Sink.tells c.args.err.now)))
    (streams (g.F.FileSet.tells c.run_test.new.files) (g.S.Source.tells c.run_test.new.input)
    (printed (g.O.Sink.tells c.run_test.new.out) (g.E.Sink.tells c.run_test.new.err))) c.run_test.result
    (sym (c.is_grep.ensures ∙ ap is_grep c.as_str.ensures.value) ∙ c.if-is_grep.false)
    (sym (c.is_test.ensures ∙ ap is_test c.as_str-2.ensures.value) ∙ c.if-is_test.true) c.run_test.ensures.text
    c.run_test.ensures.unused

pub returns-clause-text : goal.returns-clause-text
returns-clause-text g c =
    runs-said g.F.Src.Source.tells (g.S.Source.tells c.args.input.now) (g.F.FileSet.tells c.args.files.now)
    (map string_bytes c.args.words.now) (codes "unknown tool") 2 c.say-2.result
    (printed (g.O.Sink.tells c.args.out.now) (g.E.Sink.tells c.args.err.now))
    (printed (g.O.Sink.tells c.args.out.now) (g.E.Sink.tells c.say-2.new.err))
    (says-other g.F.Src.Source.tells string_bytes c.args.words.now c.tool-item.result c.in-len1-up.len_at_least
    c.tool-item.is (sym (c.is_grep.ensures ∙ ap is_grep c.as_str.ensures.value) ∙ c.if-is_grep.false)
    (sym (c.is_test.ensures ∙ ap is_test c.as_str-2.ensures.value) ∙ c.if-is_test.false))
    (c.say-2.ensures (g.O.Sink.tells c.args.out.now))
