use Rattle.std.proofs.Common.{◌∙◌, sym, ap}
use Rattle.pat_tree.specs.Pattern.{pattern_of}
use Rattle.pcre2_api.specs.Informs.{info_in}
use Rattle.tool_io.specs.Texts.{text_if}
use Rattle.tool_io.proofs.Writing.{writes-same}
use Rattle.test_lines.specs.Lines.{info_text}
use Rattle.test_run.proofs.patterns.write_told.Goals as goal

pub returns : goal.returns
returns g c =
    let told = info_text (info_in (pattern_of c.args.code.now.tree)) in
    writes-same (ap info_text (c.info.ensures ∙ c.info_is_of_its_pattern.ensures)
    ∙ sym (ap (λ t. text_if t told) c.if-not-is_asked.false)) c.write_info.ensures
