use Rattle.std.proofs.Common.{◌≡◌, ◌∙◌, ◌+◌, drop, nat_lt, ap, refl}
use Rattle.byte_lanes.proofs.lemmas.NewlineLemmas.{rest_whole}
use Rattle.byte_lanes.specs.Newlines.{newline_len}
use Rattle.line_feed.specs.Rows.{first_newline}
use Rattle.grep_multi.proofs.Cutting.{cut-line}
use Rattle.grep_multi.proofs.cut.cut_line.Goals as goal

pub returns : goal.returns
returns c =
    let text = c.args.text.now in
    let at = c.args.from.at in
    let end = c.find_line_end-end.result in
    let value : end.at ≡ first_newline c.args.kind (drop at text) =
    c.find_line_end-end.ensures.value ∙ ap (first_newline c.args.kind) (rest_whole text at) in
    let len : end.len ≡ newline_len c.args.kind (drop at text) end.at =
    c.find_line_end-end.ensures.len ∙ ap (λ l. newline_len c.args.kind l end.at) (rest_whole text at) in
    cut-line c.args.kind text c.args.from _ end.at c.requires.some value (ap (λ n. at + end.at + n) len) refl
    (ap (nat_lt 0) len)
