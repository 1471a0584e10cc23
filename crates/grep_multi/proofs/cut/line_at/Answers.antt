use Rattle.std.proofs.Common.{◌≡◌, ◌∙◌, ◌+◌, take, drop, length, slice_range, ap, refl, arith, length-drop}
use Rattle.byte_lanes.proofs.lemmas.NewlineLemmas.{rest_whole}
use Rattle.byte_lanes.specs.Newlines.{newline_len}
use Rattle.line_feed.specs.Rows.{first_newline}
use Rattle.grep_multi.proofs.Cutting.{cut-within, line-is}
use Rattle.grep_multi.proofs.cut.line_at.Goals as goal

pub returns : goal.returns
returns c =
    let text = c.args.text.now in
    let at = c.args.from.at in
    let end = c.find_line_end-end.result in
    let whole = rest_whole text at in
    let value : end.at ≡ first_newline c.args.kind (drop at text) =
    c.find_line_end-end.ensures.value ∙ ap (first_newline c.args.kind) whole in
    let len : end.len ≡ newline_len c.args.kind (drop at text) end.at =
    c.find_line_end-end.ensures.len ∙ ap (λ l. newline_len c.args.kind l end.at) whole in
    line-is c.args.kind text c.args.from _ end.at c.requires.some value (ap (take end.at) whole)
    (ap (λ l. slice_range l end.at (end.at + end.len)) whole
    ∙ ap (λ n. slice_range (drop at text) end.at (end.at + n)) len)
    refl refl

pub slice_bounds-result-end-2 : goal.slice_bounds-result-end-2
slice_bounds-result-end-2 c =
    let text = c.args.text.now in
    let at = c.args.from.at in
    let end = c.find_line_end-end.result in
    let whole = rest_whole text at in
    let value : end.at ≡ first_newline c.args.kind (drop at text) =
    c.find_line_end-end.ensures.value ∙ ap (first_newline c.args.kind) whole in
    let len : end.len ≡ newline_len c.args.kind (drop at text) end.at =
    c.find_line_end-end.ensures.len ∙ ap (λ l. newline_len c.args.kind l end.at) whole in
    let some = c.requires.some in
    let fits = cut-within c.args.kind text at end.at (omega arith) value in
    let long = length-drop at text in
    let size = ap length whole in
    omega (arith, fits, long, size, len)
