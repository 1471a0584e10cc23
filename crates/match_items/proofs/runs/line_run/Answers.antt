use Rattle.std.proofs.Common.{◌<◌, length, take, subst}
use Rattle.byte_lanes.specs.Newlines.{newline_len}
use Rattle.byte_lanes.specs.Places.{IsLeast}
use Rattle.byte_lanes.specs.declared.line_end.EndKind.{EndKind}
use Rattle.match_items.proofs.Newlines.{line_least}
use Rattle.match_items.proofs.runs.line_run.Goals as goal

pub returns : goal.returns
returns c =
    let bytes = c.args.view.now.subject.now in
    let near = c.min-near.result in
    let P : EndKind → Type 0 = λ kind. IsLeast (λ k. 0 < newline_len kind (take near bytes) k) c.args.from
    (length (take near bytes)) c.find_line_end-end.result.at in
    line_least c.args.view.now.options.now.newline bytes near c.args.from c.args.limit _ _ c.requires.ordered
    c.requires.within c.min-near.ensures
    (subst P c.end_kind.ensures c.find_line_end-end.ensures.least) c.min.ensures
