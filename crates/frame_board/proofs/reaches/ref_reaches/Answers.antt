use Rattle.std.proofs.Common.{sym}
use Rattle.match_items.specs.Views.{bare_text}
use Rattle.frame_board.proofs.GroundLemmas.{empty_reaches}
use Rattle.frame_board.proofs.reaches.ref_reaches.Goals as goal

pub returns-then-to-from : goal.returns-then-to-from
returns-then-to-from c =
    sym (empty_reaches (bare_text c.args.view.now) c.args.from c.args.to c.args.at c.args.caseless c.if-to-from.true)
