use Rattle.std.proofs.Common.{rules, SFits, w32}
use Rattle.std.proofs.lemmas.Int.{to_z-of_z}
use Rattle.match_drive.proofs.Left.{tells_match, tells_partial, tells_match_limit, tells_frame_limit, tells_loop}
use Rattle.match_drive.proofs.Left.{tells_callout}
use Rattle.match_drive.proofs.drive.decided.Goals as goal

pub returns-in-Matched-clause-tells : goal.returns-in-Matched-clause-tells
returns-in-Matched-clause-tells c =
    rw c.in-Matched.is (tells_match c.in-Matched.keep c.in-Matched.to c.in-Matched.mark c.args.at c.args.first
    c.args.last_mark)

pub returns-in-Partial-clause-tells : goal.returns-in-Partial-clause-tells
returns-in-Partial-clause-tells c = rw (c.unwrap_or.ensures, c.in-Partial.is)
    (tells_partial c.args.at c.args.first c.args.last_mark)

pub returns-in-MatchLimit-clause-tells : goal.returns-in-MatchLimit-clause-tells
returns-in-MatchLimit-clause-tells c = rw c.in-MatchLimit.is (tells_match_limit c.args.at c.args.first c.args.last_mark)

pub returns-in-FrameLimit-clause-tells : goal.returns-in-FrameLimit-clause-tells
returns-in-FrameLimit-clause-tells c = rw c.in-FrameLimit.is (tells_frame_limit c.args.at c.args.first c.args.last_mark)

pub returns-in-Loop-clause-tells : goal.returns-in-Loop-clause-tells
returns-in-Loop-clause-tells c = rw c.in-Loop.is (tells_loop c.args.at c.args.first c.args.last_mark)

pub returns-in-Abort-clause-tells : goal.returns-in-Abort-clause-tells
returns-in-Abort-clause-tells c =
    rw c.in-Abort.is (tells_callout c.in-Abort.n _ (let f : SFits w32 c.in-Abort.n = search rules in
    to_z-of_z w32 c.in-Abort.n f) c.args.at c.args.first c.args.last_mark)
