use Rattle.std.proofs.Common.{◌≡◌, ◌∙◌, false, sym}
use Rattle.ordered_search.specs.Places.{is_excluded}
use Rattle.match_drive.specs.frame_board.Ready.{setting_for}
use Rattle.match_drive.specs.match_starts.Asked.{passed_over}
use Rattle.dfa_drive.proofs.Deciding.{decides, tells_placed, tells_whole}
use Rattle.dfa_drive.proofs.drive.decision_at.Goals as goal

pub returns-clause-decides : goal.returns-clause-decides
returns-clause-decides g c =
    let view = c.args.view.now in
    let s = setting_for c.args.ready.now.tree.now view passed_over in
    let inside : is_excluded s c.args.place ≡ false =
    sym c.is_left_out.ensures ∙ c.if-is_left_out.false in
    decides s view.matching.now.dfa_shortest c.args.place _ _ c.in_ok-set.ensures.ends
    c.in_ok-set.ensures.hit c.decided.result inside c.decided.ensures

pub returns-clause-placed : goal.returns-clause-placed
returns-clause-placed g c =
    let view = c.args.view.now in
    tells_placed view.matching.now.«partial» c.args.place _ _ view.options.now view.subject.now
    view.start c.decided.result c.decided.ensures c.in_ok-set.ensures.within c.requires.from
    c.requires.place

pub returns-clause-whole : goal.returns-clause-whole
returns-clause-whole g c =
    tells_whole c.args.view.now.matching.now.«partial» c.args.place _ _ c.decided.result
    c.decided.ensures
