use Rattle.std.proofs.Common.{◌∙◌, length}
use Rattle.match_items.specs.Views.{bare_text}
use Rattle.match_drive.specs.frame_board.Ready.{setting_for}
use Rattle.match_drive.specs.match_starts.Asked.{passed_over}
use Rattle.dfa_drive.proofs.Ending.{ends_here, hit_here, ends_asked, all_within}
use Rattle.dfa_drive.proofs.ends.ends_at.Goals as goal

pub returns-clause-ends : goal.returns-clause-ends
returns-clause-ends g c =
    let ready = c.args.ready.now in
    let view = c.args.view.now in
    ends_asked (setting_for ready.tree.now view passed_over) view.matching.now.dfa_shortest
    c.args.place c.in_ok-falling.falling _
    (c.in_ok-falling.ensures
    ∙ ends_here ready.tree.now ready.classes.now view c.requires.ready.table
    c.requires.ready.options c.args.graph.now c.args.place c.in_ok-found.found.ends
    c.requires.graph c.in_ok-found.ensures.ends)
    c.in_ok-asked_of.ensures

pub returns-clause-hit : goal.returns-clause-hit
returns-clause-hit g c =
    let ready = c.args.ready.now in
    hit_here ready.tree.now ready.classes.now c.args.view.now c.requires.ready.table
    c.requires.ready.options c.args.graph.now c.args.place c.in_ok-found.found.hit_end
    c.requires.graph c.in_ok-found.ensures.hit

pub returns-clause-within : goal.returns-clause-within
returns-clause-within g c =
    let view = c.args.view.now in
    all_within (bare_text view) c.args.place c.args.place (length view.subject.now)
    view.matching.now.dfa_shortest c.in_ok-found.found.ends c.in_ok-falling.falling _
    c.in_ok-found.ensures.within c.in_ok-falling.ensures c.in_ok-asked_of.ensures
