use Rattle.std.proofs.Common.{◌≡◌, ◌<◌, ◌∙◌, ℕ, Option, Some, None, sym, arith}
use Rattle.frame_state.specs.Ground.{Ground}
use Rattle.frame_board.specs.Ready.{ground_in}
use Rattle.frame_board.proofs.LookParts.{around_branch, settles_so, settles_not}
use Rattle.frame_board.proofs.board.BoardSearchable.settles.Goals as goal

pub returns-in-None : goal.returns-in-None
returns-in-None g c =
    let board = c.args.self.now in
    let t = board.tree.now in
    let ground : Ground = ground_in t board.matching.now board.subject.now board.start
    (g.C.Callouts.answers board.calls.value) in
    sym (settles_not ground c.args.part (sym (c.look_branch.ensures t.nodes t.root board.look_branches) ∙ c.in-None.is))

pub back-back-requires : goal.back-back-requires
back-back-requires g c =
    let board = c.args.self.now in
    let t = board.tree.now in
    let ground : Ground = ground_in t board.matching.now board.subject.now board.start
    (g.C.Callouts.answers board.calls.value) in
    let around = around_branch ground c.args.part c.requires c.in-Some.branch
    (sym (c.look_branch.ensures t.nodes t.root board.look_branches) ∙ c.in-Some.is) in
    omega (arith, board.backs.count, around.0)

pub returns-in-Some : goal.returns-in-Some
returns-in-Some g c =
    let board = c.args.self.now in
    let t = board.tree.now in
    let ground : Ground = ground_in t board.matching.now board.subject.now board.start
    (g.C.Callouts.answers board.calls.value) in
    let is : ground.look_branch c.args.part ≡ Some c.in-Some.branch =
    sym (c.look_branch.ensures t.nodes t.root board.look_branches) ∙ c.in-Some.is in
    let around = around_branch ground c.args.part c.requires c.in-Some.branch is in
    sym (settles_so ground c.args.part c.requires c.in-Some.branch is c.back-back.result
    (c.back-back.ensures t board.backs around.1))
