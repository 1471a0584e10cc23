use Rattle.std.proofs.Common.{◌≡◌, Err, refl, sym, ap, subst, ◌∙◌, rules, length, SFits, w32}
use Rattle.std.proofs.lemmas.Int.{to_z-of_z}
use Rattle.grep_core.proofs.Taking.{IsTried, verdict-error, verdict-match, verdict-none, tried-listed, chosen, unchosen}
use Rattle.tool_io.specs.Printed.{printed}
use Rattle.grep_blocks.proofs.Turning.{block-is, takes-passed}
use Rattle.grep_blocks.proofs.scan.take_block.Goals.{in-Match, in-NoMatch}
use Rattle.grep_blocks.proofs.scan.take_block.Goals as goal

pub returns-in-Error : goal.returns-in-Error
returns-in-Error g c gives gap rows rest =
    let job = c.args.job.now in
    let ready = c.requires.ready in
    let fits : SFits w32 c.in-Error.error = search rules in
    c.take_error.ensures gives.tried gap
    (block-is job c.args.course.now.from c.args.block.reach.behind gives.tried ready.some ready.next gives.lines
    gives.many rest)
    rows
    (verdict-error job.search.plan.now.only_matching (length job.search.text.now) c.args.found.now c.in-Error.error
    gives.tried.matches (rw c.in-Error.is at gives.found)
    ∙ ap Err (sym (to_z-of_z w32 c.in-Error.error fits)))

pub returns-then-is_match-job : goal.returns-then-is_match-job
returns-then-is_match-job g c gives gap rows rest =
    let job = c.args.job.now in
    let ready = c.requires.ready in
    let wanted = job.search.plan.now.only_matching in
    let len = length job.search.text.now in
    let list = c.args.found.now in
    let m = gives.tried.matches in
    let tried : IsTried wanted len list c.match-block.is_match m =
    elim c.match-block.branch [
      | in-Match w ↦ subst (λ b. IsTried wanted len list b m) (sym w.is_match-is)
          (verdict-match wanted len list m (rw w.in-Match.is at gives.found))
      | in-NoMatch w ↦ subst (λ b. IsTried wanted len list b m) (sym w.is_match-is)
          (verdict-none wanted len list m (rw w.in-NoMatch.is at gives.found))
    ] in
    c.select.ensures gives.tried gap
    (block-is job c.args.course.now.from c.args.block.reach.behind gives.tried ready.some ready.next gives.lines
    gives.many rest)
    rows (tried-listed wanted len list c.match-block.is_match m tried)
    (tried.selects_so job.search.plan.now.invert_match
    ∙ chosen c.match-block.is_match job.search.plan.now.invert_match c.if-is_match-job.true)

pub returns : goal.returns
returns g c gives gap rows rest =
    let job = c.args.job.now in
    let wanted = job.search.plan.now.only_matching in
    let len = length job.search.text.now in
    let list = c.args.found.now in
    let m = gives.tried.matches in
    let tried : IsTried wanted len list c.match-block.is_match m =
    elim c.match-block.branch [
      | in-Match w ↦ subst (λ b. IsTried wanted len list b m) (sym w.is_match-is)
          (verdict-match wanted len list m (rw w.in-Match.is at gives.found))
      | in-NoMatch w ↦ subst (λ b. IsTried wanted len list b m) (sym w.is_match-is)
          (verdict-none wanted len list m (rw w.in-NoMatch.is at gives.found))
    ] in
    takes-passed job gives.tried gap c.args.block.reach.behind c.args.course.now tried.found tried.is
    (printed (g.O.Sink.tells c.args.out.now) (g.E.Sink.tells c.args.err.now))
    (tried.selects_so job.search.plan.now.invert_match
    ∙ unchosen c.match-block.is_match job.search.plan.now.invert_match c.if-is_match-job.false)
