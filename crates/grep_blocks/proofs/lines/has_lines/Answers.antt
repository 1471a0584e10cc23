use Rattle.std.proofs.Common.{◌≡◌, ◌∙◌, ◌<◌, ◌≤◌, length, sym, arith, ⊎_elim}
use Rattle.std.proofs.lemmas.Bool.{cases_lt, lt-ltb, le-ltb}
use Rattle.grep_blocks.proofs.Walking.{has-lines, lacks-lines}
use Rattle.grep_blocks.proofs.lines.has_lines.Goals as goal

pub returns-else-count-eq0 : goal.returns-else-count-eq0
returns-else-count-eq0 c =
    let job = c.args.job.now in
    let at = c.skip_lines.result.at in
    ⊎_elim
    (λ (there : at < length job.search.text.now).
    lt-ltb at (length job.search.text.now) there
    ∙ sym (has-lines job c.args.from c.skip_lines.result c.args.count (omega arith) c.skip_lines.ensures there))
    (λ (past : length job.search.text.now ≤ at).
    le-ltb at (length job.search.text.now) past
    ∙ sym (lacks-lines job c.args.from c.skip_lines.result c.args.count (omega arith) c.skip_lines.ensures past))
    (cases_lt at (length job.search.text.now))
