use Rattle.std.proofs.Common.{◌≡◌, ◌≢◌, ◌∙◌, sym, ap, subst, rules, length}
use Rattle.std.specs.Prelude.{nat_le, if◌then◌else◌}
use Rattle.grep_output.specs.declared.shows.Show.{Show}
use Rattle.grep_output.specs.declared.shows.Show.TheVariants.{Lines}
use Rattle.grep_output.specs.Ends.{ended_of}
use Rattle.grep_output.specs.Scans.{early}
use Rattle.grep_output.specs.Shows.{lines_after}
use Rattle.grep_blocks.specs.Steps.{rows_at}
use Rattle.grep_blocks.proofs.Ending.{no-after}
use Rattle.grep_blocks.proofs.scan.end_of.Goals as goal

pub returns-then-ne : goal.returns-then-ne
returns-then-ne c =
    let job = c.args.job.now in
    let other : job.show ≢ Lines = λ is. (let e = rw is at c.if-ne.ensures in cc) in
    no-after job job.show job.search.plan.now.after_context (length (rows_at job c.args.from)) job.finish other
