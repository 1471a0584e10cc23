use Rattle.std.proofs.Common.{◌≡◌, Err, Ok, sym, ap, subst, rules}
use Rattle.tool_io.specs.Printed.{printed}
use Rattle.grep_blocks.specs.Scanned.{CountsTo, begun_at, scan_at}
use Rattle.grep_blocks.proofs.Counting.{counts-ended, counts-stopped}
use Rattle.grep_blocks.proofs.text.scan_counted.Goals as goal

pub returns : goal.returns
returns g c finish is =
    let job = c.args.job.now in
    let old = c.args.state.now in
    let new = c.scan-ended.new.course in
    let before = printed (g.O.Sink.tells c.args.out.now) (g.E.Sink.tells c.args.err.now) in
    let after = printed (g.O.Sink.tells c.scan-ended.new.out) (g.E.Sink.tells c.scan-ended.new.err) in
    subst (λ s. CountsTo job (scan_at job finish (begun_at old.errors)) old s before after
    (Ok (record { selected = new.selected; ended = c.in_ok-ended.ended })))
    (λ i. record {
      errors = new.errors;
      total = sym c.counted-state.ensures i;
      has_shown = sym c.has_shown-state.ensures i;
    })
    (counts-ended job (scan_at job finish (begun_at old.errors)) old new before after c.in_ok-ended.ended
    (c.in_ok-ended.ensures finish is))
