use Rattle.pat_build.proofs.Waiting.{ends_parts}
use Rattle.std.proofs.lemmas.Result.{err_from_is_err_and}
use Rattle.pat_build.proofs.Nesting.{bar_means, barred_means}
use Rattle.pat_build.proofs.machine.Machine.bar.Goals as goal

pub returns-clause-ok : goal.returns-clause-ok
returns-clause-ok c =
    let m = c.args.self.now in
    let e = rw c.replace-parts.ensures.value at c.in_ok-id.ensures in
    rw (c.replace-parts.ensures.after, c.new.ensures, c.groups_before-self.ensures, c.next_numbering-self.ensures)
    (bar_means m c.requires.means c.in_ok-id.id c.alternative.new.draft c.push.new.self c.in_ok-bars.bars c.args.after
    c.requires c.in_ok-bars.ensures.ok e.made e.adds (λ front h. e.loose front h) c.in_ok-push.ensures.ok
    e.count)

pub alternative-requires-clause-loose : goal.alternative-requires-clause-loose
alternative-requires-clause-loose c = rw c.replace-parts.ensures.value
    (ends_parts c.args.self.now c.requires.means c.requires.idle)

pub returns-in_err-bars-clause-bad : goal.returns-in_err-bars-clause-bad
returns-in_err-bars-clause-bad c =
    let p = err_from_is_err_and c.from_residual.result c.from_residual.ensures.1 in
    rw (p.1, p.2) (barred_means c.args.self.now c.requires.means c.args.after c.in_err-bars.field-0.0 c.requires
    c.in_err-bars.ensures.bad)
