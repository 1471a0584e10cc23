use Rattle.std.proofs.Common.{ℕ, List, sym, subst, arith}
use Rattle.std.specs.Prelude.{slice_index}
use Rattle.match_starts.specs.Asked.{passed_over, replied}
use Rattle.match_drive.specs.BeginText.{StandsBehind}
use Rattle.match_starts.specs.Bytes.{IsByteOutside}
use Rattle.match_drive.proofs.Excluded.{excluded_by_byte}
use Rattle.match_drive.proofs.PastRun.{tried_fails}
use Rattle.match_drive.proofs.Steps.{excluded_fails}
use Rattle.match_drive.proofs.places.first_start.Goals as goal

pub returns-in-Some-clause-before : goal.returns-in-Some-clause-before
returns-in-Some-clause-before g c reply k a b stands =
    let x = c.args.on.now in
    let s = g.S.Driven.asked x passed_over in
    tried_fails (replied reply s) k
    ((rw c.in-Some.is at c.begin.ensures) reply k stands
    (λ h. c.first_begin.ensures.before k a b
    (subst (λ (bs : List ℕ). StandsBehind c.in-Some.begin.now bs k) (sym c.subject.ensures) h)))

pub returns-in-Some-lead_used-clause-before : goal.returns-in-Some-lead_used-clause-before
returns-in-Some-lead_used-clause-before g c reply k a b stands =
    let x = c.args.on.now in
    let s = g.S.Driven.asked x passed_over in
    let used = rw c.in-Some-lead_used.is at c.lead_used.ensures in
    excluded_fails (replied reply s) (g.met.S.Driven.start_is x c.requires.fits).within k
    (excluded_by_byte (replied reply s) c.in-Some-lead_used.set.now k used.0 used.1
    (omega (arith, b, c.first_in.ensures.high, c.requires.within))
    (subst (λ (bs : List ℕ). IsByteOutside c.in-Some-lead_used.set.now (slice_index bs k))
    c.subject-in-Some-lead_used.ensures (c.first_in.ensures.before k a b)))
