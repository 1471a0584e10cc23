use Rattle.std.proofs.Common.{◌≡◌, ◌+◌, ◌≤◌, length, Some, sym, ap, ◌∙◌, arith}
use Rattle.std.proofs.lemmas.Option.{IfSome_then}
use Rattle.ordered_search.specs.Places.{last_place, up_to}
use Rattle.ordered_search.proofs.StartPlaces.{last_within}
use Rattle.match_starts.specs.Asked.{passed_over, replied}
use Rattle.match_starts.proofs.TextSteps.{byte_place}
use Rattle.match_drive.specs.Rest.{found_from, behind}
use Rattle.match_drive.proofs.PastRun.{tried_fails}
use Rattle.match_drive.proofs.Steps.{none_passed, passed}
use Rattle.match_drive.proofs.places.past_refused.Goals as goal

pub returns-then-to-last-clause-same : goal.returns-then-to-last-clause-same
returns-then-to-last-clause-same g c reply =
    let x = c.args.on.now in
    let s = replied reply (g.S.Driven.asked x passed_over) in
    let begun = (g.met.S.Driven.start_is x c.requires.fits).within in
    sym (none_passed s begun c.args.from (omega (arith, c.requires.last, c.requires.from))
    (λ k a b. tried_fails s k (c.requires.fail.fail reply k a
    (omega (arith, b, c.if-to-last.true, c.requires.last)))))

pub behind-requires-clause-within : goal.behind-requires-clause-within
behind-requires-clause-within g c =
    let x = c.args.on.now in
    let s = g.S.Driven.asked x passed_over in
    let high : last_place s ≤ length s.subject = last_within s (g.met.S.Driven.start_is x c.requires.fits).within in
    omega (arith, high, c.if-to-last.false, c.requires.last)

pub returns-clause-same : goal.returns-clause-same
returns-clause-same g c reply =
    let x = c.args.on.now in
    let s = g.S.Driven.asked x passed_over in
    let t = replied reply s in
    let begun = (g.met.S.Driven.start_is x c.requires.fits).within in
    let high : last_place s ≤ length s.subject = last_within s begun in
    let p = c.args.from in
    let to = c.args.to in
    let next : c.up_to.result ≡ up_to (last_place s) (Some (behind s p (to + 1))) =
    c.up_to.ensures.value ∙ ap (λ l. up_to l (Some c.behind.result)) c.requires.last
    ∙ ap (λ b. up_to (last_place s) (Some b)) c.behind.ensures in
    ap (found_from t) next
    ∙ passed t begun c.requires.fail.bytes p (to + 1)
    (omega (arith, c.requires.last, c.requires.from))
    (omega (arith, c.requires.fail.low))
    (omega (arith, high, c.if-to-last.false, c.requires.last))
    (omega (arith, c.if-to-last.false, c.requires.last))
    (λ k a b. tried_fails t k (c.requires.fail.fail reply k a (omega (arith, b))))

pub returns-clause-place : goal.returns-clause-place
returns-clause-place g c =
    let x = c.args.on.now in
    let s = g.S.Driven.asked x passed_over in
    let high : last_place s ≤ length s.subject = last_within s (g.met.S.Driven.start_is x c.requires.fits).within in
    IfSome_then c.up_to.result c.up_to.ensures.within
    (λ q low. byte_place s.options s.subject c.requires.fail.bytes q (omega (arith, low, high, c.requires.last)))
