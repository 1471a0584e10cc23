use Rattle.std.proofs.Common.{rules, ◌≡◌, ◌++◌, ◌∷◌, [], None}
use Rattle.grep_core.proofs.ScansWhole.{scans-follow}
use Rattle.grep_core.proofs.scan.scan.Goals as goal

pub returns-in-Some-clause-scans : goal.returns-in-Some-clause-scans
returns-in-Some-clause-scans g c = λ before treated job stood. rw c.in-Some.is at
    (c.in_ok-ended.ensures.taken before treated job stood)

pub returns-in-None-clause-scans : goal.returns-in-None-clause-scans
returns-in-None-clause-scans g c = λ before treated job stood.
    let none : c.in_ok-ended.field-0 ≡ None = search rules in
    let pauses = rw none at (c.in_ok-ended.ensures.taken before treated job stood) in
    scans-follow _ _ treated _ _ job before _ _ _ _ _ _ _ _ _ pauses _ _ c.follow.result
    (c.follow.ensures before treated (pauses.rows ++ pauses.row ∷ []) pauses.stood pauses.kind pauses.max pauses.near
    pauses.whole)
