use Rattle.grep_core.proofs.scan.known_of.Goals as goal

pub returns-in-Some-clause-known : goal.returns-in-Some-clause-known
returns-in-Some-clause-known c = λ plan patterns had quiet. c.tell.ensures.known plan patterns (rw c.in-Some.is at had)

pub returns-in-Some-clause-same : goal.returns-in-Some-clause-same
returns-in-Some-clause-same c = λ plan patterns had. c.tell.ensures.same plan patterns (rw c.in-Some.is at had)
