use Rattle.grep_core.proofs.scan.sift.Goals as goal

pub returns-in-Some-clause-filter : goal.returns-in-Some-clause-filter
returns-in-Some-clause-filter c = λ plan patterns had. c.look.ensures.same plan patterns (rw c.in-Some.is at had)
