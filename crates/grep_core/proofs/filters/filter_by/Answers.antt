use Rattle.std.proofs.lemmas.Option.{IfSome_then}
use Rattle.grep_core.proofs.filters.filter_by.Goals as goal

pub returns-in-Some : goal.returns-in-Some
returns-in-Some c = λ plan patterns had. IfSome_then c.new.result c.new.ensures
    (λ f h. h plan patterns (rw c.in-Some.is at had))
