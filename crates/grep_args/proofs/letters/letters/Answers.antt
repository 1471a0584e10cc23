use Rattle.std.proofs.Common.{sym, ◌∙◌, ap, slice_get}
use Rattle.grep_args.specs.Words.{letters}
use Rattle.grep_args.proofs.Stepping.{letters_step, refuses_as}
use Rattle.grep_args.proofs.letters.letters.Goals as goal

pub returns-in-Err-clause-fault : goal.returns-in-Err-clause-fault
returns-in-Err-clause-fault c =
    let first = ap (λ s. slice_get s 0) (sym c.as_bytes.ensures.value) ∙ sym c.in-Some.ensures.value in
    let step = letters_step c.args.word _ c.tail-rest.result.now _ c.in-Some-by_letter.option c.loop-first.plan first
    c.tail-rest.ensures (sym c.in-Some-by_letter.ensures.option) in
    refuses_as _ _ c.in-Err.error (sym step ∙ c.loop-first.invariant.same)
    (c.in-Err.ensures.fault (letters c.args.word c.tail-rest.result.now))
