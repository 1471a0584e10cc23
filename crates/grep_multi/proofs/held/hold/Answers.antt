use Rattle.std.proofs.Common.{◌≡◌, ◌∙◌, ◌≤◌, Err, length, sym, ap, subst, refl, arith, length-take}
use Rattle.std.proofs.lemmas.Result.{err_from_is_err_and}
use Rattle.grep_multi.specs.Held.{HoldsInput}
use Rattle.grep_multi.proofs.Holding.{too-large, no-memory, held-whole, held-part}
use Rattle.grep_multi.proofs.held.hold.Goals as goal

pub returns-in_err-take_all : goal.returns-in_err-take_all
returns-in_err-take_all g c =
    let p = err_from_is_err_and c.from_residual.result c.from_residual.ensures.1 in
    let had = c.in_err-take_all.ensures in
    subst (HoldsInput c.args.kind (g.S.Source.tells c.args.source.now) (g.S.Source.tells c.take_all.new.source))
    (sym (p.1 ∙ ap Err p.2))
    (no-memory c.args.kind had.0 _ _ had.1 had.2)

pub returns-in-More : goal.returns-in-More
returns-in-More g c = too-large c.args.kind _ _ _ (rw c.in-More.is at c.in_ok-take_all.ensures)

pub returns-in-End : goal.returns-in-End
returns-in-End g c = held-whole c.args.kind _ _ _ _ (rw c.in-End.is at c.in_ok-take_all.ensures) refl refl

pub returns-in-Failed : goal.returns-in-Failed
returns-in-Failed g c =
    held-part c.args.kind _ _ _ _ (rw c.in-Failed.is at c.in_ok-take_all.ensures)
    (let same = ap length c.truncate.ensures.items in omega (
      arith,
      same,
      length-take c.whole_len-whole.result
          c.take_all.new.bytes.items,
    ))
    (c.truncate.ensures.items ∙ rw c.as_slice.ensures.value at c.whole_len-whole.ensures) refl
