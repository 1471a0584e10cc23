use Rattle.std.proofs.Common.{arith}
use Rattle.std.proofs.iter.FirstChar.{last}
use Rattle.uni_text.proofs.characters.last_len.Goals as goal

pub returns-then-text-end-lt128 : goal.returns-then-text-end-lt128
returns-then-text-end-lt128 c = (last c.args.text.now c.requires.checked c.requires.some).0 c.if-text-end-lt128.true

pub overflow_sub-end-2 : goal.overflow_sub-end-2
overflow_sub-end-2 c = let wide = (last c.args.text.now c.requires.checked c.requires.some).1
    c.if-text-end-lt128.false in omega (arith, wide.0)

pub returns-then-text-end-ge192 : goal.returns-then-text-end-ge192
returns-then-text-end-ge192 c = let wide = (last c.args.text.now c.requires.checked c.requires.some).1
    c.if-text-end-lt128.false in wide.1 c.if-text-end-ge192.true

pub overflow_sub-end-3 : goal.overflow_sub-end-3
overflow_sub-end-3 c =
    let wide = (last c.args.text.now c.requires.checked c.requires.some).1 c.if-text-end-lt128.false in
    omega (arith, (wide.2 (omega (arith, c.if-text-end-ge192.false))).0)

pub returns-then-text-end-ge192-2 : goal.returns-then-text-end-ge192-2
returns-then-text-end-ge192-2 c =
    let wide = (last c.args.text.now c.requires.checked c.requires.some).1 c.if-text-end-lt128.false in
    (wide.2 (omega (arith, c.if-text-end-ge192.false))).1 c.if-text-end-ge192-2.true

pub returns-else-text-end-ge192-2 : goal.returns-else-text-end-ge192-2
returns-else-text-end-ge192-2 c =
    let wide = (last c.args.text.now c.requires.checked c.requires.some).1 c.if-text-end-lt128.false in
    (wide.2 (omega (arith, c.if-text-end-ge192.false))).2 (omega (arith, c.if-text-end-ge192-2.false))
