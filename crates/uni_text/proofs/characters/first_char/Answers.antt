use Rattle.std.proofs.iter.FirstChar.{wide, in_one, in_two, in_three, in_four}
use Rattle.uni_text.proofs.characters.first_char.Goals as goal

pub returns-then-lead-lt128 : goal.returns-then-lead-lt128
returns-then-lead-lt128 c = let read = in_one c.args.text.now c.requires.checked c.requires.some c.if-lead-lt128.true
    in record { stands = read.1; scalar = read.0 }

pub bounds-text-1 : goal.bounds-text-1
bounds-text-1 c = (wide c.args.text.now c.requires.checked c.requires.some).0 c.if-lead-lt128.false

pub returns-then-lead-lt224 : goal.returns-then-lead-lt224
returns-then-lead-lt224 c = let read = in_two c.args.text.now c.requires.checked c.requires.some c.if-lead-lt128.false
    c.if-lead-lt224.true in record { stands = read.1; scalar = read.0 }

pub bounds-text-2 : goal.bounds-text-2
bounds-text-2 c = (wide c.args.text.now c.requires.checked c.requires.some).1 c.if-lead-lt224.false

pub returns-then-lead-lt240 : goal.returns-then-lead-lt240
returns-then-lead-lt240 c = let read = in_three c.args.text.now c.requires.checked c.requires.some
    c.if-lead-lt224.false c.if-lead-lt240.true in record { stands = read.1; scalar = read.0 }

pub bounds-text-3 : goal.bounds-text-3
bounds-text-3 c = (wide c.args.text.now c.requires.checked c.requires.some).2 c.if-lead-lt240.false

pub returns : goal.returns
returns c = let read = in_four c.args.text.now c.requires.checked c.requires.some c.if-lead-lt240.false in
    record { stands = read.1; scalar = read.0 }
