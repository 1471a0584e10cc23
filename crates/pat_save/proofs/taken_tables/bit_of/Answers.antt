use Rattle.pat_save.proofs.Bits.{bit_is}
use Rattle.pat_save.proofs.taken_tables.bit_of.Goals as goal

pub returns : goal.returns
returns c = bit_is c.args.number c.args.place
