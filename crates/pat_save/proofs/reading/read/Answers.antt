use Rattle.std.proofs.Common.{◌<◌, length, arith}
use Rattle.pat_save.specs.ReadImage.{list_of}
use Rattle.pat_save.proofs.Trees.{is_found, is_loaded, never_large}
use Rattle.pat_save.proofs.reading.read.Goals as goal

pub returns-clause-found : goal.returns-clause-found
returns-clause-found c =
    is_found c.take_list.result c.args.bytes.now (λ i. omega (arith, c.type_inv.bytes i)) c.take_list.ensures

pub returns-clause-only : goal.returns-clause-only
returns-clause-only c = is_loaded c.take_list.result c.args.bytes.now c.take_list.ensures

pub returns-clause-small : goal.returns-clause-small
returns-clause-small c =
    never_large (16777216 < length c.args.bytes.now) c.take_list.result (list_of c.args.bytes.now) c.take_list.ensures
