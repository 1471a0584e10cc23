use Rattle.std.proofs.Common.{subst, sym}
use Rattle.std.specs.Prelude.{IfSome}
use Rattle.pat_needs.specs.Needs.{Begins, copies}
use Rattle.pat_needs.specs.NeedTables.{IsItemNeed}
use Rattle.pat_needs.proofs.NeedLemmas.{copies_begin}
use Rattle.pat_needs.proofs.needs.repeated.Goals as goal

pub returns-in-Some-clause-begins : goal.returns-in-Some-clause-begins
returns-in-Some-clause-begins c may item h =
    let utf = c.args.utf in
    let taken = c.in-Some.taken in
    let told : IsItemNeed may utf item taken = subst (λ o. IfSome o (IsItemNeed may utf item)) c.in-Some.is h in
    let row = c.places_in_row-places in
    subst (λ sets. Begins may utf sets (copies c.args.times item)) (sym c.repeated.ensures)
    (copies_begin may utf item taken.bytes row.result c.args.times row.ensures.within told.0
    (λ two. c.is_one_byte.ensures may item told (row.ensures.short two)))
