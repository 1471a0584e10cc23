use Rattle.std.proofs.Common.{rules, ◌≡◌, refl}
use Rattle.pat_tree.specs.declared.names.NameEntry.{NameEntry}
use Rattle.pat_tree.proofs.Naming.{still_ordered_at}
use Rattle.pat_tree.proofs.names.NameTable.add.Goals as goal

pub invariant_of-self-2 : goal.invariant_of-self-2
invariant_of-self-2 c =
    let e : NameEntry = record { name = c.args.name.now; group = c.args.group } in
    let f : NameEntry = record { name = c.from_vec.result; group = c.args.group } in
    let name : c.from_vec.result ≡ c.args.name.now = search rules in
    let same : f ≡ e = rw name refl in
    let place = rw c.deref.ensures.value at c.in-Err.ensures.is in
    rw c.in_ok-insert.ensures.items (still_ordered_at e f c.self.inside.entries.items c.in-Err.place place same
    c.self.invariant)

pub returns-clause-ordered : goal.returns-clause-ordered
returns-clause-ordered c =
    let e : NameEntry = record { name = c.args.name.now; group = c.args.group } in
    let f : NameEntry = record { name = c.from_vec.result; group = c.args.group } in
    let name : c.from_vec.result ≡ c.args.name.now = search rules in
    let same : f ≡ e = rw name refl in
    let place = rw c.deref.ensures.value at c.in-Err.ensures.is in
    rw c.in_ok-insert.ensures.items (still_ordered_at e f c.self.inside.entries.items c.in-Err.place place same
    c.self.invariant)
