use Rattle.std.proofs.Common.{◌≡◌, ◌==◌, ap, sym, ◌∙◌, refl}
use Rattle.std.specs.Ordering.{ordering_index}
use Rattle.std.specs.declared.cmp.Ordering.{Ordering}
use Rattle.pat_tree.specs.declared.names.NameEntry.{NameEntry}
use Rattle.pat_tree.specs.Names.{name_cmp}
use Rattle.pat_save.proofs.Sorting.{index_lt, last_after}
use Rattle.pat_save.proofs.TableForms.{name_total}
use Rattle.pat_save.proofs.taken_tables.is_after.Goals as goal

pub returns-in-Some : goal.returns-in-Some
returns-in-Some c =
    let pair : NameEntry = record { name = c.args.name.now; group = c.args.group } in
    let order : c.then.result ≡ name_cmp c.in-Some.last.now pair =
    c.then.ensures ∙ rw (c.cmp.ensures, c.cmp-in-Some.ensures, c.bytes.ensures) refl in
    c.eq.ensures ∙ ap (λ (o : Ordering). ordering_index o == 0) order ∙ index_lt (name_cmp c.in-Some.last.now pair)
    ∙ sym (last_after name_cmp name_total c.args.entries.now pair c.in-Some.last.now c.requires
    (sym c.in-Some.ensures.value))
