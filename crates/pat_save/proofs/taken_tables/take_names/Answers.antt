use Rattle.std.proofs.Common.{◌≡◌, ◌++◌, ◌∷◌, [], List, length, refl, ap, ◌∙◌, arith, length-append}
use Rattle.pat_tree.specs.Names.{name_cmp}
use Rattle.pat_tree.specs.Parts.{DraftParts}
use Rattle.pat_tree.specs.declared.names.NameEntry.{NameEntry}
use Rattle.pat_save.specs.Reading.{counted_at}
use Rattle.pat_save.specs.ReadTables.{name_after}
use Rattle.pat_save.proofs.Loops.{goes_on, starts}
use Rattle.pat_save.proofs.Sorting.{sorted_push}
use Rattle.pat_save.proofs.TableForms.{name_comes, none_ordered, with_name_last}
use Rattle.pat_save.proofs.taken_tables.take_names.Goals as goal

pub loop-init : goal.loop-init
loop-init c = record {
  so_far = rw c.requires (starts name_after c.args.bytes.now c.in_ok-count.count c.in_ok-count.rest.now
      c.in_ok-count.ensures);
  others = refl;
  many = ap length c.requires;
  ordered = rw c.requires none_ordered;
}

pub loop-preserved : goal.loop-preserved
loop-preserved c =
    let known = c.loop.draft.names in
    let pair : NameEntry = record { name = c.in_ok-name.name.now; group = c.in_ok-name.group } in
    let here = rw c.names.ensures at c.in_ok-name.ensures in
    let comes = name_comes known c.loop.rest.now pair c.in_ok-name.after.now here in
    let grown : c.add_name.new.self ≡ record c.loop.draft { names = known ++ pair ∷ [] } =
    c.in_ok-add_name.ensures.named
    ∙ ap (λ (l : List NameEntry). let d : DraftParts = record c.loop.draft { names = l } in d)
    (with_name_last known pair comes) in
    rw grown (record {
      so_far = goes_on name_after known c.in_ok-count.count c.loop.counter c.loop.rest.now
          (counted_at name_after c.args.bytes.now) pair c.in_ok-name.after.now c.loop-test.true here
          c.loop.invariant.so_far;
      others = ap (λ (d : DraftParts). let e : DraftParts = record d { names = known ++ pair ∷ [] } in e)
          c.loop.invariant.others;
      many = omega (arith, c.loop.invariant.many, length-append known (pair ∷ []));
      ordered = sorted_push name_cmp known pair c.loop.invariant.ordered comes;
    })
