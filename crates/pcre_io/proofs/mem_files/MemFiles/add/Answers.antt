use Rattle.std.proofs.Common.{◌≡◌, Result, Ok, Err, Some, map, ap, refl, ◌∙◌, arith, string_bytes, List, ℕ}
use Rattle.std.specs.Result.{OnErr}
use Rattle.pcre_io.specs.Files.{File}
use Rattle.pcre_io.specs.MemTree.{file_view, held_by, place_of}
use Rattle.pcre_io.specs.declared.mem_files.MemFile.{MemFile}
use Rattle.pcre_io.proofs.Adding.{in_its_place, at_the_end}
use Rattle.pcre_io.proofs.mem_files.MemFiles.add.Goals as goal

pub returns-in_err-push-clause-refused : goal.returns-in_err-push-clause-refused
returns-in_err-push-clause-refused c =
    by_result c.from_residual.result
    (ap (λ items.
    record {
      contents = Some (held_by (map file_view items) c.args.self.now.refused c.args.self.now.others
          c.args.self.now.closed);
      faults = c.args.self.now.faults;
    }) c.in_err-push.ensures.items)
  where
    by_result : {T E P : Type 0} (r : Result T E) → P → OnErr r P
    by_result (Ok x) p = tt
    by_result (Err e) p = p

holds : {a b : List File} (refused others closed : List (List ℕ)) → a ≡ b
    → Some (held_by a refused others closed) ≡ Some (held_by b refused others closed)
holds refused others closed same = ap (λ files. Some (held_by files refused others closed)) same

pub returns-then-at-len-clause-ok : goal.returns-then-at-len-clause-ok
returns-then-at-len-clause-ok c =
    let items = c.args.self.now.files.items in
    let at : c.place_of-at.result ≡ place_of (string_bytes c.args.name) (map file_view items) =
    rw (c.as_str.ensures.value, c.as_slice.ensures.value) at c.place_of-at.ensures in
    let file : MemFile = record { name = c.args.name; bytes = c.args.bytes; fail_at = c.args.fail_at } in (
      holds c.args.self.now.refused c.args.self.now.others c.args.self.now.closed
          (rw at (in_its_place file items (omega (arith, c.if-at-len.true, c.len.ensures, at)))),
      refl,
    )

pub returns-in_ok-push-clause-ok : goal.returns-in_ok-push-clause-ok
returns-in_ok-push-clause-ok c =
    let items = c.args.self.now.files.items in
    let at : c.place_of-at.result ≡ place_of (string_bytes c.args.name) (map file_view items) =
    rw (c.as_str.ensures.value, c.as_slice.ensures.value) at c.place_of-at.ensures in
    let file : MemFile = record { name = c.args.name; bytes = c.args.bytes; fail_at = c.args.fail_at } in (
      holds c.args.self.now.refused c.args.self.now.others c.args.self.now.closed
          (ap (map file_view) c.in_ok-push.ensures.items ∙ at_the_end file items
          (λ low. omega (arith, low, c.if-at-len.false, c.len.ensures, at))),
      refl,
    )
