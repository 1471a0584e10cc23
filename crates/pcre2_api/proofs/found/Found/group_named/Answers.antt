use Rattle.std.proofs.Common.{◌≡◌, ◌∙◌, ◌+◌, true, false, [], drop, get_or, Some, None, sym, ap, subst, arith, bytes_eq}
use Rattle.std.specs.Option.{option_copied}
use Rattle.pat_tree.specs.declared.names.NameEntry.{NameEntry}
use Rattle.pcre2_api.specs.Captured.{group_of, first_named, named_of}
use Rattle.pcre2_api.proofs.Naming.{named_here, named_later, named_not}
use Rattle.pcre2_api.proofs.found.Found.group_named.Goals as goal
use Rattle.pcre2_api.proofs.found.Found.group_named.Goals.{then-eq+in_default, else-eq}

-- what stands for a place that isn't there
other : NameEntry
other = record { name = []; group = 0 }

pub returns-in-Some : goal.returns-in-Some
returns-in-Some c =
    let f = c.args.self.now in
    let name = c.args.name.now in
    let es = c.names-names.result.now in
    let told : es ≡ f.code.tree.names = c.names-names.ensures ∙ ap (λ g. g.code.tree.names) c.self.view_is in
    let kept : named_of f name ≡ first_named f name (drop c.loop-i.i es) =
    subst (λ xs. named_of f name ≡ first_named f name (drop c.loop-i.i xs)) (sym told) c.loop-i.invariant in
    let same : bytes_eq (get_or es c.loop-i.i other).name name ≡ true =
    ap (λ x. bytes_eq x name) (sym (c.name.ensures other)) ∙ sym c.eq.ensures ∙ c.if-eq.true in
    let set : group_of f (get_or es c.loop-i.i other).group ≡ Some c.in-Some.text.now =
    ap (group_of f) (sym (c.from.ensures ∙ c.group.ensures other)) ∙ sym c.group-then-eq.ensures
    ∙ ap option_copied c.in-Some.is in
    sym (kept ∙ named_here f name es c.loop-i.i other c.in-Some.text.now
    (omega (arith, c.loop-i-test.true, c.len-i-end.ensures.is)) same set)

pub loop-i-preserved : goal.loop-i-preserved
loop-i-preserved c =
    let f = c.args.self.now in
    let name = c.args.name.now in
    let es = c.names-names.result.now in
    let told : es ≡ f.code.tree.names = c.names-names.ensures ∙ ap (λ g. g.code.tree.names) c.self.view_is in
    let kept : named_of f name ≡ first_named f name (drop c.loop-i.i es) =
    subst (λ xs. named_of f name ≡ first_named f name (drop c.loop-i.i xs)) (sym told) c.loop-i.invariant in
    let later : first_named f name (drop c.loop-i.i es) ≡ first_named f name (drop (c.loop-i.i + 1) es) =
    elim c.if-eq.branch [
      | then-eq+in_default w ↦
          let same : bytes_eq (get_or es c.loop-i.i other).name name ≡ true =
          ap (λ x. bytes_eq x name) (sym (c.name.ensures other)) ∙ sym c.eq.ensures ∙ w.if-eq.true in
          let unset : group_of f (get_or es c.loop-i.i other).group ≡ None =
          ap (group_of f) (sym (w.from.ensures ∙ w.group.ensures other)) ∙ sym w.group-then-eq.ensures
          ∙ ap option_copied w.in_default.is in
          named_later f name es c.loop-i.i other (omega (arith, c.loop-i-test.true, c.len-i-end.ensures.is)) same unset
      | else-eq w ↦
          let differs : bytes_eq (get_or es c.loop-i.i other).name name ≡ false =
          ap (λ x. bytes_eq x name) (sym (c.name.ensures other)) ∙ sym c.eq.ensures ∙ w.if-eq.false in
          named_not f name es c.loop-i.i other (omega (arith, c.loop-i-test.true, c.len-i-end.ensures.is)) differs
    ] in
    subst (λ xs. named_of f name ≡ first_named f name (drop (c.loop-i.i + 1) xs)) told (kept ∙ later)
