use Rattle.std.proofs.Common.{◌≡◌, ◌∙◌, ap, sym, subst, Ok, Result, List, []}
use Rattle.std.specs.Prelude.{IfOk, IfErr}
use Rattle.std.proofs.lemmas.Result.{err_from_is_err_and}
use Rattle.pat_tree.specs.declared.names.NameEntry.{NameEntry}
use Rattle.pat_tree.specs.Nested.{tree_at, trees}
use Rattle.token_parts.specs.declared.fault.Fault.{Fault}
use Rattle.pat_grammar.specs.Places.{Refuses}
use Rattle.pat_grammar.specs.Reading.{Parsed, read_from, state_from}
use Rattle.pat_nodes.specs.Nodes.{parsed_of}
use Rattle.pat_build.specs.Machine.{state_of, tree_with}
use Rattle.pat_build.proofs.Exits.{first_refuses, from_is}
use Rattle.pat_build.proofs.reader.tree_from.Goals as goal

pub returns-in_err-run-clause-bad : goal.returns-in_err-run-clause-bad
returns-in_err-run-clause-bad c =
    let p = err_from_is_err_and c.from_residual.result c.from_residual.ensures.1 in
    rw (p.1, p.2) (first_refuses c.args.calling c.args.text.now (state_from c.args.start c.args.options)
    c.in_err-run.field-0.0
    (subst (λ r. Refuses r c.in_err-run.field-0.0) c.new-machine.ensures.whole c.in_err-run.ensures.bad))

pub returns-in_err-root-clause-bad : goal.returns-in_err-root-clause-bad
returns-in_err-root-clause-bad c =
    let p = err_from_is_err_and c.from_residual-in_err-root.result c.from_residual-in_err-root.ensures.1 in
    rw (p.1, p.2) (first_refuses c.args.calling c.args.text.now (state_from c.args.start c.args.options)
    c.in_err-root.field-0.0
    (subst (λ r. Refuses r c.in_err-root.field-0.0) (c.in_ok-run.ensures.same.whole ∙ c.new-machine.ensures.whole)
    c.in_err-root.ensures.bad))

pub finish-requires : goal.finish-requires
finish-requires c =
    let ends = c.in_ok-root.ensures.ok in
    record {
      root = c.in_ok-root.ensures.below;
      groups = ends.groups;
      references = ends.refs_are;
      named = ends.named;
      under = c.in_ok-root.ensures.under;
      turns = ends.turns;
    }

pub returns-then-is_nameless-clause-ok : goal.returns-then-is_nameless-clause-ok
returns-then-is_nameless-clause-ok c =
    let m = c.end.new.self in
    let made = c.new-machine.ensures in
    let same = c.in_ok-run.ensures.same in
    let ends = c.in_ok-root.ensures.ok in
    let text = c.args.text.now in
    let calling = c.args.calling in
    let st = state_from c.args.start c.args.options in
    let is = sym made.whole ∙ sym same.whole ∙ ends.is in
    let from : read_from calling text st ≡ tree_with (record { names = []; calling = calling }) text st =
    from_is calling text st (tree_at (trees m.draft.nodes) c.in_ok-root.root, state_of m) is
    ∙ ap (λ (names : List NameEntry). tree_with (record { names = names; calling = calling }) text st)
    (c.is_nameless.ensures c.if-is_nameless.true) in
    subst (λ (r : Result Parsed Fault). IfOk c.finish.result (λ tree. r ≡ Ok (parsed_of tree))) (sym from)
    (c.finish.ensures.ok (record { names = []; calling = calling }) text st
    (sym (ends.options ∙ same.options ∙ made.options)) is)

pub returns-then-is_nameless-clause-bad : goal.returns-then-is_nameless-clause-bad
returns-then-is_nameless-clause-bad c =
    let m = c.end.new.self in
    let made = c.new-machine.ensures in
    let same = c.in_ok-run.ensures.same in
    let ends = c.in_ok-root.ensures.ok in
    let text = c.args.text.now in
    let calling = c.args.calling in
    let st = state_from c.args.start c.args.options in
    let is = sym made.whole ∙ sym same.whole ∙ ends.is in
    let from : read_from calling text st ≡ tree_with (record { names = []; calling = calling }) text st =
    from_is calling text st (tree_at (trees m.draft.nodes) c.in_ok-root.root, state_of m) is
    ∙ ap (λ (names : List NameEntry). tree_with (record { names = names; calling = calling }) text st)
    (c.is_nameless.ensures c.if-is_nameless.true) in
    subst (λ (r : Result Parsed Fault). IfErr c.finish.result (Refuses r)) (sym from)
    (c.finish.ensures.bad (record { names = []; calling = calling }) text st is)

pub returns-clause-ok : goal.returns-clause-ok
returns-clause-ok c =
    let m = c.end.new.self in
    let made = c.new-machine.ensures in
    let same = c.in_ok-run.ensures.same in
    let ends = c.in_ok-root.ensures.ok in
    let text = c.args.text.now in
    let calling = c.args.calling in
    let st = state_from c.args.start c.args.options in
    let from =
    from_is calling text st (tree_at (trees m.draft.nodes) c.in_ok-root.root, state_of m)
    (sym made.whole ∙ sym same.whole ∙ ends.is)
    ∙ ap (λ (names : List NameEntry). tree_with (record { names = names; calling = calling }) text st)
    (ap (λ d. d.names) (sym c.replace-first.ensures.value) ∙ sym c.names.ensures) in
    subst (λ (r : Result Parsed Fault). IfOk c.tree_of.result (λ tree. r ≡ Ok (parsed_of tree))) (sym from)
    c.tree_of.ensures.ok

pub returns-clause-bad : goal.returns-clause-bad
returns-clause-bad c =
    let m = c.end.new.self in
    let made = c.new-machine.ensures in
    let same = c.in_ok-run.ensures.same in
    let ends = c.in_ok-root.ensures.ok in
    let text = c.args.text.now in
    let calling = c.args.calling in
    let st = state_from c.args.start c.args.options in
    let from =
    from_is calling text st (tree_at (trees m.draft.nodes) c.in_ok-root.root, state_of m)
    (sym made.whole ∙ sym same.whole ∙ ends.is)
    ∙ ap (λ (names : List NameEntry). tree_with (record { names = names; calling = calling }) text st)
    (ap (λ d. d.names) (sym c.replace-first.ensures.value) ∙ sym c.names.ensures) in
    subst (λ (r : Result Parsed Fault). IfErr c.tree_of.result (Refuses r)) (sym from) c.tree_of.ensures.bad

pub returns-then-is_nameless-clause-place : goal.returns-then-is_nameless-clause-place
returns-then-is_nameless-clause-place c =
    let made = c.new-machine.ensures in
    let same = c.in_ok-run.ensures.same in
    let ends = c.in_ok-root.ensures.ok in
    c.finish.ensures.place (record { names = []; calling = c.args.calling }) c.args.text.now c.args.start c.args.options
    (sym made.whole ∙ sym same.whole ∙ ends.is)
