use Rattle.std.proofs.Common.{◌∙◌, ◌≤◌, ap, refl, sym, subst, length, IfSome, None, Some, Option, ℕ, Result, Ok}
use Rattle.std.proofs.lemmas.Result.{err_from_is_err_and}
use Rattle.pat_tree.specs.declared.options.Options.{Options}
use Rattle.pat_tree.specs.Nested.{tree_at, trees}
use Rattle.pat_tree.specs.Parts.{with_root}
use Rattle.token_parts.specs.declared.fault.Fault.{Fault}
use Rattle.pat_grammar.specs.Groups.{missing}
use Rattle.pat_grammar.specs.Reading.{Parsed, checked}
use Rattle.pat_nodes.specs.Nodes.{references_of, parsed_of}
use Rattle.pat_build.specs.Machine.{state_of}
use Rattle.pat_build.proofs.Bounded.{ends_stand, bad_stands}
use Rattle.pat_build.proofs.Exits.{tree_is, missing_is, names_stand}
use Rattle.pat_nodes.proofs.Numbering.{greatest_is}
use Rattle.pat_build.proofs.machine.Machine.finish.Goals as goal

pub returns-in_err-none_beyond-clause-bad : goal.returns-in_err-none_beyond-clause-bad
returns-in_err-none_beyond-clause-bad c known text st is =
    let m = c.args.self.now in
    let p = err_from_is_err_and c.from_residual.result c.from_residual.ensures.1 in
    let bad = c.in_err-none_beyond.ensures.bad in
    let tree = tree_at (trees m.draft.nodes) c.args.root in
    rw (p.1, p.2, bad.2)
    (tree_is known text st tree (state_of m) is
    ∙ ap (λ (b : Option ℕ). checked st.options b (missing m.groups (references_of m.draft.nodes)) tree (state_of m))
    bad.1)

pub finish-requires-clause-names : goal.finish-requires-clause-names
finish-requires-clause-names c =
    let m = c.args.self.now in
    rw c.replace-draft.ensures.value (names_stand m.draft.names m.draft.nodes m.groups c.requires.named
    c.requires.groups)

pub returns-in-Ok-clause-ok : goal.returns-in-Ok-clause-ok
returns-in-Ok-clause-ok c known text st options is =
    let m = c.args.self.now in
    let finished = rw c.replace-draft.ensures.value at c.in-Ok.ensures in
    let tree = tree_at (trees m.draft.nodes) c.args.root in
    let parsed : Parsed = parsed_of (with_root m.draft c.args.root) in
    rw finished.0
    (tree_is known text st tree (state_of m) is
    ∙ ap (λ (b : Option ℕ). checked st.options b (missing m.groups (references_of m.draft.nodes)) tree (state_of m))
    c.in_ok-none_beyond.ensures.ok
    ∙ ap (λ (o : Option ℕ). checked st.options None o tree (state_of m))
    (missing_is m.draft.nodes m.groups None c.requires.groups c.requires.references finished.1)
    ∙ ap (λ (o : Options). checked o None None tree (state_of m)) options
    ∙ ap (λ (n : ℕ). let x : Result Parsed Fault =
    Ok (record parsed { pattern = record parsed.pattern { groups = n } }) in x)
    (sym (greatest_is m.draft.nodes m.groups c.requires.groups)))

pub returns-in-Ok-clause-under : goal.returns-in-Ok-clause-under
returns-in-Ok-clause-under c =
    let finished = rw c.replace-draft.ensures.value at c.in-Ok.ensures in
    rw finished.0 c.requires.under

pub returns-in-Ok-clause-turns : goal.returns-in-Ok-clause-turns
returns-in-Ok-clause-turns c =
    let finished = rw c.replace-draft.ensures.value at c.in-Ok.ensures in
    rw finished.0 c.requires.turns

pub returns-in-Err-clause-bad : goal.returns-in-Err-clause-bad
returns-in-Err-clause-bad c known text st is =
    let m = c.args.self.now in
    let finished = rw c.replace-draft.ensures.value at c.in-Err.ensures in
    let tree = tree_at (trees m.draft.nodes) c.args.root in
    tree_is known text st tree (state_of m) is
    ∙ ap (λ (b : Option ℕ). checked st.options b (missing m.groups (references_of m.draft.nodes)) tree (state_of m))
    c.in_ok-none_beyond.ensures.ok
    ∙ ap (λ (o : Option ℕ). checked st.options None o tree (state_of m))
    (missing_is m.draft.nodes m.groups (Some c.in-Err.bad.at) c.requires.groups c.requires.references finished)

pub returns-in_err-none_beyond-clause-number : goal.returns-in_err-none_beyond-clause-number
returns-in_err-none_beyond-clause-number c =
    let p = err_from_is_err_and c.from_residual.result c.from_residual.ensures.1 in
    rw (p.1, p.2, c.in_err-none_beyond.ensures.bad.2) refl

pub returns-in_err-none_beyond-clause-place : goal.returns-in_err-none_beyond-clause-place
returns-in_err-none_beyond-clause-place c known text start options is =
    let m = c.args.self.now in
    let p = err_from_is_err_and c.from_residual.result c.from_residual.ensures.1 in
    let bad = c.in_err-none_beyond.ensures.bad in
    let stands = ends_stand known text start options (tree_at (trees m.draft.nodes) c.args.root) (state_of m) is in
    rw (p.1, p.2, bad.2) (subst (λ o. IfSome o (λ at. at ≤ length text)) bad.1 stands.beyond)

pub returns-in-Err-clause-place : goal.returns-in-Err-clause-place
returns-in-Err-clause-place c known text start options is =
    let m = c.args.self.now in
    let stands = ends_stand known text start options (tree_at (trees m.draft.nodes) c.args.root) (state_of m) is in
    let finished = rw c.replace-draft.ensures.value at c.in-Err.ensures in
    bad_stands text m.draft.nodes c.in-Err.bad.at stands.references c.requires.references finished
