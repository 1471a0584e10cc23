use Rattle.std.proofs.Common.{◌≡◌, ◌∙◌, Err, IfErr, subst, sym, ap, inl, inr, rules}
use Rattle.std.proofs.lemmas.Bool.{cases_Bool}
use Rattle.pat_check.specs.Known.{IsByteSet, lead_set_of}
use Rattle.pat_tree.specs.Pattern.{pattern_of}
use Rattle.match_items.specs.Views.{fold_in}
use Rattle.pat_lengths.specs.Backs.{first_fault}
use Rattle.pat_build.specs.Nodes.{parsed_of}
use Rattle.pcre2_errors.specs.CompileErrors.{check_error_of, compile_error_of}
use Rattle.pcre2_api.specs.Compiled.{IsCompileError, HasNumber, IsInPattern}
use Rattle.pcre2_api.specs.Patterns.{compiled, unless_refused}
use Rattle.pcre2_api.proofs.Behind.{compiled_is, check_refused, read_refused}
use Rattle.pcre2_api.proofs.Faults.{check_number, check_place, read_number, read_place}
use Rattle.pcre2_api.proofs.code.Code.compile.Goals as goal

pub invariant_of-result : goal.invariant_of-result
invariant_of-result c =
    let told = c.in_ok-facts.ensures in
    let t = c.in_ok-tree.tree in
    let begins : IsByteSet c.in_ok-facts.facts.lead (lead_set_of t (fold_in t.options.utf)) =
    elim (cases_Bool t.options.utf) [
      | inl on ↦ subst (λ utf. IsByteSet c.in_ok-facts.facts.lead (lead_set_of t (fold_in utf))) (sym on)
          (told.lead_in_utf on)
      | inr off ↦ told.lead off (fold_in t.options.utf)
    ] in
    record {
      table = c.in_ok-classes.ensures;
      facts = record {
        lead = begins;
        empty = told.empty;
        names = told.names;
        lookbehind = told.lookbehind;
        before = told.before;
        size = told.size;
        dfa = told.dfa;
        fixed = told.fixed;
        backs = told.backs;
        places = told.places;
        greatest = told.greatest;
        flow = told.flow;
        branches = told.branches;
        look_branches = told.look_branches;
        ranks = told.ranks;
        need = told.need;
      };
      outlined = c.of-outline.ensures;
      nested = (c.readings_are_bounded.ensures c.args.options c.args.pattern.now (parsed_of t)
          c.in_ok-tree.ensures.ok).nested;
    }

pub returns-clause-compiled : goal.returns-clause-compiled
returns-clause-compiled c =
    let t = c.in_ok-tree.tree in
    let is = compiled_is c.first_refused_is_leftmost.ensures c.args.options c.args.pattern.now t c.is_sound.ensures
    c.in_ok-tree.ensures.turns c.in_ok-tree.ensures.under c.in_ok-tree.ensures.ok in (
      c.in_ok-text.ensures.items_if_clones_equal (λ x y same. same),
      c.in_ok-tree.ensures.ok,
      is
          ∙ ap (unless_refused (pattern_of t)) c.in_ok-facts.ensures.fixed,
    )

pub returns-in_err-facts-clause-refused : goal.returns-in_err-facts-clause-refused
returns-in_err-facts-clause-refused c =
    let t = c.in_ok-tree.tree in
    let e = c.in_err-facts.field-0.0 in
    let is = compiled_is c.first_refused_is_leftmost.ensures c.args.options c.args.pattern.now t c.is_sound.ensures
    c.in_ok-tree.ensures.turns c.in_ok-tree.ensures.under c.in_ok-tree.ensures.ok in
    let same : c.from_residual-in_err-facts.result ≡ Err (check_error_of e) = search rules in
    subst (λ r. IfErr r (IsCompileError (compiled c.args.options c.args.pattern.now))) (sym same)
    (check_refused (compiled c.args.options c.args.pattern.now) (pattern_of t) (first_fault t) e
    c.in_err-facts.ensures.refused is)

pub returns-in_err-tree-clause-refused : goal.returns-in_err-tree-clause-refused
returns-in_err-tree-clause-refused c =
    let e = c.in_err-tree.field-0.0 in
    let same : c.from_residual.result ≡ Err (compile_error_of e) = search rules in
    subst (λ r. IfErr r (IsCompileError (compiled c.args.options c.args.pattern.now))) (sym same)
    (read_refused c.args.options c.args.pattern.now e c.in_err-tree.ensures.bad)

pub returns-in_err-facts-clause-number : goal.returns-in_err-facts-clause-number
returns-in_err-facts-clause-number c =
    let e = c.in_err-facts.field-0.0 in
    let same : c.from_residual-in_err-facts.result ≡ Err (check_error_of e) = search rules in
    subst (λ r. IfErr r HasNumber) (sym same)
    (check_number c.args.pattern.now c.in_ok-tree.tree c.readings_are_bounded.ensures c.args.options
    c.in_ok-tree.ensures.ok e c.in_err-facts.ensures.refused)

pub returns-in_err-facts-clause-place : goal.returns-in_err-facts-clause-place
returns-in_err-facts-clause-place c =
    let e = c.in_err-facts.field-0.0 in
    let same : c.from_residual-in_err-facts.result ≡ Err (check_error_of e) = search rules in
    subst (λ r. IfErr r (IsInPattern c.args.pattern.now)) (sym same)
    (check_place c.args.pattern.now c.in_ok-tree.tree c.readings_are_bounded.ensures c.args.options
    c.in_ok-tree.ensures.ok e c.in_err-facts.ensures.refused)

pub returns-in_err-tree-clause-number : goal.returns-in_err-tree-clause-number
returns-in_err-tree-clause-number c =
    let e = c.in_err-tree.field-0.0 in
    let same : c.from_residual.result ≡ Err (compile_error_of e) = search rules in
    subst (λ r. IfErr r HasNumber) (sym same) (read_number e c.in_err-tree.ensures.number)

pub returns-in_err-tree-clause-place : goal.returns-in_err-tree-clause-place
returns-in_err-tree-clause-place c =
    let e = c.in_err-tree.field-0.0 in
    let same : c.from_residual.result ≡ Err (compile_error_of e) = search rules in
    subst (λ r. IfErr r (IsInPattern c.args.pattern.now)) (sym same)
    (read_place c.args.pattern.now e c.in_err-tree.ensures.place)
