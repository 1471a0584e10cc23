use Rattle.std.proofs.Common.{◌∙◌, ap, sym, subst, Ok, Result}
use Rattle.std.proofs.lemmas.Result.{err_from_is_err_and}
use Rattle.std.proofs.lemmas.Str.{utf8_valid_len_le}
use Rattle.token_parts.specs.declared.fault.Fault.{Fault}
use Rattle.pat_grammar.specs.Reading.{Parsed, read_with, state_from}
use Rattle.pat_grammar.specs.Places.{Refuses, IsInText}
use Rattle.pat_build.proofs.Exits.{read_long, read_literal, read_literal_bad, start_refuses, utf_refuses, read_good}
use Rattle.pat_build.proofs.reader.read_with.Goals as goal

pub returns-then-text-gt65536-clause-bad : goal.returns-then-text-gt65536-clause-bad
returns-then-text-gt65536-clause-bad c = read_long c.args.calling c.args.options c.args.text.now c.if-text-gt65536.true

pub returns-then-options-clause-ok : goal.returns-then-options-clause-ok
returns-then-options-clause-ok c =
    read_literal c.args.calling c.args.options c.args.text.now c.if-text-gt65536.false c.if-options.true
    c.in_ok-in_utf8.ensures.ok
    ∙ ap (λ p. let x : Result Parsed Fault = Ok p in x) (sym c.in_ok-tree.ensures.parsed)

pub returns-in_err-start-clause-bad : goal.returns-in_err-start-clause-bad
returns-in_err-start-clause-bad c =
    let p = err_from_is_err_and c.from_residual-in_err-start.result c.from_residual-in_err-start.ensures.1 in
    rw (p.1, p.2) (start_refuses c.args.calling c.args.options c.args.text.now c.if-text-gt65536.false
    c.if-options.false c.in_err-start.field-0.0 c.in_err-start.ensures.bad)

pub returns-in_err-tree-2-clause-bad : goal.returns-in_err-tree-2-clause-bad
returns-in_err-tree-2-clause-bad c =
    let p = err_from_is_err_and c.from_residual-in_err-tree-2.result c.from_residual-in_err-tree-2.ensures.1 in
    let is = read_good c.args.calling c.args.options c.args.text.now c.if-text-gt65536.false c.if-options.false
    (state_from c.in_ok-start.start c.in_ok-start.begun) c.in_ok-start.ensures.ok c.in_ok-in_utf8-2.ensures.ok in
    rw (p.1, p.2) (subst (λ r. Refuses r c.in_err-tree-2.field-0.0) (sym is) c.in_err-tree-2.ensures.bad)

pub returns-clause-ok : goal.returns-clause-ok
returns-clause-ok c =
    read_good c.args.calling c.args.options c.args.text.now c.if-text-gt65536.false c.if-options.false
    (state_from c.in_ok-start.start c.in_ok-start.begun) c.in_ok-start.ensures.ok c.in_ok-in_utf8-2.ensures.ok
    ∙ c.in_ok-tree-2.ensures.ok

pub returns-in_err-in_utf8-clause-bad : goal.returns-in_err-in_utf8-clause-bad
returns-in_err-in_utf8-clause-bad c =
    let p = err_from_is_err_and c.from_residual.result c.from_residual.ensures.1 in
    let is = read_literal_bad c.args.calling c.args.options c.args.text.now c.if-text-gt65536.false c.if-options.true
    c.in_err-in_utf8.ensures.why in
    rw (p.1, p.2) (subst (λ e. Refuses (read_with c.args.calling c.args.options c.args.text.now) e)
    (sym c.in_err-in_utf8.ensures.bad) is)

pub returns-in_err-in_utf8-2-clause-bad : goal.returns-in_err-in_utf8-2-clause-bad
returns-in_err-in_utf8-2-clause-bad c =
    let p = err_from_is_err_and c.from_residual-in_err-in_utf8-2.result c.from_residual-in_err-in_utf8-2.ensures.1 in
    let is = utf_refuses c.args.calling c.args.options c.args.text.now c.if-text-gt65536.false c.if-options.false
    (state_from c.in_ok-start.start c.in_ok-start.begun) c.in_ok-start.ensures.ok c.in_err-in_utf8-2.ensures.why in
    rw (p.1, p.2) (subst (λ e. Refuses (read_with c.args.calling c.args.options c.args.text.now) e)
    (sym c.in_err-in_utf8-2.ensures.bad) is)

pub returns-in_err-in_utf8-clause-place : goal.returns-in_err-in_utf8-clause-place
returns-in_err-in_utf8-clause-place c =
    let p = err_from_is_err_and c.from_residual.result c.from_residual.ensures.1 in
    rw (p.1, p.2) (subst (IsInText c.args.text.now) (sym c.in_err-in_utf8.ensures.bad)
    (utf8_valid_len_le c.args.text.now))

pub returns-in_err-in_utf8-2-clause-place : goal.returns-in_err-in_utf8-2-clause-place
returns-in_err-in_utf8-2-clause-place c =
    let p = err_from_is_err_and c.from_residual-in_err-in_utf8-2.result c.from_residual-in_err-in_utf8-2.ensures.1 in
    rw (p.1, p.2) (subst (IsInText c.args.text.now) (sym c.in_err-in_utf8-2.ensures.bad)
    (utf8_valid_len_le c.args.text.now))
