use Rattle.std.proofs.Common.{◌∙◌, sym, subst}
use Rattle.std.proofs.lemmas.Result.{err_from_is_err_and}
use Rattle.pat_grammar.specs.Reading.{state_from}
use Rattle.pat_grammar.specs.Places.{Refuses}
use Rattle.pat_build.proofs.Exits.{tree_refuses}
use Rattle.pat_build.proofs.reader.tree_of.Goals as goal

pub returns-in_err-run-clause-bad : goal.returns-in_err-run-clause-bad
returns-in_err-run-clause-bad c =
    let p = err_from_is_err_and c.from_residual.result c.from_residual.ensures.1 in
    rw (p.1, p.2) (tree_refuses (record { names = c.args.known.now; calling = c.args.calling }) c.args.text.now
    (state_from c.args.start c.args.options) c.in_err-run.field-0.0
    (subst (λ r. Refuses r c.in_err-run.field-0.0) c.new-machine.ensures.whole c.in_err-run.ensures.bad))

pub returns-in_err-root-clause-bad : goal.returns-in_err-root-clause-bad
returns-in_err-root-clause-bad c =
    let p = err_from_is_err_and c.from_residual-in_err-root.result c.from_residual-in_err-root.ensures.1 in
    rw (p.1, p.2) (tree_refuses (record { names = c.args.known.now; calling = c.args.calling }) c.args.text.now
    (state_from c.args.start c.args.options) c.in_err-root.field-0.0
    (subst (λ r. Refuses r c.in_err-root.field-0.0) (c.in_ok-run.ensures.same.whole ∙ c.new-machine.ensures.whole)
    c.in_err-root.ensures.bad))

pub finish-requires : goal.finish-requires
finish-requires c =
    let ends = c.in_ok-root.ensures.ok in
    record {
      root = c.in_ok-root.ensures.below;
      groups = ends.groups;
      references = ends.refs_are;
      named = ends.named;
      under = c.in_ok-root.ensures.under;
      turns = ends.turns;
    }

pub returns-clause-ok : goal.returns-clause-ok
returns-clause-ok c =
    let made = c.new-machine.ensures in
    let same = c.in_ok-run.ensures.same in
    let ends = c.in_ok-root.ensures.ok in
    c.finish.ensures.ok (record { names = c.args.known.now; calling = c.args.calling }) c.args.text.now
    (state_from c.args.start c.args.options)
    (sym (ends.options ∙ same.options ∙ made.options)) (sym made.whole ∙ sym same.whole ∙ ends.is)

pub returns-clause-bad : goal.returns-clause-bad
returns-clause-bad c =
    let made = c.new-machine.ensures in
    let same = c.in_ok-run.ensures.same in
    let ends = c.in_ok-root.ensures.ok in
    c.finish.ensures.bad (record { names = c.args.known.now; calling = c.args.calling }) c.args.text.now
    (state_from c.args.start c.args.options)
    (sym made.whole ∙ sym same.whole ∙ ends.is)

pub returns-clause-place : goal.returns-clause-place
returns-clause-place c =
    let made = c.new-machine.ensures in
    let same = c.in_ok-run.ensures.same in
    let ends = c.in_ok-root.ensures.ok in
    c.finish.ensures.place (record { names = c.args.known.now; calling = c.args.calling }) c.args.text.now
    c.args.start c.args.options
    (sym made.whole ∙ sym same.whole ∙ ends.is)
