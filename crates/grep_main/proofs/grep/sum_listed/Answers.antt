use Rattle.std.proofs.Common.{rules, arith, ◌≡◌, ◌+◌, ◌<◌, ◌^◌, [], ◌∷◌, ◌++◌, refl, sym, subst, ◌∙◌, take, drop}
use Rattle.std.proofs.Common.{get_or, Ok, Err}
use Rattle.std.proofs.lemmas.List.{take_more, take_all}
use Rattle.grep_core.specs.grep_match.Compiled.{patterns_in}
use Rattle.grep_main.specs.Searches.{ReportsTargetFrom}
use Rattle.grep_main.proofs.Summing.{Searched, searched-none, searched-next, searched-all, searched-stops}
use Rattle.grep_main.proofs.Summing.{counts-bound, total-bound, told_of, list-parted}
use Rattle.grep_main.specs.Leaves.{LeavesUnasked, Uses}
use Rattle.tool_io.specs.Asked.{is_standard}
use Rattle.grep_main.proofs.Tying.{unasked-front, unasked-join, unasked-uses}
use Rattle.grep_main.proofs.grep.sum_listed.Goals as goal
use Rattle.tool_io.specs.Printed.{printed}

pub loop-target-init : goal.loop-target-init
loop-target-init g c = record {
  searched = searched-none c.args.plan.now (patterns_in c.args.patterns.now)
      (g.F.FileSet.tells c.args.io.now.files.now).contents (g.F.FileSet.tells c.args.io.now.files.now).faults
      c.args.io.now.is_used (g.S.Source.tells c.args.io.now.input.now) (g.O.Sink.tells c.args.io.now.out.now)
      (g.E.Sink.tells c.args.io.now.err.now) c.new-state.result c.new-state.ensures;
  counts = omega arith;
  total = omega arith;
  unused = λ none. refl;
  streams = (refl, refl, refl, refl);
  files = refl;
  later = omega arith;
  filter = c.filter_by-filter.ensures c.args.plan.now (patterns_in c.args.patterns.now) c.sieve_for-sieve.ensures;
}

pub grep_target-requires-clause-ready : goal.grep_target-requires-clause-ready
grep_target-requires-clause-ready g c =
    let had = c.loop-target.invariant in
    let same = had.searched.total in
    let few = had.total in
    record { limits = c.requires; errors = had.searched.errors; total = omega arith }

pub returns-in_err-end-clause-sums : goal.returns-in_err-end-clause-sums
returns-in_err-end-clause-sums g c =
    let plan = c.args.plan.now in
    let patterns = patterns_in c.args.patterns.now in
    let contents = (g.F.FileSet.tells c.args.io.now.files.now).contents in
    let first = (g.F.FileSet.tells c.args.io.now.files.now).faults in
    let mid_faults = (g.F.FileSet.tells c.loop-target.io.files.now).faults in
    let last = (g.F.FileSet.tells c.grep_target.new.io.files.now).faults in
    let list = c.args.list.now in
    let i = c.loop-target.target-index in
    let target = get_or list i c.target-item.result in
    let mid_used = c.loop-target.io.is_used in
    let is_used = c.grep_target.new.io.is_used in
    let mid = g.S.Source.tells c.loop-target.io.input.now in
    let after = g.S.Source.tells c.grep_target.new.io.input.now in
    let s = c.loop-target.state in
    let s_new = c.grep_target.new.state in
    let out = g.O.Sink.tells c.loop-target.io.out.now in
    let out_new = g.O.Sink.tells c.grep_target.new.io.out.now in
    let err = g.E.Sink.tells c.loop-target.io.err.now in
    let err_new = g.E.Sink.tells c.grep_target.new.io.err.now in
    let had = c.loop-target.invariant in
    let stop = c.in_err-end.field-0.0 in
    let same : c.from_residual.result ≡ Err stop = search rules in
    let target_is : c.target-item.result ≡ target = c.target-item.is in
    let came =
    subst (λ x. ReportsTargetFrom plan patterns target x mid_faults last mid_used is_used mid after s s_new
    (printed out err) (printed out_new err_new) (Err stop)) had.files
    (subst (λ x. ReportsTargetFrom plan patterns x (g.F.FileSet.tells c.loop-target.io.files.now).contents mid_faults
    last mid_used is_used mid after s s_new (printed out err) (printed out_new err_new) (Err stop)) target_is
    c.in_err-end.ensures.reports) in
    searched-stops plan patterns contents first c.args.io.now.is_used (g.S.Source.tells c.args.io.now.input.now)
    (g.O.Sink.tells c.args.io.now.out.now) (g.E.Sink.tells c.args.io.now.err.now)
    (take i list) target mid_faults last had.later c.in_err-end.ensures.later mid_used is_used mid after s s_new
    c.loop-target.sum out out_new err err_new had.searched
    list (drop (i + 1) list) stop c.from_residual.result
    (list-parted list i c.target-item.result c.loop-target-test.true) same came

pub loop-target-preserved : goal.loop-target-preserved
loop-target-preserved g c =
    let plan = c.args.plan.now in
    let patterns = patterns_in c.args.patterns.now in
    let contents = (g.F.FileSet.tells c.args.io.now.files.now).contents in
    let first = (g.F.FileSet.tells c.args.io.now.files.now).faults in
    let mid_faults = (g.F.FileSet.tells c.loop-target.io.files.now).faults in
    let last = (g.F.FileSet.tells c.grep_target.new.io.files.now).faults in
    let list = c.args.list.now in
    let i = c.loop-target.target-index in
    let target = get_or list i c.target-item.result in
    let mid_used = c.loop-target.io.is_used in
    let is_used = c.grep_target.new.io.is_used in
    let mid = g.S.Source.tells c.loop-target.io.input.now in
    let after = g.S.Source.tells c.grep_target.new.io.input.now in
    let s = c.loop-target.state in
    let s_new = c.grep_target.new.state in
    let sum = c.loop-target.sum in
    let out = g.O.Sink.tells c.loop-target.io.out.now in
    let out_new = g.O.Sink.tells c.grep_target.new.io.out.now in
    let err = g.E.Sink.tells c.loop-target.io.err.now in
    let err_new = g.E.Sink.tells c.grep_target.new.io.err.now in
    let had = c.loop-target.invariant in
    let end = c.in_ok-end.end in
    let small : told_of end < 2 ^ 64 = search rules in
    let target_is : c.target-item.result ≡ target = c.target-item.is in
    let came =
    subst (λ x. ReportsTargetFrom plan patterns target x mid_faults last mid_used is_used mid after s s_new
    (printed out err) (printed out_new err_new) (Ok end)) had.files
    (subst (λ x. ReportsTargetFrom plan patterns x (g.F.FileSet.tells c.loop-target.io.files.now).contents mid_faults
    last mid_used is_used mid after s s_new (printed out err) (printed out_new err_new) (Ok end)) target_is
    c.in_ok-end.ensures.reports) in
    record {
      searched = searched-next plan patterns contents first c.args.io.now.is_used
          (g.S.Source.tells c.args.io.now.input.now) (g.O.Sink.tells c.args.io.now.out.now)
          (g.E.Sink.tells c.args.io.now.err.now)
          (take i list) target mid_faults last had.later c.in_ok-end.ensures.later mid_used is_used mid after s s_new
          sum out out_new err err_new had.searched end came
          (take (i + 1) list) c.added-sum.result (take_more list i c.target-item.result c.loop-target-test.true)
          c.added-sum.ensures;
      counts = counts-bound plan sum c.added-sum.result end i c.added-sum.ensures had.counts;
      total = total-bound plan sum c.added-sum.result end i c.added-sum.ensures had.total small;
      unused = subst (λ l. LeavesUnasked l (g.S.Source.tells c.args.io.now.input.now) after)
          (sym (take_more list i c.target-item.result c.loop-target-test.true))
          (unasked-join (take i list) (target ∷ []) (g.S.Source.tells c.args.io.now.input.now) mid after had.unused
          (unasked-uses target mid_used is_used mid after came.uses));
      streams = let one = c.in_ok-end.ensures.streams in let before = had.streams in
          (one.0 ∙ before.0, one.1 ∙ before.1, one.2 ∙ before.2, one.3 ∙ before.3);
      files = c.in_ok-end.ensures.files ∙ had.files;
      later = let one = c.in_ok-end.ensures.later in let before = had.later in omega (arith, one, before);
      filter = c.in_ok-end.ensures.filter;
    }

pub returns-clause-sums : goal.returns-clause-sums
returns-clause-sums g c =
    let plan = c.args.plan.now in
    let patterns = patterns_in c.args.patterns.now in
    let contents = (g.F.FileSet.tells c.args.io.now.files.now).contents in
    let was_used = c.args.io.now.is_used in
    let before = g.S.Source.tells c.args.io.now.input.now in
    let out_old = g.O.Sink.tells c.args.io.now.out.now in
    let err_old = g.E.Sink.tells c.args.io.now.err.now in
    let list = c.args.list.now in
    let is_used = c.loop-target.io.is_used in
    let after = g.S.Source.tells c.loop-target.io.input.now in
    let out = g.O.Sink.tells c.loop-target.io.out.now in
    let err = g.E.Sink.tells c.loop-target.io.err.now in
    let all : take c.loop-target.target-index list ≡ list = take_all c.loop-target.target-index list (omega arith) in
    searched-all plan patterns contents (g.F.FileSet.tells c.args.io.now.files.now).faults was_used before out_old
    err_old list (g.F.FileSet.tells c.loop-target.io.files.now).faults is_used after c.loop-target.state
    c.loop-target.sum out err
    (subst (λ l. Searched plan patterns contents (g.F.FileSet.tells c.args.io.now.files.now).faults was_used before
    out_old err_old l (g.F.FileSet.tells c.loop-target.io.files.now).faults is_used after c.loop-target.state
    c.loop-target.sum out err) all c.loop-target.invariant.searched)

pub returns-in_err-end-clause-unused : goal.returns-in_err-end-clause-unused
returns-in_err-end-clause-unused g c =
    let list = c.args.list.now in
    let i = c.loop-target.target-index in
    let target = get_or list i c.target-item.result in
    let mid_used = c.loop-target.io.is_used in
    let is_used = c.grep_target.new.io.is_used in
    let before = g.S.Source.tells c.args.io.now.input.now in
    let mid = g.S.Source.tells c.loop-target.io.input.now in
    let after = g.S.Source.tells c.grep_target.new.io.input.now in
    let uses = subst (λ t. Uses (is_standard t) mid_used is_used mid after) c.target-item.is
    c.in_err-end.ensures.reports.uses in
    let joined = unasked-join (take i list) (target ∷ []) before mid after c.loop-target.invariant.unused
    (unasked-uses target mid_used is_used mid after uses) in
    subst (λ l. LeavesUnasked l before after) (list-parted list i c.target-item.result c.loop-target-test.true)
    (unasked-front (take i list ++ target ∷ []) (drop (i + 1) list) before after after joined)

pub returns-clause-unused : goal.returns-clause-unused
returns-clause-unused g c =
    let list = c.args.list.now in
    let all : take c.loop-target.target-index list ≡ list = take_all c.loop-target.target-index list (omega arith) in
    subst (λ l. LeavesUnasked l (g.S.Source.tells c.args.io.now.input.now)
    (g.S.Source.tells c.loop-target.io.input.now)) all c.loop-target.invariant.unused
