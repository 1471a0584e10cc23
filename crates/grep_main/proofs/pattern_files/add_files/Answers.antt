use Rattle.std.proofs.Common.{rules, arith, ◌≡◌, ◌∙◌, Some, Err, refl, sym, subst}
use Rattle.std.specs.Prelude.{slice_get}
use Rattle.grep_main.specs.Adds.{AddsAllFrom}
use Rattle.grep_main.proofs.FilePatterns.{adds-none, adds-more, adds-stops, adds-halts, unasked-all, unasked-more}
use Rattle.grep_main.proofs.pattern_files.add_files.Goals as goal

pub loop-i-init : goal.loop-i-init
loop-i-init g c = record {
  files = refl;
  later = omega arith;
  unused = λ none. refl;
  adds = adds-none c.args.plan.now (g.F.FileSet.tells c.args.files.now).contents
      (g.F.FileSet.tells c.args.files.now).faults c.args.is_used.now (g.S.Source.tells c.args.input.now)
      c.args.texts.now (g.E.Sink.tells c.args.err.now);
}

pub returns-in_err-add_file-clause-adds : goal.returns-in_err-add_file-clause-adds
returns-in_err-add_file-clause-adds g c =
    let plan = c.args.plan.now in
    let contents = (g.F.FileSet.tells c.args.files.now).contents in
    let contents_now = (g.F.FileSet.tells c.loop-i.files).contents in
    let first = (g.F.FileSet.tells c.args.files.now).faults in
    let last = (g.F.FileSet.tells c.add_file.new.files).faults in
    let was_used = c.args.is_used.now in
    let is_used = c.add_file.new.is_used in
    let before = g.S.Source.tells c.args.input.now in
    let now = g.S.Source.tells c.loop-i.input in
    let after = g.S.Source.tells c.add_file.new.input in
    let old = c.args.texts.now in
    let new = c.add_file.new.texts in
    let err_old = g.E.Sink.tells c.args.err.now in
    let err_mid = g.E.Sink.tells c.loop-i.err in
    let err_new = g.E.Sink.tells c.add_file.new.err in
    let had = c.loop-i.invariant in
    let word = c.as_str-word.result.now in
    let at = subst (λ w. slice_get plan.pattern_files c.loop-i.i ≡ Some w) (sym c.as_str-word.ensures) c.get.ensures in
    let stop = c.in_err-add_file.field-0.0 in
    let same : c.from_residual.result ≡ Err stop = search rules in
    subst (AddsAllFrom plan contents first last was_used is_used before after old new err_old err_new) (sym same)
    (adds-halts plan contents contents_now first (g.F.FileSet.tells c.loop-i.files).faults last was_used
    c.loop-i.is_used is_used before now after c.loop-i.i word old c.loop-i.texts new err_old err_mid err_new at
    had.files had.later c.in_err-add_file.ensures.later had.adds stop c.in_err-add_file.ensures.adds)

pub returns-then-not-branch-clause-adds : goal.returns-then-not-branch-clause-adds
returns-then-not-branch-clause-adds g c =
    let plan = c.args.plan.now in
    let contents = (g.F.FileSet.tells c.args.files.now).contents in
    let contents_now = (g.F.FileSet.tells c.loop-i.files).contents in
    let before = g.S.Source.tells c.args.input.now in
    let now = g.S.Source.tells c.loop-i.input in
    let after = g.S.Source.tells c.add_file.new.input in
    let err_old = g.E.Sink.tells c.args.err.now in
    let err_mid = g.E.Sink.tells c.loop-i.err in
    let err_new = g.E.Sink.tells c.add_file.new.err in
    let had = c.loop-i.invariant in
    let word = c.as_str-word.result.now in
    let at = subst (λ w. slice_get plan.pattern_files c.loop-i.i ≡ Some w) (sym c.as_str-word.ensures) c.get.ensures in
    adds-stops plan contents contents_now (g.F.FileSet.tells c.args.files.now).faults
    (g.F.FileSet.tells c.loop-i.files).faults (g.F.FileSet.tells c.add_file.new.files).faults c.args.is_used.now
    c.loop-i.is_used c.add_file.new.is_used before now after c.loop-i.i word c.args.texts.now c.loop-i.texts
    c.add_file.new.texts err_old err_mid err_new at had.files had.later c.in_ok-add_file.ensures.later had.adds
    (rw c.if-not-branch.true at c.in_ok-add_file.ensures.adds)

pub loop-i-preserved : goal.loop-i-preserved
loop-i-preserved g c =
    let plan = c.args.plan.now in
    let contents = (g.F.FileSet.tells c.args.files.now).contents in
    let contents_now = (g.F.FileSet.tells c.loop-i.files).contents in
    let before = g.S.Source.tells c.args.input.now in
    let now = g.S.Source.tells c.loop-i.input in
    let after = g.S.Source.tells c.add_file.new.input in
    let err_old = g.E.Sink.tells c.args.err.now in
    let err_mid = g.E.Sink.tells c.loop-i.err in
    let err_new = g.E.Sink.tells c.add_file.new.err in
    let had = c.loop-i.invariant in
    let word = c.as_str-word.result.now in
    let at = subst (λ w. slice_get plan.pattern_files c.loop-i.i ≡ Some w) (sym c.as_str-word.ensures) c.get.ensures in
    record {
      files = c.in_ok-add_file.ensures.files ∙ had.files;
      later = let one = c.in_ok-add_file.ensures.later in let before = had.later in omega (arith, one, before);
      unused = unasked-more plan.pattern_files c.loop-i.i word at before now after had.unused
          c.in_ok-add_file.ensures.unused;
      adds = adds-more plan contents contents_now (g.F.FileSet.tells c.args.files.now).faults
          (g.F.FileSet.tells c.loop-i.files).faults (g.F.FileSet.tells c.add_file.new.files).faults c.args.is_used.now
          c.loop-i.is_used c.add_file.new.is_used before now after c.loop-i.i word c.args.texts.now c.loop-i.texts
          c.add_file.new.texts err_old err_mid err_new at had.files had.later c.in_ok-add_file.ensures.later had.adds
          (rw c.if-not-branch.false at c.in_ok-add_file.ensures.adds);
    }

pub returns-in_err-add_file-clause-unused : goal.returns-in_err-add_file-clause-unused
returns-in_err-add_file-clause-unused g c =
    let plan = c.args.plan.now in
    let word = c.as_str-word.result.now in
    let at = subst (λ w. slice_get plan.pattern_files c.loop-i.i ≡ Some w) (sym c.as_str-word.ensures) c.get.ensures in
    unasked-all plan.pattern_files c.loop-i.i word at (g.S.Source.tells c.args.input.now)
    (g.S.Source.tells c.loop-i.input) (g.S.Source.tells c.add_file.new.input) c.loop-i.invariant.unused
    c.in_err-add_file.ensures.unused

pub returns-then-not-branch-clause-unused : goal.returns-then-not-branch-clause-unused
returns-then-not-branch-clause-unused g c =
    let plan = c.args.plan.now in
    let word = c.as_str-word.result.now in
    let at = subst (λ w. slice_get plan.pattern_files c.loop-i.i ≡ Some w) (sym c.as_str-word.ensures) c.get.ensures in
    unasked-all plan.pattern_files c.loop-i.i word at (g.S.Source.tells c.args.input.now)
    (g.S.Source.tells c.loop-i.input) (g.S.Source.tells c.add_file.new.input) c.loop-i.invariant.unused
    c.in_ok-add_file.ensures.unused
