use Rattle.std.proofs.Common.{◌≡◌, ◌≤◌, ◌*◌, ◌^◌, take, IfSome}
use Rattle.grep_core.specs.grep_match.Compiled.{patterns_in}
use Rattle.grep_core.specs.grep_watch.Filtered.{Filters}
use Rattle.grep_main.specs.Leaves.{LeavesUnasked}
use Rattle.grep_main.specs.Stages.{AreSame}
use Rattle.grep_main.proofs.Summing.{Searched}
use Rattle.grep_main.proofs.grep.sum_listed.Given as goal

abbrev pub invariant-loop-target : goal.invariant-loop-target
invariant-loop-target g l = record {
  searched : Searched l.plan (patterns_in l.patterns) (g.F.FileSet.tells l.initial.io.files.now).contents
      (g.F.FileSet.tells l.initial.io.files.now).faults l.initial.io.is_used (g.S.Source.tells l.initial.io.input.now)
      (g.O.Sink.tells l.initial.io.out.now) (g.E.Sink.tells l.initial.io.err.now)
      (take l.target-index l.list) (g.F.FileSet.tells l.io.files.now).faults l.io.is_used
      (g.S.Source.tells l.io.input.now) l.state l.sum (g.O.Sink.tells l.io.out.now) (g.E.Sink.tells l.io.err.now);
  counts : l.sum.counts ≤ l.target-index;
  total : l.sum.total ≤ l.target-index * 2 ^ 64;
  unused : LeavesUnasked (take l.target-index l.list) (g.S.Source.tells l.initial.io.input.now)
      (g.S.Source.tells l.io.input.now);
  streams : AreSame l.initial.io l.io;
  files : (g.F.FileSet.tells l.io.files.now).contents ≡ (g.F.FileSet.tells l.initial.io.files.now).contents;
  later : (g.F.FileSet.tells l.initial.io.files.now).faults ≤ (g.F.FileSet.tells l.io.files.now).faults;
  filter : IfSome l.filter (Filters l.plan (patterns_in l.patterns));
}
