use Rattle.std.proofs.Common.{◌≡◌, ◌≤◌, map, take}
use Rattle.tool_io.specs.Asked.{named_target}
use Rattle.grep_main.specs.Leaves.{LeavesUnasked}
use Rattle.grep_main.proofs.FilePatterns.{AddsFiles}
use Rattle.grep_main.proofs.pattern_files.add_files.Given as goal

-- the patterns of the files so far were added
abbrev pub invariant-loop-i : goal.invariant-loop-i
invariant-loop-i g l = record {
  files : (g.F.FileSet.tells l.files).contents ≡ (g.F.FileSet.tells l.initial.files).contents;
  later : (g.F.FileSet.tells l.initial.files).faults ≤ (g.F.FileSet.tells l.files).faults;
  unused : LeavesUnasked (map named_target (take l.i l.plan.pattern_files)) (g.S.Source.tells l.initial.input)
      (g.S.Source.tells l.input);
  adds : AddsFiles l.plan (g.F.FileSet.tells l.initial.files).contents (g.F.FileSet.tells l.initial.files).faults
      (g.F.FileSet.tells l.files).faults l.initial.is_used l.is_used (g.S.Source.tells l.initial.input)
      (g.S.Source.tells l.input) (take l.i l.plan.pattern_files)
      l.initial.texts l.texts (g.E.Sink.tells l.initial.err) (g.E.Sink.tells l.err);
}
