use Rattle.std.proofs.Common.{◌-◌, ◌^◌}
use Rattle.grep_main.proofs.FilePatterns.{Adding}
use Rattle.grep_main.proofs.pattern_files.add_lines.Given as goal

abbrev pub invariant-line : goal.invariant-line
invariant-line g l = Adding l.max (g.S.Source.tells l.initial.source) (g.S.Source.tells l.source) l.feed
    l.initial.texts l.texts

abbrev pub decreases-line : goal.decreases-line
decreases-line g l = 2 ^ 40 - l.feed.offset
