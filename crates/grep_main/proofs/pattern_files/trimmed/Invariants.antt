use Rattle.std.proofs.Common.{◌≡◌, length}
use Rattle.grep_main.specs.PatternFiles.{trimmed}
use Rattle.grep_main.proofs.pattern_files.trimmed.Given as goal

abbrev pub invariant-byte : goal.invariant-byte
invariant-byte l = trimmed l.rest ≡ trimmed l.line

abbrev pub decreases-byte : goal.decreases-byte
decreases-byte l = length l.rest
