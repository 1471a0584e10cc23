use Rattle.std.proofs.Common.{◌≡◌, length}
use denote.Shadow.{shadow}
use denote.Text.{Utf8}
use Rattle.grep_targets.specs.Paths.{without_slashes}
use Rattle.grep_targets.proofs.paths.without_slashes.Given as goal

abbrev pub invariant-slash : goal.invariant-slash
invariant-slash l = record {
  rest : without_slashes l.rest ≡ without_slashes l.word;
  text : shadow (Utf8 l.rest);
}

abbrev pub decreases-slash : goal.decreases-slash
decreases-slash l = length l.rest
