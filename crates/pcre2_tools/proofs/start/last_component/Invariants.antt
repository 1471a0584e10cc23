use Rattle.std.proofs.Common.{◌≡◌, length}
use denote.Shadow.{shadow}
use denote.Text.{Utf8}
use Rattle.pcre2_tools.specs.Start.{last_component}
use Rattle.pcre2_tools.proofs.start.last_component.Given as goal

abbrev pub invariant-slash : goal.invariant-slash
invariant-slash l = record {
  last : last_component l.rest ≡ last_component l.path;
  text : shadow (Utf8 l.rest);
}

abbrev pub decreases-slash : goal.decreases-slash
decreases-slash l = length l.rest
