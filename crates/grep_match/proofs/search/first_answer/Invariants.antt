use Rattle.std.proofs.Common.{◌≡◌, drop, IfSome}
use Rattle.std.specs.Str.{is_utf8}
use Rattle.grep_match.specs.Compiled.{meant}
use Rattle.grep_match.specs.Matches.{first_answer}
use Rattle.grep_match.proofs.search.first_answer.Given as goal

abbrev pub invariant-loop-kept : goal.invariant-loop-kept
invariant-loop-kept l = record {
  rest : first_answer l.options l.line l.start (meant l.patterns.options (drop l.kept-index l.patterns.kept))
      ≡ first_answer l.options l.line l.start (meant l.patterns.options l.patterns.kept);
  list : l.work.found ≡ l.initial.work.found;
  known : IfSome l.work.utf8 (λ b. b ≡ is_utf8 l.line);
}
