use Rattle.std.proofs.Common.{◌≡◌, IfSome}
use Rattle.std.specs.Str.{is_utf8}
use Rattle.grep_match.specs.Compiled.{patterns_in}
use Rattle.grep_match.proofs.Searching.{IsOn}
use Rattle.grep_match.proofs.search.later.Given as goal

abbrev pub invariant-loop-turn : goal.invariant-loop-turn
invariant-loop-turn l =
    IsOn l.plan (patterns_in l.patterns) l.line l.initial.start l.initial.work.found l.work.found l._turn l.start
    × IfSome l.work.utf8 (λ b. b ≡ is_utf8 l.line)
