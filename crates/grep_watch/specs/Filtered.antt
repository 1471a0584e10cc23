-- Filters, which find the first line that may have a match.
use Rattle.std.specs.Prelude.{◌≡◌, ℕ, ◌<◌, ◌≤◌, List, [], length, true, Ok}
use Rattle.regex_hir.specs.Re.{Re}
use Rattle.regex_hir.specs.Matches.{Matches}
use Rattle.regex_hir.specs.Meaning.{meaning}
use Rattle.pat_tree.specs.Pattern.{Pattern}
use Rattle.grep_args.specs.declared.plan.GrepPlan.{GrepPlan}
use Rattle.grep_match.specs.Matches.{matches}
use Rattle.grep_match.specs.Wider.{HasOne, IsWiderBy, IsExactBy}
use Rattle.grep_watch.specs.declared.filter.Sieve.{Sieve}
use Rattle.grep_watch.specs.declared.filter.Filter.{Filter}
use Rattle.grep_watch.specs.declared.filter.Known.{Known}
use Rattle.grep_watch.specs.declared.filter.Known.TheVariants.{Nothing, NoMatch, Match}

-- a line in which no match of its expression begins has no match of the patterns, and where it is exact one in which
-- one begins has a match
pub record Sifts (plan : GrepPlan) (patterns : List Pattern) (s : Sieve) : Type 0 where
  pub wider : IsWiderBy plan patterns (meaning s.program.hir) s.most s.utf
  pub exact : s.is_exact ≡ true → IsExactBy plan patterns (meaning s.program.hir) s.most s.utf

pub record Filters (plan : GrepPlan) (patterns : List Pattern) (f : Filter) : Type 0 where
  pub wider : IsWiderBy plan patterns (meaning f.searcher.program.now.hir) f.most f.utf
  pub exact : f.is_exact ≡ true → IsExactBy plan patterns (meaning f.searcher.program.now.hir) f.most f.utf

-- what is known of the matches of a line
abbrev pub IsKnown : GrepPlan → List Pattern → List ℕ → Known → Type 0
IsKnown plan patterns line Nothing = Unit {0}
IsKnown plan patterns line NoMatch = matches plan patterns line ≡ Ok []
IsKnown plan patterns line Match = HasOne plan patterns line

-- it searches for the same
pub record IsSame (f g : Filter) : Type 0 where
  pub hir : g.searcher.program.now.hir ≡ f.searcher.program.now.hir
  pub most : g.most ≡ f.most
  pub utf : g.utf ≡ f.utf
  pub exact : g.is_exact ≡ f.is_exact

-- no match of the expression begins before that place
pub record Begins (re : Re) (held : List ℕ) (at : ℕ) : Type 0 where
  pub within : at ≤ length held
  pub none : (i j : ℕ) → i < at → ¬ Matches held re i j
