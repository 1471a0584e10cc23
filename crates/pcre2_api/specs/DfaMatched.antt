-- What a match by all ends answers (pcre2api, "Matching a pattern: the alternative function").
use Rattle.std.specs.Prelude.{◌≡◌, ◌≤◌, ℕ, length, Some, None}
use Rattle.pat_tree.specs.declared.options.PartialMode.TheVariants.{Off}
use Rattle.match_items.specs.Subjects.{IsTextPlace}
use Rattle.ordered_search.specs.Setting.{Setting}
use Rattle.dfa_drive.specs.dfa_ends.DfaAnswer as meant
use Rattle.dfa_drive.specs.dfa_ends.DfaAnswer.{EndsFrom, PartialFrom, dfa_answer}
use Rattle.dfa_drive.specs.dfa_graph.declared.making.GraphError.{GraphError}
use Rattle.dfa_drive.specs.dfa_graph.declared.making.GraphError.TheVariants as graph
use Rattle.dfa_drive.specs.dfa_graph.Served.{refusal}
use Rattle.dfa_drive.specs.Answer.{AreWithin}
use Rattle.pcre2_api.specs.Matched.{fault_in}
use Rattle.pcre2_errors.specs.declared.error.MatchError.{MatchError}
use Rattle.pcre2_errors.specs.declared.error.MatchError.TheVariants as beginning
use Rattle.pcre2_api.specs.declared.dfa.DfaFound.{DfaFound}
use Rattle.pcre2_errors.specs.declared.dfa_error.DfaError.{DfaError}
use Rattle.pcre2_errors.specs.declared.dfa_error.DfaError.TheVariants as told

-- The pattern is refused for this; no match is looked for.
pub record IsBarred (g : Setting) (e : GraphError) : Type 0 where
  pub begun : fault_in g ≡ None
  pub refused : refusal g.whole ≡ Some e

-- a match is looked for, and this is the answer
pub record IsAnswered (g : Setting) (a : meant.DfaAnswer) : Type 0 where
  pub begun : fault_in g ≡ None
  pub served : refusal g.whole ≡ None
  pub answer : dfa_answer g g.matching.dfa_shortest ≡ a

-- and the ends lie in the subject
abbrev pub IsDfaFound : Setting → DfaFound → Type 0
IsDfaFound g f =
    IsAnswered g (EndsFrom f.start f.ends) × AreWithin f.start (length g.subject) f.ends

-- A partial match is looked for, and this is the answer. It goes from a place at the start or past
-- it to the subject's end.
pub record IsPartly (g : Setting) (start end : ℕ) : Type 0 where
  pub asked : g.matching.«partial» ≡ Off → ⊥
  pub answered : IsAnswered g (PartialFrom start)
  pub from : g.start ≤ start
  pub place : IsTextPlace g.options g.subject start
  pub to : end ≡ length g.subject

-- Why there is no match: each refusal has its cause. Want of memory may come at any time.
abbrev pub IsDfaError : Setting → DfaError → Type 0
IsDfaError g told.BadOffset = fault_in g ≡ Some beginning.BadOffset
IsDfaError g (told.BadUtf at) = fault_in g ≡ Some (beginning.BadUtf at)
IsDfaError g told.BadUtfOffset = fault_in g ≡ Some beginning.BadUtfOffset
IsDfaError g told.Item = IsBarred g graph.Item
IsDfaError g told.Cond = IsBarred g graph.Cond
IsDfaError g told.TooLarge = IsBarred g graph.TooLarge
IsDfaError g told.NoMatch = IsAnswered g meant.NoMatch
IsDfaError g (told.Partial start end) = IsPartly g start end
IsDfaError g told.Memory = Unit {0}

-- why a match can't begin at a start
abbrev pub start_error_of : MatchError → DfaError
start_error_of (beginning.BadUtf at) = told.BadUtf at
start_error_of beginning.BadUtfOffset = told.BadUtfOffset
start_error_of _ = told.BadOffset
