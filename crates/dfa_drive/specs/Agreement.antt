-- What a search for all ends says of the ordered search (pcre2matching, "The alternative matching
-- algorithm").
use Rattle.std.specs.Prelude.{◌≡◌, ℕ, Bool, true, false, List}
use Rattle.pat_tree.specs.declared.options.PartialMode.TheVariants.{Off}
use Rattle.ordered_search.specs.Setting.{Setting}
use Rattle.ordered_search.specs.Stream.{first_state, exhausted, Stream}
use Rattle.ordered_search.specs.Run.{run}
use Rattle.ordered_search.specs.Laws.{ending}
use Rattle.dfa_ends.specs.TwoMatchers.{IsCommon, with_frame_limit}
use Rattle.dfa_ends.specs.Answered.{AreAnswered, IsLeastAnswered}
use Rattle.dfa_drive.specs.declared.answer.DfaAnswer.{DfaAnswer}
use Rattle.dfa_drive.specs.declared.answer.DfaAnswer.TheVariants.{Ends, NoMatch, Partial}

-- the ends are the admitted places of the stream's states, or under DFA_SHORTEST the least of them
abbrev pub AreThose : Bool → Setting → ℕ → Stream → List ℕ → Type 0
AreThose true g p x ends = IsLeastAnswered g p x ends
AreThose false g p x ends = AreAnswered g p x ends

-- For a pattern of forms that both matchers have, and without partial matching, the ends from a place
-- are those of the ordered search there, where it runs to its end with some depth and some frame
-- limit.
abbrev pub AgreeFrom : Setting → ℕ → List ℕ → Type 0
AgreeFrom g p ends =
    g.matching.«partial» ≡ Off → IsCommon g.whole → (d limit : ℕ) →
    ending (run (with_frame_limit limit g) d g.whole (first_state g.groups p)) ≡ exhausted →
    AreThose g.matching.dfa_shortest g p
    (run (with_frame_limit limit g) d g.whole (first_state g.groups p)) ends

-- so do those that are told
abbrev pub Agrees : Setting → DfaAnswer → Type 0
Agrees g (Ends start ends) = AgreeFrom g start ends
Agrees g NoMatch = Unit {0}
Agrees g (Partial start) = Unit {0}
