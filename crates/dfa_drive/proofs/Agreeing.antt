-- What is answered agrees with the ordered search.
use Rattle.std.proofs.Common.{◌≡◌, ℕ, Bool, true, false, List}
use Rattle.pat_tree.specs.declared.options.PartialMode.TheVariants.{Off}
use Rattle.ordered_search.specs.Setting.{Setting}
use Rattle.ordered_search.specs.Stream.{first_state, exhausted}
use Rattle.ordered_search.specs.Run.{run}
use Rattle.ordered_search.specs.Laws.{ending}
use Rattle.dfa_ends.specs.DfaAnswer.{EndsFrom, dfa_answer}
use Rattle.dfa_ends.specs.TwoMatchers.{IsCommon, with_frame_limit}
use Rattle.dfa_ends.proofs.AnswerLaw.{answer_law}
use Rattle.dfa_drive.specs.declared.answer.DfaAnswer.{DfaAnswer}
use Rattle.dfa_drive.specs.declared.answer.DfaAnswer.TheVariants.{Ends, NoMatch, Partial}
use Rattle.dfa_drive.specs.Answer.{IsDfaAnswer}
use Rattle.dfa_drive.specs.Agreement.{AreThose, AgreeFrom, Agrees}

module _ (g : Setting) where
  those : (shortest : Bool) (p : ℕ) (ends : List ℕ) → dfa_answer g shortest ≡ EndsFrom p ends →
      g.matching.«partial» ≡ Off → IsCommon g.whole → (d limit : ℕ) →
      ending (run (with_frame_limit limit g) d g.whole (first_state g.groups p)) ≡ exhausted →
      AreThose shortest g p
      (run (with_frame_limit limit g) d g.whole (first_state g.groups p)) ends
  those true p ends is off common d limit done = answer_law.shortest g off common d limit p ends is done
  those false p ends is off common d limit done = answer_law.all g off common d limit p ends is done

  pub agree_from : (p : ℕ) (ends : List ℕ) → dfa_answer g g.matching.dfa_shortest ≡ EndsFrom p ends →
      AgreeFrom g p ends
  agree_from p ends is = those g.matching.dfa_shortest p ends is

  pub agrees : (told : DfaAnswer) → IsDfaAnswer (dfa_answer g g.matching.dfa_shortest) told → Agrees g told
  agrees (Ends start ends) is = agree_from start ends is
  agrees NoMatch is = tt
  agrees (Partial start) is = tt
