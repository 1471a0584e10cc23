-- Without partial matching no partial match is told.
use Rattle.std.proofs.Common.{◌≡◌}
use Rattle.pat_tree.specs.declared.options.PartialMode.TheVariants.{Off}
use Rattle.frame_store.specs.Captures.{Captures}
use Rattle.ordered_search.specs.Setting.{Setting}
use Rattle.ordered_search.specs.MatchAnswer.{match_answer}
use Rattle.ordered_search.proofs.NoPartial.{no_partial}
use Rattle.match_drive.specs.declared.answer.MatchAnswer.{MatchAnswer}
use Rattle.match_drive.specs.declared.answer.MatchAnswer.TheVariants as answer
use Rattle.match_drive.specs.Answer.{IsMatchAnswer, IsNotPartial}

pub none_told : (g : Setting) → g.matching.«partial» ≡ Off → (answer : MatchAnswer) (caps : Captures)
    → IsMatchAnswer answer caps (match_answer g) → IsNotPartial answer
none_told g off (answer.Partial start mark) caps is = no_partial g off start is.0
none_told g off (answer.Match keep to mark) caps is = tt
none_told g off (answer.NoMatch mark) caps is = tt
none_told g off answer.MatchLimit caps is = tt
none_told g off answer.FrameLimit caps is = tt
none_told g off answer.RecurseLoop caps is = tt
none_told g off (answer.Callout n) caps is = tt
none_told g off answer.Memory caps is = tt
