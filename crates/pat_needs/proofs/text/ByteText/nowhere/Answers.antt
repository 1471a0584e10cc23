use Rattle.pat_needs.proofs.TextLemmas.{clash}
use Rattle.pat_needs.proofs.text.ByteText.nowhere.Goals as goal

pub returns : goal.returns
returns c bytes k h = clash _ h.1.0 (c.empty.ensures _)
