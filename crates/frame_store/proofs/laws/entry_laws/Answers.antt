use Rattle.frame_store.proofs.EntryLemmas.{entry_of-undo, entry_kind-entry_of, entry_of-other, taken_back-not_undo}
use Rattle.frame_store.proofs.laws.entry_laws.Goals as goal

pub returns-clause-known : goal.returns-clause-known
returns-clause-known c = entry_kind-entry_of

pub returns-clause-other : goal.returns-clause-other
returns-clause-other c = entry_of-other

pub returns-clause-undo : goal.returns-clause-undo
returns-clause-undo c = entry_of-undo

pub returns-clause-no_undo : goal.returns-clause-no_undo
returns-clause-no_undo c = taken_back-not_undo
