pub mod EntryLemmas
pub mod UndoLemmas
pub mod StackLemmas
pub mod GainLemmas
