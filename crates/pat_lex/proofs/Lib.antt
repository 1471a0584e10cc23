pub mod CharacterLemmas
pub mod RowProofs
pub mod LawProofs
pub mod Moving
pub mod Marks
pub mod Standing
