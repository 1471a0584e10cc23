pub mod Folds
pub mod ItemRuns
pub mod Longest
pub mod Newlines
pub mod OneItem
pub mod Texts
pub mod TextGround
pub mod TextPlaces
pub mod TextRefs
pub mod TextRuns
pub mod Places
pub mod PlainRuns
pub mod Words
mod RowProofs
