pub use Rattle.pat_bounds.proofs as pat_bounds
mod LetterLemmas
pub mod NeedLemmas
pub mod EarlyLemmas
pub mod TextLemmas
pub mod ChoiceLemmas
