pub use Rattle.search_needs.proofs as search_needs
pub mod Leads
pub mod TextSteps
pub mod PastPrefix
pub mod PastRepeats
pub mod OpenSpans
pub mod PastSpans
pub mod PastWhole
