pub use Rattle.match_starts.proofs.search_needs as search_needs
mod Left
mod NoneTold
mod Excluded
mod Steps
mod PastPlaces
mod Shown
mod Walk
mod PastBegin
mod BeginText
mod PastRun
mod Needless
pub mod Both
mod Failing
